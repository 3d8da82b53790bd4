use Rattle.renaming_laws.proofs.Alike.{renamed_is_alike}
use Rattle.renaming_laws.proofs.laws.renamed_is_alike.Goals as goal

pub returns : goal.returns
returns c = renamed_is_alike
