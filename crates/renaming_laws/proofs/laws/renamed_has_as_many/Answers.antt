use Rattle.renaming_laws.proofs.Counting.{renamed_has_as_many}
use Rattle.renaming_laws.proofs.laws.renamed_has_as_many.Goals as goal

pub returns : goal.returns
returns c = renamed_has_as_many
