use Rattle.renaming_laws.proofs.Turning.{renamed_turns}
use Rattle.renaming_laws.proofs.laws.renamed_turns.Goals as goal

pub returns : goal.returns
returns c = renamed_turns
