use Rattle.renaming_laws.proofs.Seen.{some_are_renamed}
use Rattle.renaming_laws.proofs.laws.some_are_renamed.Goals as goal

pub returns : goal.returns
returns c = some_are_renamed
