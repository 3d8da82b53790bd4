use Rattle.row_laws.proofs.Units.{values_are_left}
use Rattle.row_laws.proofs.laws.values_are_left.Goals as goal

pub returns : goal.returns
returns c = values_are_left
