use Rattle.row_laws.proofs.Units.{units_leave_nothing}
use Rattle.row_laws.proofs.laws.units_leave_nothing.Goals as goal

pub returns : goal.returns
returns c = units_leave_nothing
