use Rattle.resolve_laws.proofs.ShapeLaws.Units.{units_leave_nothing}
use Rattle.resolve_laws.proofs.shape_laws.laws.units_leave_nothing.Goals as goal

pub returns : goal.returns
returns c = units_leave_nothing
