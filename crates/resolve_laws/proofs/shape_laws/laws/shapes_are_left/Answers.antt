use Rattle.resolve_laws.proofs.ShapeLaws.Units.{shapes_are_left}
use Rattle.resolve_laws.proofs.shape_laws.laws.shapes_are_left.Goals as goal

pub returns : goal.returns
returns c = shapes_are_left
