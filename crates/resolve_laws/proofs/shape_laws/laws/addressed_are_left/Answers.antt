use Rattle.resolve_laws.proofs.ShapeLaws.Units.{addressed_are_left}
use Rattle.resolve_laws.proofs.shape_laws.laws.addressed_are_left.Goals as goal

pub returns : goal.returns
returns c = addressed_are_left
