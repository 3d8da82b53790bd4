use Rattle.resolve_laws.proofs.ShapeLaws.Units.{old_names_are_left}
use Rattle.resolve_laws.proofs.shape_laws.laws.old_names_are_left.Goals as goal

pub returns : goal.returns
returns c = old_names_are_left
