use Rattle.resolve_laws.proofs.ShapeLaws.Units.{none_is_found}
use Rattle.resolve_laws.proofs.shape_laws.laws.none_is_found.Goals as goal

pub returns : goal.returns
returns c = none_is_found
