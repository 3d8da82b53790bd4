use Rattle.resolve_laws.proofs.ShapeLaws.Units.{first_fault_is_found}
use Rattle.resolve_laws.proofs.shape_laws.laws.first_fault_is_found.Goals as goal

pub returns : goal.returns
returns c = first_fault_is_found
