use Rattle.resolve_laws.proofs.ShapeLaws.Units.{faults_are_found}
use Rattle.resolve_laws.proofs.shape_laws.laws.faults_are_found.Goals as goal

pub returns : goal.returns
returns c = faults_are_found
