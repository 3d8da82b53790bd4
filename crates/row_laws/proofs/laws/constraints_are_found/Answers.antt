use Rattle.row_laws.proofs.Units.{constraints_are_found}
use Rattle.row_laws.proofs.laws.constraints_are_found.Goals as goal

pub returns : goal.returns
returns c = constraints_are_found
