use Rattle.row_laws.proofs.Units.{rows_are_found}
use Rattle.row_laws.proofs.laws.rows_are_found.Goals as goal

pub returns : goal.returns
returns c = rows_are_found
