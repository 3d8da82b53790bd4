use Rattle.row_laws.proofs.StartLaws.Units.{starts_of_program_are_found}
use Rattle.row_laws.proofs.start_laws.laws.starts_of_program_are_found.Goals as goal

pub returns : goal.returns
returns c = starts_of_program_are_found c.starts_are_found.ensures
