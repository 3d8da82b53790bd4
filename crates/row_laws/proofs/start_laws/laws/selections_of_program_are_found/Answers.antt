use Rattle.row_laws.proofs.StartLaws.Selections.{selections_of_program_are_found}
use Rattle.row_laws.proofs.start_laws.laws.selections_of_program_are_found.Goals as goal

pub returns : goal.returns
returns c = selections_of_program_are_found c.selections_are_found.ensures
