use Rattle.row_laws.proofs.StartLaws.Selections.{selections_are_found}
use Rattle.row_laws.proofs.start_laws.laws.selections_are_found.Goals as goal

pub returns : goal.returns
returns c = selections_are_found c.shapes_are_left.ensures c.addressed_are_left.ensures c.old_names_are_left.ensures
