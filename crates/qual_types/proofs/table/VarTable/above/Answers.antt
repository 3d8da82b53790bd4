use Rattle.qual_types.proofs.Laws.{above_stands}
use Rattle.qual_types.proofs.table.VarTable.above.Goals as goal

pub returns-in-Some : goal.returns-in-Some
returns-in-Some c = rw c.above.ensures (above_stands _ _ _ c.in-Some.ensures)
