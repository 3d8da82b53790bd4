use Rattle.type_table.proofs.Growing.{row_stands}
use Rattle.type_table.proofs.table.TypeTable.row.Goals as goal

pub returns-then-number-len : goal.returns-then-number-len
returns-then-number-len c = row_stands _ _ _ c.there.ensures.made c.there.ensures.there
