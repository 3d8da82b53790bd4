use Rattle.std.proofs.Common.{arith}
use Rattle.qual_types.proofs.Seeing.{row_stands, past_is}
use Rattle.qual_types.proofs.table.VarTable.row.Goals as goal

pub returns-then-number-len : goal.returns-then-number-len
returns-then-number-len c = row_stands _ _ _ c.there.ensures.held c.there.ensures.there

pub returns-else-number-len : goal.returns-else-number-len
returns-else-number-len c = past_is _ _ (grind arith)
