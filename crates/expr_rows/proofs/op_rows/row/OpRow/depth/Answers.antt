use Rattle.std.proofs.Common.{◌≡◌, ◌+◌, suc, length, refl, ◌∙◌, ap, arith}
use Rattle.c_tree.specs.Capped.{capped}
use Rattle.c_reading.specs.Expressing.{how_many}
use Rattle.expr_rows.specs.OpRows.Rows.{stack_of}
use Rattle.expr_rows.proofs.OpRows.Stacks.{how_many_wait}
use Rattle.expr_rows.proofs.op_rows.row.OpRow.depth.Goals as goal

-- the depth of a row is the number of operands that wait, and one for the last
pub returns : goal.returns
returns c =
    let ws = c.args.self.now.waiting.items in
    let count : length ws + 1 ≡ suc (how_many (stack_of ws)) = omega (arith, how_many_wait ws) in
    c.sum_of.ensures (length ws) 1
    (c.count_of.ensures ∙ ap capped (c.len.ensures ∙ (c.args.self.now.waiting.ok).0)) refl ∙ ap capped count
