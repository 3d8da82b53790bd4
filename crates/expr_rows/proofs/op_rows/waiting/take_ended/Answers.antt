use Rattle.std.proofs.Common.{refl, sym, ◌∙◌}
use Rattle.c_ops.proofs.Lasts.{read_last}
use Rattle.expr_rows.proofs.OpRows.Stacks.{accepts_newest}
use Rattle.expr_rows.proofs.op_rows.waiting.take_ended.Goals as goal

-- the newest stays where its right operand goes on with an operator of the level
pub returns-then-continues : goal.returns-then-continues
returns-then-continues c =
    let ws = c.args.waiting.now.items in
    let newest = read_last ws c.deref.result.now c.last.result c.in_ok-newest.newest c.deref.ensures.value
    c.last.ensures.value c.in_ok-newest.was in (
      refl,
      accepts_newest ws c.in_ok-newest.newest.now c.args.level newest (sym c.continues.ensures ∙ c.if-continues.true),
    )
