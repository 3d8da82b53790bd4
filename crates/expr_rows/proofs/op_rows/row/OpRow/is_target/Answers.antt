use Rattle.std.proofs.Common.{sym, ◌∙◌}
use Rattle.c_ops.proofs.Lasts.{read_last}
use Rattle.c_nodes.specs.Sized.{expr}
use Rattle.expr_rows.proofs.OpRows.Stacks.{accepts_newest, kept_last, joined_last}
use Rattle.expr_rows.proofs.op_rows.row.OpRow.is_target.Goals as goal

-- where the newest operator goes on, an assignment may follow just if the last operand is a unary form
pub returns-then-continues : goal.returns-then-continues
returns-then-continues c =
    let ws = c.args.self.now.waiting.items in
    let e = expr c.args.self.now.last in
    let newest = read_last ws c.deref.result.now c.last.result c.in-Some.newest c.deref.ensures.value
    c.last.ensures.value c.in-Some.is in
    let goes_on = accepts_newest ws c.in-Some.newest.now 1 newest (sym c.continues.ensures ∙ c.if-continues.true) in
    cc (c.is_unary.ensures, c.deref-then-continues.ensures, kept_last ws e 1 goes_on)

-- where the newest operator ends, no assignment may follow, as its tree is no unary form
pub returns-else-continues : goal.returns-else-continues
returns-else-continues c =
    let ws = c.args.self.now.waiting.items in
    let e = expr c.args.self.now.last in
    let newest = read_last ws c.deref.result.now c.last.result c.in-Some.newest c.deref.ensures.value
    c.last.ensures.value c.in-Some.is in
    c.if-continues.false
    ∙ sym (joined_last ws c.in-Some.newest.now e 1 newest (sym c.continues.ensures ∙ c.if-continues.false))
