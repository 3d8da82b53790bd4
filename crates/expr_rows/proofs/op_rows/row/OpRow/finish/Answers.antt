use Rattle.std.proofs.lemmas.Result.{IfOk-weaker}
use Rattle.c_nodes.specs.Sized.{expr}
use Rattle.expr_rows.specs.OpRows.Rows.{settled_at}
use Rattle.expr_rows.proofs.OpRows.Stacks.{finished_all}
use Rattle.expr_rows.proofs.op_rows.row.OpRow.finish.Goals as goal

-- the tree that all joins leave is that of the finished row
pub returns : goal.returns
returns c =
    let ws = c.args.self.waiting.items in
    let e = expr c.args.self.last in
    IfOk-weaker c.settle.result _ _
    (λ made is. finished_all ws e (settled_at c.settle.new.waiting.items (expr made)) is) c.settle.ensures
