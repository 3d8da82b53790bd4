use Rattle.std.proofs.Common.{◌∙◌, ap}
use Rattle.c_ops.specs.Joining.{Stack}
use Rattle.c_nodes.specs.Sized.{expr}
use Rattle.c_reading.specs.Expressing.{OperandRow}
use Rattle.expr_rows.specs.declared.op_rows.waiting.Waiting.{Waiting}
use Rattle.expr_rows.specs.OpRows.Rows.{stack_of}
use Rattle.expr_rows.proofs.OpRows.Stacks.{stack_of-push}
use Rattle.expr_rows.proofs.op_rows.row.OpRow.put.Goals as goal

-- a row with an operator and operand put on it waits with the last operand and the operator
pub returns-in-Ok : goal.returns-in-Ok
returns-in-Ok c =
    let newest : Waiting = record { left = c.args.self.last; op = c.args.op; token = c.args.token } in
    let row_on : Stack → OperandRow = λ s. record { waiting = s; last = expr c.args.operand } in
    ap row_on (ap stack_of c.in-Ok.ensures.items ∙ stack_of-push c.args.self.waiting.items newest)
