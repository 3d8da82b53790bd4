-- The row of operands and operators that a value of the program is.
use Rattle.std.specs.Prelude.{◌≡◌, ℕ, ◌<◌, ◌+◌, List, [], ◌∷◌, ◌++◌, Option, None, Some, Result, IfOk}
use Rattle.qual_base.specs.declared.faults.NoMemory.{NoMemory}
use Rattle.c_tree.specs.Tree.{Expr, Operator, operation}
use Rattle.c_tree.specs.Height.{expr_height}
use Rattle.c_tree.specs.Levels.{right_level}
use Rattle.c_nodes.specs.declared.sized.SizedExpr.{SizedExpr}
use Rattle.c_nodes.specs.Sized.{expr}
use Rattle.c_ops.specs.Op.{operator_of}
use Rattle.c_ops.specs.Joining.{Left, Stack, bottom, above, Settled, settle_of, Accepts}
use Rattle.c_reading.specs.Expressing.{OperandRow, depth_of, with_operand}
use Rattle.expr_rows.specs.declared.op_rows.op.SizedOp.{SizedOp}
use Rattle.expr_rows.specs.declared.op_rows.waiting.Waiting.{Waiting}
use Rattle.expr_rows.specs.declared.op_rows.row.OpRow.{OpRow}

-- the operator of a sized one
abbrev pub operator : SizedOp → Operator
operator op = operator_of op.op

-- a left operand that waits
abbrev pub left_of : Waiting → Left
left_of w = record { tree = expr w.left; operator = operator w.op; token = w.token }

-- the same with its right operand
abbrev pub joined : Waiting → Expr → Expr
joined w e = operation (expr w.left) (operator w.op) w.token e

-- those that wait, the newest last
abbrev pub stack_from : Stack → List Waiting → Stack
stack_from s [] = s
stack_from s (w ∷ ws) = stack_from (above s (left_of w)) ws

-- left operands that wait, in a list whose newest comes last
abbrev pub stack_of : List Waiting → Stack
stack_of ws = stack_from bottom ws

-- the newest was taken, or its right operand goes on with an operator of the level
abbrev pub IsTaken : ℕ → List Waiting → Option Waiting → List Waiting → Type 0
IsTaken level before None after = (after ≡ before) × Accepts (stack_of before) level
IsTaken level before (Some w) after = (before ≡ after ++ w ∷ []) × (level < right_level (operator w.op))

-- what waits, with a last operand
abbrev pub settled_at : List Waiting → Expr → Settled
settled_at ws e = record { below = stack_of ws; last = e }

-- where there is memory, all is joined that an operator of the level ends
abbrev pub Settles : ℕ → List Waiting → Expr → Result SizedExpr NoMemory → List Waiting → Type 0
Settles level before e result after = IfOk result (λ f. settled_at after (expr f) ≡ settle_of level (stack_of before) e)

-- the operands that wait, and the last one
abbrev pub row_of : OpRow → OperandRow
row_of row = record { waiting = stack_of row.waiting.items; last = expr row.last }

-- the same where the last one is the left operand of what comes next
abbrev pub settled_of : OpRow → Settled
settled_of row = settled_at row.waiting.items (expr row.last)

-- the least height of a tree in which an operator and its right operand come next
abbrev pub least_height : Settled → ℕ
least_height left = depth_of left + expr_height left.last

-- a row with an operator and the operand behind it
abbrev pub row_with : OpRow → SizedOp → ℕ → SizedExpr → OperandRow
row_with row op token e = with_operand (settled_of row) (operator op) token (expr e)
