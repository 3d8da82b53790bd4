-- The token that an op stands at, where it ends an expression or declares a name: no token is that of two ops of a
-- unit.
use Rattle.std.specs.Prelude.{ℕ, ◌+◌, ◌≤◌, nat_eq, List, [], ◌∷◌, Option, None, Some, if◌then◌else◌}
use Rattle.tape_ops.specs.declared.op.Op.{Op}
use Rattle.tape_ops.specs.declared.op.Op.TheVariants as ops
use Rattle.tape_ops.specs.declared.expression.ExprOp.{ExprOp}
use Rattle.tape_ops.specs.declared.expression.ExprOp.TheVariants as exprs
use Rattle.c_tape.specs.Tape.{tape_of}
use Rattle.type_rules.specs.Program.{Source}
use Rattle.row_laws.specs.KeyLaws.Keys.{spec_key, declr_key}
use Rattle.expr_types.specs.Keys.{form_key, init_key}
use Rattle.row_laws.specs.KeyLaws.Differing.{IsRead}

-- the token of an operand or operator, also where no skeleton begins there
abbrev pub expr_token : ExprOp → Option ℕ
expr_token (exprs.Name is_called token name) = Some token
expr_token (exprs.Number token) = Some token
expr_token (exprs.Char token) = Some token
expr_token (exprs.Text token) = Some token
expr_token (exprs.Paren token) = Some token
expr_token (exprs.Ext token) = Some token
expr_token (exprs.Comma token) = Some token
expr_token (exprs.Assign sign token first last) = Some token
expr_token (exprs.Cond has_middle token first last) = Some token
expr_token (exprs.Binary sign token first last) = Some token
expr_token (exprs.Prefix sign token last aims) = Some token
expr_token (exprs.Post sign token first) = Some token
expr_token (exprs.Index token first last aims) = Some token
expr_token (exprs.Arg behind first last) = None
expr_token (exprs.Call token count) = Some token
expr_token (exprs.Arrow token first last aims) = None
expr_token (exprs.Dot token member name) = Some token
expr_token (exprs.Label token) = Some token

-- the token that an op stands at, where it has one
abbrev pub op_token : Op → Option ℕ
op_token (ops.Expr op) = expr_token op
op_token (ops.Form op) = form_key op
op_token (ops.Init op) = init_key op
op_token (ops.Spec op) = spec_key op
op_token (ops.Declr op) = declr_key op
op_token (ops.Stmt op) = None

-- how many ops stand at a token, of one op with this token
abbrev pub added : ℕ → Option ℕ → ℕ
added n None = 0
added n (Some token) = if nat_eq token n then 1 else 0

-- how many ops stand at this token
abbrev pub counted : ℕ → List Op → ℕ
counted n [] = 0
counted n (op ∷ tape) = added n (op_token op) + counted n tape

-- the law: along the tape of a unit no two ops stand at one token
abbrev pub TokensAreOnce : Type 0
TokensAreOnce = (it : Source) → IsRead it → (n : ℕ) → counted n (tape_of it.items) ≤ 1
