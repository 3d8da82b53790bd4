-- The key tokens of expressions: that of the one that an op ends, a line an op.
--
-- Of an operator that is the token of the operator, of a form that begins with `(` this one, else mostly the first
-- token. What is found behind `->` has its key in the `Dot` that comes next, and a compound literal in its `Literal`.
use Rattle.std.specs.Prelude.{ℕ, Option, None, Some}
use Rattle.tape_ops.specs.declared.op.Op.{Op}
use Rattle.tape_ops.specs.declared.op.Op.TheVariants as ops
use Rattle.tape_ops.specs.declared.expression.ExprOp.{ExprOp}
use Rattle.tape_ops.specs.declared.expression.ExprOp.TheVariants as exprs
use Rattle.tape_ops.specs.declared.form.FormOp.{FormOp}
use Rattle.tape_ops.specs.declared.form.FormOp.TheVariants as forms
use Rattle.tape_ops.specs.declared.initialiser.InitOp.{InitOp}
use Rattle.tape_ops.specs.declared.initialiser.InitOp.TheVariants as inits

-- the key token of an expression that an op of expressions ends
abbrev pub expr_op_key : ExprOp → Option ℕ
expr_op_key (exprs.Name is_called token name) = Some token
expr_op_key (exprs.Number token) = Some token
expr_op_key (exprs.Char token) = Some token
expr_op_key (exprs.Text token) = Some token
expr_op_key (exprs.Paren token) = Some token
expr_op_key (exprs.Ext token) = Some token
expr_op_key (exprs.Comma token) = Some token
expr_op_key (exprs.Assign sign token first last) = Some token
expr_op_key (exprs.Cond has_middle token first last) = Some token
expr_op_key (exprs.Binary sign token first last) = Some token
expr_op_key (exprs.Prefix sign token last aims) = Some token
expr_op_key (exprs.Post sign token first) = Some token
expr_op_key (exprs.Index token first last aims) = Some token
expr_op_key (exprs.Arg behind first last) = None
expr_op_key (exprs.Call token count) = Some token
expr_op_key (exprs.Arrow token first last aims) = None
expr_op_key (exprs.Dot token member name) = Some token
expr_op_key (exprs.Label token) = Some token

-- the key token of an expression that an op of the forms with type names ends
abbrev pub form_key : FormOp → Option ℕ
form_key (forms.Cast token last) = Some token
form_key (forms.Sizeof token) = Some token
form_key (forms.StmtExpr has_value token) = Some token
form_key (forms.VaArg token last) = Some token
form_key (forms.VaStart token last) = Some token
form_key (forms.VaCopy token last) = Some token
form_key (forms.OffsetMember token name) = None
form_key (forms.OffsetIndex token) = None
form_key (forms.Offset token) = Some token
form_key (forms.Compat token) = Some token
form_key forms.Control = None
form_key forms.NoType = None
form_key (forms.Choose token) = Some token
form_key (forms.Generic token count) = Some token

-- the key token of a compound literal
abbrev pub init_key : InitOp → Option ℕ
init_key (inits.Value first last) = None
init_key inits.Begin = None
init_key inits.Rule = None
init_key (inits.Literal token) = Some token
init_key inits.ListBegin = None
init_key (inits.Member token name) = None
init_key (inits.Index token) = None
init_key (inits.Leaf first last) = None
init_key inits.ListEnd = None
init_key inits.End = None
init_key inits.LiteralEnd = None

-- specifiers, declarators and statements end none
abbrev pub op_key : Op → Option ℕ
op_key (ops.Expr op) = expr_op_key op
op_key (ops.Form op) = form_key op
op_key (ops.Init op) = init_key op
op_key (ops.Spec op) = None
op_key (ops.Declr op) = None
op_key (ops.Stmt op) = None
