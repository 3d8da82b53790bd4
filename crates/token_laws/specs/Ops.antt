-- The tokens that an op of a tape carries.
use Rattle.std.specs.Prelude.{ℕ, List, [], ◌∷◌}
use Rattle.tape_ops.specs.declared.op.Op.{Op}
use Rattle.tape_ops.specs.declared.op.Op.TheVariants as ops
use Rattle.tape_ops.specs.declared.expression.ExprOp.{ExprOp}
use Rattle.tape_ops.specs.declared.expression.ExprOp.TheVariants as exprs
use Rattle.tape_ops.specs.declared.form.FormOp.{FormOp}
use Rattle.tape_ops.specs.declared.form.FormOp.TheVariants as forms
use Rattle.tape_ops.specs.declared.initialiser.InitOp.{InitOp}
use Rattle.tape_ops.specs.declared.initialiser.InitOp.TheVariants as inits
use Rattle.tape_ops.specs.declared.specifier.SpecOp.{SpecOp}
use Rattle.tape_ops.specs.declared.specifier.SpecOp.TheVariants as specs
use Rattle.tape_ops.specs.declared.declarator.DeclrOp.{DeclrOp}
use Rattle.tape_ops.specs.declared.declarator.DeclrOp.TheVariants as declrs
use Rattle.tape_ops.specs.declared.statement.StmtOp.{StmtOp}
use Rattle.tape_ops.specs.declared.statement.StmtOp.TheVariants as stmts

-- those of a node of an expression
abbrev pub expr_tokens : ExprOp → List ℕ
expr_tokens (exprs.Name is_called token name) = token ∷ []
expr_tokens (exprs.Number token) = token ∷ []
expr_tokens (exprs.Char token) = token ∷ []
expr_tokens (exprs.Text token) = token ∷ []
expr_tokens (exprs.Paren token) = token ∷ []
expr_tokens (exprs.Ext token) = token ∷ []
expr_tokens (exprs.Comma token) = token ∷ []
expr_tokens (exprs.Assign sign token first last) = token ∷ first ∷ last ∷ []
expr_tokens (exprs.Cond has_middle token first last) = token ∷ first ∷ last ∷ []
expr_tokens (exprs.Binary sign token first last) = token ∷ first ∷ last ∷ []
expr_tokens (exprs.Prefix sign token last aims) = token ∷ last ∷ []
expr_tokens (exprs.Post sign token first) = token ∷ first ∷ []
expr_tokens (exprs.Index token first last aims) = token ∷ first ∷ last ∷ []
expr_tokens (exprs.Arg behind first last) = first ∷ last ∷ []
expr_tokens (exprs.Call token count) = token ∷ []
expr_tokens (exprs.Arrow token first last aims) = token ∷ first ∷ last ∷ []
expr_tokens (exprs.Dot token member name) = token ∷ member ∷ []
expr_tokens (exprs.Label token) = token ∷ []

-- those of a node of a form, as a cast or `sizeof`
abbrev pub form_tokens : FormOp → List ℕ
form_tokens (forms.Cast token last) = token ∷ last ∷ []
form_tokens (forms.Sizeof token) = token ∷ []
form_tokens (forms.StmtExpr has_value token) = token ∷ []
form_tokens (forms.VaArg token last) = token ∷ last ∷ []
form_tokens (forms.VaStart token last) = token ∷ last ∷ []
form_tokens (forms.VaCopy token last) = token ∷ last ∷ []
form_tokens (forms.OffsetMember token name) = token ∷ []
form_tokens (forms.OffsetIndex token) = token ∷ []
form_tokens (forms.Offset token) = token ∷ []
form_tokens (forms.Compat token) = token ∷ []
form_tokens forms.Control = []
form_tokens forms.NoType = []
form_tokens (forms.Choose token) = token ∷ []
form_tokens (forms.Generic token count) = token ∷ []

-- those of a node of an initialiser
abbrev pub init_tokens : InitOp → List ℕ
init_tokens (inits.Value first last) = first ∷ last ∷ []
init_tokens inits.Begin = []
init_tokens inits.Rule = []
init_tokens (inits.Literal token) = token ∷ []
init_tokens inits.ListBegin = []
init_tokens (inits.Member token name) = token ∷ []
init_tokens (inits.Index token) = token ∷ []
init_tokens (inits.Leaf first last) = first ∷ last ∷ []
init_tokens inits.ListEnd = []
init_tokens inits.End = []
init_tokens inits.LiteralEnd = []

-- those of a node of specifiers
abbrev pub spec_tokens : SpecOp → List ℕ
spec_tokens (specs.Word token) = token ∷ []
spec_tokens (specs.Storage keyword) = []
spec_tokens specs.Void = []
spec_tokens (specs.Typedef token name) = token ∷ []
spec_tokens (specs.TagUse kind token name) = token ∷ []
spec_tokens (specs.TagAlone kind token name) = token ∷ []
spec_tokens (specs.TagBody kind token name) = token ∷ []
spec_tokens (specs.Untagged kind token) = token ∷ []
spec_tokens specs.BodyEnd = []
spec_tokens (specs.Enumerator token name) = token ∷ []
spec_tokens (specs.UnnamedMember token) = token ∷ []
spec_tokens specs.PartBegin = []
spec_tokens (specs.TypeofEnd token) = token ∷ []
spec_tokens specs.TypeEnd = []
spec_tokens specs.SpecsEnd = []

-- those of a node of a declarator
abbrev pub declr_tokens : DeclrOp → List ℕ
declr_tokens (declrs.DeclName token name) = token ∷ []
declr_tokens (declrs.ParamsBegin is_own) = []
declr_tokens declrs.Param = []
declr_tokens declrs.ParamsEnd = []
declr_tokens declrs.Pointer = []
declr_tokens declrs.Array = []
declr_tokens (declrs.Function has_ellipsis) = []
declr_tokens declrs.Declare = []
declr_tokens declrs.AutoBegin = []
declr_tokens (declrs.AutoEnd token) = token ∷ []
declr_tokens (declrs.Identifier token name) = token ∷ []
declr_tokens declrs.OldParam = []
declr_tokens declrs.Member = []
declr_tokens (declrs.TypeName first) = first ∷ []
declr_tokens declrs.DeclarationEnd = []

-- those of a node of a statement
abbrev pub stmt_tokens : StmtOp → List ℕ
stmt_tokens stmts.Quiet = []
stmt_tokens stmts.Loud = []
stmt_tokens stmts.Pop = []
stmt_tokens (stmts.Return token last) = token ∷ last ∷ []
stmt_tokens stmts.Enter = []
stmt_tokens stmts.Leave = []
stmt_tokens stmts.FunctionBody = []
stmt_tokens stmts.FunctionEnd = []

-- those of any node
abbrev pub op_tokens : Op → List ℕ
op_tokens (ops.Expr op) = expr_tokens op
op_tokens (ops.Form op) = form_tokens op
op_tokens (ops.Init op) = init_tokens op
op_tokens (ops.Spec op) = spec_tokens op
op_tokens (ops.Declr op) = declr_tokens op
op_tokens (ops.Stmt op) = stmt_tokens op
