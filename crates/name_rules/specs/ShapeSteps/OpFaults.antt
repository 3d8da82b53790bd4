-- The faults of each op of a tape, by what is on the stacks before it.
use Rattle.std.specs.Prelude.{not, List, []}
use Rattle.tape_ops.specs.declared.op.Op.{Op}
use Rattle.tape_ops.specs.declared.op.Op.TheVariants as ops
use Rattle.tape_ops.specs.declared.expression.ExprOp.{ExprOp}
use Rattle.tape_ops.specs.declared.expression.ExprOp.TheVariants as exprs
use Rattle.tape_ops.specs.declared.form.FormOp.{FormOp}
use Rattle.tape_ops.specs.declared.form.FormOp.TheVariants as forms
use Rattle.tape_ops.specs.declared.initialiser.InitOp.{InitOp}
use Rattle.tape_ops.specs.declared.initialiser.InitOp.TheVariants as inits
use Rattle.name_rules.specs.Spellings.{Spelling, place}
use Rattle.name_rules.specs.Faults.{Fault, not_pointer, not_place, fault_where}
use Rattle.name_rules.specs.Scopes.{Names}
use Rattle.name_rules.specs.Values.{is_no_pointer}
use Rattle.name_rules.specs.Checks.{prefix_faults, call_faults, member_faults, index_faults_at}
use Rattle.name_rules.specs.ShapeSteps.State.{State, shape_at, value_at, type_at, first_braces}
use Rattle.name_rules.specs.ShapeSteps.Steps.{designated}

-- the faults of an op of expressions, by its operands
abbrev pub expr_op_faults : Spelling → Names → State → ExprOp → List Fault
expr_op_faults u s st (exprs.Name is_called token name) = []
expr_op_faults u s st (exprs.Number token) = []
expr_op_faults u s st (exprs.Char token) = []
expr_op_faults u s st (exprs.Text token) = []
expr_op_faults u s st (exprs.Paren token) = []
expr_op_faults u s st (exprs.Ext token) = []
expr_op_faults u s st (exprs.Comma token) = []
expr_op_faults u s st (exprs.Assign sign token first last) =
    fault_where (not (shape_at 1 st).is_place) (place u token) not_place
expr_op_faults u s st (exprs.Cond has_middle token first last) = []
expr_op_faults u s st (exprs.Binary sign token first last) = []
expr_op_faults u s st (exprs.Prefix sign token last aims) = prefix_faults (place u token) sign (shape_at 0 st)
expr_op_faults u s st (exprs.Post sign token first) =
    fault_where (not (shape_at 0 st).is_place) (place u token) not_place
expr_op_faults u s st (exprs.Index token first last aims) =
    index_faults_at u.wide (place u token) (shape_at 1 st) (shape_at 0 st)
expr_op_faults u s st (exprs.Arg behind first last) = []
expr_op_faults u s st (exprs.Call token count) = call_faults (place u token) (value_at count st) count
expr_op_faults u s st (exprs.Arrow token first last aims) =
    fault_where (is_no_pointer (value_at 0 st)) (place u token) not_pointer
expr_op_faults u s st (exprs.Dot token member name) = member_faults u s (value_at 0 st) member name
expr_op_faults u s st (exprs.Label token) = []

-- the faults of an op of the forms with type names: of members and indices of `offsetof` alone
abbrev pub form_op_faults : Spelling → Names → State → FormOp → List Fault
form_op_faults u s st (forms.Cast token last) = []
form_op_faults u s st (forms.Sizeof token) = []
form_op_faults u s st (forms.StmtExpr has_value token) = []
form_op_faults u s st (forms.VaArg token last) = []
form_op_faults u s st (forms.VaStart token last) = []
form_op_faults u s st (forms.VaCopy token last) = []
form_op_faults u s st (forms.OffsetMember token name) = member_faults u s (type_at 0 st) token name
form_op_faults u s st (forms.OffsetIndex token) = fault_where (is_no_pointer (type_at 1 st)) (place u token) not_pointer
form_op_faults u s st (forms.Offset token) = []
form_op_faults u s st (forms.Compat token) = []
form_op_faults u s st forms.Control = []
form_op_faults u s st forms.NoType = []
form_op_faults u s st (forms.Choose token) = []
form_op_faults u s st (forms.Generic token count) = []

-- the faults of an op of initialisers: of the designators in braces alone
abbrev pub init_op_faults : Spelling → Names → State → InitOp → List Fault
init_op_faults u s st (inits.Value first last) = []
init_op_faults u s st inits.Begin = []
init_op_faults u s st inits.Rule = []
init_op_faults u s st (inits.Literal token) = []
init_op_faults u s st inits.ListBegin = []
init_op_faults u s st (inits.Member token name) = member_faults u s (designated (first_braces st.braces)) token name
init_op_faults u s st (inits.Index token) =
    fault_where (is_no_pointer (designated (first_braces st.braces))) (place u token) not_pointer
init_op_faults u s st (inits.Leaf first last) = []
init_op_faults u s st inits.ListEnd = []
init_op_faults u s st inits.End = []
init_op_faults u s st inits.LiteralEnd = []

-- specifiers, declarators and statements have none of their own
abbrev pub op_faults : Spelling → Names → State → Op → List Fault
op_faults u s st (ops.Expr op) = expr_op_faults u s st op
op_faults u s st (ops.Form op) = form_op_faults u s st op
op_faults u s st (ops.Init op) = init_op_faults u s st op
op_faults u s st (ops.Spec op) = []
op_faults u s st (ops.Declr op) = []
op_faults u s st (ops.Stmt op) = []
