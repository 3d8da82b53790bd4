-- The constraints that each op of a tape gives by itself, by what is on the stacks before it: a line an op.
use Rattle.std.specs.Prelude.{ℕ, suc, ◌+◌, List, [], Option, None, Some, if◌then◌else◌}
use Rattle.qual_base.specs.declared.places.Span.{Span}
use Rattle.flow_graph.specs.declared.constraint.Constraint.{Constraint}
use Rattle.tape_ops.specs.declared.op.Op.{Op}
use Rattle.tape_ops.specs.declared.op.Op.TheVariants as ops
use Rattle.tape_ops.specs.declared.expression.ExprOp.{ExprOp}
use Rattle.tape_ops.specs.declared.expression.ExprOp.TheVariants as exprs
use Rattle.tape_ops.specs.declared.form.FormOp.{FormOp}
use Rattle.tape_ops.specs.declared.form.FormOp.TheVariants as forms
use Rattle.tape_ops.specs.declared.initialiser.InitOp.{InitOp}
use Rattle.tape_ops.specs.declared.initialiser.InitOp.TheVariants as inits
use Rattle.tape_ops.specs.declared.declarator.DeclrOp.{DeclrOp}
use Rattle.tape_ops.specs.declared.declarator.DeclrOp.TheVariants as declrs
use Rattle.tape_ops.specs.declared.specifier.SpecOp.{SpecOp}
use Rattle.tape_ops.specs.declared.specifier.SpecOp.TheVariants as specs
use Rattle.tape_ops.specs.declared.statement.StmtOp.{StmtOp}
use Rattle.tape_ops.specs.declared.statement.StmtOp.TheVariants as stmts
use Rattle.name_rules.specs.Uses.{use_at}
use Rattle.qual_types.specs.Skel.{Skel, root, param_at}
use Rattle.name_rules.specs.ShapeSteps.State.{declared_last}
use Rattle.row_rules.specs.Worlds.{World, at, all_lattices, span}
use Rattle.row_rules.specs.Annotations.{parameters, further, write_bounds}
use Rattle.row_rules.specs.Vals.{contents, is_carrying, left_of, own}
use Rattle.row_rules.specs.Rows.{flowing, dereferenced, index_demand, carried, picked, assigned, computed, chosen, prefixed, passed, use_demand, formed_here, taken_fresh, literal_row, cast_demand, RowKind, no_row, row_of_name, row_of_param, row_at, returned, started, identified_by}
use Rattle.row_rules.specs.Worlds.{skeleton}
use Rattle.row_rules.specs.RowSteps.Rounds.{Naming, a_name, own_param, other_param, identified_param, naming, is_quiet}
use Rattle.row_rules.specs.RowSteps.State.{Operand, State, first_operand, val_of_operand, is_zero_operand, type_of_operand, val_at, value_at, is_zero_at, type_at, operands_below, first_braces}
use Rattle.row_rules.specs.RowSteps.Steps.{target_in, initialised_by, selected}
use Rattle.row_rules.specs.RowSteps.Steps as steps
use Rattle.name_rules.specs.Scopes.{declared_at}
use Rattle.row_rules.specs.Vals as vals

-- the skeleton of the function whose name is at a token
abbrev pub function_skeleton : World → Option ℕ → Option Skel
function_skeleton w None = None
function_skeleton w (Some token) = Some (contents (skeleton w (at w token)))

-- a parameter of the function of a skeleton, where there is one
abbrev pub some_param_row : Option Skel → ℕ → RowKind
some_param_row None n = no_row
some_param_row (Some f) n = row_of_param f n

-- the row of a parameter that is declared at a token behind a list of identifiers
abbrev pub identified_row : World → Option Skel → ℕ → RowKind
identified_row w own token = identified_by own (declared_at w.names.declared (at w token))

-- which row the name of a declarator at a token has
abbrev pub naming_row : World → Naming → ℕ → RowKind
naming_row w a_name token = row_of_name
naming_row w (own_param f n) token = some_param_row (function_skeleton w f) n
naming_row w other_param token = no_row
naming_row w (identified_param f) token = identified_row w (function_skeleton w f) token

-- an operand flows into what it initialises
abbrev pub into_target : World → Option Skel → Operand → Span → List Constraint
into_target w None it where_ = []
into_target w (Some t) it where_ =
    flowing (is_zero_operand it) (vals.value (val_of_operand it)) t (all_lattices w) where_

-- the skeleton of the function that is called, below an argument behind which there are so many
abbrev pub called_at : ℕ → State → Skel
called_at behind st = contents (value_at (suc (behind + st.passed)) st)

-- the constraints of an op of expressions
abbrev pub expr_row : World → State → ExprOp → List Constraint
expr_row w st (exprs.Name is_called token name) = use_demand w token (use_at w.names.uses (at w token))
expr_row w st (exprs.Number token) = []
expr_row w st (exprs.Char token) = []
expr_row w st (exprs.Text token) = formed_here w token
expr_row w st (exprs.Paren token) = []
expr_row w st (exprs.Ext token) = []
expr_row w st (exprs.Comma token) = []
expr_row w st (exprs.Assign sign token first last) =
    assigned w sign (is_zero_at 0 st) (val_at 1 st).skel (value_at 0 st) (span w first last)
expr_row w st (exprs.Cond has_middle token first last) =
    chosen w (is_zero_at 1 st) (is_zero_at 0 st) (value_at 1 st) (value_at 0 st) (own w token) (span w first last)
expr_row w st (exprs.Binary sign token first last) =
    computed w sign (is_zero_at 1 st) (is_zero_at 0 st) (value_at 1 st) (value_at 0 st) (own w token)
    (span w first last)
expr_row w st (exprs.Prefix sign token last aims) =
    if is_carrying w sign aims then carried w (val_at 0 st).skel st.carried (own w token) (span w token token)
    else prefixed w sign (is_zero_at 0 st) (val_at 0 st) (own w token) aims (span w token last)
expr_row w st (exprs.Post sign token first) = write_bounds w (root (val_at 0 st).skel) (span w first token)
expr_row w st (exprs.Index token first last aims) =
    index_demand w (value_at 1 st) (value_at 0 st) aims (span w first last)
expr_row w st (exprs.Arg behind first last) =
    passed w (is_zero_at behind st) (value_at behind st) (param_at (parameters (called_at behind st)) st.passed)
    (further (called_at behind st)) (span w first last)
expr_row w st (exprs.Call token count) = []
expr_row w st (exprs.Arrow token first last aims) = dereferenced w (value_at 0 st) aims (span w first last)
expr_row w st (exprs.Dot token member name) = []
expr_row w st (exprs.Label token) = formed_here w token

-- the constraints of an op of the forms with type names, of lists of arguments and of picks
abbrev pub form_row : World → State → FormOp → List Constraint
form_row w st (forms.Cast token last) =
    cast_demand w (type_at 1 st) (is_zero_at 0 st) (value_at 0 st) (own w token) (span w token last)
form_row w st (forms.Sizeof token) = []
form_row w st (forms.StmtExpr has_value token) = []
form_row w st (forms.VaArg token last) = taken_fresh w token (type_at 0 st) (value_at 1 st) (span w token last)
form_row w st (forms.VaStart token last) =
    started w (function_skeleton w st.rounds.body) (value_at 1 st) (span w token last)
form_row w st (forms.VaCopy token last) =
    flowing (is_zero_at 0 st) (value_at 0 st) (value_at 1 st) (all_lattices w) (span w token last)
form_row w st (forms.OffsetMember token name) = []
form_row w st (forms.OffsetIndex token) = []
form_row w st (forms.Offset token) = []
form_row w st (forms.Compat token) = []
form_row w st forms.Control = []
form_row w st forms.NoType = []
form_row w st (forms.Choose token) = picked w (left_of (steps.chosen st)) (own w token) (span w token token)
form_row w st (forms.Generic token count) =
    picked w (left_of (selected w token 0 count st)) (own w token) (span w token token)

-- the constraints of an op of initialisers
abbrev pub init_row : World → State → InitOp → List Constraint
init_row w st (inits.Value first last) =
    into_target w (initialised_by w (declared_last st.declarations)) (first_operand st.operands) (span w first last)
init_row w st inits.Begin = []
init_row w st inits.Rule = []
init_row w st (inits.Literal token) =
    literal_row w token (type_of_operand (first_operand (operands_below st)))
init_row w st inits.ListBegin = []
init_row w st (inits.Member token name) = []
init_row w st (inits.Index token) = []
init_row w st (inits.Leaf first last) =
    into_target w (target_in w (first_braces st.braces)) (first_operand st.leaves) (span w first last)
init_row w st inits.ListEnd = []
init_row w st inits.End = []
init_row w st inits.LiteralEnd = []

-- the constraints of an op of specifiers: of a member without a name alone
abbrev pub spec_row : World → SpecOp → List Constraint
spec_row w (specs.Word token) = []
spec_row w (specs.Storage keyword) = []
spec_row w specs.Void = []
spec_row w (specs.Typedef token name) = []
spec_row w (specs.TagUse kind token name) = []
spec_row w (specs.TagAlone kind token name) = []
spec_row w (specs.TagBody kind token name) = []
spec_row w (specs.Untagged kind token) = []
spec_row w specs.BodyEnd = []
spec_row w (specs.Enumerator token name) = []
spec_row w (specs.UnnamedMember token) = formed_here w token
spec_row w specs.PartBegin = []
spec_row w (specs.TypeofEnd token) = []
spec_row w specs.TypeEnd = []
spec_row w specs.SpecsEnd = []

-- the constraints of an op of declarators: of the declared name alone
abbrev pub declr_row : World → State → DeclrOp → List Constraint
declr_row w st (declrs.DeclName token name) = row_at w (naming_row w (naming st.rounds) token) token
declr_row w st (declrs.ParamsBegin is_own) = []
declr_row w st declrs.Param = []
declr_row w st declrs.ParamsEnd = []
declr_row w st declrs.Pointer = []
declr_row w st declrs.Array = []
declr_row w st (declrs.Function has_ellipsis) = []
declr_row w st declrs.Declare = []
declr_row w st declrs.AutoBegin = []
declr_row w st (declrs.AutoEnd token) = []
declr_row w st (declrs.Identifier token name) = []
declr_row w st declrs.OldParam = []
declr_row w st declrs.Member = []
declr_row w st (declrs.TypeName first) = []
declr_row w st declrs.DeclarationEnd = []

-- the constraints of an op of statements: of `return` alone
abbrev pub stmt_row : World → State → StmtOp → List Constraint
stmt_row w st stmts.Quiet = []
stmt_row w st stmts.Loud = []
stmt_row w st stmts.Pop = []
stmt_row w st (stmts.Return token last) =
    returned w (function_skeleton w st.rounds.body) (is_zero_at 0 st) (value_at 0 st) (span w token last)
stmt_row w st stmts.Enter = []
stmt_row w st stmts.Leave = []
stmt_row w st stmts.FunctionBody = []
stmt_row w st stmts.FunctionEnd = []

-- the constraints of an op that is not quiet
abbrev pub loud_row : World → State → Op → List Constraint
loud_row w st (ops.Expr op) = expr_row w st op
loud_row w st (ops.Form op) = form_row w st op
loud_row w st (ops.Init op) = init_row w st op
loud_row w st (ops.Spec op) = spec_row w op
loud_row w st (ops.Declr op) = declr_row w st op
loud_row w st (ops.Stmt op) = stmt_row w st op

-- what is quiet gives none
abbrev pub op_row : World → State → Op → List Constraint
op_row w st op = if is_quiet st.rounds then [] else loud_row w st op
