-- What each op of a tape does to the stacks: a line an op.
--
-- The operands of an initialiser in braces stay on the stack until it ends. What its list says of types is judged when
-- the list is gone through once more.
use Rattle.std.specs.Prelude.{ℕ, zero, suc, ◌+◌, true, false, ◌&&◌, List, [], ◌∷◌, length, drop, Option, None, Some, if◌then◌else◌}
use Rattle.tape_ops.specs.declared.op.Op.{Op}
use Rattle.tape_ops.specs.declared.op.Op.TheVariants as ops
use Rattle.tape_ops.specs.declared.expression.ExprOp.{ExprOp}
use Rattle.tape_ops.specs.declared.expression.ExprOp.TheVariants as exprs
use Rattle.tape_ops.specs.declared.form.FormOp.{FormOp}
use Rattle.tape_ops.specs.declared.form.FormOp.TheVariants as forms
use Rattle.tape_ops.specs.declared.initialiser.InitOp.{InitOp}
use Rattle.tape_ops.specs.declared.initialiser.InitOp.TheVariants as inits
use Rattle.tape_ops.specs.declared.specifier.SpecOp.{SpecOp}
use Rattle.tape_ops.specs.declared.specifier.SpecOp.TheVariants as specs
use Rattle.tape_ops.specs.declared.declarator.DeclrOp.{DeclrOp}
use Rattle.tape_ops.specs.declared.declarator.DeclrOp.TheVariants as declrs
use Rattle.tape_ops.specs.declared.statement.StmtOp.{StmtOp}
use Rattle.tape_ops.specs.declared.statement.StmtOp.TheVariants as stmts
use Rattle.type_table.specs.Types.{CType, base, void, pointer}
use Rattle.name_rules.specs.Spellings.{Spelling, place}
use Rattle.name_rules.specs.Scopes.{Aggregate, Names, declared_at}
use Rattle.name_rules.specs.Values.{a_value, a_place, some_target, is_plain_void_pointer, binary_type, cond_type, index_shape, Candidate, Association, pick_shape, selected_shape, some_result_type, member_type, Target, no_target, to, behind_member}
use Rattle.name_rules.specs.Uses.{use_at, use_shape, type_named_at, prefix_shape, assigned_shape, text_type}
use Rattle.name_rules.specs.Checks.{type_declared, target_of_item}
use Rattle.name_rules.specs.ShapeSteps.State.{Operand, expression, named_type, type_of_operand, Braces, whole, untargeted, listed, State, shape_at, value_at, is_zero_at, type_at, dropped, operand_put, put, first_operand, operands_below, first_braces, changed, without_innermost, declared_last, with_declarations, opened, with_name, with_declared, without_name, closed}

-- initialisers in braces

-- what the next item initialises
abbrev pub target_in : Names → Braces → Target
target_in s (whole t) = to t
target_in s untargeted = no_target
target_in s (listed t is_first next named) = target_of_item s t is_first next named

-- a list in braces begins, for what its target is
abbrev pub list_of : Target → Braces
list_of no_target = untargeted
list_of (to t) = listed t true 0 None

-- what the next designator names a part of
abbrev pub designated : Braces → Option CType
designated (whole t) = t
designated untargeted = None
designated (listed t is_first next None) = t
designated (listed t is_first next (Some named)) = named

-- a list in braces behind a designator of a member
abbrev pub with_member : List Aggregate → ℕ → Braces → Braces
with_member all name (whole t) = whole t
with_member all name untargeted = untargeted
with_member all name (listed t is_first next None) =
    listed t is_first (behind_member all t name next) (Some (member_type all t name))
with_member all name (listed t is_first next (Some named)) = listed t is_first next (Some (member_type all named name))

-- a list in braces behind a designator of an element
abbrev pub with_index : Braces → Braces
with_index (whole t) = whole t
with_index untargeted = untargeted
with_index (listed t is_first next None) = listed t is_first next (Some (some_target t))
with_index (listed t is_first next (Some named)) = listed t is_first next (Some (some_target named))

-- a list in braces behind an item
abbrev pub with_item : Braces → Braces
with_item (whole t) = whole t
with_item untargeted = untargeted
with_item (listed t is_first next None) = listed t false (suc next) None
with_item (listed t is_first next (Some named)) = listed t false next None

-- the type that the name at a token is declared with
abbrev pub type_of_name : Spelling → Names → Option ℕ → Option CType
type_of_name u s None = None
type_of_name u s (Some token) = type_declared (declared_at s.declared (place u token))

-- a part of an initialiser is gone through from here on
abbrev pub within : Braces → State → State
within it st = record st { braces = it ∷ st.braces }

-- the innermost part of an initialiser is changed
abbrev pub in_braces : (Braces → Braces) → State → State
in_braces change st = record st { braces = changed change st.braces }

-- the operands of an initialiser in braces begin
abbrev pub begun : State → State
begun st = record st { bases = length st.operands ∷ st.bases }

-- the innermost list of an initialiser ends
abbrev pub list_left : State → State
list_left st = record st { braces = without_innermost st.braces }

-- an initialiser in braces ends, with these operands
abbrev pub braces_left : List Operand → State → State
braces_left operands st =
    record st { operands = operands; bases = without_innermost st.bases; braces = without_innermost st.braces }

-- a compound literal is a place, of the type that was named under its operands
abbrev pub literal_put : List Operand → List Operand
literal_put below = expression (a_place (type_of_operand (first_operand below))) false ∷ drop 1 below

-- steps

-- what an op of expressions does to the stacks
abbrev pub expr_step : Spelling → Names → State → ExprOp → State
expr_step u s st (exprs.Name is_called token name) = put 0 (use_shape s (use_at s.uses (place u token))) st
expr_step u s st (exprs.Number token) =
    operand_put 0 (expression (a_value (Some (base []))) (u.is_naught token)) st
expr_step u s st (exprs.Char token) = put 0 (a_value (Some (base []))) st
expr_step u s st (exprs.Text token) = put 0 (a_place (Some text_type)) st
expr_step u s st (exprs.Paren token) = st
expr_step u s st (exprs.Ext token) = put 1 (shape_at 0 st) st
expr_step u s st (exprs.Comma token) = put 2 (a_value (value_at 0 st)) st
expr_step u s st (exprs.Assign sign token first last) = put 2 (assigned_shape (shape_at 1 st)) st
expr_step u s st (exprs.Cond has_middle token first last) =
    put (if has_middle then 3 else 2)
    (a_value (cond_type (is_zero_at 1 st) (is_zero_at 0 st) (value_at 1 st) (value_at 0 st))) st
expr_step u s st (exprs.Binary sign token first last) =
    put 2 (a_value (binary_type sign (value_at 1 st) (value_at 0 st))) st
expr_step u s st (exprs.Prefix sign token last aims) = put 1 (prefix_shape sign (shape_at 0 st)) st
expr_step u s st (exprs.Post sign token first) = put 1 (a_value (value_at 0 st)) st
expr_step u s st (exprs.Index token first last aims) = put 2 (index_shape u.wide (shape_at 1 st) (shape_at 0 st)) st
expr_step u s st (exprs.Arg behind first last) = st
expr_step u s st (exprs.Call token count) = put (suc count) (a_value (some_result_type (value_at count st))) st
expr_step u s st (exprs.Arrow token first last aims) = put 1 (a_place (some_target (value_at 0 st))) st
expr_step u s st (exprs.Dot token member name) =
    put 1 (a_place (member_type s.aggregates (value_at 0 st) (u.key name))) st
expr_step u s st (exprs.Label token) = put 0 (a_value (Some (pointer [] (void [])))) st

-- picks

-- a number and itself: each association has a type and an expression on the stack
abbrev pub twice : ℕ → ℕ
twice n = n + n

-- the operand with so many above it, as one that may be picked
abbrev pub candidate_at : ℕ → State → Candidate
candidate_at n st = record { shape = shape_at n st; is_zero = is_zero_at n st }

-- the candidates of a choice between two operands
abbrev pub chosen : State → List Candidate
chosen st = candidate_at 1 st ∷ candidate_at 0 st ∷ []

-- the associations of a selection, the last of which is on top: of each its type and its expression
abbrev pub associations : ℕ → State → List Association
associations zero st = []
associations (suc n) st =
    record { type = type_at (suc (twice n)) st; candidate = candidate_at (twice n) st } ∷ associations n st

-- what an op of the forms with type names does to the stacks
abbrev pub form_step : Spelling → Names → State → FormOp → State
form_step u s st (forms.Cast token last) =
    operand_put 2 (expression (a_value (type_at 1 st)) (is_plain_void_pointer (type_at 1 st) && is_zero_at 0 st)) st
form_step u s st (forms.Sizeof token) = put 1 (a_value (Some (base []))) st
form_step u s st (forms.StmtExpr has_value token) =
    if has_value then put 1 (a_value (value_at 0 st)) st else put 0 (a_value (Some (void []))) st
form_step u s st (forms.VaArg token last) = put 2 (a_value (type_at 0 st)) st
form_step u s st (forms.VaStart token last) = put 2 (a_value (Some (void []))) st
form_step u s st (forms.VaCopy token last) = put 2 (a_value (Some (void []))) st
form_step u s st (forms.OffsetMember token name) =
    operand_put 1 (named_type (member_type s.aggregates (type_at 0 st) (u.key name))) st
form_step u s st (forms.OffsetIndex token) = operand_put 2 (named_type (some_target (type_at 1 st))) st
form_step u s st (forms.Offset token) = put 1 (a_value (Some (base []))) st
form_step u s st (forms.Compat token) = put 2 (a_value (Some (base []))) st
form_step u s st forms.Control = st
form_step u s st forms.NoType = operand_put 0 (named_type None) st
form_step u s st (forms.Choose token) = put 2 (pick_shape (chosen st)) st
form_step u s st (forms.Generic token count) =
    put (suc (twice count)) (selected_shape (value_at (twice count) st) (associations count st)) st

-- what an op of initialisers does to the stacks
abbrev pub init_step : Spelling → Names → State → InitOp → State
init_step u s st (inits.Value first last) = dropped 1 st
init_step u s st inits.Begin = begun st
init_step u s st inits.Rule = within (whole (type_of_name u s (declared_last st.declarations))) st
init_step u s st (inits.Literal token) = within (whole (type_of_operand (first_operand (operands_below st)))) st
init_step u s st inits.ListBegin = within (list_of (target_in s (first_braces st.braces))) st
init_step u s st (inits.Member token name) = in_braces (with_member s.aggregates (u.key name)) st
init_step u s st (inits.Index token) = in_braces with_index st
init_step u s st (inits.Leaf first last) = in_braces with_item st
init_step u s st inits.ListEnd = in_braces with_item (list_left st)
init_step u s st inits.End = braces_left (operands_below st) st
init_step u s st inits.LiteralEnd = braces_left (literal_put (operands_below st)) st

-- what an op of specifiers does to the stacks: the type in `typeof` is taken off, and a declaration begins
abbrev pub spec_step : State → SpecOp → State
spec_step st (specs.Word token) = st
spec_step st (specs.Storage keyword) = st
spec_step st specs.Void = st
spec_step st (specs.Typedef token name) = st
spec_step st (specs.TagUse kind token name) = st
spec_step st (specs.TagAlone kind token name) = st
spec_step st (specs.TagBody kind token name) = st
spec_step st (specs.Untagged kind token) = st
spec_step st specs.BodyEnd = st
spec_step st (specs.Enumerator token name) = st
spec_step st (specs.UnnamedMember token) = st
spec_step st specs.PartBegin = st
spec_step st (specs.TypeofEnd token) = st
spec_step st specs.TypeEnd = dropped 1 st
spec_step st specs.SpecsEnd = opened st

-- what an op of declarators does to the stacks: of a type's name the type is put on it
abbrev pub declr_step : Spelling → Names → State → DeclrOp → State
declr_step u s st (declrs.DeclName token name) = with_declarations (changed (with_name token)) st
declr_step u s st (declrs.ParamsBegin is_own) = st
declr_step u s st declrs.Param = closed st
declr_step u s st declrs.ParamsEnd = st
declr_step u s st declrs.Pointer = st
declr_step u s st declrs.Array = st
declr_step u s st (declrs.Function has_ellipsis) = st
declr_step u s st declrs.Declare = with_declarations (changed with_declared) st
declr_step u s st declrs.AutoBegin = st
declr_step u s st (declrs.AutoEnd token) = with_declarations (changed with_declared) st
declr_step u s st (declrs.Identifier token name) = st
declr_step u s st declrs.OldParam = with_declarations (changed with_declared) st
declr_step u s st declrs.Member = with_declarations (changed without_name) st
declr_step u s st (declrs.TypeName first) =
    operand_put 0 (named_type (type_named_at s.type_names (place u first))) (closed st)
declr_step u s st declrs.DeclarationEnd = closed st

-- what an op of statements does to the stacks: values that nothing uses are dropped
abbrev pub stmt_step : State → StmtOp → State
stmt_step st stmts.Quiet = st
stmt_step st stmts.Loud = dropped 1 st
stmt_step st stmts.Pop = dropped 1 st
stmt_step st (stmts.Return token last) = dropped 1 st
stmt_step st stmts.Enter = st
stmt_step st stmts.Leave = st
stmt_step st stmts.FunctionBody = st
stmt_step st stmts.FunctionEnd = st

-- what an op does to the stacks
abbrev pub step : Spelling → Names → State → Op → State
step u s st (ops.Expr op) = expr_step u s st op
step u s st (ops.Form op) = form_step u s st op
step u s st (ops.Init op) = init_step u s st op
step u s st (ops.Spec op) = spec_step st op
step u s st (ops.Declr op) = declr_step u s st op
step u s st (ops.Stmt op) = stmt_step st op

-- what a tape does; behind the last op of an expression its shape is on top
abbrev pub run : Spelling → Names → State → List Op → State
run u s st [] = st
run u s st (op ∷ tape) = run u s (step u s st op) tape
