-- What each op of a tape does to the stacks of skeletons: a line an op.
use Rattle.std.specs.Prelude.{ℕ, zero, suc, Bool, true, false, ◌&&◌, List, [], ◌∷◌, ◌++◌, length, drop, Option, None, Some, if◌then◌else◌}
use Rattle.tape_ops.specs.declared.op.Op.{Op}
use Rattle.tape_ops.specs.declared.op.Op.TheVariants as ops
use Rattle.tape_ops.specs.declared.expression.ExprOp.{ExprOp}
use Rattle.tape_ops.specs.declared.expression.ExprOp.TheVariants as exprs
use Rattle.tape_ops.specs.declared.form.FormOp.{FormOp}
use Rattle.tape_ops.specs.declared.form.FormOp.TheVariants as forms
use Rattle.tape_ops.specs.declared.initialiser.InitOp.{InitOp}
use Rattle.tape_ops.specs.declared.initialiser.InitOp.TheVariants as inits
use Rattle.tape_ops.specs.declared.specifier.SpecOp.{SpecOp}
use Rattle.tape_ops.specs.declared.specifier.SpecOp.TheVariants as specs
use Rattle.tape_ops.specs.declared.declarator.DeclrOp.{DeclrOp}
use Rattle.tape_ops.specs.declared.declarator.DeclrOp.TheVariants as declrs
use Rattle.tape_ops.specs.declared.statement.StmtOp.{StmtOp}
use Rattle.tape_ops.specs.declared.statement.StmtOp.TheVariants as stmts
use Rattle.name_rules.specs.Values.{is_plain_void_pointer}
use Rattle.name_rules.specs.Scopes.{declared_at}
use Rattle.name_rules.specs.Uses.{use_at, type_named_at}
use Rattle.qual_types.specs.declared.look.Kind.TheVariants as kinds
use Rattle.qual_types.specs.Skel.{Skel, flat, ref, fun, struct_of}
use Rattle.name_rules.specs.ShapeSteps.Steps.{twice}
use Rattle.name_rules.specs.Checks.{is_star}
use Rattle.name_rules.specs.ShapeSteps.State.{OpenDeclaration, changed, without_innermost, declared_last, with_name, with_declared, without_name}
use Rattle.row_rules.specs.Worlds.{World, at}
use Rattle.row_rules.specs.Vals.{Candidate, pick_of, index_of, a_value, a_place, contents, is_ref, result, member_of, member_skel, own, binary_of, branch, prefix_of, used}
use Rattle.row_rules.specs.Rows.{initialised_at, next_of_struct, first_alone, behind_known}
use Rattle.row_rules.specs.RowSteps.Rounds.{round_step}
use Rattle.row_rules.specs.RowSteps.State.{Operand, expression, named_type, Braces, whole, untargeted, listed, State, val_at, value_at, is_zero_at, type_at, dropped, operand_put, put, operands_below, operands_within, first_braces}

-- initialisers in braces

-- what an item initialises, by what its designators name
abbrev pub item_target : World → Skel → Bool → ℕ → Option Skel → Option Skel
item_target w (ref v s) is_first next named = Some s
item_target w (flat v (kinds.Struct n)) is_first next None = next_of_struct w n next
item_target w (flat v (kinds.Struct n)) is_first next (Some named) = Some named
item_target w (flat v kinds.Base) is_first next named = first_alone is_first (flat v kinds.Base)
item_target w (flat v kinds.Void) is_first next named = first_alone is_first (flat v kinds.Void)
item_target w (flat v kinds.Nothing) is_first next named = None
item_target w (fun v ps r e) is_first next named = None

-- what the next item initialises
abbrev pub target_in : World → Braces → Option Skel
target_in w (whole t) = t
target_in w untargeted = None
target_in w (listed t is_first next named) = item_target w t is_first next named

-- a list in braces begins, for what its target is
abbrev pub list_of : Option Skel → Braces
list_of None = untargeted
list_of (Some t) = listed t true 0 None

-- a list in braces behind a designator of a member
abbrev pub with_member : World → ℕ → Braces → Braces
with_member w name (whole t) = whole t
with_member w name untargeted = untargeted
with_member w name (listed t is_first next None) =
    listed t is_first (behind_known (member_of w (struct_of t) name) next) (Some (contents (member_skel w t name)))
with_member w name (listed t is_first next (Some named)) =
    listed t is_first next (Some (contents (member_skel w named name)))

-- a list in braces behind a designator of an element
abbrev pub with_index : Braces → Braces
with_index (whole t) = whole t
with_index untargeted = untargeted
with_index (listed t is_first next None) = listed t is_first next (Some (contents t))
with_index (listed t is_first next (Some named)) = listed t is_first next (Some (contents named))

-- a list in braces behind an item
abbrev pub with_item : Braces → Braces
with_item (whole t) = whole t
with_item untargeted = untargeted
with_item (listed t is_first next None) = listed t false (suc next) None
with_item (listed t is_first next (Some named)) = listed t false next None

-- what the initialiser of the name at a token initialises
abbrev pub initialised_by : World → Option ℕ → Option Skel
initialised_by w None = None
initialised_by w (Some token) = initialised_at w (declared_at w.names.declared (at w token))

-- the innermost part of an initialiser is changed
abbrev pub in_braces : (Braces → Braces) → State → State
in_braces change st = record st { braces = changed change st.braces }

-- the operands of an initialiser in braces begin
abbrev pub begun : State → State
begun st = record st { bases = length st.operands ∷ st.bases }

-- the items of an initialiser in braces begin to take its operands, and initialise this skeleton
abbrev pub gone_through : Option Skel → State → State
gone_through t st = record st { braces = whole t ∷ st.braces; leaves = operands_within st }

-- a list in braces begins, as the next item of what is around it
abbrev pub list_begun : World → State → State
list_begun w st = record st { braces = list_of (target_in w (first_braces st.braces)) ∷ st.braces }

-- an item takes the next operand
abbrev pub leaf_taken : State → State
leaf_taken st = in_braces with_item (record st { leaves = drop 1 st.leaves })

-- the innermost list of an initialiser ends, and with it an item of what is around it
abbrev pub list_left : State → State
list_left st = in_braces with_item (record st { braces = without_innermost st.braces })

-- an initialiser in braces ends, with these operands
abbrev pub braces_left : List Operand → State → State
braces_left operands st =
    record st {
      operands = operands;
      bases = without_innermost st.bases;
      braces = without_innermost st.braces;
      leaves = [];
    }

-- a compound literal is a place; its type was named under its operands
abbrev pub literal_put : Skel → List Operand → List Operand
literal_put s below = expression (a_place s) false ∷ drop 1 below

-- declarations

-- the open declarations are changed
abbrev pub with_declarations : (List OpenDeclaration → List OpenDeclaration) → State → State
with_declarations change st = record st { declarations = change st.declarations }

-- a declaration begins, at the end of its specifiers
abbrev pub opened : State → State
opened st = record st { declarations = record { name = None; declared = None } ∷ st.declarations }

-- the innermost declaration ends
abbrev pub closed : State → State
closed st = record st { declarations = without_innermost st.declarations }

-- steps

-- a place that is only addressed is come to by this pointer
abbrev pub carrying : Bool → Skel → State → State
carrying aims pointer st = if aims then record st { carried = pointer } else st

-- what an op of expressions does to the stacks
abbrev pub expr_step : World → State → ExprOp → State
expr_step w st (exprs.Name is_called token name) = put 0 (used w token (use_at w.names.uses (at w token))) st
expr_step w st (exprs.Number token) =
    operand_put 0 (expression (a_value (own w token)) (w.spelling.is_naught token)) st
expr_step w st (exprs.Char token) = put 0 (a_value (own w token)) st
expr_step w st (exprs.Text token) = put 0 (a_place (own w token)) st
expr_step w st (exprs.Paren token) = st
expr_step w st (exprs.Ext token) = put 1 (val_at 0 st) st
expr_step w st (exprs.Comma token) = put 2 (a_value (value_at 0 st)) st
expr_step w st (exprs.Assign sign token first last) = put 2 (a_value (contents (val_at 1 st).skel)) st
expr_step w st (exprs.Cond has_middle token first last) =
    put (if has_middle then 3 else 2)
    (a_value (branch w (is_zero_at 1 st) (is_zero_at 0 st) token (value_at 1 st) (value_at 0 st))) st
expr_step w st (exprs.Binary sign token first last) =
    put 2 (a_value (binary_of sign (value_at 1 st) (value_at 0 st) (own w token))) st
expr_step w st (exprs.Prefix sign token last aims) =
    put 1 (prefix_of w token sign (val_at 0 st) aims) (carrying (aims && is_star sign) (value_at 0 st) st)
expr_step w st (exprs.Post sign token first) = put 1 (a_value (value_at 0 st)) st
expr_step w st (exprs.Index token first last aims) =
    put 2 (index_of w.spelling.wide (val_at 1 st) (val_at 0 st))
    (carrying aims (if is_ref (value_at 1 st) then value_at 1 st else value_at 0 st) st)
expr_step w st (exprs.Arg behind first last) = record st { passed = suc st.passed }
expr_step w st (exprs.Call token count) =
    put (suc count) (a_value (result (contents (value_at count st)))) (record st { passed = 0 })
expr_step w st (exprs.Arrow token first last aims) =
    put 1 (a_value (contents (value_at 0 st))) (carrying aims (value_at 0 st) st)
expr_step w st (exprs.Dot token member name) = put 1 (a_place (member_skel w (value_at 0 st) name)) st
expr_step w st (exprs.Label token) = put 0 (a_value (own w token)) st

-- picks

-- the operand with so many above it, as one that may be picked
abbrev pub candidate_at : ℕ → State → Candidate
candidate_at n st = record { val = val_at n st; is_zero = is_zero_at n st }

-- the candidates of a choice between two operands
abbrev pub chosen : State → List Candidate
chosen st = candidate_at 1 st ∷ candidate_at 0 st ∷ []

-- of the selection at a token those associations, of which so many are left, that are candidates; the first of these
-- has this number
abbrev pub selected : World → ℕ → ℕ → ℕ → State → List Candidate
selected w token i zero st = []
selected w token i (suc n) st =
    (if w.candidate (at w token) i then candidate_at (twice n) st ∷ [] else []) ++ selected w token (suc i) n st

-- what an op of the forms with type names does to the stacks
abbrev pub form_step : World → State → FormOp → State
form_step w st (forms.Cast token last) =
    operand_put 2
    (expression (a_value (own w token)) (is_plain_void_pointer (type_at 1 st) && is_zero_at 0 st)) st
form_step w st (forms.Sizeof token) = put 1 (a_value (own w token)) st
form_step w st (forms.StmtExpr has_value token) =
    if has_value then put 1 (a_value (value_at 0 st)) st else put 0 (a_value (own w token)) st
form_step w st (forms.VaArg token last) = put 2 (a_value (own w token)) st
form_step w st (forms.VaStart token last) = put 2 (a_value (own w token)) st
form_step w st (forms.VaCopy token last) = put 2 (a_value (own w token)) st
form_step w st (forms.OffsetMember token name) = st
form_step w st (forms.OffsetIndex token) = dropped 1 st
form_step w st (forms.Offset token) = put 1 (a_value (own w token)) st
form_step w st (forms.Compat token) = put 2 (a_value (own w token)) st
form_step w st forms.Control = st
form_step w st forms.NoType = operand_put 0 (named_type None) st
form_step w st (forms.Choose token) = put 2 (pick_of (own w token) (chosen st)) st
form_step w st (forms.Generic token count) =
    put (suc (twice count)) (pick_of (own w token) (selected w token 0 count st)) st

-- what an op of initialisers does to the stacks
abbrev pub init_step : World → State → InitOp → State
init_step w st (inits.Value first last) = dropped 1 st
init_step w st inits.Begin = begun st
init_step w st inits.Rule = gone_through (initialised_by w (declared_last st.declarations)) st
init_step w st (inits.Literal token) =
    gone_through (Some (contents (own w token))) (record st { literal = own w token })
init_step w st inits.ListBegin = list_begun w st
init_step w st (inits.Member token name) = in_braces (with_member w name) st
init_step w st (inits.Index token) = in_braces with_index st
init_step w st (inits.Leaf first last) = leaf_taken st
init_step w st inits.ListEnd = list_left st
init_step w st inits.End = braces_left (operands_below st) st
init_step w st inits.LiteralEnd = braces_left (literal_put st.literal (operands_below st)) st

-- what an op of specifiers does to the stacks: the type in `typeof` is taken off, and a declaration begins
abbrev pub spec_step : State → SpecOp → State
spec_step st (specs.Word token) = st
spec_step st (specs.Storage keyword) = st
spec_step st specs.Void = st
spec_step st (specs.Typedef token name) = st
spec_step st (specs.TagUse kind token name) = st
spec_step st (specs.TagAlone kind token name) = st
spec_step st (specs.TagBody kind token name) = st
spec_step st (specs.Untagged kind token) = st
spec_step st specs.BodyEnd = st
spec_step st (specs.Enumerator token name) = st
spec_step st (specs.UnnamedMember token) = st
spec_step st specs.PartBegin = st
spec_step st (specs.TypeofEnd token) = st
spec_step st specs.TypeEnd = dropped 1 st
spec_step st specs.SpecsEnd = opened st

-- what an op of declarators does to the stacks: of a type's name the type is put on it
abbrev pub declr_step : World → State → DeclrOp → State
declr_step w st (declrs.DeclName token name) = with_declarations (changed (with_name token)) st
declr_step w st (declrs.ParamsBegin is_own) = st
declr_step w st declrs.Param = closed st
declr_step w st declrs.ParamsEnd = st
declr_step w st declrs.Pointer = st
declr_step w st declrs.Array = st
declr_step w st (declrs.Function has_ellipsis) = st
declr_step w st declrs.Declare = with_declarations (changed with_declared) st
declr_step w st declrs.AutoBegin = st
declr_step w st (declrs.AutoEnd token) = with_declarations (changed with_declared) st
declr_step w st (declrs.Identifier token name) = st
declr_step w st declrs.OldParam = with_declarations (changed with_declared) st
declr_step w st declrs.Member = with_declarations (changed without_name) st
declr_step w st (declrs.TypeName first) =
    operand_put 0 (named_type (type_named_at w.names.type_names (at w first))) (closed st)
declr_step w st declrs.DeclarationEnd = closed st

-- what an op of statements does to the stacks: values that nothing uses are dropped
abbrev pub stmt_step : State → StmtOp → State
stmt_step st stmts.Quiet = st
stmt_step st stmts.Loud = dropped 1 st
stmt_step st stmts.Pop = dropped 1 st
stmt_step st (stmts.Return token last) = dropped 1 st
stmt_step st stmts.Enter = st
stmt_step st stmts.Leave = st
stmt_step st stmts.FunctionBody = st
stmt_step st stmts.FunctionEnd = st

-- what an op does to the stacks, whatever is around it
abbrev pub stack_step : World → State → Op → State
stack_step w st (ops.Expr op) = expr_step w st op
stack_step w st (ops.Form op) = form_step w st op
stack_step w st (ops.Init op) = init_step w st op
stack_step w st (ops.Spec op) = spec_step st op
stack_step w st (ops.Declr op) = declr_step w st op
stack_step w st (ops.Stmt op) = stmt_step st op

-- the context of an op goes on, by the declarations that were open before it
abbrev pub with_round_step : State → Op → State → State
with_round_step before op after = record after { rounds = round_step before.declarations before.rounds op }

-- what is known behind an op
abbrev pub step : World → State → Op → State
step w st op = with_round_step st op (stack_step w st op)

-- what a tape does; behind the last op of an expression its skeleton is on top
abbrev pub run : World → State → List Op → State
run w st [] = st
run w st (op ∷ tape) = run w (step w st op) tape
