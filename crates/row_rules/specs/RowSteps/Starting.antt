-- Where skeletons begin along a tape, in the order of its ops, by what the loop of shapes knows before each op.
use Rattle.std.specs.Prelude.{ℕ, Bool, not, ◌&&◌, List, [], ◌∷◌, ◌++◌, Option, None, Some}
use Rattle.tape_ops.specs.declared.op.Op.{Op}
use Rattle.tape_ops.specs.declared.op.Op.TheVariants as ops
use Rattle.tape_ops.specs.declared.expression.ExprOp.{ExprOp}
use Rattle.tape_ops.specs.declared.expression.ExprOp.TheVariants as exprs
use Rattle.tape_ops.specs.declared.form.FormOp.{FormOp}
use Rattle.tape_ops.specs.declared.form.FormOp.TheVariants as forms
use Rattle.tape_ops.specs.declared.initialiser.InitOp.{InitOp}
use Rattle.tape_ops.specs.declared.initialiser.InitOp.TheVariants as inits
use Rattle.tape_ops.specs.declared.specifier.SpecOp.{SpecOp}
use Rattle.tape_ops.specs.declared.specifier.SpecOp.TheVariants as specs
use Rattle.tape_ops.specs.declared.declarator.DeclrOp.{DeclrOp}
use Rattle.tape_ops.specs.declared.declarator.DeclrOp.TheVariants as declrs
use Rattle.type_table.specs.Types.{base, void, pointer}
use Rattle.name_rules.specs.Spellings.{Spelling, Place, place}
use Rattle.name_rules.specs.Scopes.{Names, declared_at}
use Rattle.name_rules.specs.Values.{Candidate, pick_shape, is_fresh_pick, has_of_type}
use Rattle.name_rules.specs.Uses.{use_at, text_type}
use Rattle.name_rules.specs.ShapeSteps.State.{State, nothing, value_at, is_zero_at, type_at, shape_at, type_of_operand, first_operand, operands_below}
use Rattle.name_rules.specs.ShapeSteps.Steps.{step, expr_step, twice, chosen, associations}
use Rattle.row_rules.specs.Starting.{Start, Around, fresh, some_fresh, name_start, use_start, some_place, is_some_pointer, is_fresh_binary, prefix_starts, fresh_where, Having, with_skeleton, of_function, without_skeleton, had_name, first_of, selected_by, candidate_flags, Selection}
use Rattle.row_rules.specs.RowSteps.Rounds.{Naming, a_name, own_param, other_param, identified_param, Rounds, file, is_quiet, naming, left, round_step}

-- the function that was declared where the name at a token was
abbrev pub function_at : Spelling → Names → Option ℕ → Option Place
function_at u s None = None
function_at u s (Some token) = first_of s (declared_at s.declared (place u token))

-- what a fresh skeleton stands on at an op
abbrev pub around : Spelling → Names → Rounds → Around
around u s r =
    record { spelling = u; names = s; enclosing = function_at u s r.body; is_quiet = is_quiet r; access = r.access }

-- parameters of functions without a body have no skeleton
abbrev pub naming_has : Spelling → Names → Naming → Having
naming_has u s a_name = with_skeleton
naming_has u s (own_param f n) = of_function (function_at u s f)
naming_has u s other_param = without_skeleton
naming_has u s (identified_param f) = of_function (function_at u s f)

-- the skeletons that begin at an op of expressions
abbrev pub expr_op_starts : Spelling → Names → State → Rounds → ExprOp → List Start
expr_op_starts u s st r (exprs.Name is_called token name) =
    use_start (around u s r) token (use_at s.uses (place u token))
expr_op_starts u s st r (exprs.Number token) = fresh (around u s r) token (base [])
expr_op_starts u s st r (exprs.Char token) = fresh (around u s r) token (base [])
expr_op_starts u s st r (exprs.Text token) = fresh (around u s r) token (pointer [] text_type)
expr_op_starts u s st r (exprs.Paren token) = []
expr_op_starts u s st r (exprs.Ext token) = []
expr_op_starts u s st r (exprs.Comma token) = []
expr_op_starts u s st r (exprs.Assign sign token first last) = []
expr_op_starts u s st r (exprs.Cond has_middle token first last) =
    fresh_where (not (is_zero_at 1 st) && not (is_zero_at 0 st))
    (some_fresh (around u s r) token (shape_at 0 (expr_step u s st (exprs.Cond has_middle token first last))).type)
expr_op_starts u s st r (exprs.Binary sign token first last) =
    fresh_where (is_fresh_binary sign (is_some_pointer (value_at 1 st)) (is_some_pointer (value_at 0 st)))
    (fresh (around u s r) token (base []))
expr_op_starts u s st r (exprs.Prefix sign token last aims) =
    prefix_starts sign (aims && r.access) (around u s r) token (shape_at 0 st)
expr_op_starts u s st r (exprs.Post sign token first) = []
expr_op_starts u s st r (exprs.Index token first last aims) = []
expr_op_starts u s st r (exprs.Arg behind first last) = []
expr_op_starts u s st r (exprs.Call token count) = []
expr_op_starts u s st r (exprs.Arrow token first last aims) = []
expr_op_starts u s st r (exprs.Dot token member name) = []
expr_op_starts u s st r (exprs.Label token) = fresh (around u s r) token (pointer [] (void []))

-- the candidates of a selection by a type, with so many associations on the stacks
abbrev pub selected_among : ℕ → State → List Candidate
selected_among count st = selected_by (value_at (twice count) st) (associations count st)

-- which associations of the selection at a token are candidates, with so many of them on the stacks
abbrev pub selection_at : Spelling → State → ℕ → ℕ → Selection
selection_at u st token count = record {
  at = place u token;
  flags = candidate_flags (has_of_type (value_at (twice count) st) (associations count st)) (value_at (twice count) st)
      (associations count st);
}

-- the selection by a type that an op of the forms with type names ends, where it does
abbrev pub form_op_selections : Spelling → State → FormOp → List Selection
form_op_selections u st (forms.Cast token last) = []
form_op_selections u st (forms.Sizeof token) = []
form_op_selections u st (forms.StmtExpr has_value token) = []
form_op_selections u st (forms.VaArg token last) = []
form_op_selections u st (forms.VaStart token last) = []
form_op_selections u st (forms.VaCopy token last) = []
form_op_selections u st (forms.OffsetMember token name) = []
form_op_selections u st (forms.OffsetIndex token) = []
form_op_selections u st (forms.Offset token) = []
form_op_selections u st (forms.Compat token) = []
form_op_selections u st forms.Control = []
form_op_selections u st forms.NoType = []
form_op_selections u st (forms.Choose token) = []
form_op_selections u st (forms.Generic token count) = selection_at u st token count ∷ []

-- the selection by a type that an op ends, where it does
abbrev pub op_selections : Spelling → State → Op → List Selection
op_selections u st (ops.Expr op) = []
op_selections u st (ops.Form op) = form_op_selections u st op
op_selections u st (ops.Init op) = []
op_selections u st (ops.Spec op) = []
op_selections u st (ops.Declr op) = []
op_selections u st (ops.Stmt op) = []

-- the selections by a type along a tape
abbrev pub selections_found : Spelling → Names → State → List Op → List Selection
selections_found u s st [] = []
selections_found u s st (op ∷ tape) = op_selections u st op ++ selections_found u s (step u s st op) tape

-- the skeletons that begin at an op of the forms with type names
abbrev pub form_op_starts : Spelling → Names → State → Rounds → FormOp → List Start
form_op_starts u s st r (forms.Cast token last) = some_fresh (around u s r) token (type_at 1 st)
form_op_starts u s st r (forms.Sizeof token) = fresh (around u s (left r)) token (base [])
form_op_starts u s st r (forms.StmtExpr has_value token) =
    fresh_where (not has_value) (fresh (around u s r) token (void []))
form_op_starts u s st r (forms.VaArg token last) = some_fresh (around u s r) token (type_at 0 st)
form_op_starts u s st r (forms.VaStart token last) = fresh (around u s r) token (void [])
form_op_starts u s st r (forms.VaCopy token last) = fresh (around u s r) token (void [])
form_op_starts u s st r (forms.OffsetMember token name) = []
form_op_starts u s st r (forms.OffsetIndex token) = []
form_op_starts u s st r (forms.Offset token) = fresh (around u s (left r)) token (base [])
form_op_starts u s st r (forms.Compat token) = fresh (around u s (left r)) token (base [])
form_op_starts u s st r forms.Control = []
form_op_starts u s st r forms.NoType = []
form_op_starts u s st r (forms.Choose token) =
    fresh_where (is_fresh_pick (chosen st)) (some_fresh (around u s r) token (pick_shape (chosen st)).type)
form_op_starts u s st r (forms.Generic token count) =
    fresh_where (is_fresh_pick (selected_among count st))
    (some_fresh (around u s r) token (pick_shape (selected_among count st)).type)

-- the skeletons that begin at an op of initialisers: of compound literals alone
abbrev pub init_op_starts : Spelling → Names → State → Rounds → InitOp → List Start
init_op_starts u s st r (inits.Value first last) = []
init_op_starts u s st r inits.Begin = []
init_op_starts u s st r inits.Rule = []
init_op_starts u s st r (inits.Literal token) =
    some_fresh (around u s r) token (some_place (type_of_operand (first_operand (operands_below st))))
init_op_starts u s st r inits.ListBegin = []
init_op_starts u s st r (inits.Member token name) = []
init_op_starts u s st r (inits.Index token) = []
init_op_starts u s st r (inits.Leaf first last) = []
init_op_starts u s st r inits.ListEnd = []
init_op_starts u s st r inits.End = []
init_op_starts u s st r inits.LiteralEnd = []

-- the skeletons that begin at an op of specifiers: of members without a name alone
abbrev pub spec_op_starts : Spelling → Names → Rounds → SpecOp → List Start
spec_op_starts u s r (specs.Word token) = []
spec_op_starts u s r (specs.Storage keyword) = []
spec_op_starts u s r specs.Void = []
spec_op_starts u s r (specs.Typedef token name) = []
spec_op_starts u s r (specs.TagUse kind token name) = []
spec_op_starts u s r (specs.TagAlone kind token name) = []
spec_op_starts u s r (specs.TagBody kind token name) = []
spec_op_starts u s r (specs.Untagged kind token) = []
spec_op_starts u s r specs.BodyEnd = []
spec_op_starts u s r (specs.Enumerator token name) = []
spec_op_starts u s r (specs.UnnamedMember token) = name_start (around u s r) token
spec_op_starts u s r specs.PartBegin = []
spec_op_starts u s r (specs.TypeofEnd token) = []
spec_op_starts u s r specs.TypeEnd = []
spec_op_starts u s r specs.SpecsEnd = []

-- the skeletons that begin at an op of declarators: of declared names alone
abbrev pub declr_op_starts : Spelling → Names → Rounds → DeclrOp → List Start
declr_op_starts u s r (declrs.DeclName token name) = had_name (naming_has u s (naming r)) (around u s r) token
declr_op_starts u s r (declrs.ParamsBegin is_own) = []
declr_op_starts u s r declrs.Param = []
declr_op_starts u s r declrs.ParamsEnd = []
declr_op_starts u s r declrs.Pointer = []
declr_op_starts u s r declrs.Array = []
declr_op_starts u s r (declrs.Function has_ellipsis) = []
declr_op_starts u s r declrs.Declare = []
declr_op_starts u s r declrs.AutoBegin = []
declr_op_starts u s r (declrs.AutoEnd token) = []
declr_op_starts u s r (declrs.Identifier token name) = []
declr_op_starts u s r declrs.OldParam = []
declr_op_starts u s r declrs.Member = []
declr_op_starts u s r (declrs.TypeName first) = []
declr_op_starts u s r declrs.DeclarationEnd = []

-- the skeletons that begin at an op
abbrev pub op_starts : Spelling → Names → State → Rounds → Op → List Start
op_starts u s st r (ops.Expr op) = expr_op_starts u s st r op
op_starts u s st r (ops.Form op) = form_op_starts u s st r op
op_starts u s st r (ops.Init op) = init_op_starts u s st r op
op_starts u s st r (ops.Spec op) = spec_op_starts u s r op
op_starts u s st r (ops.Declr op) = declr_op_starts u s r op
op_starts u s st r (ops.Stmt op) = []

-- the skeletons that begin along a tape
abbrev pub starts_found : Spelling → Names → State → Rounds → List Op → List Start
starts_found u s st r [] = []
starts_found u s st r (op ∷ tape) =
    op_starts u s st r op ++ starts_found u s (step u s st op) (round_step st.declarations r op) tape

-- the skeletons that begin along the tape of a unit
abbrev pub unit_starts : Bool → Spelling → Names → List Op → List Start
unit_starts access u s tape = starts_found u s nothing (file access) tape
