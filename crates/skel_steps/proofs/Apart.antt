-- What is around an op is changed apart from the stacks.
use Rattle.std.proofs.Common.{◌≡◌, ◌∙◌, ℕ, zero, suc, Bool, true, false, ◌&&◌, if◌then◌else◌, List, [], ◌∷◌, ◌++◌, refl, ap}
use Rattle.tape_ops.specs.declared.op.Op.{Op}
use Rattle.tape_ops.specs.declared.op.Op.TheVariants as ops
use Rattle.tape_ops.specs.declared.expression.ExprOp.{ExprOp}
use Rattle.tape_ops.specs.declared.expression.ExprOp.TheVariants as exprs
use Rattle.tape_ops.specs.declared.form.FormOp.{FormOp}
use Rattle.tape_ops.specs.declared.form.FormOp.TheVariants as forms
use Rattle.tape_ops.specs.declared.initialiser.InitOp.{InitOp}
use Rattle.tape_ops.specs.declared.initialiser.InitOp.TheVariants as inits
use Rattle.tape_ops.specs.declared.specifier.SpecOp.{SpecOp}
use Rattle.tape_ops.specs.declared.specifier.SpecOp.TheVariants as specs
use Rattle.tape_ops.specs.declared.declarator.DeclrOp.{DeclrOp}
use Rattle.tape_ops.specs.declared.declarator.DeclrOp.TheVariants as declrs
use Rattle.tape_ops.specs.declared.statement.StmtOp.{StmtOp}
use Rattle.tape_ops.specs.declared.statement.StmtOp.TheVariants as stmts
use Rattle.qual_types.specs.Skel.{Skel}
use Rattle.name_rules.specs.Checks.{is_star}
use Rattle.name_rules.specs.ShapeSteps.Steps.{twice}
use Rattle.row_rules.specs.Worlds.{World, at}
use Rattle.row_rules.specs.Vals.{Val, Candidate, a_value, contents, is_ref, index_of, own, pick_of, prefix_of}
use Rattle.row_rules.specs.RowSteps.Rounds.{Rounds}
use Rattle.row_rules.specs.RowSteps.State.{State, put, val_at, value_at}
use Rattle.row_rules.specs.RowSteps.Steps.{expr_step, form_step, init_step, spec_step, declr_step, stmt_step, stack_step, with_round_step, step, carrying, candidate_at, selected}

-- also where a pointer is kept on the way
aside : (b : Bool) (pointer : Skel) (n : ℕ) (v : Val) (st : State) (r : Rounds) →
    put n v (carrying b pointer (record st { rounds = r })) ≡ record (put n v (carrying b pointer st)) { rounds = r }
aside true pointer n v st r = refl
aside false pointer n v st r = refl

-- the candidates of a selection are the same with other rounds
selected_apart : (w : World) (token i n : ℕ) (st : State) (r : Rounds) →
    selected w token i n (record st { rounds = r }) ≡ selected w token i n st
selected_apart w token i zero st r = refl
selected_apart w token i (suc n) st r =
    ap (λ (others : List Candidate).
    (if w.candidate (at w token) i then candidate_at (twice n) st ∷ [] else []) ++ others)
    (selected_apart w token (suc i) n st r)

-- an op of expressions steps the stacks the same with other rounds, which stay
expr_apart : (w : World) (st : State) (r : Rounds) (op : ExprOp) →
    expr_step w (record st { rounds = r }) op ≡ record (expr_step w st op) { rounds = r }
expr_apart w st r (exprs.Name a b c) = refl
expr_apart w st r (exprs.Number a) = refl
expr_apart w st r (exprs.Char a) = refl
expr_apart w st r (exprs.Text a) = refl
expr_apart w st r (exprs.Paren a) = refl
expr_apart w st r (exprs.Ext a) = refl
expr_apart w st r (exprs.Comma a) = refl
expr_apart w st r (exprs.Assign a b c d) = refl
expr_apart w st r (exprs.Cond a b c d) = refl
expr_apart w st r (exprs.Binary a b c d) = refl
expr_apart w st r (exprs.Prefix a b c aims) =
    aside (aims && is_star a) (value_at 0 st) 1 (prefix_of w b a (val_at 0 st) aims) st r
expr_apart w st r (exprs.Post a b c) = refl
expr_apart w st r (exprs.Index a b c aims) =
    aside aims (if is_ref (value_at 1 st) then value_at 1 st else value_at 0 st) 2
    (index_of w.spelling.wide (val_at 1 st) (val_at 0 st)) st r
expr_apart w st r (exprs.Arg a b c) = refl
expr_apart w st r (exprs.Call a b) = refl
expr_apart w st r (exprs.Arrow a b c aims) =
    aside aims (value_at 0 st) 1 (a_value (contents (value_at 0 st))) st r
expr_apart w st r (exprs.Dot a b c) = refl
expr_apart w st r (exprs.Label a) = refl

-- an op of forms steps the stacks the same with other rounds, which stay
form_apart : (w : World) (st : State) (r : Rounds) (op : FormOp) →
    form_step w (record st { rounds = r }) op ≡ record (form_step w st op) { rounds = r }
form_apart w st r (forms.Cast a b) = refl
form_apart w st r (forms.Sizeof a) = refl
form_apart w st r (forms.StmtExpr true a) = refl
form_apart w st r (forms.StmtExpr false a) = refl
form_apart w st r (forms.VaArg a b) = refl
form_apart w st r (forms.VaStart a b) = refl
form_apart w st r (forms.VaCopy a b) = refl
form_apart w st r (forms.OffsetMember a b) = refl
form_apart w st r (forms.OffsetIndex a) = refl
form_apart w st r (forms.Offset a) = refl
form_apart w st r (forms.Compat a) = refl
form_apart w st r forms.Control = refl
form_apart w st r forms.NoType = refl
form_apart w st r (forms.Choose a) = refl
form_apart w st r (forms.Generic token count) =
    ap (λ (all : List Candidate). put (suc (twice count)) (pick_of (own w token) all) (record st { rounds = r }))
    (selected_apart w token 0 count st r)

-- an op of initialisers steps the stacks the same with other rounds, which stay
init_apart : (w : World) (st : State) (r : Rounds) (op : InitOp) →
    init_step w (record st { rounds = r }) op ≡ record (init_step w st op) { rounds = r }
init_apart w st r (inits.Value a b) = refl
init_apart w st r inits.Begin = refl
init_apart w st r inits.Rule = refl
init_apart w st r (inits.Literal a) = refl
init_apart w st r inits.ListBegin = refl
init_apart w st r (inits.Member a b) = refl
init_apart w st r (inits.Index a) = refl
init_apart w st r (inits.Leaf a b) = refl
init_apart w st r inits.ListEnd = refl
init_apart w st r inits.End = refl
init_apart w st r inits.LiteralEnd = refl

-- an op of specifiers steps the stacks the same with other rounds, which stay
spec_apart : (st : State) (r : Rounds) (op : SpecOp) →
    spec_step (record st { rounds = r }) op ≡ record (spec_step st op) { rounds = r }
spec_apart st r (specs.Word a) = refl
spec_apart st r (specs.Storage a) = refl
spec_apart st r specs.Void = refl
spec_apart st r (specs.Typedef a b) = refl
spec_apart st r (specs.TagUse a b c) = refl
spec_apart st r (specs.TagAlone a b c) = refl
spec_apart st r (specs.TagBody a b c) = refl
spec_apart st r (specs.Untagged a b) = refl
spec_apart st r specs.BodyEnd = refl
spec_apart st r (specs.Enumerator a b) = refl
spec_apart st r (specs.UnnamedMember a) = refl
spec_apart st r specs.PartBegin = refl
spec_apart st r (specs.TypeofEnd a) = refl
spec_apart st r specs.TypeEnd = refl
spec_apart st r specs.SpecsEnd = refl

-- an op of declarators steps the stacks the same with other rounds, which stay
declr_apart : (w : World) (st : State) (r : Rounds) (op : DeclrOp) →
    declr_step w (record st { rounds = r }) op ≡ record (declr_step w st op) { rounds = r }
declr_apart w st r (declrs.DeclName a b) = refl
declr_apart w st r (declrs.ParamsBegin a) = refl
declr_apart w st r declrs.Param = refl
declr_apart w st r declrs.ParamsEnd = refl
declr_apart w st r declrs.Pointer = refl
declr_apart w st r declrs.Array = refl
declr_apart w st r (declrs.Function a) = refl
declr_apart w st r declrs.Declare = refl
declr_apart w st r declrs.AutoBegin = refl
declr_apart w st r (declrs.AutoEnd a) = refl
declr_apart w st r (declrs.Identifier a b) = refl
declr_apart w st r declrs.OldParam = refl
declr_apart w st r declrs.Member = refl
declr_apart w st r (declrs.TypeName a) = refl
declr_apart w st r declrs.DeclarationEnd = refl

-- an op of statements steps the stacks the same with other rounds, which stay
stmt_apart : (st : State) (r : Rounds) (op : StmtOp) →
    stmt_step (record st { rounds = r }) op ≡ record (stmt_step st op) { rounds = r }
stmt_apart st r stmts.Quiet = refl
stmt_apart st r stmts.Loud = refl
stmt_apart st r stmts.Pop = refl
stmt_apart st r (stmts.Return a b) = refl
stmt_apart st r stmts.Enter = refl
stmt_apart st r stmts.Leave = refl
stmt_apart st r stmts.FunctionBody = refl
stmt_apart st r stmts.FunctionEnd = refl

-- any op steps the stacks the same with other rounds, which stay
apart : (w : World) (st : State) (r : Rounds) (op : Op) →
    stack_step w (record st { rounds = r }) op ≡ record (stack_step w st op) { rounds = r }
apart w st r (ops.Expr op) = expr_apart w st r op
apart w st r (ops.Form op) = form_apart w st r op
apart w st r (ops.Init op) = init_apart w st r op
apart w st r (ops.Spec op) = spec_apart st r op
apart w st r (ops.Declr op) = declr_apart w st r op
apart w st r (ops.Stmt op) = stmt_apart st r op

-- first what is around, then the stacks
pub stepped : (w : World) (st mid new : State) (op : Op) → mid ≡ with_round_step st op st → new ≡ stack_step w mid op →
    new ≡ step w st op
stepped w st mid new op m n =
    n ∙ ap (λ (s : State). stack_step w s op) m ∙ apart w st (with_round_step st op st).rounds op
