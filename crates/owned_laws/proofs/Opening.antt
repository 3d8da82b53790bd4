-- What each op of a tape opens and ends of declarations, by the steps of shapes and by those of skeletons.
use Rattle.std.proofs.Common.{◌≡◌, Bool, true, false, List, ◌∷◌, None, refl, sym, ◌∙◌, ap}
use Rattle.std.specs.Prelude.{◌&&◌, if◌then◌else◌}
use Rattle.tape_ops.specs.declared.op.Op.{Op}
use Rattle.tape_ops.specs.declared.op.Op.TheVariants as ops
use Rattle.tape_ops.specs.declared.expression.ExprOp.TheVariants as exprs
use Rattle.tape_ops.specs.declared.form.FormOp.TheVariants as forms
use Rattle.tape_ops.specs.declared.initialiser.InitOp.TheVariants as inits
use Rattle.tape_ops.specs.declared.specifier.SpecOp.TheVariants as specs
use Rattle.tape_ops.specs.declared.declarator.DeclrOp.TheVariants as declrs
use Rattle.tape_ops.specs.declared.statement.StmtOp.TheVariants as stmts
use Rattle.name_rules.specs.Spellings.{Spelling}
use Rattle.name_rules.specs.Scopes.{Names}
use Rattle.name_rules.specs.ShapeSteps.State as shapes
use Rattle.name_rules.specs.ShapeSteps.State.{OpenDeclaration, with_name, with_declared, without_name, without_innermost, changed}
use Rattle.name_rules.specs.ShapeSteps.Steps as shape_steps
use Rattle.name_rules.specs.Checks.{is_star}
use Rattle.qual_types.specs.Skel.{Skel}
use Rattle.row_rules.specs.Vals.{is_ref}
use Rattle.row_rules.specs.Worlds.{World}
use Rattle.row_rules.specs.RowSteps.State.{State, value_at}
use Rattle.tape_ops.specs.declared.form.FormOp.{FormOp}
use Rattle.tape_ops.specs.declared.specifier.SpecOp.{SpecOp}
use Rattle.tape_ops.specs.declared.declarator.DeclrOp.{DeclrOp}
use Rattle.tape_ops.specs.declared.statement.StmtOp.{StmtOp}
use Rattle.row_rules.specs.RowSteps.Rounds.{Rounds}
use Rattle.row_rules.specs.RowSteps.Rounds as rounds
use Rattle.row_rules.specs.RowSteps.Steps.{carrying, step}

-- the open declarations behind an op, by those before it
abbrev pub opens : Op → List OpenDeclaration → List OpenDeclaration
opens (ops.Spec specs.SpecsEnd) ds = record { name = None; declared = None } ∷ ds
opens (ops.Declr (declrs.DeclName token name)) ds = changed (with_name token) ds
opens (ops.Declr declrs.Param) ds = without_innermost ds
opens (ops.Declr declrs.Declare) ds = changed with_declared ds
opens (ops.Declr (declrs.AutoEnd token)) ds = changed with_declared ds
opens (ops.Declr declrs.OldParam) ds = changed with_declared ds
opens (ops.Declr declrs.Member) ds = changed without_name ds
opens (ops.Declr (declrs.TypeName first)) ds = without_innermost ds
opens (ops.Declr declrs.DeclarationEnd) ds = without_innermost ds
opens op ds = ds

-- a pointer that is noted opens none
carrying_opens : (aims : Bool) (pointer : Skel) (st : State) → (carrying aims pointer st).declarations ≡ st.declarations
carrying_opens true pointer st = refl
carrying_opens false pointer st = refl

-- a step of skeletons opens and ends the declarations that the op does
pub row_opens : (w : World) (st : State) (op : Op) → (step w st op).declarations ≡ opens op st.declarations
row_opens w st (ops.Expr (exprs.Comma token)) = refl
row_opens w st (ops.Expr (exprs.Prefix sign token last aims)) = carrying_opens (aims && is_star sign) (value_at 0 st) st
row_opens w st (ops.Expr (exprs.Index token first last aims)) =
    carrying_opens aims (if is_ref (value_at 1 st) then value_at 1 st else value_at 0 st) st
row_opens w st (ops.Expr (exprs.Arrow token first last aims)) = carrying_opens aims (value_at 0 st) st
row_opens w st (ops.Expr op) = refl
row_opens w st (ops.Form (forms.StmtExpr true token)) = refl
row_opens w st (ops.Form (forms.StmtExpr false token)) = refl
row_opens w st (ops.Form op) = refl
row_opens w st (ops.Init inits.Begin) = refl
row_opens w st (ops.Init op) = refl
row_opens w st (ops.Spec specs.SpecsEnd) = refl
row_opens w st (ops.Spec op) = refl
row_opens w st (ops.Declr declrs.Param) = refl
row_opens w st (ops.Declr op) = refl
row_opens w st (ops.Stmt stmts.Quiet) = refl
row_opens w st (ops.Stmt op) = refl

-- a step of shapes opens and ends the declarations that the op does
pub shape_opens : (u : Spelling) (s : Names) (st : shapes.State) (op : Op) →
    (shape_steps.step u s st op).declarations ≡ opens op st.declarations
shape_opens u s st (ops.Expr (exprs.Comma token)) = refl
shape_opens u s st (ops.Expr op) = refl
shape_opens u s st (ops.Form (forms.StmtExpr true token)) = refl
shape_opens u s st (ops.Form (forms.StmtExpr false token)) = refl
shape_opens u s st (ops.Form op) = refl
shape_opens u s st (ops.Init inits.Begin) = refl
shape_opens u s st (ops.Init op) = refl
shape_opens u s st (ops.Spec specs.SpecsEnd) = refl
shape_opens u s st (ops.Spec op) = refl
shape_opens u s st (ops.Declr declrs.Param) = refl
shape_opens u s st (ops.Declr op) = refl
shape_opens u s st (ops.Stmt stmts.Quiet) = refl
shape_opens u s st (ops.Stmt op) = refl

-- both kinds of steps have the same open declarations
abbrev pub Alike : World → shapes.State → State → Type 0
Alike w sst st = sst.declarations ≡ st.declarations

pub alike : (w : World) (sst : shapes.State) (st : State) (op : Op) → Alike w sst st →
    Alike w (shape_steps.step w.spelling w.names sst op) (step w st op)
alike w sst st op e = shape_opens w.spelling w.names sst op ∙ ap (opens op) e ∙ sym (row_opens w st op)

-- the function whose body this is

pub form_body : (r : Rounds) (op : FormOp) → (rounds.form_round r op).body ≡ r.body
form_body r (forms.Sizeof token) = refl
form_body r op = refl

pub spec_body : (r : Rounds) (op : SpecOp) → (rounds.spec_round r op).body ≡ r.body
spec_body r specs.BodyEnd = refl
spec_body r op = refl

pub declr_body : (declarations : List OpenDeclaration) (r : Rounds) (op : DeclrOp) →
    (rounds.declr_round declarations r op).body ≡ r.body
declr_body declarations r declrs.Param = refl
declr_body declarations r op = refl

-- rows say nothing of whether some lattice bounds accesses

abbrev pub with_access : Bool → Rounds → Rounds
with_access access r = record r { access = access }

form_access : (access : Bool) (r : Rounds) (op : FormOp) →
    rounds.form_round (with_access access r) op ≡ with_access access (rounds.form_round r op)
form_access access r (forms.Sizeof token) = refl
form_access access r op = refl

spec_access : (access : Bool) (r : Rounds) (op : SpecOp) →
    rounds.spec_round (with_access access r) op ≡ with_access access (rounds.spec_round r op)
spec_access access r specs.BodyEnd = refl
spec_access access r op = refl

declr_access : (access : Bool) (ds : List OpenDeclaration) (r : Rounds) (op : DeclrOp) →
    rounds.declr_round ds (with_access access r) op ≡ with_access access (rounds.declr_round ds r op)
declr_access access ds r declrs.Param = refl
declr_access access ds r op = refl

stmt_access : (access : Bool) (ds : List OpenDeclaration) (r : Rounds) (op : StmtOp) →
    rounds.stmt_round ds (with_access access r) op ≡ with_access access (rounds.stmt_round ds r op)
stmt_access access ds r stmts.Quiet = refl
stmt_access access ds r op = refl

-- whether accesses are bounded plays no part in a step of rounds, and stays as it is
pub step_access : (access : Bool) (ds : List OpenDeclaration) (r : Rounds) (op : Op) →
    rounds.round_step ds (with_access access r) op ≡ with_access access (rounds.round_step ds r op)
step_access access ds r (ops.Expr op) = refl
step_access access ds r (ops.Form op) = form_access access r op
step_access access ds r (ops.Init op) = refl
step_access access ds r (ops.Spec op) = spec_access access r op
step_access access ds r (ops.Declr op) = declr_access access ds r op
step_access access ds r (ops.Stmt op) = stmt_access access ds r op
