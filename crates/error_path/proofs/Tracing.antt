-- A path that is followed back from a bound.
use Rattle.std.proofs.Common.{◌≡◌, ℕ, zero, suc, ◌<◌, length, true, false, slice_get, IfNone, IsSome, inl, inr, IfSome, MatchOption, arith, List, [], ◌∷◌, ◌++◌, Option, Some, None, refl, sym, ◌∙◌, ap, subst}
use Rattle.lattice_core.specs.Order.{Order, leq}
use Rattle.lattice_core.specs.View.{LatticeView}
use Rattle.lattice_core.proofs.Bits.{or_either}
use Rattle.flow_graph.specs.declared.constraint.Limit.{Limit}
use Rattle.flow_graph.specs.Paths.{Lead}
use Rattle.flow_graph.specs.declared.constraint.Constraint.{Constraint}
use Rattle.lattice_solver.specs.Phases.{set_of}
use Rattle.lattice_solver.specs.Solution.{Solution, Exceeds, HasElement, IsSolved, IsUnder}
use Rattle.flow_graph.specs.declared.constraint.Link.TheVariants.{Bound, Leave}
use Rattle.flow_graph.specs.declared.proof.PathStep.{PathStep}
use Rattle.flow_graph.specs.declared.proof.PathStep.TheVariants.{Take, Sub}
use Rattle.flow_graph.specs.System.{System, Stands}
use Rattle.match_summary.specs.declared.reason.Summary.{Summary}
use Rattle.match_summary.specs.Summary.{Leads}
use Rattle.flow_graph.specs.declared.phase.Phase.{Phase}
use Rattle.flow_graph.specs.declared.phase.Phase.TheVariants.{First, Second}
use Rattle.error_path.specs.declared.search.Cause.{Cause}
use Rattle.error_path.specs.declared.search.Cause.TheVariants.{Start, Here}
use Rattle.error_path.specs.declared.search.Origin.{Origin}
use Rattle.error_path.specs.declared.search.Reached.{Reached}
use Rattle.error_path.specs.declared.steps.Pair.{Pair}
use Rattle.flow_graph.specs.Parts.{Flow, Empty, Full, Goal, ToBound, Onward, Along, Back, Into, IsPath}
use Rattle.error_path.specs.Made.{group_steps, IsInner}
use Rattle.error_path.specs.Reaching.{LeadsBy, ByFlow, ByLeave, ByEnter, LeadsAround, ComesBy}
use Rattle.error_path.specs.Traced.{FromConstant, IsJoinedBy, IsTraced}
use Rattle.error_path.proofs.Resting.{has_of}

module _ (sys : System) (lattice : ℕ) (subs : List (List PathStep)) (goal : Goal) where
  pub traced_step : (n : ℕ) (p : Phase) (u : ℕ) (q : Phase) (v : ℕ) (rest : List PathStep)
      → LeadsBy sys lattice n p u q v → Onward sys lattice subs goal q v rest →
      Onward sys lattice subs goal p u (Take n 0 ∷ rest)
  traced_step n p u q v rest (ByFlow _ _ _ _ _ st is) on =
      Along goal p u v (Take n 0 ∷ []) rest (Flow u v n st) (subst (λ f. Onward sys lattice subs goal f v rest) is on)
  traced_step n _ u q v rest (ByLeave _ s _ _ _ st is) on =
      Back goal u v s n rest st (subst (λ f. Onward sys lattice subs goal f v rest) is on)
  traced_step n p u q v rest (ByEnter _ s _ _ _ _ st is) on =
      Into goal p u v s n rest st (subst (λ f. Onward sys lattice subs goal f v rest) is on)

  pub traced_group : (enter leave : ℕ) (p : Phase) (u : ℕ) (q : Phase) (v : ℕ) (rows : List Summary)
      (rest : List PathStep) (number : Option ℕ) (a : LeadsAround sys lattice rows enter leave p u q v) →
      IsJoinedBy sys subs number a.inner a.last → Onward sys lattice subs goal q v rest
      → Onward sys lattice subs goal p u (group_steps enter number leave ++ rest)
  traced_group enter leave p u q v rows rest None a same on =
      let Back : ℕ → Type 0 = λ x. Stands sys lattice leave (Leave a.site x v) in
      Along goal p u v (Take enter 0 ∷ Take leave 0 ∷ []) rest
      (Empty u a.inner v a.site enter leave a.enters (subst Back (sym same) a.leaves))
      (subst (λ f. Onward sys lattice subs goal f v rest) a.phase_is on)
  traced_group enter leave p u q v rows rest (Some k) a looks on =
      Along goal p u v (Take enter 0 ∷ Sub k 0 ∷ Take leave 0 ∷ []) rest
      (Full u a.inner a.last v a.site enter leave k a.enters looks a.leaves)
      (subst (λ f. Onward sys lattice subs goal f v rest) a.phase_is on)

  -- where steps begin at what the search goes out from
  pub traced_start : (origin : Origin) (rows : List Summary) (queue : List Reached) (place n : ℕ) (q : Phase) (v : ℕ)
      (rest : List PathStep) →
      ComesBy sys lattice origin rows queue place q v (Start n) → Onward sys lattice subs goal q v rest
      → IsTraced sys lattice subs origin goal (Take n 0 ∷ rest)
  traced_start origin rows queue place n q v rest comes on =
      subst (λ (o : Origin). IsTraced sys lattice subs o goal (Take n 0 ∷ rest)) (sym comes.1)
      (record {
        start = n;
        from = v;
        constant = comes.2;
        rest = rest;
        onward = subst (λ f. Onward sys lattice subs goal f v rest) comes.3 on;
        steps_are = refl;
      })

  pub traced_here : (origin : Origin) (rows : List Summary) (queue : List Reached) (place : ℕ) (q : Phase) (v : ℕ)
      (steps : List PathStep) →
      ComesBy sys lattice origin rows queue place q v Here → Onward sys lattice subs goal q v steps
      → IsTraced sys lattice subs origin goal steps
  traced_here origin rows queue place q v steps comes on =
      subst (λ (o : Origin). IsTraced sys lattice subs o goal steps) (sym comes.0)
      (subst (λ f. Onward sys lattice subs goal f v steps) comes.1 on)

-- steps from a constant to a bound are a path
pub path_of : (sys : System) (lattice : ℕ) (subs : List (List PathStep)) (elem bound : ℕ) (steps : List PathStep)
    → FromConstant sys lattice subs elem (ToBound bound) steps →
    IsPath sys lattice subs elem bound steps
path_of sys lattice subs elem bound steps f = record {
  start = f.start;
  from = f.from;
  constant = f.constant;
  rest = f.rest;
  onward = f.onward;
  steps_are = f.steps_are;
}

-- what a cause says of a variable, by the cause's form
pub comes_as : (sys : System) (lattice : ℕ) (origin : Origin) (rows : List Summary) (queue : List Reached) (place : ℕ)
    (q : Phase) (v : ℕ) (cause other : Cause)
    → cause ≡ other →
    ComesBy sys lattice origin rows queue place q v cause → ComesBy sys lattice origin rows queue place q v other
comes_as sys lattice origin rows queue place q v cause other is comes =
    subst (λ x. ComesBy sys lattice origin rows queue place q v x) is comes

-- the variables inside a group are those of its Enter and its Leave
module _ (sys : System) (lattice : ℕ) (rows : List Summary) (enter leave : ℕ) (p : Phase) (u : ℕ) (q : Phase) (v : ℕ)
    (a : LeadsAround sys lattice rows enter leave p u q v) (pair : Pair)
    (inner : IsInner sys enter leave pair) where
  from_is : pair.from ≡ a.inner
  from_is = inner.from a.site u a.inner (has_of sys lattice enter _ a.enters)

  to_is : pair.to ≡ a.last
  to_is = inner.to a.site a.last v (has_of sys lattice leave _ a.leaves)

  pub around_leads : Leads rows pair.from pair.to
  around_leads =
      let From : ℕ → Type 0 = λ x. Leads rows x pair.to in
      let To : ℕ → Type 0 = λ x. Leads rows a.inner x in
      subst From (sym from_is) (subst To (sym to_is) a.joined)

  pub around_joined : (subs : List (List PathStep)) (number : Option ℕ) → IsJoinedBy sys subs number pair.from pair.to
      → IsJoinedBy sys subs number a.inner a.last
  around_joined subs number joined =
      let From : ℕ → Type 0 = λ x. IsJoinedBy sys subs number x a.last in
      let To : ℕ → Type 0 = λ x. IsJoinedBy sys subs number pair.from x in
      subst From from_is (subst To to_is joined)

-- what an answer says where it is there, and where it is not
pub match_some : (A : Type 0) (B : ℕ → Type 0) (o : Option ℕ) (n : ℕ) → o ≡ Some n → MatchOption o A B → B n
match_some A B o n is given = let Of : Option ℕ → Type 0 = λ x. MatchOption x A B in subst Of is given

pub match_none : (A : Type 0) (B : ℕ → Type 0) (o : Option ℕ) → o ≡ None → MatchOption o A B → A
match_none A B o is given = let Of : Option ℕ → Type 0 = λ x. MatchOption x A B in subst Of is given

pub some_given : (B : ℕ → Type 0) (o : Option ℕ) (n : ℕ) → o ≡ Some n → IfSome o B → B n
some_given B o n is given = let Of : Option ℕ → Type 0 = λ x. IfSome x B in subst Of is given

pub some_reached : {x y : Reached} → Some x ≡ Some y → x ≡ y
some_reached e = cc

-- an element that reaches a variable leads to it
pub reached_leads : (sys : System) (solution : Solution) → IsSolved sys solution → (v e : ℕ) → HasElement solution v e
    → Lead sys solution.lattice e v
reached_leads sys solution solved v e has =
    elim (or_either (set_of solution.phases First v) (set_of solution.phases Second v) e has) [
      | inl first ↦ inl ((solved.exact First v e).0 first)
      | inr second ↦ inr ((solved.exact Second v e).0 second)
    ]

-- each bound of a number is the one that the element exceeds
pub bound_over : (sys : System) (solution : Solution) (order : Order) (bound elem : ℕ)
    → Exceeds sys solution order bound elem → (v limit : ℕ) →
    Stands sys solution.lattice bound (Bound v solution.lattice limit) → leq order elem limit ≡ false
bound_over sys solution order bound elem ex v limit st =
    let same : ex.bound.constraint ≡ st.constraint = same_constraint (sym ex.bound.there ∙ st.there) in
    let links : Bound ex.var solution.lattice ex.limit ≡ Bound v solution.lattice limit =
    sym ex.bound.link_is ∙ ap (λ (c : Constraint). c.link) same ∙ st.link_is in
    let limits : ex.limit ≡ limit = cc in
    subst (λ l. leq order elem l ≡ false) limits ex.over
  where
    same_constraint : {x y : Constraint} → Some x ≡ Some y → x ≡ y
    same_constraint e = cc

-- a list of lattices has one at each number below its length
pub view_at : (views : List LatticeView) (n : ℕ) → n < length views
    → (view : LatticeView) × (slice_get views n ≡ Some view)
view_at [] n lt = absurd (omega (arith, lt))
view_at (x ∷ views) zero lt = (x, refl)
view_at (x ∷ views) (suc n) lt = view_at views n (omega (arith, lt))

pub some_view : {x y : LatticeView} → Some x ≡ Some y → x ≡ y
some_view e = cc

-- what is not as none would say is there
pub some_if : (o : Option ℕ) (A : Type 0) → IfNone o A → (A → ⊥) → IsSome o
some_if None A a not = absurd (not a)
some_if (Some n) A a not = refl

-- an element exceeds a bound where not all are below it
pub not_under : (sys : System) (solution : Solution) (order : Order) (bound elem : ℕ)
    → Exceeds sys solution order bound elem → IsUnder sys solution order bound → ⊥
not_under sys solution order bound elem ex under =
    let is : true ≡ false = sym (under ex.var ex.limit elem ex.bound ex.reached) ∙ ex.over in cc

pub limit_given : (A : Type 0) (B : Limit → Type 0) (o : Option Limit) (limit : Limit) → o ≡ Some limit
    → MatchOption o A B → B limit
limit_given A B o limit is given = let Of : Option Limit → Type 0 = λ x. MatchOption x A B in subst Of is given

-- a bound is at one variable
pub bound_at : (sys : System) (lattice n : ℕ) (constraint : Constraint) (v b w d l : ℕ)
    → Stands sys lattice n (Bound v lattice b) → slice_get sys.constraints n ≡ Some constraint →
    constraint.link ≡ Bound w l d → v ≡ w
bound_at sys lattice n constraint v b w d l st there is =
    let same : st.constraint ≡ constraint = same_constraint (sym st.there ∙ there) in
    let links : Bound v lattice b ≡ Bound w l d = sym st.link_is ∙ ap (λ (c : Constraint). c.link) same ∙ is in
    cc
  where
    same_constraint : {x y : Constraint} → Some x ≡ Some y → x ≡ y
    same_constraint e = cc
