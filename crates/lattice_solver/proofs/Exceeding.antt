-- Which bounds are exceeded, by the sets of what reaches each variable.
use Rattle.std.proofs.Common.{◌≡◌, ◌<◌, ℕ, Bool, true, false, slice_get, Some, None, MatchOption, IfNone, IfSome, IsSome, is_some, nat_eq, eq-eqb, refl, sym, ◌∙◌, ap, subst, ◌↔◌}
use Rattle.std.specs.Int.{bit_at}
use Rattle.std.specs.declared.option.Option.{Option}
use Rattle.std.proofs.lemmas.Bool.{eqb-true}
use Rattle.lattice_core.specs.Order.{Order, size, leq, IsLattice, IsJoinOf}
use Rattle.flow_graph.specs.declared.constraint.Constraint.{Constraint}
use Rattle.flow_graph.specs.declared.constraint.Link.TheVariants.{Bound, Enter}
use Rattle.flow_graph.specs.System.{System, Stands, IsNoBound, IsWellOwned}
use Rattle.flow_graph.specs.Unfolding.{IsExceeded, NamesElementsIn}
use Rattle.flow_graph.specs.Paths.{Lead, Match, Returning}
use Rattle.flow_laws.specs.Deciding.{IsDecided, TestsSolve}
use Rattle.flow_laws.specs.Laws.{SolutionStands}
use Rattle.flow_laws.specs.Least.{IsLeastOver, IsSolution}
use Rattle.lattice_solver.specs.Solution.{Solution, reached_at, HasElement, IsSolved, IsKept, IsUnder, Exceeds, AllUnder, IsOver}
use Rattle.flow_graph.specs.declared.phase.Phase.TheVariants.{First}
use Rattle.flow_graph.proofs.Links.{some_constraint}
use Rattle.lattice_solver.specs.Phases.{set_of}
use Rattle.match_summary.specs.Summary.{HasPair}
use Rattle.lattice_solver.proofs.Leading.{union_leads}
use Rattle.lattice_solver.proofs.Pairs.{pair_tells, test_of}

pub not_both : {b : Bool} → b ≡ true → b ≡ false → ⊥
not_both is not = let both : true ≡ false = sym is ∙ not in cc

module _ (sys : System) (solution : Solution) (order : Order) (solved : IsSolved sys solution)
    (named : NamesElementsIn sys solution.lattice order)
    (lattice : IsLattice order) (stands : SolutionStands) where
  abbrev comes : ℕ → ℕ → Bool
  comes e v = nat_eq (bit_at (reached_at solution v) e) 1

  leads : (e v : ℕ) → HasElement solution v e ↔ Lead sys solution.lattice e v
  leads e v = union_leads sys solution.lattice solution.phases solved.exact v e

  tested : (e v : ℕ) → (comes e v ≡ true) ↔ Lead sys solution.lattice e v
  tested e v = (λ is. (leads e v).0 (eqb-true _ 1 is), λ lead. eq-eqb _ 1 ((leads e v).1 lead))

  least : (s : ℕ → ℕ) × IsSolution sys solution.lattice order s
  least = stands sys solution.lattice order comes lattice named tested

  -- what reaches a variable is an element
  pub reached_element : (v e : ℕ) → HasElement solution v e → e < size order
  reached_element v e has = (lattice.ordered.inside e (least.0 v) ((least.1 v).upper e ((leads e v).0 has))).0

  -- a constraint that is no bound of the lattice is no bound that stands
  pub no_bound : (n : ℕ) (c : Constraint) → slice_get sys.constraints n ≡ Some c → IsNoBound c.link solution.lattice →
      (v b : ℕ) → Stands sys solution.lattice n (Bound v solution.lattice b) → ⊥
  no_bound n c there other v b st =
      other v b (ap (λ (k : Constraint). k.link) (some_constraint (sym there ∙ st.there)) ∙ st.link_is)

  same_bound : {v b w d l : ℕ} → Bound v l b ≡ Bound w l d → (v ≡ w) × (b ≡ d)
  same_bound e = (cc, cc)

  -- where all that reaches the variable of a bound is at or below it, nothing exceeds the bound
  pub bound_under : (n v b : ℕ) → Stands sys solution.lattice n (Bound v solution.lattice b)
      → AllUnder order (reached_at solution v) b → IsUnder sys solution order n
  bound_under n v b st under w d e other has =
      let link =
      sym st.link_is ∙ ap (λ (k : Constraint). k.link) (some_constraint (sym st.there ∙ other.there)) ∙ other.link_is in
      let same = same_bound link in
      let has_here : HasElement solution v e = subst (λ x. HasElement solution x e) (sym same.0) has in
      subst (λ x. leq order e x ≡ true) same.1 (under e (reached_element v e has_here) has_here)

  -- what was looked for in the set of a bound's variable
  pub found_over : (n v b : ℕ) → Stands sys solution.lattice n (Bound v solution.lattice b) → (found : Option ℕ) →
      MatchOption found (AllUnder order (reached_at solution v) b) (IsOver order (reached_at solution v) b) →
      MatchOption found (IsUnder sys solution order n) (Exceeds sys solution order n)
  found_over n v b st None under = bound_under n v b st under
  found_over n v b st (Some e) over =
      record { var = v; limit = b; bound = st; element = over.0; reached = over.1; over = over.2 }

  module _ (owned : IsWellOwned sys) (law : TestsSolve) where
    abbrev returned : ℕ → ℕ → Bool
    returned e v = nat_eq (bit_at (set_of solution.phases First v) e) 1

    returned_is : (e v : ℕ) → (returned e v ≡ true) ↔ Returning sys solution.lattice e v
    returned_is e v =
        (λ is. (solved.exact First v e).0 (eqb-true _ 1 is), λ path. eq-eqb _ 1 ((solved.exact First v e).1 path))

    matched : ℕ → ℕ → Bool
    matched u v = (test_of (HasPair solved.summaries u v) (pair_tells solved.summaries u v)).0

    matched_is : (n s w u v : ℕ) → Stands sys solution.lattice n (Enter s w u)
        → (matched u v ≡ true) ↔ Match sys solution.lattice u v
    unfolding matched
    matched_is n s w u v st =
        let test = (test_of (HasPair solved.summaries u v) (pair_tells solved.summaries u v)).1 in
        (λ is. solved.summarised.sound u v (test.0 is), λ path. test.1 (solved.summarised.whole u v (n, s, w, st) path))

    -- the sets and the summaries decide the lattice
    decided : IsDecided sys solution.lattice order
    decided =
        law sys solution.lattice order
        (record { returned = returned; leads = comes; matched = matched }) owned lattice named
        (record { returned = returned_is; leads = tested; matched = matched_is })

    -- a bound that an element exceeds is exceeded
    pub over_exceeds : (n e : ℕ) → Exceeds sys solution order n e → IsExceeded sys solution.lattice order n
    over_exceeds n e over =
        decided.over n over.var over.limit e over.bound ((leads e over.var).0 over.reached) over.over

    -- one that no element exceeds is not
    pub under_keeps : (n : ℕ) → IsUnder sys solution order n → IsExceeded sys solution.lattice order n → ⊥
    under_keeps n under exceeded =
        decided.under n exceeded.var exceeded.element exceeded.bound
        (λ e lead. under exceeded.var exceeded.element e exceeded.bound ((leads e exceeded.var).1 lead)) exceeded

    -- the bound is exceeded exactly where an element over it is found
    pub found_exceeds : (n : ℕ) (found : Option ℕ)
        → MatchOption found (IsUnder sys solution order n) (Exceeds sys solution order n) →
        IsSome found ↔ IsExceeded sys solution.lattice order n
    found_exceeds n None under = (λ some. absurd cc, λ exceeded. absurd (under_keeps n under exceeded))
    found_exceeds n (Some e) over = (λ some. over_exceeds n e over, λ exceeded. refl)

    -- the join of a set is the least element over all that leads to the variable
    joined : (v r : ℕ) → IsJoinOf order (reached_at solution v) r
        → IsLeastOver order (λ e. Lead sys solution.lattice e v) r
    joined v r join = record {
      element = join.element;
      upper = λ e lead. let has = (leads e v).1 lead in join.upper e (reached_element v e has) has;
      least = λ d within all. join.least d within (λ a element has. all a ((leads a v).0 has));
    }

    -- with no exceeded bound the system is accepted, the joins are printed, and all copies stay below them at once
    pub kept : ((n : ℕ) → IsUnder sys solution order n) → IsKept sys solution order
    kept none =
        let no_bound_exceeded : (n : ℕ) → IsExceeded sys solution.lattice order n → ⊥ = λ n. under_keeps n (none n) in
        let is = decided.solved no_bound_exceeded in
        record {
          accepted = decided.accepted no_bound_exceeded;
          none = no_bound_exceeded;
          printed = λ v r join. is.printed v r (joined v r join);
          at_once = record { copies = is.map; meets = is.meets; below = is.below };
        }

pub found_none : (Under : Type 0) (Over : ℕ → Type 0) (found : Option ℕ) → MatchOption found Under Over
    → IfNone found Under
found_none Under Over None under = under
found_none Under Over (Some e) over = tt

pub none_is : (Under : Type 0) (found : Option ℕ) → is_some found ≡ false → IfNone found Under → Under
none_is Under None is under = under
none_is Under (Some e) is under = absurd cc

pub some_of : (Over : ℕ → Type 0) (found : Option ℕ) → is_some found ≡ true → IfSome found Over → (e : ℕ) × Over e
some_of Over None is over = absurd cc
some_of Over (Some e) is over = (e, over)
