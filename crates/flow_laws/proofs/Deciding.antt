-- What tests of paths decide.
use Rattle.std.proofs.Common.{◌≡◌, ℕ, Bool, true, false, refl, subst, ◌⊎◌, inl, inr}
use Rattle.lattice_core.specs.Order.{Order, leq, IsLattice}
use Rattle.flow_graph.specs.declared.constraint.Link.TheVariants.{Bound}
use Rattle.flow_graph.specs.System.{System, Stands, IsWellOwned}
use Rattle.flow_graph.specs.Unfolding.{Assignment, IsAcceptedIn, IsExceeded, Printed, NamesElementsIn}
use Rattle.flow_graph.specs.Paths.{Lead}
use Rattle.flow_laws.specs.Least.{IsLeastOver, IsSolution, KeepsBounds}
use Rattle.flow_laws.specs.Sets.{IsLeastInCopies}
use Rattle.flow_laws.specs.Deciding.{PathTests, AreExact, ExceedsNone, IsSolved, TestsSolve, TestsDecide}
use Rattle.flow_laws.proofs.Leads.{solution_stands}
use Rattle.flow_laws.proofs.Testing.{reached_is_tested}
use Rattle.flow_laws.proofs.Accept.{copies_stand, met, below_solution, kept_is_accepted, solution_is_printed, exceeded_is_over, over_is_exceeded}
use Rattle.flow_laws.proofs.Rejected.{keeps_or_over, accepted_or_exceeded, has_refutes}

module _ (sys : System) (lattice : ℕ) (order : Order) (tests : PathTests) (owned : IsWellOwned sys)
    (lat : IsLattice order) (names : NamesElementsIn sys lattice order)
    (exact : AreExact sys lattice tests) where
  solution : (solution : ℕ → ℕ) × IsSolution sys lattice order solution
  solution = solution_stands sys lattice order tests.leads lat names exact.leads

  copies : (copies : Assignment) × IsLeastInCopies sys lattice order copies
  copies =
      let reached = reached_is_tested sys lattice tests.returned tests.matched exact.returned exact.matched in
      copies_stand sys lattice order reached.0 lat names reached.1

  exceeds : (n v b : ℕ) → Stands sys lattice n (Bound v lattice b) → leq order (solution.0 v) b ≡ false
      → IsExceeded sys lattice order n
  exceeds n v b st over =
      over_is_exceeded sys lattice order solution.0 tests.leads owned lat.ordered solution.1 exact.leads n v b st over

  keeps : ExceedsNone sys lattice order → KeepsBounds sys lattice order solution.0
  keeps none n v b st = by_test (leq order (solution.0 v) b) refl
    where
      by_test : (t : Bool) → leq order (solution.0 v) b ≡ t → leq order (solution.0 v) b ≡ true
      by_test true is = is
      by_test false is = absurd (none n (exceeds n v b st is))

  tells : IsAcceptedIn sys lattice order ⊎ ((n : ℕ) × IsExceeded sys lattice order n)
  tells = elim (keeps_or_over sys lattice order solution.0) [
    | inl keeps ↦
        inl (kept_is_accepted sys lattice order solution.0 copies.0 owned lat.ordered solution.1 copies.1 keeps)
    | inr over ↦ inr (over.0, exceeds over.0 over.1.0 over.1.1 over.1.2 over.1.3)
  ]

  -- a variable has one least element
  one_least : (v r : ℕ) → IsLeastOver order (λ e. Lead sys lattice e v) r → solution.0 v ≡ r
  one_least v r least =
      lat.ordered.apart (solution.0 v) r ((solution.1 v).least r least.element least.upper)
      (least.least (solution.0 v) (solution.1 v).element (solution.1 v).upper)

  solved : ExceedsNone sys lattice order → IsSolved sys lattice order
  solved none =
      let printed =
      solution_is_printed sys lattice order solution.0 copies.0 owned lat.ordered solution.1 copies.1 (keeps none) in
      record {
        map = copies.0;
        meets = met sys lattice order solution.0 copies.0 owned solution.1 copies.1 lat.ordered (keeps none);
        below = λ v r sites is. lat.ordered.through (copies.0 v sites) (solution.0 v) r
            (below_solution sys lattice order solution.0 copies.0 owned solution.1 copies.1 v sites)
            ((printed v).least r is.can);
        least = λ v. (solution.0 v, solution.1 v);
        printed = λ v r least. subst (Printed sys lattice order v) (one_least v r least) (printed v);
      }

  -- an element that leads to a bound and is not at or below it exceeds the bound
  over : (n v b e : ℕ) → Stands sys lattice n (Bound v lattice b) → Lead sys lattice e v → leq order e b ≡ false
      → IsExceeded sys lattice order n
  over n v b e st lead not_below = by_test (leq order (solution.0 v) b) refl
    where
      by_test : (t : Bool) → leq order (solution.0 v) b ≡ t → IsExceeded sys lattice order n
      by_test false is = exceeds n v b st is
      by_test true is =
          let below : leq order e b ≡ true = lat.ordered.through e (solution.0 v) b ((solution.1 v).upper e lead) is in
          absurd cc

  -- a bound that is at or above all that leads to it is not exceeded
  under : (n v b : ℕ) → Stands sys lattice n (Bound v lattice b)
      → ((e : ℕ) → Lead sys lattice e v → leq order e b ≡ true) → IsExceeded sys lattice order n → ⊥
  under n v b st all exceeded =
      let below : leq order (solution.0 v) b ≡ true = (solution.1 v).least b (names.bound n v b st) all in
      let not_below : leq order (solution.0 v) b ≡ false =
      exceeded_is_over sys lattice order solution.0 copies.0 owned lat.ordered solution.1 copies.1 n v b st exceeded in
      absurd cc

  accepted : ExceedsNone sys lattice order → IsAcceptedIn sys lattice order
  accepted none =
      kept_is_accepted sys lattice order solution.0 copies.0 owned lat.ordered solution.1 copies.1 (keeps none)

-- tests that say which constants lead where decide one lattice of a well owned system
pub tests_solve : TestsSolve
tests_solve sys lattice order tests owned lat names exact = record {
  over = over sys lattice order tests owned lat names exact;
  under = under sys lattice order tests owned lat names exact;
  accepted = accepted sys lattice order tests owned lat names exact;
  solved = solved sys lattice order tests owned lat names exact;
}

-- with such tests of each lattice, not accepted is some exceeded bound, and a lattice with none is solved
pub tests_decide : TestsDecide
tests_decide sys orders tests owned lattices names exact = (
  (
    λ rejected. elim (accepted_or_exceeded sys orders
        (λ lattice order there. tells sys lattice order (tests lattice) owned (lattices lattice order there)
        (names lattice order there) (exact lattice order there))) [
          | inl accepted ↦ absurd (rejected accepted)
          | inr has ↦ has
        ],
    λ has accepted. has_refutes sys orders has accepted,
  ),
  λ lattice order there none.
      solved sys lattice order (tests lattice) owned (lattices lattice order there) (names lattice order there)
      (exact lattice order there) none,
)
