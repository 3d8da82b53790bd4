-- What tests of paths decide: whether a program is accepted, and what is printed of it.
use Rattle.std.specs.Prelude.{◌≡◌, ℕ, Bool, true, false, List, ◌↔◌}
use Rattle.lattice_core.specs.Order.{Order, leq, IsLattice}
use Rattle.flow_graph.specs.declared.constraint.Link.TheVariants.{Bound, Enter}
use Rattle.flow_graph.specs.System.{System, Stands, IsWellOwned}
use Rattle.flow_graph.specs.Unfolding.{Assignment, Meets, NamesElementsIn, IsAccepted, IsAcceptedIn, IsExceeded, Printed}
use Rattle.flow_graph.specs.Paths.{Match, Returning, Lead}
use Rattle.flow_laws.specs.Least.{IsLeastOver}
use Rattle.flow_laws.specs.Rejected.{HasExceeded, InEach}

-- Tests of an element and a variable, whether a constant of the element leads there, with no call open and at all, and
-- of two variables, whether a matched path leads from one to the other.
pub record PathTests : Type 0 where
  pub returned : ℕ → ℕ → Bool
  pub leads : ℕ → ℕ → Bool
  pub matched : ℕ → ℕ → Bool

-- They say exactly that in a lattice, the last one from each variable that a call enters.
pub record AreExact (sys : System) (lattice : ℕ) (tests : PathTests) : Type 0 where
  pub returned : (e v : ℕ) → (tests.returned e v ≡ true) ↔ Returning sys lattice e v
  pub leads : (e v : ℕ) → (tests.leads e v ≡ true) ↔ Lead sys lattice e v
  pub matched : (n s w u v : ℕ) → Stands sys lattice n (Enter s w u)
      → (tests.matched u v ≡ true) ↔ Match sys lattice u v

-- no bound of the lattice is exceeded
abbrev pub ExceedsNone : System → ℕ → Order → Type 0
ExceedsNone sys lattice order = (n : ℕ) → IsExceeded sys lattice order n → ⊥

-- One assignment meets the unfolding at each depth, and is at or below the printed elements on all copies of all
-- variables at once. Each variable has a least element over all that leads to it, which is the one printed.
pub record IsSolved (sys : System) (lattice : ℕ) (order : Order) : Type 0 where
  pub map : Assignment
  pub meets : (depth : ℕ) → Meets sys lattice order depth map
  pub below : (v r : ℕ) (sites : List ℕ) → Printed sys lattice order v r → leq order (map v sites) r ≡ true
  pub least : (v : ℕ) → (r : ℕ) × IsLeastOver order (λ e. Lead sys lattice e v) r
  pub printed : (v r : ℕ) → IsLeastOver order (λ e. Lead sys lattice e v) r → Printed sys lattice order v r

-- What is decided of a lattice: an element that leads to a bound and is not at or below it exceeds the bound, and a
-- bound is exceeded only where there is one; where no bound is, the lattice is solved.
pub record IsDecided (sys : System) (lattice : ℕ) (order : Order) : Type 0 where
  pub over : (n v b e : ℕ) → Stands sys lattice n (Bound v lattice b) → Lead sys lattice e v → leq order e b ≡ false
      → IsExceeded sys lattice order n
  pub under : (n v b : ℕ) → Stands sys lattice n (Bound v lattice b)
      → ((e : ℕ) → Lead sys lattice e v → leq order e b ≡ true) → IsExceeded sys lattice order n → ⊥
  pub accepted : ExceedsNone sys lattice order → IsAcceptedIn sys lattice order
  pub solved : ExceedsNone sys lattice order → IsSolved sys lattice order

-- In a well owned system and one lattice, of which its constants and bounds name elements, tests that say exactly which
-- constants lead where decide it.
abbrev pub TestsSolve : Type 0
TestsSolve =
    (sys : System) (lattice : ℕ) (order : Order) (tests : PathTests) → IsWellOwned sys → IsLattice order
    → NamesElementsIn sys lattice order →
    AreExact sys lattice tests → IsDecided sys lattice order

-- In a well owned system whose constants and bounds in each lattice name elements of it, and where tests say exactly
-- which constants lead where, not accepted means exactly that some bound is exceeded; and a lattice where none is, is
-- solved.
abbrev pub TestsDecide : Type 0
TestsDecide =
    (sys : System) (orders : List Order) (tests : ℕ → PathTests) → IsWellOwned sys
    → InEach orders (λ lattice order. IsLattice order) →
    InEach orders (λ lattice order. NamesElementsIn sys lattice order)
    → InEach orders (λ lattice order. AreExact sys lattice (tests lattice)) →
    ((IsAccepted sys orders → ⊥) ↔ HasExceeded sys orders)
    × InEach orders (λ lattice order. ExceedsNone sys lattice order → IsSolved sys lattice order)
