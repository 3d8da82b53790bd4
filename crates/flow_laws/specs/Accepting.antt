-- When a well owned system is accepted, what is printed of it, and which of its bounds are exceeded.
use Rattle.std.specs.Prelude.{◌≡◌, ℕ, Bool, true, false, List, ◌↔◌}
use Rattle.lattice_core.specs.Order.{Order, leq, IsOrder, IsLattice}
use Rattle.flow_graph.specs.declared.constraint.Link.TheVariants.{Bound}
use Rattle.flow_graph.specs.System.{System, Stands, IsWellOwned}
use Rattle.flow_graph.specs.Unfolding.{Assignment, IsAcceptedIn, IsExceeded, Printed, NamesElementsIn}
use Rattle.flow_graph.specs.Paths.{Lead}
use Rattle.flow_laws.specs.Least.{IsSolution, KeepsBounds}
use Rattle.flow_laws.specs.Sets.{Reaches, IsLeastInCopies}

-- In a lattice, where a test says what reaches which copies, each copy has a least element above that.
abbrev pub CopiesStand : Type 0
CopiesStand =
    (sys : System) (lattice : ℕ) (order : Order) (reached : ℕ → ℕ → List ℕ → Bool) → IsLattice order
    → NamesElementsIn sys lattice order →
    ((e v : ℕ) (sites : List ℕ) → (reached e v sites ≡ true) ↔ Reaches sys lattice e v sites) →
    (copies : Assignment) × IsLeastInCopies sys lattice order copies

-- A system whose solution keeps the bounds is accepted.
abbrev pub KeptIsAccepted : Type 0
KeptIsAccepted =
    (sys : System) (lattice : ℕ) (order : Order) (solution : ℕ → ℕ) (copies : Assignment) → IsWellOwned sys
    → IsOrder order →
    IsSolution sys lattice order solution →
    IsLeastInCopies sys lattice order copies → KeepsBounds sys lattice order solution → IsAcceptedIn sys lattice order

-- Where a solution keeps the bounds, its element of a variable is the one that is printed.
abbrev pub SolutionIsPrinted : Type 0
SolutionIsPrinted =
    (sys : System) (lattice : ℕ) (order : Order) (solution : ℕ → ℕ) (copies : Assignment) → IsWellOwned sys
    → IsOrder order →
    IsSolution sys lattice order solution →
    IsLeastInCopies sys lattice order copies → KeepsBounds sys lattice order solution → (v : ℕ)
    → Printed sys lattice order v (solution v)

-- At the variable of an exceeded bound the solution is not at or below the bound.
abbrev pub ExceededIsOver : Type 0
ExceededIsOver =
    (sys : System) (lattice : ℕ) (order : Order) (solution : ℕ → ℕ) (copies : Assignment) → IsWellOwned sys
    → IsOrder order →
    IsSolution sys lattice order solution →
    IsLeastInCopies sys lattice order copies → (n v b : ℕ) → Stands sys lattice n (Bound v lattice b)
    → IsExceeded sys lattice order n →
    leq order (solution v) b ≡ false

-- Where a test says which elements lead to which variables, a bound is exceeded if the solution is not at or below it.
abbrev pub OverIsExceeded : Type 0
OverIsExceeded =
    (sys : System) (lattice : ℕ) (order : Order) (solution : ℕ → ℕ) (comes : ℕ → ℕ → Bool) → IsWellOwned sys
    → IsOrder order →
    IsSolution sys lattice order solution →
    ((e v : ℕ) → (comes e v ≡ true) ↔ Lead sys lattice e v) → (n v b : ℕ) → Stands sys lattice n (Bound v lattice b) →
    leq order (solution v) b ≡ false →
    IsExceeded sys lattice order n
