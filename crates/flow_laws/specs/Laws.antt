-- Laws of every system.
use Rattle.std.specs.Prelude.{◌≡◌, ℕ, ◌+◌, ◌<◌, Bool, true, List, length, slice_get, Some, ◌↔◌}
use Rattle.std.specs.Int.{bit_at}
use Rattle.lattice_core.specs.Order.{Order, size, leq, IsLattice, IsJoinOf}
use Rattle.flow_graph.specs.System.{System, AllBelow}
use Rattle.flow_graph.specs.Unfolding.{Assignment, Meets, NamesElements, NamesElementsIn}
use Rattle.flow_graph.specs.Paths.{Lead}
use Rattle.flow_laws.specs.Least.{IsLeastOver, IsSafe, element_of, IsSolution, KeepsBounds}

-- An assignment that meets the unfolding at a depth meets it at the depth below.
abbrev pub LowerIsMet : Type 0
LowerIsMet = (sys : System) (lattice depth : ℕ) (order : Order) (map : Assignment) →
    Meets sys lattice order (depth + 1) map → Meets sys lattice order depth map

-- In a lattice, where a test says which elements lead to which variables, there is a solution.
abbrev pub SolutionStands : Type 0
SolutionStands =
    (sys : System) (lattice : ℕ) (order : Order) (comes : ℕ → ℕ → Bool) → IsLattice order
    → NamesElementsIn sys lattice order →
    ((e v : ℕ) → (comes e v ≡ true) ↔ Lead sys lattice e v) → (solution : ℕ → ℕ) × IsSolution sys lattice order solution

-- Where all constants and bounds name lattices of a list and elements of those, they do so in each lattice of the list.
abbrev pub NamesInEach : Type 0
NamesInEach =
    (sys : System) (orders : List Order) (lattice : ℕ) (order : Order) → NamesElements sys orders
    → slice_get orders lattice ≡ Some order →
    NamesElementsIn sys lattice order

-- The solution of a safe system keeps its bounds.
abbrev pub SafeKeepsBounds : Type 0
SafeKeepsBounds = (sys : System) (lattice : ℕ) (order : Order) (solution : ℕ → ℕ) → NamesElementsIn sys lattice order →
    IsSolution sys lattice order solution →
    IsSafe sys lattice order → KeepsBounds sys lattice order solution

-- The joins of the sets of all that leads to each variable are a solution.
abbrev pub JoinsAreSolution : Type 0
JoinsAreSolution =
    (sys : System) (lattice : ℕ) (order : Order) (sets solution : ℕ → ℕ) → NamesElementsIn sys lattice order →
    ((v e : ℕ) → (bit_at (sets v) e ≡ 1) ↔ Lead sys lattice e v) → ((v : ℕ) → IsJoinOf order (sets v) (solution v)) →
    IsSolution sys lattice order solution

-- A list that has the least element of each variable that a constraint names is a solution, where each variable past
-- its end has the least element of all.
abbrev pub ListIsSolution : Type 0
ListIsSolution = (sys : System) (lattice : ℕ) (order : Order) (elements : List ℕ) (bottom : ℕ) → bottom < size order →
    ((d : ℕ) → d < size order → leq order bottom d ≡ true) →
    AllBelow sys (length elements)
    → ((v r : ℕ) → slice_get elements v ≡ Some r → IsLeastOver order (λ e. Lead sys lattice e v) r) →
    IsSolution sys lattice order (element_of elements bottom)
