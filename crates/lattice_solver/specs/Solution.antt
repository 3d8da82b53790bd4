-- What a solver holds: its lattice, the sets of the constants that reach each variable in each phase, where the
-- constraints begin and end, the calls and returns by their inner ends, and the sets that were carried round groups.
use Rattle.std.specs.Prelude.{◌≡◌, ◌<◌, ◌≤◌, ℕ, List, length, true, false, bit_or, ◌↔◌}
use Rattle.std.specs.Int.{bit_at}
use Rattle.lattice_core.specs.Order.{Order, size, leq, IsJoinOf}
use Rattle.flow_graph.specs.System.{System, AllBelow, Stands}
use Rattle.flow_graph.specs.Index.{Lists, IsIndexOf}
use Rattle.flow_graph.specs.Unfolding.{Assignment, Meets, IsAcceptedIn, IsExceeded, Printed}
use Rattle.flow_graph.specs.declared.constraint.Link.TheVariants.{Bound}
use Rattle.match_summary.specs.Crossings.{AreCrossings}
use Rattle.match_summary.specs.declared.crossings.Crossings.{Crossings}
use Rattle.match_summary.specs.declared.reason.Summary.{Summary}
use Rattle.match_summary.specs.Summary.{Summarises}
use Rattle.flow_graph.specs.declared.phase.Phase.{Phase}
use Rattle.flow_graph.specs.declared.phase.Phase.TheVariants.{First, Second}
use Rattle.lattice_solver.specs.PhaseSets.{PhaseSets}
use Rattle.lattice_solver.specs.Phases.{set_of, size_of, HasIn, LeadsIn}

-- what a solver holds of a lattice
pub record Solution : Type 0 where
  pub lattice : ℕ
  pub phases : PhaseSets
  pub index : Lists
  pub crossings : Crossings
  pub passed : PhaseSets

-- the set of what reaches a variable in either phase, bit e for element e
abbrev pub reached_at : Solution → ℕ → ℕ
reached_at solution v = bit_or (set_of solution.phases First v) (set_of solution.phases Second v)

-- an element is in the set of a variable in either phase
abbrev pub HasElement : Solution → ℕ → ℕ → Type 0
HasElement solution v e = bit_at (reached_at solution v) e ≡ 1

-- it fits a system: it has sets for each variable of a constraint and for each constraint, and the indices of the
-- constraints
pub record Fits (sys : System) (solution : Solution) : Type 0 where
  pub below : AllBelow sys (size_of solution.phases)
  pub indexed : IsIndexOf sys solution.index
  pub crossings : AreCrossings sys solution.crossings
  pub room : length sys.constraints ≤ size_of solution.passed

-- Its sets have exactly what leads to each variable in each phase, by the summaries of the system, and its index is
-- that of the constraints.
pub record IsSolved (sys : System) (solution : Solution) : Type 0 where
  pub exact : (p : Phase) (v e : ℕ) → HasIn solution.phases p v e ↔ LeadsIn sys solution.lattice p e v
  pub summaries : List Summary
  pub summarised : Summarises sys solution.lattice summaries
  pub fits : Fits sys solution

-- An element exceeds a bound: it reaches the bound's variable, and is not at or below the bound.
pub record Exceeds (sys : System) (solution : Solution) (order : Order) (n e : ℕ) : Type 0 where
  pub var : ℕ
  pub limit : ℕ
  pub bound : Stands sys solution.lattice n (Bound var solution.lattice limit)
  pub element : e < size order
  pub reached : HasElement solution var e
  pub over : leq order e limit ≡ false

-- No element exceeds a constraint: where it is a bound, all that reaches its variable is at or below it.
abbrev pub IsUnder : System → Solution → Order → ℕ → Type 0
IsUnder sys solution order n =
    (v limit e : ℕ) → Stands sys solution.lattice n (Bound v solution.lattice limit) → HasElement solution v e →
    leq order e limit ≡ true

-- the first constraint that an element exceeds
pub record IsFirstOver (sys : System) (solution : Solution) (order : Order) (n : ℕ) : Type 0 where
  pub element : ℕ
  pub exceeds : Exceeds sys solution order n element
  pub before : (m : ℕ) → m < n → IsUnder sys solution order m

-- the first bound that is exceeded
pub record IsFirstExceeded (sys : System) (lattice : ℕ) (order : Order) (n : ℕ) : Type 0 where
  pub exceeded : IsExceeded sys lattice order n
  pub before : (m : ℕ) → m < n → IsExceeded sys lattice order m → ⊥

-- One assignment meets the unfolding at every depth, and is at or below the printed elements on all copies of all
-- variables.
pub record IsMetAtOnce (sys : System) (solution : Solution) (order : Order) : Type 0 where
  pub copies : Assignment
  pub meets : (depth : ℕ) → Meets sys solution.lattice order depth copies
  pub below : (v r : ℕ) (sites : List ℕ) → Printed sys solution.lattice order v r → leq order (copies v sites) r ≡ true

-- No bound is exceeded: the system is accepted in the lattice, the least element over the set of a variable is the one
-- that is printed, and all of them can be kept at once.
pub record IsKept (sys : System) (solution : Solution) (order : Order) : Type 0 where
  pub accepted : IsAcceptedIn sys solution.lattice order
  pub none : (n : ℕ) → IsExceeded sys solution.lattice order n → ⊥
  pub printed : (v r : ℕ) → IsJoinOf order (reached_at solution v) r → Printed sys solution.lattice order v r
  pub at_once : IsMetAtOnce sys solution order

-- each element of a set is at or below one
abbrev pub AllUnder : Order → ℕ → ℕ → Type 0
AllUnder order set limit = (e : ℕ) → e < size order → bit_at set e ≡ 1 → leq order e limit ≡ true

-- an element of a set that is not
abbrev pub IsOver : Order → ℕ → ℕ → ℕ → Type 0
IsOver order set limit e = (e < size order) × (bit_at set e ≡ 1) × (leq order e limit ≡ false)
