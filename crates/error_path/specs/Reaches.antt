-- What searches have found, each with the first place of each variable.
use Rattle.std.specs.Prelude.{◌≡◌, ℕ, ◌<◌, ◌≤◌, List, length, slice_get, slice_index_or, Some, true}
use Rattle.flow_graph.specs.System.{System, AllBelow}
use Rattle.flow_graph.specs.declared.phase.Phase.{Phase}
use Rattle.flow_graph.specs.Leading.{GoesTo}
use Rattle.flow_graph.specs.Paths.{Lead}
use Rattle.match_summary.specs.declared.reason.Summary.{Summary}
use Rattle.match_summary.specs.Summary.{Summarises}
use Rattle.error_path.specs.Marks.{mark_of, size_of}
use Rattle.error_path.specs.Reaching.{AreSound}
use Rattle.error_path.specs.Rooms.{nowhere}
use Rattle.error_path.specs.declared.search.Origin.{Origin}
use Rattle.error_path.specs.declared.search.Origin.TheVariants.{Element, Variable}
use Rattle.error_path.specs.declared.search.Reached.{Reached}
use Rattle.error_path.specs.declared.reaches.Found.{Found}
use Rattle.error_path.specs.declared.reaches.Reach.{Reach}
use Rattle.error_path.specs.declared.reaches.Reaches.{Reaches}

-- a place of a queue has this variable
abbrev pub StandsIn : List Reached → ℕ → ℕ → Type 0
StandsIn queue place v = (r : Reached) × (slice_get queue place ≡ Some r) × (r.at ≡ v)

-- some place has it
abbrev pub IsIn : List Reached → ℕ → Type 0
IsIn queue v = (place : ℕ) × StandsIn queue place v

-- a constant of the element leads to a variable, or the variable does
abbrev pub LedBy : System → ℕ → Origin → ℕ → Type 0
LedBy sys lattice (Element e) v = Lead sys lattice e v
LedBy sys lattice (Variable u) v = GoesTo sys lattice u v

-- each variable that is led to is in the queue
abbrev pub HasAll : System → ℕ → Origin → List Reached → Type 0
HasAll sys lattice origin queue = (v : ℕ) → LedBy sys lattice origin v → IsIn queue v

-- the variables of a queue are below a number
abbrev pub AreBelow : ℕ → List Reached → Type 0
AreBelow vars queue = (place : ℕ) (r : Reached) → slice_get queue place ≡ Some r → r.at < vars

-- each variable of a queue has a place in the list, and a place that a variable has is one of its places in the queue
pub record AreFirsts (queue : List Reached) (firsts : List ℕ) : Type 0 where
  pub right : (v place : ℕ) → slice_index_or firsts v nowhere ≡ place → (place ≡ nowhere → ⊥) → StandsIn queue place v
  pub whole : (place : ℕ) (r : Reached) → slice_get queue place ≡ Some r → slice_index_or firsts r.at nowhere ≡ nowhere
      → ⊥

-- What a search has found: how each variable was reached, and all that are reached.
pub record IsFound (sys : System) (found : Found) : Type 0 where
  pub rows : List Summary
  pub summarised : Summarises sys found.lattice rows
  pub sound : AreSound sys found.lattice found.origin rows found.queue.items
  pub whole : HasAll sys found.lattice found.origin found.queue.items
  pub firsts : AreFirsts found.queue.items found.firsts.items

-- What was found stands in a room for the system, in which nothing else is marked.
pub record IsInRoom (sys : System) (reach : Reach) : Type 0 where
  pub vars : AllBelow sys (size_of reach.marks)
  pub constraints : length sys.constraints ≤ size_of reach.passed
  pub places : length reach.found.firsts.items ≡ size_of reach.marks
  pub marked : (p : Phase) (v : ℕ) → mark_of reach.marks p v ≡ true → IsIn reach.found.queue.items v

-- It was found from a variable in a lattice.
pub record IsReachOf (sys : System) (lattice start : ℕ) (reach : Reach) : Type 0 where
  pub lattice_is : reach.found.lattice ≡ lattice
  pub origin_is : reach.found.origin ≡ Variable start
  pub is : IsFound sys reach.found
  pub room : IsInRoom sys reach

-- all that is kept was found so
abbrev pub AreReaches : System → Reaches → Type 0
AreReaches sys reaches = (n : ℕ) (found : Found) → slice_get reaches.found.items n ≡ Some found → IsFound sys found

-- a place of what is kept is that of a lattice and of what was searched from
abbrev pub IsOf : Reaches → ℕ → ℕ → Origin → Type 0
IsOf reaches place lattice origin =
    (found : Found) × (slice_get reaches.found.items place ≡ Some found) × (found.lattice ≡ lattice)
    × (found.origin ≡ origin)
