-- Sets and who waits, and how they change.
use Rattle.std.specs.Prelude.{◌≡◌, ◌≢◌, ℕ, ◌+◌, ◌<◌, ◌≤◌, false, length}
use Rattle.flow_graph.specs.System.{System}
use Rattle.flow_graph.specs.declared.phase.Phase.{Phase}
use Rattle.flow_graph.specs.declared.phase.Phase.TheVariants.{First, Second}
use Rattle.lattice_solver.specs.PhaseSets.{PhaseSets}
use Rattle.lattice_solver.specs.Phases.{set_of, size_of, HasIn, StartsAnew, room_of}
use Rattle.lattice_solver.specs.Waiting.{Waiters, waits}
use Rattle.lattice_solver.specs.declared.work.Taken.{Taken}

-- the sets of variables, and which of these wait
pub record Held : Type 0 where
  pub sets : PhaseSets
  pub waiting : Waiters

-- there is a mark for each set
abbrev pub AreAlike : Held → Type 0
AreAlike held = length held.waiting.marks ≡ size_of held.sets

-- what each turn that takes a variable makes less
abbrev pub left_in : Held → ℕ
left_in held = room_of held.sets + held.waiting.count

-- Sets have grown or stayed. Who does not wait did not wait before, and has what he had.
pub record Gains (old new : Held) : Type 0 where
  pub size : size_of new.sets ≡ size_of old.sets
  pub left : left_in new ≤ left_in old
  pub kept : (p : Phase) (v e : ℕ) → HasIn old.sets p v e → HasIn new.sets p v e
  pub still : (v : ℕ) → waits new.waiting v ≡ false
      → (waits old.waiting v ≡ false) × ((p : Phase) → set_of new.sets p v ≡ set_of old.sets p v)

-- the set that a variable had in a phase when it was taken
abbrev pub had_of : Taken → Phase → ℕ
had_of taken First = taken.first
had_of taken Second = taken.second

-- A variable was taken with what it has. It starts anew, and waits no more.
pub record IsTakenUp (sys : System) (old new : Held) (taken : Taken) : Type 0 where
  pub size : size_of new.sets ≡ size_of old.sets
  pub left : left_in new < left_in old
  pub kept : (p : Phase) (v e : ℕ) → HasIn old.sets p v e → HasIn new.sets p v e
  pub others : (v : ℕ) → v ≢ taken.at → waits new.waiting v ≡ false
      → (waits old.waiting v ≡ false) × ((p : Phase) → set_of new.sets p v ≡ set_of old.sets p v)
  pub had : (p : Phase) → had_of taken p ≡ set_of new.sets p taken.at
  pub anew : StartsAnew sys new.sets taken.at
