-- The room of a search, in which nothing is set.
use Rattle.std.specs.Prelude.{◌≡◌, ℕ, ◌≤◌, List, length, slice_index_or, false}
use Rattle.flow_graph.specs.System.{System, AllBelow}
use Rattle.flow_graph.specs.declared.phase.Phase.{Phase}
use Rattle.error_path.specs.Marks.{mark_of, size_of}
use Rattle.error_path.specs.declared.room.Room.{Room}

-- what stands for no place
abbrev pub nowhere : ℕ
nowhere = 4294967295

-- no variable has a place
abbrev pub HasNoFirst : List ℕ → Type 0
HasNoFirst firsts = (v : ℕ) → slice_index_or firsts v nowhere ≡ nowhere

-- A room has marks for the variables and the constraints of a system, and a place for each of these variables, and
-- nothing is set.
pub record IsRoom (sys : System) (room : Room) : Type 0 where
  pub vars : AllBelow sys (size_of room.marks)
  pub constraints : length sys.constraints ≤ size_of room.passed
  pub places : length room.firsts.items ≡ size_of room.marks
  pub unmarked : (p : Phase) (v : ℕ) → mark_of room.marks p v ≡ false
  pub none_passed : (p : Phase) (n : ℕ) → mark_of room.passed p n ≡ false
  pub none_placed : HasNoFirst room.firsts.items
