-- Marks of variables by phases.
use Rattle.std.specs.Prelude.{◌≡◌, ℕ, ◌+◌, ◌<◌, Bool, true, false, List, [], ◌∷◌, length, slice_index_or}
use Rattle.std.specs.Bool.{OnTrue, OnFalse}
use Rattle.std.specs.List.{Contains}
use Rattle.flow_graph.specs.declared.phase.Phase.{Phase}
use Rattle.flow_graph.specs.declared.phase.Phase.TheVariants.{First, Second}

-- a mark for each variable in each phase
pub record PhaseMarks : Type 0 where
  pub first : List Bool
  pub second : List Bool

-- whether a variable is marked in a phase
abbrev pub mark_of : PhaseMarks → Phase → ℕ → Bool
mark_of marks First v = slice_index_or marks.first v false
mark_of marks Second v = slice_index_or marks.second v false

-- for how many variables there are marks
abbrev pub size_of : PhaseMarks → ℕ
size_of marks = length marks.first

-- how many are not set
abbrev pub unset : List Bool → ℕ
unset [] = 0
unset (true ∷ marks) = unset marks
unset (false ∷ marks) = unset marks + 1

-- how many marks of both phases are not set
abbrev pub free_of : PhaseMarks → ℕ
free_of marks = unset marks.first + unset marks.second

-- marks after a step that says whether it has set one
pub record Marking (old new : PhaseMarks) (set : Bool) : Type 0 where
  pub less : OnTrue set (free_of new < free_of old)
  pub same : OnFalse set (new ≡ old)
  pub size : size_of new ≡ size_of old

-- what is marked in either phase is in a list
abbrev pub AreAmong : PhaseMarks → List ℕ → Type 0
AreAmong marks numbers = (p : Phase) (n : ℕ) → mark_of marks p n ≡ true → Contains numbers n
