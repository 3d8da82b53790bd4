-- What is true of the fields of every stack of variables.
use Rattle.std.specs.Prelude.{◌≡◌, ℕ, ◌+◌, ◌<◌, ◌≤◌, ◌^◌, Bool, true, false, List, [], ◌∷◌, length, slice_get, slice_index_or, Some}
use Rattle.lattice_solver.specs.declared.waiting.Waiting.TheInside.{Inside}

-- how many marks are set
abbrev pub marked : List Bool → ℕ
marked [] = 0
marked (true ∷ marks) = marked marks + 1
marked (false ∷ marks) = marked marks

-- each variable that is marked stands on the stack, which is no higher than there are marks
pub record IsStack (w : Inside) : Type 0 where
  pub same : length w.places.items ≡ length w.marks.items
  pub few : length w.marks.items < 2 ^ 32
  pub height : w.count ≤ marked w.marks.items
  pub low : (i v : ℕ) → i < w.count → slice_get w.places.items i ≡ Some v → v < length w.marks.items
  pub held : (v : ℕ) → slice_index_or w.marks.items v false ≡ true
      → (i : ℕ) × (i < w.count) × (slice_get w.places.items i ≡ Some v)
