-- All lists of sites up to a length.
use Rattle.std.specs.Prelude.{ℕ, ◌<◌, ◌≤◌, List, [], ◌∷◌, length}
use Rattle.std.specs.List.{Contains}

-- each of the list is below a number
abbrev pub AreBelow : ℕ → List ℕ → Type 0
AreBelow count [] = Unit {0}
AreBelow count (s ∷ w) = (s < count) × AreBelow count w

-- each list of at most so many sites is there
abbrev pub HasAll : List (List ℕ) → ℕ → ℕ → Type 0
HasAll strings count depth = (w : List ℕ) → AreBelow count w → length w ≤ depth → Contains strings w
