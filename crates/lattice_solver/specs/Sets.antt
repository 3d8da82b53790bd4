-- How far sets are from the greatest ones.
use Rattle.std.specs.Prelude.{ℕ, ◌+◌, ◌-◌, ◌^◌, List, [], ◌∷◌}

-- the room that is left in sets of 64 bits
abbrev pub room : List ℕ → ℕ
room [] = 0
room (set ∷ sets) = (2 ^ 64 - set) + room sets
