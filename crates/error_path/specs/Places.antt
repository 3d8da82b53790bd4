-- The places of pairs.
use Rattle.std.specs.Prelude.{◌≡◌, ℕ, Bool, ◌&&◌, ◌==◌, Option}
use Rattle.std.specs.declared.hash.FoldHasher.{FoldHasher}
use Rattle.std.specs.declared.hash.BuildHasherDefault.{BuildHasherDefault}
use Rattle.std.specs.HashMap.{get, HashMap}

-- whether two pairs of variables are the same
abbrev pub same_pair : ℕ × ℕ → ℕ × ℕ → Bool
same_pair a b = (a.0 == b.0) && (a.1 == b.1)

-- the place of a pair in a map
abbrev pub place_in : HashMap (ℕ × ℕ) ℕ (BuildHasherDefault FoldHasher) → ℕ → ℕ → Option ℕ
place_in map u v = get same_pair map (u, v)

-- each pair has the place that it had
abbrev pub SamePlaces : (ℕ → ℕ → Option ℕ) → (ℕ → ℕ → Option ℕ) → Type 0
SamePlaces old new = (u v : ℕ) → new u v ≡ old u v
