-- A list of entries that is cut into scopes.
use Rattle.std.specs.Prelude.{ℕ, ◌+◌, List, [], ◌∷◌, take, drop}

-- the first entries are of the first scope, by the counts of entries of each scope
abbrev pub cut : {V : Type 0} → List ℕ → List (ℕ × V) → List (List (ℕ × V))
cut [] entries = []
cut (count ∷ counts) entries = take count entries ∷ cut counts (drop count entries)

-- how many entries all scopes have
abbrev pub total : List ℕ → ℕ
total [] = 0
total (count ∷ counts) = count + total counts
