-- The names of the pairs of a list, in its order.
use Rattle.std.specs.Prelude.{ℕ, List, [], ◌∷◌, ◌++◌, Option, Some, None}
use Rattle.certificate_text.specs.Names.{name_in}

-- a pair of two that must both be there
abbrev pub both : Option ℕ → Option ℕ → Option (ℕ × ℕ)
both (Some m) (Some n) = Some (m, n)
both (Some m) None = None
both None n = None

-- the names of a pair of variables, where both have one
abbrev pub pair_name : List (Option ℕ) → ℕ × ℕ → Option (ℕ × ℕ)
pair_name table pair = both (name_in table pair.0) (name_in table pair.1)

-- a pair that may be there, as a list
abbrev pub as_list : Option (ℕ × ℕ) → List (ℕ × ℕ)
as_list (Some pair) = pair ∷ []
as_list None = []

-- the names of pairs of variables, without those that have none
abbrev pub pair_names : List (Option ℕ) → List (ℕ × ℕ) → List (ℕ × ℕ)
pair_names table [] = []
pair_names table (pair ∷ pairs) = as_list (pair_name table pair) ++ pair_names table pairs
