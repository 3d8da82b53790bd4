-- The different names of a unit, in the order of their first tokens.
use Rattle.std.specs.Prelude.{ℕ, List, [], ◌∷◌, ◌++◌, length, bytes_eq, position, unwrap_or, is_some, if◌then◌else◌}

-- the number of a name behind these: its place among them, or the next
abbrev pub name_number : List (List ℕ) → List ℕ → ℕ
name_number names name = unwrap_or (position (bytes_eq name) names) (length names)

-- the names, and this one behind them where it is a new one
abbrev pub with_name : List (List ℕ) → List ℕ → List (List ℕ)
with_name names name = if is_some (position (bytes_eq name) names) then names else names ++ name ∷ []
