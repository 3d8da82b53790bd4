-- The least of some tokens.
use Rattle.std.specs.Prelude.{ℕ, nat_lt, List, [], ◌∷◌, Option, None, Some, if◌then◌else◌}

-- the lesser of a token and another one that may be there
abbrev pub least_with : Option ℕ → ℕ → ℕ
least_with None token = token
least_with (Some other) token = if nat_lt other token then other else token

-- the least of tokens and of one before them that may be there
abbrev pub least_behind : Option ℕ → List ℕ → Option ℕ
least_behind best [] = best
least_behind best (token ∷ tokens) = least_behind (Some (least_with best token)) tokens
