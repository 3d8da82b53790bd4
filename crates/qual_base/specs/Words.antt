-- Words and what they mean: a lattice and an element of it, each by its number.
use Rattle.std.specs.Prelude.{◌≡◌, ℕ, List, [], ◌∷◌, ◌++◌, None, Some, is_some, if◌then◌else◌}
use Rattle.std.specs.declared.option.Option.{Option}
use Rattle.std.specs.Str.{bytes_eq}

-- what the first pair for the word says, and nothing where there is none
abbrev pub meaning_of : List (List ℕ × (ℕ × ℕ)) → List ℕ → Option (ℕ × ℕ)
meaning_of [] word = None
meaning_of (pair ∷ pairs) word = if bytes_eq word pair.0 then Some pair.1 else meaning_of pairs word

-- the pairs, and this one behind them where they have none for its word
abbrev pub with_pair : List (List ℕ × (ℕ × ℕ)) → List ℕ × (ℕ × ℕ) → List (List ℕ × (ℕ × ℕ))
with_pair pairs pair = if is_some (meaning_of pairs pair.0) then pairs else pairs ++ pair ∷ []

-- both give each word the same meaning
abbrev pub MeansTheSame : List (List ℕ × (ℕ × ℕ)) → List (List ℕ × (ℕ × ℕ)) → Type 0
MeansTheSame pairs others = (word : List ℕ) → meaning_of pairs word ≡ meaning_of others word
