-- The index words of a prelude: what is written at some of its tokens.
use Rattle.std.specs.Prelude.{ℕ, nat_eq, ◌<◌, List, [], ◌∷◌, if◌then◌else◌}

-- an index word, by its token, with its numbers
pub record IndexMark : Type 0 where
  pub token : ℕ
  pub numbers : List ℕ

-- the numbers of the word at a token; none where there is no index word
abbrev pub numbers_at : List IndexMark → ℕ → List ℕ
numbers_at [] token = []
numbers_at (it ∷ marks) token = if nat_eq it.token token then it.numbers else numbers_at marks token

-- the numbers of the word at a place, a unit and a token: there is none outside the prelude, which is unit 0
abbrev pub index_in : List IndexMark → ℕ × ℕ → List ℕ
index_in marks p = if nat_eq p.0 0 then numbers_at marks p.1 else []

-- each number is below those behind it
abbrev pub AreAscending : List ℕ → Type 0
AreAscending [] = Unit {0}
AreAscending (n ∷ []) = Unit {0}
AreAscending (n ∷ m ∷ ms) = (n < m) × AreAscending (m ∷ ms)

-- the tokens of index words, in order
abbrev pub tokens_of : List IndexMark → List ℕ
tokens_of [] = []
tokens_of (it ∷ marks) = it.token ∷ tokens_of marks
