-- How far a comment, a line, a gap, a word and a colour text go in the bytes of a file, whatever stands behind them.
use Rattle.std.specs.Prelude.{◌≡◌, ℕ, ◌+◌, ◌<◌, ◌≤◌, Bool, true, not, ◌||◌, nat_eq, List, [], ◌∷◌, ◌++◌, length, take, drop, Option, Some, None, ◌⊎◌, is_some}
use Rattle.std.specs.List.{list_all, slice_range}
use Rattle.lattice_file.specs.Text.{Gap, StaysOpen, stays_on_line, ends_line, is_blank}
use Rattle.lattice_file.specs.Steps.{Lexeme, Spells, Standing, next, next_by_word}

-- the first of some bytes
abbrev pub first : List ℕ → Option ℕ
first [] = None
first (b ∷ bytes) = Some b

-- a tail begins as the rest does, or on a new line
abbrev pub Resembles : List ℕ → List ℕ → Type 0
Resembles tail rest = (first tail ≡ first rest) ⊎ (first tail ≡ Some 10)

-- a comment's text goes from one place to the */ before another
pub record CommentEnds (bytes : List ℕ) (from end : ℕ) : Type 0 where
  pub text : List ℕ
  pub inside : StaysOpen text
  pub is : slice_range bytes from end ≡ text ++ 42 ∷ 47 ∷ []

-- the rest of a line goes from one place to another
pub record LineEnds (bytes : List ℕ) (from end : ℕ) : Type 0 where
  pub inside : list_all stays_on_line (slice_range bytes from end) ≡ true
  pub ends : ends_line (drop end bytes) ≡ true

-- a gap goes from one place to another
abbrev pub GapGoes : List ℕ → ℕ → ℕ → Type 0
GapGoes bytes from end =
    (tail : List ℕ) → Resembles tail (drop end bytes) → Gap (slice_range bytes from end ++ tail) tail

-- What begins as a comment begins at one place fails at another: it can be ended there, and no comment goes on so.
pub record CommentFails (bytes : List ℕ) (at place : ℕ) : Type 0 where
  pub later : at < place
  pub within : place ≤ length bytes
  pub slash : first (drop at bytes) ≡ Some 47
  pub more : List ℕ
  pub ends : (tail : List ℕ) → Gap (slice_range bytes at place ++ (more ++ tail)) tail
  pub stuck : (tail rest : List ℕ) → first tail ≡ first (drop place bytes)
      → Gap (slice_range bytes at place ++ tail) rest → rest ≡ slice_range bytes at place ++ tail

-- a gap goes to such a comment
pub record GapFails (bytes : List ℕ) (from place : ℕ) : Type 0 where
  pub at : ℕ
  pub later : from ≤ at
  pub gap : GapGoes bytes from at
  pub comment : CommentFails bytes at place

-- the end of the bytes, or a byte with which no gap begins
abbrev pub begins_lexeme : List ℕ → Bool
begins_lexeme [] = true
begins_lexeme (b ∷ bytes) = not (is_blank b || nat_eq b 47)

-- The longest front of a word with which a word that passes a test begins, as long as that is not empty.
pub record IsFront (passes : List ℕ → Bool) (word : List ℕ) (count : ℕ) : Type 0 where
  pub within : count ≤ length word
  pub begins : (count ≡ 0) ⊎ ((more : List ℕ) × (passes (take count word ++ more) ≡ true))
  pub ends : count < length word → (more : List ℕ) → passes (take (count + 1) word ++ more) ≡ true → ⊥

-- a word may come next
abbrev pub may_come : Standing → List ℕ → Bool
may_come standing word = is_some (next_by_word standing.stage standing.given standing.draft word)

-- a lexeme that may come stands between two places, and leads to another standing
pub record LexemeGoes (old new : Standing) (bytes : List ℕ) (at end : ℕ) : Type 0 where
  pub lexeme : Lexeme
  pub next_is : next old lexeme ≡ Some new
  pub spells : (tail : List ℕ) → Resembles tail (drop end bytes) → Spells lexeme (slice_range bytes at end ++ tail) tail

-- what stands between two places begins a lexeme that may come
pub record LexemeBegins (old : Standing) (bytes : List ℕ) (at place : ℕ) : Type 0 where
  pub longer : at < place
  pub lexeme : Lexeme
  pub new : Standing
  pub next_is : next old lexeme ≡ Some new
  pub more : List ℕ
  pub spells : (tail : List ℕ) → Spells lexeme (slice_range bytes at place ++ (more ++ 10 ∷ tail)) (10 ∷ tail)

-- What stands before a place may be gone on with, and what stands up to it may not.
pub record LexemeFails (old : Standing) (bytes : List ℕ) (at place : ℕ) : Type 0 where
  pub later : at ≤ place
  pub within : place ≤ length bytes
  pub begins : (place ≡ at) ⊎ LexemeBegins old bytes at place
  pub fails : (tail rest : List ℕ) (lexeme : Lexeme) (new : Standing) → first tail ≡ first (drop place bytes)
      → Spells lexeme (slice_range bytes at place ++ tail) rest → next old lexeme ≡ Some new → ⊥
