-- What stands behind the `$_` of an index word, cut at each `_`.
use Rattle.std.specs.Prelude.{◌≡◌, ℕ, ◌≤◌, ◌↔◌, ◌==◌, Bool, Contains, List}
use Rattle.std.specs.List.{AllZip, slice_split}
use Rattle.index_words.specs.Marks.{AreAscending}
use Rattle.index_words.specs.Words.{AreDifferent, IsNumeral, most_index, number_of}

-- the byte `_`
abbrev pub is_low_line : ℕ → Bool
is_low_line c = c == 95

-- decimal digits that say a number within the limit
pub record IsWritten (digits : List ℕ) (n : ℕ) : Type 0 where
  pub numeral : IsNumeral digits
  pub says : number_of digits ≡ n
  pub within : n ≤ most_index

-- groups of digits with `_` between them say these numbers
abbrev pub SayAll : List ℕ → List ℕ → Type 0
SayAll bytes numbers = AllZip IsWritten (slice_split is_low_line bytes) numbers

-- no two numbers are equal, and these are the same in ascending order
pub record Arranges (numbers set : List ℕ) : Type 0 where
  pub different : AreDifferent numbers
  pub same : (n : ℕ) → Contains set n ↔ Contains numbers n
  pub ascending : AreAscending set
