-- How index words are spelled: `$_1_2` has the numbers 1 and 2.
use Rattle.std.specs.Prelude.{◌≡◌, ◌≢◌, ℕ, ◌+◌, ◌*◌, ◌-◌, ◌≤◌, List, [], ◌∷◌, All, map}
use Rattle.std.specs.List.{flat_map}

-- the greatest number of an index word
abbrev pub most_index : ℕ
most_index = 65535

-- a byte is a decimal digit
abbrev pub IsDigit : ℕ → Type 0
IsDigit c = (48 ≤ c) × (c ≤ 57)

-- decimal digits, one at least
pub record IsNumeral (digits : List ℕ) : Type 0 where
  pub some : digits ≢ []
  pub decimal : All IsDigit digits

-- the number that digits say behind some that say n
abbrev pub number_behind : ℕ → List ℕ → ℕ
number_behind n [] = n
number_behind n (c ∷ digits) = number_behind (n * 10 + (c - 48)) digits

-- the number that decimal digits say
abbrev pub number_of : List ℕ → ℕ
number_of digits = number_behind 0 digits

-- `_` and digits
abbrev pub group : List ℕ → List ℕ
group digits = 95 ∷ digits

-- a number is another one than this
abbrev pub IsOther : ℕ → ℕ → Type 0
IsOther n m = n ≢ m

-- no number stands there twice
abbrev pub AreDifferent : List ℕ → Type 0
AreDifferent [] = Unit {0}
AreDifferent (n ∷ ns) = All (IsOther n) ns × AreDifferent ns

-- `$`, and then one or more groups, each of which says a number within the limit that no other one says
pub record IsIndexWord (bytes : List ℕ) (numbers : List ℕ) : Type 0 where
  pub groups : List (List ℕ)
  pub some : groups ≢ []
  pub numerals : All IsNumeral groups
  pub spelled : bytes ≡ 36 ∷ flat_map group groups
  pub numbers_are : numbers ≡ map number_of groups
  pub within : All (λ n. n ≤ most_index) numbers
  pub different : AreDifferent numbers
