-- Linemarkers: lines that say where the next line comes from, as a preprocessor writes them.
use Rattle.std.specs.Prelude.{◌≡◌, ℕ, ◌+◌, ◌-◌, ◌*◌, ◌<◌, ◌≤◌, Bool, true, false, ◌&&◌, ◌||◌, not, ◌==◌, List, [], ◌∷◌, length, drop, nat_le, slice_index, slice_range, fold}
use Rattle.c_lexer.specs.declared.marks.Marker.{Marker}
use Rattle.c_lexer.specs.Spelling.{is_digit, is_quoted, begins_with}
use Rattle.c_lexer.specs.Gaps.{is_blank}

-- the bytes from one place to a later one pass the test
pub record IsRun (test : ℕ → Bool) (bytes : List ℕ) (from to : ℕ) : Type 0 where
  pub rises : from < to
  pub inside : to ≤ length bytes
  pub passes : (k : ℕ) → from ≤ k → k < to → test (slice_index bytes k) ≡ true

-- one of the flags `1` to `4`
abbrev pub is_flag : ℕ → Bool
is_flag c = nat_le 49 c && nat_le c 52

-- a blank, or a flag right behind a blank
abbrev pub may_stand : Bool → ℕ → Bool
may_stand spaced c = is_blank c || (spaced && is_flag c)

-- flags, each behind at least one blank, and nothing behind the last; `spaced` says that a blank stands right before
abbrev pub are_flags : Bool → List ℕ → Bool
are_flags spaced [] = not spaced
are_flags spaced (c ∷ cs) = may_stand spaced c && are_flags (is_blank c) cs

-- the number that decimal digits spell
abbrev pub decimal : List ℕ → ℕ
decimal digits = fold (λ n c. 10 * n + (c - 48)) 0 digits

-- A line is `#`, blanks, one to nine digits, blanks, a file name between `"` in which a backslash takes the next byte
-- with it, and flags. It says the number of the next line, and the name's place in the line.
pub record IsMarker (line : List ℕ) (marker : Marker) : Type 0 where
  pub digits_at : ℕ
  pub digits_end : ℕ
  pub quote_at : ℕ
  pub hash : begins_with (λ c. c == 35) line ≡ true
  pub first_blanks : IsRun is_blank line 1 digits_at
  pub digits : IsRun is_digit line digits_at digits_end
  pub few : digits_end ≤ digits_at + 9
  pub second_blanks : IsRun is_blank line digits_end quote_at
  pub name_from : marker.name_from ≡ quote_at + 1
  pub inside : marker.name_to < length line
  pub file : is_quoted 34 (slice_range line quote_at (marker.name_to + 1)) ≡ true
  pub flags : are_flags false (drop (marker.name_to + 1) line) ≡ true
  pub number : marker.number ≡ decimal (slice_range line digits_at digits_end)
