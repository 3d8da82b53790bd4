-- The lines of a report, one by one.
use Rattle.std.specs.Prelude.{ℕ, ◌+◌, ◌*◌, ◌-◌, ◌^◌, min, ◌||◌, ◌==◌, List, [], ◌∷◌, length, take, drop, codes, Option, Some, None, is_some, if◌then◌else◌}
use Rattle.std.specs.Char.{is_ascii_digit}
use Rattle.std.specs.Str.{bytes_eq}
use Rattle.std.specs.List.{slice_split}
use Rattle.path_checker.specs.declared.lines.Line.{Line}
use Rattle.path_checker.specs.declared.lines.Line.TheVariants.{Rejected, Error, Sub, Path, Take, Through, Other}

-- a number above 2^32 - 1 is read as 2^32 - 1
abbrev pub capped : ℕ → ℕ
capped n = min n (2 ^ 32 - 1)

-- the number that digits write behind those that write v
abbrev pub number_behind : ℕ → List ℕ → Option ℕ
number_behind v [] = Some v
number_behind v (d ∷ ds) = if is_ascii_digit d then number_behind (10 * v + (d - 48)) ds else None

-- the number of a numeral without leading zeros
abbrev pub number_of : List ℕ → Option ℕ
number_of [] = None
number_of (d ∷ []) = number_behind 0 (d ∷ [])
number_of (d ∷ e ∷ ds) = if d == 48 then None else number_behind 0 (d ∷ e ∷ ds)

-- what stands behind a word that a line begins with
unfoldable pub behind : List ℕ → List ℕ → Option (List ℕ)
behind word line = if bytes_eq (take (length word) line) word then Some (drop (length word) line) else None

-- the line of a sub-path, by its number, if that reads
abbrev pub sub_line : Option ℕ → Line
sub_line (Some n) = Sub (capped n)
sub_line None = Other

-- a step by a sub-path, by its number, if that reads
abbrev pub through_line : Option ℕ → Line
through_line (Some n) = Through (capped n)
through_line None = Other

-- a step by a constraint, by its number, if that reads
abbrev pub take_line : Option ℕ → Line
take_line (Some n) = Take (capped n)
take_line None = Other

-- a step by a constraint: its number, and a space behind it
abbrev pub first_word : List (List ℕ) → Line
first_word (word ∷ next ∷ words) = take_line (number_of word)
first_word _ = Other

-- a step by what stands behind `sub`, if that begins it
abbrev pub by_sub : Option (List ℕ) → List ℕ → Line
by_sub (Some numeral) step = through_line (number_of numeral)
by_sub None step = first_word (slice_split (λ b. b == 32) step)

-- the step that stands behind the two spaces at the head of a line
unfoldable pub step_kind : List ℕ → Line
step_kind step = by_sub (behind (codes "sub ") step) step

-- a step, where a line begins with two spaces
abbrev pub by_indent : Option (List ℕ) → Line
by_indent (Some step) = step_kind step
by_indent None = Other

-- a line by what stands behind `sub`, if that begins it, and else as a step
abbrev pub by_header : Option (List ℕ) → List ℕ → Line
by_header (Some numeral) line = sub_line (number_of numeral)
by_header None line = by_indent (behind (codes "  ") line)

-- What a line is. Of a line that begins with `error` the first word is read, and of a step by a constraint its number.
unfoldable pub line_kind : List ℕ → Line
line_kind line =
    if bytes_eq line (codes "rejected") then Rejected
    else if bytes_eq line (codes "path") then Path
    else if bytes_eq line (codes "error") || is_some (behind (codes "error ") line) then Error
    else by_header (behind (codes "sub ") line) line

-- The lines of a text, cut at its line feeds. What stands behind the last line feed is no line that fits.
abbrev pub lines_in : List (List ℕ) → List Line
lines_in [] = []
lines_in ([] ∷ []) = []
lines_in ((b ∷ bs) ∷ []) = Other ∷ []
lines_in (line ∷ next ∷ pieces) = line_kind line ∷ lines_in (next ∷ pieces)

-- the lines of a text
abbrev pub lines_of : List ℕ → List Line
lines_of text = lines_in (slice_split (λ b. b == 10) text)
