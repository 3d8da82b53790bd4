-- The lines of certificates, one by one.
use Rattle.std.specs.Prelude.{ℕ, ◌+◌, ◌*◌, ◌-◌, ◌^◌, min, nat_lt, ◌==◌, List, [], ◌∷◌, length, take, slice_index, codes, Option, Some, None, if◌then◌else◌}
use Rattle.std.specs.Str.{bytes_eq}
use Rattle.std.specs.List.{slice_split}
use Rattle.path_checker.specs.Lines.{number_of, behind}
use Rattle.certificate_reader.specs.declared.lines.Line.{Line}
use Rattle.certificate_reader.specs.declared.lines.Line.TheVariants.{Certificate, Lattice, Set, Pair, Other}

-- The end of a constraint with a number: its first, or its second. A number above 2^31 - 1 is read as that.
abbrev pub end_of : Option ℕ → ℕ → Option ℕ
end_of (Some n) second = Some (2 * min n (2 ^ 31 - 1) + second)
end_of None second = None

-- the end of a constraint with a number that a letter says: `a` the first, `b` the second
abbrev pub by_letter : Option ℕ → ℕ → Option ℕ
by_letter number letter = if letter == 97 then end_of number 0 else if letter == 98 then end_of number 1 else None

-- the end that a name is: a numeral without leading zeros, and `a` or `b`
abbrev pub end_in : List ℕ → Option ℕ
end_in bytes = by_letter (number_of (take (length bytes - 1) bytes)) (slice_index bytes (length bytes - 1))

-- a set as a number of 64 bits
abbrev pub bits_of : Option ℕ → Option ℕ
bits_of (Some n) = if nat_lt n (2 ^ 64) then Some n else None
bits_of None = None

-- a set line by its name and its two sets, if all are there
abbrev pub set_line : Option ℕ → Option ℕ → Option ℕ → Line
set_line (Some name) (Some first) (Some second) = Set name first second
set_line (Some name) (Some first) None = Other
set_line (Some name) None second = Other
set_line None first second = Other

-- a pair line by its two names, if both are there
abbrev pub pair_line : Option ℕ → Option ℕ → Line
pair_line (Some from) (Some to) = Pair from to
pair_line (Some from) None = Other
pair_line None to = Other

-- a number above 2^32 - 1 is read as that
abbrev pub lattice_line : Option ℕ → Line
lattice_line (Some n) = Lattice (min n (2 ^ 32 - 1))
lattice_line None = Other

-- a set line by its words: a name and two numerals
abbrev pub set_kind : List (List ℕ) → Line
set_kind [] = Other
set_kind (name ∷ []) = Other
set_kind (name ∷ first ∷ []) = Other
set_kind (name ∷ first ∷ second ∷ []) = set_line (end_in name) (bits_of (number_of first)) (bits_of (number_of second))
set_kind (name ∷ first ∷ second ∷ more ∷ others) = Other

-- a pair line by its words: two names
abbrev pub pair_kind : List (List ℕ) → Line
pair_kind [] = Other
pair_kind (from ∷ []) = Other
pair_kind (from ∷ to ∷ []) = pair_line (end_in from) (end_in to)
pair_kind (from ∷ to ∷ more ∷ others) = Other

-- the words of a line, cut at each space
abbrev pub words : List ℕ → List (List ℕ)
words bytes = slice_split (λ b. b == 32) bytes

-- a line by what stands behind `pair`, if that begins it
abbrev pub by_pair : Option (List ℕ) → Line
by_pair (Some rest) = pair_kind (words rest)
by_pair None = Other

-- a line by what stands behind `set`, if that begins it
abbrev pub by_set : Option (List ℕ) → List ℕ → Line
by_set (Some rest) line = set_kind (words rest)
by_set None line = by_pair (behind (codes "  pair ") line)

-- a line by what stands behind `lattice`, if that begins it
abbrev pub by_lattice : Option (List ℕ) → List ℕ → Line
by_lattice (Some numeral) line = lattice_line (number_of numeral)
by_lattice None line = by_set (behind (codes "  set ") line) line

-- what a line is
unfoldable pub line_kind : List ℕ → Line
line_kind line =
    if bytes_eq line (codes "certificate") then Certificate else by_lattice (behind (codes "lattice ") line) line

-- The lines of a text, cut at its line feeds. What stands behind the last line feed is no line that fits.
abbrev pub lines_in : List (List ℕ) → List Line
lines_in [] = []
lines_in ([] ∷ []) = []
lines_in ((b ∷ bs) ∷ []) = Other ∷ []
lines_in (line ∷ next ∷ pieces) = line_kind line ∷ lines_in (next ∷ pieces)

-- the lines of a text
abbrev pub lines_of : List ℕ → List Line
lines_of text = lines_in (slice_split (λ b. b == 10) text)
