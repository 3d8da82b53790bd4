-- Lines and columns of a file, both counted from 1; a column is a number of bytes.
use Rattle.std.specs.Prelude.{ℕ, ◌+◌, List, [], ◌∷◌, take, ◌==◌, count_by, if◌then◌else◌}

-- how many line feeds there are
abbrev pub lines_in : List ℕ → ℕ
lines_in = count_by (λ byte. byte == 10)

-- how many line feeds stand before a place, and one more
abbrev pub line_of : List ℕ → ℕ → ℕ
line_of bytes place = lines_in (take place bytes) + 1

-- how many bytes follow the last line feed, where count bytes stand on the line before these
abbrev pub after_last_line : List ℕ → ℕ → ℕ
after_last_line [] count = count
after_last_line (byte ∷ bytes) count = after_last_line bytes (if byte == 10 then 0 else count + 1)

-- how many bytes of its line stand before a place, and one more
abbrev pub column_of : List ℕ → ℕ → ℕ
column_of bytes place = after_last_line (take place bytes) 0 + 1
