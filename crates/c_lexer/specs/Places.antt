-- Places of a unit, as linemarkers give them.
use Rattle.std.specs.Prelude.{◌≡◌, ◌≢◌, ℕ, ◌+◌, ◌-◌, ◌<◌, ◌≤◌, ◌⊎◌, ◌==◌, List, [], ◌∷◌, take, reverse, not, nat_eq, nat_le, if◌then◌else◌, slice_get, slice_index, slice_range, count_by, Some}
use Rattle.std.specs.List.{prefix_len}
use Rattle.qual_base.specs.declared.places.Spot.{Spot}
use Rattle.c_lexer.specs.declared.places.Mark.{Mark}

-- before the first linemarker lines count from 1, in the file with the unit's own name
abbrev pub no_mark : Mark
no_mark = record { from = 0; number = 1; name_from = 0; name_to = 0 }

-- the last of the linemarkers whose lines begin at or before a place, or one that stands before them
abbrev pub governing : Mark → List Mark → ℕ → Mark
governing before [] at = before
governing before (mark ∷ marks) at = if nat_le mark.from at then governing mark marks at else governing before marks at

-- how many bytes of its line stand before a place
abbrev pub before_in_line : List ℕ → ℕ → ℕ
before_in_line bytes at = prefix_len (λ b. not (nat_eq b 10)) (reverse (take at bytes))

-- the line of a place, counted by the linemarker that governs it
abbrev pub line_by : List ℕ → Mark → ℕ → ℕ
line_by bytes mark at = mark.number + count_by (λ b. nat_eq b 10) (slice_range bytes mark.from at)

-- the spot of a place by the linemarker that governs it
abbrev pub spot_by : ℕ → List ℕ → Mark → ℕ → Spot
spot_by unit bytes mark at = record {
  unit = unit;
  name_from = mark.name_from;
  name_to = mark.name_to;
  line = line_by bytes mark at;
  column = before_in_line bytes at + 1;
}

-- The spot of a place of a unit: the file and the line by the linemarker that governs it, and the column by the number
-- of the byte in its line.
abbrev pub spot_at : ℕ → List ℕ → List Mark → ℕ → Spot
spot_at unit bytes marks at = spot_by unit bytes (governing no_mark marks at) at

-- ---- the same as relations, which the function meets

-- the mark is the last of those whose lines begin at or before the place
pub data Governs (marks : List Mark) (at : ℕ) (mark : Mark) : Type 0 where
  none : mark ≡ no_mark → ((k : ℕ) (m : Mark) → slice_get marks k ≡ Some m → at < m.from) → Governs marks at mark
  last : (k : ℕ) → slice_get marks k ≡ Some mark → mark.from ≤ at
      → ((j : ℕ) (m : Mark) → k < j → slice_get marks j ≡ Some m → at < m.from) → Governs marks at mark

-- a line of the bytes begins at `from`, and the place stands in it
pub record IsLineOf (bytes : List ℕ) (at from : ℕ) : Type 0 where
  pub within : from ≤ at
  pub begins : (from ≡ 0) ⊎ (slice_index bytes (from - 1) ≡ 10)
  pub no_feed : (k : ℕ) → from ≤ k → k < at → slice_index bytes k ≢ 10

-- the spot names a place of a unit
pub record IsSpot (unit : ℕ) (bytes : List ℕ) (marks : List Mark) (at : ℕ) (spot : Spot) : Type 0 where
  pub mark : Mark
  pub governs : Governs marks at mark
  pub line_from : ℕ
  pub line_of : IsLineOf bytes at line_from
  pub unit_is : spot.unit ≡ unit
  pub name_from : spot.name_from ≡ mark.name_from
  pub name_to : spot.name_to ≡ mark.name_to
  pub line : spot.line ≡ mark.number + count_by (λ c. c == 10) (slice_range bytes mark.from at)
  pub column : spot.column ≡ at - line_from + 1
