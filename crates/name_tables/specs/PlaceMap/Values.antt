-- The number and the value at each place.
use Rattle.std.specs.Prelude.{◌≡◌, ℕ, zero, suc, List, [], slice_get, Option, Some, None, if◌then◌else◌}
use Rattle.std.specs.HashMap.{get}
use Rattle.name_rules.specs.Spellings.{Place}
use Rattle.name_rules.specs.Scopes.{is_place}
use Rattle.name_tables.specs.declared.place_map.index.PlaceIndex.{PlaceIndex}
use Rattle.name_tables.specs.declared.place_map.map.PlaceMap.{PlaceMap}

-- what a cell has, 0 where there is none
abbrev pub or_zero : Option ℕ → ℕ
or_zero None = 0
or_zero (Some cell) = cell

-- what is written at a token, and 0 behind the last one that has something
abbrev pub cell_in : List ℕ → ℕ → ℕ
cell_in row token = or_zero (slice_get row token)

-- the row of a unit, an empty one where there is none
abbrev pub or_empty : Option (List ℕ) → List ℕ
or_empty None = []
or_empty (Some row) = row

-- what is written at a place, by the rows of units
abbrev pub cell_at : List (List ℕ) → Place → ℕ
cell_at units p = cell_in (or_empty (slice_get units p.0)) p.1

-- a number is written as one more, and none as 0
abbrev pub number_of : ℕ → Option ℕ
number_of zero = None
number_of (suc n) = Some n

-- the number at a place, where it has one
abbrev pub number_at : PlaceIndex → Place → Option ℕ
number_at index p = number_of (cell_at index.units.items p)

-- the value that a map has at a place
abbrev pub value_at : {V : Type 0} → PlaceMap V → Place → Option V
value_at s p = get is_place s.map p

-- a place has this number, and the others have theirs
abbrev pub IsNumbered : PlaceIndex → PlaceIndex → Place → ℕ → Type 0
IsNumbered old new at n = (p : Place) → number_at new p ≡ (if is_place at p then Some n else number_at old p)

-- each place has the number that it had
abbrev pub AreAsBefore : PlaceIndex → PlaceIndex → Type 0
AreAsBefore old new = (p : Place) → number_at new p ≡ number_at old p

-- a place has this value, and the others have theirs
abbrev pub IsSet : {V : Type 0} → PlaceMap V → PlaceMap V → Place → V → Type 0
IsSet old new at value = (p : Place) → value_at new p ≡ (if is_place at p then Some value else value_at old p)

-- each place has the value that it had
abbrev pub AreSame : {V : Type 0} → PlaceMap V → PlaceMap V → Type 0
AreSame old new = (p : Place) → value_at new p ≡ value_at old p

-- the first of two values
abbrev pub or_else : {V : Type 0} → Option V → Option V → Option V
or_else None other = other
or_else (Some v) other = Some v

-- a value that is at this place
abbrev pub there : {V : Type 0} → Place → V → Place → Option V
there at v p = if is_place at p then Some v else None
