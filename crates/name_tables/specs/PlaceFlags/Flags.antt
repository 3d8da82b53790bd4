-- The flags at each place.
use Rattle.std.specs.Prelude.{ℕ, Bool, false, List, slice_get, unwrap_or, Option, Some, None, option_map}
use Rattle.std.specs.HashMap.{get}
use Rattle.name_rules.specs.Spellings.{Place}
use Rattle.name_rules.specs.Scopes.{is_place}
use Rattle.name_tables.specs.declared.place_flags.PlaceFlags.{PlaceFlags}

-- the row of flags at a place
abbrev pub row_at : PlaceFlags → Place → Option (List Bool)
row_at s p = option_map (λ row. row.items) (get is_place s.rows p)

-- the flag of a number in a row, false past its end
abbrev pub flag_in : List Bool → ℕ → Bool
flag_in row n = unwrap_or (slice_get row n) false

-- the flag of a number in a row, false where there is no row
abbrev pub some_flag : Option (List Bool) → ℕ → Bool
some_flag None n = false
some_flag (Some row) n = flag_in row n

-- the flag of a number at a place
abbrev pub flag_at : PlaceFlags → Place → ℕ → Bool
flag_at s p n = some_flag (row_at s p) n
