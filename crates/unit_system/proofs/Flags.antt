-- The flags of associations by places are those of the selections.
use Rattle.std.proofs.Common.{◌≡◌, ◌∙◌, ℕ, nat_eq, inl, inr, Bool, true, false, ◌&&◌, List, [], ◌∷◌, Option, None, Some, if◌then◌else◌, slice_get, unwrap_or, refl, sym, ap}
use Rattle.name_rules.specs.Spellings.{Place}
use Rattle.name_rules.specs.Scopes.{is_place}
use Rattle.name_tables.specs.PlaceMap.Values.{or_else}
use Rattle.name_tables.specs.declared.place_flags.PlaceFlags.{PlaceFlags}
use Rattle.name_tables.specs.PlaceFlags.Flags.{flag_at, row_at, some_flag}
use Rattle.row_rules.specs.Starting.{Selection, flag_among}
use Rattle.unit_starts.specs.Selecting.{AddsSelections, row_among}

-- the flag of a selection's number at a place, by its row, is that of the selections
flag_of_row : (all : List Selection) (p : Place) (n : ℕ) → some_flag (row_among all p) n ≡ flag_among all p n
flag_of_row [] p n = refl
flag_of_row (it ∷ others) p n =
    by (is_place it.at p) (flag_of_row others p n)
  where
    by : (b : Bool) → some_flag (row_among others p) n ≡ flag_among others p n
        → some_flag (or_else (if b then Some it.flags else None) (row_among others p)) n
        ≡ (if b then unwrap_or (slice_get it.flags n) false else flag_among others p n)
    by true is = refl
    by false is = is

pub flags_are : (old new : PlaceFlags) (all : List Selection) → ((p : Place) → row_at old p ≡ None)
    → AddsSelections old new all
    → (p : Place) (n : ℕ) → flag_at new p n ≡ flag_among all p n
flags_are old new all none added p n =
    ap (λ o. some_flag o n) (added p ∙ ap (λ o. or_else o (row_among all p)) (none p)) ∙ flag_of_row all p n
