-- Which associations of selections are candidates, by places.
use Rattle.std.specs.Prelude.{◌≡◌, ℕ, Bool, List, [], ◌∷◌, Option, None}
use Rattle.name_rules.specs.Spellings.{Place}
use Rattle.name_rules.specs.Values.{has_of_type}
use Rattle.name_rules.specs.ShapeSteps.State.{State, value_at}
use Rattle.name_rules.specs.ShapeSteps.Steps.{associations, twice}
use Rattle.name_tables.specs.PlaceMap.Values.{or_else, there}
use Rattle.name_tables.specs.declared.place_flags.PlaceFlags.{PlaceFlags}
use Rattle.name_tables.specs.PlaceFlags.Flags.{row_at}
use Rattle.row_rules.specs.Starting.{Selection, candidate_flags}

-- the flags of the first selection at a place
abbrev pub row_among : List Selection → Place → Option (List Bool)
row_among [] p = None
row_among (it ∷ others) p = or_else (there it.at it.flags p) (row_among others p)

-- the flags of so many associations on the stack
abbrev pub selection_row : ℕ → State → List Bool
selection_row count st =
    candidate_flags (has_of_type (value_at (twice count) st) (associations count st)) (value_at (twice count) st)
    (associations count st)

-- a place has what it had, or else what these selections have there
abbrev pub AddsSelections : PlaceFlags → PlaceFlags → List Selection → Type 0
AddsSelections old new all = (p : Place) → row_at new p ≡ or_else (row_at old p) (row_among all p)
