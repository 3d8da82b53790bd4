-- A row that is added where a place has none.
use Rattle.std.proofs.Common.{◌≡◌, Bool, true, false, List, Option, Some, is_some, if◌then◌else◌}
use Rattle.name_rules.specs.Spellings.{Place}
use Rattle.name_rules.specs.Scopes.{is_place}
use Rattle.name_tables.specs.PlaceMap.Values.{or_else, there}
use Rattle.name_tables.proofs.PlaceMap.Adding.{stays, comes}

pub row_stays : (before : Place → Option (List Bool)) (at : Place) (row : List Bool) → is_some (before at) ≡ true
    → (p : Place)
    → before p ≡ or_else (before p) (there at row p)
row_stays before at row known = stays before at row known

pub row_comes : (before after : Place → Option (List Bool)) (at : Place) (row : List Bool) → is_some (before at) ≡ false
    → ((p : Place) → after p ≡ (if is_place at p then Some row else before p)) → (p : Place)
    → after p ≡ or_else (before p) (there at row p)
row_comes before after at row unknown set = comes before at row after unknown set
