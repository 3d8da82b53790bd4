-- What has a body, by where it was first declared.
use Rattle.std.specs.Prelude.{◌≡◌, List, map, is_some}
use Rattle.name_rules.specs.Spellings.{Place}
use Rattle.name_rules.specs.Scopes.{Bodied}
use Rattle.name_tables.specs.declared.place_map.map.PlaceMap.{PlaceMap}
use Rattle.name_tables.specs.PlaceMap.Values.{value_at}
use Rattle.row_rules.specs.Sites.{has_place, first_place}

-- a map has the places
abbrev pub AreFirsts : List Bodied → PlaceMap (Unit {0}) → Type 0
AreFirsts all firsts = (p : Place) → is_some (value_at firsts p) ≡ has_place (map first_place all) p
