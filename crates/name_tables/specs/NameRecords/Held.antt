-- Maps that agree with lists.
use Rattle.std.specs.Prelude.{◌≡◌, ℕ, nat_eq, Bool, ◌&&◌, List, map, is_some}
use Rattle.std.specs.declared.hash.FoldHasher.{FoldHasher}
use Rattle.std.specs.declared.hash.BuildHasherDefault.{BuildHasherDefault}
use Rattle.std.specs.HashMap.{get, HashMap}
use Rattle.name_rules.specs.Spellings.{Place}
use Rattle.name_rules.specs.Scopes as rules
use Rattle.name_rules.specs.Scopes.{is_place, thing_of}
use Rattle.name_rules.specs.Declaring.{has_body_in}
use Rattle.name_tables.specs.declared.name_records.bodies.Bodied.{Bodied}

-- the body of a function, as the definitions have it
abbrev pub bodied_of : Bodied → rules.Bodied
bodied_of it = record { first = it.first; at = it.at; is_plain = it.is_plain }

-- a function and a unit
abbrev pub PlaceInUnit : Type 0
PlaceInUnit = Place × ℕ

-- whether two are the same function and the same unit
abbrev pub is_same_in_unit : PlaceInUnit → PlaceInUnit → Bool
is_same_in_unit p q = is_place p.0 q.0 && nat_eq p.1 q.1

-- a hash set of functions, each with a unit in which it has a body
abbrev pub BodySet : Type 0
BodySet = HashMap PlaceInUnit (Unit {0}) (BuildHasherDefault FoldHasher)

-- a map has the functions that have a body in a unit
pub record AreKnown (all : List Bodied) (known : BodySet) : Type 0 where
  pub same : (unit : ℕ) (first : Place)
      → is_some (get is_same_in_unit known (first, unit)) ≡ has_body_in unit (map bodied_of all) first

-- a hash table of where things were first declared, by the unit and the name
abbrev pub ThingTable : Type 0
ThingTable = HashMap Place Place (BuildHasherDefault FoldHasher)

-- a table has the newest of a unit and a name
pub record AreNewest (all : List (ℕ × Place)) (newest : ThingTable) : Type 0 where
  pub same : (unit name : ℕ) → get is_place newest (unit, name) ≡ thing_of unit all name
