-- Uses, types' names and members that are found by their places and names.
use Rattle.std.specs.Prelude.{◌≡◌, ℕ, nat_eq, List, [], ◌∷◌, Option, Some, None, if◌then◌else◌}
use Rattle.std.specs.declared.hash.FoldHasher.{FoldHasher}
use Rattle.std.specs.declared.hash.BuildHasherDefault.{BuildHasherDefault}
use Rattle.std.specs.HashMap.{get, HashMap}
use Rattle.name_rules.specs.Spellings.{Place}
use Rattle.name_rules.specs.Scopes.{is_place}
use Rattle.name_tables.specs.declared.name_records.body.Known.{Known}
use Rattle.name_tables.specs.declared.name_records.aggregates.Aggregate.{Aggregate}
use Rattle.name_tables.specs.declared.name_records.records.NameUse.{NameUse}
use Rattle.name_tables.specs.declared.name_records.records.TypeNamed.{TypeNamed}
use Rattle.name_tables.specs.declared.name_records.member_map.MemberMap.{MemberMap}
use Rattle.name_tables.specs.NameRecords.Aggregates.{known_at}
use Rattle.name_tables.specs.declared.place_map.map.PlaceMap.{PlaceMap}
use Rattle.name_tables.specs.PlaceMap.Values.{value_at, or_else, there}

-- where a name is used
abbrev pub use_place : NameUse → Place
use_place it = it.at

-- the first use that was noted at a place
abbrev pub first_use : List NameUse → Place → Option NameUse
first_use [] p = None
first_use (it ∷ uses) p = if is_place it.at p then Some it else first_use uses p

-- the number of the type of the first type's name that was noted at a place
abbrev pub first_type : List TypeNamed → Place → Option ℕ
first_type [] p = None
first_type (it ∷ others) p = if is_place it.at p then Some it.ty else first_type others p

-- each place has the type of the first name there
pub record AreFirstTypes (all : List TypeNamed) (first : PlaceMap ℕ) : Type 0 where
  pub same : (p : Place) → value_at first p ≡ first_type all p

-- the value of the first entry at a place
abbrev pub first_in : {A V : Type 0} → (A → Place × V) → List A → Place → Option V
first_in entry [] p = None
first_in entry (x ∷ xs) p = or_else (there (entry x).0 (entry x).1 p) (first_in entry xs p)

-- a member, by the number of its struct and its name
abbrev pub known_entry : ℕ → Known → Place × Known
known_entry number it = ((number, it.name), it)

-- the first member of a name
abbrev pub member_named : List Known → ℕ → Option Known
member_named [] name = None
member_named (it ∷ known) name = if nat_eq it.name name then Some it else member_named known name

-- a hash table of members, each by the number of its struct and its name
abbrev pub MemberTable : Type 0
MemberTable = HashMap Place Known (BuildHasherDefault FoldHasher)

-- the member of a struct's number and a name
abbrev pub member_there : MemberTable → Place → Option Known
member_there table at = get is_place table at

-- each struct finds its members by their names
pub record AreMembers (all : List Aggregate) (members : MemberMap) : Type 0 where
  pub same : (number name : ℕ) → member_there members.map (number, name) ≡ member_named (known_at all number) name
