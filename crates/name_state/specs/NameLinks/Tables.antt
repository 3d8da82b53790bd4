-- What tables have of names and of keys, and what several sources know by them.
use Rattle.std.specs.Prelude.{◌≡◌, ℕ, suc, nat_eq, nat_lt, Bool, false, not, ◌&&◌, ◌||◌, List, [], ◌∷◌, ◌++◌, Option, Some, None, is_some, if◌then◌else◌}
use Rattle.std.specs.declared.hash.FoldHasher.{FoldHasher}
use Rattle.std.specs.declared.hash.BuildHasherDefault.{BuildHasherDefault}
use Rattle.std.specs.HashMap.{get, HashMap}
use Rattle.tape_ops.specs.declared.specifier.TagKind.{TagKind}
use Rattle.tape_ops.specs.declared.specifier.TagKind.TheVariants as kinds
use Rattle.name_rules.specs.Spellings.{Place}
use Rattle.name_rules.specs.Faults.{Fault, defined_twice, fault_where}
use Rattle.name_rules.specs.Scopes.{is_place}
use Rattle.name_rules.specs.Scopes as rules
use Rattle.name_rules.specs.Declaring.{or_at}
use Rattle.name_rules.specs.Linking.{is_internal, first_external, is_same_key}
use Rattle.name_tables.specs.NameRecords.Bodies.{OneBody}
use Rattle.name_tables.specs.declared.name_records.body.Known.{Known}
use Rattle.name_tables.specs.declared.name_records.aggregates.StructKey.{StructKey}
use Rattle.name_tables.specs.declared.name_records.aggregates.Aggregate.{Aggregate}
use Rattle.name_tables.specs.declared.name_records.bodies.Bodied.{Bodied}
use Rattle.name_tables.specs.declared.place_map.map.PlaceMap.{PlaceMap}
use Rattle.name_tables.specs.PlaceMap.Values.{value_at, or_else, there}
use Rattle.name_state.specs.UnitNames.Shown.{key_of}
use Rattle.name_state.specs.declared.name_links.keys.Shared.{Shared}
use Rattle.name_state.specs.declared.name_links.keys.ByKind.{ByKind}
use Rattle.name_state.specs.declared.name_links.keys.Keys.{Keys}

-- objects and functions

-- a hash set of units, each with a name that a declaration there has `static` with
abbrev pub StaticSet : Type 0
StaticSet = HashMap Place (Unit {0}) (BuildHasherDefault FoldHasher)

-- a map has the units and names of `static`
abbrev pub AreStatics : List (ℕ × ℕ) → StaticSet → Type 0
AreStatics statics known = (unit name : ℕ) → is_some (get is_place known (unit, name)) ≡ is_internal statics unit name

-- a hash table of places by names
abbrev pub NameTable : Type 0
NameTable = HashMap ℕ Place (BuildHasherDefault FoldHasher)

-- the place of a name
abbrev pub name_there : NameTable → ℕ → Option Place
name_there table name = get nat_eq table name

-- the place of a thing, where this is its name
abbrev pub first_by : ℕ → Place → ℕ → Option Place
first_by name at n = if nat_eq name n then Some at else None

-- a table has the first external thing of each name
abbrev pub AreFirsts : List (ℕ × ℕ) → List (ℕ × Place) → NameTable → Type 0
AreFirsts statics things table = (name : ℕ) → name_there table name ≡ first_external statics things name

-- a place by a map of links
abbrev pub linked_by : PlaceMap Place → Place → Place
linked_by links p = or_at (value_at links p) p

-- keys

-- a hash table of what is known by tags, or by names of typedefs
abbrev pub SharedTable : Type 0
SharedTable = HashMap ℕ Shared (BuildHasherDefault FoldHasher)

-- what is known by a name, where there is something
abbrev pub shared_at : SharedTable → ℕ → Option Shared
shared_at table name = get nat_eq table name

-- the table of the names behind this keyword
abbrev pub table_of : ByKind → TagKind → SharedTable
table_of it kinds.Struct = it.structs
table_of it kinds.Union = it.unions
table_of it kinds.Enum = it.enums

-- what is known by a keyword and a name
abbrev pub shared_there : ByKind → TagKind → ℕ → Option Shared
shared_there it kind name = shared_at (table_of it kind) name

-- what is known by a key
abbrev pub keyed : Keys → rules.StructKey → Option Shared
keyed keys key = shared_there (if key.by_typedef then keys.typedefs else keys.tags) key.kind key.name

-- a key has this, and the others have theirs
abbrev pub IsKeyed : Keys → Keys → rules.StructKey → Shared → Type 0
IsKeyed old new key shared =
    (other : rules.StructKey) → keyed new other ≡ (if is_same_key key other then Some shared else keyed old other)

-- what is known by a key behind one more definition, of this number in this unit
abbrev pub with_unit : Option Shared → ℕ → ℕ → Shared
with_unit None number unit = record { first = number; unit = unit; is_elsewhere = false }
with_unit (Some shared) number unit =
    record shared { is_elsewhere = shared.is_elsewhere || not (nat_eq shared.unit unit) }

-- what a definition of a source is known by
abbrev pub key_held : Aggregate → Option StructKey
key_held it = if is_some it.body && not (nat_eq it.at.0 0) then it.key else None

-- whether a definition is known by this key
abbrev pub is_keyed_by : rules.StructKey → Option StructKey → Bool
is_keyed_by key None = false
is_keyed_by key (Some other) = is_same_key (key_of other) key

-- what is known by a key, behind structs that are numbered from this number on
abbrev pub known_behind : rules.StructKey → Option Shared → ℕ → List Aggregate → Option Shared
known_behind key known n [] = known
known_behind key known n (it ∷ all) =
    known_behind key (if is_keyed_by key (key_held it) then Some (with_unit known n it.at.0) else known) (suc n) all

-- each key has the definitions of sources that are known by it
abbrev pub AreKeyed : List Aggregate → Keys → Type 0
AreKeyed all keys = (key : rules.StructKey) → keyed keys key ≡ known_behind key None 0 all

-- what is known by a key, where several sources have it
abbrev pub if_elsewhere : Option Shared → Option Shared
if_elsewhere None = None
if_elsewhere (Some shared) = if shared.is_elsewhere then Some shared else None

-- what is known by the key of a definition, where that has one
abbrev pub keyed_by : Keys → Option StructKey → Option Shared
keyed_by keys None = None
keyed_by keys (Some key) = keyed keys (key_of key)

-- what several sources know a definition by
abbrev pub shared_by : Keys → Aggregate → Option Shared
shared_by keys it = if_elsewhere (keyed_by keys (key_held it))

-- members

-- a hash table of the places of members, by the number of a struct and a name
abbrev pub PlaceTable : Type 0
PlaceTable = HashMap Place Place (BuildHasherDefault FoldHasher)

-- the place of a member of a struct's number and a name
abbrev pub member_there : PlaceTable → Place → Option Place
member_there table at = get is_place table at

-- the members that a body finds by their names, none where there is no body
abbrev pub known_in : Option OneBody → List Known
known_in None = []
known_in (Some body) = body.known

-- the place of the member by a struct's number and a name, among members of that struct
abbrev pub first_known : ℕ → List Known → Place → Option Place
first_known number [] p = None
first_known number (it ∷ known) p = or_else (there (number, it.name) it.at p) (first_known number known p)

-- the members of a definition that several sources have, each by its name and the number of the definition
abbrev pub own_members : Option Shared → ℕ → List Known → Place → Option Place
own_members None number known p = None
own_members (Some shared) number known p = first_known number known p

-- the members of a definition that several sources have, each by its name and the number of the first definition of its
-- key
abbrev pub key_members : Option Shared → List Known → Place → Option Place
key_members None known p = None
key_members (Some shared) known p = first_known shared.first known p

-- the place of the member by a definition's number and a name, of structs that are numbered from this number on
abbrev pub first_own : Keys → ℕ → List Aggregate → Place → Option Place
first_own keys n [] p = None
first_own keys n (it ∷ all) p =
    or_else (own_members (shared_by keys it) n (known_in it.body) p) (first_own keys (suc n) all p)

-- the place of the member by the number of the first definition of a key and a name, of all structs
abbrev pub first_among : Keys → List Aggregate → Place → Option Place
first_among keys [] p = None
first_among keys (it ∷ all) p = or_else (key_members (shared_by keys it) (known_in it.body) p) (first_among keys all p)

-- the link of a member, by what its struct finds by the name: where that is another member there is none
abbrev pub link_where : PlaceTable → Shared → Known → Option Place → Option Place
link_where among shared it None = None
link_where among shared it (Some found) =
    if is_place found it.at then member_there among (shared.first, it.name) else None

-- the link of a member that several sources have, by what its struct finds by the name
abbrev pub link_in : PlaceTable → PlaceTable → ℕ → Shared → Known → Option Place
link_in own among number shared it = link_where among shared it (member_there own (number, it.name))

-- the link of a member, where it is the one at this place
abbrev pub link_there : Option Place → Place → Place → Option Place
link_there None at p = None
link_there (Some first) at p = there at first p

-- the link of the member at a place, among the members of one definition
abbrev pub first_link : PlaceTable → PlaceTable → ℕ → Shared → List Known → Place → Option Place
first_link own among number shared [] p = None
first_link own among number shared (it ∷ known) p =
    or_else (link_there (link_in own among number shared it) it.at p) (first_link own among number shared known p)

-- the link of the member at a place, where several sources have its definition
abbrev pub shared_links : PlaceTable → PlaceTable → ℕ → Option Shared → List Known → Place → Option Place
shared_links own among number None known p = None
shared_links own among number (Some shared) known p = first_link own among number shared known p

-- the link of the member at a place, of structs that are numbered from this number on
abbrev pub all_links : PlaceTable → PlaceTable → Keys → ℕ → List Aggregate → Place → Option Place
all_links own among keys n [] p = None
all_links own among keys n (it ∷ all) p =
    or_else (shared_links own among n (shared_by keys it) (known_in it.body) p) (all_links own among keys (suc n) all p)

-- bodies

-- the earlier one of two units, or the only one that there is
abbrev pub earlier_unit : Option ℕ → Option ℕ → Option ℕ
earlier_unit None other = other
earlier_unit (Some unit) None = Some unit
earlier_unit (Some unit) (Some other) = if nat_lt other unit then Some other else Some unit

-- the unit of a body without `inline`, where its function has this link
abbrev pub plain_there : PlaceMap Place → Bodied → Place → Option ℕ
plain_there links it p = if it.is_plain then there (linked_by links it.first) it.at.0 p else None

-- the earliest unit that has a body without `inline` of the function with a link
abbrev pub earliest_plain : PlaceMap Place → List Bodied → Place → Option ℕ
earliest_plain links [] p = None
earliest_plain links (it ∷ bodies) p = earlier_unit (earliest_plain links bodies p) (plain_there links it p)

-- whether there is a unit, and it is before this one
abbrev pub is_earlier : Option ℕ → ℕ → Bool
is_earlier None unit = false
is_earlier (Some earliest) unit = nat_lt earliest unit

-- a body without `inline` where an earlier unit has one
abbrev pub is_second : PlaceMap Place → PlaceMap ℕ → Bodied → Bool
is_second links units it = it.is_plain && is_earlier (value_at units (linked_by links it.first)) it.at.0

-- the faults of second bodies in the order of the text, of bodies of which the newest is first
abbrev pub second_faults : PlaceMap Place → PlaceMap ℕ → List Bodied → List Fault
second_faults links units [] = []
second_faults links units (it ∷ bodies) =
    second_faults links units bodies ++ fault_where (is_second links units it) it.at defined_twice
