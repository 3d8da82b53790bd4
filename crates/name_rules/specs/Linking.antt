-- What is one thing in several sources (C99, 6.2.2 and 6.2.7), by what is known behind all units.
--
-- An object or function of a source's file scope is internal where a declaration of it there has `static`, and else
-- external. External ones of one name are linked. Definitions of structs and unions at file scope that have one key are
-- linked where several sources have them, and so are their members that have names. The first of what is linked is its
-- link; what is linked with nothing is its own. What the prelude declares is in all sources one by its name already,
-- and so is its own link.
use Rattle.std.specs.Prelude.{ℕ, nat_eq, nat_lt, Bool, false, not, ◌&&◌, ◌||◌, List, [], ◌∷◌, ◌++◌, Option, None, Some, option_and_then, if◌then◌else◌}
use Rattle.name_rules.specs.Spellings.{Place}
use Rattle.name_rules.specs.Faults.{Fault, defined_twice, fault_where}
use Rattle.name_rules.specs.Scopes.{StructKey, Aggregate, Body, Known, Bodied, Names, is_place, is_kind, or_place, has_body}
use Rattle.name_rules.specs.Values.{member_in}
use Rattle.name_rules.specs.Declaring.{or_at}

-- objects and functions

-- whether a declaration in this unit has `static` with the name
abbrev pub is_internal : List (ℕ × ℕ) → ℕ → ℕ → Bool
is_internal [] unit name = false
is_internal (it ∷ statics) unit name = (nat_eq it.0 unit && nat_eq it.1 name) || is_internal statics unit name

-- whether the object or function of a name that was first declared at a place is an external one of a source
abbrev pub is_external : List (ℕ × ℕ) → ℕ → Place → Bool
is_external statics name p = not (nat_eq p.0 0) && not (is_internal statics p.0 name)

-- a place, where a condition holds
abbrev pub place_where : Bool → Place → Option Place
place_where is_there p = if is_there then Some p else None

-- of the external things of a name the oldest one, that of the earliest unit
abbrev pub first_external : List (ℕ × ℕ) → List (ℕ × Place) → ℕ → Option Place
first_external statics [] name = None
first_external statics (it ∷ things) name =
    or_place (first_external statics things name) (place_where (nat_eq it.0 name && is_external statics it.0 it.1) it.1)

-- the link of one thing, where it is external
abbrev pub thing_linked : List (ℕ × ℕ) → List (ℕ × Place) → Place → ℕ × Place → Option Place
thing_linked statics all p it =
    if is_place it.1 p && is_external statics it.0 it.1 then first_external statics all it.0 else None

-- the link of the object or function that was first declared at a place, where it is external
abbrev pub thing_link : List (ℕ × ℕ) → List (ℕ × Place) → List (ℕ × Place) → Place → Option Place
thing_link statics all [] p = None
thing_link statics all (it ∷ things) p = or_place (thing_linked statics all p it) (thing_link statics all things p)

-- members of structs and unions

-- whether two definitions of structs or unions are known by one key: one keyword, and one tag or one typedef name
abbrev pub is_same_key : StructKey → StructKey → Bool
is_same_key key other =
    is_kind key.kind other.kind
    && ((if key.by_typedef then other.by_typedef else not other.by_typedef) && nat_eq key.name other.name)

-- whether a definition is known by this key
abbrev pub is_key : StructKey → Option StructKey → Bool
is_key key None = false
is_key key (Some other) = is_same_key key other

-- a definition of a source that is known by this key
abbrev pub defines : StructKey → Aggregate → Bool
defines key it = is_key key it.key && (has_body it.body && not (nat_eq it.at.0 0))

-- whether another source has one
abbrev pub is_elsewhere : ℕ → StructKey → List Aggregate → Bool
is_elsewhere unit key [] = false
is_elsewhere unit key (it ∷ others) = (defines key it && not (nat_eq it.at.0 unit)) || is_elsewhere unit key others

-- the place of a member, where there is one
abbrev pub place_of : Option Known → Option Place
place_of None = None
place_of (Some it) = Some it.at

-- the place of the member that a struct has by a name, where a condition holds
abbrev pub member_where : Bool → Aggregate → ℕ → Option Place
member_where is_known it name = if is_known then place_of (member_in it.body name) else None

-- the first of the members of a name that definitions known by this key have
abbrev pub member_among : StructKey → ℕ → List Aggregate → Option Place
member_among key name [] = None
member_among key name (it ∷ others) = or_place (member_where (defines key it) it name) (member_among key name others)

-- whether there is a place, and it is this one
abbrev pub is_found : Place → Option Place → Bool
is_found p None = false
is_found p (Some q) = is_place q p

-- the name by which a struct finds the member at a place: of members of one name it finds the first
abbrev pub name_found : Body → List Known → Place → Option ℕ
name_found body [] p = None
name_found body (it ∷ known) p =
    if is_place it.at p && is_found p (place_of (member_in (Some body) it.name)) then Some it.name
    else name_found body known p

-- the link of a member of one definition
abbrev pub linked_in : List Aggregate → Place → Aggregate → Option StructKey → Option Body → Option Place
linked_in all p it None body = None
linked_in all p it (Some key) None = None
linked_in all p it (Some key) (Some body) =
    if defines key it && is_elsewhere it.at.0 key all
    then option_and_then (λ name. member_among key name all) (name_found body body.known p) else None

-- the link of the member that was declared at a place, where its definition is linked
abbrev pub member_link : List Aggregate → List Aggregate → Place → Option Place
member_link all [] p = None
member_link all (it ∷ others) p = or_place (linked_in all p it it.key it.body) (member_link all others p)

-- where what was first declared at a place in its unit was first declared in all units
abbrev pub link_of : Names → Place → Place
link_of s p =
    or_at (or_place (thing_link s.statics s.things s.things p) (member_link s.aggregates s.aggregates p)) p

-- second bodies

-- whether an earlier unit has a body without `inline` of what this is a body of
abbrev pub has_earlier : Names → Bodied → List Bodied → Bool
has_earlier s it [] = false
has_earlier s it (other ∷ bodies) =
    (other.is_plain && (nat_lt other.at.0 it.at.0 && is_place (link_of s other.first) (link_of s it.first)))
    || has_earlier s it bodies

-- the faults of second bodies, in the order of the text
abbrev pub faults_in : Names → List Bodied → List Fault
faults_in s [] = []
faults_in s (it ∷ bodies) =
    faults_in s bodies ++ fault_where (it.is_plain && has_earlier s it s.bodies) it.at defined_twice

-- a body without `inline` of a function of which an earlier unit has a body without `inline`
abbrev pub body_faults : Names → List Fault
body_faults s = faults_in s s.bodies
