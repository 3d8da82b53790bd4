-- What a use or a declaration of a name says of names (C99, 6.2.1 to 6.2.3, 6.7).
--
-- A declaration of a name that its scope already declares is a further declaration of the same thing. An object that a
-- block declares `extern` and a function that a block declares are always the file's. What the prelude declares is in
-- every source one with the file's object or function of that name. A use of a name has the type of its first
-- declaration.
use Rattle.std.specs.Prelude.{ℕ, nat_eq, Bool, true, false, ◌&&◌, ◌||◌, List, [], ◌∷◌, ◌++◌, length, Option, None, Some, if◌then◌else◌, not}
use Rattle.c_words.specs.declared.kinds.Keyword.{Keyword}
use Rattle.c_words.specs.declared.kinds.Keyword.TheVariants as keywords
use Rattle.tape_ops.specs.declared.specifier.TagKind.{TagKind}
use Rattle.tape_ops.specs.declared.specifier.TagKind.TheVariants as tags
use Rattle.type_table.specs.Types.{CType, base, void, struct, pointer, function}
use Rattle.name_rules.specs.Spellings.{Place, Spelling, place, Named}
use Rattle.name_rules.specs.Faults.{undeclared, defined_twice, fault_where}
use Rattle.name_rules.specs.Scopes.{Meaning, means_type, means_thing, Scope, Role, typedef_role, object_role, function_role, parameter_role, field_role, Use, means, called, missing, Bodied, Names, thing_of, or_place, meaning, tag_in, tag_through, innermost, inner_meaning, is_at_file, owner_at, leave, bound, tag_bound, with_faults, with_declared, sized, with_aggregate, or_no_body, body_of, has_body, with_body, with_key, with_member, with_unnamed, is_place}
use Rattle.name_rules.specs.Pieces.{is_function}

-- uses

-- what a name in an expression stands for, by its meaning in the visible scopes and by whether it is called directly;
-- the name of a type stands for nothing there
abbrev pub use_by : Option Meaning → Bool → Use
use_by None true = called
use_by None false = missing
use_by (Some (means_thing at)) is_called = means at
use_by (Some (means_type t)) is_called = missing

-- whether a use has no declaration and is not called directly either
abbrev pub is_missing : Use → Bool
is_missing (means at) = false
is_missing called = false
is_missing missing = true

-- a use is noted, with the fault that its name is undeclared where that is so
abbrev pub used_as : Place → Use → Names → Names
used_as at it s =
    with_faults (fault_where (is_missing it) at undeclared)
    (record s { uses = s.uses ++ record { at = at; use_of = it } ∷ [] })

-- a name in an expression, looked up in the scopes and noted
abbrev pub used : Spelling → Bool → ℕ → ℕ → Names → Names
used u is_called token name s = used_as (place u token) (use_by (meaning s (u.key name)) is_called) s

-- a type's name (6.7.6) is noted with its type, which may be too large
abbrev pub type_named : Place → CType → Names → Names
type_named at t s = sized at t (record s { type_names = s.type_names ++ record { at = at; type = t } ∷ [] })

-- the type that a name stands for as a typedef; a base type where it stands for no type
abbrev pub type_by : Option Meaning → CType
type_by (Some (means_type t)) = t
type_by (Some (means_thing at)) = base []
type_by None = base []

-- tags

-- a new struct, union or enum of a tag
abbrev pub new_tag : Spelling → TagKind → ℕ → ℕ → Names → Names
new_tag u kind token tag s = tag_bound kind (u.key tag) (length s.aggregates) (with_aggregate kind (place u token) s)

-- what a tag means: the number of a struct, union or enum, and names, to which it was added where it is new
pub record Numbered : Type 0 where
  pub number : ℕ
  pub names : Names

-- the struct, union or enum that was found for a tag, or else a new one
abbrev pub found_or_new : Option ℕ → Spelling → TagKind → ℕ → ℕ → Names → Numbered
found_or_new (Some n) u kind token tag s = record { number = n; names = s }
found_or_new None u kind token tag s = record { number = length s.aggregates; names = new_tag u kind token tag s }

-- what a tag without a body means: the visible one or a new one, and in a declaration of nothing else one of the
-- innermost scope
abbrev pub tag_used : Spelling → Bool → TagKind → ℕ → ℕ → Names → Numbered
tag_used u is_alone kind token tag s =
    found_or_new
    (if is_alone then tag_in (innermost s.scopes).tags kind (u.key tag) else tag_through s.scopes kind (u.key tag))
    u kind token tag s

-- the type of specifiers with a tag, by that of their words before it, which an enumeration leaves as it is
abbrev pub tag_type : TagKind → ℕ → CType → CType
tag_type tags.Struct n t = struct [] n
tag_type tags.Union n t = struct [] n
tag_type tags.Enum n t = t

-- a specifier without a tag, whose keyword is at this place
abbrev pub untagged : Place → TagKind → Names → Numbered
untagged at kind s = record { number = length s.aggregates; names = with_aggregate kind at s }

-- a body that begins: of which type it is, and to whom its members belong, which for a second body of a tag is nobody
pub record Begun : Type 0 where
  pub number : ℕ
  pub members_of : ℕ
  pub names : Names

-- a struct, union or enum has a body from here on, without members where it had none
abbrev pub opened : ℕ → Names → Names
opened n s = with_body n (λ body. body) s

-- what a body at file scope makes known of its tag
abbrev pub tag_known : Option ℕ → ℕ → Names → Names
tag_known None n s = s
tag_known (Some tag) n s = if is_at_file s then with_key n false tag s else s

-- a body begins, by whether its tag has one already: a second one is at fault, and its members go to a new struct of
-- their own
abbrev pub begun_in : Bool → Place → TagKind → Option ℕ → Numbered → Begun
begun_in true at kind tag it =
    record {
      number = it.number;
      members_of = length it.names.aggregates;
      names = with_faults (fault_where true at defined_twice)
          (opened (length it.names.aggregates) (with_aggregate kind at it.names));
    }
begun_in false at kind tag it =
    record {
      number = it.number;
      members_of = it.number;
      names = tag_known tag it.number (opened it.number it.names);
    }

-- the body of a struct, union or enum begins, of a tag or of none
abbrev pub begun_body : Place → TagKind → Option ℕ → Numbered → Begun
begun_body at kind tag it = begun_in (has_body (body_of it.names.aggregates it.number)) at kind tag it

-- a tag with a body is defined in the innermost scope
abbrev pub tag_begun : Spelling → TagKind → ℕ → ℕ → Names → Begun
tag_begun u kind token tag s = begun_body (place u token) kind (Some (u.key tag)) (tag_used u true kind token tag s)

-- the body of a struct, union or enum without a tag begins
abbrev pub untagged_begun : Place → TagKind → Names → Begun
untagged_begun at kind s = begun_body at kind None (untagged at kind s)

-- declaring

-- the number of the struct or union that a type is, and 0 for other types
abbrev pub struct_number : CType → ℕ
struct_number (struct ws n) = n
struct_number (base ws) = 0
struct_number (void ws) = 0
struct_number (pointer ws t) = 0
struct_number (function ws ps r e) = 0

-- the struct without a tag that is a word of specifiers of this type, where there is one
abbrev pub untagged_number : Bool → CType → Option ℕ
untagged_number is_untagged t = if is_untagged then Some (struct_number t) else None

-- where the thing that a name means was first declared: here, where the name means no thing yet
abbrev pub the_thing : Option Meaning → Place → Place
the_thing (Some (means_thing first)) at = first
the_thing (Some (means_type t)) at = at
the_thing None at = at

-- the first of two places that is there
abbrev pub or_at : Option Place → Place → Place
or_at None at = at
or_at (Some first) at = first

-- the owner of a declaration: a further one belongs where the first does
abbrev pub owner_where : Names → Place → Place → Option Place → Option Place
owner_where s first at own = if is_place first at then own else owner_at s first

-- a declaration is noted, with the place where its thing was first declared and with its owner
abbrev pub declaring : Place → Role → Place → CType → Option Place → Names → Names
declaring at role first t own s =
    with_declared (record { at = at; role = role; first = first; type = t; owner = owner_where s first at own }) s

-- a declaration in its scope, of what the scope declares already or of something new
abbrev pub declared_here : Place → ℕ → Role → CType → Option Place → Names → Names
declared_here at name role t own s =
    bound name (means_thing (the_thing (inner_meaning s name) at))
    (declaring at role (the_thing (inner_meaning s name) at) t own s)

-- where the object or function of the file that has a name was first declared in this unit, or else in the prelude;
-- here, where that is new
abbrev pub linked : ℕ → Place → Names → Place
linked name at s = or_at (or_place (thing_of at.0 s.things name) (thing_of 0 s.things name)) at

-- whether two storage words are one and the same, of `typedef`, `extern`, `static` and `inline`
abbrev pub is_word : Keyword → Keyword → Bool
is_word keywords.Typedef keywords.Typedef = true
is_word keywords.Extern keywords.Extern = true
is_word keywords.Static keywords.Static = true
is_word keywords.Inline keywords.Inline = true
is_word word other = false

-- whether a storage word is among those of a declaration
abbrev pub has_word : Keyword → List Keyword → Bool
has_word word [] = false
has_word word (w ∷ ws) = is_word word w || has_word word ws

-- an object or function of the file is noted, where it is new
abbrev pub thing_where : Bool → ℕ → Place → Names → Names
thing_where is_new name at s = if is_new then record s { things = (name, at) ∷ s.things } else s

-- the object or function of a name is noted as `static` in a unit, where its declaration says so
abbrev pub static_where : Bool → ℕ → ℕ → Names → Names
static_where is_static unit name s = if is_static then record s { statics = (unit, name) ∷ s.statics } else s

-- an object or function of the file, by the words of its declaration
abbrev pub declared_thing : List Keyword → Place → ℕ → CType → Names → Names
declared_thing words at name t s =
    bound name (means_thing (linked name at s))
    (declaring at (if is_function t then function_role else object_role) (linked name at s) t
    (if is_function t then Some at else None)
    (static_where (has_word keywords.Static words) at.0 name (thing_where (is_place (linked name at s) at) name at s)))

-- a typedef declares a name (6.7.7)
abbrev pub declared_typedef : Place → ℕ → CType → Names → Names
declared_typedef at name t s = bound name (means_type t) (declaring at typedef_role at t None s)

-- a name of a declaration with these specifiers
abbrev pub declared_by : List Keyword → Place → ℕ → CType → Names → Names
declared_by words at name t s =
    if has_word keywords.Typedef words then declared_typedef at name t s
    else if is_at_file s || (is_function t || has_word keywords.Extern words) then declared_thing words at name t s
    else declared_here at name object_role t (if has_word keywords.Static words then None else s.enclosing) s

-- A struct or union without a tag in the specifiers of a typedef at file scope is known in other sources by the first
-- name that is declared there.
abbrev pub typedef_known : List Keyword → ℕ → Option ℕ → Names → Names
typedef_known words name None s = s
typedef_known words name (Some n) s =
    if has_word keywords.Typedef words && is_at_file s then with_key n true name s else s

-- a declarator of a declaration declares its name, where it has one, with its type
abbrev pub declared_some : Spelling → Option ℕ → Option Named → List Keyword → CType → Names → Names
declared_some u untagged None words t s = s
declared_some u untagged (Some it) words t s =
    typedef_known words (u.key it.name) untagged
    (declared_by words (place u it.token) (u.key it.name) t (sized (place u it.token) t s))

-- a parameter, with its number; it belongs to the function whose own parameters these are
abbrev pub declared_param : Spelling → Option Named → ℕ → Option Place → CType → Names → Names
declared_param u None i own t s = s
declared_param u (Some it) i own t s =
    declared_here (place u it.token) (u.key it.name) (parameter_role i) t own (sized (place u it.token) t s)

-- a member of the struct of this number
abbrev pub declared_member : Spelling → Option Named → ℕ → CType → Names → Names
declared_member u None n t s = s
declared_member u (Some it) n t s =
    sized (place u it.token) t (with_body n (with_member (u.key it.name) (place u it.token) t)
    (declaring (place u it.token) (field_role n (length (or_no_body (body_of s.aggregates n)).own))
    (place u it.token) t None s))

-- a member without a name, of a struct or union type, in the struct of this number; its members count there too
abbrev pub unnamed_member : Place → ℕ → CType → Names → Names
unnamed_member at n t s =
    with_body n (with_unnamed at t (or_no_body (body_of s.aggregates (struct_number t))).known)
    (declaring at (field_role n (length (or_no_body (body_of s.aggregates n)).own)) at t None s)

-- functions

-- a function's own parameters are those directly around its name
abbrev pub own_where : Bool → Option Place → Option Place
own_where true own = own
own_where false own = None

-- the scope of a list of parameters ends; where they are a function's own it is kept for its body
abbrev pub keep : Option Place → Names → Names
keep None s = leave s
keep (Some own) s = leave (record s { kept = Some (innermost s.scopes) })

-- whether a body in this unit is one of what was first declared there
abbrev pub has_body_in : ℕ → List Bodied → Place → Bool
has_body_in unit [] first = false
has_body_in unit (it ∷ bodies) first = (nat_eq it.at.0 unit && is_place it.first first) || has_body_in unit bodies first

-- the scope that was kept for a body, inside of those that are open
abbrev pub scope_kept : Option Scope → List Scope → List Scope
scope_kept None scopes = scopes
scope_kept (Some scope) scopes = scope ∷ scopes

-- in wider C a body whose specifiers have `extern` and `inline` is not counted
abbrev pub is_counted_by : Bool → List Keyword → Bool
is_counted_by wide storage = not (wide && (has_word keywords.Extern storage && has_word keywords.Inline storage))

-- a function has a body
abbrev pub body_counted : Place → Place → Bool → Names → Names
body_counted at first is_plain s =
    record (with_faults (fault_where (has_body_in at.0 s.bodies first) at defined_twice) s) {
      bodies = record { first = first; at = at; is_plain = is_plain } ∷ s.bodies;
    }

-- a body begins, in the scope of its function's own parameters, which was kept for it
abbrev pub body_begun : Place → Names → Names
body_begun first s =
    record s {
      scopes = scope_kept s.kept s.scopes;
      enclosing = Some first;
      kept = None;
    }

-- a body may be one that is not counted
abbrev pub body_entered : Place → Place → Bool → Bool → Names → Names
body_entered at first is_plain is_counted s =
    body_begun first (if is_counted then body_counted at first is_plain s else s)

-- the body of a function ends, and its scope
abbrev pub body_left : Names → Names
body_left s = leave (record s { enclosing = None })
