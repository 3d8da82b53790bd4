-- What is known of names at a place of a unit: declarations so far, scopes, tags, and what was found of uses.
use Rattle.std.specs.Prelude.{ℕ, zero, suc, nat_eq, nat_lt, Bool, true, false, ◌&&◌, List, [], ◌∷◌, ◌++◌, length, slice_get, Option, None, Some, if◌then◌else◌}
use Rattle.tape_ops.specs.declared.specifier.TagKind.{TagKind}
use Rattle.tape_ops.specs.declared.specifier.TagKind.TheVariants as tags
use Rattle.type_table.specs.Types.{CType, size}
use Rattle.name_rules.specs.Spellings.{Place}
use Rattle.name_rules.specs.Faults.{type_too_large, Fault, fault_where}

-- what a name stands for in a scope: a type, or what is declared first at a place
pub data Meaning : Type 0 where
  means_type : CType → Meaning
  means_thing : Place → Meaning

-- the struct, union or enum of a tag
pub record Tagged : Type 0 where
  pub kind : TagKind
  pub tag : ℕ
  pub number : ℕ

-- what a scope declares so far: names with their meanings, and tags, the newest first of each
pub record Scope : Type 0 where
  pub names : List (ℕ × Meaning)
  pub tags : List Tagged

-- a member of a struct's own, at its name, or at the word `struct` or `union` where it has none
pub record Own : Type 0 where
  pub at : Place
  pub type : CType

-- a member that a struct has by a name, its own or one of an unnamed member, with the number of the own member that it
-- is or lies in
pub record Known : Type 0 where
  pub name : ℕ
  pub at : Place
  pub type : CType
  pub own : ℕ

-- the members of a struct or union in the order of the text: its own, and those that it finds by their names
pub record Body : Type 0 where
  pub own : List Own
  pub known : List Known

-- What a definition at file scope is known by in other sources: its keyword, and its tag, or where it has none the
-- first name of the typedef of the file that it is a word of. Tags and names of typedefs are apart.
pub record StructKey : Type 0 where
  pub kind : TagKind
  pub by_typedef : Bool
  pub name : ℕ

-- a struct, union or enum, by the place of its first tag, or of its keyword where it has none
pub record Aggregate : Type 0 where
  pub kind : TagKind
  pub at : Place
  pub body : Option Body
  -- where the body stands at file scope
  pub key : Option StructKey

-- what a declaration declares its name as
pub data Role : Type 0 where
  typedef_role : Role
  object_role : Role
  function_role : Role
  -- with its number among the parameters
  parameter_role : ℕ → Role
  -- with the number of the struct and that among its own members
  field_role : ℕ → ℕ → Role
  enumerator_role : Role

-- a declaration; its thing was first declared at `first`, and belongs to the function that was first declared at
-- `owner`
pub record Declared : Type 0 where
  pub at : Place
  pub role : Role
  pub first : Place
  pub type : CType
  pub owner : Option Place

-- what a name in an expression stands for
pub data Use : Type 0 where
  means : Place → Use
  -- undeclared and called directly: a function of any arguments that gives an `int`
  called : Use
  missing : Use

-- a name in an expression, at its token, and what it stands for
pub record NameUse : Type 0 where
  pub at : Place
  pub use_of : Use

-- a type's name, at its first token
pub record TypeNamed : Type 0 where
  pub at : Place
  pub type : CType

-- a body at a function's name, by where the function was first declared in this unit or in the prelude; it is plain
-- without `inline`
pub record Bodied : Type 0 where
  pub first : Place
  pub at : Place
  pub is_plain : Bool

-- all that is known of names at a place of a unit
pub record Names : Type 0 where
  pub declared : List Declared
  -- those that are open, the innermost first
  pub scopes : List Scope
  pub aggregates : List Aggregate
  -- the objects and functions of file scope and those that blocks declare `extern`, of all units so far, each once, by
  -- where it was first declared in its unit or in the prelude; the newest is first
  pub things : List (ℕ × Place)
  -- the units, and the names of such objects and functions that a declaration there has `static` with
  pub statics : List (ℕ × ℕ)
  -- what of the prelude is visible round the file scope
  pub round : List (ℕ × Place)
  pub uses : List NameUse
  pub type_names : List TypeNamed
  pub faults : List Fault
  -- the newest first
  pub bodies : List Bodied
  -- the function in whose body this is
  pub enclosing : Option Place
  -- the scope of a function's parameters, until its body goes on in it
  pub kept : Option Scope

-- places and kinds of tags

-- whether two places are the same token of the same unit
abbrev pub is_place : Place → Place → Bool
is_place p q = nat_eq p.0 q.0 && nat_eq p.1 q.1

-- whether two tags have the same keyword: `struct`, `union` or `enum`
abbrev pub is_kind : TagKind → TagKind → Bool
is_kind tags.Struct tags.Struct = true
is_kind tags.Union tags.Union = true
is_kind tags.Enum tags.Enum = true
is_kind kind other = false

-- finding

-- where the newest thing of a name in a list was first declared
abbrev pub thing_named : List (ℕ × Place) → ℕ → Option Place
thing_named [] name = None
thing_named (it ∷ things) name = if nat_eq it.0 name then Some it.1 else thing_named things name

-- the object or function of a name that was first declared in this unit
abbrev pub thing_of : ℕ → List (ℕ × Place) → ℕ → Option Place
thing_of unit [] name = None
thing_of unit (it ∷ things) name =
    if nat_eq it.0 name && nat_eq it.1.0 unit then Some it.1 else thing_of unit things name

-- the first of two places that is there
abbrev pub or_place : Option Place → Option Place → Option Place
or_place None other = other
or_place (Some at) other = Some at

-- what a name means by a list of names, by the first entry that it has there
abbrev pub meaning_in : List (ℕ × Meaning) → ℕ → Option Meaning
meaning_in [] name = None
meaning_in (it ∷ names) name = if nat_eq it.0 name then Some it.1 else meaning_in names name

-- the meaning of a name whose thing was first declared at a place, where there is one
abbrev pub some_thing : Option Place → Option Meaning
some_thing None = None
some_thing (Some at) = Some (means_thing at)

-- the meaning of a name in an inner scope, or else in those around it
abbrev pub or_outer : Option Meaning → Option Meaning → Option Meaning
or_outer None outer = outer
or_outer (Some meaning) outer = Some meaning

-- what a name means in the innermost scope that declares it; what is round the file scope comes last
abbrev pub meaning_through : List Scope → List (ℕ × Place) → ℕ → Option Meaning
meaning_through [] round name = some_thing (thing_named round name)
meaning_through (scope ∷ outer) round name = or_outer (meaning_in scope.names name) (meaning_through outer round name)

-- what a name means in the scopes that are open
abbrev pub meaning : Names → ℕ → Option Meaning
meaning s name = meaning_through s.scopes s.round name

-- the number of the struct, union or enum that a tag means in one scope
abbrev pub tag_in : List Tagged → TagKind → ℕ → Option ℕ
tag_in [] kind tag = None
tag_in (it ∷ tags) kind tag = if is_kind it.kind kind && nat_eq it.tag tag then Some it.number else tag_in tags kind tag

-- the first of two numbers that is there
abbrev pub or_number : Option ℕ → Option ℕ → Option ℕ
or_number None outer = outer
or_number (Some n) outer = Some n

-- the number of what a tag means, of the innermost scope that has the tag
abbrev pub tag_through : List Scope → TagKind → ℕ → Option ℕ
tag_through [] kind tag = None
tag_through (scope ∷ outer) kind tag = or_number (tag_in scope.tags kind tag) (tag_through outer kind tag)

-- a scope in which nothing is declared
abbrev pub no_scope : Scope
no_scope = record { names = []; tags = [] }

-- the innermost scope, an empty one where none is open
abbrev pub innermost : List Scope → Scope
innermost [] = no_scope
innermost (scope ∷ outer) = scope

-- the scopes around the innermost one
abbrev pub outer_scopes : List Scope → List Scope
outer_scopes [] = []
outer_scopes (scope ∷ outer) = outer

-- what the innermost scope says of a name
abbrev pub inner_meaning : Names → ℕ → Option Meaning
inner_meaning s name = meaning_in (innermost s.scopes).names name

-- whether the file scope is the innermost one that is open
abbrev pub is_at_file : Names → Bool
is_at_file s = nat_lt (length s.scopes) 2

-- the declaration at a place
abbrev pub declared_at : List Declared → Place → Option Declared
declared_at [] at = None
declared_at (d ∷ ds) at = if is_place d.at at then Some d else declared_at ds at

-- the function that a declaration belongs to, where there is one
abbrev pub owner_of_some : Option Declared → Option Place
owner_of_some None = None
owner_of_some (Some d) = d.owner

-- the function that what is declared at a place belongs to
abbrev pub owner_at : Names → Place → Option Place
owner_at s at = owner_of_some (declared_at s.declared at)

-- changing

-- a scope begins
abbrev pub enter : Names → Names
enter s = record s { scopes = no_scope ∷ s.scopes }

-- the innermost scope ends
abbrev pub leave : Names → Names
leave s = record s { scopes = outer_scopes s.scopes }

-- a name has a meaning in the innermost scope from here on
abbrev pub bound : ℕ → Meaning → Names → Names
bound name meaning s =
    record s {
      scopes =
          record (innermost s.scopes) { names = (name, meaning) ∷ (innermost s.scopes).names } ∷ outer_scopes s.scopes;
    }

-- a tag means the struct, union or enum of a number in the innermost scope from here on
abbrev pub tag_bound : TagKind → ℕ → ℕ → Names → Names
tag_bound kind tag n s =
    record s {
      scopes =
          record (innermost s.scopes)
          { tags = record { kind = kind; tag = tag; number = n } ∷ (innermost s.scopes).tags }
          ∷ outer_scopes s.scopes;
    }

-- further faults, behind those so far
abbrev pub with_faults : List Fault → Names → Names
with_faults faults s = record s { faults = s.faults ++ faults }

-- one more declaration
abbrev pub with_declared : Declared → Names → Names
with_declared d s = record s { declared = s.declared ++ d ∷ [] }

-- a type is too large where it has over 4,096 constructors
abbrev pub sized : Place → CType → Names → Names
sized at type s = with_faults (fault_where (nat_lt 4096 (size type)) at type_too_large) s

-- one more struct, union or enum, without a body so far
abbrev pub with_aggregate : TagKind → Place → Names → Names
with_aggregate kind at s =
    record s { aggregates = s.aggregates ++ record { kind = kind; at = at; body = None; key = None } ∷ [] }

-- a list in which the entry of a number is changed, as it is where the list is too short
abbrev pub changed_at : {A : Type 0} → List A → ℕ → (A → A) → List A
changed_at [] n change = []
changed_at (x ∷ xs) zero change = change x ∷ xs
changed_at (x ∷ xs) (suc n) change = x ∷ changed_at xs n change

-- a body without members
abbrev pub empty_body : Body
empty_body = record { own = []; known = [] }

-- the body that there is, or one without members
abbrev pub or_no_body : Option Body → Body
or_no_body None = empty_body
or_no_body (Some body) = body

-- the body of a struct, union or enum, where it has one
abbrev pub body_of_some : Option Aggregate → Option Body
body_of_some None = None
body_of_some (Some it) = it.body

-- the body of the struct, union or enum of this number
abbrev pub body_of : List Aggregate → ℕ → Option Body
body_of aggregates n = body_of_some (slice_get aggregates n)

-- whether there is a body
abbrev pub has_body : Option Body → Bool
has_body None = false
has_body (Some body) = true

-- the body of the struct of this number is changed; where it had none, an empty one is
abbrev pub with_body : ℕ → (Body → Body) → Names → Names
with_body n change s =
    record s { aggregates = changed_at s.aggregates n (λ it. record it { body = Some (change (or_no_body it.body)) }) }

-- what the struct of this number is known by
abbrev pub with_key : ℕ → Bool → ℕ → Names → Names
with_key n by_typedef name s =
    record s {
      aggregates = changed_at s.aggregates n
          (λ it. record it { key = Some (record { kind = it.kind; by_typedef = by_typedef; name = name }) });
    }

-- one more own member, which has a name
abbrev pub with_member : ℕ → Place → CType → Body → Body
with_member name at type body =
    record {
      own = body.own ++ record { at = at; type = type } ∷ [];
      known = body.known ++ record { name = name; at = at; type = type; own = length body.own } ∷ [];
    }

-- members that an unnamed member has, as ones that lie in the own member of this number
abbrev pub lying_in : ℕ → List Known → List Known
lying_in own [] = []
lying_in own (it ∷ known) = record it { own = own } ∷ lying_in own known

-- one more own member without a name, whose members are members of the outer one too
abbrev pub with_unnamed : Place → CType → List Known → Body → Body
with_unnamed at type inner body =
    record {
      own = body.own ++ record { at = at; type = type } ∷ [];
      known = body.known ++ lying_in (length body.own) inner;
    }
