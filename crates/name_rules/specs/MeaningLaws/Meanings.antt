-- What names mean, and what is known of declarations, where no two are at one place.
use Rattle.std.specs.Prelude.{◌≡◌, ◌⊎◌, ℕ, false, List, [], ◌∷◌, slice_get, Option, None, Some}
use Rattle.name_rules.specs.Spellings.{Place}
use Rattle.name_rules.specs.Scopes.{Meaning, means_type, means_thing, Scope, function_role, field_role, Declared, declared_at, Use, means, called, missing, NameUse, Own, Known, Body, Aggregate, Names, is_place, body_of}
use Rattle.name_rules.specs.Values.{member_in, own_of}
use Rattle.name_rules.specs.Uses.{use_at}
use Rattle.name_rules.specs.Linking.{link_of}
use Rattle.name_rules.specs.Units.{no_names}
use Rattle.name_rules.specs.NameSteps.Units.{Tape, tapes_named}

-- no two declarations are at one place
abbrev pub Differ : List Declared → Type 0
Differ [] = Unit {0}
Differ (d ∷ ds) = (declared_at ds d.at ≡ None) × Differ ds

-- at the place a thing is declared for the first time; a function belongs to itself
pub record IsFirst (ds : List Declared) (p : Place) : Type 0 where
  pub it : Declared
  pub there : declared_at ds p ≡ Some it
  pub is_first : it.first ≡ p
  pub is_itself : it.role ≡ function_role → it.owner ≡ Some p

-- the first declaration of the thing, which is its own first one, belongs where this one does
pub record HasFirst (ds : List Declared) (d : Declared) : Type 0 where
  pub first : Declared
  pub there : declared_at ds d.first ≡ Some first
  pub is_first : first.first ≡ d.first
  pub same_owner : first.owner ≡ d.owner

-- at the place an object or function of the file is declared for the first time
pub record IsThing (ds : List Declared) (p : Place) : Type 0 where
  pub it : Declared
  pub there : declared_at ds p ≡ Some it
  pub is_first : it.first ≡ p
  pub is_itself : it.role ≡ function_role → it.owner ≡ Some p
  pub of_file : (it.role ≡ function_role) ⊎ (it.owner ≡ None)

-- at the place something is declared that belongs to nobody
pub record IsNobodys (ds : List Declared) (p : Place) : Type 0 where
  pub it : Declared
  pub there : declared_at ds p ≡ Some it
  pub none : it.owner ≡ None

-- at the place a member is declared
pub record IsMember (ds : List Declared) (p : Place) : Type 0 where
  pub it : Declared
  pub there : declared_at ds p ≡ Some it
  pub none : it.owner ≡ None
  pub is_field : (n : ℕ) × (i : ℕ) × (it.role ≡ field_role n i)

-- P holds of the place of the thing that a name means, where it means a thing
abbrev pub MeaningIs : (Place → Type 0) → Meaning → Type 0
MeaningIs P (means_type t) = Unit {0}
MeaningIs P (means_thing at) = P at

-- P holds of the places of all things that names mean
abbrev pub NamesAre : (Place → Type 0) → List (ℕ × Meaning) → Type 0
NamesAre P [] = Unit {0}
NamesAre P (it ∷ names) = MeaningIs P it.1 × NamesAre P names

-- P holds of the places of all things that names of these scopes mean
abbrev pub ScopesAre : (Place → Type 0) → List Scope → Type 0
ScopesAre P [] = Unit {0}
ScopesAre P (scope ∷ scopes) = NamesAre P scope.names × ScopesAre P scopes

-- P holds of the places of all things of a list
abbrev pub ThingsAre : (Place → Type 0) → List (ℕ × Place) → Type 0
ThingsAre P [] = Unit {0}
ThingsAre P (it ∷ things) = P it.1 × ThingsAre P things

-- no two things are at one place
abbrev pub ThingsDiffer : List (ℕ × Place) → Type 0
ThingsDiffer [] = Unit {0}
ThingsDiffer (it ∷ things) = ThingsAre (λ p. is_place p it.1 ≡ false) things × ThingsDiffer things

-- P holds of what the scope of parameters that is kept for a body declares, where there is one
abbrev pub KeptIs : (Place → Type 0) → Option Scope → Type 0
KeptIs P None = Unit {0}
KeptIs P (Some scope) = NamesAre P scope.names

-- P holds of the place of the thing that a use stands for, where it stands for one
abbrev pub UseIs : (Place → Type 0) → Use → Type 0
UseIs P (means at) = P at
UseIs P called = Unit {0}
UseIs P missing = Unit {0}

-- P holds of the places of the things that all uses stand for
abbrev pub UsesAre : (Place → Type 0) → List NameUse → Type 0
UsesAre P [] = Unit {0}
UsesAre P (it ∷ uses) = UseIs P it.use_of × UsesAre P uses

-- of each declaration the first one of its thing is there, and belongs where it does
abbrev pub AllFirst : List Declared → List Declared → Type 0
AllFirst all [] = Unit {0}
AllFirst all (d ∷ ds) = HasFirst all d × AllFirst all ds

-- Q holds of the places of own members
abbrev pub OwnAre : (Place → Type 0) → List Own → Type 0
OwnAre Q [] = Unit {0}
OwnAre Q (it ∷ others) = Q it.at × OwnAre Q others

-- Q holds of the places of the members that are found by name
abbrev pub KnownAre : (Place → Type 0) → List Known → Type 0
KnownAre Q [] = Unit {0}
KnownAre Q (it ∷ others) = Q it.at × KnownAre Q others

-- Q holds of the places of all members of a body, where there is one
abbrev pub SomeBodyIs : (Place → Type 0) → Option Body → Type 0
SomeBodyIs Q None = Unit {0}
SomeBodyIs Q (Some body) = OwnAre Q body.own × KnownAre Q body.known

-- Q holds of the places of all members of structs and unions
abbrev pub AggregatesAre : (Place → Type 0) → List Aggregate → Type 0
AggregatesAre Q [] = Unit {0}
AggregatesAre Q (it ∷ others) = SomeBodyIs Q it.body × AggregatesAre Q others

-- all that names may mean, and have meant, is declared there for the first time
pub record FirstIn (ds : List Declared) (ss : List Scope) (ts rs : List (ℕ × Place)) (inner : Option Scope)
    (us : List NameUse) (as_ : List Aggregate) : Type 0 where
  pub scopes : ScopesAre (IsFirst ds) ss
  pub things : ThingsAre (IsThing ds) ts
  pub differ : ThingsDiffer ts
  pub round : ThingsAre (IsFirst ds) rs
  pub kept : KeptIs (IsFirst ds) inner
  pub uses : UsesAre (IsFirst ds) us
  pub firsts : AllFirst ds ds
  pub members : AggregatesAre (IsMember ds) as_

-- all that names may mean, by what is known of them at one place of a unit, is declared there for the first time
abbrev pub AreFirst : Names → Type 0
AreFirst s = FirstIn s.declared s.scopes s.things s.round s.kept s.uses s.aggregates

-- At the link of a first declaration something is declared. Where that is a function, it is so for the first time, and
-- is its own link.
-- Where it is another declaration, both are of functions or belong to nobody.
pub record HasLink (s : Names) (d : Declared) : Type 0 where
  pub it : Declared
  pub there : declared_at s.declared (link_of s d.at) ≡ Some it
  pub is_first : it.role ≡ function_role → it.first ≡ it.at
  pub is_last : it.role ≡ function_role → link_of s it.at ≡ it.at
  pub of_file : (link_of s d.at ≡ d.at)
      ⊎ (((d.role ≡ function_role) ⊎ (d.owner ≡ None)) × ((it.role ≡ function_role) ⊎ (it.owner ≡ None)))

-- of the names that tapes give, one after another, all that they mean is declared there for the first time
pub record NamesAreFirst (s : Names) : Type 0 where
  pub uses : (p q : Place) → use_at s.uses p ≡ means q → IsFirst s.declared q
  pub firsts : (p : Place) (d : Declared) → declared_at s.declared p ≡ Some d → HasFirst s.declared d
  pub known : (n name : ℕ) (it : Known) → member_in (body_of s.aggregates n) name ≡ Some it → IsNobodys s.declared it.at
  pub own : (n i : ℕ) (it : Own) → slice_get (own_of s.aggregates n) i ≡ Some it → IsNobodys s.declared it.at
  pub links : (p : Place) (d : Declared) → declared_at s.declared p ≡ Some d → d.first ≡ p → HasLink s d
  pub things : ThingsAre (IsThing s.declared) s.things

-- the law: where no two declarations of some tapes are at one place, their names mean what is declared there for the
-- first time
abbrev pub MeaningsAreFirst : Type 0
MeaningsAreFirst =
    (tapes : List Tape) → Differ (tapes_named tapes no_names).declared → NamesAreFirst (tapes_named tapes no_names)
