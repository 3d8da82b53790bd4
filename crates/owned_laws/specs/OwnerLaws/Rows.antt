-- The constraints of each form fit where the skeletons of its parts belong to one owner or to nobody.
use Rattle.std.specs.Prelude.{◌≡◌, ◌⊎◌, ℕ, Bool, true, List, [], ◌∷◌, slice_get, Option, None, Some}
use Rattle.c_words.specs.declared.kinds.Punct.{Punct}
use Rattle.qual_base.specs.declared.places.Owner.{Owner}
use Rattle.qual_base.specs.declared.places.Owner.TheVariants.{Nobody}
use Rattle.qual_base.specs.declared.places.Span.{Span}
use Rattle.flow_graph.specs.declared.constraint.Constraint.{Constraint}
use Rattle.flow_graph.specs.System.{System, owner_of}
use Rattle.type_table.specs.Types.{CType}
use Rattle.qual_types.specs.Skel.{Skel, nodes, param_at}
use Rattle.flow_rules.specs.Owners.{IsIn, AllIn}
use Rattle.name_rules.specs.Spellings.{Place}
use Rattle.name_rules.specs.Scopes.{Declared, Own, declared_at}
use Rattle.name_rules.specs.Values.{own_of}
use Rattle.row_rules.specs.Starting.{Start, is_some_function}
use Rattle.row_rules.specs.Worlds.{World, at, numbered_from, skeleton}
use Rattle.row_rules.specs.Sites.{AreDifferent, owners_among, site_places, sites_among}
use Rattle.row_rules.specs.Annotations.{annotating, parameters, write_bounds}
use Rattle.row_rules.specs.Vals.{Val, Candidate, contents, is_nothing, read, result}
use Rattle.row_rules.specs.Forming.{formed}
use Rattle.row_rules.specs.Rows.{dereferenced, index_demand, carried, picked, assigned, computed, chosen, prefixed, passed, crossed, cast_demand, returned, flowing, equal_to, formed_name, name_row, param_row, started, taken}
use Rattle.owned_laws.specs.OwnerLaws.Fitting.{AllFit, start_at}

-- a skeleton is none, or all of its variables belong to the owner or to nobody
abbrev pub Inside : System → Owner → Skel → Type 0
Inside sys owner s = (is_nothing s ≡ true) ⊎ AllIn (owner_of sys) owner (nodes s)

-- what is in a skeleton is inside where it is
pub record PartsInside (sys : System) (owner : Owner) (s : Skel) : Type 0 where
  pub contents_in : Inside sys owner (contents s)
  pub read_in : Inside sys owner (read s)
  pub result_in : Inside sys owner (result s)
  pub param_in : (n : ℕ) (q : Skel) → param_at (parameters s) n ≡ Some q → Inside sys owner q

-- the law: what is in a skeleton is inside where it is
abbrev pub AllPartsInside : Type 0
AllPartsInside = (sys : System) (owner : Owner) (s : Skel) → Inside sys owner s → PartsInside sys owner s

-- a skeleton is inside, where there is one
abbrev pub SomeInside : System → Owner → Option Skel → Type 0
SomeInside sys owner None = Unit {0}
SomeInside sys owner (Some s) = Inside sys owner s

-- the skeletons of all candidates of a pick are inside
abbrev pub AllInside : System → Owner → List Candidate → Type 0
AllInside sys owner [] = Unit {0}
AllInside sys owner (it ∷ others) = Inside sys owner it.val.skel × AllInside sys owner others

-- the variable of further arguments, where there is one, belongs to the owner or to nobody
abbrev pub SomeIn : System → Owner → Option ℕ → Type 0
SomeIn sys owner None = Unit {0}
SomeIn sys owner (Some v) = IsIn (owner_of sys) owner v

-- the skeletons of the own members of structs belong to nobody
abbrev pub MembersInside : System → World → Type 0
MembersInside sys w =
    (n i : ℕ) (it : Own) → slice_get (own_of w.names.aggregates n) i ≡ Some it → Inside sys Nobody (skeleton w it.at)

-- that the row of each form fits where the skeletons that it is made of are inside this owner
pub record RowsOf (sys : System) (owner : Owner) (w : World) : Type 0 where
  pub annotations : (t : CType) (s : Skel) → AllFit sys (annotating w t s)
  pub writes : (v : ℕ) (where_ : Span) → AllFit sys (write_bounds w v where_)
  pub dereference : (s : Skel) (aims : Bool) (where_ : Span) → AllFit sys (dereferenced w s aims where_)
  pub index : (a b : Skel) (aims : Bool) (where_ : Span) → AllFit sys (index_demand w a b aims where_)
  pub assignment : (p : Punct) (zero : Bool) (a b : Skel) (where_ : Span) → Inside sys owner a →
      Inside sys owner b → AllFit sys (assigned w p zero a b where_)
  pub operator : (p : Punct) (first last : Bool) (a b t : Skel) (where_ : Span) → Inside sys owner a →
      Inside sys owner b → Inside sys owner t → AllFit sys (computed w p first last a b t where_)
  pub condition : (first last : Bool) (a b t : Skel) (where_ : Span) → Inside sys owner a → Inside sys owner b →
      Inside sys owner t → AllFit sys (formed w where_ t) → AllFit sys (chosen w first last a b t where_)
  pub prefix : (p : Punct) (zero : Bool) (e : Val) (t : Skel) (aims : Bool) (where_ : Span) → Inside sys owner e.skel →
      Inside sys owner t → AllFit sys (prefixed w p zero e t aims where_)
  pub carry : (place by t : Skel) (where_ : Span) → Inside sys owner place → Inside sys owner by →
      Inside sys owner t → AllFit sys (formed w where_ t) → AllFit sys (carried w place by t where_)
  pub pick : (left : List Candidate) (t : Skel) (where_ : Span) → AllInside sys owner left → Inside sys owner t →
      AllFit sys (formed w where_ t) → AllFit sys (picked w left t where_)
  pub argument : (zero : Bool) (a : Skel) (t : Option Skel) (e : Option ℕ) (where_ : Span) → Inside sys owner a →
      SomeInside sys owner t → SomeIn sys owner e → AllFit sys (passed w zero a t e where_)
  pub cast : (t : Option CType) (zero : Bool) (a s : Skel) (where_ : Span) → Inside sys owner a →
      Inside sys owner s → AllFit sys (formed w where_ s) → AllFit sys (cast_demand w t zero a s where_)
  pub returning : (f : Option Skel) (zero : Bool) (a : Skel) (where_ : Span) → SomeInside sys owner f →
      Inside sys owner a → AllFit sys (returned w f zero a where_)
  pub flow_into : (zero : Bool) (a t : Skel) (lattices : ℕ) (where_ : Span) → Inside sys owner a →
      Inside sys owner t → AllFit sys (flowing zero a t lattices where_)
  pub form : (s : Skel) (where_ : Span) → MembersInside sys w → Inside sys owner s → AllFit sys (formed w where_ s)
  pub name : (d : Declared) → AllFit sys (formed_name w d) → Inside sys owner (skeleton w (equal_to w d))
      → Inside sys owner (skeleton w d.at) →
      AllFit sys (name_row w d)
  pub parameter : (f : Skel) (n : ℕ) (d : Declared) → AllFit sys (formed_name w d) → Inside sys owner f →
      (is_some_function (declared_at w.names.declared d.first) ≡ true) ⊎ Inside sys owner (skeleton w d.at) →
      AllFit sys (param_row w f n (Some d))
  pub start_of_list : (f : Option Skel) (list : Skel) (where_ : Span) → SomeInside sys owner f →
      Inside sys owner list → AllFit sys (started w f list where_)
  pub next_of_list : (list t : Skel) (where_ : Span) → Inside sys owner list → Inside sys owner t →
      AllFit sys (taken w list t where_)

-- the law: the row of each form fits where the skeletons that it is made of are inside one owner
abbrev pub RowsFit : Type 0
RowsFit = (sys : System) (owner : Owner) (w : World) → RowsOf sys owner w

-- the system of skeletons that begin so, with these constraints
abbrev pub system_with : List Place → List Start → List Constraint → System
system_with functions starts cs = record {
  constraints = cs;
  sites = sites_among functions starts;
  owners = owners_among functions starts;
}

-- a world of these skeletons
pub record KnowsStarts (w : World) (starts : List Start) : Type 0 where
  pub skeletons_are : w.skeletons ≡ numbered_from 0 starts
  pub sites_are : w.sites ≡ site_places starts

-- at a token there is an instance of a function, whose skeleton is that of its declaration at `first`, the first of the
-- unit or of the prelude; `f` is its link
pub record IsInstance (w : World) (starts : List Start) (token : ℕ) (first f : Place) : Type 0 where
  pub here : Start
  pub begins_here : start_at starts (at w token) ≡ Some here
  pub calls : here.calls ≡ Some f
  pub there : Start
  pub begins_there : start_at starts first ≡ Some there
  pub is_own : there.owner ≡ Some f

-- the law: calls and returns between a function's signature and an instance of it fit
abbrev pub InstancesFit : Type 0
InstancesFit =
    (functions : List Place) (starts : List Start) (cs : List Constraint) (w : World) (token : ℕ) (first f : Place)
    → AreDifferent (site_places starts) → KnowsStarts w starts → IsInstance w starts token first f
    → AllFit (system_with functions starts cs) (crossed w token first)
