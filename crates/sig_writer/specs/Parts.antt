-- What the words of signatures stand for: constraints on the nodes of external functions. With any client they are
-- accepted exactly where the library is.
use Rattle.std.specs.Prelude.{◌≡◌, ℕ, ◌<◌, nat_eq, Bool, true, not, ◌&&◌, ◌↔◌, ◌⊎◌, List, [], ◌∷◌, ◌++◌, map, Option, None, Some}
use Rattle.std.specs.List.{filter, flat_map, list_all, list_any, Contains}
use Rattle.qual_base.specs.declared.places.Owner.TheVariants.{Function}
use Rattle.lattice_core.specs.Order.{Order}
use Rattle.flow_graph.specs.declared.constraint.Link.{Link}
use Rattle.flow_graph.specs.declared.constraint.Link.TheVariants.{Le, Const, Bound, Enter, Leave}
use Rattle.flow_graph.specs.declared.constraint.Constraint.{Constraint}
use Rattle.flow_graph.specs.declared.constraint.Site.{Site}
use Rattle.flow_graph.specs.System.{System, owner_of, vars_of, Has}
use Rattle.flow_graph.specs.Unfolding.{IsAcceptedIn, NamesElementsIn}
use Rattle.split_laws.specs.Splits.{IsSplit, Split, alone, served, whole}
use Rattle.sig_writer.specs.Signatures.{External, Found, nodes_of, numbers_of, says}

-- ---- the constraints of the words

-- the constant that a word of the join gives, if there is one
abbrev pub const_of : ℕ → Option ℕ → List Link
const_of v None = []
const_of v (Some e) = Const 0 e v ∷ []

-- the bound that a word of the meet gives, if there is one
abbrev pub bound_of : ℕ → Option ℕ → List Link
bound_of v None = []
bound_of v (Some b) = Bound v 0 b ∷ []

-- whether all numbers are among others
abbrev pub are_among : List ℕ → List ℕ → Bool
are_among numbers others = list_all (λ n. list_any (nat_eq n) others) numbers

-- a node with an index word flows to each other one whose word has all its numbers
abbrev pub flows_of : Found → List ℕ → ℕ → List ℕ → List Link
flows_of it nodes v [] = []
flows_of it nodes v (n ∷ numbers) =
    map (λ u. Le v u) (filter (λ u. not (nat_eq u v) && are_among (n ∷ numbers) (numbers_of it nodes u)) nodes)

-- the constraints that the words of a node give
abbrev pub words_at : Found → List ℕ → ℕ → List Link
words_at it nodes v =
    const_of v (says it nodes v).low ++ bound_of v (says it nodes v).high ++ flows_of it nodes v (numbers_of it nodes v)

-- a constraint of the one lattice, at the first declaration of a function
abbrev pub constraint_of : External → Link → Constraint
constraint_of f link = record {
  link = link;
  lattices = 1;
  span = record { unit = f.place.0; from = f.place.1; to = f.place.1 };
}

-- the constraints that the words of a function's signature give
abbrev pub words_for : Found → External → List Constraint
words_for it f = map (constraint_of f) (flat_map (words_at it (nodes_of f)) (nodes_of f))

-- the constraints of all signatures of a library
abbrev pub words_part : Found → List External → List Constraint
words_part it functions = flat_map (words_for it) functions

-- ---- a library with a client

-- no function owns variables of two of these
abbrev pub AreOwnedApart : System → List External → Type 0
AreOwnedApart sys functions =
    (one other : External) (u v f : ℕ) → Contains functions one → Contains functions other → Contains (nodes_of one) u
    → Contains (nodes_of other) v → owner_of sys u ≡ Function f → owner_of sys v ≡ Function f
    → nodes_of one ≡ nodes_of other

-- a constraint has a variable at one of its ends
abbrev pub HasVar : Link → ℕ → Type 0
HasVar (Le u v) w = (u ≡ w) ⊎ (v ≡ w)
HasVar (Const l e v) w = v ≡ w
HasVar (Bound v l e) w = v ≡ w
HasVar (Enter s u v) w = (u ≡ w) ⊎ (v ≡ w)
HasVar (Leave s u v) w = (u ≡ w) ⊎ (v ≡ w)

-- a function owns a variable of a constraint of the library, or one of its nodes
abbrev pub IsLibrarys : System → List ℕ → ℕ → Type 0
IsLibrarys sys nodes f =
    (v : ℕ) × (owner_of sys v ≡ Function f)
    × (((n : ℕ) × (link : Link) × Has sys n link × HasVar link v) ⊎ Contains nodes v)

-- A split of which the library is this system and the words are those of its signatures. The client has any
-- constraints, over further sites and variables, that meet the library at its nodes alone.
pub record IsSplitOf (sys : System) (it : Found) (functions : List External) (s : Split) : Type 0 where
  pub library : s.library ≡ sys.constraints
  pub words : s.words ≡ words_part it functions
  pub sites : (more : List Site) × (s.sites ≡ sys.sites ++ more)
  pub owners : (v : ℕ) → v < vars_of sys → owner_of (alone s) v ≡ owner_of sys v
  pub node : (v : ℕ) → (s.node v ≡ true) ↔ Contains (flat_map nodes_of functions) v
  pub mine : (f : ℕ) → (s.mine f ≡ true) ↔ IsLibrarys sys (flat_map nodes_of functions) f
  pub split : IsSplit s

-- The words serve every client as the library does.
abbrev pub Serves : System → Order → Found → List External → Type 0
Serves sys order it functions = (s : Split) → IsSplitOf sys it functions s → NamesElementsIn (whole s) 0 order →
    IsAcceptedIn (served s) 0 order ↔ IsAcceptedIn (whole s) 0 order
