-- A system in two parts: a library, and a client that meets it at some variables of the library's functions alone.
-- Words stand for the library: constraints on those variables.
use Rattle.std.specs.Prelude.{◌≡◌, ℕ, ◌<◌, Bool, true, false, List, ◌++◌, ◌⊎◌, ◌↔◌}
use Rattle.qual_base.specs.declared.places.Owner.{Owner}
use Rattle.qual_base.specs.declared.places.Owner.TheVariants.{Function}
use Rattle.flow_graph.specs.declared.constraint.Link.{Link}
use Rattle.flow_graph.specs.declared.constraint.Link.TheVariants.{Le, Const, Bound, Enter, Leave}
use Rattle.flow_graph.specs.declared.constraint.Constraint.{Constraint}
use Rattle.flow_graph.specs.declared.constraint.Site.{Site}
use Rattle.lattice_core.specs.Order.{Order, size, leq, IsLattice}
use Rattle.flow_graph.specs.System.{System, owner_of, Has, Stands, IsWellOwned}
use Rattle.flow_graph.specs.Unfolding.{IsAcceptedIn, NamesElementsIn}
use Rattle.flow_graph.specs.Paths.{Matches, Match, Returning}
use Rattle.flow_laws.specs.Least.{IsLeastOver, IsSafe}
use Rattle.certificate_laws.specs.Certificates.{IsInnerEnd}

-- the constraints of a library, of its words and of a client, over the same sites and owners; `node` tells the
-- variables at which the client may meet the library, which are below `vars`, and `mine` the functions of the library
pub record Split : Type 0 where
  pub sites : List Site
  pub owners : List Owner
  pub library : List Constraint
  pub words : List Constraint
  pub client : List Constraint
  pub node : ℕ → Bool
  pub mine : ℕ → Bool
  pub vars : ℕ

-- the system of these constraints
abbrev pub of_part : Split → List Constraint → System
of_part s part = record { constraints = part; sites = s.sites; owners = s.owners }

-- the library alone
abbrev pub alone : Split → System
alone s = of_part s s.library

-- the library with the client
abbrev pub whole : Split → System
whole s = of_part s (s.library ++ s.client)

-- the words with the client
abbrev pub served : Split → System
served s = of_part s (s.words ++ s.client)

-- the variable belongs to a function of the library
abbrev pub IsMine : Split → ℕ → Type 0
IsMine s v = (f : ℕ) × (owner_of (alone s) v ≡ Function f) × (s.mine f ≡ true)

-- it belongs to another function, or to nobody
abbrev pub IsOther : Split → ℕ → Type 0
IsOther s v = (f : ℕ) → owner_of (alone s) v ≡ Function f → s.mine f ≡ false

-- all variables of a link are the library's
abbrev pub IsMineLink : Split → Link → Type 0
IsMineLink s (Le u v) = IsMine s u × IsMine s v
IsMineLink s (Const l e v) = IsMine s v
IsMineLink s (Bound v l b) = IsMine s v
IsMineLink s (Enter t u v) = IsMine s u × IsMine s v
IsMineLink s (Leave t u v) = IsMine s u × IsMine s v

-- a link of the client has a variable of the library at an inner end alone, where they meet
abbrev pub IsClientLink : Split → Link → Type 0
IsClientLink s (Le u v) = IsOther s u × IsOther s v
IsClientLink s (Const l e v) = IsOther s v
IsClientLink s (Bound v l b) = IsOther s v
IsClientLink s (Enter t u x) = IsOther s u × (IsMine s x → s.node x ≡ true)
IsClientLink s (Leave t x v) = IsOther s v × (IsMine s x → s.node x ≡ true)

-- no flow leaves a function but by a call, each link of the library has variables of the library alone, the client
-- meets them at nodes alone, and the nodes are the library's
pub record IsSplit (s : Split) : Type 0 where
  pub owned : IsWellOwned (whole s)
  pub library : (n : ℕ) (link : Link) → Has (alone s) n link → IsMineLink s link
  pub client : (n : ℕ) (link : Link) → Has (of_part s s.client) n link → IsClientLink s link
  pub node : (v : ℕ) → s.node v ≡ true → IsMine s v
  pub below : (v : ℕ) → s.node v ≡ true → v < s.vars

-- flows, groups and calls lead from a variable to another
pub data Down (sys : System) (lattice : ℕ) : ℕ → ℕ → Type 0 where
  here : (u : ℕ) → Down sys lattice u u
  along : (u x v n : ℕ) → Down sys lattice u x → Stands sys lattice n (Le x v) → Down sys lattice u v
  into : (u x v s n : ℕ) → Down sys lattice u x → Stands sys lattice n (Enter s x v) → Down sys lattice u v
  round : (u x a b v s g n m : ℕ) → Down sys lattice u x → Stands sys lattice n (Enter s x a)
      → Matches sys lattice g a b → Stands sys lattice m (Leave s b v) →
      Down sys lattice u v

-- the bound of a number is reached so
abbrev pub ReachesBound : System → ℕ → ℕ → ℕ → ℕ → Type 0
ReachesBound sys lattice v n b = (x : ℕ) × Down sys lattice v x × Stands sys lattice n (Bound x lattice b)

-- r is the greatest element at or below each of a set
pub record IsGreatestUnder (order : Order) (In : ℕ → Type 0) (r : ℕ) : Type 0 where
  pub element : r < size order
  pub lower : (e : ℕ) → In e → leq order r e ≡ true
  pub greatest : (d : ℕ) → d < size order → ((e : ℕ) → In e → leq order d e ≡ true) → leq order d r ≡ true

-- what the words say: at each node the join of all that comes there with no call open, the meet of the bounds that are
-- reached, and the nodes to which matched paths lead; a bottom and a top are left out
pub record AreWords (s : Split) (lattice : ℕ) (order : Order) (join meet : ℕ → ℕ) : Type 0 where
  pub joins : (v : ℕ) → s.node v ≡ true → IsLeastOver order (λ e. Returning (alone s) lattice e v) (join v)
  pub meets : (v : ℕ) → s.node v ≡ true
      → IsGreatestUnder order (λ b. (n : ℕ) × ReachesBound (alone s) lattice v n b) (meet v)
  pub const : (n e v : ℕ) → Stands (of_part s s.words) lattice n (Const lattice e v) → (s.node v ≡ true) × (e ≡ join v)
  pub bound : (n v b : ℕ) → Stands (of_part s s.words) lattice n (Bound v lattice b) → (s.node v ≡ true) × (b ≡ meet v)
  pub le : (n v u : ℕ) → Stands (of_part s s.words) lattice n (Le v u)
      → (s.node v ≡ true) × (s.node u ≡ true) × Match (alone s) lattice v u
  pub no_enter : (n t u v : ℕ) → Stands (of_part s s.words) lattice n (Enter t u v) → ⊥
  pub no_leave : (n t u v : ℕ) → Stands (of_part s s.words) lattice n (Leave t u v) → ⊥
  pub has_const : (v : ℕ) → s.node v ≡ true
      → ((n : ℕ) × Stands (of_part s s.words) lattice n (Const lattice (join v) v))
      ⊎ ((d : ℕ) → d < size order → leq order (join v) d ≡ true)
  pub has_bound : (v : ℕ) → s.node v ≡ true
      → ((n : ℕ) × Stands (of_part s s.words) lattice n (Bound v lattice (meet v)))
      ⊎ ((d : ℕ) → d < size order → leq order d (meet v) ≡ true)
  pub has_le : (v u : ℕ) → s.node v ≡ true → s.node u ≡ true → Match (alone s) lattice v u
      → (v ≡ u) ⊎ ((n : ℕ) × Stands (of_part s s.words) lattice n (Le v u))

-- Tests of the library: what comes to a variable with no call open, what is joined from an inner end or a node, and the
-- elements of the bounds that are reached from a node.
pub record SplitTests : Type 0 where
  pub returned : ℕ → ℕ → Bool
  pub joined : ℕ → ℕ → Bool
  pub bounded : ℕ → ℕ → Bool

-- the tests tell exactly what comes, what is joined, and what bounds are reached
pub record AreSplitExact (s : Split) (lattice : ℕ) (t : SplitTests) : Type 0 where
  pub returned : (e v : ℕ) → (t.returned e v ≡ true) ↔ Returning (alone s) lattice e v
  pub joined : (a v : ℕ) → IsInnerEnd (alone s) lattice a ⊎ (s.node a ≡ true)
      → (t.joined a v ≡ true) ↔ ((g : ℕ) × Matches (alone s) lattice g a v)
  pub bounded : (v b : ℕ) → s.node v ≡ true → (t.bounded v b ≡ true) ↔ ((n : ℕ) × ReachesBound (alone s) lattice v n b)

-- what both laws rest on
pub record SplitPremises (s : Split) (lattice : ℕ) (order : Order) (join meet : ℕ → ℕ) (t : SplitTests) : Type 0 where
  pub split : IsSplit s
  pub lat : IsLattice order
  pub names : NamesElementsIn (whole s) lattice order
  pub words : AreWords s lattice order join meet
  pub exact : AreSplitExact s lattice t
  pub safe : IsSafe (alone s) lattice order

-- Where the words with the client are accepted, so is the library with the client.
abbrev pub ServedIsWhole : Type 0
ServedIsWhole =
    (s : Split) (lattice : ℕ) (order : Order) (join meet : ℕ → ℕ) (t : SplitTests)
    → SplitPremises s lattice order join meet t →
    IsAcceptedIn (served s) lattice order → IsAcceptedIn (whole s) lattice order

-- And the other way round.
abbrev pub WholeIsServed : Type 0
WholeIsServed =
    (s : Split) (lattice : ℕ) (order : Order) (join meet : ℕ → ℕ) (t : SplitTests)
    → SplitPremises s lattice order join meet t →
    IsAcceptedIn (whole s) lattice order → IsAcceptedIn (served s) lattice order
