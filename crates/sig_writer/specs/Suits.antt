-- Which libraries may have signatures: those over one lattice of values through which nothing passes by pointers or
-- fields, of which no constraint has a variable of nobody.
use Rattle.std.specs.Prelude.{◌≡◌, ℕ, ◌<◌, ◌⊎◌, List, [], ◌∷◌, Some}
use Rattle.qual_base.specs.declared.places.Owner.TheVariants.{Nobody}
use Rattle.lattice_core.specs.declared.Level.TheVariants.{Value}
use Rattle.lattice_core.specs.Entries.{level_at}
use Rattle.lattice_core.specs.Passing.{no_flows}
use Rattle.lattice_core.specs.View.{LatticeView}
use Rattle.flow_graph.specs.declared.constraint.Link.{Link}
use Rattle.flow_graph.specs.declared.constraint.Link.TheVariants.{Le, Const, Bound, Enter, Leave}
use Rattle.flow_graph.specs.System.{System, owner_of, Has}
use Rattle.sig_writer.specs.declared.suiting.Unsuited.{Unsuited}
use Rattle.sig_writer.specs.declared.suiting.Unsuited.TheVariants.{Lattice, Shared}

-- a lattice of values, without attributes of the whole
pub record IsPlain (lattice : LatticeView) : Type 0 where
  pub level : level_at lattice.entries 0 ≡ Some Value
  pub flows : lattice.flows ≡ no_flows

-- there is one lattice, and it is one of values without attributes of the whole
abbrev pub IsOnePlain : List LatticeView → Type 0
IsOnePlain lattices = (lattice : LatticeView) × (lattices ≡ lattice ∷ []) × IsPlain lattice

-- no function owns a variable
abbrev pub IsNobodys : System → ℕ → Type 0
IsNobodys sys v = owner_of sys v ≡ Nobody

-- a constraint has a variable of nobody
abbrev pub IsShared : System → Link → Type 0
IsShared sys (Le u v) = IsNobodys sys u ⊎ IsNobodys sys v
IsShared sys (Const l e v) = IsNobodys sys v
IsShared sys (Bound v l e) = IsNobodys sys v
IsShared sys (Enter s u v) = IsNobodys sys u ⊎ IsNobodys sys v
IsShared sys (Leave s u v) = IsNobodys sys u ⊎ IsNobodys sys v

-- no constraint below a number is shared
abbrev pub AreOwnBelow : System → ℕ → Type 0
AreOwnBelow sys n = (m : ℕ) (link : Link) → m < n → Has sys m link → IsShared sys link → ⊥

-- the first constraint that has a variable of nobody
pub record IsFirstShared (sys : System) (n : ℕ) : Type 0 where
  pub link : Link
  pub there : Has sys n link
  pub shared : IsShared sys link
  pub first : AreOwnBelow sys n

-- a library may have signatures: it is over one plain lattice, and no constraint of it has a variable of nobody
pub record Suits (sys : System) (lattices : List LatticeView) : Type 0 where
  pub one : IsOnePlain lattices
  pub own : (n : ℕ) (link : Link) → Has sys n link → IsShared sys link → ⊥

-- why a library has no signatures
abbrev pub IsUnsuited : System → List LatticeView → Unsuited → Type 0
IsUnsuited sys lattices Lattice = IsOnePlain lattices → ⊥
IsUnsuited sys lattices (Shared n) = IsOnePlain lattices × IsFirstShared sys n
