-- Names that stand in more than one lattice.
use Rattle.std.specs.Prelude.{◌≡◌, ℕ, ◌<◌, List, Some, slice_get}
use Rattle.lattice_core.specs.View.{LatticeView}
use Rattle.lattice_core.specs.Entries.{name_at, number_of}

-- one of the first lattices has an element with this name
pub record IsNamedBefore (lattices : List LatticeView) (end : ℕ) (name : List ℕ) : Type 0 where
  pub at : ℕ
  pub within : at < end
  pub lattice : LatticeView
  pub there : slice_get lattices at ≡ Some lattice
  pub elem : ℕ
  pub named : number_of lattice.entries name ≡ Some elem

-- an earlier lattice has the name of element elem of lattice at
pub record IsShared (lattices : List LatticeView) (at elem : ℕ) (name : List ℕ) : Type 0 where
  pub lattice : LatticeView
  pub there : slice_get lattices at ≡ Some lattice
  pub named : name_at lattice.entries elem ≡ Some name
  pub before : IsNamedBefore lattices at name

-- none of the first lattices has a name of one before it
abbrev pub AreApart : List LatticeView → ℕ → Type 0
AreApart lattices end = (at elem : ℕ) (name : List ℕ) → at < end → IsShared lattices at elem name → ⊥

-- this is the name of the first element of lattice at whose name an earlier lattice has
pub record IsFirstSharedIn (lattices : List LatticeView) (at : ℕ) (name : List ℕ) : Type 0 where
  pub elem : ℕ
  pub shared : IsShared lattices at elem name
  pub first : (other : ℕ) (otherwise : List ℕ) → other < elem → IsShared lattices at other otherwise → ⊥

-- this is the first name, in the order of the lattices and of their elements, that an earlier lattice has
pub record IsFirstShared (lattices : List LatticeView) (name : List ℕ) : Type 0 where
  pub at : ℕ
  pub here : IsFirstSharedIn lattices at name
  pub earlier_apart : AreApart lattices at
