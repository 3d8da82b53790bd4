-- What callers see of a lattice: its entries, the order on their numbers, and what passes through pointers and structs.
use Rattle.std.specs.Prelude.{◌≡◌, ◌<◌, ℕ, List, length, map, slice_get, Some}
use Rattle.lattice_core.specs.Order.{Order, size, IsLattice}
use Rattle.lattice_core.specs.declared.Entry.{Entry}
use Rattle.lattice_core.specs.declared.Flows.{Flows}

-- element n is entry n
pub record LatticeView : Type 0 where
  pub entries : List Entry
  pub order : Order
  pub flows : Flows

-- the orders of several lattices
abbrev pub orders_of : List LatticeView → List Order
orders_of lattices = map (λ (lattice : LatticeView). lattice.order) lattices

-- an element of a lattice
pub record IsElement (lattices : List LatticeView) (lattice elem : ℕ) : Type 0 where
  pub view : LatticeView
  pub there : slice_get lattices lattice ≡ Some view
  pub within : elem < length view.entries

-- the elements of each lattice are its entries
abbrev pub AreSized : List LatticeView → Type 0
AreSized lattices =
    (n : ℕ) (view : LatticeView) → slice_get lattices n ≡ Some view → size view.order ≡ length view.entries

-- each is a lattice
abbrev pub AreLattices : List LatticeView → Type 0
AreLattices lattices = (n : ℕ) (view : LatticeView) → slice_get lattices n ≡ Some view → IsLattice view.order
