-- What callers see of the blocks of a file, and the lattices that they make.
use Rattle.std.specs.Prelude.{◌≡◌, ◌≢◌, ℕ, ◌+◌, List, [], ◌∷◌, take, Some, slice_get}
use Rattle.lattice_core.specs.declared.Entry.{Entry}
use Rattle.lattice_core.specs.declared.Pair.{Pair}
use Rattle.lattice_core.specs.declared.Flows.{Flows}
use Rattle.lattice_core.specs.declared.LatticeFault.{LatticeFault}
use Rattle.lattice_core.specs.declared.LatticeFault.TheVariants.{NoMemory}
use Rattle.lattice_core.specs.View.{LatticeView}
use Rattle.lattice_core.specs.Building.{AreBuilt, Refuses}

-- the entries and the order lines of a block, as they are written, and its attributes
pub record BlockView : Type 0 where
  pub entries : List Entry
  pub pairs : List Pair
  pub flows : Flows

-- a block makes this lattice
pub record IsBuilt (block : BlockView) (lattice : LatticeView) : Type 0 where
  pub built : AreBuilt block.entries block.pairs lattice
  pub flows : lattice.flows ≡ block.flows

-- each block makes the lattice in its place
abbrev pub AreAllBuilt : List BlockView → List LatticeView → Type 0
AreAllBuilt [] [] = Unit {0}
AreAllBuilt [] (lattice ∷ lattices) = ⊥
AreAllBuilt (block ∷ blocks) [] = ⊥
AreAllBuilt (block ∷ blocks) (lattice ∷ lattices) = IsBuilt block lattice × AreAllBuilt blocks lattices

-- the block with this number, counted from 1, is the first that makes no lattice, for this reason
pub record IsFirstRefused (blocks : List BlockView) (number : ℕ) (fault : LatticeFault) : Type 0 where
  pub at : ℕ
  pub numbered : number ≡ at + 1
  pub block : BlockView
  pub there : slice_get blocks at ≡ Some block
  pub refused : Refuses block.entries block.pairs fault
  pub reason : fault ≢ NoMemory
  pub earlier : (lattices : List LatticeView) × AreAllBuilt (take at blocks) lattices
