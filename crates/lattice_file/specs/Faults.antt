-- When each fault of the blocks of a file comes.
use Rattle.std.specs.Prelude.{◌≡◌, ◌≢◌, ℕ, ◌+◌, ◌<◌, ◌≤◌, List, length, Result, Ok, Err, Bool}
use Rattle.lattice_core.specs.Building.{Refuses}
use Rattle.lattice_core.specs.declared.LatticeFault.TheVariants.{NoMemory}
use Rattle.lattice_file.specs.declared.reading.LatticeFileFault.{LatticeFileFault}
use Rattle.lattice_file.specs.declared.reading.LatticeFileFault.TheVariants.{Block, Grammar, TooManyLattices, SharedName, NoMemory as OutOfMemory}
use Rattle.lattice_core.specs.View.{LatticeView}
use Rattle.lattice_core.specs.declared.LatticeFault.{LatticeFault}
use Rattle.lattice_file.specs.Blocks.{BlockView, IsFirstRefused, AreAllBuilt}
use Rattle.lattice_file.specs.Sharing.{AreApart, IsFirstShared}
use Rattle.lattice_file.specs.Places.{line_of, column_of}
use Rattle.lattice_file.specs.Text.{IsLatticeText}
use Rattle.lattice_file.specs.Begins.{IsFirstBad}

-- a block that follows so many others makes no lattice, for a reason other than memory, or memory ran out
abbrev pub IsBlockFault : BlockView → ℕ → LatticeFileFault → Type 0
IsBlockFault block before (Block number fault) =
    (number ≡ before + 1) × Refuses block.entries block.pairs fault × (fault ≢ NoMemory)
IsBlockFault block before OutOfMemory = Unit {0}
IsBlockFault block before _ = ⊥

-- the first block that makes no lattice, or memory ran out
abbrev pub IsBuildFault : List BlockView → LatticeFileFault → Type 0
IsBuildFault blocks (Block number fault) = IsFirstRefused blocks number fault
IsBuildFault blocks OutOfMemory = Unit {0}
IsBuildFault blocks _ = ⊥

-- the bytes are a text of at most 16 blocks, which make these lattices, and no two of these have a name in common
pub record Reads (wide : Bool) (bytes : List ℕ) (lattices : List LatticeView) : Type 0 where
  pub blocks : List BlockView
  pub text : IsLatticeText wide blocks bytes
  pub few : length blocks ≤ 16
  pub built : AreAllBuilt blocks lattices
  pub apart : AreApart lattices (length lattices)

-- the bytes are a text of blocks of which this one is the first that makes no lattice
pub record IsRefusedBlock (wide : Bool) (bytes : List ℕ) (number : ℕ) (reason : LatticeFault) : Type 0 where
  pub blocks : List BlockView
  pub text : IsLatticeText wide blocks bytes
  pub few : length blocks ≤ 16
  pub first : IsFirstRefused blocks number reason

-- the bytes are a text of over 16 blocks
pub record HasTooMany (wide : Bool) (bytes : List ℕ) : Type 0 where
  pub blocks : List BlockView
  pub text : IsLatticeText wide blocks bytes
  pub many : 16 < length blocks

-- the bytes are a text of blocks whose lattices share this name first
pub record HasSharedName (wide : Bool) (bytes name : List ℕ) : Type 0 where
  pub blocks : List BlockView
  pub lattices : List LatticeView
  pub text : IsLatticeText wide blocks bytes
  pub few : length blocks ≤ 16
  pub built : AreAllBuilt blocks lattices
  pub first : IsFirstShared lattices name

-- the answer for the blocks of a text, which is no fault of the text, and memory aside is this one alone
abbrev pub IsAnswerFor : List BlockView → Result (List LatticeView) LatticeFileFault → Type 0
IsAnswerFor blocks (Ok lattices) =
    (length blocks ≤ 16) × AreAllBuilt blocks lattices × AreApart lattices (length lattices)
IsAnswerFor blocks (Err (Block number reason)) = (length blocks ≤ 16) × IsFirstRefused blocks number reason
IsAnswerFor blocks (Err (Grammar line column)) = ⊥
IsAnswerFor blocks (Err TooManyLattices) = 16 < length blocks
IsAnswerFor blocks (Err (SharedName name)) =
    (length blocks ≤ 16) × (lattices : List LatticeView) × AreAllBuilt blocks lattices × IsFirstShared lattices name
IsAnswerFor blocks (Err OutOfMemory) = Unit {0}

-- the line and the column of the first place up to which no lattice text begins so
pub record IsFirstBadPlace (wide : Bool) (bytes : List ℕ) (line column : ℕ) : Type 0 where
  pub place : ℕ
  pub first : IsFirstBad wide bytes place
  pub line_is : line ≡ line_of bytes place
  pub column_is : column ≡ column_of bytes place

-- when each fault of a file comes
abbrev pub IsFileFault : Bool → List ℕ → LatticeFileFault → Type 0
IsFileFault wide bytes (Block number reason) = IsRefusedBlock wide bytes number reason
IsFileFault wide bytes (Grammar line column) = IsFirstBadPlace wide bytes line column
IsFileFault wide bytes TooManyLattices = HasTooMany wide bytes
IsFileFault wide bytes (SharedName name) = HasSharedName wide bytes name
IsFileFault wide bytes OutOfMemory = Unit {0}
