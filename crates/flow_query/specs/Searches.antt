-- A variable in a lattice, and what searches for it have found.
use Rattle.std.specs.Prelude.{◌≡◌, ℕ, ◌<◌, length, slice_get, Some}
use Rattle.flow_graph.specs.declared.constraint.Link.TheVariants.{Const, Bound}
use Rattle.flow_graph.specs.declared.constraint.Link.{Link}
use Rattle.flow_graph.specs.System.{System, IsWellOwned, Stands}
use Rattle.annotate.specs.declared.solving.Solved.{Solved}
use Rattle.annotate.specs.Solutions.{IsSolution}
use Rattle.error_path.specs.Reaches.{IsReachOf}
use Rattle.error_path.specs.Rooms.{IsRoom}
use Rattle.flow_query.specs.declared.searches.Finder.{Finder}
use Rattle.flow_query.specs.declared.searches.Finder.TheVariants.{Idle, Kept}
use Rattle.flow_query.specs.declared.searches.Found.{Found}
use Rattle.flow_query.specs.declared.searches.Search.{Search}
use Rattle.flow_query.specs.declared.searches.Section.{Section}
use Rattle.flow_query.specs.Ends.{AllEnds, AreEnds}

-- the graph is well owned, and what was found and what is listed are of the lattice
pub record IsSection (section : Section) : Type 0 where
  pub owned : IsWellOwned section.graph.now
  pub low : section.lattice < 16
  pub solution : IsSolution section.graph.now section.lattice section.solved.now
  pub ends : AreEnds section.graph.now section.lattice section.ends.now

-- the graph is well owned, and what was found and what is listed are of so many lattices
pub record IsFound (found : Found) : Type 0 where
  pub owned : IsWellOwned found.graph.now
  pub each : (n : ℕ) (solution : Solved) → slice_get found.solutions.now n ≡ Some solution
      → IsSolution found.graph.now n solution
  pub ends : AllEnds found.graph.now (length found.solutions.now) found.ends.now

-- a lattice is one of them
pub record IsOf (lattice : ℕ) (found : Found) : Type 0 where
  pub low : lattice < 16
  pub there : lattice < length found.solutions.now

-- a search has found all that its variable leads to in its lattice
abbrev pub IsSearch : System → Search → Type 0
IsSearch sys search = IsReachOf sys search.lattice search.start search.reach

-- a search is of the lattice of a section
pub record IsSearchIn (section : Section) (search : Search) : Type 0 where
  pub lattice_is : search.lattice ≡ section.lattice
  pub is : IsSearch section.graph.now search

-- in the room of a finder nothing is set, or only what its search has found
abbrev pub IsFinder : System → Finder → Type 0
IsFinder sys (Idle room) = IsRoom sys room
IsFinder sys (Kept search) = IsSearch sys search

-- it keeps no search but that of a lattice from a variable
abbrev pub KeepsOnly : ℕ → ℕ → Finder → Type 0
KeepsOnly lattice start (Idle room) = Unit {0}
KeepsOnly lattice start (Kept search) = (search.lattice ≡ lattice) × (search.start ≡ start)

-- a constraint is a constant of the lattice in a variable
abbrev pub IsConstantAt : System → ℕ → ℕ → ℕ → Type 0
IsConstantAt sys lattice number at = (elem : ℕ) × Stands sys lattice number (Const lattice elem at)

-- a constraint is a bound of the lattice on a variable
abbrev pub IsBoundAt : System → ℕ → ℕ → ℕ → Type 0
IsBoundAt sys lattice number at = (elem : ℕ) × Stands sys lattice number (Bound at lattice elem)

-- a link is no constant of the lattice
abbrev pub IsNoConstant : Link → ℕ → Type 0
IsNoConstant link lattice = (elem at : ℕ) → link ≡ Const lattice elem at → ⊥
