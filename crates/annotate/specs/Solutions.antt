-- What is found of each lattice, and what of a report follows from it.
use Rattle.std.specs.Prelude.{◌≡◌, ℕ, ◌<◌, ◌↔◌, nat_lt, List, ◌++◌, length, slice_get, Option, Some, None, if◌then◌else◌}
use Rattle.flow_graph.specs.System.{System}
use Rattle.flow_graph.specs.Paths.{Lead}
use Rattle.flow_graph.specs.declared.constraint.Link.{Link}
use Rattle.flow_graph.specs.declared.constraint.Link.TheVariants.{Bound}
use Rattle.flow_graph.specs.Unfolding.{NamesElementsIn}
use Rattle.lattice_core.specs.Order.{Order}
use Rattle.lattice_core.specs.View.{LatticeView, orders_of}
use Rattle.match_summary.specs.Summary.{Summarises}
use Rattle.lattice_solver.specs.Solution.{Exceeds, HasElement, IsSolved, IsKept}
use Rattle.annotate.specs.declared.listing.Listing.{Listing}
use Rattle.annotate.specs.declared.solving.Solved.{Solved}
use Rattle.annotate.specs.declared.scene.Scene.{Scene as Lent}
use Rattle.annotate.specs.Texts.{Scene}
use Rattle.annotate.specs.Reports.{IsListed, IsOver, ErrorCount}
use Rattle.annotate.specs.Scenes.{Shows}

-- each constant and bound of a lattice of the list names an element of it
abbrev pub AllNamed : List LatticeView → System → Type 0
AllNamed lattices sys =
    (n : ℕ) (view : LatticeView) → slice_get lattices n ≡ Some view → NamesElementsIn sys n view.order

-- the matched paths and the solution of the lattice with a number
pub record IsSolution (sys : System) (lattice : ℕ) (of : Solved) : Type 0 where
  pub lattice_is : of.solver.lattice ≡ lattice
  pub summarised : Summarises sys of.solver.lattice of.summaries
  pub solved : IsSolved sys of.solver
  pub reached : (v e : ℕ) → HasElement of.solver v e ↔ Lead sys lattice e v

-- a solution for each lattice, in order
pub record AreSolutions (sys : System) (lattices : List LatticeView) (solutions : List Solved) : Type 0 where
  pub count : length solutions ≡ length lattices
  pub each : (n : ℕ) (solution : Solved) → slice_get solutions n ≡ Some solution → IsSolution sys n solution

-- each lattice keeps its bounds
abbrev pub AreKept : System → List LatticeView → List Solved → Type 0
AreKept sys lattices solutions =
    (n : ℕ) (view : LatticeView) (solution : Solved) → slice_get lattices n ≡ Some view
    → slice_get solutions n ≡ Some solution →
    IsKept sys solution.solver view.order

-- what is listed of a variable in the lattice with a number
pub record IsListedIn (lattices : List LatticeView) (sys : System) (lattice var : ℕ)
    (here : List Listing) : Type 0 where
  pub order : Order
  pub there : slice_get (orders_of lattices) lattice ≡ Some order
  pub is : IsListed sys lattice order var here

-- behind what was listed stands a list of this kind
pub record Adds (old new : List Listing) (Is : List Listing → Type 0) : Type 0 where
  pub here : List Listing
  pub added : new ≡ old ++ here
  pub is : Is here

-- a link is no bound
abbrev pub IsNoBound : Link → Type 0
IsNoBound link = (v lattice limit : ℕ) → link ≡ Bound v lattice limit → ⊥

-- an element exceeds a bound of the lattice with a number, by what was found of it
pub record IsOverIn (lattices : List LatticeView) (sys : System) (of : Solved) (bound : ℕ) : Type 0 where
  pub view : LatticeView
  pub there : slice_get lattices of.solver.lattice ≡ Some view
  pub summarised : Summarises sys of.solver.lattice of.summaries
  pub solved : IsSolved sys of.solver
  pub named : NamesElementsIn sys of.solver.lattice view.order
  pub elem : ℕ
  pub exceeds : Exceeds sys of.solver view.order bound elem

-- no constraint before this one is an exceeded bound
abbrev pub NoneBefore : Lent → System → ℕ → Type 0
NoneBefore lent sys number = (scene : Scene) → Shows lent scene → (n : ℕ) → n < number → IsOver scene sys n → ⊥

-- the first constraint that is an exceeded bound of some lattice
pub record IsFirstOver (lent : Lent) (sys : System) (number : ℕ) : Type 0 where
  pub within : number < length sys.constraints
  pub over : (scene : Scene) → Shows lent scene → IsOver scene sys number
  pub before : NoneBefore lent sys number

-- the earlier of two numbers, each of which may not be there
abbrev pub earlier : Option ℕ → Option ℕ → Option ℕ
earlier None other = other
earlier (Some first) None = Some first
earlier (Some first) (Some second) = if nat_lt second first then Some second else Some first

-- so many of the constraints below a number are exceeded bounds, in each scene that is what the code holds
abbrev pub CountsOver : Lent → System → ℕ → ℕ → Type 0
CountsOver lent sys number count = (scene : Scene) → Shows lent scene → ErrorCount scene sys number count
