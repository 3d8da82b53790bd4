-- The two reports of a program.
use Rattle.std.specs.Prelude.{◌≡◌, ℕ, ◌+◌, ◌<◌, Bool, true, false, List, [], ◌∷◌, ◌++◌, length, slice_get, Some, None, Option, codes}
use Rattle.lattice_core.specs.Order.{Order, size, leq}
use Rattle.flow_graph.specs.declared.constraint.Link.TheVariants.{Const, Bound}
use Rattle.flow_graph.specs.declared.proof.PathStep.{PathStep}
use Rattle.flow_graph.specs.declared.proof.PathStep.TheVariants.{Take}
use Rattle.flow_graph.specs.System.{System, Stands}
use Rattle.flow_graph.specs.Unfolding.{Assignment, IsAccepted, IsExceeded, Meets, Printed}
use Rattle.flow_graph.specs.PathProofs.{AreApart, first_fault, first_of, last_of}
use Rattle.lattice_core.specs.View.{LatticeView, orders_of}
use Rattle.annotate.specs.declared.listing.Listing.{Listing}
use Rattle.annotate.specs.Texts.{Scene, line, accepted_text, error_line, proof_text}
use Rattle.annotate.specs.Annotated.{annotation}

-- an element at or below each
abbrev pub IsBottom : Order → ℕ → Type 0
IsBottom order bottom = (bottom < size order) × ((a : ℕ) → a < size order → leq order bottom a ≡ true)

-- What is listed of a variable in a lattice: its least element over all copies, or nothing where that is the bottom.
pub data IsListed (sys : System) (lattice : ℕ) (order : Order) (var : ℕ) : List Listing → Type 0 where
  AtBottom : (bottom : ℕ) → IsBottom order bottom → Printed sys lattice order var bottom
      → IsListed sys lattice order var []
  Above : (elem : ℕ) → (IsBottom order elem → ⊥) → Printed sys lattice order var elem →
      IsListed sys lattice order var (record { var = var; lattice = lattice; elem = elem } ∷ [])

-- what is listed of a variable in the lattices below a number, in order
pub data VarListings (lattices : List LatticeView) (sys : System) (var : ℕ) : ℕ → List Listing → Type 0 where
  NoLattice : VarListings lattices sys var 0 []
  NextLattice : (lattice : ℕ) (order : Order) (before here : List Listing)
      → slice_get (orders_of lattices) lattice ≡ Some order →
      VarListings lattices sys var lattice before → IsListed sys lattice order var here →
      VarListings lattices sys var (lattice + 1) (before ++ here)

-- what is listed of variables, in order
pub data Listings (lattices : List LatticeView) (sys : System) : List ℕ → List Listing → Type 0 where
  NoVar : Listings lattices sys [] []
  NextVar : (vars : List ℕ) (var : ℕ) (before here : List Listing) → Listings lattices sys vars before →
      VarListings lattices sys var (length lattices) here →
      Listings lattices sys (vars ++ var ∷ []) (before ++ here)

-- In each lattice one assignment meets the unfolding at every depth, and on all copies of all variables at once it is
-- at or below the printed elements.
pub record IsAtOnce (sys : System) (lattice : ℕ) (order : Order) : Type 0 where
  pub copies : Assignment
  pub meets : (depth : ℕ) → Meets sys lattice order depth copies
  pub below : (v : ℕ) (sites : List ℕ) (r : ℕ) → Printed sys lattice order v r → leq order (copies v sites) r ≡ true

-- The accepted report: the program has an assignment at every call depth in every lattice, and each variable its least
-- elements, which are those of all copies of all variables at once.
pub record IsAcceptedReport (scene : Scene) (sys : System) (text : List ℕ) : Type 0 where
  pub accepted : IsAccepted sys (orders_of scene.lattices)
  pub at_once : (lattice : ℕ) (order : Order) → slice_get (orders_of scene.lattices) lattice ≡ Some order
      → IsAtOnce sys lattice order
  pub listings : List Listing
  pub listed : Listings scene.lattices sys scene.listed listings
  pub spelled : text ≡ accepted_text scene listings

-- The error of a bound: a path proof that holds, from a constant to the bound, under a line with both elements.
pub record IsError (scene : Scene) (sys : System) (number : ℕ) (text : List ℕ) : Type 0 where
  pub subs : List (List PathStep)
  pub main : List PathStep
  pub end : ℕ
  pub holds : first_fault sys (orders_of scene.lattices) subs main end ≡ None
  pub apart : AreApart sys subs
  pub start : ℕ
  pub start_line : ℕ
  pub begins : first_of main ≡ Some (Take start start_line)
  pub last_line : ℕ
  pub finishes : last_of main ≡ Some (Take number last_line)
  pub lattice : ℕ
  pub elem : ℕ
  pub from : ℕ
  pub constant : Stands sys lattice start (Const lattice elem from)
  pub limit : ℕ
  pub at : ℕ
  pub bound : Stands sys lattice number (Bound at lattice limit)
  pub spelled : text ≡ error_line scene lattice elem limit bound.constraint.span ++ proof_text scene sys subs main

-- a constraint is an exceeded bound of some lattice
pub record IsOver (scene : Scene) (sys : System) (number : ℕ) : Type 0 where
  pub lattice : ℕ
  pub order : Order
  pub there : slice_get (orders_of scene.lattices) lattice ≡ Some order
  pub exceeded : IsExceeded sys lattice order number

-- what is written of a constraint: its error where it is an exceeded bound, else nothing
pub data IsErrorOf (scene : Scene) (sys : System) (number : ℕ) : List ℕ → Type 0 where
  NotExceeded : (IsOver scene sys number → ⊥) → IsErrorOf scene sys number []
  Exceeded : (error : List ℕ) → IsOver scene sys number → IsError scene sys number error
      → IsErrorOf scene sys number error

-- the errors of the constraints below a number, in order
pub data Errors (scene : Scene) (sys : System) : ℕ → List ℕ → Type 0 where
  NoConstraint : Errors scene sys 0 []
  NextError : (number : ℕ) (text error : List ℕ) → Errors scene sys number text → IsErrorOf scene sys number error
      → Errors scene sys (number + 1) (text ++ error)

-- how many of the constraints below a number are exceeded bounds
pub data ErrorCount (scene : Scene) (sys : System) : ℕ → ℕ → Type 0 where
  NoneBelow : ErrorCount scene sys 0 0
  OneHolds : (number count : ℕ) → ErrorCount scene sys number count → (IsOver scene sys number → ⊥)
      → ErrorCount scene sys (number + 1) count
  OneExceeds : (number count : ℕ) → ErrorCount scene sys number count → IsOver scene sys number
      → ErrorCount scene sys (number + 1) (count + 1)

-- The rejected report: the program has no assignment at some call depth, and each exceeded bound has its error.
pub record IsRejectedReport (scene : Scene) (sys : System) (text : List ℕ) : Type 0 where
  pub rejected : IsAccepted sys (orders_of scene.lattices) → ⊥
  pub errors : List ℕ
  pub listed : Errors scene sys (length sys.constraints) errors
  pub spelled : text ≡ line (codes "rejected") ++ errors

-- whether a program is accepted, with its report
pub data IsJudged (scene : Scene) (sys : System) : Bool → List ℕ → Type 0 where
  JudgedAccepted : (text : List ℕ) → IsAcceptedReport scene sys text → IsJudged scene sys true text
  JudgedRejected : (text : List ℕ) → IsRejectedReport scene sys text → IsJudged scene sys false text

-- The same, with the annotated source of a unit behind an accepted report, where it is asked for.
pub data IsJudgedWith (scene : Scene) (sys : System) (unit : Option ℕ) : Bool → List ℕ → Type 0 where
  AcceptedWith : (text report : List ℕ) (is : IsAcceptedReport scene sys report)
      → text ≡ report ++ annotation scene unit is.listings →
      IsJudgedWith scene sys unit true text
  RejectedWith : (text : List ℕ) → IsRejectedReport scene sys text → IsJudgedWith scene sys unit false text
