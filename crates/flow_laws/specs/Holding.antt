-- What a path proof that holds shows.
use Rattle.std.specs.Prelude.{◌≡◌, ℕ, ◌+◌, ◌≤◌, false, List, [], ◌∷◌, length, slice_get, Some}
use Rattle.lattice_core.specs.Order.{Order, leq, IsOrder}
use Rattle.flow_graph.specs.declared.constraint.Link.TheVariants.{Bound}
use Rattle.flow_graph.specs.declared.proof.PathStep.{PathStep}
use Rattle.flow_graph.specs.declared.proof.PathStep.TheVariants.{Take}
use Rattle.flow_graph.specs.declared.proof.PathProof.{PathProof}
use Rattle.flow_graph.specs.System.{System, Stands, IsWellOwned}
use Rattle.flow_graph.specs.Unfolding.{Assignment, Meets, NamesElements, IsExceeded, IsAccepted}
use Rattle.flow_graph.specs.Paths.{Lead}
use Rattle.flow_graph.specs.PathProofs.{Holds, steps_of, last_of}
use Rattle.flow_laws.specs.Rejected.{InEach}

-- the last step of a path takes a bound of a lattice of the list, to which a constant leads that is not at or below it
pub record LeadsToBound (sys : System) (orders : List Order) (main : List PathStep) : Type 0 where
  pub lattice : ℕ
  pub order : Order
  pub there : slice_get orders lattice ≡ Some order
  pub element : ℕ
  pub var : ℕ
  pub lead : Lead sys lattice element var
  pub number : ℕ
  pub bound_element : ℕ
  pub bound : Stands sys lattice number (Bound var lattice bound_element)
  pub over : leq order element bound_element ≡ false
  pub line : ℕ
  pub last : last_of main ≡ Some (Take number line)

-- the last step of a path takes a bound that is exceeded in a lattice of the list
pub record EndsInExceeded (sys : System) (orders : List Order) (main : List PathStep) : Type 0 where
  pub lattice : ℕ
  pub order : Order
  pub there : slice_get orders lattice ≡ Some order
  pub number : ℕ
  pub line : ℕ
  pub last : last_of main ≡ Some (Take number line)
  pub exceeded : IsExceeded sys lattice order number

-- In a well owned system whose constants name elements, a path proof that holds leads from a constant to the bound that
-- it ends in.
abbrev pub HoldsLeads : Type 0
HoldsLeads =
    (sys : System) (orders : List Order) (proof : PathProof) → IsWellOwned sys → NamesElements sys orders
    → Holds sys orders proof →
    LeadsToBound sys orders proof.main.items

-- And that bound is exceeded.
abbrev pub HoldsRefutes : Type 0
HoldsRefutes = (sys : System) (orders : List Order) (proof : PathProof) → IsWellOwned sys → NamesElements sys orders →
    InEach orders (λ lattice order. IsOrder order) →
    Holds sys orders proof → EndsInExceeded sys orders proof.main.items

-- the steps of several paths
abbrev pub steps_in : List (List PathStep) → ℕ
steps_in [] = 0
steps_in (steps ∷ paths) = length steps + steps_in paths

-- the steps of the main path and of all sub-paths
abbrev pub steps_in_proof : PathProof → ℕ
steps_in_proof proof = length proof.main.items + steps_in (steps_of proof.subs.items)

-- It is exceeded at a depth of at most that many.
abbrev pub HoldsRefutesWithin : Type 0
HoldsRefutesWithin =
    (sys : System) (orders : List Order) (proof : PathProof) → IsWellOwned sys → NamesElements sys orders →
    InEach orders (λ lattice order. IsOrder order) →
    Holds sys orders proof → (ends : EndsInExceeded sys orders proof.main.items)
    × (ends.exceeded.depth ≤ steps_in_proof proof)

-- in some lattice of the list no assignment meets the unfolding at a depth of at most this
pub record IsUnmetWithin (sys : System) (orders : List Order) (most : ℕ) : Type 0 where
  pub lattice : ℕ
  pub order : Order
  pub there : slice_get orders lattice ≡ Some order
  pub depth : ℕ
  pub low : depth ≤ most
  pub unmet : (map : Assignment) → Meets sys lattice order depth map → ⊥

-- So the unfolding is not met at a depth of at most that many.
abbrev pub HoldsIsUnmet : Type 0
HoldsIsUnmet = (sys : System) (orders : List Order) (proof : PathProof) → IsWellOwned sys → NamesElements sys orders →
    InEach orders (λ lattice order. IsOrder order) →
    Holds sys orders proof → IsUnmetWithin sys orders (steps_in_proof proof)

-- A program of which a path proof holds is not accepted.
abbrev pub HoldsRejects : Type 0
HoldsRejects = (sys : System) (orders : List Order) (proof : PathProof) → IsWellOwned sys → NamesElements sys orders →
    InEach orders (λ lattice order. IsOrder order) →
    Holds sys orders proof → IsAccepted sys orders → ⊥
