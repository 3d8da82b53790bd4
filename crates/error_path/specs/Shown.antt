-- What is promised of a path proof that is made.
use Rattle.std.specs.Prelude.{◌≡◌, ℕ, List, [], ◌∷◌, slice_get, Some}
use Rattle.lattice_core.specs.Order.{Order}
use Rattle.lattice_core.specs.View.{LatticeView}
use Rattle.flow_graph.specs.declared.constraint.Link.TheVariants.{Const}
use Rattle.flow_graph.specs.declared.proof.PathStep.{PathStep}
use Rattle.flow_graph.specs.declared.proof.PathStep.TheVariants.{Take}
use Rattle.flow_graph.specs.declared.proof.PathProof.{PathProof}
use Rattle.flow_graph.specs.System.{System, Stands}
use Rattle.flow_graph.specs.PathProofs.{first_of, last_of, line_of, steps_of, AreApart}
use Rattle.lattice_solver.specs.Solution.{Solution, Exceeds}
use Rattle.flow_graph.specs.Parts.{AreSubs, IsPath}

-- this holds of the order of a lattice of the list
abbrev pub InLattice : List LatticeView → ℕ → (Order → Type 0) → Type 0
InLattice lattices number Is = (lattice : LatticeView) → slice_get lattices number ≡ Some lattice → Is lattice.order

-- some element exceeds the bound
abbrev pub IsExceededBySome : System → Solution → Order → ℕ → Type 0
IsExceededBySome sys solution order bound = (element : ℕ) × Exceeds sys solution order bound element

-- the last step takes the bound
abbrev pub EndsWith : ℕ → PathProof → Type 0
EndsWith bound proof = last_of proof.main.items ≡ Some (Take bound 0)

-- the first step takes a constant of an element that exceeds the bound
pub record BeginsOver (sys : System) (solution : Solution) (order : Order) (bound : ℕ)
    (proof : PathProof) : Type 0 where
  pub element : ℕ
  pub exceeds : Exceeds sys solution order bound element
  pub number : ℕ
  pub var : ℕ
  pub constant : Stands sys solution.lattice number (Const solution.lattice element var)
  pub first : first_of proof.main.items ≡ Some (Take number 0)

-- the lines of these steps are 0
abbrev pub HaveNoLines : List PathStep → Type 0
HaveNoLines [] = Unit {0}
HaveNoLines (s ∷ steps) = (line_of s ≡ 0) × HaveNoLines steps

-- all lines are 0
pub record HasNoLines (proof : PathProof) : Type 0 where
  pub main : HaveNoLines proof.main.items
  pub subs : (n : ℕ) (steps : List PathStep) → slice_get (steps_of proof.subs.items) n ≡ Some steps → HaveNoLines steps
  pub end : proof.end ≡ 0

-- A path of a lattice from a constant of an element to a bound, with the sub-paths that it names.
pub record IsShown (sys : System) (lattice elem bound : ℕ) (proof : PathProof) : Type 0 where
  pub subs : AreSubs sys lattice (steps_of proof.subs.items)
  pub path : IsPath sys lattice (steps_of proof.subs.items) elem bound proof.main.items
  pub apart : AreApart sys (steps_of proof.subs.items)
  pub end : proof.end ≡ 0
