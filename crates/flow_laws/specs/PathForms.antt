-- The forms of path proofs, without the lines that their steps were read from.
use Rattle.std.specs.Prelude.{◌≡◌, ℕ, false, List, [], ◌∷◌, ◌++◌, map, slice_get, Some, unwrap_or, ◌↔◌}
use Rattle.lattice_core.specs.Order.{Order, leq}
use Rattle.flow_graph.specs.declared.constraint.Link.TheVariants.{Bound}
use Rattle.flow_graph.specs.declared.proof.PathStep.{PathStep}
use Rattle.flow_graph.specs.declared.proof.PathStep.TheVariants.{Take, Sub}
use Rattle.flow_graph.specs.declared.proof.PathProof.{PathProof}
use Rattle.flow_graph.specs.System.{System, Stands}
use Rattle.flow_graph.specs.Unfolding.{NamesElements}
use Rattle.flow_graph.specs.PathProofs.{steps_of, no_order, Holds}
use Rattle.flow_graph.specs.Parts.{IsSub, AreSubs, IsPath}

-- a step as one that was read from no line
abbrev pub without_line : PathStep → PathStep
without_line (Take edge line) = Take edge 0
without_line (Sub number line) = Sub number 0

-- steps as those that were read from no line
abbrev pub without_lines : List PathStep → List PathStep
without_lines steps = map without_line steps

-- Each of these has no step, or is a sub-path that names only earlier ones.
pub data AreSubPaths (sys : System) (lattice : ℕ) : List (List PathStep) → Type 0 where
  NoPaths : AreSubPaths sys lattice []
  NoSteps : (subs : List (List PathStep)) → AreSubPaths sys lattice subs → AreSubPaths sys lattice (subs ++ [] ∷ [])
  Stepped : (subs : List (List PathStep)) (u v : ℕ) (steps : List PathStep) → AreSubPaths sys lattice subs
      → IsSub sys lattice subs u v steps →
      AreSubPaths sys lattice (subs ++ steps ∷ [])

-- These are sub-paths, and the main path leads from a constant to a bound which the constant's element is not at or
-- below.
pub record LeadsOver (sys : System) (lattice : ℕ) (order : Order) (subs : List (List PathStep))
    (main : List PathStep) : Type 0 where
  pub sub_paths : AreSubPaths sys lattice subs
  pub element : ℕ
  pub bound : ℕ
  pub path : IsPath sys lattice subs element bound main
  pub over : (v limit : ℕ) → Stands sys lattice bound (Bound v lattice limit) → leq order element limit ≡ false

-- a path proof does so in a lattice
abbrev pub ShowsIn : System → ℕ → Order → PathProof → Type 0
ShowsIn sys lattice order proof =
    LeadsOver sys lattice order (map without_lines (steps_of proof.subs.items)) (without_lines proof.main.items)

-- A path proof does so in a lattice of the list.
pub record Shows (sys : System) (orders : List Order) (proof : PathProof) : Type 0 where
  pub lattice : ℕ
  pub order : Order
  pub there : slice_get orders lattice ≡ Some order
  pub shown : ShowsIn sys lattice order proof

-- Sub-paths that all have steps are such.
abbrev pub SubsAreSubPaths : Type 0
SubsAreSubPaths =
    (sys : System) (lattice : ℕ) (subs : List (List PathStep)) → AreSubs sys lattice subs → AreSubPaths sys lattice subs

-- A path proof of this form in a lattice of the list holds.
abbrev pub ShownHolds : Type 0
ShownHolds = (sys : System) (orders : List Order) (proof : PathProof) → Shows sys orders proof → Holds sys orders proof

-- Where the constants name elements of lattices, a path proof holds exactly where it has this form.
abbrev pub HoldsExactly : Type 0
HoldsExactly =
    (sys : System) (orders : List Order) (proof : PathProof) → NamesElements sys orders
    → Holds sys orders proof ↔ Shows sys orders proof

-- It does so whatever they name, where in no lattice past the list anything is at or below anything.
abbrev pub HoldsInSome : Type 0
HoldsInSome = (sys : System) (orders : List Order) (proof : PathProof) →
    Holds sys orders proof ↔ ((lattice : ℕ) × ShowsIn sys lattice (unwrap_or (slice_get orders lattice) no_order) proof)
