-- Steps that lead from what a search goes out from to a goal, walks, and sub-paths that are asked for.
use Rattle.std.specs.Prelude.{◌≡◌, ℕ, List, ◌∷◌, slice_get, Option, Some, None}
use Rattle.flow_graph.specs.declared.constraint.Link.TheVariants.{Const}
use Rattle.flow_graph.specs.declared.phase.Phase.TheVariants.{First}
use Rattle.flow_graph.specs.declared.proof.PathStep.{PathStep}
use Rattle.flow_graph.specs.declared.proof.PathStep.TheVariants.{Take, Sub}
use Rattle.flow_graph.specs.declared.proof.Walk.{Walk}
use Rattle.flow_graph.specs.declared.step.Seen.TheVariants.{Through}
use Rattle.flow_graph.specs.System.{System, owner_of, Stands}
use Rattle.flow_graph.specs.PathProofs.{look, span_of, steps_of, AreApart}
use Rattle.flow_graph.specs.Parts.{settled, AreSubs, Goal, Onward}
use Rattle.flow_graph.specs.Walks.{IsWalk}
use Rattle.error_path.specs.declared.search.Origin.{Origin}
use Rattle.error_path.specs.declared.search.Origin.TheVariants.{Element, Variable}

-- nothing or the sub-path of a number leads from one variable to another
abbrev pub IsJoinedBy : System → List (List PathStep) → Option ℕ → ℕ → ℕ → Type 0
IsJoinedBy sys subs None u v = u ≡ v
IsJoinedBy sys subs (Some k) u v = look sys subs (Sub k 0) ≡ Through u v

-- These steps lead from a constant of an element, which is the first of them, to a goal.
pub record FromConstant (sys : System) (lattice : ℕ) (subs : List (List PathStep)) (elem : ℕ) (goal : Goal)
    (steps : List PathStep) : Type 0 where
  pub start : ℕ
  pub from : ℕ
  pub constant : Stands sys lattice start (Const lattice elem from)
  pub rest : List PathStep
  pub onward : Onward sys lattice subs goal (settled (owner_of sys from) First) from rest
  pub steps_are : steps ≡ Take start 0 ∷ rest

-- these steps lead from what a search goes out from to a goal
abbrev pub IsTraced : System → ℕ → List (List PathStep) → Origin → Goal → List PathStep → Type 0
IsTraced sys lattice subs (Element e) goal steps = FromConstant sys lattice subs e goal steps
IsTraced sys lattice subs (Variable u) goal steps =
    Onward sys lattice subs goal (settled (owner_of sys u) First) u steps

-- A walk of a lattice from one variable to another, with the sub-paths that it names. Its lines are 0.
pub record IsWalkShown (sys : System) (lattice from to : ℕ) (shown : Walk) : Type 0 where
  pub subs : AreSubs sys lattice (steps_of shown.subs.items)
  pub walk : IsWalk sys lattice (steps_of shown.subs.items) from to shown.steps.items
  pub apart : AreApart sys (steps_of shown.subs.items)
  pub end : shown.end ≡ 0

-- a sub-path leads from one variable to another
abbrev pub HasSub : System → List (List PathStep) → ℕ → ℕ → Type 0
HasSub sys subs u v = (n : ℕ) × (span_of sys (slice_get subs n) ≡ Through u v)
