-- When a walk holds: a main path from one variable to another, without a constant and a bound.
use Rattle.std.specs.Prelude.{◌≡◌, ℕ, List, [], ◌∷◌, map, Option, Some, None, if◌then◌else◌}
use Rattle.qual_base.specs.declared.places.Span.{Span}
use Rattle.flow_graph.specs.declared.constraint.Link.TheVariants.{Const}
use Rattle.flow_graph.specs.declared.constraint.Constraint.{Constraint}
use Rattle.flow_graph.specs.declared.proof.PathStep.{PathStep}
use Rattle.flow_graph.specs.declared.proof.Why.{Why}
use Rattle.flow_graph.specs.declared.proof.Why.TheVariants.{B1, B2}
use Rattle.flow_graph.specs.declared.proof.BadStep.{BadStep}
use Rattle.flow_graph.specs.declared.proof.Walk.{Walk}
use Rattle.flow_graph.specs.declared.phase.Phase.TheVariants.{First}
use Rattle.flow_graph.specs.declared.step.Seen.{Seen}
use Rattle.flow_graph.specs.declared.step.Seen.TheVariants.{Edge}
use Rattle.flow_graph.specs.declared.step.Path.TheVariants.{Main}
use Rattle.flow_graph.specs.declared.step.StepInPath.{StepInPath}
use Rattle.flow_graph.specs.System.{System, owner_of}
use Rattle.flow_graph.specs.PathRules.{agree, ends, is_bound, rule_at}
use Rattle.flow_graph.specs.PathProofs.{edge_at, fault_or, last_of, line_of, look, no_order, or_else, in_path, steps_of, subs_fault}
use Rattle.flow_graph.specs.Parts.{Onward, ToVariable, settled}

-- These steps are a walk from one variable to another: parts, Leaves as long as no call is open, and Enters.
abbrev pub IsWalk : System → ℕ → List (List PathStep) → ℕ → ℕ → List PathStep → Type 0
IsWalk sys lattice subs from to steps =
    Onward sys lattice subs (ToVariable to) (settled (owner_of sys from) First) from steps

-- A walk stands behind a constant to its first variable, which it does not name. (Its element and its span play no
-- part.)
abbrev pub no_span : Span
no_span = record { unit = 0; from = 0; to = 0 }

-- the constant that stands before a walk
abbrev pub constant_to : ℕ → ℕ → Constraint
constant_to lattice from = record { link = Const lattice 0 from; lattices = 0; span = no_span }

-- the first rule that fails at a step of a walk, where no bound may stand, and so none that keeps an element
abbrev pub walk_rule_at : System → StepInPath → Option Why
walk_rule_at sys p = if is_bound p.step then Some B1 else rule_at sys no_order p

-- the first step of a walk that fails, of those that come behind others
abbrev pub first_failing_walk : System → ℕ → (PathStep → Seen) → List Seen → List PathStep → Option BadStep
first_failing_walk sys lattice see before [] = None
first_failing_walk sys lattice see before (s ∷ steps) =
    fault_or (walk_rule_at sys (in_path sys Main lattice 0 before (see s) (map see steps))) (line_of s)
    (first_failing_walk sys lattice see (see s ∷ before) steps)

-- where a walk from a variable ends: where its last step does
abbrev pub walk_ends : System → ℕ → Option PathStep → Option ℕ
walk_ends sys from None = Some from
walk_ends sys from (Some s) = ends (edge_at sys s)

-- where a walk does not end at the variable that it should lead to, rule B2 fails at its end
abbrev pub walk_end_fault : System → ℕ → ℕ → List PathStep → ℕ → Option BadStep
walk_end_fault sys from to steps end =
    if agree (walk_ends sys from (last_of steps)) (Some to) then None else Some (record { line = end; why = B2 })

-- The first step that fails, with the first of its rules: of the sub-paths in order, of the walk, and of its end. Each
-- constraint is read in the lattice.
abbrev pub walk_fault : System → ℕ → ℕ → ℕ → List (List PathStep) → List PathStep → ℕ → Option BadStep
walk_fault sys lattice from to subs steps end =
    or_else (subs_fault sys no_order lattice 0 [] subs)
    (or_else (first_failing_walk sys lattice (look sys subs) (Edge (constant_to lattice from) ∷ []) steps)
    (walk_end_fault sys from to steps end))

-- the first step of a walk that fails, or its end
abbrev pub walk_fault_of : System → ℕ → ℕ → ℕ → Walk → Option BadStep
walk_fault_of sys lattice from to walk =
    walk_fault sys lattice from to (steps_of walk.subs.items) walk.steps.items walk.end

-- a walk holds where no step and no end fails
abbrev pub WalkHolds : System → ℕ → ℕ → ℕ → Walk → Type 0
WalkHolds sys lattice from to walk = walk_fault_of sys lattice from to walk ≡ None
