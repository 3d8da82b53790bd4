-- The parts of a check, of a path proof over lattices, or of a walk, which asks for none.
use Rattle.std.specs.Prelude.{ℕ, List, [], ◌∷◌, ◌++◌, Option, Some, None, map}
use Rattle.lattice_core.specs.Order.{Order}
use Rattle.lattice_core.specs.View.{LatticeView}
use Rattle.flow_graph.specs.declared.proof.PathStep.{PathStep}
use Rattle.flow_graph.specs.declared.proof.BadStep.{BadStep}
use Rattle.flow_graph.specs.declared.proof.Why.{Why}
use Rattle.flow_graph.specs.declared.step.Path.{Path}
use Rattle.flow_graph.specs.declared.step.Path.TheVariants.{Sub}
use Rattle.flow_graph.specs.declared.step.StepInPath.{StepInPath}
use Rattle.flow_graph.specs.declared.step.Seen.{Seen}
use Rattle.flow_graph.specs.declared.step.Seen.TheVariants.{Edge}
use Rattle.flow_graph.specs.System.{System}
use Rattle.flow_graph.specs.PathRules.{rule_at}
use Rattle.flow_graph.specs.PathProofs.{fault_or, home_of, line_of, look, no_order, or_else, in_path}
use Rattle.flow_graph.specs.Walks.{constant_to, walk_rule_at}
use Rattle.path_checker.specs.Orders.{order_at}

-- the order of a lattice; with no lattices nothing is at or below anything
abbrev pub order_for : Option (List LatticeView) → ℕ → Order
order_for (Some lattices) number = order_at lattices number
order_for None number = no_order

-- the first rule that fails at a step
abbrev pub rule_for : System → Option (List LatticeView) → StepInPath → Option Why
rule_for sys (Some lattices) p = rule_at sys (order_at lattices p.lattice) p
rule_for sys None p = walk_rule_at sys p

-- what stands before the first step, the last one first: nothing, or a constant to the first variable of a walk
abbrev pub behind : ℕ → Option ℕ → List Seen
behind lattice None = []
behind lattice (Some from) = Edge (constant_to lattice from) ∷ []

-- the first step of a path that fails, of those that come behind others
abbrev pub faults_for : System → Option (List LatticeView) → Path → ℕ → ℕ → (PathStep → Seen) → List Seen
    → List PathStep → Option BadStep
faults_for sys lattices path lattice elem see before [] = None
faults_for sys lattices path lattice elem see before (s ∷ steps) =
    fault_or (rule_for sys lattices (in_path sys path lattice elem before (see s) (map see steps))) (line_of s)
    (faults_for sys lattices path lattice elem see (see s ∷ before) steps)

-- the first step that fails of sub-paths that come behind earlier ones
abbrev pub subs_faults_for : System → Option (List LatticeView) → ℕ → ℕ → List (List PathStep) → List (List PathStep)
    → Option BadStep
subs_faults_for sys lattices lattice elem earlier [] = None
subs_faults_for sys lattices lattice elem earlier (s ∷ subs) =
    or_else (faults_for sys lattices (Sub (home_of sys s)) lattice elem (look sys earlier) [] s)
    (subs_faults_for sys lattices lattice elem (earlier ++ s ∷ []) subs)
