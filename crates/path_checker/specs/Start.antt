-- The parts of a check.
use Rattle.std.specs.Prelude.{ℕ, List, [], Option, None, map}
use Rattle.lattice_core.specs.Order.{Order}
use Rattle.flow_graph.specs.declared.proof.PathStep.{PathStep}
use Rattle.flow_graph.specs.declared.proof.BadStep.{BadStep}
use Rattle.flow_graph.specs.declared.step.Path.TheVariants.{Main}
use Rattle.flow_graph.specs.System.{System}
use Rattle.flow_graph.specs.PathRules.{rule_at}
use Rattle.flow_graph.specs.PathProofs.{fault_or, line_of, look, in_path}

-- what the first step of a main path fails, by itself
abbrev pub start_fault : System → Order → ℕ → ℕ → List (List PathStep) → PathStep → List PathStep → Option BadStep
start_fault sys order lattice elem subs first rest =
    fault_or (rule_at sys order (in_path sys Main lattice elem [] (look sys subs first) (map (look sys subs) rest)))
    (line_of first) None
