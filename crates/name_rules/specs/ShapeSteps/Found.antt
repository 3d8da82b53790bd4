-- What is found on a tape: its faults, in the order of its ops, and the shape that is on top behind each op.
use Rattle.std.specs.Prelude.{List, [], ◌∷◌, ◌++◌}
use Rattle.tape_ops.specs.declared.op.Op.{Op}
use Rattle.name_rules.specs.Spellings.{Spelling}
use Rattle.name_rules.specs.Faults.{Fault}
use Rattle.name_rules.specs.Scopes.{Names}
use Rattle.name_rules.specs.Values.{Shape}
use Rattle.name_rules.specs.ShapeSteps.State.{State, shape_at}
use Rattle.name_rules.specs.ShapeSteps.Steps.{step}
use Rattle.name_rules.specs.ShapeSteps.OpFaults.{op_faults}

-- the faults of the ops of a tape in their order, from this state on
abbrev pub faults_found : Spelling → Names → State → List Op → List Fault
faults_found u s st [] = []
faults_found u s st (op ∷ tape) = op_faults u s st op ++ faults_found u s (step u s st op) tape

-- the operand on top behind each op of a tape: behind the last op of an expression, what that is
abbrev pub shapes_found : Spelling → Names → State → List Op → List Shape
shapes_found u s st [] = []
shapes_found u s st (op ∷ tape) = shape_at 0 (step u s st op) ∷ shapes_found u s (step u s st op) tape
