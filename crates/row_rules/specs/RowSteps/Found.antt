-- The constraints that a tape gives, in the order of its ops.
use Rattle.std.specs.Prelude.{List, [], ◌∷◌, ◌++◌}
use Rattle.flow_graph.specs.declared.constraint.Constraint.{Constraint}
use Rattle.tape_ops.specs.declared.op.Op.{Op}
use Rattle.row_rules.specs.Worlds.{World}
use Rattle.row_rules.specs.RowSteps.State.{State, nothing}
use Rattle.row_rules.specs.RowSteps.Steps.{step}
use Rattle.row_rules.specs.RowSteps.OpRows.{op_row}

-- the constraints of the ops of a tape in their order, from this state on
abbrev pub rows_found : World → State → List Op → List Constraint
rows_found w st [] = []
rows_found w st (op ∷ tape) = op_row w st op ++ rows_found w (step w st op) tape

-- the constraints that the tape of a unit gives
abbrev pub unit_rows : World → List Op → List Constraint
unit_rows w tape = rows_found w nothing tape
