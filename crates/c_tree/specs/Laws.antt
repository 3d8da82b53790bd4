-- Laws of the precedence table.
use Rattle.std.specs.Prelude.{◌≤◌, ◌<◌, ◌⊎◌}
use Rattle.c_tree.specs.Tree.{Operator}
use Rattle.c_tree.specs.Levels.{IsOperator, operator_level, left_level, right_level}

-- no operand of an operator holds together less tightly than the operator with its operands, and one holds tighter
abbrev pub OperandsHoldTighter : Type 0
OperandsHoldTighter = (op : Operator) → IsOperator op →
    (operator_level op ≤ left_level op) × (operator_level op ≤ right_level op)
    × ((operator_level op < left_level op) ⊎ (operator_level op < right_level op))
