-- Facts that have one proof at most.
use Rattle.std.specs.Prelude.{true}
use Rattle.std.specs.Coded.{Unit-prop, le_prop, Coded-set, coded_bool}
use Rattle.c_tree.specs.Tree.{Operator, comma, assign, cond, binary}
use Rattle.c_tree.specs.Levels.{IsOperator, is_assignment}

-- an operator is one of the table in one way at most
pub IsOperator-prop : (op : Operator) → IsProp (IsOperator op)
IsOperator-prop comma = Unit-prop
IsOperator-prop (assign p) = Coded-set coded_bool (is_assignment p) true
IsOperator-prop (cond middle colon) = Unit-prop
IsOperator-prop (binary p) = le_prop
