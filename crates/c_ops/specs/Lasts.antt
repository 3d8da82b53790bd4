-- How a list of operands and operators ends.
use Rattle.std.specs.Prelude.{List, [], ◌∷◌, Option, Some}
use Rattle.c_tree.specs.Tree.{Expr, Operator}
use Rattle.c_ops.specs.Operations.{Entry}

-- the last operand of a list
abbrev pub last_of : Expr → List Entry → Expr
last_of e [] = e
last_of e (x ∷ k) = last_of x.operand k

-- the operator before the last operand, or this one where the list has no other
abbrev pub operator_before : Option Operator → List Entry → Option Operator
operator_before before [] = before
operator_before before (x ∷ k) = operator_before (Some x.operator) k
