-- Operands and operators that wait for their right operands, and how they are joined.
use Rattle.std.specs.Prelude.{ℕ, ◌≤◌, nat_le, if◌then◌else◌}
use Rattle.c_tree.specs.Tree.{Expr, operation, Operator}
use Rattle.c_tree.specs.Levels.{IsOperator, expr_level, operator_level, left_level, right_level}
use Rattle.c_ops.specs.Operations.{IsLevelled}

-- a left operand with its operator
pub record Left : Type 0 where
  pub tree : Expr
  pub operator : Operator
  pub token : ℕ

-- left operands that wait, the newest outside
pub data Stack : Type 0 where
  bottom : Stack
  above : Stack → Left → Stack

-- the tree where a last operand ends the list
abbrev pub finished : Stack → Expr → Expr
finished bottom e = e
finished (above s l) e = finished s (operation l.tree l.operator l.token e)

-- whether a tree of a level can be the right operand of the newest
abbrev pub Accepts : Stack → ℕ → Type 0
Accepts bottom n = Unit {0}
Accepts (above s l) n = right_level l.operator ≤ n

-- left operands that still wait, and the last operand, into which the others were joined
pub record Settled : Type 0 where
  pub below : Stack
  pub last : Expr

-- what is joined before an operator of a level comes
abbrev pub settle_of : ℕ → Stack → Expr → Settled
settle_of n bottom e = record { below = bottom; last = e }
settle_of n (above s l) e =
    if nat_le (right_level l.operator) n then record { below = above s l; last = e }
    else settle_of n s (operation l.tree l.operator l.token e)

-- each left operand waits at an operator of the precedence table
abbrev pub AreOperators : Stack → Type 0
AreOperators bottom = Unit {0}
AreOperators (above s l) = AreOperators s × IsOperator l.operator

-- each waiting operand has the level that its operator asks for, and each operator that which the one below asks for
abbrev pub IsStack : Stack → Type 0
IsStack bottom = Unit {0}
IsStack (above s l) =
    IsStack s × IsLevelled l.tree × IsOperator l.operator × (left_level l.operator ≤ expr_level l.tree)
    × Accepts s (operator_level l.operator)
