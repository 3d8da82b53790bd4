-- Which lists have a tree.
use Rattle.std.specs.Prelude.{◌≡◌, ℕ, ◌≤◌, List, [], ◌∷◌, None, Some}
use Rattle.c_tree.specs.Tree.{Expr}
use Rattle.c_tree.specs.Levels.{IsOperator, expr_level, operator_level}
use Rattle.c_ops.specs.Operations.{Entry, Operations, IsTreeOf, bad_target}
use Rattle.c_ops.specs.Joining.{Stack, bottom, above, Settled, settle_of, finished}

-- an operator of the table, and behind it an operand that is at least a cast
abbrev pub IsOperand : Entry → Type 0
IsOperand x = IsOperator x.operator × (13 ≤ expr_level x.operand)

-- operators of the table, each with an operand that is at least a cast
abbrev pub AllOperands : List Entry → Type 0
AllOperands [] = Unit {0}
AllOperands (x ∷ k) = IsOperand x × AllOperands k

-- a list whose operands are casts or forms that hold together more tightly, with operators of the table
pub record AreOperands (list : Operations) : Type 0 where
  pub first : 13 ≤ expr_level list.first
  pub rest : AllOperands list.rest

-- the tree of a list by the precedence table, which has no other
pub record IsTheTreeOf (list : Operations) (tree : Expr) : Type 0 where
  pub tree_of : IsTreeOf list tree
  pub only : (other : Expr) → IsTreeOf list other → other ≡ tree

-- what waits where an operator has joined what it ends
abbrev pub waits_after : Entry → Settled → Stack
waits_after x r = above r.below (record { tree = r.last; operator = x.operator; token = x.token })

-- the tree where more operators and operands come behind operands that wait
abbrev pub tree_from : Stack → Expr → List Entry → Expr
tree_from s e [] = finished s e
tree_from s e (x ∷ k) = tree_from (waits_after x (settle_of (operator_level x.operator) s e)) x.operand k

-- the tree of a list that has one
abbrev pub the_tree : Operations → Expr
the_tree list = tree_from bottom list.first list.rest

-- a list whose assignments all have a unary form on their left has a tree
abbrev pub HasItsTree : Type 0
HasItsTree = (list : Operations) → AreOperands list → bad_target list ≡ None → IsTheTreeOf list (the_tree list)

-- a list with another assignment has none
abbrev pub HasNoTree : Type 0
HasNoTree = (list : Operations) (token : ℕ) → bad_target list ≡ Some token → (tree : Expr) → IsTreeOf list tree → ⊥
