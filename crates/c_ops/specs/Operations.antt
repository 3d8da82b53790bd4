-- Lists of operands and operators, and the trees of such a list.
use Rattle.std.specs.Prelude.{◌≡◌, ℕ, ◌≤◌, nat_le, Bool, true, false, ◌&&◌, not, List, [], ◌∷◌, ◌++◌, Option, None, Some, if◌then◌else◌}
use Rattle.c_tree.specs.Tree.{Expr, operation, Operator, comma, assign}
use Rattle.c_tree.specs.Levels.{IsOperator, expr_level, left_level, right_level}

-- an operator, its token, and the operand behind it
pub record Entry : Type 0 where
  pub operator : Operator
  pub token : ℕ
  pub operand : Expr

-- a first operand, and operators each with the operand behind it
pub record Operations : Type 0 where
  pub first : Expr
  pub rest : List Entry

-- a list with more behind it
abbrev pub appended : Operations → List Entry → Operations
appended list k = record { first = list.first; rest = list.rest ++ k }

-- an operator before a list
abbrev pub joined : Operator → ℕ → Operations → List Entry
joined op token list = record { operator = op; token = token; operand = list.first } ∷ list.rest

-- the operands and operators of a tree, from left to right, before others
abbrev pub in_order : Expr → List Entry → Operations
in_order (operation e op token e2) k = in_order e (joined op token (in_order e2 k))
in_order e k = record { first = e; rest = k }

-- each operator stands between operands of the levels that the precedence table asks for
abbrev pub IsLevelled : Expr → Type 0
IsLevelled (operation e op token e2) =
    IsLevelled e × IsLevelled e2 × IsOperator op × (left_level op ≤ expr_level e) × (right_level op ≤ expr_level e2)
IsLevelled _ = Unit {0}

-- a tree of a list, by the precedence table
pub record IsTreeOf (list : Operations) (tree : Expr) : Type 0 where
  pub same : in_order tree [] ≡ list
  pub levelled : IsLevelled tree

-- whether an operator assigns
abbrev pub is_assign : Operator → Bool
is_assign (assign p) = true
is_assign _ = false

-- an assignment to what is no unary form
abbrev pub is_untargeted : Operator → Expr → Bool
is_untargeted op e = is_assign op && not (nat_le 14 (expr_level e))

-- whether the operand behind such an operator, or behind none, begins a left side of an assignment: only a comma or
-- an assignment stands before one
abbrev pub begins_side : Option Operator → Bool
begins_side None = true
begins_side (Some comma) = true
begins_side (Some (assign p)) = true
begins_side (Some _) = false

-- an assignment whose left side, what stands since the last comma or assignment, is not one unary form
abbrev pub is_bad : Option Operator → Expr → Operator → Bool
is_bad before operand op = is_assign op && not (begins_side before && nat_le 14 (expr_level operand))

-- the token of the first such assignment behind an operand, and the operator before that
abbrev pub first_bad : Option Operator → Expr → List Entry → Option ℕ
first_bad before operand [] = None
first_bad before operand (x ∷ k) =
    if is_bad before operand x.operator then Some x.token else first_bad (Some x.operator) x.operand k

-- the token of the first assignment of a list whose left side is no unary form, if any
abbrev pub bad_target : Operations → Option ℕ
bad_target list = first_bad None list.first list.rest

-- no list has two trees
abbrev pub HasOneTree : Type 0
HasOneTree = (list : Operations) (e f : Expr) → IsTreeOf list e → IsTreeOf list f → e ≡ f
