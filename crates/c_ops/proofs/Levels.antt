-- What the precedence table says of any two operators.
use Rattle.std.proofs.Common.{◌≡◌, ℕ, ◌≤◌, ◌<◌, false, List, refl, arith}
use Rattle.std.specs.Prelude.{nat_le}
use Rattle.std.proofs.Common.{inl, inr}
use Rattle.std.proofs.lemmas.Bool.Decides.{leb_tells}
use Rattle.c_words.specs.declared.kinds.Punct.{Punct}
use Rattle.c_words.specs.declared.kinds.Punct.TheVariants.{BarBar, AmpersandAmpersand, Bar, Caret, Ampersand, EqualEqual, BangEqual, Less, Greater, LessEqual, GreaterEqual, ShiftLeft, ShiftRight, Plus, Minus, Star, Slash, Percent}
use Rattle.c_tree.specs.Tree.{Expr, operation, cast, Operator, comma, assign, cond, binary}
use Rattle.c_tree.specs.Levels.{binary_level, IsOperator, expr_level, operator_level, left_level, right_level}
use Rattle.c_ops.specs.Operations.{IsLevelled, is_assign, Entry, in_order}

pub not_le : (a b : ℕ) → b < a → nat_le a b ≡ false
not_le a b h = elim (leb_tells a b) [ inl t ↦ absurd (omega (arith, t.1)) | inr t ↦ t.0 ]

-- the level of a binary operator is at most 10
pub binary_most : (p : Punct) → binary_level p ≤ 10
binary_most BarBar = omega arith
binary_most AmpersandAmpersand = omega arith
binary_most Bar = omega arith
binary_most Caret = omega arith
binary_most Ampersand = omega arith
binary_most EqualEqual = omega arith
binary_most BangEqual = omega arith
binary_most Less = omega arith
binary_most Greater = omega arith
binary_most LessEqual = omega arith
binary_most GreaterEqual = omega arith
binary_most ShiftLeft = omega arith
binary_most ShiftRight = omega arith
binary_most Plus = omega arith
binary_most Minus = omega arith
binary_most Star = omega arith
binary_most Slash = omega arith
binary_most Percent = omega arith
binary_most _ = omega arith

-- the level of an operator is at most 12
pub level_most : (op : Operator) → operator_level op ≤ 12
level_most comma = omega arith
level_most (assign p) = omega arith
level_most (cond middle colon) = omega arith
level_most (binary p) = omega (arith, binary_most p)

-- the level that an operator asks for on its right is at most 13
pub right_most : (op : Operator) → right_level op ≤ 13
right_most comma = omega arith
right_most (assign p) = omega arith
right_most (cond middle colon) = omega arith
right_most (binary p) = omega (arith, binary_most p)

-- the level that an operator asks for on its right is at least 1
pub right_least : (op : Operator) → 1 ≤ right_level op
right_least comma = omega arith
right_least (assign p) = omega arith
right_least (cond middle colon) = omega arith
right_least (binary p) = omega arith

-- the level that an operator other than an assignment asks for on its left is at most 13
pub left_most : (op : Operator) → is_assign op ≡ false → left_level op ≤ 13
left_most comma h = omega arith
left_most (assign p) h = absurd cc
left_most (cond middle colon) h = omega arith
left_most (binary p) h = omega (arith, binary_most p)

-- no operator asks for less on its left than it is itself
pub level_left : (op : Operator) → operator_level op ≤ left_level op
level_left comma = omega arith
level_left (assign p) = omega arith
level_left (cond middle colon) = omega arith
level_left (binary p) = omega arith

-- no operator asks for less on its right than it is itself
pub level_right : (op : Operator) → operator_level op ≤ right_level op
level_right comma = omega arith
level_right (assign p) = omega arith
level_right (cond middle colon) = omega arith
level_right (binary p) = omega arith

-- an operator that takes another with its operands on its left ends the other's right operand
pub ends_right : (op next : Operator) → IsOperator next → left_level next ≤ operator_level op
    → operator_level next < right_level op
ends_right comma comma i h = omega arith
ends_right comma (assign q) i h = omega arith
ends_right comma (cond m c) i h = omega arith
ends_right comma (binary q) i h = omega arith
ends_right (assign p) comma i h = omega arith
ends_right (assign p) (assign q) i h = omega arith
ends_right (assign p) (cond m c) i h = omega arith
ends_right (assign p) (binary q) i h = omega arith
ends_right (cond n d) comma i h = omega arith
ends_right (cond n d) (assign q) i h = omega arith
ends_right (cond n d) (cond m c) i h = omega arith
ends_right (cond n d) (binary q) i h = omega arith
ends_right (binary p) comma i h = omega arith
ends_right (binary p) (assign q) i h = omega arith
ends_right (binary p) (cond m c) i h = omega arith
ends_right (binary p) (binary q) i h = omega arith

-- an operator that ends another's right operand can take that with its operands on its left, unless it assigns
pub takes_left : (op next : Operator) → IsOperator op → is_assign next ≡ false → operator_level next < right_level op
    → left_level next ≤ operator_level op
takes_left op comma i a h = omega arith
takes_left op (assign q) i a h = absurd cc
takes_left comma (cond m c) i a h = omega arith
takes_left (assign p) (cond m c) i a h = omega arith
takes_left (cond n d) (cond m c) i a h = omega arith
takes_left (binary p) (cond m c) i a h = omega arith
takes_left comma (binary q) i a h = omega arith
takes_left (assign p) (binary q) i a h = omega arith
takes_left (cond n d) (binary q) i a h = omega arith
takes_left (binary p) (binary q) i a h = omega arith

-- an operand, which is at least a cast, is no operator
pub leaf_levelled : (e : Expr) → 13 ≤ expr_level e → IsLevelled e
leaf_levelled (operation e op t f) h = absurd (omega (arith, level_most op))
leaf_levelled (cast a b c d e) h = tt
leaf_levelled _ h = tt

-- an expression of level 13 at least is one operand, before the others of a list
pub in_order-leaf : (e : Expr) (k : List Entry) → 13 ≤ expr_level e → in_order e k ≡ record { first = e; rest = k }
in_order-leaf (operation e op t f) k h = absurd (omega (arith, level_most op))
in_order-leaf (cast a b c d e) k h = refl
in_order-leaf _ k h = refl
