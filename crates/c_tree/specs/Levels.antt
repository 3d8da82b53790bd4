-- The precedence table (C99, 6.5): how tightly each expression holds together, and how tightly its operands must.
--
-- 0 a comma, 1 an assignment, 2 a conditional, 3 to 12 the binary operators from `||` to `*`, 13 a cast, 14 a unary
-- form, 15 a postfix form, 16 a primary expression.
use Rattle.std.specs.Prelude.{◌≡◌, ℕ, ◌+◌, ◌≤◌, Bool, true, false}
use Rattle.c_words.specs.declared.kinds.Punct.{Punct}
use Rattle.c_words.specs.declared.kinds.Punct.TheVariants.{BarBar, AmpersandAmpersand, Bar, Caret, Ampersand, EqualEqual, BangEqual, Less, Greater, LessEqual, GreaterEqual, ShiftLeft, ShiftRight, Plus, Minus, Star, Slash, Percent, Equal, StarEqual, SlashEqual, PercentEqual, PlusEqual, MinusEqual, ShiftLeftEqual, ShiftRightEqual, AmpersandEqual, CaretEqual, BarEqual}
use Rattle.c_tree.specs.Tree.{Expr, operation, cast, prefix, sizeof_value, sizeof_type, extension, index, call, dot, arrow, post, compound, Operator, comma, assign, cond, binary, complex_part, label_use}

-- the level of a binary operator, from 1 to 10, the loosest first; 0 is no binary operator
abbrev pub binary_level : Punct → ℕ
binary_level BarBar = 1
binary_level AmpersandAmpersand = 2
binary_level Bar = 3
binary_level Caret = 4
binary_level Ampersand = 5
binary_level EqualEqual = 6
binary_level BangEqual = 6
binary_level Less = 7
binary_level Greater = 7
binary_level LessEqual = 7
binary_level GreaterEqual = 7
binary_level ShiftLeft = 8
binary_level ShiftRight = 8
binary_level Plus = 9
binary_level Minus = 9
binary_level Star = 10
binary_level Slash = 10
binary_level Percent = 10
binary_level _ = 0

-- whether a sign is an assignment operator (6.5.16)
abbrev pub is_assignment : Punct → Bool
is_assignment Equal = true
is_assignment StarEqual = true
is_assignment SlashEqual = true
is_assignment PercentEqual = true
is_assignment PlusEqual = true
is_assignment MinusEqual = true
is_assignment ShiftLeftEqual = true
is_assignment ShiftRightEqual = true
is_assignment AmpersandEqual = true
is_assignment CaretEqual = true
is_assignment BarEqual = true
is_assignment _ = false

-- an operator of the table
abbrev pub IsOperator : Operator → Type 0
IsOperator comma = Unit {0}
IsOperator (assign p) = is_assignment p ≡ true
IsOperator (cond middle colon) = Unit {0}
IsOperator (binary p) = 1 ≤ binary_level p

-- the level of an operator with its operands
abbrev pub operator_level : Operator → ℕ
operator_level comma = 0
operator_level (assign p) = 1
operator_level (cond middle colon) = 2
operator_level (binary p) = binary_level p + 2

-- the least level of its left operand
abbrev pub left_level : Operator → ℕ
left_level comma = 0
left_level (assign p) = 14
left_level (cond middle colon) = 3
left_level (binary p) = binary_level p + 2

-- the least level of its right operand
abbrev pub right_level : Operator → ℕ
right_level comma = 1
right_level (assign p) = 1
right_level (cond middle colon) = 2
right_level (binary p) = binary_level p + 3

-- the level of an expression: that of its outermost operator or form
abbrev pub expr_level : Expr → ℕ
expr_level (operation e op token e2) = operator_level op
expr_level (cast opening ws d closing e) = 13
expr_level (prefix token p e) = 14
expr_level (sizeof_value word e) = 14
expr_level (sizeof_type word opening ws d closing) = 14
expr_level (extension keyword e) = 14
expr_level (index e opening e2 closing) = 15
expr_level (call e opening es closing) = 15
expr_level (dot e token name) = 15
expr_level (arrow e token name) = 15
expr_level (post e token p) = 15
expr_level (compound opening ws d closing list) = 15
expr_level (complex_part keyword e) = 14
expr_level (label_use token name) = 14
expr_level _ = 16
