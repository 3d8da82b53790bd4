-- The operator of a value of the program.
use Rattle.std.specs.Prelude.{Option, None, Some, Box}
use Rattle.std.specs.Global.{Global}
use Rattle.c_syntax.specs.declared.expression.Expr as rust_expr
use Rattle.c_tree.specs.Tree.{SomeExpr, no_expr, some_expr, Operator, comma, assign, cond, binary}
use Rattle.c_tree.specs.View.{expr_of}
use Rattle.c_ops.specs.declared.op.Op.{Op}
use Rattle.c_ops.specs.declared.op.Op.TheVariants as ops

-- an expression in a box, or none
abbrev pub some_expr_in : Option (Box rust_expr.Expr Global) → SomeExpr
some_expr_in None = no_expr
some_expr_in (Some e) = some_expr (expr_of e.value)

-- the operator of the program, as that of a tree
abbrev pub operator_of : Op → Operator
operator_of (ops.Binary p) = binary p
operator_of (ops.Assign p) = assign p
operator_of ops.Comma = comma
operator_of (ops.Cond middle colon) = cond (some_expr_in middle) colon
