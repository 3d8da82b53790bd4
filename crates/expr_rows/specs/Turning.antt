-- The readers of rows at a number of the knot, what one turn of theirs is, and what is known of it.
use Rattle.std.specs.Prelude.{◌≡◌, ℕ, ◌+◌, ◌-◌, ◌≤◌, true, List, length, Option, None, Some, Result, Ok, Err}
use Rattle.c_words.specs.declared.kinds.Punct.TheVariants as puncts
use Rattle.c_tree.specs.declared.lexeme.Lexeme.{Lexeme}
use Rattle.c_tree.specs.Tree.{Expr, SomeExpr, comma, assign, binary, prefix}
use Rattle.c_tree.specs.Levels.{binary_level, is_assignment}
use Rattle.c_tree.specs.Lists.{some_expr_from}
use Rattle.c_nodes.specs.declared.sized.SizedExpr.{SizedExpr}
use Rattle.c_nodes.specs.declared.sized.SizedSomeExpr.{SizedSomeExpr}
use Rattle.c_nodes.specs.Sized.{expr}
use Rattle.c_ops.specs.Joining.{bottom}
use Rattle.c_units.specs.HeldScopes.{HeldScopes}
use Rattle.c_reading.specs.declared.kinds.FaultKind.TheVariants.{Unexpected}
use Rattle.c_reading.specs.declared.kinds.Infix.{Infix}
use Rattle.c_reading.specs.declared.kinds.Infix.TheVariants as infixes
use Rattle.c_reading.specs.declared.kinds.Reach.{Reach}
use Rattle.c_reading.specs.Reading.{Reader, ◌>>=◌, ends, refuses, run}
use Rattle.c_reading.specs.Parts.{Inner, Begun}
use Rattle.c_reading.specs.Expressing.{OperandRow, settled, extended, cast_with, operand_with, operation_with, middle_with, question_with, operation_turn, row_with, expr_with}
use Rattle.c_reading.specs.Knot.{knot}
use Rattle.expr_rows.specs.declared.op_rows.op.SizedOp.{SizedOp}
use Rattle.expr_rows.specs.declared.op_rows.row.OpRow.{OpRow}
use Rattle.expr_rows.specs.OpRows.Rows.{operator, row_of, settled_of}
use Rattle.reader_base.specs.declared.fault.ReadError.{ReadError}
use Rattle.reader_base.specs.declared.cursor.Cursor.{Cursor}
use Rattle.reader_base.specs.Gives.{Reads}
use Rattle.reader_base.specs.Looping.{FailsTurn}

-- a row of operands and operators is read as the reader of lists gives it
abbrev pub ReadsRow : Cursor → Cursor → Result OpRow ReadError → Reader OperandRow → Type 0
ReadsRow before after result reader = Reads row_of before after result reader

-- the middle of `?:`, which may be left out, is read so
abbrev pub ReadsMiddle : Cursor → Cursor → Result SizedSomeExpr ReadError → Reader SomeExpr → Type 0
ReadsMiddle before after result reader = Reads (λ x. some_expr_from x.tree) before after result reader

-- an operator and the operand behind it, behind a row that is joined up to it
abbrev pub operation_on : ℕ → SizedOp → OpRow → ℕ → Reader OperandRow
operation_on depth op left room s ts = operation_with (knot depth) (operator op) (settled_of left) room s ts

-- [expr], before the colon of `?:`
abbrev pub middle_at : ℕ → ℕ → Reader SomeExpr
middle_at depth room s ts = middle_with (knot depth) room s ts

-- ? [expr] : and the operand behind it, behind a row that is joined up to it
abbrev pub question_on : ℕ → OpRow → ℕ → Reader OperandRow
question_on depth left room s ts = question_with (knot depth) (settled_of left) room s ts

-- an operator of a kind and its operand behind a row
abbrev pub operation_by : Inner → Infix → OperandRow → ℕ → Reader OperandRow
operation_by inner infixes.Comma row room s ts = operation_with inner comma (settled row 0) room s ts
operation_by inner (infixes.Assign p) row room s ts = operation_with inner (assign p) (settled row 1) room s ts
operation_by inner infixes.Question row room s ts = question_with inner (settled row 2) room s ts
operation_by inner (infixes.Binary p) row room s ts =
    operation_with inner (binary p) (settled row (binary_level p + 2)) room s ts
operation_by inner infixes.Nothing row room s ts = refuses Unexpected ts

-- the same by the readers of a number
abbrev pub operation_at : ℕ → Infix → OperandRow → ℕ → Reader OperandRow
operation_at depth form row room s ts = operation_by (knot depth) form row room s ts

-- a sign that the precedence table lists
abbrev pub IsListed : Infix → Type 0
IsListed infixes.Comma = Unit {0}
IsListed (infixes.Assign p) = is_assignment p ≡ true
IsListed infixes.Question = Unit {0}
IsListed (infixes.Binary p) = 1 ≤ binary_level p
IsListed infixes.Nothing = Unit {0}

-- whatever the readers inside are, a turn of the row reads this operator, ends the row, or fails so
abbrev pub IsChosen : Reach → OperandRow → List Lexeme → Result (Option Infix) ReadError → Type 0
IsChosen reach row ts (Ok (Some form)) =
    IsListed form × ((inner : Inner) (room : ℕ) (s : HeldScopes)
    → operation_turn inner reach room row s ts ≡ Some (operation_by inner form row room s ts))
IsChosen reach row ts (Ok None) =
    (inner : Inner) (room : ℕ) (s : HeldScopes) → operation_turn inner reach room row s ts ≡ None
IsChosen reach row ts (Err e) =
    (inner : Inner) (room : ℕ) (s : HeldScopes) → FailsTurn e (operation_turn inner reach room row s ts)

-- the first operand of an expression, behind what of it was read already
abbrev pub operand_at : ℕ → Begun → ℕ → Reader Expr
operand_at depth begun room s ts = operand_with (knot depth) begun room s ts

-- a cast behind `__extension__` at these tokens
abbrev pub behind_extensions : ℕ → List ℕ → ℕ → Reader Expr
behind_extensions depth tokens room s ts =
    cast_with (knot depth) (room - length tokens) s ts >>= λ e. ends (extended tokens e.tree) e.scopes e.rest

-- a cast behind a `*` that was read already
abbrev pub behind_star : ℕ → ℕ → ℕ → Reader Expr
behind_star depth token room s ts =
    cast_with (knot depth) (room - 1) s ts >>= λ e. ends (prefix token puncts.Star e.tree) e.scopes e.rest

-- operators and operands as many as stand, behind a first operand
abbrev pub operations_at : ℕ → Reach → SizedExpr → ℕ → Reader OperandRow
operations_at depth reach first room s ts =
    run (operation_turn (knot depth) reach room) (record { waiting = bottom; last = expr first }) s ts

-- operands and operators in turn, and the tree of them
abbrev pub row_at : ℕ → Reach → Begun → ℕ → Reader Expr
row_at depth reach begun room s ts = row_with (knot depth) reach begun room s ts

-- an expression of a reach
abbrev pub expr_at : ℕ → Reach → Begun → ℕ → Reader Expr
expr_at depth reach begun room s ts = expr_with (knot depth) reach begun room s ts
