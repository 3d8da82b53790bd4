use Rattle.std.proofs.Common.{◌≡◌, length}
use Rattle.c_ops.specs.Joining.{bottom}
use Rattle.c_nodes.specs.Sized.{expr}
use Rattle.c_reading.specs.Reading.{run}
use Rattle.c_reading.specs.Expressing.{operation_turn}
use Rattle.c_reading.specs.Knot.{knot}
use Rattle.expr_rows.specs.OpRows.Rows.{row_of}
use Rattle.expr_rows.proofs.expression.operations.Given as goal

-- the row so far, with the operators read from here on, is what the whole loop gives from its first operand
abbrev pub invariant-loop-row : goal.invariant-loop-row
invariant-loop-row g l =
    run (operation_turn (knot l.depth) l.reach l.room) (row_of l.row) l.cursor.scopes l.cursor.rest.now
    ≡ run (operation_turn (knot l.depth) l.reach l.room)
    (record { waiting = bottom; last = expr l.fn.first }) l.fn.cursor.scopes l.fn.cursor.rest.now

abbrev pub decreases-loop-row : goal.decreases-loop-row
decreases-loop-row g l = length l.cursor.rest.now
