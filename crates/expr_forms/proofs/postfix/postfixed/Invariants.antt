use Rattle.std.proofs.Common.{◌≡◌, length}
use Rattle.c_nodes.specs.Sized.{expr}
use Rattle.c_reading.specs.Reading.{run}
use Rattle.expr_forms.specs.Parts.{form_turn}
use Rattle.expr_forms.proofs.postfix.postfixed.Given as goal

-- the operand so far, with the postfix forms read from here on, is what the whole loop gives from its first
abbrev pub invariant-loop-known : goal.invariant-loop-known
invariant-loop-known g l =
    run (form_turn l.depth l.room) (expr l.known) l.cursor.scopes l.cursor.rest.now
    ≡ run (form_turn l.depth l.room) (expr l.fn.base) l.fn.cursor.scopes l.fn.cursor.rest.now

abbrev pub decreases-loop-known : goal.decreases-loop-known
decreases-loop-known g l = length l.cursor.rest.now
