use Rattle.std.proofs.Common.{◌≡◌, length, [], ◌∷◌}
use Rattle.std.specs.Prelude.{None}
use Rattle.c_nodes.specs.Sized.{expr}
use Rattle.c_reading.specs.Reading.{run}
use Rattle.expr_forms.specs.Parts.{argument_turn, known_arguments}
use Rattle.expr_forms.proofs.arguments.more_arguments.Given as goal

-- the arguments so far, with those read from here on, are what the whole loop gives from its first
abbrev pub invariant-loop-known : goal.invariant-loop-known
invariant-loop-known g l =
    run (argument_turn l.depth l.room) (known_arguments l.known) l.cursor.scopes l.cursor.rest.now
    ≡ run (argument_turn l.depth l.room)
    (record { items = expr l.fn.first ∷ []; ending = None }) l.fn.cursor.scopes l.fn.cursor.rest.now

abbrev pub decreases-loop-known : goal.decreases-loop-known
decreases-loop-known g l = length l.cursor.rest.now
