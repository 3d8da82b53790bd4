use Rattle.std.proofs.Common.{◌≡◌, length, []}
use Rattle.c_reading.specs.Reading.{run}
use Rattle.stmt_forms.specs.InBlocks.{known_items, label_turn}
use Rattle.stmt_forms.proofs.blocks.labels.Given as goal

-- the labels so far, with those read from here on, are what the whole loop gives from none
abbrev pub invariant-loop-known : goal.invariant-loop-known
invariant-loop-known l =
    run (label_turn l.depth l.room) (known_items l.known) l.cursor.scopes l.cursor.rest.now
    ≡ run (label_turn l.depth l.room) [] l.fn.cursor.scopes l.fn.cursor.rest.now

abbrev pub decreases-loop-known : goal.decreases-loop-known
decreases-loop-known l = length l.cursor.rest.now
