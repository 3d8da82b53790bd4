use Rattle.std.proofs.Common.{◌≡◌, length}
use Rattle.c_reading.specs.Reading.{run}
use Rattle.stmt_forms.specs.InBlocks.{known_items, item_turn}
use Rattle.stmt_forms.proofs.blocks.more_items.Given as goal

-- the items of a block so far, with those read from here on, are what the whole loop gives from the first ones
abbrev pub invariant-loop-known : goal.invariant-loop-known
invariant-loop-known g l =
    run (item_turn l.depth l.room) (known_items l.known) l.cursor.scopes l.cursor.rest.now
    ≡ run (item_turn l.depth l.room) (known_items l.fn.first) l.fn.cursor.scopes l.fn.cursor.rest.now

abbrev pub decreases-loop-known : goal.decreases-loop-known
decreases-loop-known g l = length l.cursor.rest.now
