use Rattle.std.proofs.Common.{◌≡◌, length, []}
use Rattle.c_reading.specs.Reading.{run}
use Rattle.c_parser.specs.Taping.{tape_turn}
use Rattle.c_parser.proofs.taping.tapes.Given as goal

-- what is read from here on, behind the ops of the items so far, is what the whole loop over items gives
abbrev pub invariant-loop-ops : goal.invariant-loop-ops
invariant-loop-ops g l =
    run (tape_turn l.depth l.room) l.ops.items l.cursor.scopes l.cursor.rest.now
    ≡ run (tape_turn l.depth l.room) [] l.fn.cursor.scopes l.fn.cursor.rest.now

abbrev pub decreases-loop-ops : goal.decreases-loop-ops
decreases-loop-ops g l = length l.cursor.rest.now
