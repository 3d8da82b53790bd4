use Rattle.std.proofs.Common.{◌≡◌, length, []}
use Rattle.c_reading.specs.Reading.{run}
use Rattle.reader_base.specs.Rows.{attr_turn}
use Rattle.reader_base.proofs.groups.attrs.Given as goal

abbrev pub invariant-loop-known : goal.invariant-loop-known
invariant-loop-known l =
    run (attr_turn l.room) l.known.items l.cursor.scopes l.cursor.rest.now
    ≡ run (attr_turn l.room) [] l.fn.cursor.scopes l.fn.cursor.rest.now

abbrev pub decreases-loop-known : goal.decreases-loop-known
decreases-loop-known l = length l.cursor.rest.now
