use Rattle.std.proofs.Common.{◌≡◌, length, []}
use Rattle.c_reading.specs.Reading.{run}
use Rattle.reader_base.specs.Rows.{array_word_turn}
use Rattle.reader_base.proofs.qualifiers.array_words.Given as goal

abbrev pub invariant-loop-known : goal.invariant-loop-known
invariant-loop-known l =
    run array_word_turn l.known.items l.cursor.scopes l.cursor.rest.now
    ≡ run array_word_turn [] l.fn.cursor.scopes l.fn.cursor.rest.now

abbrev pub decreases-loop-known : goal.decreases-loop-known
decreases-loop-known l = length l.cursor.rest.now
