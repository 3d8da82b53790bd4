use Rattle.std.proofs.Common.{◌≡◌, length, []}
use Rattle.c_reading.specs.Reading.{run}
use Rattle.c_parser.specs.UnitForms.Listed.{known_items, item_turn}
use Rattle.c_parser.proofs.unit_forms.units.items.Given as goal

-- what is read from here on, behind the items so far, is what the whole loop over items gives
abbrev pub invariant-loop-known : goal.invariant-loop-known
invariant-loop-known g l =
    run (item_turn l.depth l.room) (known_items l.known.items) l.cursor.scopes l.cursor.rest.now
    ≡ run (item_turn l.depth l.room) [] l.fn.cursor.scopes l.fn.cursor.rest.now

abbrev pub decreases-loop-known : goal.decreases-loop-known
decreases-loop-known g l = length l.cursor.rest.now
