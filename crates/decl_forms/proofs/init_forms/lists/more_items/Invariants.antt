use Rattle.std.proofs.Common.{◌≡◌, length}
use Rattle.c_reading.specs.Reading.{run, comma_turn}
use Rattle.c_reading.specs.Initialising.{next_init_item}
use Rattle.c_reading.specs.Knot.{knot}
use Rattle.decl_forms.specs.InitForms.Listed.{listing}
use Rattle.decl_forms.proofs.init_forms.lists.more_items.Given as goal

-- the items so far, with those read from here on, are what the whole loop gives from the first
abbrev pub invariant-loop-known : goal.invariant-loop-known
invariant-loop-known g l =
    run (comma_turn (next_init_item (knot l.depth) l.room)) (listing l.known)
    l.cursor.scopes l.cursor.rest.now
    ≡ run (comma_turn (next_init_item (knot l.depth) l.room)) (listing l.fn.first)
    l.fn.cursor.scopes l.fn.cursor.rest.now

abbrev pub decreases-loop-known : goal.decreases-loop-known
decreases-loop-known g l = length l.cursor.rest.now
