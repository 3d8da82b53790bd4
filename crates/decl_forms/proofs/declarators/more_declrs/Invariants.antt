use Rattle.std.proofs.Common.{◌≡◌, length}
use Rattle.c_reading.specs.Reading.{run}
use Rattle.decl_forms.specs.Listed.{listing, declrs_turn}
use Rattle.decl_forms.proofs.declarators.more_declrs.Given as goal

-- the declarators so far, with those read from here on, are what the whole loop gives from the first
abbrev pub invariant-loop-known : goal.invariant-loop-known
invariant-loop-known g l =
    run (declrs_turn l.depth l.kind l.room) (listing l.known) l.cursor.scopes l.cursor.rest.now
    ≡ run (declrs_turn l.depth l.kind l.room) (listing l.fn.first) l.fn.cursor.scopes l.fn.cursor.rest.now

abbrev pub decreases-loop-known : goal.decreases-loop-known
decreases-loop-known g l = length l.cursor.rest.now
