use Rattle.std.proofs.Common.{◌≡◌, length, []}
use Rattle.c_reading.specs.Reading.{run}
use Rattle.expr_forms.specs.Parts.{known_steps, step_turn}
use Rattle.expr_forms.proofs.offsets.steps.Given as goal

-- the steps of an offset so far, with those read from here on, are what the whole loop gives
abbrev pub invariant-loop-known : goal.invariant-loop-known
invariant-loop-known g l =
    run (step_turn l.depth l.room) (known_steps l.known) l.cursor.scopes l.cursor.rest.now
    ≡ run (step_turn l.depth l.room) [] l.fn.cursor.scopes l.fn.cursor.rest.now

abbrev pub decreases-loop-known : goal.decreases-loop-known
decreases-loop-known g l = length l.cursor.rest.now
