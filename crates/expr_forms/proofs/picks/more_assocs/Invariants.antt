use Rattle.std.proofs.Common.{◌≡◌, length, [], ◌∷◌}
use Rattle.std.specs.Prelude.{None}
use Rattle.c_tree.specs.View.{assoc_of}
use Rattle.c_reading.specs.Reading.{run}
use Rattle.expr_forms.specs.Picks.{assoc_turn, known_assocs}
use Rattle.expr_forms.proofs.picks.more_assocs.Given as goal

-- the associations so far, with those read from here on, are what the whole loop gives from its first
abbrev pub invariant-loop-known : goal.invariant-loop-known
invariant-loop-known g l =
    run (assoc_turn l.depth l.room) (known_assocs l.known) l.cursor.scopes l.cursor.rest.now
    ≡ run (assoc_turn l.depth l.room)
    (record { items = assoc_of l.fn.first.assoc ∷ []; ending = None }) l.fn.cursor.scopes l.fn.cursor.rest.now

abbrev pub decreases-loop-known : goal.decreases-loop-known
decreases-loop-known g l = length l.cursor.rest.now
