use Rattle.std.proofs.Common.{◌≡◌, length, []}
use Rattle.c_reading.specs.Reading.{run, repeated_turn}
use Rattle.c_reading.specs.Expressing.{begins_desig}
use Rattle.c_reading.specs.Initialising.{desig_with}
use Rattle.c_reading.specs.Knot.{knot}
use Rattle.decl_forms.specs.InitForms.Seen.{desig_trees}
use Rattle.decl_forms.proofs.init_forms.designators.desigs.Given as goal

-- the designators so far, with those read from here on, are what the whole loop gives from none
abbrev pub invariant-loop-known : goal.invariant-loop-known
invariant-loop-known g l =
    run (repeated_turn begins_desig (desig_with (knot l.depth) l.room)) (desig_trees l.known)
    l.cursor.scopes l.cursor.rest.now
    ≡ run (repeated_turn begins_desig (desig_with (knot l.depth) l.room)) []
    l.fn.cursor.scopes l.fn.cursor.rest.now

abbrev pub decreases-loop-known : goal.decreases-loop-known
decreases-loop-known g l = length l.cursor.rest.now
