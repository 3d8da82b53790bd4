use Rattle.std.proofs.Common.{◌≡◌, length}
use Rattle.declr_forms.specs.Views.{list_of, more_params}
use Rattle.declr_forms.proofs.parameters.more_params.Given as goal

-- the parameters so far, with what is read from here on, give what the whole loop does from its first
abbrev pub invariant-loop-all : goal.invariant-loop-all
invariant-loop-all g l =
    more_params l.depth l.room (list_of l.all) l.cursor.scopes l.cursor.rest.now
    ≡ more_params l.depth l.room (list_of l.fn.known) l.fn.cursor.scopes l.fn.cursor.rest.now

abbrev pub decreases-loop-all : goal.decreases-loop-all
decreases-loop-all g l = length l.cursor.rest.now
