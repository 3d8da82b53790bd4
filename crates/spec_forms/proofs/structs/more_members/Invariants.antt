use Rattle.std.proofs.Common.{◌≡◌, length}
use Rattle.spec_forms.specs.Forms.{more_members_at}
use Rattle.spec_forms.proofs.structs.more_members.Given as goal

-- the members so far, with those read from here on, are what the whole loop gives from the first ones
abbrev pub invariant-loop : goal.invariant-loop
invariant-loop g l =
    more_members_at l.depth l.known l.room l.cursor.scopes l.cursor.rest.now
    ≡ more_members_at l.depth l.fn.known l.room l.fn.cursor.scopes l.fn.cursor.rest.now

abbrev pub decreases-loop : goal.decreases-loop
decreases-loop g l = length l.cursor.rest.now
