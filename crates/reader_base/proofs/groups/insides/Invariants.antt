use Rattle.std.proofs.Common.{◌≡◌, length}
use Rattle.reader_base.specs.Groups.{insides_at}
use Rattle.reader_base.proofs.groups.insides.Given as goal

abbrev pub invariant-loop : goal.invariant-loop
invariant-loop l =
    insides_at l.opened l.cursor.scopes l.cursor.rest.now
    ≡ insides_at l.fn.opened l.fn.cursor.scopes l.fn.cursor.rest.now

abbrev pub decreases-loop : goal.decreases-loop
decreases-loop l = length l.cursor.rest.now
