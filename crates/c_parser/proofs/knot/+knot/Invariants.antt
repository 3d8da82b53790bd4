use Rattle.std.proofs.Common.{◌+◌, ◌*◌}
use Rattle.c_parser.proofs.knot.+knot.Given as goal

abbrev pub decreases-inner : goal.decreases-inner
decreases-inner l = 2 * l.below + 1

abbrev pub decreases-read : goal.decreases-read
decreases-read l = 2 * l.depth
