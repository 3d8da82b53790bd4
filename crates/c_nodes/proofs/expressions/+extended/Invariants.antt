use Rattle.std.proofs.Common.{length}
use Rattle.c_nodes.proofs.expressions.+extended.Given as goal

abbrev pub decreases-extended : goal.decreases-extended
decreases-extended l = length l.tokens.now
