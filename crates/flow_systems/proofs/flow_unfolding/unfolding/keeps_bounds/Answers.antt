use Rattle.std.proofs.Common.{arith}
use Rattle.flow_systems.proofs.flow_unfolding.unfolding.keeps_bounds.Goals as goal

pub returns : goal.returns
returns c n low = c.loop-bound.invariant n (omega (arith, low, c.loop-bound-test.false, c.len-bound-end.ensures.length))
