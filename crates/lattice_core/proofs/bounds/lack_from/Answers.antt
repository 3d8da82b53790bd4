use Rattle.std.proofs.Common.{arith}
use Rattle.lattice_core.specs.Rows.{order_of}
use Rattle.lattice_core.proofs.UpperLower.{lacks_none, lacking_at, bounded_at, bounded_on}
use Rattle.lattice_core.proofs.bounds.lack_from.Goals as goal

-- the first element behind one with which it lacks a bound is the next to it
pub returns-then-not-is_bounded : goal.returns-then-not-is_bounded
returns-then-not-is_bounded c = record {
  apart = omega arith;
  within = c.loop-b-test.true;
  has = lacking_at
      (order_of c.args.above.now) c.args.a c.loop-b.b c.is_bounded.result c.if-not-is_bounded.true c.is_bounded.ensures;
  none_between = λ d lt before. lacks_none (order_of c.args.above.now) c.args.a d (c.loop-b.invariant d lt before);
}

pub loop-b-preserved : goal.loop-b-preserved
loop-b-preserved c = bounded_on (order_of c.args.above.now) c.args.a c.loop-b.b c.loop-b.invariant
    (bounded_at
    (order_of c.args.above.now) c.args.a c.loop-b.b c.is_bounded.result c.if-not-is_bounded.false c.is_bounded.ensures)
