use Rattle.std.proofs.Common.{below_more}
use Rattle.lattice_core.specs.Rows.{order_of}
use Rattle.lattice_core.proofs.UpperLower.{lacks_none}
use Rattle.lattice_core.proofs.bounds.first_lack.Goals as goal

-- the first element that lacks a bound with one behind it makes the first pair that does
pub returns-in-Some : goal.returns-in-Some
returns-in-Some c =
    let next = c.in-Some.ensures in
    record {
      apart = next.apart;
      within = next.within;
      has = next.has;
      no_earlier_row =
          λ a d before lt within. lacks_none (order_of c.args.above.now) a d (c.loop-a.invariant a before d lt within);
      no_earlier = next.none_between;
    }

pub loop-a-preserved : goal.loop-a-preserved
loop-a-preserved c = below_more _ _ c.loop-a.invariant c.in_default.ensures
