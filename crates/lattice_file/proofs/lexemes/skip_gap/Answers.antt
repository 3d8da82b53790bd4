use Rattle.std.proofs.Common.{arith}
use Rattle.lattice_file.proofs.GapLemmas.{gap_none, gap_on}
use Rattle.lattice_file.proofs.lexemes.skip_gap.Goals as goal

pub loop-at-init : goal.loop-at-init
loop-at-init c = record { later = omega arith; within = c.requires; gap = gap_none c.args.bytes.now c.args.from }

-- a piece of a gap goes on from the gap before it
pub loop-at-preserved : goal.loop-at-preserved
loop-at-preserved c = record {
  later = omega (arith, c.loop-at.invariant.later, c.in_ok-end.ensures.later);
  within = c.in_ok-end.ensures.within;
  gap = gap_on c.args.bytes.now c.args.from c.loop-at.at c.in_ok-end.end c.loop-at.invariant.later
      c.in_ok-end.ensures.later c.in_ok-end.ensures.within c.loop-at.invariant.gap c.in_ok-end.ensures.gap;
}
