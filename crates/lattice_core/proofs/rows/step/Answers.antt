use Rattle.std.proofs.Common.{inl, inr, arith, below_more}
use Rattle.lattice_core.specs.Rows.{On}
use Rattle.lattice_core.proofs.rows.step.Goals as goal

-- one more element of the row adds what it is linked to
pub loop-at-preserved : goal.loop-at-preserved
loop-at-preserved c =
    let so_far = c.loop-at.invariant in
    let raised = c.raised-grown.ensures in
    record {
      more = omega arith;
      kept = λ i h. raised.kept i (so_far.kept i h);
      sound = λ start led i h. elim (raised.only i h) [
        | inl before ↦ so_far.sound start led i before
        | inr new ↦ On c.loop-at.at i (led c.loop-at.at new.0) new.1
      ];
      closed =
          λ b. below_more _ _ (λ a lt there link. raised.kept b (so_far.closed b a lt there link)) (raised.added b);
    }
