use Rattle.std.proofs.Common.{ℕ, ◌<◌, inl, inr, length, refl, sym, ◌∙◌, subst, arith}
use Rattle.std.specs.List.{Contains}
use Rattle.match_summary.specs.Closing.{IsMarked}
use Rattle.match_summary.proofs.Turns.{only_one, turn_more, turns_all}
use Rattle.match_summary.proofs.closure.mark_starts.Goals as goal

-- at first the marks are as they were
pub loop-start-init : goal.loop-start-init
loop-start-init c = record {
  size = refl;
  kept = λ a is. is;
  only = λ a is. inl is;
  all = λ k a lt. absurd (omega (arith, lt));
}

-- marking one more start keeps the old marks and adds none but that of a start
pub loop-start-preserved : goal.loop-start-preserved
loop-start-preserved c =
    let so_far = c.loop-start.invariant in
    let step = c.mark_start.ensures in
    record {
      size = step.size ∙ so_far.size;
      kept = λ a is. step.kept a (so_far.kept a is);
      only = λ a is. elim (step.only a is) [
        | inl old ↦ so_far.only a old
        | inr one ↦
            let there : Contains c.args.starts.now c.start-item.result =
            (c.loop-start.start-index, c.loop-start-test.true, sym c.start-item.is) in
            inr (subst (λ (v : ℕ). Contains c.args.starts.now v) (only_one c.start-item.result a one) there)
      ];
      all = turn_more (λ (a : ℕ). a < length c.mark_start.new.marks.items
          → IsMarked c.mark_start.new.marks.items a) c.args.starts.now c.loop-start.start-index c.start-item.result
          c.loop-start-test.true c.start-item.is
          (λ k a lt is within. step.kept a (so_far.all k a lt is (subst (λ (n : ℕ). a < n) step.size within)))
          (λ within. step.all c.start-item.result (0, omega arith, refl) within);
    }

-- afterwards the marks are the old ones and those of all starts that have a mark
pub returns : goal.returns
returns c = record {
  size = c.loop-start.invariant.size;
  kept = c.loop-start.invariant.kept;
  only = c.loop-start.invariant.only;
  all = turns_all (λ (a : ℕ). a < length c.loop-start.marks.items
      → IsMarked c.loop-start.marks.items a) c.args.starts.now c.loop-start.start-index c.loop-start-test.false
      c.loop-start.invariant.all;
}
