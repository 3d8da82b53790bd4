use Rattle.std.proofs.Common.{◌≡◌, inl, inr, ◌∙◌, arith}
use Rattle.std.proofs.lemmas.Bool.{cases_lt}
use Rattle.sig_writer.proofs.Marking.{are_marks, end_from}
use Rattle.sig_writer.proofs.marks.marks_of.Goals as goal

-- before the first node no mark is set
pub loop-n-init : goal.loop-n-init
loop-n-init c = record {
  size = c.in_ok-marks.ensures.size ∙ c.count.ensures;
  only = λ i is. absurd (c.in_ok-marks.ensures.none i is);
  done = λ n i row is lt end. let le = end_from c.args.nodes row i end in absurd (omega (arith, lt, le));
}

-- the marks of one node more are those of the matched paths from the nodes so far
pub loop-n-preserved : goal.loop-n-preserved
loop-n-preserved c =
    let so_far = c.loop-n.invariant in
    let step = c.mark_from.ensures in
    record {
      size = step.size ∙ so_far.size;
      only = λ i is. elim (step.only i is) [
        | inl old ↦ so_far.only i old
        | inr some ↦ (some.0, some.1, some.2, some.4)
      ];
      done = λ n i row is lt end. elim (cases_lt row.from c.loop-n.n) [
        | inl early ↦ step.kept i (so_far.done n i row is early end)
        | inr last ↦
            let from : row.from ≡ c.new.result = omega (arith, lt, last, c.new.ensures) in
            step.done i (n, row, is, from, end)
      ];
    }

-- behind the last node each node is marked that a matched path joins with another one
pub returns : goal.returns
returns c =
    let so_far = c.loop-n.invariant in
    are_marks c.args.nodes c.args.summaries.now c.loop-n.marks.items so_far.size so_far.only
    (λ n i row is lt end. so_far.done n i row is (omega (arith, lt, c.loop-n-test.false)) end)
