use Rattle.std.proofs.Common.{ℕ, ◌+◌, sym, ◌∙◌, subst, arith}
use Rattle.annotate.specs.Solutions.{CountsOver}
use Rattle.annotate.proofs.Firsts.{none_before}
use Rattle.annotate.proofs.Counting.{one_more, none_more}
use Rattle.annotate.proofs.judging.count_over.Goals.{then-is_some, else-is_some}
use Rattle.annotate.proofs.judging.count_over.Goals as goal

-- below the first exceeded bound no constraint is counted
pub loop-n-init : goal.loop-n-init
loop-n-init c = record {
  counted = λ s shows.
      none_before s c.args.graph.now c.number-n.result
      (λ n lt. c.requires.first.before s shows n (let is = c.number-n.ensures in omega arith));
  most = omega arith;
}

-- one constraint more is counted where it is an exceeded bound, and only there
pub loop-n-preserved : goal.loop-n-preserved
loop-n-preserved c =
    let before = c.loop-n.invariant in
    let most = before.most in
    let Count : ℕ → Type 0 = λ count. CountsOver c.args.scene.now c.args.graph.now (c.loop-n.n + 1) count in
    elim c.if-is_some.branch [
      | then-is_some w ↦
          let found = sym c.is_some.ensures ∙ w.if-is_some.true in
          let more = one_more c.args.scene.now c.args.graph.now c.loop-n.n c.loop-n.count c.new.result c.over_in.result
          c.new.ensures before.counted c.over_in.ensures.over found in
          let is = w.count-is in
          record { counted = subst Count (sym is) more; most = omega (arith, is, most) }
      | else-is_some w ↦
          let found = sym c.is_some.ensures ∙ w.if-is_some.false in
          let more = none_more c.args.scene.now c.args.graph.now c.loop-n.n c.loop-n.count c.new.result c.over_in.result
          c.new.ensures before.counted c.over_in.ensures.none found in
          let is = w.count-is in
          record { counted = subst Count (sym is) more; most = omega (arith, is, most) }
    ]
