use Rattle.std.proofs.Common.{ℕ, ◌+◌, subst, arith}
use Rattle.annotate.specs.Reports.{Errors, IsErrorOf, NextError}
use Rattle.annotate.proofs.Firsts.{no_errors}
use Rattle.annotate.proofs.Writing.{none_of, then_some}
use Rattle.annotate.proofs.reports.put_errors.Goals as goal

-- below the first exceeded bound no constraint gives an error, and no search is kept
pub loop-n-init : goal.loop-n-init
loop-n-init c = record {
  kept = c.new-reaches.ensures c.args.graph.now;
  errors =
      none_of c.args.scene.now c.args.out.now.items (λ s errors. Errors s c.args.graph.now c.number-n.result errors)
      (λ s shows.
      no_errors s c.args.graph.now c.number-n.result
      (λ n lt. c.requires.first.before s shows n (let is = c.number-n.ensures in omega arith)));
}

-- what is written of one constraint more comes behind the errors of those so far
pub loop-n-preserved : goal.loop-n-preserved
loop-n-preserved c = record {
  kept = c.in_ok-put_error_of.ensures.kept;
  errors = then_some (λ s errors. Errors s c.args.graph.now (c.loop-n.n + 1) errors) c.loop-n.invariant.errors
      c.in_ok-put_error_of.ensures.error
      (λ s shows text error before here.
      let Error : ℕ → Type 0 = λ number. IsErrorOf s c.args.graph.now number error in
      NextError c.loop-n.n text error before (subst Error c.new-number.ensures here));
}
