use Rattle.lattice_core.specs.View.{orders_of}
use Rattle.std.proofs.lemmas.Result.{IfOk-weaker}
use Rattle.path_checker.proofs.ReportChecks.Unique.{comes_to_one}
use Rattle.path_checker.proofs.report_checks.judging.judge_report.Goals as goal

-- what is answered is the only thing that the text comes to
pub returns-clause-only : goal.returns-clause-only
returns-clause-only c =
    let a = c.args in
    IfOk-weaker c.judge.result _ _ (λ checked comes other is. comes_to_one a.graph.now
    (orders_of a.lattices.now) a.bytes.now checked other comes is) c.judge.ensures.is
