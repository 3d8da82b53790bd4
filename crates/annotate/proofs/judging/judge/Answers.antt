use Rattle.std.proofs.lemmas.Result.{IfOk-weaker}
use Rattle.annotate.proofs.ReportLemmas.{judged_alone}
use Rattle.annotate.proofs.judging.judge.Goals as goal

-- a program that is judged without an annotated source has its report alone
pub returns : goal.returns
returns c =
    IfOk-weaker c.judge_with.result _ _
    (λ judged is s shows. judged_alone s c.args.graph.now judged.accepted judged.text.items
    (is s shows)) c.judge_with.ensures
