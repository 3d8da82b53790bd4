use Rattle.std.proofs.Common.{ℕ, ap}
use Rattle.std.specs.declared.alloc.Global.{Global}
use Rattle.std.specs.declared.vec.Vec.{Vec}
use Rattle.cqual_tool.proofs.Judging.{judged_as}
use Rattle.cqual_tool.proofs.ending.report.Goals as goal

-- what was judged with the scene is its report, with the status of what was judged
pub returns-clause-report : goal.returns-clause-report
returns-clause-report c = λ it shows system.
    judged_as c.args.annotated it c.args.graph.now c.in_ok-judged.judged.accepted c.reported.result.status
    c.reported.result.text.items c.in_ok-judged.judged.text.items system c.reported.ensures.status
    (ap (λ (text : Vec ℕ Global). text.items) c.reported.ensures.text) (c.in_ok-judged.ensures it.scene shows)
