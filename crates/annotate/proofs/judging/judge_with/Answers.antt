use Rattle.std.proofs.Common.{List, sym, ◌∙◌, subst}
use Rattle.annotate.specs.declared.solving.Solved.{Solved}
use Rattle.annotate.specs.Solutions.{AreKept}
use Rattle.annotate.specs.Reports.{RejectedWith}
use Rattle.annotate.proofs.judging.judge_with.Goals as goal

-- where no bound is exceeded, all solutions are kept, as `accepted` requires
pub accepted-requires-clause-kept : goal.accepted-requires-clause-kept
accepted-requires-clause-kept c =
    let Kept : List Solved → Type 0 = λ solutions. AreKept c.args.graph.now c.args.scene.now.lattices.now solutions in
    subst Kept (c.deref.ensures.value ∙ sym c.deref-2.ensures.value) c.in_default.ensures.kept

pub returns-in-Some : goal.returns-in-Some
returns-in-Some c = λ s shows. RejectedWith _ (c.in_ok-text.ensures s shows)
