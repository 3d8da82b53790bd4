use Rattle.std.proofs.Common.{List, ◌++◌, codes, ◌∙◌, ap}
use Rattle.annotate.specs.Texts.{line}
use Rattle.annotate.proofs.ReportLemmas.{rejected_report}
use Rattle.annotate.proofs.reports.rejected.Goals as goal

-- the line `rejected` and the errors are the report of a program with an exceeded bound
pub returns : goal.returns
returns c =
    λ s shows.
    let errors = c.in_ok-put_errors.ensures.part s shows in
    rejected_report s c.args.graph.now c.put_errors.new.out.items c.put.new.out.items errors.text
    c.exceeded_is_refuted.ensures c.args.first (c.requires.first.over s shows) (c.in_ok-put.ensures
    ∙ ap (λ (text : List _). text ++ line (codes "rejected")) c.new-text.ensures.items) errors.added errors.is
