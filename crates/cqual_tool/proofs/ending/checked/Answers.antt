use Rattle.std.proofs.Common.{ℕ, List, ◌++◌, ap, ◌∙◌}
use Rattle.path_checker.specs.ReportChecks.Texts.{checked_text}
use Rattle.cqual_tool.proofs.Judging.{checked_as}
use Rattle.cqual_tool.proofs.ending.checked.Goals as goal

-- the status and the text of what the report comes to are those of a report that is checked
pub returns-clause-checked : goal.returns-clause-checked
returns-clause-checked c = λ it lattices system.
    let found = c.in_ok-found.found in
    checked_as it c.args.lattices.now c.args.graph.now c.args.text.now found c.status_for.result
    c.put_checked.new.out.items lattices system c.status_for.ensures (c.in_ok-put_checked.ensures
    ∙ ap (λ (bytes : List ℕ). bytes ++ checked_text found) c.new-text.ensures.items) c.in_ok-found.ensures.is
    (λ holds. c.in_ok-found.ensures.rejects holds c.requires.owned c.requires.elements)
