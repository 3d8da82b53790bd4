use Rattle.std.proofs.Common.{ℕ, List, ◌++◌, ap, ◌∙◌}
use Rattle.certificate_checks.specs.Texts.{verdict_text}
use Rattle.cqual_tool.proofs.Judging.{verified_as}
use Rattle.cqual_tool.proofs.ending.verified.Goals as goal

-- the status and the text of the verdict are those of a certificate that is verified
pub returns-clause-verified : goal.returns-clause-verified
returns-clause-verified c = λ it lattices system.
    let found = c.in_ok-found.found in
    verified_as it c.args.lattices.now c.args.graph.now c.args.text.now found c.status_of.result
    c.put_verdict.new.out.items lattices system c.status_of.ensures
    (c.in_ok-put_verdict.ensures ∙ ap (λ (bytes : List ℕ). bytes ++ verdict_text found) c.new-text.ensures.items)
    c.in_ok-found.ensures.is c.in_ok-found.ensures.accepted
