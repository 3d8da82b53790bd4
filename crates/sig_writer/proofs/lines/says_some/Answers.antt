use Rattle.std.proofs.Common.{◌∙◌, sym, ap, not}
use Rattle.sig_writer.specs.Signatures.{says_nothing}
use Rattle.sig_writer.specs.Saying.{said_at}
use Rattle.sig_writer.proofs.LineLemmas.{says_later}
use Rattle.sig_writer.proofs.lines.says_some.Goals as goal

-- a node that says nothing keeps the nodes so far silent
pub loop-n-preserved : goal.loop-n-preserved
loop-n-preserved c =
    let silent = ap (λ v. not (says_nothing (said_at c.args.said.now v))) (sym c.new.ensures) ∙ sym c.says.ensures
    ∙ c.if-says.false in
    says_later c.args.said.now c.loop-n.n c.nodes-nodes.result.to c.loop-n-test.true silent ∙ c.loop-n.invariant
