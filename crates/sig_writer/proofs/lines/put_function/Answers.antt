use Rattle.std.proofs.lemmas.Result.{on_ok_weaker, IfErr-weaker}
use Rattle.sig_writer.specs.Nodes.{nodes_in}
use Rattle.sig_writer.proofs.lines.put_function.Goals as goal

-- the line of what a function's nodes say is its line by what is known
pub returns-clause-line : goal.returns-clause-line
returns-clause-line c = on_ok_weaker c.put_said.result (λ line it known.
    line it (c.in_ok-said.ensures.said
    (nodes_in c.args.library.now.skeletons.now c.args.at.now) it c.nodes_at.ensures known)) c.put_said.ensures.line

-- a refusal by what a function's nodes say is its refusal by what is known
pub returns-clause-refused : goal.returns-clause-refused
returns-clause-refused c = IfErr-weaker c.put_said.result _ _ (λ fault refused it known.
    refused it (c.in_ok-said.ensures.said
    (nodes_in c.args.library.now.skeletons.now c.args.at.now) it c.nodes_at.ensures known)) c.put_said.ensures.refused
