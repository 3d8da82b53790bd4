use Rattle.std.proofs.lemmas.Result.{IfOk-weaker}
use Rattle.cqual_tool.proofs.Signed.{no_lattice, shared_as}
use Rattle.cqual_tool.proofs.signing.unsuited.Goals as goal

-- the line of code U1 is the answer of a library that is not over one plain lattice
pub returns-in_ok-no_signature-in-Lattice-clause-signed : goal.returns-in_ok-no_signature-in-Lattice-clause-signed
returns-in_ok-no_signature-in-Lattice-clause-signed c = λ it shows system.
    let said = c.in_ok-no_signature-in-Lattice in
    no_lattice it c.args.graph.now c.args.scene.now.lattices.now shows.lattices system c.args.fault said.field-0
    c.in-Lattice.is c.requires said.ensures

-- the line of code U2 is the answer of a library with a constraint that has a variable of nobody
pub returns-in-Shared-clause-signed : goal.returns-in-Shared-clause-signed
returns-in-Shared-clause-signed c =
    IfOk-weaker c.shared.result _ _
    (λ answer says it shows system. shared_as it c.args.graph.now c.args.scene.now.lattices.now shows.lattices system
    c.args.fault c.in-Shared.at answer c.in-Shared.is c.requires (says it.scene shows)) c.shared.ensures.line
