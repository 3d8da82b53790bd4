use Rattle.closure_check.specs.Parts.{certificate_of}
use Rattle.closure_check.proofs.checks.check_part.Goals as goal

pub returns-in-None-clause-accepted : goal.returns-in-None-clause-accepted
returns-in-None-clause-accepted c =
    c.certified_is_accepted.ensures c.args.graph.now c.args.at c.args.lattice.now.order
    (certificate_of c.args.part.now) c.law.ensures.lattice c.requires.named c.in-None.ensures
