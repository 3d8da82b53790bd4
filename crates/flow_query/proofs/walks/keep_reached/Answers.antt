use Rattle.std.proofs.Common.{inr}
use Rattle.flow_query.proofs.Keeping.{unreached_as}
use Rattle.flow_query.proofs.walks.keep_reached.Goals as goal

-- a variable that no element of the lattice reaches is kept by no constant leading to it
pub returns-then-is_unreached-clause-var : goal.returns-then-is_unreached-clause-var
returns-then-is_unreached-clause-var c =
    let section = c.section_in.result in
    inr (unreached_as section.graph.now c.args.found.now.graph.now section.lattice c.args.lattice section.var c.args.var
    c.section_in.ensures.graph c.section_in.ensures.lattice c.section_in.ensures.var
    (c.is_unreached.ensures c.if-is_unreached.true))
