use Rattle.flow_query.proofs.Listing.{constant_stands, not_in, not_reached}
use Rattle.flow_query.proofs.ends.constant_at.Goals as goal

-- a constant whose element does not reach the variable is none that leads to it
pub returns-then-not-has_element-clause-none : goal.returns-then-not-has_element-clause-none
returns-then-not-has_element-clause-none c =
    let section = c.args.section.now in
    let constant = c.in_ok-constant.constant in
    not_reached section.graph.now section.lattice c.args.number c.constraint.result c.constraint.ensures.there
    section.var constant.elem constant.at c.leads_are_walks.ensures c.requires.section.owned c.in_ok-constant.ensures
    (λ lead. not_in c.has_element.result c.reached.result constant.elem _ c.has_element.ensures c.reached.ensures
    c.if-not-has_element.true ((c.requires.section.solution.reached section.var constant.elem).1 lead))

-- the variable of a constraint that is a constant is the one that it stands in
pub returns-clause-found : goal.returns-clause-found
returns-clause-found c =
    constant_stands c.args.section.now.graph.now c.args.section.now.lattice c.args.number c.constraint.result
    c.constraint.ensures.there c.in_ok-constant.constant.elem c.in_ok-constant.constant.at c.in_ok-constant.ensures
