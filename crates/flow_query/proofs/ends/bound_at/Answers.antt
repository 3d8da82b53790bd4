use Rattle.flow_query.proofs.Listing.{bound_stands}
use Rattle.flow_query.proofs.ends.bound_at.Goals as goal

-- the variable of a constraint that is a bound is the one that it bounds
pub returns-clause-found : goal.returns-clause-found
returns-clause-found c =
    bound_stands c.args.section.now.graph.now c.args.section.now.lattice c.args.number c.constraint.result
    c.constraint.ensures.there c.in_ok-bound.bound.elem c.in_ok-bound.bound.at c.in_ok-bound.ensures
