use Rattle.std.proofs.Common.{◌≡◌, true, refl, sym, subst}
use Rattle.lattice_core.specs.Order.{leq}
use Rattle.flow_systems.specs.declared.flow_unfolding.assignment.Assignment.{Assignment}
use Rattle.flow_systems.specs.FlowUnfolding.Assignment.{map_of, Raises}
use Rattle.flow_systems.specs.FlowUnfolding.Meeting.{IsLow}
use Rattle.flow_systems.proofs.FlowUnfolding.Low.{begins_inside, step_low, raised_both}
use Rattle.flow_systems.proofs.flow_unfolding.unfolding.step.Goals as goal

-- the element at the begin of a link is one of the lattice
pub raise-requires-clause-elem : goal.raise-requires-clause-elem
raise-requires-clause-elem c =
    rw c.begin_element-elem.ensures
    (begins_inside c.args.graph.now c.args.lattice_no c.args.lattice.now.order c.args.depth (map_of c.args.map.now)
    c.requires.named c.requires.low.elements c.args.at c.constraint-constraint.result.link c.args.sites.now (record {
      constraint = c.constraint-constraint.result;
      there = c.constraint-constraint.ensures.there;
      link_is = refl;
      carried = c.if-not-is_in.ensures.0 refl;
    }))

-- raising the end of a constraint in a copy leaves the assignment at or below each that rises
pub returns-clause-low : goal.returns-clause-low
returns-clause-low c =
    let Low : Assignment → Type 0 =
    λ k. IsLow c.args.graph.now c.args.lattice_no c.args.lattice.now.order c.args.depth (map_of k) in
    raised_both c.raise.result (Raises c.args.lattice.now.order (map_of c.args.map.now)
    (map_of c.raise.new.self) c.end-end.result c.seen_from-copy.result.now c.begin_element-elem.result)
    (c.raise.new.self ≡ c.args.map.now) (leq c.args.lattice.now.order c.begin_element-elem.result
    (map_of c.args.map.now c.end-end.result c.seen_from-copy.result.now) ≡ true) (Low c.raise.new.self) c.raise.ensures
    (step_low c.args.graph.now c.args.lattice_no c.args.lattice.now.order c.args.depth (map_of c.args.map.now)
    (map_of c.raise.new.self) c.requires.order.ordered c.requires.low c.args.at c.constraint-constraint.result.link
    c.args.sites.now (record {
      constraint = c.constraint-constraint.result;
      there = c.constraint-constraint.ensures.there;
      link_is = refl;
      carried = c.if-not-is_in.ensures.0 refl;
    }) (sym c.if-not-stands.ensures) c.end-end.result c.owner.result c.end_sites.result.now c.seen_from-copy.result.now
    c.begin_element-elem.result c.end-end.ensures c.owner.ensures c.end_sites.ensures c.seen_from-copy.ensures
    c.begin_element-elem.ensures) (λ same. subst Low (sym same) c.requires.low)
