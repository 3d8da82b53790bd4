use Rattle.std.proofs.Common.{◌≡◌, List, ℕ, length, true, false, refl}
use Rattle.flow_graph.specs.Unfolding.{Assignment, Meets}
use Rattle.flow_systems.specs.FlowUnfolding.Assignment.{map_of}
use Rattle.flow_systems.specs.FlowUnfolding.Strings.{HasAll}
use Rattle.flow_systems.specs.FlowUnfolding.Meeting.{KeepsBelow, IsOver, IsUnmet}
use Rattle.flow_systems.proofs.FlowUnfolding.Rising.{all_kept}
use Rattle.flow_systems.proofs.FlowUnfolding.Low.{met_names, over_unmet}
use Rattle.flow_systems.proofs.FlowUnfolding.Answering.{answered}
use Rattle.flow_systems.proofs.flow_unfolding.unfolding.is_met.Goals as goal

-- where a constant or a bound names no element, no assignment meets the unfolding
pub returns-then-not-names_elements : goal.returns-then-not-names_elements
returns-then-not-names_elements c other meets =
    let names = met_names c.args.graph.now c.args.lattice_no c.args.lattice.now.order c.args.depth other
    c.law.ensures.lattice.ordered meets in
    let wrong : false ≡ true = c.if-not-names_elements.ensures.1 names in cc

pub raise_all-requires-clause-named : goal.raise_all-requires-clause-named
raise_all-requires-clause-named c = c.if-not-names_elements.ensures.0 refl

pub keeps_bounds-requires-clause-named : goal.keeps_bounds-requires-clause-named
keeps_bounds-requires-clause-named c = c.if-not-names_elements.ensures.0 refl

-- the least assignment that rises meets the unfolding where it keeps the bounds, and else none does
pub returns : goal.returns
returns c =
    let map : Assignment = map_of c.raise_all.new.map in
    let strings : List (List ℕ) = c.deref-2.result.now in
    let all : HasAll strings (length c.args.graph.now.sites) c.args.depth =
    rw (c.deref-2.ensures.value, ← c.sites.ensures) c.in_ok-strings.ensures in
    answered c.keeps_bounds.result
    (KeepsBelow c.args.graph.now c.args.lattice_no c.args.lattice.now.order c.args.depth map strings
    (length c.args.graph.now.constraints))
    (IsOver c.args.graph.now c.args.lattice_no c.args.lattice.now.order c.args.depth map)
    ((other : Assignment) × Meets c.args.graph.now c.args.lattice_no c.args.lattice.now.order c.args.depth other)
    (IsUnmet c.args.graph.now c.args.lattice_no c.args.lattice.now.order c.args.depth) c.keeps_bounds.ensures
    (λ keeps. (
      map,
      all_kept c.args.graph.now c.args.lattice_no c.args.lattice.now.order c.args.depth map strings all
          c.in_ok-raise_all.ensures.rises keeps,
    ))
    (over_unmet c.args.graph.now c.args.lattice_no c.args.lattice.now.order c.args.depth map
    c.law.ensures.lattice.ordered c.in_ok-raise_all.ensures.low)
