use Rattle.flow_systems.specs.FlowUnfolding.Assignment.{map_of}
use Rattle.flow_systems.specs.FlowUnfolding.Meeting.{IsLow}
use Rattle.flow_systems.proofs.flow_unfolding.unfolding.raise_all.Given as goal

abbrev pub invariant-loop : goal.invariant-loop
invariant-loop l = IsLow l.graph l.lattice_no l.lattice.order l.depth (map_of l.map)
