use Rattle.flow_systems.specs.FlowUnfolding.Assignment.{map_of}
use Rattle.flow_systems.specs.FlowUnfolding.Meeting.{KeepsBelow}
use Rattle.flow_systems.proofs.flow_unfolding.unfolding.keeps_bounds.Given as goal

abbrev pub invariant-loop-bound : goal.invariant-loop-bound
invariant-loop-bound l = KeepsBelow l.graph l.lattice_no l.lattice.order l.depth (map_of l.map) l.strings l.bound
