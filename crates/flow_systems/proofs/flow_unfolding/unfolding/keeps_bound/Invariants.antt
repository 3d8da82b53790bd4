use Rattle.flow_systems.specs.FlowUnfolding.Assignment.{map_of}
use Rattle.flow_systems.specs.FlowUnfolding.Meeting.{KeepsUpTo}
use Rattle.flow_systems.proofs.flow_unfolding.unfolding.keeps_bound.Given as goal

abbrev pub invariant-loop-string : goal.invariant-loop-string
invariant-loop-string l =
    KeepsUpTo l.graph l.lattice_no l.lattice.order l.depth (map_of l.map) l.at l.strings l.string-index
