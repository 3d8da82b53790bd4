use Rattle.std.proofs.Common.{◌≡◌}
use Rattle.std.specs.Bool.{OnFalse}
use Rattle.flow_systems.specs.FlowUnfolding.Assignment.{map_of}
use Rattle.flow_systems.specs.FlowUnfolding.Meeting.{IsLow, AgreesUpTo}
use Rattle.flow_systems.proofs.flow_unfolding.unfolding.turn_at.Given as goal

-- the assignment is low; where nothing grew, it agrees in all copies before this one
abbrev pub invariant-loop-string : goal.invariant-loop-string
invariant-loop-string l = record {
  low : IsLow l.graph l.lattice_no l.lattice.order l.depth (map_of l.map);
  same : OnFalse l.grew (l.map ≡ l.fn.map);
  agrees : OnFalse l.grew
      (AgreesUpTo l.graph l.lattice_no l.lattice.order l.depth (map_of l.fn.map) l.at l.strings l.string-index);
}
