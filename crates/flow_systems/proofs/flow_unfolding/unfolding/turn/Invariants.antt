use Rattle.std.proofs.Common.{◌≡◌}
use Rattle.std.specs.Bool.{OnFalse}
use Rattle.flow_systems.specs.FlowUnfolding.Assignment.{map_of}
use Rattle.flow_systems.specs.FlowUnfolding.Meeting.{IsLow, AgreesBelow}
use Rattle.flow_systems.proofs.flow_unfolding.unfolding.turn.Given as goal

-- the assignment is low; where nothing grew, it agrees with all constraints before this one
abbrev pub invariant-loop-n : goal.invariant-loop-n
invariant-loop-n l = record {
  low : IsLow l.graph l.lattice_no l.lattice.order l.depth (map_of l.map);
  same : OnFalse l.grew (l.map ≡ l.fn.map);
  agrees : OnFalse l.grew (AgreesBelow l.graph l.lattice_no l.lattice.order l.depth (map_of l.fn.map) l.strings l.n);
}
