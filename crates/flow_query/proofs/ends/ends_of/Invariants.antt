use Rattle.flow_query.specs.Ends.{AreStartsBelow, AreThoseBelow, IsBound, IsConstant}
use Rattle.flow_query.proofs.ends.ends_of.Given as goal

-- invariant of the loop: the constants, the bounds and the starts of the constraints below n are listed
abbrev pub invariant-loop-n : goal.invariant-loop-n
invariant-loop-n l = record {
  constants : AreThoseBelow (IsConstant l.graph l.lattice) l.n l.constants.items;
  bounds : AreThoseBelow (IsBound l.graph l.lattice) l.n l.bounds.items;
  starts : AreStartsBelow l.graph l.lattice l.n l.starts.items;
}
