use Rattle.flow_systems.specs.FlowUnfolding.Strings.{HasAll}
use Rattle.flow_systems.proofs.flow_unfolding.strings.all_strings.Given as goal

abbrev pub invariant-lengths : goal.invariant-lengths
invariant-lengths l = HasAll l.all.items l.sites l._length
