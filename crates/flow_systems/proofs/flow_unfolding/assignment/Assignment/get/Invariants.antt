use Rattle.std.proofs.Common.{◌≡◌, drop}
use Rattle.flow_systems.specs.FlowUnfolding.Assignment.{last_change}
use Rattle.flow_systems.proofs.flow_unfolding.assignment.Assignment.get.Given as goal

abbrev pub invariant-loop-change : goal.invariant-loop-change
invariant-loop-change l =
    last_change l.self.changes.items l.self.start l.at l.sites
    ≡ last_change (drop l.change-index l.self.changes.items) l.elem l.at l.sites
