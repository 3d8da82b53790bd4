use Rattle.std.proofs.Common.{◌≡◌, drop}
use Rattle.flow_systems.specs.FlowUnfolding.Copies.{is_call_string}
use Rattle.flow_systems.proofs.flow_unfolding.copies.is_call_string.Given as goal

abbrev pub invariant-loop-site : goal.invariant-loop-site
invariant-loop-site l =
    is_call_string l.graph l.fn.owner l.sites ≡ is_call_string l.graph l.inner (drop l.site-index l.sites)
