use Rattle.std.proofs.Common.{refl}
use Rattle.flow_systems.proofs.FlowUnfolding.Changes.{last-push}
use Rattle.flow_systems.proofs.flow_unfolding.assignment.Assignment.set.Goals as goal

pub returns : goal.returns
returns c = λ v w. rw (c.in_ok-push.ensures.items, last-push, c.in_ok-sites.ensures) refl
