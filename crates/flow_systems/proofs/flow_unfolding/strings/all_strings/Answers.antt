use Rattle.std.proofs.Common.{[], ◌∷◌, ◌++◌, ◌∙◌, ap}
use Rattle.flow_systems.proofs.FlowUnfolding.Longer.{all_none, all_longer}
use Rattle.flow_systems.proofs.flow_unfolding.strings.all_strings.Goals as goal

pub lengths-init : goal.lengths-init
lengths-init c =
    all_none c.push.new.self.items c.new.result c.args.sites
    (c.in_ok-push.ensures.items ∙ ap (λ k. k ++ c.new.result ∷ []) c.new-all.ensures.items) c.new.ensures

-- with one more site in front the strings are all of one site more
pub lengths-preserved : goal.lengths-preserved
lengths-preserved c =
    all_longer c.lengths.all.items c.in_ok-all.all.items c.args.sites c.lengths._length c.lengths.invariant
    c.in_ok-all.ensures.empty
    (λ s w less there. c.in_ok-all.ensures.added s w less (rw c.deref.ensures.value there))
