use Rattle.std.proofs.Common.{arith, ◌∷◌, ◌∙◌, ap}
use Rattle.flow_systems.proofs.FlowUnfolding.Longer.{kept_push, added_push, added_all}
use Rattle.flow_systems.proofs.flow_unfolding.strings.add_longer.Goals as goal

pub returns-in_err-push-clause-kept : goal.returns-in_err-push-clause-kept
returns-in_err-push-clause-kept c = λ w there. rw c.in_err-push.ensures.items (c.loop-string.invariant.kept w there)

-- adding the site in front of one more string keeps all that were there
pub loop-string-preserved : goal.loop-string-preserved
loop-string-preserved c = record {
  kept = λ w there. kept_push c.loop-string.all.items c.push.new.self.items _ w c.in_ok-push.ensures.items
      (c.loop-string.invariant.kept w there);
  added = added_push c.loop-string.all.items c.push.new.self.items c.args.strings.now c.args.site
      c.loop-string.string-index c.string-item.result _ c.in_ok-push.ensures.items
      (c.in_ok-string_with.ensures ∙ ap (λ x. c.args.site ∷ x) c.sites.ensures) c.string-item.is
      c.loop-string.invariant.added;
}

pub returns-clause-added : goal.returns-clause-added
returns-clause-added c =
    added_all c.args.strings.now c.loop-string.all.items c.args.site c.loop-string.string-index
    (omega (arith, c.loop-string-test.false)) c.loop-string.invariant.added
