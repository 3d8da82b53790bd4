use Rattle.std.proofs.Common.{ℕ, ◌+◌, ◌<◌, List, length, drop, get_or, sym, ◌∙◌, ap, subst}
use Rattle.flow_systems.specs.declared.flow_unfolding.assignment.Change.{Change}
use Rattle.flow_systems.specs.FlowUnfolding.Assignment.{last_change}
use Rattle.flow_systems.proofs.FlowUnfolding.Changes.{last-step}
use Rattle.flow_systems.proofs.flow_unfolding.assignment.Assignment.get.Goals as goal

-- one more change is the last of this copy so far, or is of another copy
pub loop-change-preserved : goal.loop-change-preserved
loop-change-preserved c =
    let items : List Change = c.args.self.now.changes.items in
    let i : ℕ = c.loop-change.change-index in
    let Short : List Change → Type 0 = λ k. i < length k in
    c.loop-change.invariant
    ∙ last-step items i c.loop-change.elem c.args.at c.args.sites.now c.change-item.result
    (subst Short c.deref-change-items.ensures.value c.loop-change-test.true)
    (c.change-item.is ∙ ap (λ k. get_or k i c.change-item.result) c.deref-change-items.ensures.value)
    ∙ ap (λ e. last_change (drop (i + 1) items) e c.args.at c.args.sites.now) (sym c.element_or-elem.ensures)
