use Rattle.std.proofs.Common.{◌≡◌, List, ℕ, sym, ◌∙◌, subst}
use Rattle.std.proofs.lemmas.Bool.{OnFalse_from, OnFalse_at, false≢true}
use Rattle.flow_systems.specs.declared.flow_unfolding.assignment.Assignment.{Assignment}
use Rattle.flow_systems.specs.FlowUnfolding.Assignment.{map_of}
use Rattle.flow_systems.specs.FlowUnfolding.Meeting.{AgreesAt}
use Rattle.flow_systems.proofs.FlowUnfolding.Longer.{true_more}
use Rattle.flow_systems.proofs.flow_unfolding.unfolding.turn_at.Goals as goal
use Rattle.flow_systems.proofs.flow_unfolding.unfolding.turn_at.Goals.{then-branch, else-branch}

-- where nothing grew in one more copy, the assignment agrees there too
pub loop-string-preserved : goal.loop-string-preserved
loop-string-preserved c =
    let At : Assignment → List ℕ → Type 0 =
    λ k x. AgreesAt c.args.graph.now c.args.lattice_no c.args.lattice.now.order c.args.depth (map_of k) c.args.at x in
    record {
      low = c.in_ok-step.ensures.low;
      same = OnFalse_from c.if-branch.grew _ (λ none. elim c.if-branch.branch [
        | then-branch w ↦ absurd (false≢true (sym none ∙ w.grew-is))
        | else-branch w ↦ OnFalse_at w.if-branch.false c.in_ok-step.ensures.same
            ∙ OnFalse_at (sym w.grew-is ∙ none) c.loop-string.invariant.same
      ]);
      agrees = OnFalse_from c.if-branch.grew _ (λ none. elim c.if-branch.branch [
        | then-branch w ↦ absurd (false≢true (sym none ∙ w.grew-is))
        | else-branch w ↦
            let same : c.loop-string.map ≡ c.args.map.now =
            OnFalse_at (sym w.grew-is ∙ none) c.loop-string.invariant.same in
            let here : At c.loop-string.map c.sites.result.now =
            OnFalse_at w.if-branch.false c.in_ok-step.ensures.agrees in
            let Map : Assignment → Type 0 = λ k. At k c.string-item.result in
            let Sites : List ℕ → Type 0 = λ x. At c.loop-string.map x in
            true_more
            (At c.args.map.now) c.args.strings.now c.loop-string.string-index c.string-item.result c.string-item.is
            (OnFalse_at (sym w.grew-is ∙ none) c.loop-string.invariant.agrees)
            (subst Map same (subst Sites c.sites.ensures here))
      ]);
    }
