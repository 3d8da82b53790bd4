use Rattle.std.proofs.Common.{[], ◌∷◌, ap, ◌∙◌, subst, refl}
use Rattle.expr_shapes.specs.ShapeValues.Picks.{IsPicked, candidate_in}
use Rattle.name_rules.specs.ShapeSteps.Steps.{candidate_at}
use Rattle.expr_shapes.specs.ShapeStacks.Views.{state_in}
use Rattle.expr_shapes.proofs.Choosing.{candidate_same}
use Rattle.expr_shapes.proofs.picks.chosen.Goals as goal

-- the summary of a choice is that of its two operands, the deeper one first
pub returns : goal.returns
returns c =
    let rows = c.args.types.now in
    let st = state_in rows c.args.stacks.now in
    subst (λ some. IsPicked rows some c.add-2.new.self)
    (ap (λ it. it ∷ candidate_in rows c.shape_at-2.result c.is_zero_at-2.result ∷ [])
    (candidate_same rows c.shape_at.result c.is_zero_at.result 1 1 st (c.shape_at.ensures rows)
    (c.is_zero_at.ensures rows) refl) ∙
    ap (λ it. candidate_at 1 st ∷ it ∷ []) (candidate_same rows c.shape_at-2.result c.is_zero_at-2.result 0 0 st
    (c.shape_at-2.ensures rows) (c.is_zero_at-2.ensures rows) refl))
    (c.add-2.ensures _ (c.add.ensures [] (c.new-picked.ensures rows)))
