use Rattle.std.proofs.Common.{[], ◌∷◌, ◌++◌, sym, ap, ◌∙◌, subst}
use Rattle.expr_shapes.specs.ShapeValues.Picks.{IsPicked}
use Rattle.name_rules.specs.ShapeSteps.Steps.{twice, candidate_at}
use Rattle.expr_shapes.specs.ShapeStacks.Views.{state_in}
use Rattle.expr_shapes.specs.Selecting.{with_candidate}
use Rattle.expr_shapes.proofs.Choosing.{candidate_same}
use Rattle.expr_shapes.proofs.picks.add_where.Goals as goal

-- the expression of an association that is a candidate is one candidate more
pub returns-then-is : goal.returns-then-is
returns-then-is c = λ all p.
    let rows = c.args.types.now in
    let st = state_in rows c.args.stacks.now in
    subst (λ some. IsPicked rows some c.add.new.self)
    (ap (λ it. all ++ it ∷ [])
    (candidate_same rows c.shape_at.result c.is_zero_at.result c.twice-depth.result (twice c.args.behind) st
    (c.shape_at.ensures rows) (c.is_zero_at.ensures rows) c.twice-depth.ensures) ∙
    ap (λ b. with_candidate b all (candidate_at (twice c.args.behind) st)) (sym c.if-is.true))
    (c.add.ensures all p)
