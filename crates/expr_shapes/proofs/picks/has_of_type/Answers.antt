use Rattle.std.proofs.Common.{arith, ◌-◌, ◌<◌, ◌||◌, sym, ap, ◌∙◌}
use Rattle.name_rules.specs.Values.{has_of_type}
use Rattle.name_rules.specs.ShapeSteps.State.{value_at}
use Rattle.name_rules.specs.ShapeSteps.Steps.{twice, associations}
use Rattle.expr_shapes.specs.ShapeStacks.Views.{state_in}
use Rattle.expr_shapes.proofs.Choosing.{has_next}
use Rattle.expr_shapes.proofs.picks.has_of_type.Goals as goal

-- an association that is not for the type changes nothing of whether one is: those left tell
pub loop-left-preserved : goal.loop-left-preserved
loop-left-preserved c =
    let st = state_in c.args.types.now c.args.stacks.now in
    let t = value_at (twice c.args.count) st in
    let test = c.loop-left-test.true in
    let lt : 0 < c.loop-left.left = omega arith in
    c.loop-left.invariant ∙ has_next t c.loop-left.left st lt ∙
    ap (λ b. b || has_of_type t (associations (c.loop-left.left - 1) st))
    (sym c.is_of_type.ensures ∙ c.if-is_of_type.false)
