use Rattle.std.proofs.Common.{arith, ◌≡◌, [], sym, ap, refl, subst, ◌∙◌}
use Rattle.expr_shapes.specs.ShapeValues.Picks.{IsPicked}
use Rattle.name_rules.specs.ShapeSteps.State.{value_at}
use Rattle.name_rules.specs.ShapeSteps.Steps.{twice, associations}
use Rattle.expr_shapes.specs.ShapeStacks.Views.{state_in}
use Rattle.expr_shapes.specs.Selecting.{picked_on}
use Rattle.expr_shapes.proofs.Choosing.{selected_is}
use Rattle.expr_shapes.proofs.picks.selected.Goals as goal

pub loop-left-init : goal.loop-left-init
loop-left-init c = ([], c.new-picked.ensures c.args.types.now, refl)

-- once no association is left, the candidates are those that a selection by the control's type has
pub returns : goal.returns
returns c = λ t is.
    let rows = c.args.types.now in
    let st = state_in rows c.args.stacks.now in
    let o = value_at (twice c.args.count) st in
    let h = c.has_of_type-has_some.result in
    let known = c.loop-left.invariant in
    let test = c.loop-left-test.false in
    let none : c.loop-left.left ≡ 0 = omega arith in
    subst (λ some. IsPicked rows some c.loop-left.picked)
    (ap (λ n. picked_on h o known.0 (associations n st)) (sym none) ∙ known.2 ∙
    selected_is h o t (associations c.args.count st) is c.has_of_type-has_some.ensures)
    known.1
