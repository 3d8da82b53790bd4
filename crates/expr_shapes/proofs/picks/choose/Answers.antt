use Rattle.std.proofs.Common.{ap, ◌∙◌}
use Rattle.std.proofs.lemmas.Result.{on_ok_weaker}
use Rattle.name_rules.specs.Values.{Shape}
use Rattle.name_rules.specs.ShapeSteps.State as states
use Rattle.name_rules.specs.ShapeSteps.Steps as steps
use Rattle.expr_shapes.specs.ShapeStacks.Views.{state_in}
use Rattle.expr_shapes.proofs.picks.choose.Goals as goal

-- a choice leaves what is picked of its two operands in their place
pub returns : goal.returns
returns c =
    let rows = c.args.types.now in
    let st = state_in rows c.args.stacks.now in
    on_ok_weaker c.put.result (λ put u s token. put rows ∙
    ap (λ (shape : Shape). states.put 2 shape st)
    (c.shape-shape.ensures rows (steps.chosen st) c.chosen.ensures)) c.put.ensures
