use Rattle.std.proofs.Common.{◌∙◌, ap}
use Rattle.std.proofs.lemmas.Result.{on_ok_weaker}
use Rattle.name_rules.specs.Values.{Shape}
use Rattle.name_rules.specs.Uses.{assigned_shape}
use Rattle.name_rules.specs.ShapeSteps.State as states
use Rattle.expr_shapes.specs.ShapeStacks.Views.{state_in}
use Rattle.expr_shapes.proofs.operators.assign.Goals as goal

-- an assignment leaves what it makes of its left operand in place of both
pub returns : goal.returns
returns c =
    on_ok_weaker c.put.result (λ put rows u s sign token first last. put rows
    ∙ ap (λ (shape : Shape). states.put 2 shape (state_in rows c.args.stacks.now))
    (c.assigned-shape.ensures rows ∙ ap assigned_shape (c.shape_at.ensures rows))) c.put.ensures
