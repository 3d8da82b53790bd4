use Rattle.std.proofs.Common.{◌∙◌, ap}
use Rattle.std.proofs.lemmas.Result.{on_ok_weaker}
use Rattle.name_rules.specs.Values.{Shape}
use Rattle.name_rules.specs.ShapeSteps.State as states
use Rattle.expr_shapes.specs.ShapeStacks.Views.{state_in}
use Rattle.expr_shapes.proofs.operands.extension.Goals as goal

-- `__extension__` leaves the shape of its operand, no longer as a zero
pub returns : goal.returns
returns c =
    on_ok_weaker c.put.result (λ put rows u s token. put rows
    ∙ ap (λ (shape : Shape). states.put 1 shape (state_in rows c.args.stacks.now)) (c.shape_at-shape.ensures rows))
    c.put.ensures
