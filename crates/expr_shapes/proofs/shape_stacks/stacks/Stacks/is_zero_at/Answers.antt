use Rattle.std.proofs.Common.{◌≡◌, List, refl, sym, ◌∙◌, ap}
use Rattle.name_rules.specs.ShapeSteps.State as states
use Rattle.expr_shapes.specs.ShapeStacks.Stacked.{Stacked}
use Rattle.expr_shapes.specs.ShapeStacks.Views.{state_in, operand_in}
use Rattle.expr_shapes.proofs.ShapeStacks.Lists.{dropped_viewed, put_viewed}
use Rattle.expr_shapes.proofs.shape_stacks.stacks.Stacks.is_zero_at.Goals as goal

pub returns : goal.returns
returns c = λ rows. c.is_zero.ensures rows ∙ ap states.is_zero_operand (c.operand_at.ensures rows)
