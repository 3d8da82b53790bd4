use Rattle.name_rules.specs.ShapeSteps.Steps.{chosen}
use Rattle.expr_shapes.specs.ShapeStacks.Views.{state_in}
use Rattle.unit_starts.proofs.expressions.choice.Goals as goal

pub returns : goal.returns
returns c = c.fresh_pick.ensures (chosen (state_in c.args.types.now c.args.stacks.now)) c.chosen.ensures
