use Rattle.std.proofs.Common.{◌∙◌, ap}
use Rattle.row_rules.specs.RowSteps.State as states
use Rattle.skel_steps.proofs.skel_stacks.stacks.Stacks.leaf_is_zero.Goals as goal

pub returns : goal.returns
returns c =
    λ t. c.is_zero.ensures t ∙ ap states.is_zero_operand (c.leaf.ensures t)
