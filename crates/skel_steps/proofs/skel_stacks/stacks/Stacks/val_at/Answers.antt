use Rattle.std.proofs.Common.{◌∙◌, ap}
use Rattle.row_rules.specs.RowSteps.State as states
use Rattle.skel_steps.specs.SkelStacks.Views.{tables}
use Rattle.skel_steps.proofs.skel_stacks.stacks.Stacks.val_at.Goals as goal

pub returns : goal.returns
returns c =
    λ types. c.val.ensures types ∙ ap states.val_of_operand (c.operand_at.ensures (tables c.args.vars.now types))
