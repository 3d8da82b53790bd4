use Rattle.std.proofs.Common.{◌∙◌, ap}
use Rattle.row_rules.specs.Vals as vals
use Rattle.skel_steps.specs.Stepping.{state_of}
use Rattle.skel_steps.proofs.operands.value_at.Goals as goal

-- the value of an operand at a depth is that of the state's operand there
pub returns : goal.returns
returns c =
    let k = c.args.known.now in
    let st = state_of k c.args.stacks.now in
    c.value.ensures ∙ ap vals.value (c.val_at.ensures k.types.now)
