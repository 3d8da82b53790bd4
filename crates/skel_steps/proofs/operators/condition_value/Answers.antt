use Rattle.std.proofs.Common.{◌∙◌}
use Rattle.row_rules.specs.Vals as vals
use Rattle.skel_steps.specs.Stepping.{tables_of, state_of}
use Rattle.skel_steps.proofs.operators.condition_value.Goals as goal

-- the value of a condition is that of the branch by its zeros and skeletons
pub returns : goal.returns
returns c =
    let k = c.args.known.now in
    let st = state_of k c.args.stacks.now in
    λ w shows. c.branch-known.ensures w shows ∙
    (λ i. vals.branch w (c.is_zero_at-first_is_zero.ensures (tables_of k) i) (c.is_zero_at-last_is_zero.ensures
    (tables_of k) i) c.args.token (c.value_at-first.ensures i) (c.value_at-second.ensures i))
