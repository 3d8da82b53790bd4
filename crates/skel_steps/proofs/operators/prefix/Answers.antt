use Rattle.std.proofs.Common.{false, ◌∙◌, ap}
use Rattle.std.proofs.lemmas.Result.{on_ok_weaker}
use Rattle.row_rules.specs.Vals as vals
use Rattle.row_rules.specs.RowSteps.State as states
use Rattle.row_rules.specs.RowSteps.Steps as steps
use Rattle.skel_steps.specs.Stepping.{tables_of, state_of}
use Rattle.skel_steps.proofs.operators.prefix.Goals as goal

-- an operator before its operand puts its value in place of this, and notes a pointer that it comes by
pub returns : goal.returns
returns c =
    let k = c.args.known.now in
    let st = state_of k c.args.stacks.now in
    on_ok_weaker c.put.result (λ put last w shows. put (tables_of k) ∙
    (λ i. states.operand_put 1 (states.expression
    ((c.prefix-val.ensures w shows ∙
    ap (λ (v : vals.Val). vals.prefix_of w c.args.token c.args.sign v c.args.aims)
    (c.val_at-operand.ensures k.types.now)) i) false)
    ((c.carry.ensures (tables_of k) ∙
    (λ j. steps.carrying (c.is_come_by.ensures j)
    ((c.value-pointer.ensures ∙ ap vals.value (c.val_at-operand.ensures k.types.now)) j) st)) i))) c.put.ensures
