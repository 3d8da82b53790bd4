use Rattle.std.proofs.Common.{false, ◌∙◌, ap}
use Rattle.std.proofs.lemmas.Result.{on_ok_weaker}
use Rattle.row_rules.specs.Vals as vals
use Rattle.row_rules.specs.RowSteps.State as states
use Rattle.row_rules.specs.RowSteps.Steps as steps
use Rattle.skel_steps.specs.Stepping.{tables_of, state_of}
use Rattle.skel_steps.proofs.operators.arrow.Goals as goal

-- `->` puts what its pointer points at in place of this, and notes the pointer where it aims
pub returns : goal.returns
returns c =
    let k = c.args.known.now in
    let st = state_of k c.args.stacks.now in
    on_ok_weaker c.put_value.result (λ put token first last w shows. put (tables_of k) ∙
    (λ i. states.operand_put 1 (states.expression
    (vals.a_value ((c.contents-held.ensures ∙ ap vals.contents c.value_at-pointer.ensures) i)) false)
    ((c.carry.ensures (tables_of k) ∙ (λ j. steps.carrying c.args.aims (c.value_at-pointer.ensures j) st)) i)))
    c.put_value.ensures
