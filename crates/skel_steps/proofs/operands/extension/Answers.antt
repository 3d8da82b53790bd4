use Rattle.std.proofs.Common.{false, ◌∙◌, ap}
use Rattle.std.proofs.lemmas.Result.{on_ok_weaker}
use Rattle.row_rules.specs.Vals as vals
use Rattle.row_rules.specs.RowSteps.State as states
use Rattle.skel_steps.specs.Stepping.{tables_of, state_of}
use Rattle.skel_steps.proofs.operands.extension.Goals as goal

-- an extension leaves its operand, which is no zero then
pub returns : goal.returns
returns c =
    let k = c.args.known.now in
    let st = state_of k c.args.stacks.now in
    on_ok_weaker c.put.result (λ put token w shows. put (tables_of k) ∙
    ap (λ (v : vals.Val). states.operand_put 1 (states.expression v false) st)
    (c.val_at-val.ensures k.types.now)) c.put.ensures
