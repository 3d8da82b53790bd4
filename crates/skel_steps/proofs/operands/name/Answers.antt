use Rattle.std.proofs.Common.{false, ◌∙◌, ap}
use Rattle.std.proofs.lemmas.Result.{on_ok_weaker}
use Rattle.row_rules.specs.Vals as vals
use Rattle.row_rules.specs.RowSteps.State as states
use Rattle.skel_steps.specs.Stepping.{tables_of, state_of}
use Rattle.skel_steps.proofs.operands.name.Goals as goal

-- a name puts what it is used as on the stack
pub returns : goal.returns
returns c =
    let k = c.args.known.now in
    let st = state_of k c.args.stacks.now in
    on_ok_weaker c.put.result (λ put is_called name w shows. put (tables_of k) ∙
    ap (λ (v : vals.Val). states.operand_put 0 (states.expression v false) st)
    (c.used-val.ensures w shows ∙ ap (vals.used w c.args.token) (c.use_at-found.ensures w shows))) c.put.ensures
