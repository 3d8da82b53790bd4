use Rattle.std.proofs.Common.{false, ◌∙◌, ap}
use Rattle.std.proofs.lemmas.Result.{on_ok_weaker}
use Rattle.qual_types.specs.Skel.{Skel}
use Rattle.row_rules.specs.Vals as vals
use Rattle.row_rules.specs.RowSteps.State as states
use Rattle.skel_steps.specs.Stepping.{tables_of, state_of}
use Rattle.skel_steps.proofs.operands.put_own.Goals as goal

-- the fresh value at a token takes the place of so many operands
pub returns : goal.returns
returns c =
    let k = c.args.known.now in
    let st = state_of k c.args.stacks.now in
    on_ok_weaker c.put_value.result (λ put w shows. put (tables_of k) ∙
    ap (λ (s : Skel). states.operand_put c.args.count (states.expression (vals.a_value s) false) st)
    (c.own.ensures w shows)) c.put_value.ensures
