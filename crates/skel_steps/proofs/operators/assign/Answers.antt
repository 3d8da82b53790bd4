use Rattle.std.proofs.Common.{false, ◌∙◌, ap}
use Rattle.std.proofs.lemmas.Result.{on_ok_weaker}
use Rattle.qual_types.specs.Skel.{Skel}
use Rattle.row_rules.specs.Vals as vals
use Rattle.row_rules.specs.RowSteps.State as states
use Rattle.skel_steps.specs.Stepping.{tables_of, state_of}
use Rattle.skel_steps.proofs.operators.assign.Goals as goal

-- an assignment puts what its place holds in place of both operands
pub returns : goal.returns
returns c =
    let k = c.args.known.now in
    let st = state_of k c.args.stacks.now in
    on_ok_weaker c.put_value.result (λ put sign token first last w shows. put (tables_of k) ∙
    ap (λ (s : Skel). states.operand_put 2 (states.expression (vals.a_value s) false) st)
    (c.contents-held.ensures
    ∙ ap (λ (v : vals.Val). vals.contents v.skel) (c.val_at-place.ensures k.types.now))) c.put_value.ensures
