use Rattle.std.proofs.Common.{false, ◌∙◌, ap}
use Rattle.std.proofs.lemmas.Result.{on_ok_weaker}
use Rattle.qual_types.specs.Skel.{Skel}
use Rattle.row_rules.specs.Vals as vals
use Rattle.row_rules.specs.RowSteps.State as states
use Rattle.row_world.specs.Shown.{skel}
use Rattle.skel_steps.specs.Stepping.{tables_of, state_of}
use Rattle.skel_steps.proofs.operators.binary_operator.Goals as goal

-- a binary operator puts its value in place of both operands
pub returns : goal.returns
returns c =
    let k = c.args.known.now in
    let st = state_of k c.args.stacks.now in
    on_ok_weaker c.put_value.result (λ put first last w shows. put (tables_of k) ∙
    ap (λ (s : Skel). states.operand_put 2 (states.expression (vals.a_value s) false) st)
    (c.binary-value.ensures
    ∙ (ap (λ (a : Skel). vals.binary_of c.args.sign a (skel k c.value_at-second.result)
    (skel k c.own.result)) c.value_at-first.ensures
    ∙ (ap
    (λ (b : Skel). vals.binary_of c.args.sign (states.value_at 1 st) b (skel k c.own.result)) c.value_at-second.ensures
    ∙ ap (vals.binary_of c.args.sign (states.value_at 1 st) (states.value_at 0 st)) (c.own.ensures w shows)))))
    c.put_value.ensures
