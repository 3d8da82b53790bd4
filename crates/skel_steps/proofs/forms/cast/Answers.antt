use Rattle.std.proofs.Common.{Bool, ◌∙◌, ap}
use Rattle.std.proofs.lemmas.Result.{on_ok_weaker}
use Rattle.qual_types.specs.Skel.{Skel}
use Rattle.row_rules.specs.Vals as vals
use Rattle.row_rules.specs.RowSteps.State as states
use Rattle.skel_steps.specs.Stepping.{tables_of, state_of}
use Rattle.skel_steps.proofs.forms.cast.Goals as goal

-- a cast puts its fresh value in place of its type and its operand, a zero where it is one
pub returns : goal.returns
returns c =
    let k = c.args.known.now in
    let st = state_of k c.args.stacks.now in
    on_ok_weaker c.put_value.result (λ put last w shows. put (tables_of k) ∙
    (ap (λ (s : Skel). states.operand_put 2 (states.expression (vals.a_value s) c.is_zero_cast-is_zero.result) st)
    (c.own-own.ensures w shows)
    ∙ ap (λ (z : Bool). states.operand_put 2 (states.expression (vals.a_value (vals.own w c.args.token)) z) st)
    c.is_zero_cast-is_zero.ensures)) c.put_value.ensures
