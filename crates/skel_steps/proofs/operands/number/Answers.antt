use Rattle.std.proofs.Common.{Bool, sym, ◌∙◌, ap}
use Rattle.std.proofs.lemmas.Result.{on_ok_weaker}
use Rattle.qual_types.specs.Skel.{Skel}
use Rattle.name_rules.specs.Spellings.{Spelling}
use Rattle.row_rules.specs.Vals as vals
use Rattle.row_rules.specs.RowSteps.State as states
use Rattle.skel_steps.specs.Stepping.{tables_of, state_of}
use Rattle.skel_steps.proofs.operands.number.Goals as goal

-- a number puts its fresh value on the stack, a zero where it is 0
pub returns : goal.returns
returns c =
    let k = c.args.known.now in
    let st = state_of k c.args.stacks.now in
    on_ok_weaker c.put_value.result (λ put w shows. put (tables_of k) ∙
    (ap (λ (s : Skel). states.operand_put 0 (states.expression (vals.a_value s) c.is_naught-is_naught.result) st)
    (c.own-own.ensures w shows)
    ∙ ap (λ (z : Bool). states.operand_put 0 (states.expression (vals.a_value (vals.own w c.args.token)) z) st)
    (c.is_naught-is_naught.ensures ∙ ap (λ (u : Spelling). u.is_naught c.args.token) (sym shows.spelling))))
    c.put_value.ensures
