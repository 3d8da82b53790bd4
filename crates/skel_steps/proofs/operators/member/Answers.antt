use Rattle.std.proofs.Common.{false, ◌∙◌, ap}
use Rattle.std.proofs.lemmas.Result.{on_ok_weaker}
use Rattle.qual_types.specs.Skel.{Skel}
use Rattle.row_rules.specs.Vals as vals
use Rattle.row_rules.specs.RowSteps.State as states
use Rattle.skel_steps.specs.Stepping.{tables_of, state_of}
use Rattle.skel_steps.proofs.operators.member.Goals as goal

-- a member puts its place in place of its struct
pub returns : goal.returns
returns c =
    let k = c.args.known.now in
    let st = state_of k c.args.stacks.now in
    on_ok_weaker c.put_place.result (λ put token member w shows. put (tables_of k) ∙
    ap (λ (s : Skel). states.operand_put 1 (states.expression (vals.a_place s) false) st)
    (c.member-found.ensures w shows
    ∙ ap (λ (s : Skel). vals.member_skel w s c.args.name) c.value_at.ensures)) c.put_place.ensures
