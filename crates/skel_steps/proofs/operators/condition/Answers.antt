use Rattle.std.proofs.Common.{ℕ, false, ◌∙◌, ap, if◌then◌else◌}
use Rattle.std.proofs.lemmas.Result.{on_ok_weaker}
use Rattle.qual_types.specs.Skel.{Skel}
use Rattle.row_rules.specs.Vals as vals
use Rattle.row_rules.specs.RowSteps.State as states
use Rattle.row_world.specs.Shown.{skel}
use Rattle.skel_steps.specs.Stepping.{tables_of, state_of}
use Rattle.skel_steps.proofs.operators.condition.Goals as goal

-- a condition puts its value in place of its two or three operands
pub returns : goal.returns
returns c =
    let k = c.args.known.now in
    let st = state_of k c.args.stacks.now in
    on_ok_weaker c.put_value.result (λ put first last w shows. put (tables_of k) ∙
    (ap (λ (n : ℕ). states.operand_put n (states.expression (vals.a_value (skel k c.condition_value-value.result))
    false) st) c.operand_count-count.ensures ∙ ap (λ (s : Skel). states.operand_put (if c.args.has_middle then 3 else 2)
    (states.expression (vals.a_value s) false) st) (c.condition_value-value.ensures w shows))) c.put_value.ensures
