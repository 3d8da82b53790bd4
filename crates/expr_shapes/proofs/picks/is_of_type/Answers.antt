use Rattle.std.proofs.Common.{arith, ◌≡◌, ◌+◌, suc, Some, sym, ap, ◌∙◌}
use Rattle.name_rules.specs.Values.{is_of_type}
use Rattle.expr_shapes.specs.ShapeValues.Views.{value_type, some_value_type}
use Rattle.name_rules.specs.ShapeSteps.State.{value_at, type_at}
use Rattle.name_rules.specs.ShapeSteps.Steps.{twice}
use Rattle.expr_shapes.specs.ShapeStacks.Views.{state_in}
use Rattle.expr_shapes.proofs.picks.is_of_type.Goals as goal

-- where the control has a type, an association is for it as the rules say of its own type
pub returns-in-Some : goal.returns-in-Some
returns-in-Some c =
    let rows = c.args.types.now in
    let st = state_in rows c.args.stacks.now in
    let d = c.twice.ensures in
    let e : c.twice.result + 1 ≡ suc (twice c.args.behind) = omega arith in
    c.is_candidate.ensures ∙
    ap (λ o. is_of_type (Some (value_type rows c.in-Some.control)) o)
    (c.type_at-named.ensures rows ∙ ap (λ n. type_at n st) e) ∙
    ap (λ o. is_of_type o (type_at (suc (twice c.args.behind)) st))
    (ap (some_value_type rows) (sym c.in-Some.is) ∙ c.value_at.ensures ∙ ap (λ n. value_at n st) c.twice-2.ensures)
