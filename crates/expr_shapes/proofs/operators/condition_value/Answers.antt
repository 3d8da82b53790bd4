use Rattle.std.proofs.Common.{Bool, Option, ◌∙◌, ap}
use Rattle.type_table.specs.Types.{CType}
use Rattle.name_rules.specs.Values.{cond_type}
use Rattle.expr_shapes.specs.ShapeValues.Views.{some_value_type}
use Rattle.name_rules.specs.ShapeSteps.State as states
use Rattle.expr_shapes.specs.ShapeStacks.Views.{state_in}
use Rattle.expr_shapes.proofs.operators.condition_value.Goals as goal

-- the value of a condition is of the common type of its last two operands, by which of them is a zero
pub returns : goal.returns
returns c =
    let rows = c.args.types.now in let st = state_in rows c.args.stacks.now in
    let first = some_value_type rows c.value_at-first.result in let second =
    some_value_type rows c.value_at-second.result in
    c.cond.ensures
    ∙ ap (λ (b : Bool). cond_type b c.is_zero_at-last_is_zero.result first second)
    (c.is_zero_at-first_is_zero.ensures rows)
    ∙ ap (λ (b : Bool). cond_type (states.is_zero_at 1 st) b first second) (c.is_zero_at-last_is_zero.ensures rows)
    ∙ ap (λ (v : Option CType). cond_type (states.is_zero_at 1 st) (states.is_zero_at 0 st) v second)
    c.value_at-first.ensures
    ∙ ap (λ (v : Option CType). cond_type (states.is_zero_at 1 st) (states.is_zero_at 0 st) (states.value_at 1 st) v)
    c.value_at-second.ensures
