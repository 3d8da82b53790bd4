use Rattle.std.proofs.Common.{Option, ◌∙◌, ap}
use Rattle.std.proofs.lemmas.Result.{on_ok_weaker}
use Rattle.type_table.specs.Types.{CType}
use Rattle.name_rules.specs.Values.{a_value}
use Rattle.name_rules.specs.ShapeSteps.State as states
use Rattle.expr_shapes.specs.ShapeStacks.Views.{state_in}
use Rattle.expr_shapes.proofs.forms.va_arg.Goals as goal

-- a `va_arg` leaves a value of the type on top in place of that and the list
pub returns : goal.returns
returns c =
    on_ok_weaker c.put.result (λ put rows u s token last. put rows
    ∙ ap (λ (t : Option CType). states.put 2 (a_value t) (state_in rows c.args.stacks.now))
    (c.value_of-value.ensures rows ∙ c.type_at.ensures rows)) c.put.ensures
