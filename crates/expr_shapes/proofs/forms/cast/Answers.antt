use Rattle.std.proofs.Common.{◌&&◌, Bool, Option, ◌∙◌, ap}
use Rattle.std.proofs.lemmas.Result.{on_ok_weaker}
use Rattle.type_table.specs.Types.{CType}
use Rattle.name_rules.specs.Values.{a_value, is_plain_void_pointer}
use Rattle.name_rules.specs.ShapeSteps.State as states
use Rattle.expr_shapes.specs.ShapeStacks.Views.{state_in}
use Rattle.expr_shapes.proofs.forms.cast.Goals as goal

-- a cast leaves a value of the type named, and stays a zero where the type is plain `void *` and the operand one
pub returns : goal.returns
returns c =
    let rows = c.args.types.now in let st = state_in rows c.args.stacks.now in
    let zero =
    c.is_zero_cast-is_zero.ensures ∙
    ap (λ (t : Option CType). is_plain_void_pointer t && c.is_zero_at.result) c.named_value-value.ensures
    ∙ ap (λ (b : Bool). is_plain_void_pointer (states.type_at 1 st) && b) (c.is_zero_at.ensures rows)
    in
    on_ok_weaker c.put.result (λ put u s token last. put rows
    ∙ ap (λ (t : Option CType). states.operand_put 2 (states.expression (a_value t) c.is_zero_cast-is_zero.result) st)
    c.named_value-value.ensures
    ∙ ap (λ (b : Bool). states.operand_put 2 (states.expression (a_value (states.type_at 1 st)) b) st) zero)
    c.put.ensures
