use Rattle.std.proofs.Common.{◌≡◌, ◌&&◌, true, sym, ap, ◌∙◌}
use Rattle.std.proofs.lemmas.Result.{on_ok_weaker}
use Rattle.name_rules.specs.Values.{Shape, is_base_value, is_no_pointer, is_vector_index}
use Rattle.expr_shapes.specs.ShapeValues.Views.{some_value_type}
use Rattle.name_rules.specs.ShapeSteps.State as states
use Rattle.expr_shapes.specs.ShapeStacks.Views.{state_in}
use Rattle.expr_shapes.proofs.Choosing.{vector_shape}
use Rattle.expr_shapes.proofs.operators.index.Goals as goal

-- an index into a number in wider C leaves the number's shape in place of both
pub returns-then-is_vector_index : goal.returns-then-is_vector_index
returns-then-is_vector_index c =
    let rows = c.args.types.now in
    let st = state_in rows c.args.stacks.now in
    let vector : is_vector_index c.args.wide (states.shape_at 1 st) (states.shape_at 0 st) ≡ true =
    sym (c.is_vector_index.ensures ∙
    ap (λ v. c.args.wide && (is_base_value v && is_no_pointer (some_value_type rows c.value_at-second.result)))
    c.value_at-first.ensures ∙
    ap (λ v. c.args.wide && (is_base_value (states.value_at 1 st) && is_no_pointer v)) c.value_at-second.ensures) ∙
    c.if-is_vector_index.true in
    on_ok_weaker c.put.result (λ put u s token first last aims same. put rows ∙
    ap (λ (shape : Shape). states.put 2 shape st)
    (c.shape_at-shape.ensures rows ∙
    sym (vector_shape c.args.wide u.wide (states.shape_at 1 st) (states.shape_at 0 st) same vector))) c.put.ensures
