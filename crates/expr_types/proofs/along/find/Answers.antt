use Rattle.std.proofs.Common.{◌+◌, List, drop, ◌∙◌, ap}
use Rattle.name_rules.specs.ShapeSteps.State.{State}
use Rattle.name_rules.specs.ShapeSteps.Steps.{step}
use Rattle.expr_shapes.specs.ShapeStacks.Views.{state_in}
use Rattle.name_tables.specs.PlaceMap.Values.{or_else}
use Rattle.name_tables.specs.UnitSpelling.Spelled.{spelling_of}
use Rattle.unit_shapes.specs.Views.{names_in}
use Rattle.expr_types.specs.Along.{Keyed, op_shape, keyed, shapes_along, first_at}
use Rattle.expr_types.specs.Keys.{op_key}
use Rattle.expr_types.specs.Views.{found_at}
use Rattle.expr_types.proofs.Adding.{goes_on, next_op}
use Rattle.expr_types.proofs.along.find.Goals as goal

-- one op more: what it ends is added at its key, and the ops behind it are still to come
pub loop-op-preserved : goal.loop-op-preserved
loop-op-preserved c = λ at.
    let rows = c.args.types.now in
    let u = spelling_of c.args.spelling.now in
    let s = names_in rows c.args.names.now in
    let before = state_in rows c.loop-op.stacks in
    let op = c.op-item.result in
    let i = c.loop-op.op-index in
    let known = found_at rows c.loop-op.found at in
    let added = found_at rows c.pass.new.found at in
    let behind = drop (i + 1) c.args.tape.now in
    ap (λ (st : State). or_else added (first_at (shapes_along u s st behind) at)) c.in_ok-pass.ensures.passed
    ∙ goes_on known added (keyed u (op_key op) (op_shape before (step u s before op) op))
    (shapes_along u s (step u s before op) behind) at (c.in_ok-pass.ensures.ended at)
    ∙ ap (λ (it : List Keyed). or_else known (first_at it at))
    (next_op u s c.args.tape.now i op before c.op-item.is c.loop-op-test.true)
    ∙ c.loop-op.invariant at
