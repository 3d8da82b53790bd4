use Rattle.std.proofs.Common.{arith, ◌≡◌, ◌<◌, length, subst, ◌∙◌}
use Rattle.name_rules.specs.ShapeSteps.Steps.{step}
use Rattle.expr_shapes.specs.ShapeStacks.Views.{state_in}
use Rattle.name_tables.specs.UnitSpelling.Spelled.{spelling_of}
use Rattle.unit_shapes.specs.Views.{names_in}
use Rattle.c_names.proofs.Ending.{shapes_on}
use Rattle.c_names.proofs.part.shape_of.Goals as goal

-- the shapes along the ops left stay those along all ops, where a step is made over one op more
pub loop-op-preserved : goal.loop-op-preserved
loop-op-preserved c =
    let rows = c.args.types.now in
    let u = spelling_of c.args.spelling.now in
    let s = names_in rows c.args.names.now in
    let test = c.loop-op-test.true in
    let within : c.loop-op.op-index < length c.args.ops.now = omega arith in
    shapes_on u s c.args.ops.now c.loop-op.op-index c.op-item.result (state_in rows c.loop-op.stacks)
    (state_in rows c.step.new.stacks) c.op-item.is within
    (subst (λ rows. state_in rows c.step.new.stacks ≡ step u (names_in rows c.args.names.now)
    (state_in rows c.loop-op.stacks) c.op-item.result) c.table.ensures c.in_ok-step.ensures) ∙ c.loop-op.invariant
