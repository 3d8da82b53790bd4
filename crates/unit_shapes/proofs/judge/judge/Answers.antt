use Rattle.std.proofs.Common.{arith, ◌<◌, length, ◌∙◌}
use Rattle.expr_shapes.specs.ShapeStacks.Views.{state_in}
use Rattle.name_tables.specs.UnitSpelling.Spelled.{spelling_of}
use Rattle.unit_shapes.specs.Faults.{some_fault_of}
use Rattle.unit_shapes.specs.Views.{names_in}
use Rattle.unit_shapes.proofs.Judging.{judges_on}
use Rattle.unit_shapes.proofs.judge.judge.Goals as goal

-- one op more: its faults are kept, and its step leads to the stacks for the ops left
pub loop-op-preserved : goal.loop-op-preserved
loop-op-preserved c =
    let rows = c.args.types.now in
    let tape = c.args.tape.now in
    let test = c.loop-op-test.true in
    let within : c.loop-op.op-index < length tape = omega arith in
    judges_on (spelling_of c.args.spelling.now) (names_in rows c.args.names.now) tape c.loop-op.op-index
    c.op-item.result (state_in rows c.loop-op.stacks) (state_in rows c.step.new.stacks) (some_fault_of c.loop-op.best)
    (some_fault_of c.note_faults.new.best) c.op-item.is within c.in_ok-step.ensures c.note_faults.ensures
    ∙ c.loop-op.invariant
