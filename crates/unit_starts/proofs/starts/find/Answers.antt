use Rattle.std.proofs.Common.{map, refl}
use Rattle.expr_shapes.specs.ShapeStacks.Views.{state_in}
use Rattle.name_tables.specs.UnitSpelling.Spelled.{spelling_of}
use Rattle.unit_shapes.specs.Views.{names_in}
use Rattle.unit_starts.specs.Views.{start_in}
use Rattle.unit_starts.proofs.Selecting.{at_first, at_next, at_last, begun_next, begun_last}
use Rattle.unit_starts.proofs.starts.find.Goals as goal

-- before the first op no skeleton is found, and all are to come
pub loop-op-init : goal.loop-op-init
loop-op-init c =
    let rows = c.args.types.now in (
      refl,
      at_first (spelling_of c.args.spelling.now) (names_in rows c.args.names.now) (state_in rows c.args.stacks.now)
          c.args.tape.now c.args.candidates.now,
    )

-- one op more keeps the skeletons found and still to come those of the tape, and its selections added
pub loop-op-preserved : goal.loop-op-preserved
loop-op-preserved c =
    let rows = c.args.types.now in
    let u = spelling_of c.args.spelling.now in
    let s = names_in rows c.args.names.now in
    let st = state_in rows c.loop-op.stacks in
    let done = c.in_ok-pass.ensures in (
      begun_next u s (map (start_in rows) c.loop-op.found) (map (start_in rows) c.pass.new.found) _ st
          (state_in rows c.pass.new.stacks) c.loop-op.rounds c.pass.new.rounds c.args.tape.now c.loop-op.op-index
          c.op-item.result c.op-item.is c.loop-op-test.true c.loop-op.invariant.0 done.starts done.rounds done.stacks,
      at_next u s (state_in rows c.args.stacks.now) st
          (state_in rows c.pass.new.stacks) c.args.tape.now c.loop-op.op-index
          c.op-item.result c.args.candidates.now c.loop-op.candidates c.pass.new.candidates c.op-item.is
          c.loop-op-test.true c.loop-op.invariant.1 done.selections done.stacks,
    )

-- behind the last op the skeletons and the selections are those of the whole tape
pub returns : goal.returns
returns c =
    let rows = c.args.types.now in
    let u = spelling_of c.args.spelling.now in
    let s = names_in rows c.args.names.now in
    record {
      starts = begun_last u s (map (start_in rows) c.loop-op.found) _ (state_in rows c.loop-op.stacks) c.loop-op.rounds
          c.args.tape.now c.loop-op.op-index c.loop-op-test.false c.loop-op.invariant.0;
      selections = at_last u s (state_in rows c.args.stacks.now) (state_in rows c.loop-op.stacks) c.args.tape.now
          c.loop-op.op-index c.args.candidates.now c.loop-op.candidates c.loop-op-test.false c.loop-op.invariant.1;
    }
