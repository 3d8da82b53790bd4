use Rattle.std.proofs.Common.{◌<◌, ◌≤◌, List, length, take, drop, suc, ◌∙◌, ap, subst, arith}
use Rattle.std.proofs.lemmas.Result.{err_from_is_err_and}
use Rattle.tape_ops.specs.declared.op.Op.{Op}
use Rattle.flow_rules.specs.Adding.{with}
use Rattle.row_rules.specs.RowSteps.State.{nothing}
use Rattle.row_rules.specs.RowSteps.Found.{rows_found}
use Rattle.skel_steps.specs.Stepping.{state_of}
use Rattle.unit_system.proofs.UnitRows.Looping.{Reached, at_first, at_next, at_refused, at_want, split_at, one_more, all_taken}
use Rattle.unit_system.proofs.unit_rows.adding.add_rows.Goals as goal

-- before the first op the graph is as it was, and the stacks are empty
pub loop-op-init : goal.loop-op-init
loop-op-init c = λ w shows.
    at_first w c.args.graph.now (state_of c.args.known.now c.new-stacks.result)
    (ap (state_of c.args.known.now) c.new-stacks.ensures)

-- behind one op more the graph has the rows of the ops so far, and the stacks their state
pub loop-op-preserved : goal.loop-op-preserved
loop-op-preserved c =
    let k = c.args.known.now in
    let tape = c.args.tape.now in
    let op = c.op-item.result in
    let test = c.loop-op-test.true in
    let within : c.loop-op.op-index < length tape = omega arith in
    λ w shows. subst
    (λ (ops : List Op). Reached w c.args.graph.now c.add_row.new.graph (state_of k c.pass.new.stacks) ops)
    (one_more tape c.loop-op.op-index op c.op-item.is within)
    (at_next w c.args.graph.now c.loop-op.graph c.add_row.new.graph (state_of k c.loop-op.stacks)
    (state_of k c.pass.new.stacks) (take c.loop-op.op-index tape) op (c.loop-op.invariant w shows)
    (c.in_ok-add_row.ensures.ok w shows) (c.in_ok-pass.ensures.ok w shows))

-- behind the last op the graph has the rows of the whole tape
pub returns : goal.returns
returns c =
    let tape = c.args.tape.now in
    let test = c.loop-op-test.false in
    let past : length tape ≤ c.loop-op.op-index = omega arith in
    record {
      ok = λ w shows. (c.loop-op.invariant w shows).rows
          ∙ ap (λ (ops : List Op). with c.args.graph.now (rows_found w nothing ops))
          (all_taken tape c.loop-op.op-index past);
      err = tt;
    }

-- where the row of an op halts, the rows of the tape halt in it
pub returns-in_err-add_row-clause-err : goal.returns-in_err-add_row-clause-err
returns-in_err-add_row-clause-err c =
    let k = c.args.known.now in
    let tape = c.args.tape.now in
    let op = c.op-item.result in
    let test = c.loop-op-test.true in
    let within : c.loop-op.op-index < length tape = omega arith in
    let failed = err_from_is_err_and c.from_residual.result c.from_residual.ensures.1 in
    rw (failed.1, failed.2)
    (λ w shows. at_refused w c.args.graph.now c.loop-op.graph c.add_row.new.graph c.in_err-add_row.field-0.0
    (state_of k c.loop-op.stacks) (take c.loop-op.op-index tape) (drop (suc c.loop-op.op-index) tape) tape op
    (c.loop-op.invariant w shows) (split_at tape c.loop-op.op-index op c.op-item.is within)
    (c.in_err-add_row.ensures.err w shows))

-- where the stacks want memory behind an op, the rows of the tape halt behind its row
pub returns-in_err-pass-clause-err : goal.returns-in_err-pass-clause-err
returns-in_err-pass-clause-err c =
    let k = c.args.known.now in
    let tape = c.args.tape.now in
    let op = c.op-item.result in
    let test = c.loop-op-test.true in
    let within : c.loop-op.op-index < length tape = omega arith in
    let failed = err_from_is_err_and c.from_residual-in_err-pass.result c.from_residual-in_err-pass.ensures.1 in
    rw (failed.1, failed.2)
    (λ w shows. at_want w c.args.graph.now c.loop-op.graph c.add_row.new.graph c.in_err-pass.field-0.0
    (state_of k c.loop-op.stacks) (take c.loop-op.op-index tape) (drop (suc c.loop-op.op-index) tape) tape op
    (c.loop-op.invariant w shows) (split_at tape c.loop-op.op-index op c.op-item.is within)
    (c.in_ok-add_row.ensures.ok w shows) c.in_err-pass.ensures.err)
