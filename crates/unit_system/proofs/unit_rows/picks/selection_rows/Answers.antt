use Rattle.std.proofs.Common.{◌<◌, arith}
use Rattle.std.proofs.lemmas.Result.{err_from_is_err_and}
use Rattle.skel_steps.specs.Stepping.{state_of}
use Rattle.unit_system.proofs.UnitRows.Picking.{at_begin, at_one_more, at_end, at_one_refused}
use Rattle.unit_system.proofs.unit_rows.picks.selection_rows.Goals as goal

pub loop-number-init : goal.loop-number-init
loop-number-init c =
    λ w shows. at_begin w c.args.token c.args.count (state_of c.args.known.now c.args.stacks.now) c.args.graph.now

-- behind one association more the graph has the flows of the candidates so far
pub loop-number-preserved : goal.loop-number-preserved
loop-number-preserved c = λ w shows.
    let test = c.loop-number-test.true in
    at_one_more w c.args.token c.args.count c.loop-number.number (state_of c.args.known.now c.args.stacks.now)
    c.args.graph.now c.loop-number.graph c.row_where.new.graph c.is_candidate-is.result c.depth_of-depth.result
    (omega arith) (c.is_candidate-is.ensures w shows) c.depth_of-depth.ensures (c.loop-number.invariant w shows)
    (c.in_ok-row_where.ensures.ok w shows)

-- behind the last association the graph has the flows of all candidates of the selection
pub returns : goal.returns
returns c =
    let test = c.loop-number-test.false in
    record {
      ok = λ w shows.
          at_end w c.args.token c.args.count c.loop-number.number (state_of c.args.known.now c.args.stacks.now)
          c.args.graph.now c.loop-number.graph (omega arith) (c.loop-number.invariant w shows);
      err = tt;
    }

-- where the flow of a candidate halts, the selection halts in it
pub returns-in_err-row_where-clause-err : goal.returns-in_err-row_where-clause-err
returns-in_err-row_where-clause-err c =
    let test = c.loop-number-test.true in
    let failed = err_from_is_err_and c.from_residual.result c.from_residual.ensures.1 in
    let lt : c.loop-number.number < c.args.count = omega arith in
    rw (failed.1, failed.2) (λ w shows. at_one_refused w c.args.token c.args.count c.loop-number.number
    (state_of c.args.known.now c.args.stacks.now) c.args.graph.now c.loop-number.graph c.row_where.new.graph
    c.in_err-row_where.field-0.0 c.is_candidate-is.result c.depth_of-depth.result lt (c.is_candidate-is.ensures w shows)
    c.depth_of-depth.ensures (c.loop-number.invariant w shows) (c.in_err-row_where.ensures.err w shows))
