use Rattle.std.proofs.Common.{sym, ap}
use Rattle.row_rules.specs.RowSteps.OpRows as op_rows
use Rattle.skel_steps.specs.Stepping.{state_of}
use Rattle.unit_system.proofs.UnitRows.RowLists.{row_added, row_halted, none_added}
use Rattle.unit_system.proofs.unit_rows.rows.statement_row.Goals as goal

-- the begin of what is not evaluated gives no constraint
pub returns-in-Quiet : goal.returns-in-Quiet
returns-in-Quiet c =
    let k = c.args.known.now in
    let st = state_of k c.args.stacks.now in
    record {
      ok = none_added k c.args.graph.now _ (λ w shows. ap (op_rows.stmt_row w st) c.in-Quiet.is);
      err = tt;
    }

-- the end of what is not evaluated gives no constraint
pub returns-in-Loud : goal.returns-in-Loud
returns-in-Loud c =
    let k = c.args.known.now in
    let st = state_of k c.args.stacks.now in
    record {
      ok = none_added k c.args.graph.now _ (λ w shows. ap (op_rows.stmt_row w st) c.in-Loud.is);
      err = tt;
    }

-- the end of an expression statement or of a condition gives no constraint
pub returns-in-Pop : goal.returns-in-Pop
returns-in-Pop c =
    let k = c.args.known.now in
    let st = state_of k c.args.stacks.now in
    record {
      ok = none_added k c.args.graph.now _ (λ w shows. ap (op_rows.stmt_row w st) c.in-Pop.is);
      err = tt;
    }

-- the op of a `return` with a value adds its row, or halts in it
pub returns-in-Return : goal.returns-in-Return
returns-in-Return c =
    let k = c.args.known.now in
    let st = state_of k c.args.stacks.now in
    record {
      ok = row_added c.return_row.result k c.args.graph.now c.return_row.new.graph _ _
          (λ w shows. ap (op_rows.stmt_row w st) (sym c.in-Return.is)) c.return_row.ensures.ok;
      err = row_halted c.return_row.result k c.args.graph.now c.return_row.new.graph _ _
          (λ w shows. ap (op_rows.stmt_row w st) (sym c.in-Return.is)) c.return_row.ensures.err;
    }

-- the begin of a block gives no constraint
pub returns-in-Enter : goal.returns-in-Enter
returns-in-Enter c =
    let k = c.args.known.now in
    let st = state_of k c.args.stacks.now in
    record {
      ok = none_added k c.args.graph.now _ (λ w shows. ap (op_rows.stmt_row w st) c.in-Enter.is);
      err = tt;
    }

-- the end of a block gives no constraint
pub returns-in-Leave : goal.returns-in-Leave
returns-in-Leave c =
    let k = c.args.known.now in
    let st = state_of k c.args.stacks.now in
    record {
      ok = none_added k c.args.graph.now _ (λ w shows. ap (op_rows.stmt_row w st) c.in-Leave.is);
      err = tt;
    }

-- the begin of the body of a function gives no constraint
pub returns-in-FunctionBody : goal.returns-in-FunctionBody
returns-in-FunctionBody c =
    let k = c.args.known.now in
    let st = state_of k c.args.stacks.now in
    record {
      ok = none_added k c.args.graph.now _ (λ w shows. ap (op_rows.stmt_row w st) c.in-FunctionBody.is);
      err = tt;
    }

-- the end of the body of a function gives no constraint
pub returns-in-FunctionEnd : goal.returns-in-FunctionEnd
returns-in-FunctionEnd c =
    let k = c.args.known.now in
    let st = state_of k c.args.stacks.now in
    record {
      ok = none_added k c.args.graph.now _ (λ w shows. ap (op_rows.stmt_row w st) c.in-FunctionEnd.is);
      err = tt;
    }
