use Rattle.row_rules.specs.Rows as rows
use Rattle.row_rules.specs.RowSteps.Steps as steps
use Rattle.skel_steps.specs.Stepping.{state_of}
use Rattle.std.proofs.lemmas.Result.{err_from_is_err_and}
use Rattle.unit_system.specs.UnitRows.Picking.{picking_row}
use Rattle.unit_system.proofs.UnitRows.RowLists.{rows_added, rows_halted, first_halted}
use Rattle.unit_system.proofs.unit_rows.picks.fresh_selection.Goals as goal

-- the flows of the candidates of a selection come behind what passes inside its value
pub returns : goal.returns
returns c =
    let k = c.args.known.now in
    let st = state_of k c.args.stacks.now in
    record {
      ok = rows_added c.selection_rows.result k c.args.graph.now c.form_here.new.graph c.selection_rows.new.graph
          (λ w. rows.formed_here w c.args.token) (λ w. picking_row w c.args.token
          (steps.selected w c.args.token 0 c.args.count st)) c.in_ok-form_here.ensures.ok c.selection_rows.ensures.ok;
      err = rows_halted c.selection_rows.result k c.args.graph.now c.form_here.new.graph c.selection_rows.new.graph
          (λ w. rows.formed_here w c.args.token) (λ w. picking_row w c.args.token
          (steps.selected w c.args.token 0 c.args.count st)) c.in_ok-form_here.ensures.ok c.selection_rows.ensures.err;
    }

-- where what passes inside the value of a selection halts, its whole row halts there
pub returns-in_err-form_here-clause-err : goal.returns-in_err-form_here-clause-err
returns-in_err-form_here-clause-err c =
    let k = c.args.known.now in
    let st = state_of k c.args.stacks.now in
    let failed = err_from_is_err_and c.from_residual.result c.from_residual.ensures.1 in
    rw (failed.1, failed.2)
    (first_halted k c.args.graph.now c.form_here.new.graph c.in_err-form_here.field-0.0
    (λ w. rows.formed_here w c.args.token)
    (λ w. picking_row w c.args.token (steps.selected w c.args.token 0 c.args.count st)) c.in_err-form_here.ensures.err)
