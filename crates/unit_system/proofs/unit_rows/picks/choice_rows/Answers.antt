use Rattle.row_rules.specs.Worlds.{span, all_lattices}
use Rattle.row_rules.specs.Vals as vals
use Rattle.row_rules.specs.Rows as rows
use Rattle.row_rules.specs.RowSteps.State as states
use Rattle.row_rules.specs.RowSteps.Steps as steps
use Rattle.skel_steps.specs.Stepping.{state_of}
use Rattle.std.proofs.Common.{◌∷◌, []}
use Rattle.std.proofs.lemmas.Result.{err_from_is_err_and}
use Rattle.unit_system.specs.UnitRows.Picking.{picking_row}
use Rattle.unit_system.proofs.UnitRows.RowLists.{rows_added, rows_halted, first_halted}
use Rattle.unit_system.proofs.unit_rows.picks.choice_rows.Goals as goal

-- the two candidates of a choice add their flows into its value, the deeper first
pub returns : goal.returns
returns c =
    let k = c.args.known.now in
    let st = state_of k c.args.stacks.now in
    record {
      ok = rows_added c.row_where.result k c.args.graph.now c.candidate_row.new.graph c.row_where.new.graph
          (λ w. rows.flowing (states.is_zero_at 1 st) (states.value_at 1 st) (vals.own w c.args.token) (all_lattices w)
          (span w c.args.token c.args.token)) (λ w. picking_row w c.args.token (steps.candidate_at 0 st ∷ []))
          c.in_ok-candidate_row.ensures.ok c.row_where.ensures.ok;
      err = rows_halted c.row_where.result k c.args.graph.now c.candidate_row.new.graph c.row_where.new.graph
          (λ w. rows.flowing (states.is_zero_at 1 st) (states.value_at 1 st) (vals.own w c.args.token) (all_lattices w)
          (span w c.args.token c.args.token)) (λ w. picking_row w c.args.token (steps.candidate_at 0 st ∷ []))
          c.in_ok-candidate_row.ensures.ok c.row_where.ensures.err;
    }

-- where the flow of the first candidate halts, the choice halts in it
pub returns-in_err-candidate_row-clause-err : goal.returns-in_err-candidate_row-clause-err
returns-in_err-candidate_row-clause-err c =
    let k = c.args.known.now in
    let st = state_of k c.args.stacks.now in
    let failed = err_from_is_err_and c.from_residual.result c.from_residual.ensures.1 in
    rw (failed.1, failed.2)
    (first_halted k c.args.graph.now c.candidate_row.new.graph c.in_err-candidate_row.field-0.0
    (λ w. rows.flowing (states.is_zero_at 1 st) (states.value_at 1 st) (vals.own w c.args.token) (all_lattices w)
    (span w c.args.token c.args.token))
    (λ w. picking_row w c.args.token (steps.candidate_at 0 st ∷ [])) c.in_err-candidate_row.ensures.err)
