use Rattle.row_rules.specs.Worlds.{span}
use Rattle.row_rules.specs.Rows as rows
use Rattle.row_rules.specs.RowSteps.State as states
use Rattle.row_world.specs.Shown.{skel}
use Rattle.skel_steps.specs.Stepping.{tables_of, state_of}
use Rattle.unit_system.proofs.UnitRows.RowLists.{Same, row_added, row_halted}
use Rattle.unit_system.proofs.unit_rows.operators.assign_row.Goals as goal

-- an assignment adds the flow of its value into its place, or halts in it
pub returns : goal.returns
returns c =
    let k = c.args.known.now in
    let t = tables_of k in
    let st = state_of k c.args.stacks.now in
    let same : Same k (λ w. rows.assigned w c.args.sign c.is_zero_at-is_zero.result (skel k c.val_at-place.result.skel)
    (skel k c.value_at-value.result) c.span-span.result)
    (λ w. rows.assigned w c.args.sign (states.is_zero_at 0 st) (states.val_at 1 st).skel (states.value_at 0 st)
    (span w c.args.first c.args.last)) =
    λ w shows. λ i. rows.assigned w c.args.sign (c.is_zero_at-is_zero.ensures t i)
    ((c.val_at-place.ensures k.types.now i).skel) (c.value_at-value.ensures i) (c.span-span.ensures w shows i) in
    record {
      ok = row_added c.assigned.result k c.args.graph.now c.assigned.new.graph _ _ same c.assigned.ensures.ok;
      err = row_halted c.assigned.result k c.args.graph.now c.assigned.new.graph _ _ same c.assigned.ensures.err;
    }
