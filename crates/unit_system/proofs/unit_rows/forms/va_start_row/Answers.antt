use Rattle.std.proofs.Common.{option_map, ◌∙◌, ap}
use Rattle.row_rules.specs.Worlds.{span}
use Rattle.row_rules.specs.Rows as rows
use Rattle.row_rules.specs.RowSteps.State as states
use Rattle.row_rules.specs.RowSteps.OpRows as op_rows
use Rattle.row_world.specs.Shown.{skel}
use Rattle.skel_steps.specs.Stepping.{tables_of, state_of}
use Rattle.unit_system.proofs.UnitRows.RowLists.{Same, row_added, row_halted}
use Rattle.unit_system.proofs.unit_rows.forms.va_start_row.Goals as goal

-- `va_start` adds the flow of the function's further arguments into its list, or halts in it
pub returns : goal.returns
returns c =
    let k = c.args.known.now in
    let t = tables_of k in
    let st = state_of k c.args.stacks.now in
    let same : Same k (λ w. rows.started w (option_map (skel k) c.function_skeleton-own.result)
    (skel k c.value_at-list.result) c.span-span.result)
    (λ w. rows.started w (op_rows.function_skeleton w st.rounds.body) (states.value_at 1 st)
    (span w c.args.token c.args.last)) =
    λ w shows. λ i.
    rows.started w ((c.function_skeleton-own.ensures w shows ∙ ap (op_rows.function_skeleton w) (c.body.ensures t)) i)
    (c.value_at-list.ensures i) (c.span-span.ensures w shows i) in
    record {
      ok = row_added c.started.result k c.args.graph.now c.started.new.graph _ _ same c.started.ensures.ok;
      err = row_halted c.started.result k c.args.graph.now c.started.new.graph _ _ same c.started.ensures.err;
    }
