use Rattle.std.proofs.Common.{option_map, ◌∙◌, ap}
use Rattle.row_rules.specs.Worlds.{span}
use Rattle.row_rules.specs.Rows as rows
use Rattle.row_rules.specs.RowSteps.State as states
use Rattle.row_rules.specs.RowSteps.OpRows as op_rows
use Rattle.row_world.specs.Shown.{skel}
use Rattle.skel_steps.specs.Stepping.{tables_of, state_of}
use Rattle.unit_system.proofs.UnitRows.RowLists.{Same, row_added, row_halted}
use Rattle.unit_system.proofs.unit_rows.flows.return_row.Goals as goal

-- a `return` adds the flow of its value into the result of its function, or halts in it
pub returns : goal.returns
returns c =
    let k = c.args.known.now in
    let t = tables_of k in
    let st = state_of k c.args.stacks.now in
    let same : Same k (λ w. rows.returned w (option_map (skel k) c.function_skeleton-own.result)
    c.is_zero_at-is_zero.result (skel k c.value_at-value.result) c.span-span.result)
    (λ w. rows.returned w (op_rows.function_skeleton w st.rounds.body) (states.is_zero_at 0 st) (states.value_at 0 st)
    (span w c.args.token c.args.last)) =
    λ w shows. λ i.
    rows.returned w ((c.function_skeleton-own.ensures w shows ∙ ap (op_rows.function_skeleton w) (c.body.ensures t)) i)
    (c.is_zero_at-is_zero.ensures t i) (c.value_at-value.ensures i) (c.span-span.ensures w shows i) in
    record {
      ok = row_added c.returned.result k c.args.graph.now c.returned.new.graph _ _ same c.returned.ensures.ok;
      err = row_halted c.returned.result k c.args.graph.now c.returned.new.graph _ _ same c.returned.ensures.err;
    }
