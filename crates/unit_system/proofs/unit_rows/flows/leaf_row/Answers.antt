use Rattle.std.proofs.Common.{option_map, ◌∙◌, ap}
use Rattle.row_rules.specs.Worlds.{span}
use Rattle.row_rules.specs.RowSteps.State as states
use Rattle.row_rules.specs.RowSteps.Steps as steps
use Rattle.row_rules.specs.RowSteps.OpRows as op_rows
use Rattle.row_world.specs.Shown.{skel, val}
use Rattle.row_adding.specs.Parts.{into_some}
use Rattle.skel_steps.specs.Stepping.{tables_of, state_of}
use Rattle.unit_system.proofs.UnitRows.RowLists.{Same, into_same, row_added, row_halted}
use Rattle.unit_system.proofs.unit_rows.flows.leaf_row.Goals as goal

-- a value in braces adds its flow into the member or element that is next, or halts in it
pub returns : goal.returns
returns c =
    let k = c.args.known.now in
    let t = tables_of k in
    let st = state_of k c.args.stacks.now in
    let parts : Same k (λ w. into_some w (option_map (skel k) c.target_in-target.result) c.leaf_is_zero-is_zero.result
    (val k c.leaf_val-operand.result) c.span-span.result)
    (λ w. into_some w (steps.target_in w (states.first_braces st.braces))
    (states.is_zero_operand (states.first_operand st.leaves)) (states.val_of_operand (states.first_operand st.leaves))
    (span w c.args.first c.args.last)) =
    λ w shows. λ i.
    into_some w ((c.target_in-target.ensures w shows ∙ ap (steps.target_in w) (c.braces-it.ensures t)) i)
    (c.leaf_is_zero-is_zero.ensures t i) (c.leaf_val-operand.ensures k.types.now i) (c.span-span.ensures w shows i) in
    let same : Same k (λ w. into_some w (option_map (skel k) c.target_in-target.result) c.leaf_is_zero-is_zero.result
    (val k c.leaf_val-operand.result) c.span-span.result)
    (λ w. op_rows.into_target w (steps.target_in w (states.first_braces st.braces)) (states.first_operand st.leaves)
    (span w c.args.first c.args.last)) =
    λ w shows. parts w shows ∙ into_same w (steps.target_in w (states.first_braces st.braces))
    (states.first_operand st.leaves) (span w c.args.first c.args.last) in
    record {
      ok = row_added c.into_target.result k c.args.graph.now c.into_target.new.graph _ _ same c.into_target.ensures.ok;
      err =
          row_halted c.into_target.result k c.args.graph.now c.into_target.new.graph _ _ same c.into_target.ensures.err;
    }
