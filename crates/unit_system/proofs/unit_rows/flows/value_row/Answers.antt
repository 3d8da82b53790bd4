use Rattle.std.proofs.Common.{option_map, ◌∙◌, ap}
use Rattle.name_rules.specs.ShapeSteps.State.{declared_last}
use Rattle.row_rules.specs.Worlds.{span}
use Rattle.row_rules.specs.RowSteps.State as states
use Rattle.row_rules.specs.RowSteps.Steps as steps
use Rattle.row_rules.specs.RowSteps.OpRows as op_rows
use Rattle.row_world.specs.Shown.{skel, val}
use Rattle.row_adding.specs.Parts.{into_some}
use Rattle.skel_steps.specs.Stepping.{tables_of, state_of}
use Rattle.unit_system.proofs.UnitRows.RowLists.{Same, into_same, row_added, row_halted}
use Rattle.unit_system.proofs.unit_rows.flows.value_row.Goals as goal

-- an initialiser adds the flow of its value into the name declared last, or halts in it
pub returns : goal.returns
returns c =
    let k = c.args.known.now in
    let t = tables_of k in
    let st = state_of k c.args.stacks.now in
    let parts : Same k (λ w. into_some w (option_map (skel k) c.initialised_by-target.result)
    c.is_zero_at-is_zero.result (val k c.val_at-operand.result) c.span-span.result)
    (λ w. into_some w (steps.initialised_by w (declared_last st.declarations))
    (states.is_zero_operand (states.first_operand st.operands))
    (states.val_of_operand (states.first_operand st.operands)) (span w c.args.first c.args.last)) =
    λ w shows. λ i. into_some w
    ((c.initialised_by-target.ensures w shows ∙ ap (steps.initialised_by w) (c.declared_last-token.ensures t)) i)
    (c.is_zero_at-is_zero.ensures t i) (c.val_at-operand.ensures k.types.now i) (c.span-span.ensures w shows i) in
    let same : Same k (λ w. into_some w (option_map (skel k) c.initialised_by-target.result) c.is_zero_at-is_zero.result
    (val k c.val_at-operand.result) c.span-span.result)
    (λ w. op_rows.into_target w (steps.initialised_by w (declared_last st.declarations))
    (states.first_operand st.operands) (span w c.args.first c.args.last)) =
    λ w shows. parts w shows ∙ into_same w (steps.initialised_by w (declared_last st.declarations))
    (states.first_operand st.operands) (span w c.args.first c.args.last) in
    record {
      ok = row_added c.into_target.result k c.args.graph.now c.into_target.new.graph _ _ same c.into_target.ensures.ok;
      err =
          row_halted c.into_target.result k c.args.graph.now c.into_target.new.graph _ _ same c.into_target.ensures.err;
    }
