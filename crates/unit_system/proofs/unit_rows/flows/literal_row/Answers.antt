use Rattle.std.proofs.Common.{option_map}
use Rattle.row_rules.specs.Rows as rows
use Rattle.row_rules.specs.RowSteps.State as states
use Rattle.row_world.specs.Shown.{type}
use Rattle.skel_steps.specs.Stepping.{tables_of, state_of}
use Rattle.unit_system.proofs.UnitRows.RowLists.{Same, row_added, row_halted}
use Rattle.unit_system.proofs.unit_rows.flows.literal_row.Goals as goal

-- a compound literal adds the row of its type, or halts in it
pub returns : goal.returns
returns c =
    let k = c.args.known.now in
    let t = tables_of k in
    let st = state_of k c.args.stacks.now in
    let same : Same k (λ w. rows.literal_row w c.args.token (option_map (type k) c.type_below-ty.result))
    (λ w. rows.literal_row w c.args.token (states.type_of_operand (states.first_operand (states.operands_below st)))) =
    λ w shows. λ i. rows.literal_row w c.args.token (c.type_below-ty.ensures t i) in
    record {
      ok = row_added c.literal.result k c.args.graph.now c.literal.new.graph _ _ same c.literal.ensures.ok;
      err = row_halted c.literal.result k c.args.graph.now c.literal.new.graph _ _ same c.literal.ensures.err;
    }
