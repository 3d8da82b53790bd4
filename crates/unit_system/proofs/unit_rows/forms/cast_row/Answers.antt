use Rattle.std.proofs.Common.{option_map}
use Rattle.row_rules.specs.Worlds.{span}
use Rattle.row_rules.specs.Vals as vals
use Rattle.row_rules.specs.Rows as rows
use Rattle.row_rules.specs.RowSteps.State as states
use Rattle.row_world.specs.Shown.{skel, type}
use Rattle.skel_steps.specs.Stepping.{tables_of, state_of}
use Rattle.unit_system.proofs.UnitRows.RowLists.{Same, row_added, row_halted}
use Rattle.unit_system.proofs.unit_rows.forms.cast_row.Goals as goal

-- a cast adds the row of its operand and its type, or halts in it
pub returns : goal.returns
returns c =
    let k = c.args.known.now in
    let t = tables_of k in
    let st = state_of k c.args.stacks.now in
    let same : Same k (λ w. rows.cast_demand w (option_map (type k) c.type_at-ty.result) c.is_zero_at-is_zero.result
    (skel k c.value_at-value.result) (skel k c.own-own.result) c.span-span.result)
    (λ w. rows.cast_demand w (states.type_at 1 st) (states.is_zero_at 0 st) (states.value_at 0 st)
    (vals.own w c.args.token) (span w c.args.token c.args.last)) =
    λ w shows. λ i. rows.cast_demand w (c.type_at-ty.ensures t i) (c.is_zero_at-is_zero.ensures t i)
    (c.value_at-value.ensures i) (c.own-own.ensures w shows i) (c.span-span.ensures w shows i) in
    record {
      ok = row_added c.cast.result k c.args.graph.now c.cast.new.graph _ _ same c.cast.ensures.ok;
      err = row_halted c.cast.result k c.args.graph.now c.cast.new.graph _ _ same c.cast.ensures.err;
    }
