use Rattle.row_rules.specs.Worlds.{span}
use Rattle.row_rules.specs.Vals as vals
use Rattle.row_rules.specs.Rows as rows
use Rattle.row_rules.specs.RowSteps.State as states
use Rattle.row_world.specs.Shown.{skel}
use Rattle.skel_steps.specs.Stepping.{tables_of, state_of}
use Rattle.unit_system.proofs.UnitRows.RowLists.{Same, row_added, row_halted}
use Rattle.unit_system.proofs.unit_rows.operators.cond_row.Goals as goal

-- a condition adds the flows of both its values into its own, or halts in them
pub returns : goal.returns
returns c =
    let k = c.args.known.now in
    let t = tables_of k in
    let st = state_of k c.args.stacks.now in
    let same : Same k (λ w. rows.chosen w c.is_zero_at-first_is_zero.result c.is_zero_at-last_is_zero.result
    (skel k c.value_at-one.result) (skel k c.value_at-other.result) (skel k c.own-own.result) c.span-span.result)
    (λ w. rows.chosen w (states.is_zero_at 1 st) (states.is_zero_at 0 st) (states.value_at 1 st) (states.value_at 0 st)
    (vals.own w c.args.token) (span w c.args.first c.args.last)) =
    λ w shows. λ i. rows.chosen w (c.is_zero_at-first_is_zero.ensures t i) (c.is_zero_at-last_is_zero.ensures t i)
    (c.value_at-one.ensures i) (c.value_at-other.ensures i) (c.own-own.ensures w shows i)
    (c.span-span.ensures w shows i) in
    record {
      ok = row_added c.chosen.result k c.args.graph.now c.chosen.new.graph _ _ same c.chosen.ensures.ok;
      err = row_halted c.chosen.result k c.args.graph.now c.chosen.new.graph _ _ same c.chosen.ensures.err;
    }
