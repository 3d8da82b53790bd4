use Rattle.std.proofs.Common.{◌++◌}
use Rattle.unit_system.specs.UnitRows.Picking.{picking_row}
use Rattle.row_rules.specs.Worlds.{span}
use Rattle.row_rules.specs.Vals as vals
use Rattle.row_rules.specs.Rows as rows
use Rattle.row_rules.specs.RowSteps.Steps as steps
use Rattle.skel_steps.specs.Stepping.{state_of}
use Rattle.unit_system.proofs.UnitRows.RowLists.{Same, row_added, row_halted, none_added}
use Rattle.unit_system.proofs.UnitRows.Picking.{fresh_row, no_row}
use Rattle.unit_system.proofs.unit_rows.picks.select_row.Goals as goal

-- a selection with a value of its own adds what passes inside it and the flows of its candidates, or halts
pub returns-then-is_fresh : goal.returns-then-is_fresh
returns-then-is_fresh c =
    let k = c.args.known.now in
    let st = state_of k c.args.stacks.now in
    let same : Same k (λ w. rows.formed_here w c.args.token ++ picking_row w c.args.token (steps.selected w c.args.token
    0 c.args.count st)) (λ w. rows.picked w (vals.left_of (steps.selected w c.args.token 0 c.args.count st))
    (vals.own w c.args.token) (span w c.args.token c.args.token)) = λ w shows.
    fresh_row w c.args.token (steps.selected w c.args.token 0 c.args.count st) c.is_fresh.result c.if-is_fresh.true
    (c.is_fresh.ensures k.vars.now (steps.selected w c.args.token 0 c.args.count st)
    (c.selected-picked.ensures w shows)) in
    record {
      ok = row_added c.fresh_selection.result k c.args.graph.now c.fresh_selection.new.graph _ _ same
          c.fresh_selection.ensures.ok;
      err = row_halted c.fresh_selection.result k c.args.graph.now c.fresh_selection.new.graph _ _ same
          c.fresh_selection.ensures.err;
    }

-- a selection without a value of its own adds nothing
pub returns-else-is_fresh : goal.returns-else-is_fresh
returns-else-is_fresh c =
    let k = c.args.known.now in
    let st = state_of k c.args.stacks.now in
    record {
      ok = none_added k c.args.graph.now _ (λ w shows.
          no_row w c.args.token (steps.selected w c.args.token 0 c.args.count st) c.is_fresh.result c.if-is_fresh.false
          (c.is_fresh.ensures k.vars.now (steps.selected w c.args.token 0 c.args.count st)
          (c.selected-picked.ensures w shows)));
      err = tt;
    }
