use Rattle.row_rules.specs.Worlds.{span}
use Rattle.row_rules.specs.Vals as vals
use Rattle.row_rules.specs.Rows as rows
use Rattle.row_rules.specs.RowSteps.State as states
use Rattle.row_world.specs.Shown.{skel}
use Rattle.skel_steps.specs.Stepping.{state_of}
use Rattle.row_world.specs.Shown.{val}
use Rattle.unit_system.proofs.UnitRows.RowLists.{Same, row_added, row_halted}
use Rattle.unit_system.proofs.unit_rows.operators.address_row.Goals as goal

-- `&` at a place that was come to by a pointer adds what the pointer carries, or halts in it
pub returns : goal.returns
returns c =
    let k = c.args.known.now in
    let st = state_of k c.args.stacks.now in
    let same : Same k (λ w. rows.carried w (val k c.val_at-operand.result).skel (skel k c.carried-pointer.result)
    (skel k c.own-own.result) c.span-span.result)
    (λ w. rows.carried w (states.val_at 0 st).skel st.carried (vals.own w c.args.token)
    (span w c.args.token c.args.token)) =
    λ w shows. λ i. rows.carried w (c.val_at-operand.ensures k.types.now i).skel
    (c.carried-pointer.ensures k.types.now i) (c.own-own.ensures w shows i) (c.span-span.ensures w shows i) in
    record {
      ok = row_added c.carried.result k c.args.graph.now c.carried.new.graph _ _ same c.carried.ensures.ok;
      err = row_halted c.carried.result k c.args.graph.now c.carried.new.graph _ _ same c.carried.ensures.err;
    }
