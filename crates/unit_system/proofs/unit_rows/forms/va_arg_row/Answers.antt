use Rattle.std.proofs.Common.{option_map}
use Rattle.row_rules.specs.Worlds.{span}
use Rattle.row_rules.specs.Rows as rows
use Rattle.row_rules.specs.RowSteps.State as states
use Rattle.row_world.specs.Shown.{skel, type}
use Rattle.skel_steps.specs.Stepping.{tables_of, state_of}
use Rattle.unit_system.proofs.UnitRows.RowLists.{Same, row_added, row_halted}
use Rattle.unit_system.proofs.unit_rows.forms.va_arg_row.Goals as goal

-- `va_arg` adds the row of what it takes out of its list, or halts in it
pub returns : goal.returns
returns c =
    let k = c.args.known.now in
    let t = tables_of k in
    let st = state_of k c.args.stacks.now in
    let same : Same k (λ w. rows.taken_fresh w c.args.token (option_map (type k) c.type_at-ty.result)
    (skel k c.value_at-list.result) c.span-span.result)
    (λ w. rows.taken_fresh w c.args.token (states.type_at 0 st) (states.value_at 1 st)
    (span w c.args.token c.args.last)) =
    λ w shows. λ i. rows.taken_fresh w c.args.token (c.type_at-ty.ensures t i) (c.value_at-list.ensures i)
    (c.span-span.ensures w shows i) in
    record {
      ok = row_added c.taken_fresh.result k c.args.graph.now c.taken_fresh.new.graph _ _ same c.taken_fresh.ensures.ok;
      err =
          row_halted c.taken_fresh.result k c.args.graph.now c.taken_fresh.new.graph _ _ same c.taken_fresh.ensures.err;
    }
