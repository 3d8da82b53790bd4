use Rattle.row_rules.specs.Worlds.{span}
use Rattle.row_rules.specs.Rows as rows
use Rattle.row_rules.specs.RowSteps.State as states
use Rattle.row_world.specs.Shown.{skel}
use Rattle.skel_steps.specs.Stepping.{tables_of, state_of}
use Rattle.unit_system.proofs.UnitRows.RowLists.{Same, row_added, row_halted}
use Rattle.unit_system.proofs.unit_rows.operators.arrow_row.Goals as goal

-- `->` adds the row of the pointer that it follows, or halts in it
pub returns : goal.returns
returns c =
    let k = c.args.known.now in
    let t = tables_of k in
    let st = state_of k c.args.stacks.now in
    let same : Same k (λ w. rows.dereferenced w (skel k c.value_at-at.result) c.args.aims c.span-span.result)
    (λ w. rows.dereferenced w (states.value_at 0 st) c.args.aims (span w c.args.first c.args.last)) =
    λ w shows. λ i. rows.dereferenced w (c.value_at-at.ensures i) c.args.aims (c.span-span.ensures w shows i) in
    record {
      ok = row_added c.dereferenced.result k c.args.graph.now c.dereferenced.new.graph _ _ same
          c.dereferenced.ensures.ok;
      err = row_halted c.dereferenced.result k c.args.graph.now c.dereferenced.new.graph _ _ same
          c.dereferenced.ensures.err;
    }
