use Rattle.name_rules.specs.Uses.{use_at}
use Rattle.row_rules.specs.Worlds.{at}
use Rattle.row_rules.specs.Rows as rows
use Rattle.name_state.specs.UnitNames.Shown.{use_of}
use Rattle.unit_system.proofs.UnitRows.RowLists.{Same, row_added, row_halted}
use Rattle.unit_system.proofs.unit_rows.flows.name_row.Goals as goal

-- a name in an expression adds the row of what it is used as, or halts in it
pub returns : goal.returns
returns c =
    let k = c.args.known.now in
    let same : Same k (λ w. rows.use_demand w c.args.token (use_of c.use_at-found.result))
    (λ w. rows.use_demand w c.args.token (use_at w.names.uses (at w c.args.token))) =
    λ w shows. λ i. rows.use_demand w c.args.token (c.use_at-found.ensures w shows i) in
    record {
      ok = row_added c.used.result k c.args.graph.now c.used.new.graph _ _ same c.used.ensures.ok;
      err = row_halted c.used.result k c.args.graph.now c.used.new.graph _ _ same c.used.ensures.err;
    }
