use Rattle.row_rules.specs.Worlds.{span, all_lattices}
use Rattle.row_rules.specs.Vals as vals
use Rattle.row_rules.specs.Rows as rows
use Rattle.row_rules.specs.RowSteps.State as states
use Rattle.row_world.specs.Shown.{skel}
use Rattle.skel_steps.specs.Stepping.{tables_of, state_of}
use Rattle.unit_system.proofs.UnitRows.RowLists.{Same, row_added, row_halted}
use Rattle.unit_system.proofs.unit_rows.picks.candidate_row.Goals as goal

-- a candidate adds its flow into the value of its pick, in all lattices, or halts in it
pub returns : goal.returns
returns c =
    let k = c.args.known.now in
    let t = tables_of k in
    let st = state_of k c.args.stacks.now in
    let d = c.args.depth in
    let same : Same k (λ w. rows.flowing c.is_zero_at-is_zero.result (skel k c.value_at-value.result)
    (skel k c.own-own.result) (all_lattices w) c.span-span.result)
    (λ w. rows.flowing (states.is_zero_at d st) (states.value_at d st) (vals.own w c.args.token) (all_lattices w)
    (span w c.args.token c.args.token)) =
    λ w shows. λ i. rows.flowing (c.is_zero_at-is_zero.ensures t i) (c.value_at-value.ensures i)
    (c.own-own.ensures w shows i) (all_lattices w) (c.span-span.ensures w shows i) in
    record {
      ok = row_added c.flowing_in_all.result k c.args.graph.now c.flowing_in_all.new.graph _ _ same
          c.flowing_in_all.ensures.ok;
      err = row_halted c.flowing_in_all.result k c.args.graph.now c.flowing_in_all.new.graph _ _ same
          c.flowing_in_all.ensures.err;
    }
