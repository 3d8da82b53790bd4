use Rattle.row_rules.specs.Worlds.{span, all_lattices}
use Rattle.row_rules.specs.Vals as vals
use Rattle.row_rules.specs.Rows as rows
use Rattle.row_rules.specs.RowSteps.State as states
use Rattle.row_rules.specs.RowSteps.Steps as steps
use Rattle.skel_steps.specs.Stepping.{state_of}
use Rattle.std.proofs.Common.{◌∷◌, [], ◌∙◌, ap, sym, if◌then◌else◌}
use Rattle.std.proofs.lemmas.List.{append-nil}
use Rattle.unit_system.specs.UnitRows.Picking.{picking_row}
use Rattle.unit_system.proofs.UnitRows.RowLists.{Same, row_added, row_halted, none_added}
use Rattle.unit_system.proofs.unit_rows.picks.row_where.Goals as goal

-- an expression that is a candidate adds its flow into the value of the pick, or halts in it
pub returns-then-is : goal.returns-then-is
returns-then-is c =
    let k = c.args.known.now in
    let st = state_of k c.args.stacks.now in
    let d = c.args.depth in
    let same : Same k (λ w. rows.flowing (states.is_zero_at d st) (states.value_at d st) (vals.own w c.args.token)
    (all_lattices w) (span w c.args.token c.args.token))
    (λ w. picking_row w c.args.token (if c.args.is then steps.candidate_at d st ∷ [] else [])) =
    λ w shows. sym (append-nil (rows.flowing (states.is_zero_at d st) (states.value_at d st) (vals.own w c.args.token)
    (all_lattices w) (span w c.args.token c.args.token))) ∙
    ap (λ b. picking_row w c.args.token (if b then steps.candidate_at d st ∷ [] else [])) (sym c.if-is.true) in
    record {
      ok = row_added c.candidate_row.result k c.args.graph.now c.candidate_row.new.graph _ _ same
          c.candidate_row.ensures.ok;
      err = row_halted c.candidate_row.result k c.args.graph.now c.candidate_row.new.graph _ _ same
          c.candidate_row.ensures.err;
    }

-- an expression that is no candidate adds nothing
pub returns-else-is : goal.returns-else-is
returns-else-is c =
    let k = c.args.known.now in
    let st = state_of k c.args.stacks.now in
    record {
      ok = none_added k c.args.graph.now _ (λ w shows. ap
          (λ b. picking_row w c.args.token (if b then steps.candidate_at c.args.depth st ∷ [] else [])) c.if-is.false);
      err = tt;
    }
