use Rattle.std.proofs.Common.{Bool, [], sym, ◌∙◌, ap, if◌then◌else◌}
use Rattle.row_rules.specs.RowSteps.OpRows as op_rows
use Rattle.skel_steps.specs.Stepping.{tables_of, state_of}
use Rattle.unit_system.proofs.UnitRows.RowLists.{Same, row_added, row_halted, none_added}
use Rattle.unit_system.proofs.unit_rows.rows.add_row.Goals as goal

-- an op where the stacks are quiet adds nothing
pub returns-then-is_quiet : goal.returns-then-is_quiet
returns-then-is_quiet c =
    let k = c.args.known.now in
    let st = state_of k c.args.stacks.now in
    record {
      ok = none_added k c.args.graph.now _ (λ w shows.
          ap (λ (b : Bool). if b then [] else op_rows.loud_row w st c.args.op.now)
          (sym (c.is_quiet.ensures (tables_of k)) ∙ c.if-is_quiet.true));
      err = tt;
    }

-- an op where the stacks are not quiet adds its row, or halts in it
pub returns : goal.returns
returns c =
    let k = c.args.known.now in
    let st = state_of k c.args.stacks.now in
    let same : Same k (λ w. op_rows.loud_row w st c.args.op.now) (λ w. op_rows.op_row w st c.args.op.now) =
    λ w shows. sym (ap (λ (b : Bool). if b then [] else op_rows.loud_row w st c.args.op.now)
    (sym (c.is_quiet.ensures (tables_of k)) ∙ c.if-is_quiet.false)) in
    record {
      ok = row_added c.loud_row.result k c.args.graph.now c.loud_row.new.graph _ _ same c.loud_row.ensures.ok;
      err = row_halted c.loud_row.result k c.args.graph.now c.loud_row.new.graph _ _ same c.loud_row.ensures.err;
    }
