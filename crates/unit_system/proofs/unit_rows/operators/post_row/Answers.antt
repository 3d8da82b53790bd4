use Rattle.std.proofs.Common.{◌∙◌, ap}
use Rattle.qual_types.specs.Skel.{root}
use Rattle.row_rules.specs.Worlds.{span}
use Rattle.row_rules.specs.Annotations.{write_bounds}
use Rattle.row_rules.specs.Vals as vals
use Rattle.row_rules.specs.RowSteps.State as states
use Rattle.skel_steps.specs.Stepping.{tables_of, state_of}
use Rattle.unit_system.proofs.UnitRows.RowLists.{Same, row_added, row_halted}
use Rattle.unit_system.proofs.unit_rows.operators.post_row.Goals as goal

-- `++` or `--` behind its operand adds the bounds of a write to it, or halts in them
pub returns : goal.returns
returns c =
    let k = c.args.known.now in
    let t = tables_of k in
    let st = state_of k c.args.stacks.now in
    let same : Same k (λ w. write_bounds w c.var.result c.span-span.result)
    (λ w. write_bounds w (root (states.val_at 0 st).skel) (span w c.args.first c.args.token)) =
    λ w shows. λ i. write_bounds w ((c.var.ensures.root
    ∙ ap (λ (v : vals.Val). root v.skel) (c.val_at-operand.ensures k.types.now)) i) (c.span-span.ensures w shows i) in
    record {
      ok = row_added c.write_bounds.result k c.args.graph.now c.write_bounds.new.graph _ _ same
          c.write_bounds.ensures.ok;
      err = row_halted c.write_bounds.result k c.args.graph.now c.write_bounds.new.graph _ _ same
          c.write_bounds.ensures.err;
    }
