use Rattle.std.proofs.Common.{Bool}
use Rattle.qual_base.specs.declared.places.Span.{Span}
use Rattle.qual_types.specs.Skel.{Skel}
use Rattle.row_rules.specs.Worlds.{span, all_lattices}
use Rattle.row_rules.specs.Rows as rows
use Rattle.row_rules.specs.RowSteps.State as states
use Rattle.row_world.specs.Shown.{skel}
use Rattle.skel_steps.specs.Stepping.{tables_of, state_of}
use Rattle.unit_system.proofs.UnitRows.RowLists.{Same, row_added, row_halted}
use Rattle.unit_system.proofs.unit_rows.forms.va_copy_row.Goals as goal

-- `va_copy` adds the flow of one list into the other in all lattices, or halts in it
pub returns : goal.returns
returns c =
    let k = c.args.known.now in
    let t = tables_of k in
    let st = state_of k c.args.stacks.now in
    let same : Same k (λ w. (λ (z : Bool) (a b : Skel) (s : Span). rows.flowing z a b (all_lattices w) s)
    c.is_zero_at-is_zero.result (skel k c.value_at-from.result) (skel k c.value_at-to.result) c.span-span.result)
    (λ w. (λ (z : Bool) (a b : Skel) (s : Span). rows.flowing z a b (all_lattices w) s) (states.is_zero_at 0 st)
    (states.value_at 0 st) (states.value_at 1 st) (span w c.args.token c.args.last)) =
    λ w shows. λ i.
    (λ (z : Bool) (a b : Skel) (s : Span). rows.flowing z a b (all_lattices w) s) (c.is_zero_at-is_zero.ensures t i)
    (c.value_at-from.ensures i) (c.value_at-to.ensures i) (c.span-span.ensures w shows i) in
    record {
      ok = row_added c.flowing_in_all.result k c.args.graph.now c.flowing_in_all.new.graph _ _ same
          c.flowing_in_all.ensures.ok;
      err = row_halted c.flowing_in_all.result k c.args.graph.now c.flowing_in_all.new.graph _ _ same
          c.flowing_in_all.ensures.err;
    }
