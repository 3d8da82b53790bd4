use Rattle.std.proofs.Common.{◌∙◌, ap, sym, Bool, true, List, if◌then◌else◌}
use Rattle.flow_graph.specs.declared.constraint.Constraint.{Constraint}
use Rattle.row_rules.specs.Worlds.{World}
use Rattle.row_rules.specs.Worlds.{span}
use Rattle.row_rules.specs.Vals as vals
use Rattle.row_rules.specs.Rows as rows
use Rattle.row_rules.specs.RowSteps.State as states
use Rattle.row_world.specs.Shown.{skel}
use Rattle.skel_steps.specs.Stepping.{tables_of, state_of}
use Rattle.row_world.specs.Shown.{val}
use Rattle.unit_system.proofs.UnitRows.RowLists.{Same, row_added, row_halted}
use Rattle.unit_system.proofs.unit_rows.operators.prefix_row.Goals as goal

-- `&` that a pointer carries through adds the row of this, or halts in it
pub returns-then-is_carrying : goal.returns-then-is_carrying
returns-then-is_carrying c =
    let k = c.args.known.now in
    let st = state_of k c.args.stacks.now in
    let by : World → Bool → List Constraint =
    λ w b. if b then rows.carried w (states.val_at 0 st).skel st.carried (vals.own w c.args.token)
    (span w c.args.token c.args.token)
    else rows.prefixed w c.args.sign (states.is_zero_at 0 st) (states.val_at 0 st) (vals.own w c.args.token) c.args.aims
    (span w c.args.token c.args.last) in
    let same : Same k (λ w. by w true) (λ w. by w (vals.is_carrying w c.args.sign c.args.aims)) =
    λ w shows. ap (by w) (sym c.if-is_carrying.true ∙ c.is_carrying.ensures w shows) in
    record {
      ok = row_added c.address_row.result k c.args.graph.now c.address_row.new.graph _ _ same c.address_row.ensures.ok;
      err =
          row_halted c.address_row.result k c.args.graph.now c.address_row.new.graph _ _ same c.address_row.ensures.err;
    }

-- any other operator before its operand adds the row of it by its sign, or halts in it
pub returns : goal.returns
returns c =
    let k = c.args.known.now in
    let t = tables_of k in
    let st = state_of k c.args.stacks.now in
    let by : World → Bool → List Constraint =
    λ w b. if b then rows.carried w (states.val_at 0 st).skel st.carried (vals.own w c.args.token)
    (span w c.args.token c.args.token)
    else rows.prefixed w c.args.sign (states.is_zero_at 0 st) (states.val_at 0 st) (vals.own w c.args.token) c.args.aims
    (span w c.args.token c.args.last) in
    let same : Same k (λ w. rows.prefixed w c.args.sign c.is_zero_at-is_zero.result (val k c.val_at-operand.result)
    (skel k c.own-own.result) c.args.aims c.span-span.result)
    (λ w. by w (vals.is_carrying w c.args.sign c.args.aims)) =
    λ w shows.
    (λ i. rows.prefixed w c.args.sign (c.is_zero_at-is_zero.ensures t i) (c.val_at-operand.ensures k.types.now i)
    (c.own-own.ensures w shows i) c.args.aims (c.span-span.ensures w shows i)) ∙
    ap (by w) (sym c.if-is_carrying.false ∙ c.is_carrying.ensures w shows) in
    record {
      ok = row_added c.prefixed.result k c.args.graph.now c.prefixed.new.graph _ _ same c.prefixed.ensures.ok;
      err = row_halted c.prefixed.result k c.args.graph.now c.prefixed.new.graph _ _ same c.prefixed.ensures.err;
    }
