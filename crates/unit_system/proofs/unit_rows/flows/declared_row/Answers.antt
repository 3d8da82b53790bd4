use Rattle.std.proofs.Common.{◌∙◌, ap}
use Rattle.row_rules.specs.Rows as rows
use Rattle.row_rules.specs.RowSteps.OpRows as op_rows
use Rattle.row_rules.specs.RowSteps.Rounds as rules
use Rattle.row_world.specs.Shown.{skel}
use Rattle.row_adding.specs.Kinds.{kind_of}
use Rattle.skel_steps.specs.Stepping.{tables_of, state_of}
use Rattle.unit_system.proofs.UnitRows.RowLists.{Same, row_added, row_halted, none_halts}
use Rattle.unit_system.proofs.unit_rows.flows.declared_row.Goals as goal

-- the name of a declarator adds the row of what it names, or halts in it
pub returns-in-Ok : goal.returns-in-Ok
returns-in-Ok c =
    let k = c.args.known.now in
    let st = state_of k c.args.stacks.now in
    let same : Same k (λ w. rows.row_at w (kind_of (skel k) c.in-Ok.kind) c.args.token)
    (λ w. rows.row_at w (op_rows.naming_row w (rules.naming st.rounds) c.args.token) c.args.token) =
    λ w shows. ap (λ (n : rows.RowKind). rows.row_at w n c.args.token)
    (c.in-Ok.ensures w shows ∙ ap (λ n. op_rows.naming_row w n c.args.token) (c.naming-naming.ensures (tables_of k))) in
    record {
      ok = row_added c.declared.result k c.args.graph.now c.declared.new.graph _ _ same c.declared.ensures.ok;
      err = row_halted c.declared.result k c.args.graph.now c.declared.new.graph _ _ same c.declared.ensures.err;
    }

pub returns-in-Err : goal.returns-in-Err
returns-in-Err c =
    record { ok = tt; err = λ w shows. none_halts c.args.graph.now _ }
