use Rattle.std.proofs.Common.{sym, ap}
use Rattle.row_rules.specs.RowSteps.OpRows as op_rows
use Rattle.skel_steps.specs.Stepping.{state_of}
use Rattle.unit_system.proofs.UnitRows.RowLists.{row_added, row_halted}
use Rattle.unit_system.proofs.unit_rows.rows.loud_row.Goals as goal

-- an op of an expression adds its row, or halts in it
pub returns-in-Expr : goal.returns-in-Expr
returns-in-Expr c =
    let k = c.args.known.now in
    let st = state_of k c.args.stacks.now in
    record {
      ok = row_added c.expression_row.result k c.args.graph.now c.expression_row.new.graph _ _
          (λ w shows. ap (op_rows.loud_row w st) (sym c.in-Expr.is)) c.expression_row.ensures.ok;
      err = row_halted c.expression_row.result k c.args.graph.now c.expression_row.new.graph _ _
          (λ w shows. ap (op_rows.loud_row w st) (sym c.in-Expr.is)) c.expression_row.ensures.err;
    }

-- an op of a form adds its row, or halts in it
pub returns-in-Form : goal.returns-in-Form
returns-in-Form c =
    let k = c.args.known.now in
    let st = state_of k c.args.stacks.now in
    record {
      ok = row_added c.form_row.result k c.args.graph.now c.form_row.new.graph _ _
          (λ w shows. ap (op_rows.loud_row w st) (sym c.in-Form.is)) c.form_row.ensures.ok;
      err = row_halted c.form_row.result k c.args.graph.now c.form_row.new.graph _ _
          (λ w shows. ap (op_rows.loud_row w st) (sym c.in-Form.is)) c.form_row.ensures.err;
    }

-- an op of an initialiser adds its row, or halts in it
pub returns-in-Init : goal.returns-in-Init
returns-in-Init c =
    let k = c.args.known.now in
    let st = state_of k c.args.stacks.now in
    record {
      ok = row_added c.initialiser_row.result k c.args.graph.now c.initialiser_row.new.graph _ _
          (λ w shows. ap (op_rows.loud_row w st) (sym c.in-Init.is)) c.initialiser_row.ensures.ok;
      err = row_halted c.initialiser_row.result k c.args.graph.now c.initialiser_row.new.graph _ _
          (λ w shows. ap (op_rows.loud_row w st) (sym c.in-Init.is)) c.initialiser_row.ensures.err;
    }

-- an op of specifiers adds its row, or halts in it
pub returns-in-Spec : goal.returns-in-Spec
returns-in-Spec c =
    let k = c.args.known.now in
    let st = state_of k c.args.stacks.now in
    record {
      ok = row_added c.specifier_row.result k c.args.graph.now c.specifier_row.new.graph _ _
          (λ w shows. ap (op_rows.loud_row w st) (sym c.in-Spec.is)) c.specifier_row.ensures.ok;
      err = row_halted c.specifier_row.result k c.args.graph.now c.specifier_row.new.graph _ _
          (λ w shows. ap (op_rows.loud_row w st) (sym c.in-Spec.is)) c.specifier_row.ensures.err;
    }

-- an op of a declarator adds its row, or halts in it
pub returns-in-Declr : goal.returns-in-Declr
returns-in-Declr c =
    let k = c.args.known.now in
    let st = state_of k c.args.stacks.now in
    record {
      ok = row_added c.declarator_row.result k c.args.graph.now c.declarator_row.new.graph _ _
          (λ w shows. ap (op_rows.loud_row w st) (sym c.in-Declr.is)) c.declarator_row.ensures.ok;
      err = row_halted c.declarator_row.result k c.args.graph.now c.declarator_row.new.graph _ _
          (λ w shows. ap (op_rows.loud_row w st) (sym c.in-Declr.is)) c.declarator_row.ensures.err;
    }

-- an op of a statement adds its row, or halts in it
pub returns-in-Stmt : goal.returns-in-Stmt
returns-in-Stmt c =
    let k = c.args.known.now in
    let st = state_of k c.args.stacks.now in
    record {
      ok = row_added c.statement_row.result k c.args.graph.now c.statement_row.new.graph _ _
          (λ w shows. ap (op_rows.loud_row w st) (sym c.in-Stmt.is)) c.statement_row.ensures.ok;
      err = row_halted c.statement_row.result k c.args.graph.now c.statement_row.new.graph _ _
          (λ w shows. ap (op_rows.loud_row w st) (sym c.in-Stmt.is)) c.statement_row.ensures.err;
    }
