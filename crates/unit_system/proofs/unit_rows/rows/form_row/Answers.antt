use Rattle.std.proofs.Common.{sym, ap}
use Rattle.row_rules.specs.RowSteps.OpRows as op_rows
use Rattle.skel_steps.specs.Stepping.{state_of}
use Rattle.unit_system.proofs.UnitRows.RowLists.{row_added, row_halted, none_added}
use Rattle.unit_system.proofs.unit_rows.rows.form_row.Goals as goal

-- the op of a cast adds its row, or halts in it
pub returns-in-Cast : goal.returns-in-Cast
returns-in-Cast c =
    let k = c.args.known.now in
    let st = state_of k c.args.stacks.now in
    record {
      ok = row_added c.cast_row.result k c.args.graph.now c.cast_row.new.graph _ _
          (λ w shows. ap (op_rows.form_row w st) (sym c.in-Cast.is)) c.cast_row.ensures.ok;
      err = row_halted c.cast_row.result k c.args.graph.now c.cast_row.new.graph _ _
          (λ w shows. ap (op_rows.form_row w st) (sym c.in-Cast.is)) c.cast_row.ensures.err;
    }

-- `sizeof` gives no constraint
pub returns-in-Sizeof : goal.returns-in-Sizeof
returns-in-Sizeof c =
    let k = c.args.known.now in
    let st = state_of k c.args.stacks.now in
    record {
      ok = none_added k c.args.graph.now _ (λ w shows. ap (op_rows.form_row w st) c.in-Sizeof.is);
      err = tt;
    }

-- a statement in an expression gives no constraint
pub returns-in-StmtExpr : goal.returns-in-StmtExpr
returns-in-StmtExpr c =
    let k = c.args.known.now in
    let st = state_of k c.args.stacks.now in
    record {
      ok = none_added k c.args.graph.now _ (λ w shows. ap (op_rows.form_row w st) c.in-StmtExpr.is);
      err = tt;
    }

-- the op of `va_arg` adds its row, or halts in it
pub returns-in-VaArg : goal.returns-in-VaArg
returns-in-VaArg c =
    let k = c.args.known.now in
    let st = state_of k c.args.stacks.now in
    record {
      ok = row_added c.va_arg_row.result k c.args.graph.now c.va_arg_row.new.graph _ _
          (λ w shows. ap (op_rows.form_row w st) (sym c.in-VaArg.is)) c.va_arg_row.ensures.ok;
      err = row_halted c.va_arg_row.result k c.args.graph.now c.va_arg_row.new.graph _ _
          (λ w shows. ap (op_rows.form_row w st) (sym c.in-VaArg.is)) c.va_arg_row.ensures.err;
    }

-- the op of `va_start` adds its row, or halts in it
pub returns-in-VaStart : goal.returns-in-VaStart
returns-in-VaStart c =
    let k = c.args.known.now in
    let st = state_of k c.args.stacks.now in
    record {
      ok = row_added c.va_start_row.result k c.args.graph.now c.va_start_row.new.graph _ _
          (λ w shows. ap (op_rows.form_row w st) (sym c.in-VaStart.is)) c.va_start_row.ensures.ok;
      err = row_halted c.va_start_row.result k c.args.graph.now c.va_start_row.new.graph _ _
          (λ w shows. ap (op_rows.form_row w st) (sym c.in-VaStart.is)) c.va_start_row.ensures.err;
    }

-- the op of `va_copy` adds its row, or halts in it
pub returns-in-VaCopy : goal.returns-in-VaCopy
returns-in-VaCopy c =
    let k = c.args.known.now in
    let st = state_of k c.args.stacks.now in
    record {
      ok = row_added c.va_copy_row.result k c.args.graph.now c.va_copy_row.new.graph _ _
          (λ w shows. ap (op_rows.form_row w st) (sym c.in-VaCopy.is)) c.va_copy_row.ensures.ok;
      err = row_halted c.va_copy_row.result k c.args.graph.now c.va_copy_row.new.graph _ _
          (λ w shows. ap (op_rows.form_row w st) (sym c.in-VaCopy.is)) c.va_copy_row.ensures.err;
    }

-- a member in `offsetof` gives no constraint
pub returns-in-OffsetMember : goal.returns-in-OffsetMember
returns-in-OffsetMember c =
    let k = c.args.known.now in
    let st = state_of k c.args.stacks.now in
    record {
      ok = none_added k c.args.graph.now _ (λ w shows. ap (op_rows.form_row w st) c.in-OffsetMember.is);
      err = tt;
    }

-- an index in `offsetof` gives no constraint
pub returns-in-OffsetIndex : goal.returns-in-OffsetIndex
returns-in-OffsetIndex c =
    let k = c.args.known.now in
    let st = state_of k c.args.stacks.now in
    record {
      ok = none_added k c.args.graph.now _ (λ w shows. ap (op_rows.form_row w st) c.in-OffsetIndex.is);
      err = tt;
    }

-- `offsetof` gives no constraint
pub returns-in-Offset : goal.returns-in-Offset
returns-in-Offset c =
    let k = c.args.known.now in
    let st = state_of k c.args.stacks.now in
    record {
      ok = none_added k c.args.graph.now _ (λ w shows. ap (op_rows.form_row w st) c.in-Offset.is);
      err = tt;
    }

-- a test whether types are compatible gives no constraint
pub returns-in-Compat : goal.returns-in-Compat
returns-in-Compat c =
    let k = c.args.known.now in
    let st = state_of k c.args.stacks.now in
    record {
      ok = none_added k c.args.graph.now _ (λ w shows. ap (op_rows.form_row w st) c.in-Compat.is);
      err = tt;
    }

-- the end of the control of a selection by a type gives no constraint
pub returns-in-Control : goal.returns-in-Control
returns-in-Control c =
    let k = c.args.known.now in
    let st = state_of k c.args.stacks.now in
    record {
      ok = none_added k c.args.graph.now _ (λ w shows. ap (op_rows.form_row w st) c.in-Control.is);
      err = tt;
    }

-- the missing type of a `default` association gives no constraint
pub returns-in-NoType : goal.returns-in-NoType
returns-in-NoType c =
    let k = c.args.known.now in
    let st = state_of k c.args.stacks.now in
    record {
      ok = none_added k c.args.graph.now _ (λ w shows. ap (op_rows.form_row w st) c.in-NoType.is);
      err = tt;
    }

-- the op of a choice adds its row, or halts in it
pub returns-in-Choose : goal.returns-in-Choose
returns-in-Choose c =
    let k = c.args.known.now in
    let st = state_of k c.args.stacks.now in
    record {
      ok = row_added c.choose_row.result k c.args.graph.now c.choose_row.new.graph _ _
          (λ w shows. ap (op_rows.form_row w st) (sym c.in-Choose.is)) c.choose_row.ensures.ok;
      err = row_halted c.choose_row.result k c.args.graph.now c.choose_row.new.graph _ _
          (λ w shows. ap (op_rows.form_row w st) (sym c.in-Choose.is)) c.choose_row.ensures.err;
    }

-- the op of a selection by a type adds its row, or halts in it
pub returns-in-Generic : goal.returns-in-Generic
returns-in-Generic c =
    let k = c.args.known.now in
    let st = state_of k c.args.stacks.now in
    record {
      ok = row_added c.select_row.result k c.args.graph.now c.select_row.new.graph _ _
          (λ w shows. ap (op_rows.form_row w st) (sym c.in-Generic.is)) c.select_row.ensures.ok;
      err = row_halted c.select_row.result k c.args.graph.now c.select_row.new.graph _ _
          (λ w shows. ap (op_rows.form_row w st) (sym c.in-Generic.is)) c.select_row.ensures.err;
    }
