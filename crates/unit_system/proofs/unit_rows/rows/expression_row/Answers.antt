use Rattle.std.proofs.Common.{sym, ap}
use Rattle.row_rules.specs.RowSteps.OpRows as op_rows
use Rattle.skel_steps.specs.Stepping.{state_of}
use Rattle.unit_system.proofs.UnitRows.RowLists.{row_added, row_halted, none_added}
use Rattle.unit_system.proofs.unit_rows.rows.expression_row.Goals as goal

-- the op of a name adds the row of its use, or halts in it
pub returns-in-Name : goal.returns-in-Name
returns-in-Name c =
    let k = c.args.known.now in
    let st = state_of k c.args.stacks.now in
    record {
      ok = row_added c.name_row.result k c.args.graph.now c.name_row.new.graph _ _
          (λ w shows. ap (op_rows.expr_row w st) (sym c.in-Name.is)) c.name_row.ensures.ok;
      err = row_halted c.name_row.result k c.args.graph.now c.name_row.new.graph _ _
          (λ w shows. ap (op_rows.expr_row w st) (sym c.in-Name.is)) c.name_row.ensures.err;
    }

-- a number gives no constraint
pub returns-in-Number : goal.returns-in-Number
returns-in-Number c =
    let k = c.args.known.now in
    let st = state_of k c.args.stacks.now in
    record {
      ok = none_added k c.args.graph.now _ (λ w shows. ap (op_rows.expr_row w st) c.in-Number.is);
      err = tt;
    }

-- a character gives no constraint
pub returns-in-Char : goal.returns-in-Char
returns-in-Char c =
    let k = c.args.known.now in
    let st = state_of k c.args.stacks.now in
    record {
      ok = none_added k c.args.graph.now _ (λ w shows. ap (op_rows.expr_row w st) c.in-Char.is);
      err = tt;
    }

-- the op of a string adds what passes inside its value, or halts in it
pub returns-in-Text : goal.returns-in-Text
returns-in-Text c =
    let k = c.args.known.now in
    let st = state_of k c.args.stacks.now in
    record {
      ok = row_added c.form_here.result k c.args.graph.now c.form_here.new.graph _ _
          (λ w shows. ap (op_rows.expr_row w st) (sym c.in-Text.is)) c.form_here.ensures.ok;
      err = row_halted c.form_here.result k c.args.graph.now c.form_here.new.graph _ _
          (λ w shows. ap (op_rows.expr_row w st) (sym c.in-Text.is)) c.form_here.ensures.err;
    }

-- a parenthesis gives no constraint
pub returns-in-Paren : goal.returns-in-Paren
returns-in-Paren c =
    let k = c.args.known.now in
    let st = state_of k c.args.stacks.now in
    record {
      ok = none_added k c.args.graph.now _ (λ w shows. ap (op_rows.expr_row w st) c.in-Paren.is);
      err = tt;
    }

-- `__extension__` gives no constraint
pub returns-in-Ext : goal.returns-in-Ext
returns-in-Ext c =
    let k = c.args.known.now in
    let st = state_of k c.args.stacks.now in
    record {
      ok = none_added k c.args.graph.now _ (λ w shows. ap (op_rows.expr_row w st) c.in-Ext.is);
      err = tt;
    }

-- a comma operator gives no constraint
pub returns-in-Comma : goal.returns-in-Comma
returns-in-Comma c =
    let k = c.args.known.now in
    let st = state_of k c.args.stacks.now in
    record {
      ok = none_added k c.args.graph.now _ (λ w shows. ap (op_rows.expr_row w st) c.in-Comma.is);
      err = tt;
    }

-- the op of an assignment adds the row of its place and value, or halts in it
pub returns-in-Assign : goal.returns-in-Assign
returns-in-Assign c =
    let k = c.args.known.now in
    let st = state_of k c.args.stacks.now in
    record {
      ok = row_added c.assign_row.result k c.args.graph.now c.assign_row.new.graph _ _
          (λ w shows. ap (op_rows.expr_row w st) (sym c.in-Assign.is)) c.assign_row.ensures.ok;
      err = row_halted c.assign_row.result k c.args.graph.now c.assign_row.new.graph _ _
          (λ w shows. ap (op_rows.expr_row w st) (sym c.in-Assign.is)) c.assign_row.ensures.err;
    }

-- the op of `?:` adds the row of its two values, or halts in it
pub returns-in-Cond : goal.returns-in-Cond
returns-in-Cond c =
    let k = c.args.known.now in
    let st = state_of k c.args.stacks.now in
    record {
      ok = row_added c.cond_row.result k c.args.graph.now c.cond_row.new.graph _ _
          (λ w shows. ap (op_rows.expr_row w st) (sym c.in-Cond.is)) c.cond_row.ensures.ok;
      err = row_halted c.cond_row.result k c.args.graph.now c.cond_row.new.graph _ _
          (λ w shows. ap (op_rows.expr_row w st) (sym c.in-Cond.is)) c.cond_row.ensures.err;
    }

-- the op of a binary operator adds the row of its sign, or halts in it
pub returns-in-Binary : goal.returns-in-Binary
returns-in-Binary c =
    let k = c.args.known.now in
    let st = state_of k c.args.stacks.now in
    record {
      ok = row_added c.binary_row.result k c.args.graph.now c.binary_row.new.graph _ _
          (λ w shows. ap (op_rows.expr_row w st) (sym c.in-Binary.is)) c.binary_row.ensures.ok;
      err = row_halted c.binary_row.result k c.args.graph.now c.binary_row.new.graph _ _
          (λ w shows. ap (op_rows.expr_row w st) (sym c.in-Binary.is)) c.binary_row.ensures.err;
    }

-- the op of an operator before its operand adds the row of its sign, or halts in it
pub returns-in-Prefix : goal.returns-in-Prefix
returns-in-Prefix c =
    let k = c.args.known.now in
    let st = state_of k c.args.stacks.now in
    record {
      ok = row_added c.prefix_row.result k c.args.graph.now c.prefix_row.new.graph _ _
          (λ w shows. ap (op_rows.expr_row w st) (sym c.in-Prefix.is)) c.prefix_row.ensures.ok;
      err = row_halted c.prefix_row.result k c.args.graph.now c.prefix_row.new.graph _ _
          (λ w shows. ap (op_rows.expr_row w st) (sym c.in-Prefix.is)) c.prefix_row.ensures.err;
    }

-- the op of `++` or `--` behind its operand adds the bounds of a write, or halts in them
pub returns-in-Post : goal.returns-in-Post
returns-in-Post c =
    let k = c.args.known.now in
    let st = state_of k c.args.stacks.now in
    record {
      ok = row_added c.post_row.result k c.args.graph.now c.post_row.new.graph _ _
          (λ w shows. ap (op_rows.expr_row w st) (sym c.in-Post.is)) c.post_row.ensures.ok;
      err = row_halted c.post_row.result k c.args.graph.now c.post_row.new.graph _ _
          (λ w shows. ap (op_rows.expr_row w st) (sym c.in-Post.is)) c.post_row.ensures.err;
    }

-- the op of `[ ]` adds the row of its pointer, or halts in it
pub returns-in-Index : goal.returns-in-Index
returns-in-Index c =
    let k = c.args.known.now in
    let st = state_of k c.args.stacks.now in
    record {
      ok = row_added c.index_row.result k c.args.graph.now c.index_row.new.graph _ _
          (λ w shows. ap (op_rows.expr_row w st) (sym c.in-Index.is)) c.index_row.ensures.ok;
      err = row_halted c.index_row.result k c.args.graph.now c.index_row.new.graph _ _
          (λ w shows. ap (op_rows.expr_row w st) (sym c.in-Index.is)) c.index_row.ensures.err;
    }

-- the op of an argument adds the row of its parameter, or halts in it
pub returns-in-Arg : goal.returns-in-Arg
returns-in-Arg c =
    let k = c.args.known.now in
    let st = state_of k c.args.stacks.now in
    record {
      ok = row_added c.argument_row.result k c.args.graph.now c.argument_row.new.graph _ _
          (λ w shows. ap (op_rows.expr_row w st) (sym c.in-Arg.is)) c.argument_row.ensures.ok;
      err = row_halted c.argument_row.result k c.args.graph.now c.argument_row.new.graph _ _
          (λ w shows. ap (op_rows.expr_row w st) (sym c.in-Arg.is)) c.argument_row.ensures.err;
    }

-- the end of a call, whose arguments gave theirs, gives no constraint
pub returns-in-Call : goal.returns-in-Call
returns-in-Call c =
    let k = c.args.known.now in
    let st = state_of k c.args.stacks.now in
    record {
      ok = none_added k c.args.graph.now _ (λ w shows. ap (op_rows.expr_row w st) c.in-Call.is);
      err = tt;
    }

-- the op of `->` adds the row of its pointer, or halts in it
pub returns-in-Arrow : goal.returns-in-Arrow
returns-in-Arrow c =
    let k = c.args.known.now in
    let st = state_of k c.args.stacks.now in
    record {
      ok = row_added c.arrow_row.result k c.args.graph.now c.arrow_row.new.graph _ _
          (λ w shows. ap (op_rows.expr_row w st) (sym c.in-Arrow.is)) c.arrow_row.ensures.ok;
      err = row_halted c.arrow_row.result k c.args.graph.now c.arrow_row.new.graph _ _
          (λ w shows. ap (op_rows.expr_row w st) (sym c.in-Arrow.is)) c.arrow_row.ensures.err;
    }

-- a member behind `.` or `->` gives no constraint
pub returns-in-Dot : goal.returns-in-Dot
returns-in-Dot c =
    let k = c.args.known.now in
    let st = state_of k c.args.stacks.now in
    record {
      ok = none_added k c.args.graph.now _ (λ w shows. ap (op_rows.expr_row w st) c.in-Dot.is);
      err = tt;
    }

-- the op of `&&` before a label adds what passes inside its value, or halts in it
pub returns-in-Label : goal.returns-in-Label
returns-in-Label c =
    let k = c.args.known.now in
    let st = state_of k c.args.stacks.now in
    record {
      ok = row_added c.form_here-in-Label.result k c.args.graph.now c.form_here-in-Label.new.graph _ _
          (λ w shows. ap (op_rows.expr_row w st) (sym c.in-Label.is)) c.form_here-in-Label.ensures.ok;
      err = row_halted c.form_here-in-Label.result k c.args.graph.now c.form_here-in-Label.new.graph _ _
          (λ w shows. ap (op_rows.expr_row w st) (sym c.in-Label.is)) c.form_here-in-Label.ensures.err;
    }
