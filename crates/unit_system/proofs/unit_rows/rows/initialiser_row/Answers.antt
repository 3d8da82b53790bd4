use Rattle.std.proofs.Common.{sym, ap}
use Rattle.row_rules.specs.RowSteps.OpRows as op_rows
use Rattle.skel_steps.specs.Stepping.{state_of}
use Rattle.unit_system.proofs.UnitRows.RowLists.{row_added, row_halted, none_added}
use Rattle.unit_system.proofs.unit_rows.rows.initialiser_row.Goals as goal

-- the op of an initialising value adds its row, or halts in it
pub returns-in-Value : goal.returns-in-Value
returns-in-Value c =
    let k = c.args.known.now in
    let st = state_of k c.args.stacks.now in
    record {
      ok = row_added c.value_row.result k c.args.graph.now c.value_row.new.graph _ _
          (λ w shows. ap (op_rows.init_row w st) (sym c.in-Value.is)) c.value_row.ensures.ok;
      err = row_halted c.value_row.result k c.args.graph.now c.value_row.new.graph _ _
          (λ w shows. ap (op_rows.init_row w st) (sym c.in-Value.is)) c.value_row.ensures.err;
    }

-- the begin of the values of an initialiser in braces gives no constraint
pub returns-in-Begin : goal.returns-in-Begin
returns-in-Begin c =
    let k = c.args.known.now in
    let st = state_of k c.args.stacks.now in
    record {
      ok = none_added k c.args.graph.now _ (λ w shows. ap (op_rows.init_row w st) c.in-Begin.is);
      err = tt;
    }

-- the begin of the list that initialises a declared name gives no constraint
pub returns-in-Rule : goal.returns-in-Rule
returns-in-Rule c =
    let k = c.args.known.now in
    let st = state_of k c.args.stacks.now in
    record {
      ok = none_added k c.args.graph.now _ (λ w shows. ap (op_rows.init_row w st) c.in-Rule.is);
      err = tt;
    }

-- the op of a compound literal adds its row, or halts in it
pub returns-in-Literal : goal.returns-in-Literal
returns-in-Literal c =
    let k = c.args.known.now in
    let st = state_of k c.args.stacks.now in
    record {
      ok = row_added c.literal_row.result k c.args.graph.now c.literal_row.new.graph _ _
          (λ w shows. ap (op_rows.init_row w st) (sym c.in-Literal.is)) c.literal_row.ensures.ok;
      err = row_halted c.literal_row.result k c.args.graph.now c.literal_row.new.graph _ _
          (λ w shows. ap (op_rows.init_row w st) (sym c.in-Literal.is)) c.literal_row.ensures.err;
    }

-- the begin of a list in braces gives no constraint
pub returns-in-ListBegin : goal.returns-in-ListBegin
returns-in-ListBegin c =
    let k = c.args.known.now in
    let st = state_of k c.args.stacks.now in
    record {
      ok = none_added k c.args.graph.now _ (λ w shows. ap (op_rows.init_row w st) c.in-ListBegin.is);
      err = tt;
    }

-- a designator of a member gives no constraint
pub returns-in-Member : goal.returns-in-Member
returns-in-Member c =
    let k = c.args.known.now in
    let st = state_of k c.args.stacks.now in
    record {
      ok = none_added k c.args.graph.now _ (λ w shows. ap (op_rows.init_row w st) c.in-Member.is);
      err = tt;
    }

-- a designator of an index gives no constraint
pub returns-in-Index : goal.returns-in-Index
returns-in-Index c =
    let k = c.args.known.now in
    let st = state_of k c.args.stacks.now in
    record {
      ok = none_added k c.args.graph.now _ (λ w shows. ap (op_rows.init_row w st) c.in-Index.is);
      err = tt;
    }

-- the op of a value in braces adds its row, or halts in it
pub returns-in-Leaf : goal.returns-in-Leaf
returns-in-Leaf c =
    let k = c.args.known.now in
    let st = state_of k c.args.stacks.now in
    record {
      ok = row_added c.leaf_row.result k c.args.graph.now c.leaf_row.new.graph _ _
          (λ w shows. ap (op_rows.init_row w st) (sym c.in-Leaf.is)) c.leaf_row.ensures.ok;
      err = row_halted c.leaf_row.result k c.args.graph.now c.leaf_row.new.graph _ _
          (λ w shows. ap (op_rows.init_row w st) (sym c.in-Leaf.is)) c.leaf_row.ensures.err;
    }

-- the end of a list in braces gives no constraint
pub returns-in-ListEnd : goal.returns-in-ListEnd
returns-in-ListEnd c =
    let k = c.args.known.now in
    let st = state_of k c.args.stacks.now in
    record {
      ok = none_added k c.args.graph.now _ (λ w shows. ap (op_rows.init_row w st) c.in-ListEnd.is);
      err = tt;
    }

-- the end of an initialiser in braces gives no constraint
pub returns-in-End : goal.returns-in-End
returns-in-End c =
    let k = c.args.known.now in
    let st = state_of k c.args.stacks.now in
    record {
      ok = none_added k c.args.graph.now _ (λ w shows. ap (op_rows.init_row w st) c.in-End.is);
      err = tt;
    }

-- the end of a compound literal gives no constraint
pub returns-in-LiteralEnd : goal.returns-in-LiteralEnd
returns-in-LiteralEnd c =
    let k = c.args.known.now in
    let st = state_of k c.args.stacks.now in
    record {
      ok = none_added k c.args.graph.now _ (λ w shows. ap (op_rows.init_row w st) c.in-LiteralEnd.is);
      err = tt;
    }
