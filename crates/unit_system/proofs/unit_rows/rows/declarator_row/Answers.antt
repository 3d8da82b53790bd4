use Rattle.std.proofs.Common.{sym, ap}
use Rattle.row_rules.specs.RowSteps.OpRows as op_rows
use Rattle.skel_steps.specs.Stepping.{state_of}
use Rattle.unit_system.proofs.UnitRows.RowLists.{row_added, row_halted, none_added}
use Rattle.unit_system.proofs.unit_rows.rows.declarator_row.Goals as goal

-- the name of a declarator adds the row of what it names, by the op for it, or halts in it
pub returns-in-DeclName : goal.returns-in-DeclName
returns-in-DeclName c =
    let k = c.args.known.now in
    let st = state_of k c.args.stacks.now in
    record {
      ok = row_added c.declared_row.result k c.args.graph.now c.declared_row.new.graph _ _
          (λ w shows. ap (op_rows.declr_row w st) (sym c.in-DeclName.is)) c.declared_row.ensures.ok;
      err = row_halted c.declared_row.result k c.args.graph.now c.declared_row.new.graph _ _
          (λ w shows. ap (op_rows.declr_row w st) (sym c.in-DeclName.is)) c.declared_row.ensures.err;
    }

-- the begin of a list of parameters gives no constraint
pub returns-in-ParamsBegin : goal.returns-in-ParamsBegin
returns-in-ParamsBegin c =
    let k = c.args.known.now in
    let st = state_of k c.args.stacks.now in
    record {
      ok = none_added k c.args.graph.now _ (λ w shows. ap (op_rows.declr_row w st) c.in-ParamsBegin.is);
      err = tt;
    }

-- the end of a parameter gives no constraint
pub returns-in-Param : goal.returns-in-Param
returns-in-Param c =
    let k = c.args.known.now in
    let st = state_of k c.args.stacks.now in
    record {
      ok = none_added k c.args.graph.now _ (λ w shows. ap (op_rows.declr_row w st) c.in-Param.is);
      err = tt;
    }

-- the end of a list of parameters gives no constraint
pub returns-in-ParamsEnd : goal.returns-in-ParamsEnd
returns-in-ParamsEnd c =
    let k = c.args.known.now in
    let st = state_of k c.args.stacks.now in
    record {
      ok = none_added k c.args.graph.now _ (λ w shows. ap (op_rows.declr_row w st) c.in-ParamsEnd.is);
      err = tt;
    }

-- a pointer of a declarator gives no constraint
pub returns-in-Pointer : goal.returns-in-Pointer
returns-in-Pointer c =
    let k = c.args.known.now in
    let st = state_of k c.args.stacks.now in
    record {
      ok = none_added k c.args.graph.now _ (λ w shows. ap (op_rows.declr_row w st) c.in-Pointer.is);
      err = tt;
    }

-- an array of a declarator gives no constraint
pub returns-in-Array : goal.returns-in-Array
returns-in-Array c =
    let k = c.args.known.now in
    let st = state_of k c.args.stacks.now in
    record {
      ok = none_added k c.args.graph.now _ (λ w shows. ap (op_rows.declr_row w st) c.in-Array.is);
      err = tt;
    }

-- a function of a declarator gives no constraint
pub returns-in-Function : goal.returns-in-Function
returns-in-Function c =
    let k = c.args.known.now in
    let st = state_of k c.args.stacks.now in
    record {
      ok = none_added k c.args.graph.now _ (λ w shows. ap (op_rows.declr_row w st) c.in-Function.is);
      err = tt;
    }

-- the declaring of a name gives no constraint
pub returns-in-Declare : goal.returns-in-Declare
returns-in-Declare c =
    let k = c.args.known.now in
    let st = state_of k c.args.stacks.now in
    record {
      ok = none_added k c.args.graph.now _ (λ w shows. ap (op_rows.declr_row w st) c.in-Declare.is);
      err = tt;
    }

-- the declaring of a member gives no constraint
pub returns-in-Member : goal.returns-in-Member
returns-in-Member c =
    let k = c.args.known.now in
    let st = state_of k c.args.stacks.now in
    record {
      ok = none_added k c.args.graph.now _ (λ w shows. ap (op_rows.declr_row w st) c.in-Member.is);
      err = tt;
    }

-- the end of a type name gives no constraint
pub returns-in-TypeName : goal.returns-in-TypeName
returns-in-TypeName c =
    let k = c.args.known.now in
    let st = state_of k c.args.stacks.now in
    record {
      ok = none_added k c.args.graph.now _ (λ w shows. ap (op_rows.declr_row w st) c.in-TypeName.is);
      err = tt;
    }

-- the end of a declaration gives no constraint
pub returns-in-DeclarationEnd : goal.returns-in-DeclarationEnd
returns-in-DeclarationEnd c =
    let k = c.args.known.now in
    let st = state_of k c.args.stacks.now in
    record {
      ok = none_added k c.args.graph.now _ (λ w shows. ap (op_rows.declr_row w st) c.in-DeclarationEnd.is);
      err = tt;
    }

-- the begin of a declaration whose type its initialiser gives gives no constraint
pub returns-in-AutoBegin : goal.returns-in-AutoBegin
returns-in-AutoBegin c =
    let k = c.args.known.now in
    let st = state_of k c.args.stacks.now in
    record {
      ok = none_added k c.args.graph.now _ (λ w shows. ap (op_rows.declr_row w st) c.in-AutoBegin.is);
      err = tt;
    }

-- the end of a declaration whose type its initialiser gives gives no constraint
pub returns-in-AutoEnd : goal.returns-in-AutoEnd
returns-in-AutoEnd c =
    let k = c.args.known.now in
    let st = state_of k c.args.stacks.now in
    record {
      ok = none_added k c.args.graph.now _ (λ w shows. ap (op_rows.declr_row w st) c.in-AutoEnd.is);
      err = tt;
    }

-- an identifier in a list of them gives no constraint
pub returns-in-Identifier : goal.returns-in-Identifier
returns-in-Identifier c =
    let k = c.args.known.now in
    let st = state_of k c.args.stacks.now in
    record {
      ok = none_added k c.args.graph.now _ (λ w shows. ap (op_rows.declr_row w st) c.in-Identifier.is);
      err = tt;
    }

-- a parameter that is declared behind a list of identifiers gives no constraint
pub returns-in-OldParam : goal.returns-in-OldParam
returns-in-OldParam c =
    let k = c.args.known.now in
    let st = state_of k c.args.stacks.now in
    record {
      ok = none_added k c.args.graph.now _ (λ w shows. ap (op_rows.declr_row w st) c.in-OldParam.is);
      err = tt;
    }
