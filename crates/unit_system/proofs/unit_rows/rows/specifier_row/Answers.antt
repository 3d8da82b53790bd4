use Rattle.std.proofs.Common.{sym, ap}
use Rattle.row_rules.specs.RowSteps.OpRows as op_rows
use Rattle.unit_system.proofs.UnitRows.RowLists.{row_added, row_halted, none_added}
use Rattle.unit_system.proofs.unit_rows.rows.specifier_row.Goals as goal

-- a word of specifiers gives no constraint
pub returns-in-Word : goal.returns-in-Word
returns-in-Word c = record {
  ok = none_added c.args.known.now c.args.graph.now _ (λ w shows. ap (op_rows.spec_row w) c.in-Word.is);
  err = tt;
}

-- a word of storage gives no constraint
pub returns-in-Storage : goal.returns-in-Storage
returns-in-Storage c = record {
  ok = none_added c.args.known.now c.args.graph.now _ (λ w shows. ap (op_rows.spec_row w) c.in-Storage.is);
  err = tt;
}

-- `void` gives no constraint
pub returns-in-Void : goal.returns-in-Void
returns-in-Void c = record {
  ok = none_added c.args.known.now c.args.graph.now _ (λ w shows. ap (op_rows.spec_row w) c.in-Void.is);
  err = tt;
}

-- the name of a typedef gives no constraint
pub returns-in-Typedef : goal.returns-in-Typedef
returns-in-Typedef c = record {
  ok = none_added c.args.known.now c.args.graph.now _ (λ w shows. ap (op_rows.spec_row w) c.in-Typedef.is);
  err = tt;
}

-- a tag that is used gives no constraint
pub returns-in-TagUse : goal.returns-in-TagUse
returns-in-TagUse c = record {
  ok = none_added c.args.known.now c.args.graph.now _ (λ w shows. ap (op_rows.spec_row w) c.in-TagUse.is);
  err = tt;
}

-- a tag that stands alone gives no constraint
pub returns-in-TagAlone : goal.returns-in-TagAlone
returns-in-TagAlone c = record {
  ok = none_added c.args.known.now c.args.graph.now _ (λ w shows. ap (op_rows.spec_row w) c.in-TagAlone.is);
  err = tt;
}

-- a tag before a body gives no constraint
pub returns-in-TagBody : goal.returns-in-TagBody
returns-in-TagBody c = record {
  ok = none_added c.args.known.now c.args.graph.now _ (λ w shows. ap (op_rows.spec_row w) c.in-TagBody.is);
  err = tt;
}

-- a body without a tag gives no constraint
pub returns-in-Untagged : goal.returns-in-Untagged
returns-in-Untagged c = record {
  ok = none_added c.args.known.now c.args.graph.now _ (λ w shows. ap (op_rows.spec_row w) c.in-Untagged.is);
  err = tt;
}

-- the end of a body gives no constraint
pub returns-in-BodyEnd : goal.returns-in-BodyEnd
returns-in-BodyEnd c = record {
  ok = none_added c.args.known.now c.args.graph.now _ (λ w shows. ap (op_rows.spec_row w) c.in-BodyEnd.is);
  err = tt;
}

-- an enumerator gives no constraint
pub returns-in-Enumerator : goal.returns-in-Enumerator
returns-in-Enumerator c = record {
  ok = none_added c.args.known.now c.args.graph.now _ (λ w shows. ap (op_rows.spec_row w) c.in-Enumerator.is);
  err = tt;
}

-- the end of specifiers gives no constraint
pub returns-in-SpecsEnd : goal.returns-in-SpecsEnd
returns-in-SpecsEnd c = record {
  ok = none_added c.args.known.now c.args.graph.now _ (λ w shows. ap (op_rows.spec_row w) c.in-SpecsEnd.is);
  err = tt;
}

-- a member without a declarator adds what passes inside it, or halts there
pub returns-in-UnnamedMember : goal.returns-in-UnnamedMember
returns-in-UnnamedMember c =
    let k = c.args.known.now in
    record {
      ok = row_added c.form_here.result k c.args.graph.now c.form_here.new.graph _ _
          (λ w shows. ap (op_rows.spec_row w) (sym c.in-UnnamedMember.is)) c.form_here.ensures.ok;
      err = row_halted c.form_here.result k c.args.graph.now c.form_here.new.graph _ _
          (λ w shows. ap (op_rows.spec_row w) (sym c.in-UnnamedMember.is)) c.form_here.ensures.err;
    }

-- the begin of a type in parentheses, as by `typeof`, gives no constraint
pub returns-in-PartBegin : goal.returns-in-PartBegin
returns-in-PartBegin c = record {
  ok = none_added c.args.known.now c.args.graph.now _ (λ w shows. ap (op_rows.spec_row w) c.in-PartBegin.is);
  err = tt;
}

-- the end of a type by an expression gives no constraint
pub returns-in-TypeofEnd : goal.returns-in-TypeofEnd
returns-in-TypeofEnd c = record {
  ok = none_added c.args.known.now c.args.graph.now _ (λ w shows. ap (op_rows.spec_row w) c.in-TypeofEnd.is);
  err = tt;
}

-- the end of a type by the name of a type gives no constraint
pub returns-in-TypeEnd : goal.returns-in-TypeEnd
returns-in-TypeEnd c = record {
  ok = none_added c.args.known.now c.args.graph.now _ (λ w shows. ap (op_rows.spec_row w) c.in-TypeEnd.is);
  err = tt;
}
