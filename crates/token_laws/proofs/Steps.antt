-- The constraints that are found along a tape stand at good spans, where each two tokens that the tape carries are the
-- ends of one.
use Rattle.std.proofs.Common.{ℕ, zero, suc, Bool, true, false, List, [], ◌∷◌, Option, None, Some}
use Rattle.std.specs.Prelude.{◌&&◌, drop, if◌then◌else◌}
use Rattle.qual_base.specs.declared.places.Span.{Span}
use Rattle.tape_ops.specs.declared.op.Op.{Op}
use Rattle.tape_ops.specs.declared.op.Op.TheVariants as ops
use Rattle.tape_ops.specs.declared.expression.ExprOp.{ExprOp}
use Rattle.tape_ops.specs.declared.expression.ExprOp.TheVariants as exprs
use Rattle.tape_ops.specs.declared.form.FormOp.{FormOp}
use Rattle.tape_ops.specs.declared.form.FormOp.TheVariants as forms
use Rattle.tape_ops.specs.declared.initialiser.InitOp.{InitOp}
use Rattle.tape_ops.specs.declared.initialiser.InitOp.TheVariants as inits
use Rattle.tape_ops.specs.declared.declarator.DeclrOp.{DeclrOp}
use Rattle.tape_ops.specs.declared.declarator.DeclrOp.TheVariants as declrs
use Rattle.tape_ops.specs.declared.specifier.SpecOp.{SpecOp}
use Rattle.tape_ops.specs.declared.specifier.SpecOp.TheVariants as specs
use Rattle.tape_ops.specs.declared.statement.StmtOp.{StmtOp}
use Rattle.tape_ops.specs.declared.statement.StmtOp.TheVariants as stmts
use Rattle.flow_graph.specs.declared.constraint.Constraint.{Constraint}
use Rattle.name_rules.specs.Checks.{is_star}
use Rattle.name_rules.specs.Uses.{use_at}
use Rattle.qual_types.specs.Skel.{Skel, root, param_at}
use Rattle.name_rules.specs.ShapeSteps.State.{declared_last}
use Rattle.name_rules.specs.ShapeSteps.Steps.{twice}
use Rattle.row_rules.specs.Worlds.{World, at, all_lattices, span}
use Rattle.row_rules.specs.Annotations.{parameters, further}
use Rattle.row_rules.specs.Vals.{is_ref, own, is_carrying, left_of}
use Rattle.row_rules.specs.Vals as vals
use Rattle.row_rules.specs.Forming.{formed}
use Rattle.row_rules.specs.Rows.{annotating_some, annotating_place, formed_here}
use Rattle.row_rules.specs.RowSteps.Rounds.{naming, is_quiet}
use Rattle.row_rules.specs.RowSteps.State.{Operand, expression, named_type, State, nothing, first_operand, val_of_operand, is_zero_operand, type_of_operand, val_at, value_at, is_zero_at, type_at, depth_below, operands_below, first_braces}
use Rattle.row_rules.specs.RowSteps.Steps.{target_in, initialised_by, carrying, chosen, selected, expr_step, form_step, init_step, spec_step, declr_step, stmt_step, step}
use Rattle.row_rules.specs.RowSteps.OpRows.{function_skeleton, naming_row, into_target, called_at, expr_row, form_row, init_row, spec_row, declr_row, stmt_row, loud_row, op_row}
use Rattle.row_rules.specs.RowSteps.Found.{rows_found}
use Rattle.token_laws.specs.Ops.{op_tokens, expr_tokens, form_tokens, init_tokens, spec_tokens, stmt_tokens}
use Rattle.token_laws.proofs.Texts.{AllIn, AllOps}
use Rattle.token_laws.proofs.Types.{SomeOk, Sound, named_there}
use Rattle.token_laws.proofs.Rows.{Stand, lists_stand, none_where, AtWord, writes_stand, dereferenced_stand, index_stand, carried_stand, picked_stand, formed_stand, formed_here_stand, annotating_some_stand, annotating_place_stand, flowing_stand, assigned_stand, computed_stand, chosen_stand, prefixed_stand, passed_stand, returned_stand, cast_stand, started_stand, taken_stand, use_stand, row_stand}

module _ (S : Span → Type 0) (A : ℕ → Type 0) (w : World) (pair : (a b : ℕ) → A a → A b → S (span w a b))
    (names : Sound (AtWord S) w.names) where
  abbrev OperandOk : Operand → Type 0
  OperandOk (expression v is_zero) = Unit {0}
  OperandOk (named_type t) = SomeOk (AtWord S) t

  abbrev OperandsOk : List Operand → Type 0
  OperandsOk [] = Unit {0}
  OperandsOk (it ∷ others) = OperandOk it × OperandsOk others

  fewer : (n : ℕ) (its : List Operand) → OperandsOk its → OperandsOk (drop n its)
  fewer zero [] h = tt
  fewer zero (it ∷ its) h = h
  fewer (suc n) [] h = tt
  fewer (suc n) (it ∷ its) h = fewer n its h.1

  first_ok : (its : List Operand) → OperandsOk its → OperandOk (first_operand its)
  first_ok [] h = tt
  first_ok (it ∷ its) h = h.0

  type_ok : (it : Operand) → OperandOk it → SomeOk (AtWord S) (type_of_operand it)
  type_ok (expression v is_zero) h = tt
  type_ok (named_type t) h = h

  type_there : (n : ℕ) (st : State) → OperandsOk st.operands → SomeOk (AtWord S) (type_at n st)
  type_there n st h =
      type_ok (first_operand (drop n st.operands)) (first_ok (drop n st.operands) (fewer n st.operands h))

  below_ok : (st : State) → OperandsOk st.operands → OperandsOk (operands_below st)
  below_ok st h = fewer (depth_below st) st.operands h

  type_below : (st : State) → OperandsOk st.operands
      → SomeOk (AtWord S) (type_of_operand (first_operand (operands_below st)))
  type_below st h = type_ok (first_operand (operands_below st)) (first_ok (operands_below st) (below_ok st h))

  -- the operands behind an op

  -- what is noted of a pointer changes no operand
  carrying_ok : (aims : Bool) (pointer : Skel) (st : State) → OperandsOk st.operands →
      OperandsOk (carrying aims pointer st).operands
  carrying_ok true pointer st h = h
  carrying_ok false pointer st h = h

  expr_ok : (st : State) (op : ExprOp) → OperandsOk st.operands → OperandsOk (expr_step w st op).operands
  expr_ok st (exprs.Name is_called token name) h = (tt, fewer 0 st.operands h)
  expr_ok st (exprs.Number token) h = (tt, fewer 0 st.operands h)
  expr_ok st (exprs.Char token) h = (tt, fewer 0 st.operands h)
  expr_ok st (exprs.Text token) h = (tt, fewer 0 st.operands h)
  expr_ok st (exprs.Paren token) h = h
  expr_ok st (exprs.Ext token) h = (tt, fewer 1 st.operands h)
  expr_ok st (exprs.Comma token) h = (tt, fewer 2 st.operands h)
  expr_ok st (exprs.Assign sign token first last) h = (tt, fewer 2 st.operands h)
  expr_ok st (exprs.Cond has_middle token first last) h = (tt, fewer (if has_middle then 3 else 2) st.operands h)
  expr_ok st (exprs.Binary sign token first last) h = (tt, fewer 2 st.operands h)
  expr_ok st (exprs.Prefix sign token last aims) h =
      (tt, fewer 1 _ (carrying_ok (aims && is_star sign) (value_at 0 st) st h))
  expr_ok st (exprs.Post sign token first) h = (tt, fewer 1 st.operands h)
  expr_ok st (exprs.Index token first last aims) h =
      (tt, fewer 2 _ (carrying_ok aims (if is_ref (value_at 1 st) then value_at 1 st else value_at 0 st) st h))
  expr_ok st (exprs.Arg behind first last) h = h
  expr_ok st (exprs.Call token count) h = (tt, fewer (suc count) st.operands h)
  expr_ok st (exprs.Arrow token first last aims) h = (tt, fewer 1 _ (carrying_ok aims (value_at 0 st) st h))
  expr_ok st (exprs.Dot token member name) h = (tt, fewer 1 st.operands h)
  expr_ok st (exprs.Label token) h = (tt, fewer 0 st.operands h)

  form_ok : (st : State) (op : FormOp) → OperandsOk st.operands → OperandsOk (form_step w st op).operands
  form_ok st (forms.Cast token last) h = (tt, fewer 2 st.operands h)
  form_ok st (forms.Sizeof token) h = (tt, fewer 1 st.operands h)
  form_ok st (forms.StmtExpr true token) h = (tt, fewer 1 st.operands h)
  form_ok st (forms.StmtExpr false token) h = (tt, fewer 0 st.operands h)
  form_ok st (forms.VaArg token last) h = (tt, fewer 2 st.operands h)
  form_ok st (forms.VaStart token last) h = (tt, fewer 2 st.operands h)
  form_ok st (forms.VaCopy token last) h = (tt, fewer 2 st.operands h)
  form_ok st (forms.OffsetMember token name) h = h
  form_ok st (forms.OffsetIndex token) h = fewer 1 st.operands h
  form_ok st (forms.Offset token) h = (tt, fewer 1 st.operands h)
  form_ok st (forms.Compat token) h = (tt, fewer 2 st.operands h)
  form_ok st forms.Control h = h
  form_ok st forms.NoType h = (tt, fewer 0 st.operands h)
  form_ok st (forms.Choose token) h = (tt, fewer 2 st.operands h)
  form_ok st (forms.Generic token count) h = (tt, fewer (suc (twice count)) st.operands h)

  init_ok : (st : State) (op : InitOp) → OperandsOk st.operands → OperandsOk (init_step w st op).operands
  init_ok st (inits.Value first last) h = fewer 1 st.operands h
  init_ok st inits.Begin h = h
  init_ok st inits.Rule h = h
  init_ok st (inits.Literal token) h = h
  init_ok st inits.ListBegin h = h
  init_ok st (inits.Member token name) h = h
  init_ok st (inits.Index token) h = h
  init_ok st (inits.Leaf first last) h = h
  init_ok st inits.ListEnd h = h
  init_ok st inits.End h = below_ok st h
  init_ok st inits.LiteralEnd h = (tt, fewer 1 (operands_below st) (below_ok st h))

  spec_ok : (st : State) (op : SpecOp) → OperandsOk st.operands → OperandsOk (spec_step st op).operands
  spec_ok st (specs.Word token) h = h
  spec_ok st (specs.Storage keyword) h = h
  spec_ok st specs.Void h = h
  spec_ok st (specs.Typedef token name) h = h
  spec_ok st (specs.TagUse kind token name) h = h
  spec_ok st (specs.TagAlone kind token name) h = h
  spec_ok st (specs.TagBody kind token name) h = h
  spec_ok st (specs.Untagged kind token) h = h
  spec_ok st specs.BodyEnd h = h
  spec_ok st (specs.Enumerator token name) h = h
  spec_ok st (specs.UnnamedMember token) h = h
  spec_ok st specs.PartBegin h = h
  spec_ok st (specs.TypeofEnd token) h = h
  spec_ok st specs.TypeEnd h = fewer 1 st.operands h
  spec_ok st specs.SpecsEnd h = h

  declr_ok : (st : State) (op : DeclrOp) → OperandsOk st.operands → OperandsOk (declr_step w st op).operands
  declr_ok st (declrs.DeclName token name) h = h
  declr_ok st (declrs.ParamsBegin is_own) h = h
  declr_ok st declrs.Param h = h
  declr_ok st declrs.ParamsEnd h = h
  declr_ok st declrs.Pointer h = h
  declr_ok st declrs.Array h = h
  declr_ok st (declrs.Function has_ellipsis) h = h
  declr_ok st declrs.Declare h = h
  declr_ok st declrs.AutoBegin h = h
  declr_ok st (declrs.AutoEnd token) h = h
  declr_ok st (declrs.Identifier token name) h = h
  declr_ok st declrs.OldParam h = h
  declr_ok st declrs.Member h = h
  declr_ok st (declrs.TypeName first) h =
      (named_there (AtWord S) w.names.type_names (at w first) names.type_names, fewer 0 st.operands h)
  declr_ok st declrs.DeclarationEnd h = h

  stmt_ok : (st : State) (op : StmtOp) → OperandsOk st.operands → OperandsOk (stmt_step st op).operands
  stmt_ok st stmts.Quiet h = h
  stmt_ok st stmts.Loud h = fewer 1 st.operands h
  stmt_ok st stmts.Pop h = fewer 1 st.operands h
  stmt_ok st (stmts.Return token last) h = fewer 1 st.operands h
  stmt_ok st stmts.Enter h = h
  stmt_ok st stmts.Leave h = h
  stmt_ok st stmts.FunctionBody h = h
  stmt_ok st stmts.FunctionEnd h = h

  step_ok : (st : State) (op : Op) → OperandsOk st.operands → OperandsOk (step w st op).operands
  step_ok st (ops.Expr op) h = expr_ok st op h
  step_ok st (ops.Form op) h = form_ok st op h
  step_ok st (ops.Init op) h = init_ok st op h
  step_ok st (ops.Spec op) h = spec_ok st op h
  step_ok st (ops.Declr op) h = declr_ok st op h
  step_ok st (ops.Stmt op) h = stmt_ok st op h

  -- what an op gives

  target_stand : (t : Option Skel) (it : Operand) (where_ : Span) → S where_ → Stand S (into_target w t it where_)
  target_stand None it where_ is = tt
  target_stand (Some t) it where_ is =
      flowing_stand S w (is_zero_operand it) (vals.value (val_of_operand it)) t (all_lattices w) where_ is

  either_stands : (b : Bool) (cs ds : List Constraint) → Stand S cs → Stand S ds → Stand S (if b then cs else ds)
  either_stands true cs ds h k = h
  either_stands false cs ds h k = k

  expr_stand : (st : State) (op : ExprOp) → AllIn A (expr_tokens op) → Stand S (expr_row w st op)
  expr_stand st (exprs.Name is_called token name) is =
      use_stand S w token (use_at w.names.uses (at w token)) (pair token token is.0 is.0)
  expr_stand st (exprs.Number token) is = tt
  expr_stand st (exprs.Char token) is = tt
  expr_stand st (exprs.Text token) is = formed_here_stand S w token (pair token token is.0 is.0)
  expr_stand st (exprs.Paren token) is = tt
  expr_stand st (exprs.Ext token) is = tt
  expr_stand st (exprs.Comma token) is = tt
  expr_stand st (exprs.Assign sign token first last) is =
      assigned_stand S w sign (is_zero_at 0 st) (val_at 1 st).skel (value_at 0 st) (span w first last)
      (pair first last is.1.0 is.1.1.0)
  expr_stand st (exprs.Cond has_middle token first last) is =
      chosen_stand S w (is_zero_at 1 st) (is_zero_at 0 st) (value_at 1 st) (value_at 0 st) (own w token)
      (span w first last) (pair first last is.1.0 is.1.1.0)
  expr_stand st (exprs.Binary sign token first last) is =
      computed_stand S w sign (is_zero_at 1 st) (is_zero_at 0 st) (value_at 1 st) (value_at 0 st) (own w token)
      (span w first last) (pair first last is.1.0 is.1.1.0)
  expr_stand st (exprs.Prefix sign token last aims) is =
      either_stands (is_carrying w sign aims) _ _
      (carried_stand S w (val_at 0 st).skel st.carried (own w token) (span w token token) (pair token token is.0 is.0))
      (prefixed_stand S w sign (is_zero_at 0 st) (val_at 0 st) (own w token) aims (span w token last)
      (pair token last is.0 is.1.0))
  expr_stand st (exprs.Post sign token first) is =
      writes_stand S w (root (val_at 0 st).skel) (span w first token) (pair first token is.1.0 is.0)
  expr_stand st (exprs.Index token first last aims) is =
      index_stand S w (value_at 1 st) (value_at 0 st) aims (span w first last) (pair first last is.1.0 is.1.1.0)
  expr_stand st (exprs.Arg behind first last) is =
      let f = called_at behind st in
      passed_stand S w (is_zero_at behind st) (value_at behind st) (param_at (parameters f) st.passed) (further f)
      (span w first last) (pair first last is.0 is.1.0)
  expr_stand st (exprs.Call token count) is = tt
  expr_stand st (exprs.Arrow token first last aims) is =
      dereferenced_stand S w (value_at 0 st) aims (span w first last) (pair first last is.1.0 is.1.1.0)
  expr_stand st (exprs.Dot token member name) is = tt
  expr_stand st (exprs.Label token) is = formed_here_stand S w token (pair token token is.0 is.0)

  form_stand : (st : State) (op : FormOp) → AllIn A (form_tokens op) → OperandsOk st.operands
      → Stand S (form_row w st op)
  form_stand st (forms.Cast token last) is h =
      cast_stand S w (type_at 1 st) (is_zero_at 0 st) (value_at 0 st) (own w token) (span w token last)
      (type_there 1 st h)
      (pair token last is.0 is.1.0)
  form_stand st (forms.Sizeof token) is h = tt
  form_stand st (forms.StmtExpr has_value token) is h = tt
  form_stand st (forms.VaArg token last) is h =
      let good = pair token last is.0 is.1.0 in
      lists_stand S (formed w (span w token last) (own w token)) _
      (formed_stand S w (span w token last) (own w token) good)
      (lists_stand S (annotating_some w (type_at 0 st) (own w token)) _
      (annotating_some_stand S w (type_at 0 st) (own w token) (type_there 0 st h))
      (taken_stand S w (value_at 1 st) (own w token) (span w token last) good))
  form_stand st (forms.VaStart token last) is h =
      started_stand S w (function_skeleton w st.rounds.body) (value_at 1 st) (span w token last)
      (pair token last is.0 is.1.0)
  form_stand st (forms.VaCopy token last) is h =
      flowing_stand S w (is_zero_at 0 st) (value_at 0 st) (value_at 1 st) (all_lattices w) (span w token last)
      (pair token last is.0 is.1.0)
  form_stand st (forms.OffsetMember token name) is h = tt
  form_stand st (forms.OffsetIndex token) is h = tt
  form_stand st (forms.Offset token) is h = tt
  form_stand st (forms.Compat token) is h = tt
  form_stand st forms.Control is h = tt
  form_stand st forms.NoType is h = tt
  form_stand st (forms.Choose token) is h =
      picked_stand S w (left_of (chosen st)) (own w token) (span w token token) (pair token token is.0 is.0)
  form_stand st (forms.Generic token count) is h =
      picked_stand S w (left_of (selected w token 0 count st)) (own w token) (span w token token)
      (pair token token is.0 is.0)

  init_stand : (st : State) (op : InitOp) → AllIn A (init_tokens op) → OperandsOk st.operands
      → Stand S (init_row w st op)
  init_stand st (inits.Value first last) is h =
      target_stand (initialised_by w (declared_last st.declarations)) (first_operand st.operands) (span w first last)
      (pair first last is.0 is.1.0)
  init_stand st inits.Begin is h = tt
  init_stand st inits.Rule is h = tt
  init_stand st (inits.Literal token) is h =
      lists_stand S (formed_here w token)
      (annotating_place w (type_of_operand (first_operand (operands_below st))) (own w token))
      (formed_here_stand S w token (pair token token is.0 is.0))
      (annotating_place_stand S w (type_of_operand (first_operand (operands_below st))) (own w token) (type_below st h))
  init_stand st inits.ListBegin is h = tt
  init_stand st (inits.Member token name) is h = tt
  init_stand st (inits.Index token) is h = tt
  init_stand st (inits.Leaf first last) is h =
      target_stand (target_in w (first_braces st.braces)) (first_operand st.leaves) (span w first last)
      (pair first last is.0 is.1.0)
  init_stand st inits.ListEnd is h = tt
  init_stand st inits.End is h = tt
  init_stand st inits.LiteralEnd is h = tt

  spec_stand : (op : SpecOp) → AllIn A (spec_tokens op) → Stand S (spec_row w op)
  spec_stand (specs.UnnamedMember token) is = formed_here_stand S w token (pair token token is.0 is.0)
  spec_stand op is = tt

  declr_stand : (st : State) (op : DeclrOp) → Stand S (declr_row w st op)
  declr_stand st (declrs.DeclName token name) =
      row_stand S w (naming_row w (naming st.rounds) token) token names.declared
  declr_stand st (declrs.ParamsBegin is_own) = tt
  declr_stand st declrs.Param = tt
  declr_stand st declrs.ParamsEnd = tt
  declr_stand st declrs.Pointer = tt
  declr_stand st declrs.Array = tt
  declr_stand st (declrs.Function has_ellipsis) = tt
  declr_stand st declrs.Declare = tt
  declr_stand st declrs.AutoBegin = tt
  declr_stand st (declrs.AutoEnd token) = tt
  declr_stand st (declrs.Identifier token name) = tt
  declr_stand st declrs.OldParam = tt
  declr_stand st declrs.Member = tt
  declr_stand st (declrs.TypeName first) = tt
  declr_stand st declrs.DeclarationEnd = tt

  stmt_stand : (st : State) (op : StmtOp) → AllIn A (stmt_tokens op) → Stand S (stmt_row w st op)
  stmt_stand st stmts.Quiet is = tt
  stmt_stand st stmts.Loud is = tt
  stmt_stand st stmts.Pop is = tt
  stmt_stand st (stmts.Return token last) is =
      returned_stand S w (function_skeleton w st.rounds.body) (is_zero_at 0 st) (value_at 0 st) (span w token last)
      (pair token last is.0 is.1.0)
  stmt_stand st stmts.Enter is = tt
  stmt_stand st stmts.Leave is = tt
  stmt_stand st stmts.FunctionBody is = tt
  stmt_stand st stmts.FunctionEnd is = tt

  loud_stand : (st : State) (op : Op) → AllIn A (op_tokens op) → OperandsOk st.operands → Stand S (loud_row w st op)
  loud_stand st (ops.Expr op) is h = expr_stand st op is
  loud_stand st (ops.Form op) is h = form_stand st op is h
  loud_stand st (ops.Init op) is h = init_stand st op is h
  loud_stand st (ops.Spec op) is h = spec_stand op is
  loud_stand st (ops.Declr op) is h = declr_stand st op
  loud_stand st (ops.Stmt op) is h = stmt_stand st op is

  tape_stands : (tape : List Op) (st : State) → AllOps A tape → OperandsOk st.operands → Stand S (rows_found w st tape)
  tape_stands [] st is h = tt
  tape_stands (op ∷ tape) st is h =
      lists_stand S (op_row w st op) (rows_found w (step w st op) tape)
      (none_where S (is_quiet st.rounds) (loud_row w st op) (loud_stand st op is.0 h))
      (tape_stands tape (step w st op) is.1 (step_ok st op h))

  pub rows_stand : (tape : List Op) → AllOps A tape → Stand S (rows_found w nothing tape)
  rows_stand tape is = tape_stands tape nothing is tt
