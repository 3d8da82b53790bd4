-- The constants and bounds that are found along tapes name elements.
use Rattle.std.proofs.Common.{List, [], ◌∷◌, Option, None, Some, subst}
use Rattle.qual_base.specs.declared.places.Span.{Span}
use Rattle.flow_graph.specs.declared.constraint.Constraint.{Constraint}
use Rattle.tape_ops.specs.declared.op.Op.{Op}
use Rattle.tape_ops.specs.declared.op.Op.TheVariants as ops
use Rattle.tape_ops.specs.declared.expression.ExprOp.{ExprOp}
use Rattle.tape_ops.specs.declared.expression.ExprOp.TheVariants as exprs
use Rattle.tape_ops.specs.declared.form.FormOp.{FormOp}
use Rattle.tape_ops.specs.declared.form.FormOp.TheVariants as forms
use Rattle.tape_ops.specs.declared.initialiser.InitOp.{InitOp}
use Rattle.tape_ops.specs.declared.initialiser.InitOp.TheVariants as inits
use Rattle.tape_ops.specs.declared.declarator.DeclrOp.{DeclrOp}
use Rattle.tape_ops.specs.declared.declarator.DeclrOp.TheVariants as declrs
use Rattle.tape_ops.specs.declared.specifier.SpecOp.{SpecOp}
use Rattle.tape_ops.specs.declared.specifier.SpecOp.TheVariants as specs
use Rattle.tape_ops.specs.declared.statement.StmtOp.{StmtOp}
use Rattle.tape_ops.specs.declared.statement.StmtOp.TheVariants as stmts
use Rattle.c_tape.specs.Tape.{tape_of}
use Rattle.name_rules.specs.Uses.{use_at}
use Rattle.type_rules.specs.Program.{Source}
use Rattle.qual_types.specs.Skel.{Skel, root, param_at}
use Rattle.name_rules.specs.ShapeSteps.State.{declared_last}
use Rattle.row_rules.specs.Worlds.{World, at, all_lattices, span}
use Rattle.row_rules.specs.Annotations.{parameters, further}
use Rattle.row_rules.specs.Vals.{is_carrying, own}
use Rattle.row_rules.specs.Vals as vals
use Rattle.row_rules.specs.Forming.{formed}
use Rattle.row_rules.specs.Rows.{annotating_some, annotating_place, formed_here}
use Rattle.row_rules.specs.RowSteps.Rounds.{naming, is_quiet}
use Rattle.row_rules.specs.RowSteps.State.{Operand, State, nothing, first_operand, val_of_operand, is_zero_operand, type_of_operand, val_at, value_at, is_zero_at, type_at, operands_below, first_braces}
use Rattle.row_rules.specs.RowSteps.Steps.{target_in, initialised_by, selected, step}
use Rattle.row_rules.specs.RowSteps.Steps as steps
use Rattle.row_rules.specs.RowSteps.OpRows.{function_skeleton, naming_row, into_target, called_at, expr_row, form_row, init_row, spec_row, declr_row, stmt_row, loud_row, op_row}
use Rattle.row_rules.specs.RowSteps.Found.{rows_found, unit_rows}
use Rattle.constraint_rules.specs.Systems.{Program, system_of, world_of}
use Rattle.row_laws.specs.Laws.{ConstraintsAreFound, rows_among}
use Rattle.owned_laws.specs.ElementLaws.Naming.{ElementsAreNamed, LatticesAreNamed}
use Rattle.owned_laws.proofs.ElementLaws.Elements.{AllNamed, either_where, lists_named, none_where, system_named, lattices_named}
use Rattle.owned_laws.proofs.ElementLaws.Rows.{carried_named, index_named, picked_named, Flows, writes_named, dereferenced_named, formed_named, formed_here_named, annotating_some_named, annotating_place_named, flowing_named, assigned_named, computed_named, chosen_named, prefixed_named, passed_named, returned_named, cast_named, started_named, taken_named, use_named, row_named}

module _ (law : Flows) (w : World) where
  abbrev Named : List Constraint → Type 0
  Named cs = AllNamed w.lattices cs

  target_named : (t : Option Skel) (it : Operand) (where_ : Span) → Named (into_target w t it where_)
  target_named None it where_ = tt
  target_named (Some t) it where_ =
      flowing_named law w (is_zero_operand it) (vals.value (val_of_operand it)) t (all_lattices w) where_

  expr_named : (st : State) (op : ExprOp) → Named (expr_row w st op)
  expr_named st (exprs.Name is_called token name) = use_named law w token (use_at w.names.uses (at w token))
  expr_named st (exprs.Number token) = tt
  expr_named st (exprs.Char token) = tt
  expr_named st (exprs.Text token) = formed_here_named law w token
  expr_named st (exprs.Paren token) = tt
  expr_named st (exprs.Ext token) = tt
  expr_named st (exprs.Comma token) = tt
  expr_named st (exprs.Assign sign token first last) =
      assigned_named law w sign (is_zero_at 0 st) (val_at 1 st).skel (value_at 0 st) (span w first last)
  expr_named st (exprs.Cond has_middle token first last) =
      chosen_named law w (is_zero_at 1 st) (is_zero_at 0 st) (value_at 1 st) (value_at 0 st) (own w token)
      (span w first last)
  expr_named st (exprs.Binary sign token first last) =
      computed_named law w sign (is_zero_at 1 st) (is_zero_at 0 st) (value_at 1 st) (value_at 0 st) (own w token)
      (span w first last)
  expr_named st (exprs.Prefix sign token last aims) =
      either_where w.lattices (is_carrying w sign aims) _ _
      (carried_named law w (val_at 0 st).skel st.carried (own w token) (span w token token))
      (prefixed_named law w sign (is_zero_at 0 st) (val_at 0 st) (own w token) aims (span w token last))
  expr_named st (exprs.Post sign token first) = writes_named law w (root (val_at 0 st).skel) (span w first token)
  expr_named st (exprs.Index token first last aims) =
      index_named law w (value_at 1 st) (value_at 0 st) aims (span w first last)
  expr_named st (exprs.Arg behind first last) =
      let f = called_at behind st in
      passed_named law w (is_zero_at behind st) (value_at behind st) (param_at (parameters f) st.passed) (further f)
      (span w first last)
  expr_named st (exprs.Call token count) = tt
  expr_named st (exprs.Arrow token first last aims) = dereferenced_named law w (value_at 0 st) aims (span w first last)
  expr_named st (exprs.Dot token member name) = tt
  expr_named st (exprs.Label token) = formed_here_named law w token

  form_named : (st : State) (op : FormOp) → Named (form_row w st op)
  form_named st (forms.Cast token last) =
      cast_named law w (type_at 1 st) (is_zero_at 0 st) (value_at 0 st) (own w token) (span w token last)
  form_named st (forms.Sizeof token) = tt
  form_named st (forms.StmtExpr has_value token) = tt
  form_named st (forms.VaArg token last) =
      lists_named w.lattices (formed w (span w token last) (own w token)) _
      (formed_named law w (span w token last) (own w token))
      (lists_named w.lattices (annotating_some w (type_at 0 st) (own w token)) _
      (annotating_some_named law w (type_at 0 st) (own w token))
      (taken_named law w (value_at 1 st) (own w token) (span w token last)))
  form_named st (forms.VaStart token last) =
      started_named law w (function_skeleton w st.rounds.body) (value_at 1 st) (span w token last)
  form_named st (forms.VaCopy token last) =
      flowing_named law w (is_zero_at 0 st) (value_at 0 st) (value_at 1 st) (all_lattices w) (span w token last)
  form_named st (forms.OffsetMember token name) = tt
  form_named st (forms.OffsetIndex token) = tt
  form_named st (forms.Offset token) = tt
  form_named st (forms.Compat token) = tt
  form_named st forms.Control = tt
  form_named st forms.NoType = tt
  form_named st (forms.Choose token) =
      picked_named law w (vals.left_of (steps.chosen st)) (own w token) (span w token token)
  form_named st (forms.Generic token count) =
      picked_named law w (vals.left_of (selected w token 0 count st)) (own w token) (span w token token)

  init_named : (st : State) (op : InitOp) → Named (init_row w st op)
  init_named st (inits.Value first last) =
      target_named (initialised_by w (declared_last st.declarations)) (first_operand st.operands) (span w first last)
  init_named st inits.Begin = tt
  init_named st inits.Rule = tt
  init_named st (inits.Literal token) =
      lists_named w.lattices (formed_here w token)
      (annotating_place w (type_of_operand (first_operand (operands_below st))) (own w token))
      (formed_here_named law w token)
      (annotating_place_named law w (type_of_operand (first_operand (operands_below st))) (own w token))
  init_named st inits.ListBegin = tt
  init_named st (inits.Member token name) = tt
  init_named st (inits.Index token) = tt
  init_named st (inits.Leaf first last) =
      target_named (target_in w (first_braces st.braces)) (first_operand st.leaves) (span w first last)
  init_named st inits.ListEnd = tt
  init_named st inits.End = tt
  init_named st inits.LiteralEnd = tt

  spec_named : (op : SpecOp) → Named (spec_row w op)
  spec_named (specs.UnnamedMember token) = formed_here_named law w token
  spec_named op = tt

  declr_named : (st : State) (op : DeclrOp) → Named (declr_row w st op)
  declr_named st (declrs.DeclName token name) = row_named law w (naming_row w (naming st.rounds) token) token
  declr_named st (declrs.ParamsBegin is_own) = tt
  declr_named st declrs.Param = tt
  declr_named st declrs.ParamsEnd = tt
  declr_named st declrs.Pointer = tt
  declr_named st declrs.Array = tt
  declr_named st (declrs.Function has_ellipsis) = tt
  declr_named st declrs.Declare = tt
  declr_named st declrs.AutoBegin = tt
  declr_named st (declrs.AutoEnd token) = tt
  declr_named st (declrs.Identifier token name) = tt
  declr_named st declrs.OldParam = tt
  declr_named st declrs.Member = tt
  declr_named st (declrs.TypeName first) = tt
  declr_named st declrs.DeclarationEnd = tt

  stmt_named : (st : State) (op : StmtOp) → Named (stmt_row w st op)
  stmt_named st stmts.Quiet = tt
  stmt_named st stmts.Loud = tt
  stmt_named st stmts.Pop = tt
  stmt_named st (stmts.Return token last) =
      returned_named law w (function_skeleton w st.rounds.body) (is_zero_at 0 st) (value_at 0 st) (span w token last)
  stmt_named st stmts.Enter = tt
  stmt_named st stmts.Leave = tt
  stmt_named st stmts.FunctionBody = tt
  stmt_named st stmts.FunctionEnd = tt

  loud_named : (st : State) (op : Op) → Named (loud_row w st op)
  loud_named st (ops.Expr op) = expr_named st op
  loud_named st (ops.Form op) = form_named st op
  loud_named st (ops.Init op) = init_named st op
  loud_named st (ops.Spec op) = spec_named op
  loud_named st (ops.Declr op) = declr_named st op
  loud_named st (ops.Stmt op) = stmt_named st op

  pub tape_named : (tape : List Op) (st : State) → Named (rows_found w st tape)
  tape_named [] st = tt
  tape_named (op ∷ tape) st =
      lists_named w.lattices (op_row w st op) (rows_found w (step w st op) tape)
      (none_where w.lattices (is_quiet st.rounds) (loud_row w st op) (loud_named st op))
      (tape_named tape (step w st op))

-- the constants and bounds of all units of a program name elements of its lattices
units_named : Flows → (p : Program) (sources : List Source) → AllNamed p.lattices (rows_among p sources)
units_named law p [] = tt
units_named law p (it ∷ sources) =
    lists_named p.lattices (unit_rows (world_of p it) (tape_of it.items)) (rows_among p sources)
    (tape_named law (world_of p it) (tape_of it.items) nothing) (units_named law p sources)

-- the law: in each lattice constants and bounds name elements of it
pub elements_are_named : Flows → ConstraintsAreFound → ElementsAreNamed
elements_are_named law found p sound sized =
    system_named p.lattices (system_of p) sized
    (subst (AllNamed p.lattices) (found p sound) (units_named law p p.sources))

-- the law: each constant and bound names a lattice that is there, and an element of it
pub lattices_are_named : Flows → ConstraintsAreFound → LatticesAreNamed
lattices_are_named law found p sound sized =
    lattices_named p.lattices (system_of p) sized
    (subst (AllNamed p.lattices) (found p sound) (units_named law p p.sources))
