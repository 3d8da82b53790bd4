-- Each op of a tape whose look-ups stay in the function around keeps its stacks in it, and its constraints fit.
use Rattle.std.proofs.Common.{◌≡◌, inl, inr, ℕ, zero, suc, ◌+◌, Bool, true, false, List, [], ◌∷◌, drop, Option, None, Some, refl, subst, sym, ap, ◌∙◌}
use Rattle.std.specs.Prelude.{◌&&◌, take, if◌then◌else◌}
use Rattle.qual_base.specs.declared.places.Span.{Span}
use Rattle.tape_ops.specs.declared.op.Op.{Op}
use Rattle.tape_ops.specs.declared.op.Op.TheVariants as ops
use Rattle.tape_ops.specs.declared.expression.ExprOp.{ExprOp}
use Rattle.tape_ops.specs.declared.expression.ExprOp.TheVariants as exprs
use Rattle.tape_ops.specs.declared.form.FormOp.{FormOp}
use Rattle.tape_ops.specs.declared.form.FormOp.TheVariants as forms
use Rattle.tape_ops.specs.declared.initialiser.InitOp.{InitOp}
use Rattle.tape_ops.specs.declared.initialiser.InitOp.TheVariants as inits
use Rattle.tape_ops.specs.declared.specifier.SpecOp.{SpecOp}
use Rattle.tape_ops.specs.declared.specifier.SpecOp.TheVariants as specs
use Rattle.tape_ops.specs.declared.declarator.DeclrOp.{DeclrOp}
use Rattle.tape_ops.specs.declared.declarator.DeclrOp.TheVariants as declrs
use Rattle.tape_ops.specs.declared.statement.StmtOp.{StmtOp}
use Rattle.tape_ops.specs.declared.statement.StmtOp.TheVariants as stmts
use Rattle.type_table.specs.Types.{CType, pointer}
use Rattle.qual_types.specs.Skel.{Skel, root, param_at}
use Rattle.name_rules.specs.Spellings.{Place}
use Rattle.name_rules.specs.Scopes.{Role, typedef_role, object_role, function_role, parameter_role, field_role, enumerator_role, Declared, declared_at, Use, means, called, missing, is_place}
use Rattle.name_rules.specs.Linking.{link_of}
use Rattle.name_rules.specs.Uses.{use_at}
use Rattle.flow_graph.specs.declared.constraint.Constraint.{Constraint}
use Rattle.name_rules.specs.Checks.{is_star}
use Rattle.name_rules.specs.ShapeSteps.Steps.{twice}
use Rattle.name_rules.specs.ShapeSteps.State.{declared_last, without_innermost}
use Rattle.row_rules.specs.Starting.{Start}
use Rattle.row_rules.specs.Worlds.{World, at, all_lattices, skeleton, span, word_span}
use Rattle.row_rules.specs.Forming.{formed}
use Rattle.row_rules.specs.Annotations.{parameters, further}
use Rattle.row_rules.specs.Vals.{contents, is_ref, is_carrying, left_of, own}
use Rattle.row_rules.specs.Vals as vals
use Rattle.row_rules.specs.Rows.{carried, prefixed, some_param_kind, numbered_row, identified_by, crossed, formed_here, instance, some_instance, use_demand, annotating_some, annotating_place, equal_to, name_row, declared_row, some_declared_row, param_row, row_at}
use Rattle.row_rules.specs.RowSteps.Rounds.{Naming, a_name, own_param, other_param, identified_param, naming, is_quiet, Rounds, round_step, stmt_round}
use Rattle.row_rules.specs.RowSteps.State.{Operand, Braces, State, nothing, first_operand, val_of_operand, is_zero_operand, type_of_operand, val_at, value_at, is_zero_at, type_at, operand_put, dropped, depth_below, operands_below, operands_within, first_braces}
use Rattle.row_rules.specs.RowSteps.Steps.{carrying, candidate_at, chosen, selected, target_in, with_member, with_index, with_item, initialised_by, expr_step, form_step, init_step, spec_step, declr_step, stmt_step, step}
use Rattle.row_rules.specs.RowSteps.OpRows.{function_skeleton, some_param_row, naming_row, into_target, called_at, expr_row, form_row, init_row, spec_row, declr_row, stmt_row, loud_row, op_row}
use Rattle.row_rules.specs.RowSteps.Found.{rows_found}
use Rattle.owned_laws.specs.OwnerLaws.Fitting.{AllFit, start_at}
use Rattle.owned_laws.specs.OwnerLaws.Rows.{MembersInside, RowsOf}
use Rattle.owned_laws.specs.Around.{BeginsIn, MeantFits, SomeMeantFits, UseFits, DeclaredFits, ParamFits, FunctionFits, NamingFits, ExprFits, FormFits, InitOpFits, DeclrFits, StmtFits, OpFits}
use Rattle.owned_laws.specs.Tapes.{OpsFit}
use Rattle.name_rules.proofs.MeaningLaws.Lists.{place_is}
use Rattle.owned_laws.proofs.Opening.{form_body, spec_body, declr_body}
use Rattle.owned_laws.proofs.Found.{Setting, sys, owner, In, none_in, skeleton_in}
use Rattle.owned_laws.proofs.Stacks.{SomeSkelIn, contents_in, result_in, value_in, further_in, own_in, either_in, branch_in, binary_in, prefix_in, index_in, AllValsIn, vals_joined, left_in, pick_in, used_in, member_skel_in, initialised_in, function_in, OperandIn, OperandsIn, drop_in, take_in, reverse_in, first_val_in, first_value_in, AllBracesIn, first_braces_in, others_in, changed_in, target_in_in, list_of_in, with_member_in, with_index_in, with_item_in}

-- all skeletons that are kept
pub record SkelsIn (k : Setting) (os ls : List Operand) (bs : List Braces) (it by : Skel) : Type 0 where
  pub operands : OperandsIn k os
  pub leaves : OperandsIn k ls
  pub braces : AllBracesIn k bs
  pub literal : In k it
  pub carried : In k by

abbrev pub StacksIn : Setting → State → Type 0
StacksIn k st = SkelsIn k st.operands st.leaves st.braces st.literal st.carried

module _ (k : Setting) where
  abbrev w : World
  w = k.world

  val_in : (n : ℕ) (st : State) → StacksIn k st → In k (val_at n st).skel
  val_in n st h = first_val_in k (drop n st.operands) (drop_in k n st.operands h.operands)

  value_at_in : (n : ℕ) (st : State) → StacksIn k st → In k (value_at n st)
  value_at_in n st h = value_in k (val_at n st) (val_in n st h)

  put_in : (n : ℕ) (it : Operand) (st : State) → OperandIn k it → StacksIn k st → StacksIn k (operand_put n it st)
  put_in n it st o h = record {
    operands = (o, drop_in k n st.operands h.operands);
    leaves = h.leaves;
    braces = h.braces;
    literal = h.literal;
    carried = h.carried;
  }

  dropped_in : (n : ℕ) (st : State) → StacksIn k st → StacksIn k (dropped n st)
  dropped_in n st h = record {
    operands = drop_in k n st.operands h.operands;
    leaves = h.leaves;
    braces = h.braces;
    literal = h.literal;
    carried = h.carried;
  }

  carrying_in : (aims : Bool) (by : Skel) (st : State) → In k by → StacksIn k st → StacksIn k (carrying aims by st)
  carrying_in true by st i h = record {
    operands = h.operands;
    leaves = h.leaves;
    braces = h.braces;
    literal = h.literal;
    carried = i;
  }
  carrying_in false by st i h = h

  expr_in : (st : State) (op : ExprOp) → StacksIn k st → ExprFits w k.starts k.function st op →
      StacksIn k (expr_step w st op)
  expr_in st (exprs.Name is_called token name) h fit =
      put_in 0 _ st (used_in k (is_quiet st.rounds) token (use_at w.names.uses (at w token)) fit) h
  expr_in st (exprs.Number token) h fit = put_in 0 _ st (own_in k token fit) h
  expr_in st (exprs.Char token) h fit = put_in 0 _ st (own_in k token fit) h
  expr_in st (exprs.Text token) h fit = put_in 0 _ st (own_in k token fit) h
  expr_in st (exprs.Paren token) h fit = h
  expr_in st (exprs.Ext token) h fit = put_in 1 _ st (val_in 0 st h) h
  expr_in st (exprs.Comma token) h fit = put_in 2 _ st (value_at_in 0 st h) h
  expr_in st (exprs.Assign sign token first last) h fit =
      put_in 2 _ st (contents_in k (val_at 1 st).skel (val_in 1 st h)) h
  expr_in st (exprs.Cond has_middle token first last) h fit =
      put_in (if has_middle then 3 else 2) _ st (branch_in k (is_zero_at 1 st) (is_zero_at 0 st) token (value_at 1 st)
      (value_at 0 st) (value_at_in 1 st h) (value_at_in 0 st h) fit) h
  expr_in st (exprs.Binary sign token first last) h fit =
      put_in 2 _ st (binary_in k sign (value_at 1 st) (value_at 0 st) (own w token) (value_at_in 1 st h)
      (value_at_in 0 st h) (own_in k token fit)) h
  expr_in st (exprs.Prefix sign token last aims) h fit =
      put_in 1 _ (carrying (aims && is_star sign) (value_at 0 st) st)
      (prefix_in k token sign (val_at 0 st) aims (val_in 0 st h) fit)
      (carrying_in (aims && is_star sign) (value_at 0 st) st (value_at_in 0 st h) h)
  expr_in st (exprs.Post sign token first) h fit = put_in 1 _ st (value_at_in 0 st h) h
  expr_in st (exprs.Index token first last aims) h fit =
      put_in 2 _ (carrying aims (if is_ref (value_at 1 st) then value_at 1 st else value_at 0 st) st)
      (index_in k w.spelling.wide (val_at 1 st) (val_at 0 st) (val_in 1 st h) (val_in 0 st h))
      (carrying_in aims (if is_ref (value_at 1 st) then value_at 1 st else value_at 0 st) st
      (either_in k (is_ref (value_at 1 st)) (value_at 1 st) (value_at 0 st) (value_at_in 1 st h)
      (value_at_in 0 st h)) h)
  expr_in st (exprs.Arg behind first last) h fit = h
  expr_in st (exprs.Call token count) h fit =
      put_in (suc count) _ (record st { passed = 0 }) (result_in k (contents (value_at count st))
      (contents_in k (value_at count st) (value_at_in count st h))) h
  expr_in st (exprs.Arrow token first last aims) h fit =
      put_in 1 _ (carrying aims (value_at 0 st) st) (contents_in k (value_at 0 st) (value_at_in 0 st h))
      (carrying_in aims (value_at 0 st) st (value_at_in 0 st h) h)
  expr_in st (exprs.Dot token member name) h fit = put_in 1 _ st (member_skel_in k (value_at 0 st) name) h
  expr_in st (exprs.Label token) h fit = put_in 0 _ st (own_in k token fit) h

  -- picks

  chosen_in : (st : State) → StacksIn k st → AllValsIn k (chosen st)
  chosen_in st h = (val_in 1 st h, (val_in 0 st h, tt))

  selected_in : (token i n : ℕ) (st : State) → StacksIn k st → AllValsIn k (selected w token i n st)
  selected_in token i zero st h = tt
  selected_in token i (suc n) st h =
      vals_joined k (if w.candidate (at w token) i then candidate_at (twice n) st ∷ [] else [])
      (selected w token (suc i) n st) (one (w.candidate (at w token) i)) (selected_in token (suc i) n st h)
    where
      one : (b : Bool) → AllValsIn k (if b then candidate_at (twice n) st ∷ [] else [])
      one true = (val_in (twice n) st h, tt)
      one false = tt

  form_in : (st : State) (op : FormOp) → StacksIn k st → FormFits w k.starts k.function op →
      StacksIn k (form_step w st op)
  form_in st (forms.Cast token last) h fit = put_in 2 _ st (own_in k token fit) h
  form_in st (forms.Sizeof token) h fit = put_in 1 _ st (own_in k token fit) h
  form_in st (forms.StmtExpr has_value token) h fit = by has_value
    where
      by : (b : Bool) → StacksIn k (form_step w st (forms.StmtExpr b token))
      by true = put_in 1 _ st (value_at_in 0 st h) h
      by false = put_in 0 _ st (own_in k token fit) h
  form_in st (forms.VaArg token last) h fit = put_in 2 _ st (own_in k token fit) h
  form_in st (forms.VaStart token last) h fit = put_in 2 _ st (own_in k token fit) h
  form_in st (forms.VaCopy token last) h fit = put_in 2 _ st (own_in k token fit) h
  form_in st (forms.OffsetMember token name) h fit = h
  form_in st (forms.OffsetIndex token) h fit = dropped_in 1 st h
  form_in st (forms.Offset token) h fit = put_in 1 _ st (own_in k token fit) h
  form_in st (forms.Compat token) h fit = put_in 2 _ st (own_in k token fit) h
  form_in st forms.Control h fit = h
  form_in st forms.NoType h fit = put_in 0 _ st tt h
  form_in st (forms.Choose token) h fit =
      put_in 2 _ st (pick_in k (own w token) (chosen st) (own_in k token fit) (chosen_in st h)) h
  form_in st (forms.Generic token count) h fit =
      put_in (suc (twice count)) _ st (pick_in k (own w token) (selected w token 0 count st) (own_in k token fit)
      (selected_in token 0 count st h)) h

  below_in : (st : State) → StacksIn k st → OperandsIn k (operands_below st)
  below_in st h = drop_in k (depth_below st) st.operands h.operands

  within_in : (st : State) → StacksIn k st → OperandsIn k (operands_within st)
  within_in st h =
      reverse_in k (take (depth_below st) st.operands) (take_in k (depth_below st) st.operands h.operands)

  init_in : (st : State) (op : InitOp) → StacksIn k st → InitOpFits w k.starts k.function st op →
      StacksIn k (init_step w st op)
  init_in st (inits.Value first last) h fit = dropped_in 1 st h
  init_in st inits.Begin h fit = h
  init_in st inits.Rule h fit = record {
    operands = h.operands;
    leaves = within_in st h;
    braces = (initialised_in k (declared_last st.declarations) fit, h.braces);
    literal = h.literal;
    carried = h.carried;
  }
  init_in st (inits.Literal token) h fit = record {
    operands = h.operands;
    leaves = within_in st h;
    braces = (contents_in k (own w token) (own_in k token fit), h.braces);
    literal = own_in k token fit;
    carried = h.carried;
  }
  init_in st inits.ListBegin h fit = record {
    operands = h.operands;
    leaves = h.leaves;
    braces = (
      list_of_in k (target_in w (first_braces st.braces)) (target_in_in k (first_braces st.braces)
          (first_braces_in k st.braces h.braces)),
      h.braces,
    );
    literal = h.literal;
    carried = h.carried;
  }
  init_in st (inits.Member token name) h fit = record {
    operands = h.operands;
    leaves = h.leaves;
    braces = changed_in k (with_member w name) (with_member_in k name) st.braces h.braces;
    literal = h.literal;
    carried = h.carried;
  }
  init_in st (inits.Index token) h fit = record {
    operands = h.operands;
    leaves = h.leaves;
    braces = changed_in k with_index (with_index_in k) st.braces h.braces;
    literal = h.literal;
    carried = h.carried;
  }
  init_in st (inits.Leaf first last) h fit = record {
    operands = h.operands;
    leaves = drop_in k 1 st.leaves h.leaves;
    braces = changed_in k with_item (with_item_in k) st.braces h.braces;
    literal = h.literal;
    carried = h.carried;
  }
  init_in st inits.ListEnd h fit = record {
    operands = h.operands;
    leaves = h.leaves;
    braces = changed_in k with_item (with_item_in k) (without_innermost st.braces) (others_in k st.braces h.braces);
    literal = h.literal;
    carried = h.carried;
  }
  init_in st inits.End h fit = record {
    operands = below_in st h;
    leaves = tt;
    braces = others_in k st.braces h.braces;
    literal = h.literal;
    carried = h.carried;
  }
  init_in st inits.LiteralEnd h fit = record {
    operands = (h.literal, drop_in k 1 (operands_below st) (below_in st h));
    leaves = tt;
    braces = others_in k st.braces h.braces;
    literal = h.literal;
    carried = h.carried;
  }

  spec_in : (st : State) (op : SpecOp) → StacksIn k st → StacksIn k (spec_step st op)
  spec_in st specs.SpecsEnd h = h
  spec_in st specs.TypeEnd h = dropped_in 1 st h
  spec_in st op h = h

  declr_in : (st : State) (op : DeclrOp) → StacksIn k st → StacksIn k (declr_step w st op)
  declr_in st (declrs.TypeName first) h =
      record {
        operands = (tt, h.operands);
        leaves = h.leaves;
        braces = h.braces;
        literal = h.literal;
        carried = h.carried;
      }
  declr_in st op h = h

  stmt_in : (st : State) (op : StmtOp) → StacksIn k st → StacksIn k (stmt_step st op)
  stmt_in st stmts.Loud h = dropped_in 1 st h
  stmt_in st stmts.Pop h = dropped_in 1 st h
  stmt_in st (stmts.Return token last) h = dropped_in 1 st h
  stmt_in st op h = h

  step_in : (st : State) (op : Op) → StacksIn k st → OpFits w k.starts k.function st op → StacksIn k (step w st op)
  step_in st (ops.Expr op) h fit = expr_in st op h fit
  step_in st (ops.Form op) h fit = form_in st op h fit
  step_in st (ops.Init op) h fit = init_in st op h fit
  step_in st (ops.Spec op) h fit = spec_in st op h
  step_in st (ops.Declr op) h fit = declr_in st op h
  step_in st (ops.Stmt op) h fit = stmt_in st op h

  -- the function whose body this is

  abbrev BodyFits : Rounds → Type 0
  BodyFits r = FunctionFits w k.starts k.function r.body

  same_body : (new old : Option ℕ) → new ≡ old → FunctionFits w k.starts k.function old →
      FunctionFits w k.starts k.function new
  same_body new old e h = subst (FunctionFits w k.starts k.function) (sym e) h

  stmt_body : (st : State) (op : StmtOp) → BodyFits st.rounds → StmtFits w k.starts k.function st op →
      BodyFits (stmt_round st.declarations st.rounds op)
  stmt_body st stmts.FunctionBody h fit = fit
  stmt_body st stmts.FunctionEnd h fit = tt
  stmt_body st op h fit = h

  step_body : (st : State) (op : Op) → BodyFits st.rounds → OpFits w k.starts k.function st op →
      BodyFits (round_step st.declarations st.rounds op)
  step_body st (ops.Expr op) h fit = h
  step_body st (ops.Form op) h fit = same_body _ _ (form_body st.rounds op) h
  step_body st (ops.Init op) h fit = h
  step_body st (ops.Spec op) h fit = same_body _ _ (spec_body st.rounds op) h
  step_body st (ops.Declr op) h fit = same_body _ _ (declr_body st.declarations st.rounds op) h
  step_body st (ops.Stmt op) h fit = stmt_body st op h fit

  -- rows

  rows : RowsOf (sys k) (owner k) w
  rows = k.law.rows (sys k) (owner k) w

  -- what passes inside a skeleton that begins anywhere

  members_inside : MembersInside (sys k) w
  members_inside n i it e = skeleton_in (record k { function = None }) it.at (k.settled.members.own n i it e)

  forms_in : (p : Place) (where_ : Span) → (o : Option Start) → start_at k.starts p ≡ o
      → AllFit (sys k) (formed w where_ (skeleton w p))
  forms_in p where_ None e =
      rows.form (skeleton w p) where_ members_inside
      (skeleton_in k p (λ it is. let clash : None ≡ Some it = sym e ∙ is in absurd cc))
  forms_in p where_ (Some start) e =
      let there : Setting = record k { function = start.owner } in
      (k.law.rows (sys k) (owner there) w).form (skeleton w p) where_ members_inside
      (skeleton_in there p (λ it is. let same : Some start ≡ Some it = sym e ∙ is in
      inr (ap (λ (s : Start). s.owner) (some_is start it same))))
    where
      some_is : (one other : Start) → Some one ≡ Some other → other ≡ one
      some_is one other is = cc

  form_at : (p : Place) (where_ : Span) → AllFit (sys k) (formed w where_ (skeleton w p))
  form_at p where_ = forms_in p where_ (start_at k.starts p) refl

  form_here : (token : ℕ) → AllFit (sys k) (formed_here w token)
  form_here token = form_at (at w token) (span w token token)

  role_row : (token : ℕ) (d : Declared) (role : Role) → MeantFits w k.starts k.function false token d role →
      AllFit (sys k) (instance w token d.at role)
  role_row token d function_role h =
      k.law.lists (sys k) (formed_here w token) (crossed w token d.at) (form_here token)
      (k.law.instances k.functions k.starts k.constraints w token d.at (link_of w.names d.at) k.settled.sites_differ
      k.settled.knows (h.1 refl))
  role_row token d typedef_role h = tt
  role_row token d object_role h = tt
  role_row token d (parameter_role i) h = tt
  role_row token d (field_role n i) h = tt
  role_row token d enumerator_role h = tt

  some_meant_row : (token : ℕ) (d : Option Declared) → SomeMeantFits w k.starts k.function false token d →
      AllFit (sys k) (some_instance w token d)
  some_meant_row token None h = tt
  some_meant_row token (Some d) h = role_row token d d.role h

  use_row : (token : ℕ) (use_ : Use) → UseFits w k.starts k.function false token use_ →
      AllFit (sys k) (use_demand w token use_)
  use_row token (means p) h = some_meant_row token (declared_at w.names.declared p) h
  use_row token called h = form_here token
  use_row token missing h = tt

  annotating_some_fits : (t : Option CType) (s : Skel) → AllFit (sys k) (annotating_some w t s)
  annotating_some_fits None s = tt
  annotating_some_fits (Some t) s = rows.annotations t s

  annotating_place_fits : (t : Option CType) (s : Skel) → AllFit (sys k) (annotating_place w t s)
  annotating_place_fits None s = tt
  annotating_place_fits (Some t) s = rows.annotations (pointer [] t) s

  arg_in : (f : Skel) (n : ℕ) → In k f → (t : Option Skel) → param_at (parameters f) n ≡ t → SomeSkelIn k t
  arg_in f n h None e = tt
  arg_in f n h (Some t) e = (k.law.parts (sys k) (owner k) f h).param_in n t e

  either_fit : (b : Bool) (cs ds : List Constraint) → AllFit (sys k) cs → AllFit (sys k) ds →
      AllFit (sys k) (if b then cs else ds)
  either_fit true cs ds h l = h
  either_fit false cs ds h l = l

  expr_fits : (st : State) (op : ExprOp) → is_quiet st.rounds ≡ false → StacksIn k st →
      ExprFits w k.starts k.function st op → AllFit (sys k) (expr_row w st op)
  expr_fits st (exprs.Name is_called token name) loud h fit =
      use_row token (use_at w.names.uses (at w token)) (subst (λ (q : Bool).
      UseFits w k.starts k.function q token (use_at w.names.uses (at w token))) loud fit)
  expr_fits st (exprs.Assign sign token first last) loud h fit =
      rows.assignment sign (is_zero_at 0 st) (val_at 1 st).skel (value_at 0 st) (span w first last) (val_in 1 st h)
      (value_at_in 0 st h)
  expr_fits st (exprs.Cond has_middle token first last) loud h fit =
      rows.condition (is_zero_at 1 st) (is_zero_at 0 st) (value_at 1 st) (value_at 0 st) (own w token)
      (span w first last) (value_at_in 1 st h) (value_at_in 0 st h) (own_in k token fit)
      (form_at (at w token) (span w first last))
  expr_fits st (exprs.Binary sign token first last) loud h fit =
      rows.operator sign (is_zero_at 1 st) (is_zero_at 0 st) (value_at 1 st) (value_at 0 st) (own w token)
      (span w first last) (value_at_in 1 st h) (value_at_in 0 st h) (own_in k token fit)
  expr_fits st (exprs.Prefix sign token last aims) loud h fit =
      either_fit (is_carrying w sign aims)
      (carried w (val_at 0 st).skel st.carried (own w token) (span w token token))
      (prefixed w sign (is_zero_at 0 st) (val_at 0 st) (own w token) aims (span w token last))
      (rows.carry (val_at 0 st).skel st.carried (own w token) (span w token token) (val_in 0 st h) h.carried
      (own_in k token fit) (form_here token))
      (rows.prefix sign (is_zero_at 0 st) (val_at 0 st) (own w token) aims (span w token last) (val_in 0 st h)
      (own_in k token fit))
  expr_fits st (exprs.Post sign token first) loud h fit =
      rows.writes (root (val_at 0 st).skel) (span w first token)
  expr_fits st (exprs.Index token first last aims) loud h fit =
      rows.index (value_at 1 st) (value_at 0 st) aims (span w first last)
  expr_fits st (exprs.Arg behind first last) loud h fit =
      let f = called_at behind st in
      let inside =
      contents_in k (value_at (suc (behind + st.passed)) st) (value_at_in (suc (behind + st.passed)) st h) in
      rows.argument (is_zero_at behind st) (value_at behind st) (param_at (parameters f) st.passed) (further f)
      (span w first last) (value_at_in behind st h)
      (arg_in f st.passed inside (param_at (parameters f) st.passed) refl) (further_in k f inside)
  expr_fits st (exprs.Arrow token first last aims) loud h fit =
      rows.dereference (value_at 0 st) aims (span w first last)
  expr_fits st (exprs.Text token) loud h fit = form_here token
  expr_fits st (exprs.Label token) loud h fit = form_here token
  expr_fits st op loud h fit = tt

  form_fits : (st : State) (op : FormOp) → StacksIn k st → BodyFits st.rounds →
      FormFits w k.starts k.function op → AllFit (sys k) (form_row w st op)
  form_fits st (forms.Cast token last) h b fit =
      rows.cast (type_at 1 st) (is_zero_at 0 st) (value_at 0 st) (own w token) (span w token last)
      (value_at_in 0 st h) (own_in k token fit) (form_at (at w token) (span w token last))
  form_fits st (forms.VaArg token last) h b fit =
      k.law.lists (sys k) (formed w (span w token last) (own w token)) _ (form_at (at w token) (span w token last))
      (k.law.lists (sys k) (annotating_some w (type_at 0 st) (own w token)) _
      (annotating_some_fits (type_at 0 st) (own w token))
      (rows.next_of_list (value_at 1 st) (own w token) (span w token last) (value_at_in 1 st h) (own_in k token fit)))
  form_fits st (forms.VaStart token last) h b fit =
      rows.start_of_list (function_skeleton w st.rounds.body) (value_at 1 st) (span w token last)
      (function_in k st.rounds.body b) (value_at_in 1 st h)
  form_fits st (forms.VaCopy token last) h b fit =
      rows.flow_into (is_zero_at 0 st) (value_at 0 st) (value_at 1 st) (all_lattices w) (span w token last)
      (value_at_in 0 st h) (value_at_in 1 st h)
  form_fits st (forms.Choose token) h b fit =
      rows.pick (left_of (chosen st)) (own w token) (span w token token) (left_in k (chosen st) (chosen_in st h))
      (own_in k token fit) (form_here token)
  form_fits st (forms.Generic token count) h b fit =
      rows.pick (left_of (selected w token 0 count st)) (own w token) (span w token token)
      (left_in k (selected w token 0 count st) (selected_in token 0 count st h)) (own_in k token fit) (form_here token)
  form_fits st op h b fit = tt

  target_fits : (t : Option Skel) (it : Operand) (where_ : Span) → SomeSkelIn k t →
      In k (vals.value (val_of_operand it)) → AllFit (sys k) (into_target w t it where_)
  target_fits None it where_ h l = tt
  target_fits (Some t) it where_ h l =
      rows.flow_into (is_zero_operand it) (vals.value (val_of_operand it)) t (all_lattices w) where_ l h

  init_fits : (st : State) (op : InitOp) → StacksIn k st → InitOpFits w k.starts k.function st op →
      AllFit (sys k) (init_row w st op)
  init_fits st (inits.Value first last) h fit =
      target_fits (initialised_by w (declared_last st.declarations)) (first_operand st.operands) (span w first last)
      (initialised_in k (declared_last st.declarations) fit) (first_value_in k st.operands h.operands)
  init_fits st (inits.Literal token) h fit =
      k.law.lists (sys k) (formed_here w token)
      (annotating_place w (type_of_operand (first_operand (operands_below st))) (own w token))
      (form_here token) (annotating_place_fits (type_of_operand (first_operand (operands_below st))) (own w token))
  init_fits st (inits.Leaf first last) h fit =
      target_fits (target_in w (first_braces st.braces)) (first_operand st.leaves) (span w first last)
      (target_in_in k (first_braces st.braces) (first_braces_in k st.braces h.braces))
      (first_value_in k st.leaves h.leaves)
  init_fits st op h fit = tt

  -- declared names

  -- what a declaration is as begins where its first one does
  equal_begins : (d : Declared) (g : Option Place) → BeginsIn k.starts g d.first →
      BeginsIn k.starts g (link_of w.names d.first) → BeginsIn k.starts g (equal_to w d)
  equal_begins d g first linked = by (is_place d.first d.at) refl
    where
      by : (b : Bool) → is_place d.first d.at ≡ b → BeginsIn k.starts g (if b then link_of w.names d.at else d.first)
      by true is =
          subst (λ (p : Place). BeginsIn k.starts g (link_of w.names p)) (place_is d.first d.at is) linked
      by false is = first

  name_fits : (d : Declared) (g : Option Place) → BeginsIn k.starts g (equal_to w d) → BeginsIn k.starts g d.at →
      AllFit (sys k) (name_row w d)
  name_fits d g first here =
      (k.law.rows (sys k) (owner (record k { function = g })) w).name d (form_at d.at (word_span d.at))
      (skeleton_in (record k { function = g }) (equal_to w d) first) (skeleton_in (record k { function = g }) d.at here)

  declared_fits : (d : Declared) (role : Role) → AllFit (sys k) (name_row w d) →
      AllFit (sys k) (declared_row w d role)
  declared_fits d typedef_role h = tt
  declared_fits d object_role h = h
  declared_fits d function_role h = h
  declared_fits d (parameter_role i) h = h
  declared_fits d (field_role n i) h = h
  declared_fits d enumerator_role h = tt

  some_declared_fits : (d : Option Declared) → DeclaredFits w k.starts d → AllFit (sys k) (some_declared_row w d)
  some_declared_fits None h = tt
  some_declared_fits (Some d) h = declared_fits d d.role (name_fits d h.0 (equal_begins d h.0 h.1 h.2) h.3)

  param_fits : (f : Skel) (n : ℕ) (d : Option Declared) → In k f → ParamFits w k.starts k.function d →
      AllFit (sys k) (param_row w f n d)
  param_fits f n None h l = tt
  param_fits f n (Some d) h (inl e) = rows.parameter f n d (form_at d.at (word_span d.at)) h (inl e)
  param_fits f n (Some d) h (inr l) =
      rows.parameter f n d (form_at d.at (word_span d.at)) h (inr (skeleton_in k d.at l))

  some_param_fits : (f : Option Skel) (n token : ℕ) → SomeSkelIn k f →
      ParamFits w k.starts k.function (declared_at w.names.declared (at w token)) →
      AllFit (sys k) (row_at w (some_param_row f n) token)
  some_param_fits None n token h l = tt
  some_param_fits (Some f) n token h l = param_fits f n (declared_at w.names.declared (at w token)) h l

  -- a parameter by its identifier, with the number of its declaration
  kind_fits : (f : Option Skel) (i token : ℕ) → SomeSkelIn k f →
      ParamFits w k.starts k.function (declared_at w.names.declared (at w token)) →
      AllFit (sys k) (row_at w (some_param_kind f i) token)
  kind_fits None i token h l = tt
  kind_fits (Some f) i token h l = param_fits f i (declared_at w.names.declared (at w token)) h l

  numbered_fits : (f : Option Skel) (token : ℕ) (role : Role) → SomeSkelIn k f →
      ParamFits w k.starts k.function (declared_at w.names.declared (at w token)) →
      AllFit (sys k) (row_at w (numbered_row f role) token)
  numbered_fits f token typedef_role h l = tt
  numbered_fits f token object_role h l = tt
  numbered_fits f token function_role h l = tt
  numbered_fits f token (parameter_role i) h l = kind_fits f i token h l
  numbered_fits f token (field_role n i) h l = tt
  numbered_fits f token enumerator_role h l = tt

  identified_fits : (f : Option Skel) (token : ℕ) (d : Option Declared) → SomeSkelIn k f →
      ParamFits w k.starts k.function (declared_at w.names.declared (at w token)) →
      AllFit (sys k) (row_at w (identified_by f d) token)
  identified_fits f token None h l = tt
  identified_fits f token (Some d) h l = numbered_fits f token d.role h l

  naming_fits : (token : ℕ) (it : Naming) → NamingFits w k.starts k.function token it →
      AllFit (sys k) (row_at w (naming_row w it token) token)
  naming_fits token a_name h = some_declared_fits (declared_at w.names.declared (at w token)) h
  naming_fits token (own_param g n) h =
      some_param_fits (function_skeleton w g) n token (function_in k g h.0) h.1
  naming_fits token other_param h = tt
  naming_fits token (identified_param g) h =
      identified_fits (function_skeleton w g) token (declared_at w.names.declared (at w token))
      (function_in k g h.0) h.1

  spec_fits : (op : SpecOp) → AllFit (sys k) (spec_row w op)
  spec_fits (specs.UnnamedMember token) = form_here token
  spec_fits op = tt

  declr_fits : (st : State) (op : DeclrOp) → DeclrFits w k.starts k.function st op →
      AllFit (sys k) (declr_row w st op)
  declr_fits st (declrs.DeclName token name) fit = naming_fits token (naming st.rounds) fit
  declr_fits st op fit = tt

  stmt_fits : (st : State) (op : StmtOp) → StacksIn k st → BodyFits st.rounds → AllFit (sys k) (stmt_row w st op)
  stmt_fits st (stmts.Return token last) h b =
      rows.returning (function_skeleton w st.rounds.body) (is_zero_at 0 st) (value_at 0 st) (span w token last)
      (function_in k st.rounds.body b) (value_at_in 0 st h)
  stmt_fits st op h b = tt

  loud_fits : (st : State) (op : Op) → is_quiet st.rounds ≡ false → StacksIn k st → BodyFits st.rounds →
      OpFits w k.starts k.function st op → AllFit (sys k) (loud_row w st op)
  loud_fits st (ops.Expr op) loud h b fit = expr_fits st op loud h fit
  loud_fits st (ops.Form op) loud h b fit = form_fits st op h b fit
  loud_fits st (ops.Init op) loud h b fit = init_fits st op h fit
  loud_fits st (ops.Spec op) loud h b fit = spec_fits op
  loud_fits st (ops.Declr op) loud h b fit = declr_fits st op fit
  loud_fits st (ops.Stmt op) loud h b fit = stmt_fits st op h b

  op_fits : (st : State) (op : Op) → StacksIn k st → BodyFits st.rounds → OpFits w k.starts k.function st op →
      AllFit (sys k) (op_row w st op)
  op_fits st op h b fit = by (is_quiet st.rounds) refl
    where
      by : (q : Bool) → is_quiet st.rounds ≡ q → AllFit (sys k) (if q then [] else loud_row w st op)
      by true e = tt
      by false e = loud_fits st op e h b fit

  pub tape_fits : (tape : List Op) (st : State) → StacksIn k st → BodyFits st.rounds →
      OpsFit w k.starts k.function st tape → AllFit (sys k) (rows_found w st tape)
  tape_fits [] st h b fit = tt
  tape_fits (op ∷ tape) st h b fit =
      k.law.lists (sys k) (op_row w st op) (rows_found w (step w st op) tape) (op_fits st op h b fit.0)
      (tape_fits tape (step w st op) (step_in st op h fit.0) (step_body st op b fit.0) fit.1)

  pub nothing_in : StacksIn k nothing
  nothing_in = record { operands = tt; leaves = tt; braces = tt; literal = none_in k; carried = none_in k }
