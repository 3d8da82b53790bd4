-- The faults that are found along a tape are at good places, and skeletons begin at such.
use Rattle.std.proofs.Common.{ℕ, Bool, true, false, List, [], ◌∷◌, ◌++◌, Option, None, Some}
use Rattle.std.specs.Prelude.{not, ◌&&◌, if◌then◌else◌}
use Rattle.c_words.specs.declared.kinds.Punct.{Punct}
use Rattle.c_words.specs.declared.kinds.Punct.TheVariants as signs
use Rattle.tape_ops.specs.declared.op.Op.{Op}
use Rattle.tape_ops.specs.declared.op.Op.TheVariants as ops
use Rattle.tape_ops.specs.declared.expression.ExprOp.{ExprOp}
use Rattle.tape_ops.specs.declared.expression.ExprOp.TheVariants as exprs
use Rattle.tape_ops.specs.declared.form.FormOp.{FormOp}
use Rattle.tape_ops.specs.declared.form.FormOp.TheVariants as forms
use Rattle.tape_ops.specs.declared.initialiser.InitOp.{InitOp}
use Rattle.tape_ops.specs.declared.initialiser.InitOp.TheVariants as inits
use Rattle.tape_ops.specs.declared.specifier.SpecOp.{SpecOp}
use Rattle.tape_ops.specs.declared.specifier.SpecOp.TheVariants as specs
use Rattle.tape_ops.specs.declared.declarator.DeclrOp.{DeclrOp}
use Rattle.tape_ops.specs.declared.declarator.DeclrOp.TheVariants as declrs
use Rattle.type_table.specs.Types.{CType, base, void, pointer}
use Rattle.name_rules.specs.Spellings.{Place, Spelling, place}
use Rattle.name_rules.specs.Faults.{Rule, not_pointer, not_function, argument_count, not_place, no_member, defined_twice, fault_where}
use Rattle.name_rules.specs.Scopes.{Role, typedef_role, object_role, function_role, parameter_role, field_role, enumerator_role, Declared, declared_at, Use, means, called, missing, Bodied, Names}
use Rattle.name_rules.specs.Linking.{link_of, has_earlier, faults_in}
use Rattle.name_rules.specs.Uses.{use_at, text_type}
use Rattle.name_rules.specs.Values.{value, points_to_function, takes, lacks_member, is_no_pointer, Shape, address, is_base_value, pick_shape, is_fresh_pick}
use Rattle.name_rules.specs.Checks.{wants_place, is_star, call_faults}
use Rattle.name_rules.specs.ShapeSteps.State.{State, shape_at, value_at, is_zero_at, type_at, type_of_operand, first_operand, operands_below, first_braces}
use Rattle.name_rules.specs.ShapeSteps.Steps.{designated, chosen, step, expr_step}
use Rattle.name_rules.specs.ShapeSteps.OpFaults.{expr_op_faults, form_op_faults, init_op_faults, op_faults}
use Rattle.name_rules.specs.ShapeSteps.Found.{faults_found}
use Rattle.row_rules.specs.Starting.{Start, fresh, some_fresh, declared_start, some_declared_start, instance, use_by_role, some_use_start, use_start, some_place, is_some_pointer, is_fresh_binary, is_fresh_prefix, prefix_starts, fresh_where, Having, with_skeleton, of_function, without_skeleton, had_name}
use Rattle.row_rules.specs.RowSteps.Rounds.{Rounds, naming, left, round_step}
use Rattle.row_rules.specs.RowSteps.Starting.{around, naming_has, selected_among, expr_op_starts, form_op_starts, init_op_starts, spec_op_starts, declr_op_starts, op_starts, starts_found}
use Rattle.token_laws.specs.Ops.{op_tokens, expr_tokens, form_tokens, init_tokens}
use Rattle.token_laws.proofs.Texts.{AllIn, AllOps}
use Rattle.token_laws.proofs.Types.{FaultsOk, BodiesOk, faults_append, fault_ok, Sound, SomeDeclaredOk, declared_there}

module _ (S : Place → Type 0) where
  -- bodies in several units

  pub bodies_at : (s : Names) (bodies : List Bodied) → BodiesOk S bodies → FaultsOk S (faults_in s bodies)
  bodies_at s [] h = tt
  bodies_at s (it ∷ bodies) h =
      faults_append S (faults_in s bodies) (fault_where (it.is_plain && has_earlier s it s.bodies) it.at defined_twice)
      (bodies_at s bodies h.1) (fault_ok S (it.is_plain && has_earlier s it s.bodies) it.at defined_twice h.0)

  abbrev pub StartsAt : List Start → Type 0
  StartsAt [] = Unit {0}
  StartsAt (start ∷ starts) = S start.at × StartsAt starts

  pub starts_append : (xs ys : List Start) → StartsAt xs → StartsAt ys → StartsAt (xs ++ ys)
  starts_append [] ys h i = i
  starts_append (x ∷ xs) ys h i = (h.0, starts_append xs ys h.1 i)

module _ (S : Place → Type 0) (u : Spelling) (s : Names) where
  -- faults of expressions

  call_at : (token : ℕ) (t : Option CType) (n : ℕ) → S (place u token) → FaultsOk S (call_faults (place u token) t n)
  call_at token None n is = tt
  call_at token (Some t) n is =
      faults_append S (fault_where (not (points_to_function t)) (place u token) not_function)
      (fault_where (not (takes t n)) (place u token) argument_count)
      (fault_ok S (not (points_to_function t)) (place u token) not_function is)
      (fault_ok S (not (takes t n)) (place u token) argument_count is)

  expr_at : (st : State) (op : ExprOp) → AllIn (λ n. S (place u n)) (expr_tokens op)
      → FaultsOk S (expr_op_faults u s st op)
  expr_at st (exprs.Name is_called token name) is = tt
  expr_at st (exprs.Number token) is = tt
  expr_at st (exprs.Char token) is = tt
  expr_at st (exprs.Text token) is = tt
  expr_at st (exprs.Paren token) is = tt
  expr_at st (exprs.Ext token) is = tt
  expr_at st (exprs.Comma token) is = tt
  expr_at st (exprs.Assign sign token first last) is =
      fault_ok S (not (shape_at 1 st).is_place) (place u token) not_place is.0
  expr_at st (exprs.Cond has_middle token first last) is = tt
  expr_at st (exprs.Binary sign token first last) is = tt
  expr_at st (exprs.Prefix sign token last aims) is =
      let e = shape_at 0 st in
      faults_append S (fault_where (wants_place sign && not e.is_place) (place u token) not_place)
      (fault_where (is_star sign && is_no_pointer (value e)) (place u token) not_pointer)
      (fault_ok S (wants_place sign && not e.is_place) (place u token) not_place is.0)
      (fault_ok S (is_star sign && is_no_pointer (value e)) (place u token) not_pointer is.0)
  expr_at st (exprs.Post sign token first) is = fault_ok S (not (shape_at 0 st).is_place) (place u token) not_place is.0
  expr_at st (exprs.Index token first last aims) is =
      let a = value (shape_at 1 st) in
      fault_ok S (is_no_pointer a && is_no_pointer (value (shape_at 0 st)) && not (u.wide && is_base_value a))
      (place u token) not_pointer is.0
  expr_at st (exprs.Arg behind first last) is = tt
  expr_at st (exprs.Call token count) is = call_at token (value_at count st) count is.0
  expr_at st (exprs.Arrow token first last aims) is =
      fault_ok S (is_no_pointer (value_at 0 st)) (place u token) not_pointer is.0
  expr_at st (exprs.Dot token member name) is =
      fault_ok S (lacks_member s.aggregates (value_at 0 st) (u.key name)) (place u member) no_member is.1.0
  expr_at st (exprs.Label token) is = tt

  form_at : (st : State) (op : FormOp) → AllIn (λ n. S (place u n)) (form_tokens op)
      → FaultsOk S (form_op_faults u s st op)
  form_at st (forms.Cast token last) is = tt
  form_at st (forms.Sizeof token) is = tt
  form_at st (forms.StmtExpr has_value token) is = tt
  form_at st (forms.VaArg token last) is = tt
  form_at st (forms.VaStart token last) is = tt
  form_at st (forms.VaCopy token last) is = tt
  form_at st (forms.OffsetMember token name) is =
      fault_ok S (lacks_member s.aggregates (type_at 0 st) (u.key name)) (place u token) no_member is.0
  form_at st (forms.OffsetIndex token) is = fault_ok S (is_no_pointer (type_at 1 st)) (place u token) not_pointer is.0
  form_at st (forms.Offset token) is = tt
  form_at st (forms.Compat token) is = tt
  form_at st forms.Control is = tt
  form_at st forms.NoType is = tt
  form_at st (forms.Choose token) is = tt
  form_at st (forms.Generic token count) is = tt

  init_at : (st : State) (op : InitOp) → AllIn (λ n. S (place u n)) (init_tokens op)
      → FaultsOk S (init_op_faults u s st op)
  init_at st (inits.Value first last) is = tt
  init_at st inits.Begin is = tt
  init_at st inits.Rule is = tt
  init_at st (inits.Literal token) is = tt
  init_at st inits.ListBegin is = tt
  init_at st (inits.Member token name) is =
      fault_ok S (lacks_member s.aggregates (designated (first_braces st.braces)) (u.key name))
      (place u token) no_member is.0
  init_at st (inits.Index token) is =
      fault_ok S (is_no_pointer (designated (first_braces st.braces))) (place u token) not_pointer is.0
  init_at st (inits.Leaf first last) is = tt
  init_at st inits.ListEnd is = tt
  init_at st inits.End is = tt
  init_at st inits.LiteralEnd is = tt

  op_at : (st : State) (op : Op) → AllIn (λ n. S (place u n)) (op_tokens op) → FaultsOk S (op_faults u s st op)
  op_at st (ops.Expr op) is = expr_at st op is
  op_at st (ops.Form op) is = form_at st op is
  op_at st (ops.Init op) is = init_at st op is
  op_at st (ops.Spec op) is = tt
  op_at st (ops.Declr op) is = tt
  op_at st (ops.Stmt op) is = tt

  pub faults_at : (st : State) (tape : List Op) → AllOps (λ n. S (place u n)) tape
      → FaultsOk S (faults_found u s st tape)
  faults_at st [] is = tt
  faults_at st (op ∷ tape) is =
      faults_append S (op_faults u s st op) (faults_found u s (step u s st op) tape) (op_at st op is.0)
      (faults_at (step u s st op) tape is.1)

  -- skeletons

  fresh_there : (r : Rounds) (token : ℕ) (t : CType) → S (place u token) → StartsAt S (fresh (around u s r) token t)
  fresh_there r token t is = by (around u s r).is_quiet
    where
      by : (b : Bool) → StartsAt S (if b then []
          else record { at = place u token; type = t; owner = (around u s r).enclosing; calls = None } ∷ [])
      by true = tt
      by false = (is, tt)

  some_fresh_there : (r : Rounds) (token : ℕ) (t : Option CType) → S (place u token) →
      StartsAt S (some_fresh (around u s r) token t)
  some_fresh_there r token None is = tt
  some_fresh_there r token (Some t) is = fresh_there r token t is

  where_fresh : (b : Bool) (starts : List Start) → StartsAt S starts → StartsAt S (fresh_where b starts)
  where_fresh true starts h = h
  where_fresh false starts h = tt

  prefix_there : (r : Rounds) (sign : Punct) (carries : Bool) (token : ℕ) (e : Shape) → S (place u token) →
      StartsAt S (prefix_starts sign carries (around u s r) token e)
  prefix_there r signs.Ampersand carries token e is =
      where_fresh carries _ (some_fresh_there r token (address e) is)
  prefix_there r sign carries token e is = where_fresh (is_fresh_prefix sign) _ (fresh_there r token (base []) is)

  role_there : (f : Option Place) (d : Declared) (role : Role) → S d.at → StartsAt S (declared_start s f d role)
  role_there f d typedef_role is = tt
  role_there f d object_role is = (is, tt)
  role_there f d function_role is = (is, tt)
  role_there f d (parameter_role i) is = (is, tt)
  role_there f d (field_role n i) is = (is, tt)
  role_there f d enumerator_role is = tt

  some_there : (f : Option Place) (d : Option Declared) → SomeDeclaredOk S d → StartsAt S (some_declared_start s f d)
  some_there f None h = tt
  some_there f (Some d) h = role_there f d d.role h.0

  instance_there : (r : Rounds) (token : ℕ) (p : Place) (t : CType) → S (place u token) →
      StartsAt S (instance (around u s r) token p t)
  instance_there r token p t is = by (around u s r).is_quiet
    where
      by : (b : Bool) → StartsAt S (if b then [] else record {
        at = place u token;
        type = pointer [] t;
        owner = (around u s r).enclosing;
        calls = Some (link_of s p);
      } ∷ [])
      by true = tt
      by false = (is, tt)

  by_role_there : (r : Rounds) (token : ℕ) (d : Declared) (role : Role) → S (place u token) →
      StartsAt S (use_by_role (around u s r) token d role)
  by_role_there r token d typedef_role is = tt
  by_role_there r token d object_role is = tt
  by_role_there r token d function_role is = instance_there r token d.at d.type is
  by_role_there r token d (parameter_role i) is = tt
  by_role_there r token d (field_role n i) is = tt
  by_role_there r token d enumerator_role is = fresh_there r token (base []) is

  some_use_there : (r : Rounds) (token : ℕ) (d : Option Declared) → S (place u token) →
      StartsAt S (some_use_start (around u s r) token d)
  some_use_there r token None is = tt
  some_use_there r token (Some d) is = by_role_there r token d d.role is

  use_there : (r : Rounds) (token : ℕ) (it : Use) → S (place u token) → StartsAt S (use_start (around u s r) token it)
  use_there r token (means p) is = some_use_there r token (declared_at s.declared p) is
  use_there r token called is = fresh_there r token _ is
  use_there r token missing is = tt

module _ (S : Place → Type 0) (u : Spelling) (s : Names) (names : Sound S s) where
  name_there : (f : Option Place) (token : ℕ)
      → StartsAt S (some_declared_start s f (declared_at s.declared (place u token)))
  name_there f token =
      some_there S u s f (declared_at s.declared (place u token))
      (declared_there S s.declared (place u token) names.declared)

  had_there : (it : Having) (r : Rounds) (token : ℕ) → StartsAt S (had_name it (around u s r) token)
  had_there with_skeleton r token = name_there (around u s r).enclosing token
  had_there (of_function f) r token = name_there f token
  had_there without_skeleton r token = tt

  expr_starts : (st : State) (r : Rounds) (op : ExprOp) → AllIn (λ n. S (place u n)) (expr_tokens op) →
      StartsAt S (expr_op_starts u s st r op)
  expr_starts st r (exprs.Name is_called token name) is = use_there S u s r token (use_at s.uses (place u token)) is.0
  expr_starts st r (exprs.Number token) is = fresh_there S u s r token (base []) is.0
  expr_starts st r (exprs.Char token) is = fresh_there S u s r token (base []) is.0
  expr_starts st r (exprs.Text token) is = fresh_there S u s r token (pointer [] text_type) is.0
  expr_starts st r (exprs.Paren token) is = tt
  expr_starts st r (exprs.Ext token) is = tt
  expr_starts st r (exprs.Comma token) is = tt
  expr_starts st r (exprs.Assign sign token first last) is = tt
  expr_starts st r (exprs.Cond has_middle token first last) is =
      where_fresh S u s (not (is_zero_at 1 st) && not (is_zero_at 0 st)) _
      (some_fresh_there S u s r token
      (shape_at 0 (expr_step u s st (exprs.Cond has_middle token first last))).type is.0)
  expr_starts st r (exprs.Binary sign token first last) is =
      where_fresh S u s (is_fresh_binary sign (is_some_pointer (value_at 1 st)) (is_some_pointer (value_at 0 st))) _
      (fresh_there S u s r token (base []) is.0)
  expr_starts st r (exprs.Prefix sign token last aims) is =
      prefix_there S u s r sign (aims && r.access) token (shape_at 0 st) is.0
  expr_starts st r (exprs.Post sign token first) is = tt
  expr_starts st r (exprs.Index token first last aims) is = tt
  expr_starts st r (exprs.Arg behind first last) is = tt
  expr_starts st r (exprs.Call token count) is = tt
  expr_starts st r (exprs.Arrow token first last aims) is = tt
  expr_starts st r (exprs.Dot token member name) is = tt
  expr_starts st r (exprs.Label token) is = fresh_there S u s r token (pointer [] (void [])) is.0

  form_starts : (st : State) (r : Rounds) (op : FormOp) → AllIn (λ n. S (place u n)) (form_tokens op) →
      StartsAt S (form_op_starts u s st r op)
  form_starts st r (forms.Cast token last) is = some_fresh_there S u s r token (type_at 1 st) is.0
  form_starts st r (forms.Sizeof token) is = fresh_there S u s (left r) token (base []) is.0
  form_starts st r (forms.StmtExpr has_value token) is =
      where_fresh S u s (not has_value) _ (fresh_there S u s r token (void []) is.0)
  form_starts st r (forms.VaArg token last) is = some_fresh_there S u s r token (type_at 0 st) is.0
  form_starts st r (forms.VaStart token last) is = fresh_there S u s r token (void []) is.0
  form_starts st r (forms.VaCopy token last) is = fresh_there S u s r token (void []) is.0
  form_starts st r (forms.OffsetMember token name) is = tt
  form_starts st r (forms.OffsetIndex token) is = tt
  form_starts st r (forms.Offset token) is = fresh_there S u s (left r) token (base []) is.0
  form_starts st r (forms.Compat token) is = fresh_there S u s (left r) token (base []) is.0
  form_starts st r forms.Control is = tt
  form_starts st r forms.NoType is = tt
  form_starts st r (forms.Choose token) is =
      where_fresh S u s (is_fresh_pick (chosen st)) _
      (some_fresh_there S u s r token (pick_shape (chosen st)).type is.0)
  form_starts st r (forms.Generic token count) is =
      let its = selected_among count st in
      where_fresh S u s (is_fresh_pick its) _ (some_fresh_there S u s r token (pick_shape its).type is.0)

  init_starts : (st : State) (r : Rounds) (op : InitOp) → AllIn (λ n. S (place u n)) (init_tokens op) →
      StartsAt S (init_op_starts u s st r op)
  init_starts st r (inits.Literal token) is =
      some_fresh_there S u s r token (some_place (type_of_operand (first_operand (operands_below st)))) is.0
  init_starts st r op is = tt

  spec_starts : (r : Rounds) (op : SpecOp) → StartsAt S (spec_op_starts u s r op)
  spec_starts r (specs.UnnamedMember token) = name_there (around u s r).enclosing token
  spec_starts r op = tt

  declr_starts : (r : Rounds) (op : DeclrOp) → StartsAt S (declr_op_starts u s r op)
  declr_starts r (declrs.DeclName token name) = had_there (naming_has u s (naming r)) r token
  declr_starts r op = tt

  op_starts_there : (st : State) (r : Rounds) (op : Op) → AllIn (λ n. S (place u n)) (op_tokens op) →
      StartsAt S (op_starts u s st r op)
  op_starts_there st r (ops.Expr op) is = expr_starts st r op is
  op_starts_there st r (ops.Form op) is = form_starts st r op is
  op_starts_there st r (ops.Init op) is = init_starts st r op is
  op_starts_there st r (ops.Spec op) is = spec_starts r op
  op_starts_there st r (ops.Declr op) is = declr_starts r op
  op_starts_there st r (ops.Stmt op) is = tt

  pub starts_at : (st : State) (r : Rounds) (tape : List Op) → AllOps (λ n. S (place u n)) tape →
      StartsAt S (starts_found u s st r tape)
  starts_at st r [] is = tt
  starts_at st r (op ∷ tape) is =
      starts_append S (op_starts u s st r op) (starts_found u s (step u s st op) (round_step st.declarations r op) tape)
      (op_starts_there st r op is.0) (starts_at (step u s st op) (round_step st.declarations r op) tape is.1)
