-- Expressions stand at their key tokens.
use Rattle.std.proofs.Common.{◌≡◌, ℕ, Bool, false, true, Contains, List, [], ◌∷◌, ◌++◌, Some, refl, sym, ◌∙◌, ap, subst}
use Rattle.std.proofs.lemmas.List.Elements.{Contains-append_left, Contains-append_right, Contains-push}
use Rattle.tape_ops.specs.declared.op.Op.{Op}
use Rattle.tape_ops.specs.declared.op.Op.TheVariants as ops
use Rattle.tape_ops.specs.declared.initialiser.InitOp.TheVariants as inits
use Rattle.tape_ops.specs.declared.form.FormOp.TheVariants as forms
use Rattle.tape_ops.specs.declared.statement.StmtOp.TheVariants as stmts
use Rattle.tape_ops.specs.declared.expression.ExprOp.TheVariants as exprs
use Rattle.c_words.specs.declared.kinds.Punct.{Punct}
use Rattle.c_words.specs.declared.kinds.Punct.TheVariants as signs
use Rattle.c_tree.specs.Addresses.{comes_by_pointer}
use Rattle.c_tape.specs.Tests.{ends_in_value}
use Rattle.c_tree.specs.Tree.{Expr, complex_part, label_use, compat, choose, generic, operation, cast, prefix, sizeof_value, sizeof_type, extension, index, call, dot, arrow, post, compound, name_use, number_use, char_use, text_use, paren, statement_expr, va_arg, va_start, va_copy, offset, Operator, comma, assign, cond, binary, SpecWords, SomeDeclr, InitList}
use Rattle.c_tree.specs.Ends.{key_token, first_token, last_token}
use Rattle.c_tree.specs.Firsts.{first_word}
use Rattle.c_tape.specs.Tape.{prefix_tape, tape_in, quietly, assocs_tape, assoc_count, init, stmt, form, in_scope, steps_tape, block_items_tape, expr_tape, operator_tape, words_tape, some_declr_tape, type_name_with, list_tape, rule_of_list}
use Rattle.name_rules.specs.Spellings.{Spelling, place}
use Rattle.name_rules.specs.Scopes.{Names}
use Rattle.name_rules.specs.Values.{Shape}
use Rattle.type_rules.specs.Shapes.{shape_of}
use Rattle.name_rules.specs.ShapeSteps.State.{State, shape_at}
use Rattle.name_rules.specs.ShapeSteps.Steps.{step, run}
use Rattle.resolve_laws.specs.ShapeLaws.Laws.{ShapesAreLeft}
use Rattle.expr_types.specs.Keys.{op_key}
use Rattle.expr_types.specs.Along.{Keyed, literal_on, op_shape, keyed, shapes_along}
use Rattle.expr_type_laws.specs.Standing.{expression_at, ExpressionsStand}
use Rattle.expr_type_laws.proofs.Parts.{run_append, shapes_append, list_keeps}

-- a tape that ends in the op of an expression with this key
record EndsAt (tape : List Op) (key : ℕ) : Type 0 where
  before : List Op
  last : Op
  parts : tape ≡ before ++ last ∷ []
  has_key : op_key last ≡ Some key
  on_top : (st behind : State) → op_shape st behind last ≡ shape_at 0 behind

ends : (before : List Op) (last : Op) (key : ℕ) → op_key last ≡ Some key
    → ((st behind : State) → op_shape st behind last ≡ shape_at 0 behind) → EndsAt (before ++ last ∷ []) key
ends before last key has on = record { before = before; last = last; parts = refl; has_key = has; on_top = on }

-- a tape with an operator at its end ends in the op of this operator, at its token
operator_ends : (before : List Op) (op : Operator) (token first last : ℕ)
    → EndsAt (before ++ operator_tape op token first last) token
operator_ends before comma token first last = ends before _ token refl (λ st behind. refl)
operator_ends before (assign p) token first last = ends before _ token refl (λ st behind. refl)
operator_ends before (cond middle colon) token first last = ends before _ token refl (λ st behind. refl)
operator_ends before (binary p) token first last = ends before _ token refl (λ st behind. refl)

-- the operand of `&` is only addressed
prefix_ends : (token : ℕ) (p : Punct) (e : Expr) (aims : Bool) (addressed taken : List Op)
    → EndsAt (prefix_tape token p e aims addressed taken) token
prefix_ends token signs.Ampersand e aims addressed taken =
    ends addressed (ops.Expr (exprs.Prefix signs.Ampersand token (last_token e) (comes_by_pointer false e))) token refl
    (λ st behind. refl)
prefix_ends token p e aims addressed taken =
    ends taken (ops.Expr (exprs.Prefix p token (last_token e) aims)) token refl (λ st behind. refl)

module _ (u : Spelling) (s : Names) where
  -- what the last op of a tape stands for

  last_stands : (before : List Op) (op : Op) (st : State) (key : ℕ) → op_key op ≡ Some key
      → Contains (shapes_along u s st (before ++ op ∷ []))
      (record { at = place u key; shape = op_shape (run u s st before) (run u s st (before ++ op ∷ [])) op })
  last_stands before op st key has =
      let old = run u s st before in
      let it = op_shape old (step u s old op) op in
      let there : Contains (shapes_along u s old (op ∷ [])) (record { at = place u key; shape = it }) =
      subst (λ k. Contains (keyed u k it ++ []) (record { at = place u key; shape = it })) (sym has)
      (Contains-push [] (record { at = place u key; shape = it })) in
      subst (λ (b : State). Contains (shapes_along u s st (before ++ op ∷ []))
      (record { at = place u key; shape = op_shape old b op }))
      (sym (run_append u s before (op ∷ []) st))
      (subst (λ (xs : List Keyed). Contains xs (record { at = place u key; shape = it }))
      (sym (shapes_append u s before (op ∷ []) st))
      (Contains-append_right (shapes_along u s st before) (shapes_along u s old (op ∷ []))
      (record { at = place u key; shape = it }) there))

  -- a part of a tape
  within : (before tape behind : List Op) (st : State) (it : Keyed)
      → Contains (shapes_along u s (run u s st before) tape) it
      → Contains (shapes_along u s st (before ++ tape ++ behind)) it
  within before tape behind st it there =
      subst (λ (xs : List Keyed). Contains xs it) (sym (shapes_append u s (before ++ tape) behind st))
      (Contains-append_left (shapes_along u s st (before ++ tape)) _ it
      (subst (λ (xs : List Keyed). Contains xs it) (sym (shapes_append u s before tape st))
      (Contains-append_right (shapes_along u s st before) _ it there)))

  ended_stands : (tape : List Op) (key : ℕ) (shape : Shape) (st : State) → EndsAt tape key
      → shape_at 0 (run u s st tape) ≡ shape
      → Contains (shapes_along u s st tape) (record { at = place u key; shape = shape })
  ended_stands tape key shape st p left =
      let at : Shape → Keyed = λ it. record { at = place u key; shape = it } in
      subst (λ (it : Shape). Contains (shapes_along u s st tape) (at it))
      (p.on_top (run u s st p.before) (run u s st tape) ∙ left)
      (subst (λ (xs : List Op).
      Contains (shapes_along u s st xs) (at (op_shape (run u s st p.before) (run u s st xs) p.last)))
      (sym p.parts) (last_stands p.before p.last st key p.has_key))

  module _ (left : ShapesAreLeft) where
    -- an expression whose op is the last of its tape
    by_last : (e : Expr) (called : Bool) (st : State) → EndsAt (expr_tape called e) (key_token e)
        → Contains (shapes_along u s st (expr_tape called e)) (expression_at u s e)
    by_last e called st p =
        ended_stands (expr_tape called e) (key_token e) (shape_of u s e) st p (ap (shape_at 0) (left u s e called st))

    -- a compound literal stands before its list is gone through once more, which leaves it as it was
    literal_stands : (opening : ℕ) (ws : SpecWords) (d : SomeDeclr) (closing : ℕ) (list : InitList)
        (called : Bool) (st : State)
        → Contains (shapes_along u s st (expr_tape called (compound opening ws d closing list)))
        (expression_at u s (compound opening ws d closing list))
    literal_stands opening ws d closing list called st =
        let e = compound opening ws d closing list in
        let front = type_name_with (words_tape false ws) (some_declr_tape d) (first_word ws)
        ++ init inits.Begin ++ list_tape list in
        let behind = front ++ init (inits.Literal opening) in
        let ruled = behind ++ rule_of_list list in
        let at : Shape → Keyed = λ it. record { at = place u opening; shape = it } in
        let kept : literal_on (run u s st ruled) ≡ literal_on (run u s st front) =
        ap literal_on (run_append u s behind (rule_of_list list) st)
        ∙ (list_keeps u s list).keeps (run u s st behind)
        ∙ ap literal_on (run_append u s front (init (inits.Literal opening)) st) in
        let top : shape_at 0 (run u s st (expr_tape called e)) ≡ literal_on (run u s st ruled) =
        ap (λ (b : State). shape_at 0 b) (run_append u s ruled (init inits.LiteralEnd) st) in
        let is : literal_on (run u s st front) ≡ shape_of u s e =
        sym kept ∙ sym top ∙ ap (λ (b : State). shape_at 0 b) (left u s e called st) in
        let there = last_stands front (ops.Init (inits.Literal opening)) st opening refl in
        subst (λ (xs : List Keyed). Contains xs (expression_at u s e))
        (sym (shapes_append u s ruled (init inits.LiteralEnd) st))
        (Contains-append_left (shapes_along u s st ruled) _ (expression_at u s e)
        (subst (λ (xs : List Keyed). Contains xs (expression_at u s e))
        (sym (shapes_append u s behind (rule_of_list list) st))
        (Contains-append_left (shapes_along u s st behind) _ (expression_at u s e)
        (subst (λ (it : Shape). Contains (shapes_along u s st behind) (at it)) is there))))

    expr_stands : (e : Expr) (called : Bool) (st : State)
        → Contains (shapes_along u s st (expr_tape called e)) (expression_at u s e)
    expr_stands (operation e op token e2) called st =
        by_last (operation e op token e2) called st (operator_ends _ op token (first_token e) (last_token e2))
    expr_stands (cast opening ws d closing e) called st =
        by_last (cast opening ws d closing e) called st (ends _ _ opening refl (λ st behind. refl))
    expr_stands (prefix token p e) called st =
        by_last (prefix token p e) called st (prefix_ends token p e false (tape_in false true e) (expr_tape false e))
    expr_stands (sizeof_value word e) called st =
        by_last (sizeof_value word e) called st
        (ends (stmt stmts.Quiet ++ expr_tape false e) (ops.Form (forms.Sizeof word.token)) word.token refl
        (λ st behind. refl))
    expr_stands (sizeof_type word opening ws d closing) called st =
        by_last (sizeof_type word opening ws d closing) called st
        (ends (stmt stmts.Quiet ++ type_name_with (words_tape false ws) (some_declr_tape d) (first_word ws))
        (ops.Form (forms.Sizeof word.token)) word.token refl (λ st behind. refl))
    expr_stands (extension keyword e) called st =
        by_last (extension keyword e) called st (ends _ _ keyword refl (λ st behind. refl))
    expr_stands (index e opening e2 closing) called st =
        by_last (index e opening e2 closing) called st (ends _ _ opening refl (λ st behind. refl))
    expr_stands (call e opening es closing) called st =
        by_last (call e opening es closing) called st (ends _ _ opening refl (λ st behind. refl))
    expr_stands (dot e token name) called st =
        by_last (dot e token name) called st (ends _ _ token refl (λ st behind. refl))
    expr_stands (arrow e token name) called st =
        by_last (arrow e token name) called st (ends _ _ token refl (λ st behind. refl))
    expr_stands (post e token p) called st =
        by_last (post e token p) called st (ends _ _ token refl (λ st behind. refl))
    expr_stands (compound opening ws d closing list) called st = literal_stands opening ws d closing list called st
    expr_stands (name_use token name) called st =
        by_last (name_use token name) called st (ends [] _ token refl (λ st behind. refl))
    expr_stands (number_use token) called st =
        by_last (number_use token) called st (ends [] _ token refl (λ st behind. refl))
    expr_stands (char_use token) called st =
        by_last (char_use token) called st (ends [] _ token refl (λ st behind. refl))
    expr_stands (text_use texts) called st =
        by_last (text_use texts) called st (ends [] _ (key_token (text_use texts)) refl (λ st behind. refl))
    expr_stands (paren opening e closing) called st =
        by_last (paren opening e closing) called st (ends _ _ opening refl (λ st behind. refl))
    expr_stands (statement_expr opening opening2 items closing closing2) called st =
        by_last (statement_expr opening opening2 items closing closing2) called st
        (ends (in_scope (block_items_tape true items))
        (ops.Form (forms.StmtExpr (ends_in_value items) opening)) opening refl (λ st behind. refl))
    expr_stands (va_arg keyword opening e separator ws d closing) called st =
        by_last (va_arg keyword opening e separator ws d closing) called st (ends _ _ keyword refl (λ st behind. refl))
    expr_stands (va_start keyword opening e separator e2 closing) called st =
        by_last (va_start keyword opening e separator e2 closing) called st (ends _ _ keyword refl (λ st behind. refl))
    expr_stands (va_copy keyword opening e separator e2 closing) called st =
        by_last (va_copy keyword opening e separator e2 closing) called st (ends _ _ keyword refl (λ st behind. refl))
    expr_stands (offset keyword opening ws d separator name steps closing) called st =
        by_last (offset keyword opening ws d separator name steps closing) called st
        (ends (stmt stmts.Quiet ++ type_name_with (words_tape false ws) (some_declr_tape d) (first_word ws)
        ++ form (forms.OffsetMember name.token name.name) ++ steps_tape steps)
        (ops.Form (forms.Offset keyword)) keyword refl (λ st behind. refl))
    expr_stands (complex_part keyword e) called st =
        by_last (complex_part keyword e) called st (ends _ _ keyword refl (λ st behind. refl))
    expr_stands (label_use token name) called st =
        by_last (label_use token name) called st (ends [] _ token refl (λ st behind. refl))
    expr_stands (compat keyword opening ws d separator ws2 d2 closing) called st =
        by_last (compat keyword opening ws d separator ws2 d2 closing) called st
        (ends (stmt stmts.Quiet ++ type_name_with (words_tape false ws) (some_declr_tape d) (first_word ws)
        ++ type_name_with (words_tape false ws2) (some_declr_tape d2) (first_word ws2))
        (ops.Form (forms.Compat keyword)) keyword refl (λ st behind. refl))
    expr_stands (choose keyword opening e separator e2 separator2 e3 closing) called st =
        by_last (choose keyword opening e separator e2 separator2 e3 closing) called st
        (ends (quietly (expr_tape false e) ++ expr_tape false e2 ++ expr_tape false e3)
        (ops.Form (forms.Choose keyword)) keyword refl (λ st behind. refl))
    expr_stands (generic keyword opening e xs closing) called st =
        by_last (generic keyword opening e xs closing) called st
        (ends (stmt stmts.Quiet ++ expr_tape false e ++ form forms.Control ++ assocs_tape xs)
        (ops.Form (forms.Generic keyword (assoc_count xs))) keyword refl (λ st behind. refl))

-- the law: wherever the tape of an expression is a part of a tape, the expression stands there
pub expressions_stand : ShapesAreLeft → ExpressionsStand
expressions_stand left u s st before called e behind =
    within u s before (expr_tape called e) behind st (expression_at u s e)
    (expr_stands u s left e called (run u s st before))
