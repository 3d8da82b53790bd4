-- The readers of expressions take tokens.
use Rattle.std.proofs.Common.{◌≡◌, ℕ, ◌<◌, ◌≤◌, Bool, true, false, List, length, Some, ap, arith}
use Rattle.std.specs.Prelude.{◌+◌, ◌-◌, nat_le}
use Rattle.c_words.specs.declared.kinds.Punct.{Punct}
use Rattle.c_words.specs.declared.kinds.Keyword.{Keyword}
use Rattle.c_tree.specs.declared.lexeme.Lexeme.{Lexeme}
use Rattle.c_syntax.specs.declared.parts.Word.{Word}
use Rattle.c_tree.specs.Tree.{Expr, name_use, number_use, char_use, va_start, va_copy, Operator, comma, assign, binary}
use Rattle.c_tree.specs.Height.{expr_height}
use Rattle.c_tree.specs.Levels.{binary_level, expr_level}
use Rattle.c_ops.specs.Joining.{Settled, bottom}
use Rattle.c_units.specs.HeldScopes.{is_wide, names_type}
use Rattle.c_reading.specs.declared.kinds.Reach.{Reach}
use Rattle.c_reading.specs.declared.kinds.Reach.TheVariants.{Whole, Assigned, Conditional, Castable, Unary}
use Rattle.c_reading.specs.declared.kinds.Opening.{Opening}
use Rattle.c_reading.specs.declared.kinds.Opening.TheVariants as openings
use Rattle.c_reading.specs.declared.kinds.PostfixForm.{PostfixForm}
use Rattle.c_reading.specs.declared.kinds.PostfixForm.TheVariants as forms
use Rattle.c_reading.specs.declared.kinds.Infix.{Infix}
use Rattle.c_reading.specs.declared.kinds.Infix.TheVariants as infixes
use Rattle.c_reading.specs.Reading.{Found, Read, kind_at, behind_first}
use Rattle.c_reading.specs.Tokens.{is_open_paren, is_close_paren, is_close_bracket, is_open_brace, is_colon, is_comma, is_default}
use Rattle.c_reading.specs.Specifying.{begins_role, begins_specs}
use Rattle.c_reading.specs.declared.kinds.Role.TheVariants.{Naming}
use Rattle.c_reading.specs.Parts.{Inner, Begun, nothing, extensions, star, TypeName}
use Rattle.c_reading.specs.Expressing.{infix_of, opening_of, form_of, takes_comma, takes_assign, is_dot, begins_desig, settled, next_argument, arguments_with, index_with, call_with, dot_with, arrow_with, post_with, postfix_by, lowered, postfix_turn, postfixed, primary_with, text_with, compound_with, cast_behind, typed_behind, typed_with, statement_with, paren_with, opened_by, opened_with, prefix_with, extension_with, sizeof_value_with, sizeof_typed, sizeof_type_with, sizeof_behind, sizeof_with, va_arg_with, va_two_with, step_with, offset_with, part_with, label_use_with, compat_with, choose_with, default_assoc_with, typed_assoc_with, assoc_with, next_assoc, generic_with, unary_by, unary_with, cast_with, operand_with, operation_with, middle_with, question_with, operation_by, operation_turn, row_with, expr_with}
use Rattle.c_reading.proofs.Binding.{done, ok_is, bind_ok, bind_in, fits_ok, if_ok, take_falls, token_falls, and_one, then_one, then_fewer, then_no_more}
use Rattle.c_reading.proofs.Loops.{TurnShrinks, run-keep}
use Rattle.c_reading.proofs.Forms.{Falls, Shrinks, name_falls}
use Rattle.c_reading.proofs.Rows.{repeated_falls}
use Rattle.c_reading.proofs.Commas.{listed_shrinks}
use Rattle.c_reading.proofs.Aims.{TokenLaws, Laws}

-- what is left at the last step
pub left_is : {A : Type 0} {y x : Found A} → done y ≡ done x → length y.rest ≡ length x.rest
left_is e = ap (λ (x : Found _). length x.rest) (ok_is e)

module _ (all : List Lexeme) (tokens : TokenLaws all) (n : ℕ) (inner : Inner) (laws : Laws all n inner) where
  pub next_argument_falls : (room separator : ℕ) → Falls (next_argument inner room separator)
  unfolding next_argument
  next_argument_falls room separator s ts x e =
      let a = bind_ok e in
      omega (arith, laws.exprs.shrinks _ _ _ _ _ _ a.1, left_is a.2)

  pub arguments_falls : (room : ℕ) → Falls (arguments_with inner room)
  unfolding arguments_with
  arguments_falls room s ts x e =
      if_ok (is_close_paren (kind_at ts)) e (λ is e. omega (arith, left_is e)) (λ is e.
      let a = bind_ok e in
      omega (
        arith,
        listed_shrinks _ (next_argument inner room) (next_argument_falls room)
            (laws.exprs.shrinks Assigned nothing (room - 1)) _ _ _ a.1,
        left_is a.2,
      ))

  index_shrinks : (base : Expr) (room : ℕ) → Shrinks (index_with inner base room)
  unfolding index_with
  index_shrinks base room s ts x e =
      let a = bind_ok e in
      let b = bind_ok a.2 in
      let c = bind_ok b.2 in
      omega (
        arith,
        take_falls _ _ _ a.1,
        laws.exprs.shrinks _ _ _ _ _ _ b.1,
        token_falls is_close_bracket _ _ _ c.1,
        left_is c.2,
      )

  call_shrinks : (base : Expr) (room : ℕ) → Shrinks (call_with inner base room)
  unfolding call_with
  call_shrinks base room s ts x e =
      let a = bind_ok e in
      let b = bind_ok a.2 in
      let c = bind_ok b.2 in
      omega
      (arith, take_falls _ _ _ a.1, arguments_falls _ _ _ _ b.1, token_falls is_close_paren _ _ _ c.1, left_is c.2)

  dot_shrinks : (base : Expr) → Shrinks (dot_with inner base)
  unfolding dot_with
  dot_shrinks base s ts x e =
      let a = bind_ok e in
      let b = bind_ok a.2 in
      omega (arith, take_falls _ _ _ a.1, name_falls _ _ _ b.1, left_is b.2)

  arrow_shrinks : (base : Expr) → Shrinks (arrow_with inner base)
  unfolding arrow_with
  arrow_shrinks base s ts x e =
      let a = bind_ok e in
      let b = bind_ok a.2 in
      omega (arith, take_falls _ _ _ a.1, name_falls _ _ _ b.1, left_is b.2)

  post_shrinks : (base : Expr) (p : Punct) → Shrinks (post_with inner base p)
  unfolding post_with
  post_shrinks base p s ts x e =
      let a = bind_ok e in
      omega (arith, take_falls _ _ _ a.1, left_is a.2)

  -- what a turn of a loop read
  pub some_is : {A : Type 0} {r : Read A} {x : Found A} → Some r ≡ Some (done x) → r ≡ done x
  some_is e = cc

  pub postfix_turn_shrinks : (room : ℕ) → TurnShrinks (postfix_turn inner room)
  postfix_turn_shrinks room base s ts x e = by_form (form_of (kind_at ts)) e
    where
      by_form : (f : PostfixForm)
          → lowered inner (expr_height base) room ts (postfix_by inner f room base s ts) ≡ Some (done x)
          → length x.rest < length ts
      by_form forms.Index e = index_shrinks base room s ts x (fits_ok _ _ _ (some_is e)).1
      by_form forms.Call e = call_shrinks base room s ts x (fits_ok _ _ _ (some_is e)).1
      by_form forms.Dot e = dot_shrinks base s ts x (fits_ok _ _ _ (some_is e)).1
      by_form forms.Arrow e = arrow_shrinks base s ts x (fits_ok _ _ _ (some_is e)).1
      by_form (forms.Post p) e = post_shrinks base p s ts x (fits_ok _ _ _ (some_is e)).1
      by_form forms.Nothing e = absurd cc

  pub postfixed_falls : (room : ℕ) (base : Expr) → Falls (postfixed inner room base)
  unfolding postfixed
  postfixed_falls room base s ts x e =
      run-keep (postfix_turn inner room) (λ a s k. length k ≤ length ts)
      (λ a s k x h e. let less : length x.rest < length k = postfix_turn_shrinks room a s k x e in
      omega arith) base s ts x (omega arith) e

  primary_shrinks : (make : ℕ → Expr) (room : ℕ) → Shrinks (primary_with inner make room)
  primary_shrinks make room s ts x e =
      let r = fits_ok _ _ _ e in
      let a = bind_ok r.1 in
      omega (arith, take_falls _ _ _ a.1, postfixed_falls _ _ _ _ _ a.2)

  text_shrinks : (room : ℕ) → Shrinks (text_with inner room)
  unfolding text_with
  text_shrinks room s ts x e =
      let r = fits_ok _ _ _ e in
      let a = bind_ok r.1 in
      let b = bind_ok a.2 in
      omega (arith, take_falls _ _ _ a.1, tokens.texts_falls _ _ _ b.1, postfixed_falls _ _ _ _ _ b.2)

  compound_shrinks : (opening : ℕ) (t : TypeName) (closing room : ℕ)
      → Shrinks (compound_with inner opening t closing room)
  unfolding compound_with
  compound_shrinks opening t closing room s ts x e =
      let a = bind_ok e in
      omega (arith, laws.lists.shrinks _ _ _ _ a.1, postfixed_falls _ _ _ _ _ a.2)

  cast_behind_shrinks : (opening : ℕ) (t : TypeName) (closing room : ℕ)
      → Shrinks (cast_behind inner opening t closing room)
  unfolding cast_behind
  cast_behind_shrinks opening t closing room s ts x e =
      let a = bind_ok e in
      omega (arith, laws.exprs.shrinks _ _ _ _ _ _ a.1, left_is a.2)

  typed_behind_shrinks : (casts : Bool) (opening : ℕ) (t : TypeName) (closing room : ℕ)
      → Shrinks (typed_behind inner casts opening t closing room)
  unfolding typed_behind
  typed_behind_shrinks casts opening t closing room s ts x e =
      if_ok (is_open_brace (kind_at ts)) e (λ is e. compound_shrinks opening t closing room s ts x e) (λ is e.
      if_ok casts e (λ is e. cast_behind_shrinks opening t closing room s ts x e) (λ is e. absurd cc))

  typed_shrinks : (casts : Bool) (opening room : ℕ) → Shrinks (typed_with inner casts opening room)
  unfolding typed_with
  typed_shrinks casts opening room s ts x e =
      let a = bind_ok e in
      let b = bind_ok a.2 in
      omega (
        arith,
        laws.types.shrinks _ _ _ _ a.1,
        token_falls is_close_paren _ _ _ b.1,
        typed_behind_shrinks _ _ _ _ _ _ _ _ b.2,
      )

  statement_shrinks : (opening room : ℕ) → Shrinks (statement_with inner opening room)
  unfolding statement_with
  statement_shrinks opening room s ts x e =
      let a = bind_ok e in
      let b = bind_ok a.2 in
      omega
      (arith, laws.blocks.shrinks _ _ _ _ a.1, token_falls is_close_paren _ _ _ b.1, postfixed_falls _ _ _ _ _ b.2)

  paren_shrinks : (opening room : ℕ) → Shrinks (paren_with inner opening room)
  unfolding paren_with
  paren_shrinks opening room s ts x e =
      let a = bind_ok e in
      let b = bind_ok a.2 in
      omega
      (arith, laws.exprs.shrinks _ _ _ _ _ _ a.1, token_falls is_close_paren _ _ _ b.1, postfixed_falls _ _ _ _ _ b.2)

  opened_by_shrinks : (casts : Bool) (opening room : ℕ) → Shrinks (opened_by inner casts opening room)
  unfolding opened_by
  opened_by_shrinks casts opening room s ts x e =
      if_ok (begins_specs s (kind_at ts)) e (λ is e. typed_shrinks casts opening room s ts x e) (λ is e.
      if_ok (is_open_brace (kind_at ts)) e (λ is e. statement_shrinks opening room s ts x e)
      (λ is e. paren_shrinks opening room s ts x e))

  opened_shrinks : (casts : Bool) (room : ℕ) → Shrinks (opened_with inner casts room)
  unfolding opened_with
  opened_shrinks casts room s ts x e =
      let r = fits_ok _ _ _ e in
      let a = bind_ok r.1 in
      omega (arith, take_falls _ _ _ a.1, opened_by_shrinks _ _ _ _ _ _ a.2)

  prefix_shrinks : (p : Punct) (reach : Reach) (room : ℕ) → Shrinks (prefix_with inner p reach room)
  unfolding prefix_with
  prefix_shrinks p reach room s ts x e =
      let r = fits_ok _ _ _ e in
      let a = bind_ok r.1 in
      let b = bind_ok a.2 in
      omega (arith, take_falls _ _ _ a.1, laws.exprs.shrinks _ _ _ _ _ _ b.1, left_is b.2)

  extension_shrinks : (room : ℕ) → Shrinks (extension_with inner room)
  unfolding extension_with
  extension_shrinks room s ts x e =
      let r = fits_ok _ _ _ e in
      let a = bind_ok r.1 in
      let b = bind_ok a.2 in
      omega (arith, take_falls _ _ _ a.1, laws.exprs.shrinks _ _ _ _ _ _ b.1, left_is b.2)

  sizeof_value_shrinks : (word : Word) (room : ℕ) → Shrinks (sizeof_value_with inner word room)
  unfolding sizeof_value_with
  sizeof_value_shrinks word room s ts x e =
      let a = bind_ok e in
      omega (arith, laws.exprs.shrinks _ _ _ _ _ _ a.1, left_is a.2)

  sizeof_typed_falls : (word : Word) (opening : ℕ) (t : TypeName) (closing room : ℕ)
      → Falls (sizeof_typed inner word opening t closing room)
  unfolding sizeof_typed
  sizeof_typed_falls word opening t closing room s ts x e =
      if_ok (is_open_brace (kind_at ts)) e (λ is e.
      let r = fits_ok _ _ _ e in
      let a = bind_ok r.1 in
      omega (arith, compound_shrinks _ _ _ _ _ _ _ a.1, left_is a.2)) (λ is e. omega (arith, left_is e))

  sizeof_type_shrinks : (word : Word) (room : ℕ) → Shrinks (sizeof_type_with inner word room)
  unfolding sizeof_type_with
  sizeof_type_shrinks word room s ts x e =
      let a = bind_ok e in
      let b = bind_ok a.2 in
      let c = bind_ok b.2 in
      omega (
        arith,
        take_falls _ _ _ a.1,
        laws.types.shrinks _ _ _ _ b.1,
        token_falls is_close_paren _ _ _ c.1,
        sizeof_typed_falls _ _ _ _ _ _ _ _ c.2,
      )

  sizeof_behind_shrinks : (word : Word) (room : ℕ) → Shrinks (sizeof_behind inner word room)
  unfolding sizeof_behind
  sizeof_behind_shrinks word room s ts x e =
      if_ok (is_open_paren (kind_at ts)) e (λ is e.
      if_ok (begins_specs s (kind_at (behind_first ts))) (fits_ok _ _ _ e).1
      (λ is e. sizeof_type_shrinks word room s ts x e) (λ is e. sizeof_value_shrinks word room s ts x e))
      (λ is e. sizeof_value_shrinks word room s ts x e)

  sizeof_shrinks : (keyword : Keyword) (room : ℕ) → Shrinks (sizeof_with inner keyword room)
  unfolding sizeof_with
  sizeof_shrinks keyword room s ts x e =
      let r = fits_ok _ _ _ e in
      let a = bind_ok r.1 in
      omega (arith, take_falls _ _ _ a.1, sizeof_behind_shrinks _ _ _ _ _ a.2)

  va_arg_shrinks : (room : ℕ) → Shrinks (va_arg_with inner room)
  unfolding va_arg_with
  va_arg_shrinks room s ts x e =
      let r = fits_ok _ _ _ e in
      let a = bind_ok r.1 in
      let b = bind_ok a.2 in
      let c = bind_ok b.2 in
      let d = bind_ok c.2 in
      let f = bind_ok d.2 in
      let g = bind_ok f.2 in
      then_one _ _ _ (then_one _ _ _ (then_fewer _ _ _ (then_one _ _ _
      (then_fewer _ _ _ (and_one _ _ _ (postfixed_falls _ _ _ _ _ g.2) (token_falls is_close_paren _ _ _ g.1))
      (laws.types.shrinks _ _ _ _ f.1)) (token_falls is_comma _ _ _ d.1)) (laws.exprs.shrinks _ _ _ _ _ _ c.1))
      (token_falls is_open_paren _ _ _ b.1)) (take_falls _ _ _ a.1)

  va_two_shrinks : (make : ℕ → ℕ → Expr → ℕ → Expr → ℕ → Expr) (room : ℕ) → Shrinks (va_two_with inner make room)
  unfolding va_two_with
  va_two_shrinks make room s ts x e =
      let r = fits_ok _ _ _ e in
      let a = bind_ok r.1 in
      let b = bind_ok a.2 in
      let c = bind_ok b.2 in
      let d = bind_ok c.2 in
      let f = bind_ok d.2 in
      let g = bind_ok f.2 in
      then_one _ _ _ (then_one _ _ _ (then_fewer _ _ _ (then_one _ _ _
      (then_fewer _ _ _ (and_one _ _ _ (postfixed_falls _ _ _ _ _ g.2) (token_falls is_close_paren _ _ _ g.1))
      (laws.exprs.shrinks _ _ _ _ _ _ f.1)) (token_falls is_comma _ _ _ d.1)) (laws.exprs.shrinks _ _ _ _ _ _ c.1))
      (token_falls is_open_paren _ _ _ b.1)) (take_falls _ _ _ a.1)

  pub step_shrinks : (room : ℕ) → Shrinks (step_with inner room)
  unfolding step_with
  step_shrinks room s ts x e =
      if_ok (is_dot (kind_at ts)) e (λ is e.
      let a = bind_ok e in
      let b = bind_ok a.2 in
      omega (arith, take_falls _ _ _ a.1, name_falls _ _ _ b.1, left_is b.2)) (λ is e.
      let a = bind_ok e in
      let b = bind_ok a.2 in
      let c = bind_ok b.2 in
      omega (
        arith,
        take_falls _ _ _ a.1,
        laws.exprs.shrinks _ _ _ _ _ _ b.1,
        token_falls is_close_bracket _ _ _ c.1,
        left_is c.2,
      ))

  offset_shrinks : (room : ℕ) → Shrinks (offset_with inner room)
  unfolding offset_with
  offset_shrinks room s ts x e =
      let r = fits_ok _ _ _ e in
      let a = bind_ok r.1 in
      let b = bind_ok a.2 in
      let c = bind_ok b.2 in
      let d = bind_ok c.2 in
      let f = bind_ok d.2 in
      let g = bind_ok f.2 in
      let h = bind_ok g.2 in
      then_one _ _ _ (then_one _ _ _ (then_fewer _ _ _ (then_one _ _ _ (then_one _ _ _
      (then_no_more _ _ _ (and_one _ _ _ (postfixed_falls _ _ _ _ _ h.2) (token_falls is_close_paren _ _ _ h.1))
      (repeated_falls begins_desig (step_with inner room) (step_shrinks room) _ _ _ g.1)) (name_falls _ _ _ f.1))
      (token_falls is_comma _ _ _ d.1)) (laws.types.shrinks _ _ _ _ c.1))
      (token_falls is_open_paren _ _ _ b.1)) (take_falls _ _ _ a.1)

  part_shrinks : (room : ℕ) → Shrinks (part_with inner room)
  unfolding part_with
  part_shrinks room s ts x e =
      let r = fits_ok _ _ _ e in
      let a = bind_ok r.1 in
      let b = bind_ok a.2 in
      omega (arith, take_falls _ _ _ a.1, laws.exprs.shrinks _ _ _ _ _ _ b.1, left_is b.2)

  label_use_shrinks : (room : ℕ) → Shrinks (label_use_with inner room)
  unfolding label_use_with
  label_use_shrinks room s ts x e =
      if_ok (is_wide s) e (λ is e.
      let r = fits_ok _ _ _ e in
      let a = bind_ok r.1 in
      let b = bind_ok a.2 in
      omega (arith, take_falls _ _ _ a.1, name_falls _ _ _ b.1, left_is b.2)) (λ is e. absurd cc)

  compat_shrinks : (room : ℕ) → Shrinks (compat_with inner room)
  unfolding compat_with
  compat_shrinks room s ts x e =
      let r = fits_ok _ _ _ e in
      let a = bind_ok r.1 in
      let b = bind_ok a.2 in
      let c = bind_ok b.2 in
      let d = bind_ok c.2 in
      let f = bind_ok d.2 in
      let g = bind_ok f.2 in
      then_one _ _ _ (then_one _ _ _ (then_fewer _ _ _ (then_one _ _ _
      (then_fewer _ _ _ (and_one _ _ _ (postfixed_falls _ _ _ _ _ g.2) (token_falls is_close_paren _ _ _ g.1))
      (laws.types.shrinks _ _ _ _ f.1)) (token_falls is_comma _ _ _ d.1)) (laws.types.shrinks _ _ _ _ c.1))
      (token_falls is_open_paren _ _ _ b.1)) (take_falls _ _ _ a.1)

  choose_shrinks : (room : ℕ) → Shrinks (choose_with inner room)
  unfolding choose_with
  choose_shrinks room s ts x e =
      bind_in (fits_ok _ _ _ e).1 (λ a p e. bind_in e (λ b q e. bind_in e (λ c r e.
      bind_in e (λ d t e. bind_in e (λ f u e. bind_in e (λ g v e. bind_in e (λ h w e. bind_in e (λ i z e.
      then_one _ _ _ (then_one _ _ _ (then_fewer _ _ _ (then_one _ _ _ (then_fewer _ _ _ (then_one _ _ _
      (then_fewer _ _ _ (and_one _ _ _ (postfixed_falls _ _ _ _ _ e) (token_falls is_close_paren _ _ _ z))
      (laws.exprs.shrinks _ _ _ _ _ _ w)) (token_falls is_comma _ _ _ v)) (laws.exprs.shrinks _ _ _ _ _ _ u))
      (token_falls is_comma _ _ _ t)) (laws.exprs.shrinks _ _ _ _ _ _ r))
      (token_falls is_open_paren _ _ _ q)) (take_falls _ _ _ p)))))))))

  pub assoc_shrinks : (room : ℕ) → Shrinks (assoc_with inner room)
  unfolding assoc_with default_assoc_with typed_assoc_with
  assoc_shrinks room s ts x e =
      if_ok (is_default (kind_at ts)) e (λ is e.
      let r = fits_ok _ _ _ e in
      let a = bind_ok r.1 in
      let b = bind_ok a.2 in
      let c = bind_ok b.2 in
      omega
      (arith, take_falls _ _ _ a.1, token_falls is_colon _ _ _ b.1, laws.exprs.shrinks _ _ _ _ _ _ c.1, left_is c.2))
      (λ is e.
      if_ok (begins_role Naming s (kind_at ts)) e (λ is e.
      let r = fits_ok _ _ _ e in
      let a = bind_ok r.1 in
      let b = bind_ok a.2 in
      let c = bind_ok b.2 in
      omega (
        arith,
        laws.types.shrinks _ _ _ _ a.1,
        token_falls is_colon _ _ _ b.1,
        laws.exprs.shrinks _ _ _ _ _ _ c.1,
        left_is c.2,
      )) (λ is e. absurd cc))

  pub next_assoc_falls : (room separator : ℕ) → Falls (next_assoc inner room separator)
  unfolding next_assoc
  next_assoc_falls room separator s ts x e =
      let a = bind_ok e in
      omega (arith, assoc_shrinks _ _ _ _ a.1, left_is a.2)

  generic_shrinks : (room : ℕ) → Shrinks (generic_with inner room)
  unfolding generic_with
  generic_shrinks room s ts x e =
      let r = fits_ok _ _ _ e in
      let a = bind_ok r.1 in
      let b = bind_ok a.2 in
      let c = bind_ok b.2 in
      let d = bind_ok c.2 in
      let f = bind_ok d.2 in
      let g = bind_ok f.2 in
      then_one _ _ _ (then_one _ _ _ (then_fewer _ _ _ (then_one _ _ _
      (then_fewer _ _ _ (and_one _ _ _ (postfixed_falls _ _ _ _ _ g.2) (token_falls is_close_paren _ _ _ g.1))
      (listed_shrinks (assoc_with inner (room - 1)) (next_assoc inner (room - 1)) (next_assoc_falls (room - 1))
      (assoc_shrinks (room - 1)) _ _ _ f.1)) (token_falls is_comma _ _ _ d.1)) (laws.exprs.shrinks _ _ _ _ _ _ c.1))
      (token_falls is_open_paren _ _ _ b.1)) (take_falls _ _ _ a.1)

  unary_by_shrinks : (o : Opening) (room : ℕ) → Shrinks (unary_by inner o room)
  unfolding unary_by
  unary_by_shrinks (openings.Prefix p reach) room s ts x e = prefix_shrinks p reach room s ts x e
  unary_by_shrinks (openings.Sizeof keyword) room s ts x e = sizeof_shrinks keyword room s ts x e
  unary_by_shrinks openings.Extension room s ts x e = extension_shrinks room s ts x e
  unary_by_shrinks (openings.Name name) room s ts x e =
      if_ok (names_type s name) e (λ is e. absurd cc)
      (λ is e. primary_shrinks (λ token. name_use token name) room s ts x e)
  unary_by_shrinks openings.Number room s ts x e = primary_shrinks number_use room s ts x e
  unary_by_shrinks openings.Char room s ts x e = primary_shrinks char_use room s ts x e
  unary_by_shrinks openings.Text room s ts x e = text_shrinks room s ts x e
  unary_by_shrinks openings.Paren room s ts x e = opened_shrinks false room s ts x e
  unary_by_shrinks openings.VaArg room s ts x e = va_arg_shrinks room s ts x e
  unary_by_shrinks openings.VaStart room s ts x e = va_two_shrinks va_start room s ts x e
  unary_by_shrinks openings.VaCopy room s ts x e = va_two_shrinks va_copy room s ts x e
  unary_by_shrinks openings.Offset room s ts x e = offset_shrinks room s ts x e
  unary_by_shrinks openings.Part room s ts x e = part_shrinks room s ts x e
  unary_by_shrinks openings.Label room s ts x e = label_use_shrinks room s ts x e
  unary_by_shrinks openings.Compat room s ts x e = compat_shrinks room s ts x e
  unary_by_shrinks openings.Choose room s ts x e = choose_shrinks room s ts x e
  unary_by_shrinks openings.Generic room s ts x e = generic_shrinks room s ts x e
  unary_by_shrinks openings.Nothing room s ts x e = absurd cc

  pub unary_shrinks : (room : ℕ) → Shrinks (unary_with inner room)
  unfolding unary_with
  unary_shrinks room s ts x e = unary_by_shrinks (opening_of (kind_at ts)) room s ts x e

  pub cast_shrinks : (room : ℕ) → Shrinks (cast_with inner room)
  unfolding cast_with
  cast_shrinks room s ts x e =
      if_ok (is_open_paren (kind_at ts)) e (λ is e. opened_shrinks true room s ts x e)
      (λ is e. unary_shrinks room s ts x e)

  operand_shrinks : (begun : Begun) (room : ℕ) → Shrinks (operand_with inner begun room)
  unfolding operand_with
  operand_shrinks nothing room s ts x e = cast_shrinks room s ts x e
  operand_shrinks (extensions numbers) room s ts x e =
      let a = bind_ok e in
      omega (arith, cast_shrinks _ _ _ _ a.1, left_is a.2)
  operand_shrinks (star token) room s ts x e =
      let a = bind_ok e in
      omega (arith, cast_shrinks _ _ _ _ a.1, left_is a.2)

  operation_shrinks : (op : Operator) (left : Settled) (room : ℕ) → Shrinks (operation_with inner op left room)
  operation_shrinks op left room s ts x e =
      let r = fits_ok _ _ _ e in
      let a = bind_ok r.1 in
      let b = bind_ok a.2 in
      omega (arith, take_falls _ _ _ a.1, cast_shrinks _ _ _ _ b.1, left_is b.2)

  middle_falls : (room : ℕ) → Falls (middle_with inner room)
  unfolding middle_with
  middle_falls room s ts x e =
      if_ok (is_colon (kind_at ts)) e (λ is e. omega (arith, left_is e)) (λ is e.
      let a = bind_ok e in
      omega (arith, laws.exprs.shrinks _ _ _ _ _ _ a.1, left_is a.2))

  question_shrinks : (left : Settled) (room : ℕ) → Shrinks (question_with inner left room)
  question_shrinks left room s ts x e =
      let r = fits_ok _ _ _ e in
      let a = bind_ok r.1 in
      let b = bind_ok a.2 in
      let c = bind_ok b.2 in
      let d = bind_ok c.2 in
      omega (
        arith,
        take_falls _ _ _ a.1,
        middle_falls _ _ _ _ b.1,
        token_falls is_colon _ _ _ c.1,
        cast_shrinks _ _ _ _ d.1,
        left_is d.2,
      )

  pub operation_turn_shrinks : (reach : Reach) (room : ℕ) → TurnShrinks (operation_turn inner reach room)
  operation_turn_shrinks reach room row s ts x e = by_infix (infix_of (kind_at ts)) e
    where
      by_infix : (f : Infix) → operation_by inner reach room f row s ts ≡ Some (done x) → length x.rest < length ts
      by_infix infixes.Comma e =
          if_ok (takes_comma reach) e (λ is e. operation_shrinks comma (settled row 0) room s ts x (some_is e))
          (λ is e. absurd cc)
      by_infix (infixes.Assign p) e =
          if_ok (nat_le 14 (expr_level (settled row 1).last)) e (λ is e.
          if_ok (takes_assign reach) e (λ is e. operation_shrinks (assign p) (settled row 1) room s ts x (some_is e))
          (λ is e. absurd cc)) (λ is e. absurd cc)
      by_infix infixes.Question e = question_shrinks (settled row 2) room s ts x (some_is e)
      by_infix (infixes.Binary p) e =
          operation_shrinks (binary p) (settled row (binary_level p + 2)) room s ts x (some_is e)
      by_infix infixes.Nothing e = absurd cc

  row_shrinks : (reach : Reach) (begun : Begun) (room : ℕ) → Shrinks (row_with inner reach begun room)
  unfolding row_with
  row_shrinks reach begun room s ts x e =
      let a = bind_ok e in
      let b = bind_ok a.2 in
      let less : length b.0.rest ≤ length a.0.rest =
      run-keep (operation_turn inner reach room) (λ row s k. length k ≤ length a.0.rest)
      (λ row s k x h e. let less : length x.rest < length k = operation_turn_shrinks reach room row s k x e in
      omega arith) (record { waiting = bottom; last = a.0.tree }) a.0.scopes a.0.rest b.0 (omega arith) b.1 in
      omega (arith, operand_shrinks _ _ _ _ _ a.1, left_is b.2, less)

  pub expr_shrinks : (reach : Reach) (begun : Begun) (room : ℕ) → Shrinks (expr_with inner reach begun room)
  unfolding expr_with
  expr_shrinks Whole begun room s ts x e = row_shrinks Whole begun room s ts x e
  expr_shrinks Assigned begun room s ts x e = row_shrinks Assigned begun room s ts x e
  expr_shrinks Conditional begun room s ts x e = row_shrinks Conditional begun room s ts x e
  expr_shrinks Castable begun room s ts x e = operand_shrinks begun room s ts x e
  expr_shrinks Unary begun room s ts x e = unary_shrinks room s ts x e
