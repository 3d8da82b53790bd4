-- Expressions with more room, and what they do at their first token.
use Rattle.c_reading.specs.declared.kinds.Role.TheVariants.{Naming}
use Rattle.std.proofs.Common.{◌≡◌, ℕ, suc, ◌+◌, ◌<◌, ◌≤◌, Bool, true, false, if◌then◌else◌, List, length, Some, None, refl, arith}
use Rattle.std.specs.Prelude.{◌-◌, nat_le, not}
use Rattle.c_words.specs.declared.kinds.TokenKind.{TokenKind}
use Rattle.c_words.specs.declared.kinds.TokenKind.TheVariants as kinds
use Rattle.c_words.specs.declared.kinds.Punct.{Punct}
use Rattle.c_words.specs.declared.kinds.Punct.TheVariants as puncts
use Rattle.c_words.specs.declared.kinds.Keyword.{Keyword}
use Rattle.c_tree.specs.declared.lexeme.Lexeme.{Lexeme}
use Rattle.c_syntax.specs.declared.parts.Word.{Word}
use Rattle.c_tree.specs.Tree.{Expr, Operator, comma, assign, binary, va_start, va_copy, name_use, number_use, char_use, label_use}
use Rattle.c_tree.specs.Height.{expr_height}
use Rattle.c_tree.specs.Levels.{expr_level, binary_level}
use Rattle.c_units.specs.HeldScopes.{HeldScopes, names_type, is_wide}
use Rattle.c_ops.specs.Joining.{Settled}
use Rattle.c_reading.specs.declared.kinds.FaultKind.TheVariants.{BadTarget}
use Rattle.c_reading.specs.declared.kinds.Reach.{Reach}
use Rattle.c_reading.specs.declared.kinds.Reach.TheVariants.{Whole, Assigned, Conditional, Castable, Unary}
use Rattle.c_reading.specs.declared.kinds.Opening.{Opening}
use Rattle.c_reading.specs.declared.kinds.Opening.TheVariants as openings
use Rattle.c_reading.specs.declared.kinds.PostfixForm.{PostfixForm}
use Rattle.c_reading.specs.declared.kinds.PostfixForm.TheVariants as forms
use Rattle.c_reading.specs.declared.kinds.Infix.{Infix}
use Rattle.c_reading.specs.declared.kinds.Infix.TheVariants as infixes
use Rattle.c_reading.specs.Reading.{kind_at, behind_first, refuses, run, and_then, ends, fits, take_one}
use Rattle.c_reading.specs.Tokens.{is_open_paren, is_close_paren, is_comma, is_colon, is_open_brace, is_close_bracket, is_default, name_at}
use Rattle.c_reading.specs.Parts.{Inner, Begun, nothing, extensions, star, TypeName, type_name_height}
use Rattle.c_reading.specs.Specifying.{begins_specs, begins_role}
use Rattle.c_reading.specs.Expressing.{is_dot, begins_desig, is_opening, begins_expr, opening_of, form_of, infix_of, takes_comma, takes_assign, OperandRow, settled, depth_of, next_argument, arguments_with, index_with, call_with, dot_with, arrow_with, post_with, postfix_by, lowered, postfix_turn, postfixed, primary_with, text_with, compound_with, cast_behind, typed_behind, typed_with, statement_with, paren_with, opened_by, opened_with, prefix_with, extension_with, sizeof_value_with, sizeof_typed, sizeof_type_with, sizeof_behind, sizeof_with, va_arg_with, va_two_with, step_with, offset_with, unary_by, unary_with, cast_with, operand_with, operation_with, middle_with, question_with, operation_by, operation_turn, row_with, expr_with, part_with, label_use_with, compat_with, choose_with, default_assoc_with, typed_assoc_with, assoc_with, next_assoc, generic_with}
use Rattle.c_reading.proofs.SpecsCompleteBodies.{expr_high}
use Rattle.wide_laws.specs.Wide.{Near, Late, Both, Ahead, InnerBoth}
use Rattle.wide_laws.proofs.Both.{all_left, late_bind, late_if, late_take, past_take, ready, refused, when, both_bind, both_then, both_fits, both_fits_in, both_takes, both_asks, both_if, both_choice, BothTurn, both_guarded, both_run, both_repeated, both_listed}
use Rattle.wide_laws.proofs.Words.{late_token, late_name, late_texts}

module _ {S : Type 0} (n gap : ℕ) (inner other : Inner) (m : InnerBoth S n gap inner other) (room wide : ℕ)
    (less : room < suc n) (wider : Near gap room wide) where
  inside : (reach : Reach) (begun : Begun) (s : HeldScopes) (ts : List Lexeme)
      → Both S (1 ≤ room) ts (inner.expr reach begun (room - 1) s ts) (other.expr reach begun (wide - 1) s ts)
  inside reach begun s ts =
      when (λ one. omega (arith, less, one)) (m.exprs reach begun (room - 1) (wide - 1) (omega (arith, wider)) s ts)

  arguments_both : (s : HeldScopes) (ts : List Lexeme)
      → Both S (1 ≤ room) ts (arguments_with inner room s ts) (arguments_with other wide s ts)
  unfolding arguments_with next_argument
  arguments_both s ts =
      both_if (is_close_paren (kind_at ts)) _ _ _ _ (ready _)
      (both_bind _ _ _ _ (both_listed (inner.expr Assigned nothing (room - 1)) (other.expr Assigned nothing (wide - 1))
      (next_argument inner room) (next_argument other wide) s ts (inside Assigned nothing s ts) (λ x one is. one)
      (λ token s ts. both_bind _ _ _ _ (inside Assigned nothing s ts) (λ e. ready _))) (λ es. ready _))

  postfix_both : (D : Type 0) (e : Expr) (s : HeldScopes) (ts : List Lexeme)
      → BothTurn S D ts (postfix_turn inner room e s ts) (postfix_turn other wide e s ts)
  unfolding index_with call_with dot_with arrow_with post_with
  postfix_both D e s ts = by_form (form_of (kind_at ts))
    where
      by_form : (form : PostfixForm)
          → BothTurn S D ts (lowered inner (expr_height e) room ts (postfix_by inner form room e s ts))
          (lowered other (expr_height e) wide ts (postfix_by other form wide e s ts))
      by_form forms.Index =
          both_asks (suc (expr_height e)) room wide s ts _ _ wider.0 (λ opening.
          both_bind _ _ _ _ (when (λ fit. omega (arith, fit)) (inside Whole nothing opening.scopes opening.rest))
          (λ e2. both_then _ _ _ (late_token is_close_bracket e2.scopes e2.rest) (λ closing. ready _)))
      by_form forms.Call =
          both_asks (suc (expr_height e)) room wide s ts _ _ wider.0 (λ opening.
          both_bind _ _ _ _ (when (λ fit. omega (arith, fit)) (arguments_both opening.scopes opening.rest))
          (λ es. both_then _ _ _ (late_token is_close_paren es.scopes es.rest) (λ closing. ready _)))
      by_form forms.Dot =
          both_asks (suc (expr_height e)) room wide s ts _ _ wider.0
          (λ token. both_then _ _ _ (late_name token.scopes token.rest) (λ name. ready _))
      by_form forms.Arrow =
          both_asks (suc (expr_height e)) room wide s ts _ _ wider.0
          (λ token. both_then _ _ _ (late_name token.scopes token.rest) (λ name. ready _))
      by_form (forms.Post p) = both_asks (suc (expr_height e)) room wide s ts _ _ wider.0 (λ token. ready _)
      by_form forms.Nothing = tt

  postfixed_both : {D : Type 0} (e : Expr) (s : HeldScopes) (ts : List Lexeme)
      → Both S D ts (postfixed inner room e s ts) (postfixed other wide e s ts)
  unfolding postfixed
  postfixed_both {D} e s ts = both_run (postfix_turn inner room) (postfix_turn other wide) (postfix_both D) e s ts

  primary_both : {D : Type 0} (make : ℕ → Expr) (s : HeldScopes) (ts : List Lexeme)
      → Ahead S D ts (primary_with inner make room s ts) (primary_with other make wide s ts)
  primary_both make s ts =
      both_takes 1 room wide s ts _ _ wider.0 (λ token. postfixed_both (make token.tree) token.scopes token.rest)

  text_both : {D : Type 0} (s : HeldScopes) (ts : List Lexeme)
      → Ahead S D ts (text_with inner room s ts) (text_with other wide s ts)
  unfolding text_with
  text_both s ts =
      both_takes 1 room wide s ts _ _ wider.0 (λ token.
      both_then _ _ _ (late_texts token.scopes token.rest) (λ texts. postfixed_both _ texts.scopes texts.rest))

  compound_both : (opening : ℕ) (t : TypeName) (closing : ℕ) (s : HeldScopes) (ts : List Lexeme)
      → Both S (1 ≤ room) ts (compound_with inner opening t closing room s ts)
      (compound_with other opening t closing wide s ts)
  unfolding compound_with
  compound_both opening t closing s ts =
      both_bind _ _ _ _ (when (λ one. omega (arith, less, one))
      (m.lists (room - 1) (wide - 1) (omega (arith, wider)) s ts)) (λ list. postfixed_both _ list.scopes list.rest)

  compound_past : S → (opening : ℕ) (t : TypeName) (closing : ℕ) (s : HeldScopes) (ts : List Lexeme)
      → is_open_brace (kind_at ts) ≡ true → Late (behind_first ts) (compound_with other opening t closing wide s ts)
  unfolding compound_with
  compound_past strict opening t closing s ts is =
      late_bind (behind_first ts) _ _ (m.list_first strict (wide - 1) (omega (arith, less, wider)) s ts is)
      (λ list. let both : Both S ⊥ list.rest _ _ = postfixed_both _ list.scopes list.rest in both.late)

  typed_both : (casts : Bool) (opening : ℕ) (s : HeldScopes) (ts : List Lexeme)
      → Both S (2 ≤ room) ts (typed_with inner casts opening room s ts) (typed_with other casts opening wide s ts)
  unfolding typed_with typed_behind cast_behind
  typed_both casts opening s ts =
      both_bind _ _ _ _ (when (λ two. (omega (arith, less, two), omega (arith, two)))
      (m.types (room - 1) (wide - 1) (omega (arith, wider)) s ts)) (λ t.
      both_then _ _ _ (late_token is_close_paren t.scopes t.rest)
      (λ closing. both_if (is_open_brace (kind_at closing.rest)) _ _ _ _
      (when (λ two. omega (arith, two)) (compound_both opening t.tree closing.tree closing.scopes closing.rest))
      (both_if casts _ _ _ _ (both_bind _ _ _ _ (when (λ two. omega (arith, two))
      (inside Castable nothing closing.scopes closing.rest)) (λ e. ready _)) (refused _ closing.rest))))

  opened_both : {D : Type 0} (casts : Bool) (s : HeldScopes) (ts : List Lexeme)
      → Ahead S D ts (opened_with inner casts room s ts) (opened_with other casts wide s ts)
  unfolding opened_with opened_by statement_with paren_with
  opened_both casts s ts =
      both_takes 2 room wide s ts _ _ wider.0 (λ opening. both_if (begins_specs opening.scopes (kind_at opening.rest)) _
      _ _ _ (typed_both casts opening.tree opening.scopes opening.rest)
      (both_if (is_open_brace (kind_at opening.rest)) _ _ _ _
      (both_bind _ _ _ _ (when (λ two. omega (arith, less, two))
      (m.blocks (room - 1) (wide - 1) (omega (arith, wider)) opening.scopes opening.rest))
      (λ block. both_then _ _ _ (late_token is_close_paren block.scopes block.rest)
      (λ closing. postfixed_both _ closing.scopes closing.rest)))
      (both_bind _ _ _ _ (when (λ two. omega (arith, two)) (inside Whole nothing opening.scopes opening.rest))
      (λ e. both_then _ _ _ (late_token is_close_paren e.scopes e.rest)
      (λ closing. postfixed_both _ closing.scopes closing.rest)))))

  prefix_both : {D : Type 0} (p : Punct) (reach : Reach) (s : HeldScopes) (ts : List Lexeme)
      → Ahead S D ts (prefix_with inner p reach room s ts) (prefix_with other p reach wide s ts)
  unfolding prefix_with
  prefix_both p reach s ts =
      both_takes 2 room wide s ts _ _ wider.0 (λ token. both_bind _ _ _ _
      (when (λ two. omega (arith, two)) (inside reach nothing token.scopes token.rest)) (λ e. ready _))

  extension_both : {D : Type 0} (s : HeldScopes) (ts : List Lexeme)
      → Ahead S D ts (extension_with inner room s ts) (extension_with other wide s ts)
  unfolding extension_with
  extension_both s ts =
      both_takes 2 room wide s ts _ _ wider.0 (λ token. both_bind _ _ _ _
      (when (λ two. omega (arith, two)) (inside Castable nothing token.scopes token.rest)) (λ e. ready _))

  value_both : (word : Word) (s : HeldScopes) (ts : List Lexeme)
      → Both S (1 ≤ room) ts (sizeof_value_with inner word room s ts) (sizeof_value_with other word wide s ts)
  unfolding sizeof_value_with
  value_both word s ts = both_bind _ _ _ _ (inside Unary nothing s ts) (λ e. ready _)

  value_past : S → (word : Word) (s : HeldScopes) (ts : List Lexeme) → is_open_paren (kind_at ts) ≡ true
      → Late (behind_first ts) (sizeof_value_with other word wide s ts)
  unfolding sizeof_value_with
  value_past strict word s ts is =
      late_bind (behind_first ts) _ _ (m.unary_first strict (wide - 1) (omega (arith, less, wider)) s ts is)
      (λ e. all_left e.rest)

  va_arg_both : {D : Type 0} (s : HeldScopes) (ts : List Lexeme)
      → Ahead S D ts (va_arg_with inner room s ts) (va_arg_with other wide s ts)
  unfolding va_arg_with
  va_arg_both s ts =
      both_takes 3 room wide s ts _ _ wider.0 (λ keyword.
      both_then _ _ _ (late_token is_open_paren keyword.scopes keyword.rest)
      (λ opening. both_bind _ _ _ _ (when (λ three. omega (arith, three))
      (inside Assigned nothing opening.scopes opening.rest)) (λ e. both_then _ _ _ (late_token is_comma e.scopes e.rest)
      (λ separator. both_bind _ _ _ _ (when (λ three. (omega (arith, less, three), omega (arith, three)))
      (m.types (room - 1) (wide - 1) (omega (arith, wider)) separator.scopes separator.rest))
      (λ t. both_then _ _ _ (late_token is_close_paren t.scopes t.rest)
      (λ closing. postfixed_both _ closing.scopes closing.rest))))))

  va_two_both : {D : Type 0} (make : ℕ → ℕ → Expr → ℕ → Expr → ℕ → Expr) (s : HeldScopes) (ts : List Lexeme)
      → Ahead S D ts (va_two_with inner make room s ts) (va_two_with other make wide s ts)
  unfolding va_two_with
  va_two_both make s ts =
      both_takes 2 room wide s ts _ _ wider.0 (λ keyword.
      both_then _ _ _ (late_token is_open_paren keyword.scopes keyword.rest)
      (λ opening. both_bind _ _ _ _ (when (λ two. omega (arith, two))
      (inside Assigned nothing opening.scopes opening.rest)) (λ e. both_then _ _ _ (late_token is_comma e.scopes e.rest)
      (λ separator.
      both_bind _ _ _ _ (when (λ two. omega (arith, two)) (inside Assigned nothing separator.scopes separator.rest))
      (λ e2. both_then _ _ _ (late_token is_close_paren e2.scopes e2.rest)
      (λ closing. postfixed_both _ closing.scopes closing.rest))))))

  step_both : (s : HeldScopes) (ts : List Lexeme)
      → Both S (1 ≤ room) ts (step_with inner room s ts) (step_with other wide s ts)
  unfolding step_with
  step_both s ts =
      both_if (is_dot (kind_at ts)) _ _ _ _ (both_then _ _ _ (late_take s ts) (λ token.
      both_then _ _ _ (late_name token.scopes token.rest) (λ name. ready _)))
      (both_then _ _ _ (late_take s ts) (λ opening. both_bind _ _ _ _ (inside Whole nothing opening.scopes opening.rest)
      (λ e. both_then _ _ _ (late_token is_close_bracket e.scopes e.rest) (λ closing. ready _))))

  offset_both : {D : Type 0} (s : HeldScopes) (ts : List Lexeme)
      → Ahead S D ts (offset_with inner room s ts) (offset_with other wide s ts)
  unfolding offset_with
  offset_both s ts =
      both_takes 3 room wide s ts _ _ wider.0 (λ keyword.
      both_then _ _ _ (late_token is_open_paren keyword.scopes keyword.rest)
      (λ opening. both_bind _ _ _ _ (when (λ three. (omega (arith, less, three), omega (arith, three)))
      (m.types (room - 1) (wide - 1) (omega (arith, wider)) opening.scopes opening.rest))
      (λ t. both_then _ _ _ (late_token is_comma t.scopes t.rest) (λ separator.
      both_then _ _ _ (late_name separator.scopes separator.rest)
      (λ name. both_bind _ _ _ _ (when (λ three. omega (arith, three)) (both_repeated begins_desig
      (step_with inner room) (step_with other wide) (λ s ts is. step_both s ts) name.scopes name.rest))
      (λ steps. both_then _ _ _ (late_token is_close_paren steps.scopes steps.rest)
      (λ closing. postfixed_both _ closing.scopes closing.rest)))))))

  part_both : {D : Type 0} (s : HeldScopes) (ts : List Lexeme)
      → Ahead S D ts (part_with inner room s ts) (part_with other wide s ts)
  unfolding part_with
  part_both s ts =
      both_takes 2 room wide s ts _ _ wider.0 (λ token. both_bind _ _ _ _
      (when (λ two. omega (arith, two)) (inside Castable nothing token.scopes token.rest)) (λ e. ready _))

  label_asked : {D : Type 0} (s : HeldScopes) (ts : List Lexeme) →
      Ahead S D ts (fits 1 room ts (and_then (take_one s ts) (λ token. and_then (name_at token.scopes token.rest)
      (λ name. ends (label_use token.tree name.tree) name.scopes name.rest))))
      (fits 1 wide ts (and_then (take_one s ts) (λ token. and_then (name_at token.scopes token.rest)
      (λ name. ends (label_use token.tree name.tree) name.scopes name.rest))))
  label_asked s ts =
      both_takes 1 room wide s ts _ _ wider.0
      (λ token. both_then _ _ _ (late_name token.scopes token.rest) (λ name. ready _))

  label_use_both : {D : Type 0} (s : HeldScopes) (ts : List Lexeme)
      → Both S D ts (label_use_with inner room s ts) (label_use_with other wide s ts)
  unfolding label_use_with
  label_use_both s ts = both_if (is_wide s) _ _ _ _ (label_asked s ts).both (refused _ ts)

  label_use_past : (s : HeldScopes) (ts : List Lexeme) → is_wide s ≡ true
      → Late (behind_first ts) (label_use_with other wide s ts)
  unfolding label_use_with
  label_use_past s ts is =
      late_if (behind_first ts) (is_wide s) _ _ (λ on. (label_asked {D = ⊥} s ts).past) (λ off. absurd cc)

  compat_both : {D : Type 0} (s : HeldScopes) (ts : List Lexeme)
      → Ahead S D ts (compat_with inner room s ts) (compat_with other wide s ts)
  unfolding compat_with
  compat_both s ts =
      both_takes 3 room wide s ts _ _ wider.0 (λ keyword.
      both_then _ _ _ (late_token is_open_paren keyword.scopes keyword.rest)
      (λ opening. both_bind _ _ _ _ (when (λ three. (omega (arith, less, three), omega (arith, three)))
      (m.types (room - 1) (wide - 1) (omega (arith, wider)) opening.scopes opening.rest))
      (λ t. both_then _ _ _ (late_token is_comma t.scopes t.rest)
      (λ separator. both_bind _ _ _ _ (when (λ three. (omega (arith, less, three), omega (arith, three)))
      (m.types (room - 1) (wide - 1) (omega (arith, wider)) separator.scopes separator.rest))
      (λ t2. both_then _ _ _ (late_token is_close_paren t2.scopes t2.rest)
      (λ closing. postfixed_both _ closing.scopes closing.rest))))))

  choose_both : {D : Type 0} (s : HeldScopes) (ts : List Lexeme)
      → Ahead S D ts (choose_with inner room s ts) (choose_with other wide s ts)
  unfolding choose_with
  choose_both s ts =
      both_takes 2 room wide s ts _ _ wider.0 (λ keyword.
      both_then _ _ _ (late_token is_open_paren keyword.scopes keyword.rest)
      (λ opening. both_bind _ _ _ _ (when (λ two. omega (arith, two))
      (inside Assigned nothing opening.scopes opening.rest)) (λ e. both_then _ _ _ (late_token is_comma e.scopes e.rest)
      (λ separator.
      both_bind _ _ _ _ (when (λ two. omega (arith, two)) (inside Assigned nothing separator.scopes separator.rest))
      (λ e2. both_then _ _ _ (late_token is_comma e2.scopes e2.rest)
      (λ separator2.
      both_bind _ _ _ _ (when (λ two. omega (arith, two)) (inside Assigned nothing separator2.scopes separator2.rest))
      (λ e3. both_then _ _ _ (late_token is_close_paren e3.scopes e3.rest)
      (λ closing. postfixed_both _ closing.scopes closing.rest))))))))

  -- an association: behind the word `default`, or at a word that may begin a type's name
  assoc_both : {D : Type 0} (s : HeldScopes) (ts : List Lexeme)
      → Both S D ts (assoc_with inner room s ts) (assoc_with other wide s ts)
  unfolding assoc_with default_assoc_with typed_assoc_with
  assoc_both s ts =
      both_if (is_default (kind_at ts)) _ _ _ _
      (both_asks 2 room wide s ts _ _ wider.0 (λ keyword.
      both_then _ _ _ (late_token is_colon keyword.scopes keyword.rest)
      (λ colon. both_bind _ _ _ _ (when (λ two. omega (arith, two)) (inside Assigned nothing colon.scopes colon.rest))
      (λ e. ready _))))
      (both_choice (begins_role Naming s (kind_at ts)) _ _ _ _
      (λ is. both_fits_in 3 room wide ts _ _ wider.0
      (λ strict three. late_bind (behind_first ts) _ _
      (m.types_first strict (wide - 1) (omega (arith, less, wider, three)) (omega (arith, less, wider)) s ts is) (λ t.
      late_bind t.rest _ _ (late_token is_colon t.scopes t.rest)
      (λ colon.
      late_bind colon.rest _ _ (inside Assigned nothing colon.scopes colon.rest).late (λ e. all_left e.rest))))
      (both_bind _ _ _ _ (when (λ three. (omega (arith, less, three), omega (arith, three)))
      (m.types (room - 1) (wide - 1) (omega (arith, wider)) s ts))
      (λ t. both_then _ _ _ (late_token is_colon t.scopes t.rest) (λ colon. both_bind _ _ _ _
      (when (λ three. omega (arith, three)) (inside Assigned nothing colon.scopes colon.rest)) (λ e. ready _)))))
      (λ off. refused _ ts))

  next_assoc_both : {D : Type 0} (token : ℕ) (s : HeldScopes) (ts : List Lexeme)
      → Both S D ts (next_assoc inner room token s ts) (next_assoc other wide token s ts)
  unfolding next_assoc
  next_assoc_both token s ts = both_bind _ _ _ _ (assoc_both s ts) (λ x. ready _)

not_true : (b : Bool) → not b ≡ true → b ≡ true → ⊥
not_true true h is = cc
not_true false h is = cc

module _ {S : Type 0} (n gap : ℕ) (inner other : Inner) (m : InnerBoth S n gap inner other) where
  module _ (room wide : ℕ) (less : room < suc n) (wider : Near gap room wide) where
    -- behind a type's name in parentheses a compound literal stands one level lower
    sizeof_typed_both : {D : Type 0} (word : Word) (opening : ℕ) (t : TypeName) (closing : ℕ) (s : HeldScopes)
        (ts : List Lexeme)
        → Both S D ts (sizeof_typed inner word opening t closing room s ts)
        (sizeof_typed other word opening t closing wide s ts)
    unfolding sizeof_typed
    sizeof_typed_both word opening t closing s ts =
        both_choice (is_open_brace (kind_at ts)) _ _ _ _
        (λ is. both_fits (2 + type_name_height t) room wide ts _ _ wider.0
        (λ strict. late_bind (behind_first ts) _ _ (compound_past n gap inner other m (room - 1) (wide - 1)
        (omega (arith, less)) (omega (arith, wider)) strict opening t closing s ts is) (λ e. all_left e.rest))
        (both_bind _ _ _ _
        (when (λ fit. let high = type_high t in omega (arith, fit, high)) (compound_both n gap inner other m (room - 1)
        (wide - 1) (omega (arith, less)) (omega (arith, wider)) opening t closing s ts)) (λ e. ready _)))
        (λ off. ready _)
      where
        type_high : (t : TypeName) → 1 ≤ type_name_height t
        type_high t = omega arith

    sizeof_type_both : (word : Word) (s : HeldScopes) (ts : List Lexeme)
        → Both S (3 ≤ room) ts (sizeof_type_with inner word room s ts) (sizeof_type_with other word wide s ts)
    unfolding sizeof_type_with
    sizeof_type_both word s ts =
        both_then _ _ _ (late_take s ts) (λ opening.
        both_bind _ _ _ _ (when (λ three. (omega (arith, less, three), omega (arith, three)))
        (m.types (room - 1) (wide - 1) (omega (arith, wider)) opening.scopes opening.rest))
        (λ t. both_then _ _ _ (late_token is_close_paren t.scopes t.rest) (λ closing.
        sizeof_typed_both _ opening.tree t.tree closing.tree closing.scopes closing.rest)))

    sizeof_type_past : (word : Word) (s : HeldScopes) (ts : List Lexeme)
        → Late (behind_first ts) (sizeof_type_with other word wide s ts)
    unfolding sizeof_type_with
    sizeof_type_past word s ts =
        past_take s ts _ (λ opening. late_bind opening.rest _ _
        (m.types (room - 1) (wide - 1) (omega (arith, wider)) opening.scopes opening.rest).late
        (λ t. late_bind t.rest _ _ (late_token is_close_paren t.scopes t.rest) (λ closing.
        (sizeof_typed_both {D = ⊥} _ opening.tree t.tree closing.tree closing.scopes closing.rest).late)))

    sizeof_both : {D : Type 0} (keyword : Keyword) (s : HeldScopes) (ts : List Lexeme)
        → Ahead S D ts (sizeof_with inner keyword room s ts) (sizeof_with other keyword wide s ts)
    unfolding sizeof_with sizeof_behind
    sizeof_both keyword s ts =
        both_takes 2 room wide s ts _ _ wider.0 (λ token. both_choice (is_open_paren (kind_at token.rest)) _ _ _ _
        (λ is. both_fits 3 room wide token.rest _ _ wider.0
        (λ strict. late_if (behind_first token.rest) (begins_specs token.scopes (kind_at (behind_first token.rest))) _ _
        (λ on. sizeof_type_past _ token.scopes token.rest)
        (λ off. value_past n gap inner other m room wide less wider strict _ token.scopes token.rest is))
        (both_if (begins_specs token.scopes (kind_at (behind_first token.rest))) _ _ _ _
        (sizeof_type_both _ token.scopes token.rest)
        (when (λ three. omega (arith, three))
        (value_both n gap inner other m room wide less wider _ token.scopes token.rest))))
        (λ off. when (λ two. omega (arith, two))
        (value_both n gap inner other m room wide less wider _ token.scopes token.rest)))

    generic_both : {D : Type 0} (s : HeldScopes) (ts : List Lexeme)
        → Ahead S D ts (generic_with inner room s ts) (generic_with other wide s ts)
    unfolding generic_with
    generic_both s ts =
        both_takes 3 room wide s ts _ _ wider.0 (λ keyword.
        both_then _ _ _ (late_token is_open_paren keyword.scopes keyword.rest)
        (λ opening. both_bind _ _ _ _ (when (λ three. omega (arith, three)) (inside n gap inner other m room wide less
        wider Assigned nothing opening.scopes opening.rest)) (λ e. both_then _ _ _ (late_token is_comma e.scopes e.rest)
        (λ separator. both_bind _ _ _ _
        (both_listed (assoc_with inner (room - 1)) (assoc_with other (wide - 1)) (next_assoc inner (room - 1))
        (next_assoc other (wide - 1)) separator.scopes separator.rest
        (assoc_both n gap inner other m (room - 1) (wide - 1) (omega (arith, less))
        (omega (arith, wider)) separator.scopes separator.rest) (λ x three is. three)
        (λ token s ts. next_assoc_both n gap inner other m (room - 1) (wide - 1) (omega (arith, less))
        (omega (arith, wider)) token s ts))
        (λ xs. both_then _ _ _ (late_token is_close_paren xs.scopes xs.rest) (λ closing.
        postfixed_both n gap inner other m room wide less wider _ closing.scopes closing.rest))))))

    unary_by_both : {D : Type 0} (opening : Opening) (s : HeldScopes) (ts : List Lexeme)
        → Both S D ts (unary_by inner opening room s ts) (unary_by other opening wide s ts)
    unfolding unary_by
    unary_by_both (openings.Prefix p reach) s ts =
        (prefix_both n gap inner other m room wide less wider p reach s ts).both
    unary_by_both (openings.Sizeof keyword) s ts = (sizeof_both keyword s ts).both
    unary_by_both openings.Extension s ts = (extension_both n gap inner other m room wide less wider s ts).both
    unary_by_both (openings.Name name) s ts =
        both_if (names_type s name) _ _ _ _ (refused _ ts)
        (primary_both n gap inner other m room wide less wider (λ token. name_use token name) s ts).both
    unary_by_both openings.Number s ts = (primary_both n gap inner other m room wide less wider number_use s ts).both
    unary_by_both openings.Char s ts = (primary_both n gap inner other m room wide less wider char_use s ts).both
    unary_by_both openings.Text s ts = (text_both n gap inner other m room wide less wider s ts).both
    unary_by_both openings.Paren s ts = (opened_both n gap inner other m room wide less wider false s ts).both
    unary_by_both openings.VaArg s ts = (va_arg_both n gap inner other m room wide less wider s ts).both
    unary_by_both openings.VaStart s ts = (va_two_both n gap inner other m room wide less wider va_start s ts).both
    unary_by_both openings.VaCopy s ts = (va_two_both n gap inner other m room wide less wider va_copy s ts).both
    unary_by_both openings.Offset s ts = (offset_both n gap inner other m room wide less wider s ts).both
    unary_by_both openings.Part s ts = (part_both n gap inner other m room wide less wider s ts).both
    unary_by_both openings.Label s ts = label_use_both n gap inner other m room wide less wider s ts
    unary_by_both openings.Compat s ts = (compat_both n gap inner other m room wide less wider s ts).both
    unary_by_both openings.Choose s ts = (choose_both n gap inner other m room wide less wider s ts).both
    unary_by_both openings.Generic s ts = (generic_both s ts).both
    unary_by_both openings.Nothing s ts = refused _ ts

    -- a unary form takes the token that begins it
    unary_by_past : (opening : Opening) (s : HeldScopes) (ts : List Lexeme) → is_opening s opening ≡ true
        → Late (behind_first ts) (unary_by other opening wide s ts)
    unfolding unary_by
    unary_by_past (openings.Prefix p reach) s ts is =
        (prefix_both n gap inner other m room wide less wider {D = ⊥} p reach s ts).past
    unary_by_past (openings.Sizeof keyword) s ts is = (sizeof_both {D = ⊥} keyword s ts).past
    unary_by_past openings.Extension s ts is =
        (extension_both n gap inner other m room wide less wider {D = ⊥} s ts).past
    unary_by_past (openings.Name name) s ts is =
        late_if (behind_first ts) (names_type s name) _ _ (λ on. absurd (not_true (names_type s name) is on)) (λ off.
        (primary_both n gap inner other m room wide less wider {D = ⊥} (λ token. name_use token name) s ts).past)
    unary_by_past openings.Number s ts is =
        (primary_both n gap inner other m room wide less wider {D = ⊥} number_use s ts).past
    unary_by_past openings.Char s ts is =
        (primary_both n gap inner other m room wide less wider {D = ⊥} char_use s ts).past
    unary_by_past openings.Text s ts is = (text_both n gap inner other m room wide less wider {D = ⊥} s ts).past
    unary_by_past openings.Paren s ts is =
        (opened_both n gap inner other m room wide less wider {D = ⊥} false s ts).past
    unary_by_past openings.VaArg s ts is = (va_arg_both n gap inner other m room wide less wider {D = ⊥} s ts).past
    unary_by_past openings.VaStart s ts is =
        (va_two_both n gap inner other m room wide less wider {D = ⊥} va_start s ts).past
    unary_by_past openings.VaCopy s ts is =
        (va_two_both n gap inner other m room wide less wider {D = ⊥} va_copy s ts).past
    unary_by_past openings.Offset s ts is = (offset_both n gap inner other m room wide less wider {D = ⊥} s ts).past
    unary_by_past openings.Part s ts is = (part_both n gap inner other m room wide less wider {D = ⊥} s ts).past
    unary_by_past openings.Label s ts is = label_use_past n gap inner other m room wide less wider s ts is
    unary_by_past openings.Compat s ts is = (compat_both n gap inner other m room wide less wider {D = ⊥} s ts).past
    unary_by_past openings.Choose s ts is = (choose_both n gap inner other m room wide less wider {D = ⊥} s ts).past
    unary_by_past openings.Generic s ts is = (generic_both {D = ⊥} s ts).past
    unary_by_past openings.Nothing s ts is = absurd cc

    unary_both : {D : Type 0} (s : HeldScopes) (ts : List Lexeme)
        → Both S D ts (unary_with inner room s ts) (unary_with other wide s ts)
    unfolding unary_with
    unary_both s ts = unary_by_both (opening_of (kind_at ts)) s ts

    cast_both : {D : Type 0} (s : HeldScopes) (ts : List Lexeme)
        → Both S D ts (cast_with inner room s ts) (cast_with other wide s ts)
    unfolding cast_with
    cast_both s ts =
        both_if (is_open_paren (kind_at ts)) _ _ _ _
        (opened_both n gap inner other m room wide less wider true s ts).both (unary_both s ts)

    cast_past : (s : HeldScopes) (ts : List Lexeme) → begins_expr s (kind_at ts) ≡ true
        → Late (behind_first ts) (cast_with other wide s ts)
    unfolding cast_with unary_with
    cast_past s ts is =
        late_if (behind_first ts) (is_open_paren (kind_at ts)) _ _
        (λ on. (opened_both n gap inner other m room wide less wider {D = ⊥} true s ts).past)
        (λ off. unary_by_past (opening_of (kind_at ts)) s ts is)

  -- rows of operands and operators

  operand_both : {D : Type 0} (begun : Begun) (room wide : ℕ) → room < suc n → Near gap room wide
      → (s : HeldScopes) (ts : List Lexeme)
      → Both S D ts (operand_with inner begun room s ts) (operand_with other begun wide s ts)
  unfolding operand_with
  operand_both nothing room wide less wider s ts = cast_both room wide less wider s ts
  operand_both (extensions tokens) room wide less wider s ts =
      both_bind _ _ _ _ (cast_both (room - length tokens) (wide - length tokens) (omega (arith, less))
      (omega (arith, wider)) s ts) (λ e. ready _)
  operand_both (star token) room wide less wider s ts =
      both_bind _ _ _ _ (cast_both (room - 1) (wide - 1) (omega (arith, less)) (omega (arith, wider)) s ts)
      (λ e. ready _)

  module _ (room wide : ℕ) (less : room < suc n) (wider : Near gap room wide) where
    operation_both : {D : Type 0} (op : Operator) (left : Settled) (s : HeldScopes) (ts : List Lexeme)
        → Both S D ts (operation_with inner op left room s ts) (operation_with other op left wide s ts)
    operation_both op left s ts =
        both_asks (depth_of left + expr_height left.last) room wide s ts _ _ wider.0
        (λ token. both_bind _ _ _ _ (cast_both (room - depth_of left) (wide - depth_of left) (omega (arith, less))
        (omega (arith, wider)) token.scopes token.rest) (λ e. ready _))

    question_both : {D : Type 0} (left : Settled) (s : HeldScopes) (ts : List Lexeme)
        → Both S D ts (question_with inner left room s ts) (question_with other left wide s ts)
    unfolding middle_with
    question_both left s ts =
        both_asks (depth_of left + expr_height left.last) room wide s ts _ _ wider.0
        (λ token. both_bind _ _ _ _
        (both_if (is_colon (kind_at token.rest)) _ _ _ _ (ready _)
        (both_bind _ _ _ _ (when (λ fit. lower left fit) (m.exprs Whole nothing (room - depth_of left)
        (wide - depth_of left) (omega (arith, wider)) token.scopes token.rest)) (λ e. ready _)))
        (λ middle. both_then _ _ _ (late_token is_colon middle.scopes middle.rest)
        (λ colon. both_bind _ _ _ _ (cast_both (room - depth_of left) (wide - depth_of left) (omega (arith, less))
        (omega (arith, wider)) colon.scopes colon.rest) (λ e. ready _))))
      where
        lower : (left : Settled) → depth_of left + expr_height left.last ≤ room → room - depth_of left < n
        lower left fit = let high = expr_high left.last in omega (arith, fit, high, less)

    operation_by_both : (D : Type 0) (reach : Reach) (infix_form : Infix) (row : OperandRow) (s : HeldScopes)
        (ts : List Lexeme)
        → BothTurn S D ts (operation_by inner reach room infix_form row s ts)
        (operation_by other reach wide infix_form row s ts)
    operation_by_both D reach infixes.Comma row s ts =
        both_guarded (takes_comma reach) _ _ (λ on. operation_both comma (settled row 0) s ts)
    operation_by_both D reach (infixes.Assign p) row s ts = by_level (nat_le 14 (expr_level (settled row 1).last))
      where
        by_reach : (c : Bool)
            → BothTurn S D ts (if c then Some (operation_with inner (assign p) (settled row 1) room s ts) else None)
            (if c then Some (operation_with other (assign p) (settled row 1) wide s ts) else None)
        by_reach true = operation_both (assign p) (settled row 1) s ts
        by_reach false = tt

        by_level : (b : Bool)
            → BothTurn S D ts (if b then (if takes_assign reach then Some
            (operation_with inner (assign p) (settled row 1) room s ts) else None) else Some (refuses BadTarget ts))
            (if b then (if takes_assign reach then Some (operation_with other (assign p) (settled row 1) wide s ts)
            else None) else Some (refuses BadTarget ts))
        by_level true = by_reach (takes_assign reach)
        by_level false = refused BadTarget ts
    operation_by_both D reach infixes.Question row s ts = question_both (settled row 2) s ts
    operation_by_both D reach (infixes.Binary p) row s ts =
        operation_both (binary p) (settled row (binary_level p + 2)) s ts
    operation_by_both D reach infixes.Nothing row s ts = tt

    operations_both : {D : Type 0} (reach : Reach) (row : OperandRow) (s : HeldScopes) (ts : List Lexeme)
        → Both S D ts (run (operation_turn inner reach room) row s ts) (run (operation_turn other reach wide) row s ts)
    operations_both {D} reach row s ts =
        both_run (operation_turn inner reach room) (operation_turn other reach wide)
        (λ row s ts. operation_by_both D reach (infix_of (kind_at ts)) row s ts) row s ts

    row_both : {D : Type 0} (reach : Reach) (begun : Begun) (s : HeldScopes) (ts : List Lexeme)
        → Both S D ts (row_with inner reach begun room s ts) (row_with other reach begun wide s ts)
    unfolding row_with
    row_both reach begun s ts =
        both_bind _ _ _ _ (operand_both begun room wide less wider s ts)
        (λ e. both_bind _ _ _ _ (operations_both reach _ e.scopes e.rest) (λ row. ready _))

    row_past : (reach : Reach) (s : HeldScopes) (ts : List Lexeme) → begins_expr s (kind_at ts) ≡ true
        → Late (behind_first ts) (row_with other reach nothing wide s ts)
    unfolding row_with operand_with
    row_past reach s ts is =
        late_bind (behind_first ts) _ _ (cast_past room wide less wider s ts is)
        (λ e. late_bind e.rest _ _ (operations_both {D = ⊥} reach _ e.scopes e.rest).late (λ row. all_left row.rest))

    pub expr_both : {D : Type 0} (reach : Reach) (begun : Begun) (s : HeldScopes) (ts : List Lexeme)
        → Both S D ts (expr_with inner reach begun room s ts) (expr_with other reach begun wide s ts)
    unfolding expr_with
    expr_both Whole begun s ts = row_both Whole begun s ts
    expr_both Assigned begun s ts = row_both Assigned begun s ts
    expr_both Conditional begun s ts = row_both Conditional begun s ts
    expr_both Castable begun s ts = operand_both begun room wide less wider s ts
    expr_both Unary begun s ts = unary_both room wide less wider s ts

    unary_past : (s : HeldScopes) (ts : List Lexeme) → is_open_paren (kind_at ts) ≡ true
        → Late (behind_first ts) (unary_with other wide s ts)
    unfolding unary_with
    unary_past s ts is =
        unary_by_past room wide less wider (opening_of (kind_at ts)) s ts (paren_begins (kind_at ts) is)
      where
        paren_begins : (kind : TokenKind) → is_open_paren kind ≡ true → is_opening s (opening_of kind) ≡ true
        paren_begins (kinds.Punct puncts.OpenParen) h = refl
        paren_begins (kinds.Punct p) h = absurd cc
        paren_begins kind h = absurd cc

    pub expr_past : (s : HeldScopes) (ts : List Lexeme) → is_open_paren (kind_at ts) ≡ true
        → Late (behind_first ts) (expr_with other Unary nothing wide s ts)
    unfolding expr_with
    expr_past s ts is = unary_past s ts is

    pub whole_past : (s : HeldScopes) (ts : List Lexeme) → begins_expr s (kind_at ts) ≡ true
        → Late (behind_first ts) (expr_with other Whole nothing wide s ts)
    unfolding expr_with
    whole_past s ts is = row_past Whole s ts is

    pub assigned_past : (s : HeldScopes) (ts : List Lexeme) → begins_expr s (kind_at ts) ≡ true
        → Late (behind_first ts) (expr_with other Assigned nothing wide s ts)
    unfolding expr_with
    assigned_past s ts is = row_past Assigned s ts is
