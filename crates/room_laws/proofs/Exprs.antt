-- Expressions with more room.
use Rattle.c_reading.specs.declared.kinds.Role.TheVariants.{Naming}
use Rattle.std.proofs.Common.{ℕ, suc, ◌+◌, ◌<◌, ◌≤◌, Bool, true, false, if◌then◌else◌, List, length, inr, Some, None, refl, arith}
use Rattle.std.specs.Prelude.{◌-◌, nat_le}
use Rattle.c_words.specs.declared.kinds.Punct.{Punct}
use Rattle.c_words.specs.declared.kinds.Keyword.{Keyword}
use Rattle.c_tree.specs.declared.lexeme.Lexeme.{Lexeme}
use Rattle.c_syntax.specs.declared.parts.Word.{Word}
use Rattle.c_tree.specs.Tree.{Expr, Operator, comma, assign, binary, va_start, va_copy, name_use, number_use, char_use}
use Rattle.c_tree.specs.Height.{expr_height}
use Rattle.c_tree.specs.Levels.{expr_level, binary_level}
use Rattle.c_units.specs.HeldScopes.{HeldScopes, names_type, is_wide}
use Rattle.c_ops.specs.Joining.{Settled}
use Rattle.c_reading.specs.declared.kinds.FaultKind.TheVariants.{BadTarget}
use Rattle.c_reading.specs.declared.kinds.Reach.{Reach}
use Rattle.c_reading.specs.declared.kinds.Reach.TheVariants.{Whole, Assigned, Conditional, Castable, Unary}
use Rattle.c_reading.specs.declared.kinds.Opening.{Opening}
use Rattle.c_reading.specs.declared.kinds.Opening.TheVariants as openings
use Rattle.c_reading.specs.declared.kinds.PostfixForm.{PostfixForm}
use Rattle.c_reading.specs.declared.kinds.PostfixForm.TheVariants as forms
use Rattle.c_reading.specs.declared.kinds.Infix.{Infix}
use Rattle.c_reading.specs.declared.kinds.Infix.TheVariants as infixes
use Rattle.c_reading.specs.Reading.{take_one, token_at, kind_at, behind_first, refuses}
use Rattle.c_reading.specs.Tokens.{is_open_paren, is_close_paren, is_comma, is_colon, is_open_brace, name_at, texts_at, is_default}
use Rattle.c_reading.specs.Parts.{Inner, Begun, nothing, extensions, star, TypeName, type_name_height}
use Rattle.c_reading.specs.Specifying.{begins_specs, begins_role}
use Rattle.c_reading.specs.Expressing.{is_dot, begins_desig, opening_of, form_of, infix_of, takes_comma, takes_assign, OperandRow, settled, depth_of, next_argument, arguments_with, index_with, call_with, dot_with, arrow_with, post_with, postfix_by, lowered, postfix_turn, postfixed, primary_with, text_with, compound_with, cast_behind, typed_behind, typed_with, statement_with, paren_with, opened_by, opened_with, prefix_with, extension_with, sizeof_value_with, sizeof_typed, sizeof_type_with, sizeof_behind, sizeof_with, va_arg_with, va_two_with, step_with, offset_with, unary_by, unary_with, cast_with, operand_with, operation_with, middle_with, question_with, operation_by, operation_turn, row_with, expr_with, part_with, label_use_with, compat_with, choose_with, default_assoc_with, typed_assoc_with, assoc_with, next_assoc, generic_with}
use Rattle.c_reading.proofs.SpecsCompleteBodies.{expr_high}
use Rattle.room_laws.specs.Rooms.{More, InnerMore}
use Rattle.room_laws.proofs.More.{more_same, more_bind, more_fits, more_if, MoreTurn, more_guarded, more_run, more_repeated, more_listed}

module _ (n : ℕ) (inner other : Inner) (m : InnerMore n inner other) (room wide : ℕ) (less : room < suc n)
    (wider : room ≤ wide) where
  inside : (reach : Reach) (begun : Begun) → 1 ≤ room → (s : HeldScopes) (ts : List Lexeme)
      → More (inner.expr reach begun (room - 1) s ts) (other.expr reach begun (wide - 1) s ts)
  inside reach begun one s ts =
      m.exprs reach begun (room - 1) (wide - 1) (omega (arith, less, one)) (omega (arith, wider)) s ts

  -- behind a token that is the same for both
  arguments_more : 1 ≤ room → (s : HeldScopes) (ts : List Lexeme)
      → More (arguments_with inner room s ts) (arguments_with other wide s ts)
  unfolding arguments_with next_argument
  arguments_more one s ts =
      more_if (is_close_paren (kind_at ts)) _ _ _ _ refl
      (more_bind _ _ _ _ (more_listed (inner.expr Assigned nothing (room - 1)) (other.expr Assigned nothing (wide - 1))
      (next_argument inner room) (next_argument other wide) s ts (inside Assigned nothing one s ts)
      (λ x is token s ts. more_bind _ _ _ _ (inside Assigned nothing one s ts) (λ e. refl))) (λ es. refl))

  index_more : (e : Expr) → 1 ≤ room → (s : HeldScopes) (ts : List Lexeme)
      → More (index_with inner e room s ts) (index_with other e wide s ts)
  unfolding index_with
  index_more e one s ts =
      more_bind _ _ _ _ (more_same (take_one s ts))
      (λ opening. more_bind _ _ _ _ (inside Whole nothing one opening.scopes opening.rest) (λ e. more_same _))

  call_more : (e : Expr) → 1 ≤ room → (s : HeldScopes) (ts : List Lexeme)
      → More (call_with inner e room s ts) (call_with other e wide s ts)
  unfolding call_with
  call_more e one s ts =
      more_bind _ _ _ _ (more_same (take_one s ts))
      (λ opening. more_bind _ _ _ _ (arguments_more one opening.scopes opening.rest) (λ es. more_same _))

  postfix_more : (e : Expr) (s : HeldScopes) (ts : List Lexeme)
      → MoreTurn (postfix_turn inner room e s ts) (postfix_turn other wide e s ts)
  unfolding dot_with arrow_with post_with
  postfix_more e s ts = by_form (form_of (kind_at ts))
    where
      by_form : (form : PostfixForm)
          → MoreTurn (lowered inner (expr_height e) room ts (postfix_by inner form room e s ts))
          (lowered other (expr_height e) wide ts (postfix_by other form wide e s ts))
      by_form forms.Index =
          more_fits (suc (expr_height e)) room wide ts _ _ wider (λ fit. index_more e (omega (arith, fit)) s ts)
      by_form forms.Call =
          more_fits (suc (expr_height e)) room wide ts _ _ wider (λ fit. call_more e (omega (arith, fit)) s ts)
      by_form forms.Dot = more_fits (suc (expr_height e)) room wide ts _ _ wider (λ fit. more_same _)
      by_form forms.Arrow = more_fits (suc (expr_height e)) room wide ts _ _ wider (λ fit. more_same _)
      by_form (forms.Post p) = more_fits (suc (expr_height e)) room wide ts _ _ wider (λ fit. more_same _)
      by_form forms.Nothing = tt

  postfixed_more : (e : Expr) (s : HeldScopes) (ts : List Lexeme)
      → More (postfixed inner room e s ts) (postfixed other wide e s ts)
  unfolding postfixed
  postfixed_more e s ts = more_run (postfix_turn inner room) (postfix_turn other wide) postfix_more e s ts

  primary_more : (make : ℕ → Expr) (s : HeldScopes) (ts : List Lexeme)
      → More (primary_with inner make room s ts) (primary_with other make wide s ts)
  primary_more make s ts =
      more_fits 1 room wide ts _ _ wider (λ fit.
      more_bind _ _ _ _ (more_same (take_one s ts)) (λ token. postfixed_more (make token.tree) token.scopes token.rest))

  text_more : (s : HeldScopes) (ts : List Lexeme) → More (text_with inner room s ts) (text_with other wide s ts)
  unfolding text_with
  text_more s ts =
      more_fits 1 room wide ts _ _ wider (λ fit. more_bind _ _ _ _ (more_same (take_one s ts)) (λ token. more_bind _ _ _
      _ (more_same (texts_at token.scopes token.rest)) (λ texts. postfixed_more _ texts.scopes texts.rest)))

  compound_more : (opening : ℕ) (t : TypeName) (closing : ℕ) → 1 ≤ room → (s : HeldScopes) (ts : List Lexeme)
      → More (compound_with inner opening t closing room s ts) (compound_with other opening t closing wide s ts)
  unfolding compound_with
  compound_more opening t closing one s ts =
      more_bind _ _ _ _ (m.lists (room - 1) (wide - 1) (omega (arith, less, one)) (omega (arith, wider)) s ts)
      (λ list. postfixed_more _ list.scopes list.rest)

  typed_more : (casts : Bool) (opening : ℕ) → 2 ≤ room → (s : HeldScopes) (ts : List Lexeme)
      → More (typed_with inner casts opening room s ts) (typed_with other casts opening wide s ts)
  unfolding typed_with typed_behind cast_behind
  typed_more casts opening two s ts =
      more_bind _ _ _ _ (m.types (room - 1) (wide - 1) (omega (arith, less, two)) (omega (arith, two))
      (omega (arith, wider)) s ts) (λ t. more_bind _ _ _ _ (more_same (token_at is_close_paren t.scopes t.rest))
      (λ closing. more_if (is_open_brace (kind_at closing.rest)) _ _ _ _
      (compound_more opening t.tree closing.tree (omega (arith, two)) closing.scopes closing.rest)
      (more_if casts _ _ _ _ (more_bind _ _ _ _
      (inside Castable nothing (omega (arith, two)) closing.scopes closing.rest) (λ e. refl)) (inr refl))))

  opened_more : (casts : Bool) (s : HeldScopes) (ts : List Lexeme)
      → More (opened_with inner casts room s ts) (opened_with other casts wide s ts)
  unfolding opened_with opened_by statement_with paren_with
  opened_more casts s ts =
      more_fits 2 room wide ts _ _ wider (λ two. more_bind _ _ _ _ (more_same (take_one s ts))
      (λ opening. more_if (begins_specs opening.scopes (kind_at opening.rest)) _ _ _ _
      (typed_more casts opening.tree two opening.scopes opening.rest)
      (more_if (is_open_brace (kind_at opening.rest)) _ _ _ _
      (more_bind _ _ _ _
      (m.blocks (room - 1) (wide - 1) (omega (arith, less, two)) (omega (arith, wider)) opening.scopes opening.rest)
      (λ block. more_bind _ _ _ _ (more_same (token_at is_close_paren block.scopes block.rest))
      (λ closing. postfixed_more _ closing.scopes closing.rest)))
      (more_bind _ _ _ _ (inside Whole nothing (omega (arith, two)) opening.scopes opening.rest)
      (λ e. more_bind _ _ _ _ (more_same (token_at is_close_paren e.scopes e.rest))
      (λ closing. postfixed_more _ closing.scopes closing.rest))))))

  prefix_more : (p : Punct) (reach : Reach) (s : HeldScopes) (ts : List Lexeme)
      → More (prefix_with inner p reach room s ts) (prefix_with other p reach wide s ts)
  unfolding prefix_with
  prefix_more p reach s ts =
      more_fits 2 room wide ts _ _ wider (λ two. more_bind _ _ _ _ (more_same (take_one s ts)) (λ token.
      more_bind _ _ _ _ (inside reach nothing (omega (arith, two)) token.scopes token.rest) (λ e. refl)))

  extension_more : (s : HeldScopes) (ts : List Lexeme)
      → More (extension_with inner room s ts) (extension_with other wide s ts)
  unfolding extension_with
  extension_more s ts =
      more_fits 2 room wide ts _ _ wider (λ two. more_bind _ _ _ _ (more_same (take_one s ts)) (λ token.
      more_bind _ _ _ _ (inside Castable nothing (omega (arith, two)) token.scopes token.rest) (λ e. refl)))

  value_more : (word : Word) → 1 ≤ room → (s : HeldScopes) (ts : List Lexeme)
      → More (sizeof_value_with inner word room s ts) (sizeof_value_with other word wide s ts)
  unfolding sizeof_value_with
  value_more word one s ts = more_bind _ _ _ _ (inside Unary nothing one s ts) (λ e. refl)

  va_arg_more : (s : HeldScopes) (ts : List Lexeme) → More (va_arg_with inner room s ts) (va_arg_with other wide s ts)
  unfolding va_arg_with
  va_arg_more s ts =
      more_fits 3 room wide ts _ _ wider (λ three. more_bind _ _ _ _ (more_same (take_one s ts)) (λ keyword.
      more_bind _ _ _ _ (more_same (token_at is_open_paren keyword.scopes keyword.rest))
      (λ opening. more_bind _ _ _ _ (inside Assigned nothing (omega (arith, three)) opening.scopes opening.rest) (λ e.
      more_bind _ _ _ _ (more_same (token_at is_comma e.scopes e.rest))
      (λ separator. more_bind _ _ _ _ (m.types (room - 1) (wide - 1) (omega (arith, less, three)) (omega (arith, three))
      (omega (arith, wider)) separator.scopes separator.rest)
      (λ t. more_bind _ _ _ _ (more_same (token_at is_close_paren t.scopes t.rest))
      (λ closing. postfixed_more _ closing.scopes closing.rest)))))))

  va_two_more : (make : ℕ → ℕ → Expr → ℕ → Expr → ℕ → Expr) (s : HeldScopes) (ts : List Lexeme)
      → More (va_two_with inner make room s ts) (va_two_with other make wide s ts)
  unfolding va_two_with
  va_two_more make s ts =
      more_fits 2 room wide ts _ _ wider (λ two. more_bind _ _ _ _ (more_same (take_one s ts)) (λ keyword.
      more_bind _ _ _ _ (more_same (token_at is_open_paren keyword.scopes keyword.rest))
      (λ opening. more_bind _ _ _ _ (inside Assigned nothing (omega (arith, two)) opening.scopes opening.rest) (λ e.
      more_bind _ _ _ _ (more_same (token_at is_comma e.scopes e.rest))
      (λ separator. more_bind _ _ _ _ (inside Assigned nothing (omega (arith, two)) separator.scopes separator.rest)
      (λ e2. more_bind _ _ _ _ (more_same (token_at is_close_paren e2.scopes e2.rest))
      (λ closing. postfixed_more _ closing.scopes closing.rest)))))))

  step_more : 1 ≤ room → (s : HeldScopes) (ts : List Lexeme)
      → More (step_with inner room s ts) (step_with other wide s ts)
  unfolding step_with
  step_more one s ts =
      more_if (is_dot (kind_at ts)) _ _ _ _ (more_same _) (more_bind _ _ _ _ (more_same (take_one s ts)) (λ opening.
      more_bind _ _ _ _ (inside Whole nothing one opening.scopes opening.rest) (λ e. more_same _)))

  offset_more : (s : HeldScopes) (ts : List Lexeme) → More (offset_with inner room s ts) (offset_with other wide s ts)
  unfolding offset_with
  offset_more s ts =
      more_fits 3 room wide ts _ _ wider (λ three. more_bind _ _ _ _ (more_same (take_one s ts)) (λ keyword.
      more_bind _ _ _ _ (more_same (token_at is_open_paren keyword.scopes keyword.rest))
      (λ opening. more_bind _ _ _ _ (m.types (room - 1) (wide - 1) (omega (arith, less, three)) (omega (arith, three))
      (omega (arith, wider)) opening.scopes opening.rest)
      (λ t. more_bind _ _ _ _ (more_same (token_at is_comma t.scopes t.rest)) (λ separator.
      more_bind _ _ _ _ (more_same (name_at separator.scopes separator.rest))
      (λ name. more_bind _ _ _ _ (more_repeated begins_desig (step_with inner room) (step_with other wide)
      (step_more (omega (arith, three))) name.scopes name.rest)
      (λ steps. more_bind _ _ _ _ (more_same (token_at is_close_paren steps.scopes steps.rest))
      (λ closing. postfixed_more _ closing.scopes closing.rest))))))))

  part_more : (s : HeldScopes) (ts : List Lexeme) → More (part_with inner room s ts) (part_with other wide s ts)
  unfolding part_with
  part_more s ts =
      more_fits 2 room wide ts _ _ wider (λ two. more_bind _ _ _ _ (more_same (take_one s ts))
      (λ token. more_bind _ _ _ _ (inside Castable nothing (omega (arith, two)) token.scopes token.rest) (λ e. refl)))

  label_use_more : (s : HeldScopes) (ts : List Lexeme)
      → More (label_use_with inner room s ts) (label_use_with other wide s ts)
  unfolding label_use_with
  label_use_more s ts = more_if (is_wide s) _ _ _ _ (more_fits 1 room wide ts _ _ wider (λ one. more_same _)) (inr refl)

  compat_more : (s : HeldScopes) (ts : List Lexeme) → More (compat_with inner room s ts) (compat_with other wide s ts)
  unfolding compat_with
  compat_more s ts =
      more_fits 3 room wide ts _ _ wider (λ three. more_bind _ _ _ _ (more_same (take_one s ts))
      (λ keyword. more_bind _ _ _ _ (more_same (token_at is_open_paren keyword.scopes keyword.rest))
      (λ opening. more_bind _ _ _ _
      (m.types (room - 1) (wide - 1) (omega (arith, less, three)) (omega (arith, three))
      (omega (arith, wider)) opening.scopes opening.rest)
      (λ t. more_bind _ _ _ _ (more_same (token_at is_comma t.scopes t.rest))
      (λ separator. more_bind _ _ _ _
      (m.types (room - 1) (wide - 1) (omega (arith, less, three)) (omega (arith, three))
      (omega (arith, wider)) separator.scopes separator.rest)
      (λ t2. more_bind _ _ _ _ (more_same (token_at is_close_paren t2.scopes t2.rest))
      (λ closing. postfixed_more _ closing.scopes closing.rest)))))))

  choose_more : (s : HeldScopes) (ts : List Lexeme) → More (choose_with inner room s ts) (choose_with other wide s ts)
  unfolding choose_with
  choose_more s ts =
      more_fits 2 room wide ts _ _ wider (λ two. more_bind _ _ _ _ (more_same (take_one s ts))
      (λ keyword. more_bind _ _ _ _ (more_same (token_at is_open_paren keyword.scopes keyword.rest))
      (λ opening. more_bind _ _ _ _ (inside Assigned nothing (omega (arith, two)) opening.scopes opening.rest)
      (λ e. more_bind _ _ _ _ (more_same (token_at is_comma e.scopes e.rest))
      (λ separator. more_bind _ _ _ _ (inside Assigned nothing (omega (arith, two)) separator.scopes separator.rest)
      (λ e2. more_bind _ _ _ _ (more_same (token_at is_comma e2.scopes e2.rest))
      (λ separator2. more_bind _ _ _ _ (inside Assigned nothing (omega (arith, two)) separator2.scopes separator2.rest)
      (λ e3. more_bind _ _ _ _ (more_same (token_at is_close_paren e3.scopes e3.rest))
      (λ closing. postfixed_more _ closing.scopes closing.rest)))))))))

  -- an association, by whether it has a type

  assoc_more : (s : HeldScopes) (ts : List Lexeme) → More (assoc_with inner room s ts) (assoc_with other wide s ts)
  unfolding assoc_with default_assoc_with typed_assoc_with
  assoc_more s ts =
      more_if (is_default (kind_at ts)) _ _ _ _
      (more_fits 2 room wide ts _ _ wider (λ two. more_bind _ _ _ _ (more_same (take_one s ts))
      (λ keyword. more_bind _ _ _ _ (more_same (token_at is_colon keyword.scopes keyword.rest))
      (λ colon. more_bind _ _ _ _ (inside Assigned nothing (omega (arith, two)) colon.scopes colon.rest) (λ e. refl)))))
      (more_if (begins_role Naming s (kind_at ts)) _ _ _ _
      (more_fits 3 room wide ts _ _ wider (λ three. more_bind _ _ _ _
      (m.types (room - 1) (wide - 1) (omega (arith, less, three)) (omega (arith, three)) (omega (arith, wider)) s ts)
      (λ t. more_bind _ _ _ _ (more_same (token_at is_colon t.scopes t.rest))
      (λ colon.
      more_bind _ _ _ _ (inside Assigned nothing (omega (arith, three)) colon.scopes colon.rest) (λ e. refl)))))
      (inr refl))

  next_assoc_more : (token : ℕ) (s : HeldScopes) (ts : List Lexeme)
      → More (next_assoc inner room token s ts) (next_assoc other wide token s ts)
  unfolding next_assoc
  next_assoc_more token s ts = more_bind _ _ _ _ (assoc_more s ts) (λ x. refl)

module _ (n : ℕ) (inner other : Inner) (m : InnerMore n inner other) where
  module _ (room wide : ℕ) (less : room < suc n) (wider : room ≤ wide) where
    generic_more : (s : HeldScopes) (ts : List Lexeme)
        → More (generic_with inner room s ts) (generic_with other wide s ts)
    unfolding generic_with
    generic_more s ts =
        more_fits 3 room wide ts _ _ wider (λ three. more_bind _ _ _ _ (more_same (take_one s ts))
        (λ keyword. more_bind _ _ _ _ (more_same (token_at is_open_paren keyword.scopes keyword.rest))
        (λ opening. more_bind _ _ _ _ (inside n inner other m room wide less wider Assigned nothing
        (omega (arith, three)) opening.scopes opening.rest)
        (λ e. more_bind _ _ _ _ (more_same (token_at is_comma e.scopes e.rest))
        (λ separator. more_bind _ _ _ _
        (more_listed (assoc_with inner (room - 1)) (assoc_with other (wide - 1)) (next_assoc inner (room - 1))
        (next_assoc other (wide - 1)) separator.scopes separator.rest
        (assoc_more n inner other m (room - 1) (wide - 1) (omega (arith, less))
        (omega (arith, wider)) separator.scopes separator.rest)
        (λ x is token s ts.
        next_assoc_more n inner other m (room - 1) (wide - 1) (omega (arith, less)) (omega (arith, wider)) token s ts))
        (λ xs. more_bind _ _ _ _ (more_same (token_at is_close_paren xs.scopes xs.rest))
        (λ closing. postfixed_more n inner other m room wide less wider _ closing.scopes closing.rest)))))))

    -- behind a type's name in parentheses a compound literal stands one level lower
    sizeof_typed_more : (word : Word) (opening : ℕ) (t : TypeName) (closing : ℕ) (s : HeldScopes) (ts : List Lexeme)
        → More (sizeof_typed inner word opening t closing room s ts)
        (sizeof_typed other word opening t closing wide s ts)
    unfolding sizeof_typed
    sizeof_typed_more word opening t closing s ts =
        more_if (is_open_brace (kind_at ts)) _ _ _ _
        (more_fits (2 + type_name_height t) room wide ts _ _ wider (λ fit. more_bind _ _ _ _
        (compound_more n inner other m (room - 1) (wide - 1) (omega (arith, less)) (omega (arith, wider)) opening t
        closing (let high = type_high t in omega (arith, fit, high)) s ts) (λ e. refl))) refl
      where
        type_high : (t : TypeName) → 1 ≤ type_name_height t
        type_high t = omega arith

    sizeof_more : (keyword : Keyword) (s : HeldScopes) (ts : List Lexeme)
        → More (sizeof_with inner keyword room s ts) (sizeof_with other keyword wide s ts)
    unfolding sizeof_with sizeof_behind sizeof_type_with
    sizeof_more keyword s ts =
        more_fits 2 room wide ts _ _ wider (λ two. more_bind _ _ _ _ (more_same (take_one s ts))
        (λ token. more_if (is_open_paren (kind_at token.rest)) _ _ _ _
        (more_fits 3 room wide token.rest _ _ wider (λ three.
        more_if (begins_specs token.scopes (kind_at (behind_first token.rest))) _ _ _ _
        (more_bind _ _ _ _ (more_same (take_one token.scopes token.rest)) (λ opening.
        more_bind _ _ _ _ (m.types (room - 1) (wide - 1) (omega (arith, less, three)) (omega (arith, three))
        (omega (arith, wider)) opening.scopes opening.rest)
        (λ t. more_bind _ _ _ _ (more_same (token_at is_close_paren t.scopes t.rest)) (λ closing.
        sizeof_typed_more _ opening.tree t.tree closing.tree closing.scopes closing.rest))))
        (value_more n inner other m room wide less wider _ (omega (arith, two)) token.scopes token.rest)))
        (value_more n inner other m room wide less wider _ (omega (arith, two)) token.scopes token.rest)))

    unary_by_more : (opening : Opening) (s : HeldScopes) (ts : List Lexeme)
        → More (unary_by inner opening room s ts) (unary_by other opening wide s ts)
    unfolding unary_by
    unary_by_more (openings.Prefix p reach) s ts = prefix_more n inner other m room wide less wider p reach s ts
    unary_by_more (openings.Sizeof keyword) s ts = sizeof_more keyword s ts
    unary_by_more openings.Extension s ts = extension_more n inner other m room wide less wider s ts
    unary_by_more (openings.Name name) s ts =
        more_if (names_type s name) _ _ _ _ (inr refl)
        (primary_more n inner other m room wide less wider (λ token. name_use token name) s ts)
    unary_by_more openings.Number s ts = primary_more n inner other m room wide less wider number_use s ts
    unary_by_more openings.Char s ts = primary_more n inner other m room wide less wider char_use s ts
    unary_by_more openings.Text s ts = text_more n inner other m room wide less wider s ts
    unary_by_more openings.Paren s ts = opened_more n inner other m room wide less wider false s ts
    unary_by_more openings.VaArg s ts = va_arg_more n inner other m room wide less wider s ts
    unary_by_more openings.VaStart s ts = va_two_more n inner other m room wide less wider va_start s ts
    unary_by_more openings.VaCopy s ts = va_two_more n inner other m room wide less wider va_copy s ts
    unary_by_more openings.Offset s ts = offset_more n inner other m room wide less wider s ts
    unary_by_more openings.Part s ts = part_more n inner other m room wide less wider s ts
    unary_by_more openings.Label s ts = label_use_more n inner other m room wide less wider s ts
    unary_by_more openings.Compat s ts = compat_more n inner other m room wide less wider s ts
    unary_by_more openings.Choose s ts = choose_more n inner other m room wide less wider s ts
    unary_by_more openings.Generic s ts = generic_more s ts
    unary_by_more openings.Nothing s ts = inr refl

    unary_more : (s : HeldScopes) (ts : List Lexeme) → More (unary_with inner room s ts) (unary_with other wide s ts)
    unfolding unary_with
    unary_more s ts = unary_by_more (opening_of (kind_at ts)) s ts

    cast_more : (s : HeldScopes) (ts : List Lexeme) → More (cast_with inner room s ts) (cast_with other wide s ts)
    unfolding cast_with
    cast_more s ts =
        more_if (is_open_paren (kind_at ts)) _ _ _ _ (opened_more n inner other m room wide less wider true s ts)
        (unary_more s ts)

  -- rows of operands and operators

  operand_more : (begun : Begun) (room wide : ℕ) → room < suc n → room ≤ wide → (s : HeldScopes) (ts : List Lexeme)
      → More (operand_with inner begun room s ts) (operand_with other begun wide s ts)
  unfolding operand_with
  operand_more nothing room wide less wider s ts = cast_more room wide less wider s ts
  operand_more (extensions tokens) room wide less wider s ts =
      more_bind _ _ _ _ (cast_more (room - length tokens) (wide - length tokens) (omega (arith, less))
      (omega (arith, wider)) s ts) (λ e. refl)
  operand_more (star token) room wide less wider s ts =
      more_bind _ _ _ _ (cast_more (room - 1) (wide - 1) (omega (arith, less)) (omega (arith, wider)) s ts) (λ e. refl)

  module _ (room wide : ℕ) (less : room < suc n) (wider : room ≤ wide) where
    operation_more : (op : Operator) (left : Settled) (s : HeldScopes) (ts : List Lexeme)
        → More (operation_with inner op left room s ts) (operation_with other op left wide s ts)
    operation_more op left s ts =
        more_fits (depth_of left + expr_height left.last) room wide ts _ _ wider (λ fit.
        more_bind _ _ _ _ (more_same (take_one s ts))
        (λ token. more_bind _ _ _ _ (cast_more (room - depth_of left) (wide - depth_of left) (omega (arith, less))
        (omega (arith, wider)) token.scopes token.rest) (λ e. refl)))

    question_more : (left : Settled) (s : HeldScopes) (ts : List Lexeme)
        → More (question_with inner left room s ts) (question_with other left wide s ts)
    unfolding middle_with
    question_more left s ts =
        more_fits (depth_of left + expr_height left.last) room wide ts _ _ wider (λ fit.
        more_bind _ _ _ _ (more_same (take_one s ts))
        (λ token. more_bind _ _ _ _
        (more_if (is_colon (kind_at token.rest)) _ _ _ _ refl
        (more_bind _ _ _ _ (m.exprs Whole nothing (room - depth_of left) (wide - depth_of left) (lower left fit)
        (omega (arith, wider)) token.scopes token.rest) (λ e. refl)))
        (λ middle. more_bind _ _ _ _ (more_same (token_at is_colon middle.scopes middle.rest))
        (λ colon. more_bind _ _ _ _ (cast_more (room - depth_of left) (wide - depth_of left) (omega (arith, less))
        (omega (arith, wider)) colon.scopes colon.rest) (λ e. refl)))))
      where
        lower : (left : Settled) → depth_of left + expr_height left.last ≤ room → room - depth_of left < n
        lower left fit = let high = expr_high left.last in omega (arith, fit, high, less)

    operation_by_more : (reach : Reach) (infix_form : Infix) (row : OperandRow) (s : HeldScopes) (ts : List Lexeme)
        → MoreTurn (operation_by inner reach room infix_form row s ts)
        (operation_by other reach wide infix_form row s ts)
    operation_by_more reach infixes.Comma row s ts =
        more_guarded (takes_comma reach) _ _ (operation_more comma (settled row 0) s ts)
    operation_by_more reach (infixes.Assign p) row s ts = by_level (nat_le 14 (expr_level (settled row 1).last))
      where
        by_reach : (c : Bool)
            → MoreTurn (if c then Some (operation_with inner (assign p) (settled row 1) room s ts) else None)
            (if c then Some (operation_with other (assign p) (settled row 1) wide s ts) else None)
        by_reach true = operation_more (assign p) (settled row 1) s ts
        by_reach false = tt

        by_level : (b : Bool)
            → MoreTurn (if b then (if takes_assign reach then Some
            (operation_with inner (assign p) (settled row 1) room s ts) else None) else Some (refuses BadTarget ts))
            (if b then (if takes_assign reach then Some (operation_with other (assign p) (settled row 1) wide s ts)
            else None) else Some (refuses BadTarget ts))
        by_level true = by_reach (takes_assign reach)
        by_level false = inr refl
    operation_by_more reach infixes.Question row s ts = question_more (settled row 2) s ts
    operation_by_more reach (infixes.Binary p) row s ts =
        operation_more (binary p) (settled row (binary_level p + 2)) s ts
    operation_by_more reach infixes.Nothing row s ts = tt

    row_more : (reach : Reach) (begun : Begun) (s : HeldScopes) (ts : List Lexeme)
        → More (row_with inner reach begun room s ts) (row_with other reach begun wide s ts)
    unfolding row_with
    row_more reach begun s ts =
        more_bind _ _ _ _ (operand_more begun room wide less wider s ts) (λ e. more_bind _ _ _ _
        (more_run (operation_turn inner reach room) (operation_turn other reach wide)
        (λ row s ts. operation_by_more reach (infix_of (kind_at ts)) row s ts) _ e.scopes e.rest) (λ row. refl))

    pub expr_more : (reach : Reach) (begun : Begun) (s : HeldScopes) (ts : List Lexeme)
        → More (expr_with inner reach begun room s ts) (expr_with other reach begun wide s ts)
    unfolding expr_with
    expr_more Whole begun s ts = row_more Whole begun s ts
    expr_more Assigned begun s ts = row_more Assigned begun s ts
    expr_more Conditional begun s ts = row_more Conditional begun s ts
    expr_more Castable begun s ts = operand_more begun room wide less wider s ts
    expr_more Unary begun s ts = unary_more room wide less wider s ts
