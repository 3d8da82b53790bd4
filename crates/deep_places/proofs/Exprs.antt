-- Bounds of the readers of expressions.
use Rattle.std.proofs.Common.{◌≡◌, ℕ, suc, ◌+◌, ◌≤◌, Bool, true, false, if◌then◌else◌, List, [], ◌∷◌, length, Some, None, refl, arith}
use Rattle.std.specs.Prelude.{◌*◌, ◌-◌, max, nat_le}
use Rattle.c_words.specs.declared.kinds.Punct.{Punct}
use Rattle.c_words.specs.declared.kinds.Keyword.{Keyword}
use Rattle.c_syntax.specs.declared.parts.Word.{Word}
use Rattle.c_tree.specs.Tree.{Expr, label_use, compat, choose, generic, sizeof_value, sizeof_type, compound, name_use, number_use, char_use, text_use, paren, statement_expr, va_arg, va_start, va_copy, offset, Operator, comma, assign, cond, binary, no_expr, some_expr, no_exprs, Desig, member_desig, index_desig, operation}
use Rattle.c_tree.specs.Height.{expr_height, assoc_height, exprs_height, init_list_height, operator_height, some_expr_height, step_height, steps_height}
use Rattle.c_tree.specs.Levels.{binary_level, expr_level, right_level}
use Rattle.c_ops.specs.Joining.{Stack, bottom, above, Settled, settle_of, finished}
use Rattle.c_tree.specs.declared.lexeme.Lexeme.{Lexeme}
use Rattle.c_units.specs.HeldScopes.{HeldScopes, names_type, is_wide}
use Rattle.c_reading.specs.declared.kinds.FaultKind.TheVariants.{Unexpected, BadTarget}
use Rattle.c_reading.specs.declared.kinds.Reach.{Reach}
use Rattle.c_reading.specs.declared.kinds.Reach.TheVariants.{Whole, Assigned, Conditional, Castable, Unary}
use Rattle.c_reading.specs.declared.kinds.Opening.{Opening}
use Rattle.c_reading.specs.declared.kinds.Opening.TheVariants as openings
use Rattle.c_reading.specs.declared.kinds.PostfixForm.{PostfixForm}
use Rattle.c_reading.specs.declared.kinds.PostfixForm.TheVariants as forms
use Rattle.c_reading.specs.declared.kinds.Infix.{Infix}
use Rattle.c_reading.specs.declared.kinds.Infix.TheVariants as infixes
use Rattle.c_reading.specs.Reading.{Read, ends, refuses, fits, kind_at, behind_first, take_one, token_at, run, listed, IsNumbered, and_then}
use Rattle.c_reading.specs.Tokens.{is_open_paren, is_default, is_close_paren, is_close_bracket, is_open_brace, is_colon, is_comma, word_of, name_at, is_end}
use Rattle.c_reading.specs.Specifying.{begins_specs, begins_role}
use Rattle.c_reading.specs.Parts.{Inner, Begun, nothing, extensions, star, TypeName, type_name_height, exprs_from, assocs_from, desigs_from}
use Rattle.c_reading.specs.declared.kinds.Role.{Role}
use Rattle.c_reading.specs.declared.kinds.Role.TheVariants.{Naming}
use Rattle.c_words.specs.declared.kinds.TokenKind.{TokenKind}
use Rattle.c_reading.specs.Expressing.{part_with, label_use_with, compat_with, choose_with, default_assoc_with, typed_assoc_with, assoc_with, next_assoc, generic_with, infix_of, opening_of, form_of, takes_comma, takes_assign, is_dot, begins_desig, how_many, settled, depth_of, with_operand, next_argument, arguments_with, index_with, call_with, dot_with, arrow_with, post_with, postfix_by, lowered, postfix_turn, postfixed, primary_with, text_with, compound_with, cast_behind, typed_behind, typed_with, statement_with, paren_with, opened_by, opened_with, prefix_with, extension_with, sizeof_value_with, sizeof_typed, sizeof_type_with, sizeof_behind, sizeof_with, va_arg_with, va_two_with, step_with, offset_with, name_with, unary_by, unary_with, cast_with, operand_with, operation_with, middle_with, question_with, operation_by, operation_turn, row_with, expr_with, OperandRow}
use Rattle.c_reading.proofs.Aims.{TokenLaws, Laws}
use Rattle.deep_places.proofs.Words.{b_texts_at}
use Rattle.c_reading.proofs.ExprFalls.{next_argument_falls, next_assoc_falls, postfix_turn_shrinks, step_shrinks, operation_turn_shrinks}
use Rattle.deep_places.proofs.Heights.{low_exprs, low_assocs, low_extended}
use Rattle.deep_places.specs.Bounds.{BoundAt, StepAt, most_of, begun_levels, block_tree_height, InnerBounds}
use Rattle.deep_places.proofs.Bounding.{bound_ends, bound_weaker, bound_bind, bound_fits, bound_if, token_levels, no_levels, bound_take, bound_token, bound_name, bound_run, bound_repeated, next_height, list_height, bound_listed, known_of, known_by}

-- How high what waits and the last operand become where all are joined.

abbrev pot : Stack → ℕ → ℕ
pot bottom h = h
pot (above s l) h = pot s (max (expr_height l.tree) (max (operator_height l.operator) h) + 1)

finished_pot : (s : Stack) (e : Expr) → expr_height (finished s e) ≡ pot s (expr_height e)
finished_pot bottom e = refl
finished_pot (above s l) e = finished_pot s (operation l.tree l.operator l.token e)

abbrev pot_of : Settled → ℕ
pot_of left = pot left.below (expr_height left.last)

-- operators that are joined up to a level leave the height of the whole row as it is
settled_pot : (level : ℕ) (s : Stack) (e : Expr) → pot_of (settle_of level s e) ≡ pot s (expr_height e)
settled_pot level bottom e = refl
settled_pot level (above s l) e =
    by_level (nat_le (right_level l.operator) level) (settled_pot level s (operation l.tree l.operator
    l.token e))
  where
    by_level : (b : Bool)
        → pot_of (settle_of level s (operation l.tree l.operator l.token e)) ≡ pot (above s l) (expr_height e) →
        pot_of (if b then record { below = above s l; last = e }
        else settle_of level s (operation l.tree l.operator l.token e)) ≡
        pot (above s l) (expr_height e)
    by_level true same = refl
    by_level false same = same

-- the height of a row is at least that of its last operand with a level for each operator that waits
pot_least : (s : Stack) (h : ℕ) → how_many s + h ≤ pot s h
pot_least bottom h = omega arith
pot_least (above s l) h =
    let rest = pot_least s (max (expr_height l.tree) (max (operator_height l.operator) h) + 1) in
    omega arith

-- a row fits with a last operand no higher than one that fits, or than a height that fits above all that wait
pot_both : (s : Stack) (a b x c d : ℕ) → pot s a ≤ c → c ≤ d → how_many s + b ≤ d → x ≤ max a b → pot s x ≤ d
pot_both bottom a b x c d low more few is = omega arith
pot_both (above s l) a b x c d low more few is =
    pot_both s (max (expr_height l.tree) (max (operator_height l.operator) a) + 1) (b + 1)
    (max (expr_height l.tree) (max
    (operator_height l.operator) x) + 1) c d low more (omega arith) (omega arith)

abbrev row_height : OperandRow → ℕ
row_height row = pot row.waiting (expr_height row.last)

low_steps : (xs : List Desig) → steps_height (desigs_from xs) ≤ most_of step_height xs
low_steps [] = omega arith
low_steps (x ∷ xs) = let rest = low_steps xs in omega arith

module _ (all : List Lexeme) (numbered : IsNumbered all) (tokens : TokenLaws all) (n : ℕ) (inner : Inner)
    (laws : Laws all n inner)
    (good : InnerBounds inner) where
  pub b_next_argument : (room : ℕ) (token : ℕ) (s : HeldScopes) (ts : List Lexeme)
      → BoundAt (next_height {E = ⊥} expr_height) (1)
      room (11) ts (next_argument inner room token s ts)
  unfolding next_argument
  b_next_argument room token s ts =
      bound_bind expr_height _ (1 + begun_levels nothing) _ _ _ _ _ _ (bound_weaker _ (1 + begun_levels nothing)
      (room - 1) (10 + begun_levels nothing) _ _ _ _ _ (omega arith) (omega arith)
      (good.expr Assigned nothing (room - 1) _ _)) (λ e b16 e17 l18. bound_ends _ _ _ _ _ _ _ (omega arith))

  pub b_arguments_with : (room : ℕ) (s : HeldScopes) (ts : List Lexeme)
      → BoundAt exprs_height (1) room (11) ts (arguments_with
      inner room s ts)
  unfolding arguments_with
  b_arguments_with room s ts =
      bound_if _ _ _ _ _ (is_close_paren (kind_at ts)) (ends no_exprs s ts)
      (and_then (listed (inner.expr Assigned nothing (room - 1)) (next_argument inner room) s ts)
      (λ es. (ends (exprs_from es.tree.items) es.scopes es.rest))) (λ is19. bound_ends _ _ _ _ _ _ _ (omega arith))
      (λ is19. bound_bind (list_height {E = ⊥} (expr_height)) _ (1) _ _ _ _ _ _ (bound_weaker _ (1) room (11) _ _ _ _ _
      (omega arith) (omega arith) (bound_listed (inner.expr Assigned nothing (room - 1)) (next_argument inner room)
      (expr_height) (1) room (11) ((λ comma. next_argument_falls all tokens n inner laws room comma)) (omega arith) s ts
      (bound_weaker _ (1 + begun_levels nothing) (room - 1) (10 + begun_levels nothing) _ _ _ _ _ (omega arith)
      (omega arith) (good.expr Assigned nothing (room - 1) _ _)) (λ comma s9 ts9. bound_weaker _ (1) room (11) _ _ _ _ _
      (omega arith) (omega arith) (b_next_argument room comma _ _)))) (λ es b20 e21 l22.
      bound_ends _ _ _ _ _ _ _ (let f23 = low_exprs es.tree.items in omega arith)))

  pub b_index_with : (base : Expr) (room : ℕ) (s : HeldScopes) (ts : List Lexeme)
      → BoundAt expr_height (expr_height base) room
      (expr_height base + 10) ts (index_with inner base room s ts)
  unfolding index_with
  b_index_with base room s ts =
      bound_bind token_levels _ (0) _ _ _ _ _ _ (bound_take _ _ _ _)
      (λ opening b24 e25 l26. bound_bind expr_height _ (1 + begun_levels nothing) _ _ _ _ _ _ (bound_weaker _
      (1 + begun_levels nothing) (room - 1) (10 + begun_levels nothing) _ _ _ _ _ (omega arith) (omega arith)
      (good.expr Whole nothing (room - 1) _ _)) (λ e b27 e28 l29. bound_bind token_levels _ (0) _ _ _ _ _ _
      (bound_token is_close_bracket _ _ _ _) (λ closing b30 e31 l32. bound_ends _ _ _ _ _ _ _ (omega arith))))

  pub b_call_with : (callee : Expr) (room : ℕ) (s : HeldScopes) (ts : List Lexeme)
      → BoundAt expr_height (expr_height callee) room
      (expr_height callee + 10) ts (call_with inner callee room s ts)
  unfolding call_with
  b_call_with callee room s ts =
      bound_bind token_levels _ (0) _ _ _ _ _ _ (bound_take _ _ _ _) (λ opening b33 e34 l35. bound_bind exprs_height _
      (1) _ _ _ _ _ _ (bound_weaker _ (1) room (11) _ _ _ _ _ (omega arith) (omega arith) (b_arguments_with room _ _))
      (λ es b36 e37 l38. bound_bind token_levels _ (0) _ _ _ _ _ _ (bound_token is_close_paren _ _ _ _)
      (λ closing b39 e40 l41. bound_ends _ _ _ _ _ _ _ (omega arith))))

  pub b_dot_with : (room : ℕ) (base : Expr) (s : HeldScopes) (ts : List Lexeme)
      → BoundAt expr_height (expr_height base) room (0) ts
      (dot_with inner base s ts)
  unfolding dot_with
  b_dot_with room base s ts =
      bound_bind token_levels _ (0) _ _ _ _ _ _ (bound_take _ _ _ _) (λ token b42 e43 l44.
      bound_bind token_levels _ (0) _ _ _ _ _ _
      (bound_name _ _ _ _) (λ name b45 e46 l47. bound_ends _ _ _ _ _ _ _ (omega arith)))

  pub b_arrow_with : (room : ℕ) (base : Expr) (s : HeldScopes) (ts : List Lexeme)
      → BoundAt expr_height (expr_height base) room (0)
      ts (arrow_with inner base s ts)
  unfolding arrow_with
  b_arrow_with room base s ts =
      bound_bind token_levels _ (0) _ _ _ _ _ _ (bound_take _ _ _ _) (λ token b48 e49 l50.
      bound_bind token_levels _ (0) _ _ _ _ _ _
      (bound_name _ _ _ _) (λ name b51 e52 l53. bound_ends _ _ _ _ _ _ _ (omega arith)))

  pub b_post_with : (room : ℕ) (base : Expr) (p : Punct) (s : HeldScopes) (ts : List Lexeme)
      → BoundAt expr_height (expr_height
      base) room (0) ts (post_with inner base p s ts)
  unfolding post_with
  b_post_with room base p s ts =
      bound_bind token_levels _ (0) _ _ _ _ _ _ (bound_take _ _ _ _)
      (λ token b54 e55 l56. bound_ends _ _ _ _ _ _ _ (omega arith))

  postfix_step : (room : ℕ) (e : Expr) (s : HeldScopes) (ts : List Lexeme) (c : ℕ) → 0 ≤ c → expr_height e ≤ c
      → StepAt expr_height
      c room (c + 10) ts (postfix_turn inner room e s ts)
  postfix_step room e s ts c high low =
      by_form (form_of (kind_at ts)) (known_of form_of forms.Nothing refl (kind_at ts))
    where
      fitted : (read : Read Expr) → is_end (kind_at ts) ≡ false
          → BoundAt expr_height (expr_height e) room (expr_height e + 10) ts
          read → BoundAt expr_height c room (c + 10) ts (fits (suc (expr_height e)) room ts read)
      fitted read known b =
          bound_fits expr_height c room (c + 10) (suc (expr_height e)) room ts read known
          (λ less. omega arith) (λ enough.
          bound_weaker expr_height (expr_height e) room (expr_height e + 10) c room (c + 10) ts read (omega arith)
          (omega arith) b)

      by_form : (f : PostfixForm) → ((f ≡ forms.Nothing → ⊥) → is_end (kind_at ts) ≡ false)
          → StepAt expr_height c room (c + 10) ts
          (lowered inner (expr_height e) room ts (postfix_by inner f room e s ts))
      by_form forms.Index known =
          fitted (index_with inner e room s ts) (known (λ e9. absurd cc)) (b_index_with e room s ts)
      by_form forms.Call known =
          fitted (call_with inner e room s ts) (known (λ e9. absurd cc)) (b_call_with e room s ts)
      by_form forms.Dot known =
          fitted (dot_with inner e s ts) (known (λ e9. absurd cc)) (bound_weaker expr_height (expr_height e)
          room 0 (expr_height e) room (expr_height e + 10) ts (dot_with inner e s ts) (omega arith) (omega arith)
          (b_dot_with room e s ts))
      by_form forms.Arrow known =
          fitted (arrow_with inner e s ts) (known (λ e9. absurd cc)) (bound_weaker expr_height (expr_height
          e) room 0 (expr_height e) room (expr_height e + 10) ts (arrow_with inner e s ts) (omega arith) (omega arith)
          (b_arrow_with room e s ts))
      by_form (forms.Post p) known =
          fitted (post_with inner e p s ts) (known (λ e9. absurd cc)) (bound_weaker expr_height
          (expr_height e) room 0 (expr_height e) room (expr_height e + 10) ts (post_with inner e p s ts)
          (omega arith) (omega arith)
          (b_post_with room e p s ts))
      by_form forms.Nothing known = tt

  pub b_postfixed : (room : ℕ) (e : Expr) (s : HeldScopes) (ts : List Lexeme) → BoundAt expr_height (expr_height e) room
      (expr_height e + 10) ts (postfixed inner room e s ts)
  unfolding postfixed
  b_postfixed room e s ts =
      bound_run (postfix_turn inner room) (postfix_turn_shrinks all tokens n inner laws room) expr_height room
      10 0 (postfix_step room) e s ts (expr_height e) (omega arith) (omega arith)

  pub b_primary_with : (make : (ℕ → Expr)) (room : ℕ) (s : HeldScopes) (ts : List Lexeme) → is_end (kind_at ts) ≡ false
      → ((token :
      ℕ) → expr_height (make token) ≤ 1) → BoundAt expr_height (1) room (10) ts (primary_with inner make room s ts)
  b_primary_with make room s ts known low =
      bound_fits _ _ _ _ _ _ _ _ (known) (λ less57. omega arith) (λ less57.
      bound_bind token_levels _ (0) _ _ _ _ _ _ (bound_take _ _ _ _) (λ token b58 e59 l60. let f61 = low token.tree in
      bound_weaker _ (expr_height (make token.tree)) room (expr_height (make token.tree) + 10) _ _ _ _ _ (omega arith)
      (omega arith) (b_postfixed room (make token.tree) _ _)))

  pub b_text_with : (room : ℕ) (s : HeldScopes) (ts : List Lexeme) → is_end (kind_at ts) ≡ false
      → BoundAt expr_height (1) room (10)
      ts (text_with inner room s ts)
  unfolding text_with
  b_text_with room s ts known =
      bound_fits _ _ _ _ _ _ _ _ (known) (λ less62. omega arith) (λ less62.
      bound_bind token_levels _ (0) _ _ _ _ _ _ (bound_take _ _ _ _) (λ token b63 e64 l65. bound_bind no_levels _
      (0) _ _ _ _ _ _ (bound_weaker _ (0) room (0) _ _ _ _ _ (omega arith) (omega arith) (b_texts_at room _ _))
      (λ texts b66 e67 l68. bound_weaker _ (expr_height (text_use (token.tree ∷
      texts.tree))) room (expr_height (text_use (token.tree ∷ texts.tree)) + 10) _ _ _ _ _ (omega arith) (omega arith)
      (b_postfixed room (text_use (token.tree ∷ texts.tree)) _ _))))

  pub b_compound_with : (opening : ℕ) (t : TypeName) (closing : ℕ) (room : ℕ) (s : HeldScopes) (ts : List Lexeme)
      → BoundAt expr_height (type_name_height t + 2) room (type_name_height t + 12) ts
      (compound_with inner opening t closing room s ts)
  unfolding compound_with
  b_compound_with opening t closing room s ts =
      bound_bind init_list_height _ (1) _ _ _ _ _ _
      (bound_weaker _ (1) (room - 1) (10) _ _ _ _ _ (omega arith) (omega arith) (good.init_list (room - 1) _ _))
      (λ list b69 e70 l71. bound_weaker _ (expr_height (compound opening t.words t.declr closing list.tree)) room
      (expr_height (compound opening t.words t.declr closing list.tree) + 10) _ _ _ _ _ (omega arith) (omega arith)
      (b_postfixed room (compound opening t.words t.declr closing list.tree) _ _))

  pub b_cast_behind : (opening : ℕ) (t : TypeName) (closing : ℕ) (room : ℕ) (s : HeldScopes) (ts : List Lexeme)
      → BoundAt expr_height (type_name_height t + 2) room (type_name_height t + 12) ts
      (cast_behind inner opening t closing room s ts)
  unfolding cast_behind
  b_cast_behind opening t closing room s ts =
      bound_bind expr_height _ (1 + begun_levels nothing) _ _ _ _ _ _ (bound_weaker _ (1 + begun_levels nothing)
      (room - 1) (10 + begun_levels nothing) _ _ _ _ _ (omega arith) (omega arith)
      (good.expr Castable nothing (room - 1) _ _)) (λ e b72 e73 l74. bound_ends _ _ _ _ _ _ _ (omega arith))

  pub b_typed_behind : (casts : Bool) (opening : ℕ) (t : TypeName) (closing : ℕ) (room : ℕ) (s : HeldScopes)
      (ts : List Lexeme) →
      BoundAt expr_height (type_name_height t + 2) room (type_name_height t + 12) ts
      (typed_behind inner casts opening t closing room s ts)
  unfolding typed_behind
  b_typed_behind casts opening t closing room s ts =
      bound_if _ _ _ _ _ (is_open_brace (kind_at ts)) (compound_with inner opening t closing room s ts)
      (if casts then (cast_behind inner opening t closing room s ts) else (refuses Unexpected ts))
      (λ is75. bound_weaker _ (type_name_height t + 2) room (type_name_height t + 12) _ _ _ _ _ (omega arith)
      (omega arith) (b_compound_with opening t closing room _ _))
      (λ is75. bound_if _ _ _ _ _ (casts) (cast_behind inner opening t closing room s ts) (refuses Unexpected ts)
      (λ is76. bound_weaker _ (type_name_height t + 2) room (type_name_height t + 12) _ _ _ _ _ (omega arith)
      (omega arith) (b_cast_behind opening t closing room _ _)) (λ is76. record { held = λ e. absurd cc }))

  pub b_typed_with : (casts : Bool) (opening : ℕ) (room : ℕ) (s : HeldScopes) (ts : List Lexeme)
      → BoundAt expr_height (2) room (14)
      ts (typed_with inner casts opening room s ts)
  unfolding typed_with
  b_typed_with casts opening room s ts =
      bound_bind type_name_height _ (2) _ _ _ _ _ _
      (bound_weaker _ (2) (room - 1) (12) _ _ _ _ _ (omega arith) (omega arith) (good.type_name (room - 1) _ _))
      (λ t b77 e78 l79. bound_bind token_levels _ (0) _ _ _ _ _ _ (bound_token is_close_paren _ _ _ _)
      (λ closing b80 e81 l82. bound_weaker _ (type_name_height t.tree + 2) room (type_name_height t.tree + 12) _ _ _ _ _
      (omega arith) (omega arith) (b_typed_behind casts opening t.tree closing.tree room _ _)))

  pub b_statement_with : (opening : ℕ) (room : ℕ) (s : HeldScopes) (ts : List Lexeme)
      → BoundAt expr_height (2) room (14) ts
      (statement_with inner opening room s ts)
  unfolding statement_with
  b_statement_with opening room s ts =
      bound_bind block_tree_height _ (1) _ _ _ _ _ _ (bound_weaker _ (1) (room - 1) (13) _ _ _ _ _ (omega arith)
      (omega arith) (good.block (room - 1) _ _)) (λ block b83 e84 l85. bound_bind token_levels _ (0) _ _ _ _ _ _
      (bound_token is_close_paren _ _ _ _) (λ closing b86 e87 l88. bound_weaker _
      (expr_height (statement_expr opening block.tree.opening block.tree.items block.tree.closing closing.tree)) room
      (expr_height (statement_expr opening block.tree.opening block.tree.items block.tree.closing closing.tree) + 10) _
      _ _ _ _ (omega arith) (omega arith) (b_postfixed room
      (statement_expr opening block.tree.opening block.tree.items block.tree.closing closing.tree) _ _)))

  pub b_paren_with : (opening : ℕ) (room : ℕ) (s : HeldScopes) (ts : List Lexeme)
      → BoundAt expr_height (2) room (14) ts (paren_with
      inner opening room s ts)
  unfolding paren_with
  b_paren_with opening room s ts =
      bound_bind expr_height _ (1 + begun_levels nothing) _ _ _ _ _ _
      (bound_weaker _ (1 + begun_levels nothing) (room - 1) (10 + begun_levels nothing) _ _ _ _ _ (omega arith)
      (omega arith) (good.expr Whole nothing (room - 1) _ _)) (λ e b89 e90 l91. bound_bind token_levels _
      (0) _ _ _ _ _ _ (bound_token is_close_paren _ _ _ _) (λ closing b92 e93 l94. bound_weaker _
      (expr_height (paren opening e.tree closing.tree)) room (expr_height (paren opening e.tree closing.tree) + 10) _ _
      _ _ _ (omega arith) (omega arith) (b_postfixed room (paren opening e.tree closing.tree) _ _)))

  pub b_opened_by : (casts : Bool) (opening : ℕ) (room : ℕ) (s : HeldScopes) (ts : List Lexeme)
      → BoundAt expr_height (2) room (14)
      ts (opened_by inner casts opening room s ts)
  unfolding opened_by
  b_opened_by casts opening room s ts =
      bound_if _ _ _ _ _ (begins_specs s (kind_at ts)) (typed_with inner casts opening room s ts)
      (if is_open_brace (kind_at ts)
      then (statement_with inner opening room s ts) else (paren_with inner opening room s ts)) (λ is95.
      bound_weaker _ (2) room
      (14) _ _ _ _ _ (omega arith) (omega arith) (b_typed_with casts opening room _ _)) (λ is95. bound_if _ _ _ _ _
      (is_open_brace (kind_at ts)) (statement_with inner opening room s ts)
      (paren_with inner opening room s ts) (λ is96.
      bound_weaker _ (2) room (14) _ _ _ _ _ (omega arith) (omega arith) (b_statement_with opening room _ _)) (λ is96.
      bound_weaker _ (2) room (14) _ _ _ _ _ (omega arith) (omega arith) (b_paren_with opening room _ _)))

  pub b_opened_with : (casts : Bool) (room : ℕ) (s : HeldScopes) (ts : List Lexeme) → is_end (kind_at ts) ≡ false
      → BoundAt
      expr_height (1) room (10) ts (opened_with inner casts room s ts)
  unfolding opened_with
  b_opened_with casts room s ts known =
      bound_fits _ _ _ _ _ _ _ _ (known) (λ less97. omega arith)
      (λ less97. bound_bind token_levels _ (0) _ _ _ _ _ _ (bound_take _ _ _ _) (λ opening b98 e99 l100.
      bound_weaker _ (2) room (14) _ _ _ _ _ (omega arith) (omega arith) (b_opened_by casts opening.tree room _ _)))

  pub b_prefix_with : (p : Punct) (reach : Reach) (room : ℕ) (s : HeldScopes) (ts : List Lexeme)
      → is_end (kind_at ts) ≡ false →
      BoundAt expr_height (1) room (10) ts (prefix_with inner p reach room s ts)
  unfolding prefix_with
  b_prefix_with p reach room s ts known =
      bound_fits _ _ _ _ _ _ _ _ (known) (λ less101. omega arith)
      (λ less101. bound_bind token_levels _ (0) _ _ _ _ _ _ (bound_take _ _ _ _) (λ token b102 e103 l104.
      bound_bind expr_height _ (1 + begun_levels nothing) _ _ _ _ _ _ (bound_weaker _ (1 + begun_levels nothing)
      (room - 1) (10 + begun_levels nothing) _ _ _ _ _ (omega arith) (omega arith)
      (good.expr reach nothing (room - 1) _ _)) (λ e b105 e106 l107. bound_ends _ _ _ _ _ _ _ (omega arith))))

  pub b_extension_with : (room : ℕ) (s : HeldScopes) (ts : List Lexeme) → is_end (kind_at ts) ≡ false
      → BoundAt expr_height (1) room
      (10) ts (extension_with inner room s ts)
  unfolding extension_with
  b_extension_with room s ts known =
      bound_fits _ _ _ _ _ _ _ _ (known) (λ less108. omega arith)
      (λ less108. bound_bind token_levels _ (0) _ _ _ _ _ _ (bound_take _ _ _ _) (λ token b109 e110 l111.
      bound_bind expr_height _ (1 + begun_levels nothing) _ _ _ _ _ _ (bound_weaker _ (1 + begun_levels nothing)
      (room - 1) (10 + begun_levels nothing) _ _ _ _ _ (omega arith) (omega arith)
      (good.expr Castable nothing (room - 1) _ _)) (λ e b112 e113 l114. bound_ends _ _ _ _ _ _ _ (omega arith))))

  pub b_sizeof_value_with : (word : Word) (room : ℕ) (s : HeldScopes) (ts : List Lexeme)
      → BoundAt expr_height (2) room (11) ts
      (sizeof_value_with inner word room s ts)
  unfolding sizeof_value_with
  b_sizeof_value_with word room s ts =
      bound_bind expr_height _ (1 + begun_levels nothing) _ _ _ _ _ _ (bound_weaker _ (1 + begun_levels nothing)
      (room - 1) (10 + begun_levels nothing) _ _ _ _ _ (omega arith) (omega arith)
      (good.expr Unary nothing (room - 1) _ _)) (λ e b115 e116 l117. bound_ends _ _ _ _ _ _ _ (omega arith))

  pub b_sizeof_typed : (word : Word) (opening : ℕ) (t : TypeName) (closing : ℕ) (room : ℕ) (s : HeldScopes)
      (ts : List Lexeme) →
      BoundAt expr_height (type_name_height t + 3) room (type_name_height t + 13) ts
      (sizeof_typed inner word opening t closing room s ts)
  unfolding sizeof_typed
  b_sizeof_typed word opening t closing room s ts =
      bound_if _ _ _ _ _ (is_open_brace (kind_at ts)) (fits (2 + type_name_height t) room ts (and_then
      (compound_with inner opening t closing (room - 1) s ts) (λ e. (ends (sizeof_value word e.tree) e.scopes e.rest))))
      (ends (sizeof_type word opening t.words t.declr closing) s ts)
      (λ is118. bound_fits _ _ _ _ _ _ _ _ (known_by (λ kind9. is_open_brace kind9) refl (kind_at ts) is118)
      (λ less119. omega arith) (λ less119. bound_bind expr_height _ (type_name_height t + 2) _ _ _ _ _ _ (bound_weaker _
      (type_name_height t + 2) (room - 1) (type_name_height t + 12) _ _ _ _ _ (omega arith) (omega arith)
      (b_compound_with opening t closing (room - 1) _ _)) (λ e b120 e121 l122. bound_ends _ _ _ _ _ _ _ (omega arith))))
      (λ is118. bound_ends _ _ _ _ _ _ _ (omega arith))

  pub b_sizeof_type_with : (word : Word) (room : ℕ) (s : HeldScopes) (ts : List Lexeme)
      → BoundAt expr_height (2) room (11) ts
      (sizeof_type_with inner word room s ts)
  unfolding sizeof_type_with
  b_sizeof_type_with word room s ts =
      bound_bind token_levels _ (0) _ _ _ _ _ _ (bound_take _ _ _ _)
      (λ opening b123 e124 l125. bound_bind type_name_height _ (2) _ _ _ _ _ _ (bound_weaker _ (2) (room - 1)
      (12) _ _ _ _ _ (omega arith) (omega arith) (good.type_name (room - 1) _ _)) (λ t b126 e127 l128.
      bound_bind token_levels _ (0) _ _ _ _ _ _ (bound_token is_close_paren _ _ _ _) (λ closing b129 e130 l131.
      bound_weaker _ (type_name_height t.tree + 3) room (type_name_height t.tree + 13) _ _ _ _ _ (omega arith)
      (omega arith) (b_sizeof_typed word opening.tree t.tree closing.tree room _ _))))

  pub b_sizeof_behind : (word : Word) (room : ℕ) (s : HeldScopes) (ts : List Lexeme)
      → BoundAt expr_height (2) room (11) ts
      (sizeof_behind inner word room s ts)
  unfolding sizeof_behind
  b_sizeof_behind word room s ts =
      bound_if _ _ _ _ _ (is_open_paren (kind_at ts)) (fits 3 room ts (if begins_specs s (kind_at (behind_first ts))
      then (sizeof_type_with inner word room s ts) else (sizeof_value_with inner word room s ts)))
      (sizeof_value_with inner word room s ts)
      (λ is132. bound_fits _ _ _ _ _ _ _ _ (known_by (λ kind9. is_open_paren kind9) refl (kind_at ts) is132)
      (λ less133. omega arith) (λ less133. bound_if _ _ _ _ _ (begins_specs s (kind_at (behind_first ts)))
      (sizeof_type_with inner word room s ts) (sizeof_value_with inner word room s ts) (λ is134. bound_weaker _ (2) room
      (11) _ _ _ _ _ (omega arith) (omega arith) (b_sizeof_type_with word room _ _)) (λ is134. bound_weaker _ (2) room
      (11) _ _ _ _ _ (omega arith) (omega arith) (b_sizeof_value_with word room _ _))))
      (λ is132. bound_weaker _ (2) room (11) _ _ _ _ _ (omega arith) (omega arith) (b_sizeof_value_with word room _ _))

  pub b_sizeof_with : (keyword : Keyword) (room : ℕ) (s : HeldScopes) (ts : List Lexeme) → is_end (kind_at ts) ≡ false
      → BoundAt
      expr_height (1) room (10) ts (sizeof_with inner keyword room s ts)
  unfolding sizeof_with
  b_sizeof_with keyword room s ts known =
      bound_fits _ _ _ _ _ _ _ _ (known) (λ less135. omega arith)
      (λ less135. bound_bind token_levels _ (0) _ _ _ _ _ _ (bound_take _ _ _ _) (λ token b136 e137 l138. bound_weaker _
      (2) room (11) _ _ _ _ _ (omega arith) (omega arith) (b_sizeof_behind (word_of keyword token.tree) room _ _)))

  pub b_va_arg_with : (room : ℕ) (s : HeldScopes) (ts : List Lexeme) → is_end (kind_at ts) ≡ false
      → BoundAt expr_height (1) room
      (10) ts (va_arg_with inner room s ts)
  unfolding va_arg_with
  b_va_arg_with room s ts known =
      bound_fits _ _ _ _ _ _ _ _ (known) (λ less139. omega arith)
      (λ less139. bound_bind token_levels _ (0) _ _ _ _ _ _ (bound_take _ _ _ _) (λ keyword b140 e141 l142.
      bound_bind token_levels _ (0) _ _ _ _ _ _ (bound_token is_open_paren _ _ _ _) (λ opening b143 e144 l145.
      bound_bind expr_height _ (1 + begun_levels nothing) _ _ _ _ _ _ (bound_weaker _ (1 + begun_levels nothing)
      (room - 1) (10 + begun_levels nothing) _ _ _ _ _ (omega arith) (omega arith)
      (good.expr Assigned nothing (room - 1) _ _)) (λ e b146 e147 l148. bound_bind token_levels _ (0) _ _ _ _ _ _
      (bound_token is_comma _ _ _ _) (λ separator b149 e150 l151. bound_bind type_name_height _ (2) _ _ _ _ _ _
      (bound_weaker _ (2) (room - 1) (12) _ _ _ _ _ (omega arith) (omega arith) (good.type_name (room - 1) _ _))
      (λ t b152 e153 l154. bound_bind token_levels _ (0) _ _ _ _ _ _ (bound_token is_close_paren _ _ _ _)
      (λ closing b155 e156 l157. bound_weaker _ (expr_height (va_arg keyword.tree opening.tree e.tree separator.tree
      t.tree.words t.tree.declr closing.tree)) room (expr_height (va_arg keyword.tree opening.tree e.tree separator.tree
      t.tree.words t.tree.declr closing.tree) + 10) _ _ _ _ _ (omega arith) (omega arith) (b_postfixed room
      (va_arg keyword.tree opening.tree e.tree separator.tree t.tree.words t.tree.declr closing.tree) _ _))))))))

  pub b_va_two_with : (make : (ℕ → ℕ → Expr → ℕ → Expr → ℕ → Expr)) (room : ℕ) (s : HeldScopes) (ts : List Lexeme)
      → is_end (kind_at ts) ≡ false → ((a b : ℕ) (e : Expr) (x : ℕ) (e2 : Expr) (y : ℕ)
      → expr_height (make a b e x e2 y) ≤ max (expr_height e) (expr_height e2) + 1)
      → BoundAt expr_height (1) room (10) ts (va_two_with inner make room s ts)
  unfolding va_two_with
  b_va_two_with make room s ts known low2 =
      bound_fits _ _ _ _ _ _ _ _ (known) (λ less158. omega arith)
      (λ less158. bound_bind token_levels _ (0) _ _ _ _ _ _ (bound_take _ _ _ _) (λ keyword b159 e160 l161.
      bound_bind token_levels _ (0) _ _ _ _ _ _ (bound_token is_open_paren _ _ _ _) (λ opening b162 e163 l164.
      bound_bind expr_height _ (1 + begun_levels nothing) _ _ _ _ _ _ (bound_weaker _ (1 + begun_levels nothing)
      (room - 1) (10 + begun_levels nothing) _ _ _ _ _ (omega arith) (omega arith)
      (good.expr Assigned nothing (room - 1) _ _)) (λ e b165 e166 l167. bound_bind token_levels _ (0) _ _ _ _ _ _
      (bound_token is_comma _ _ _ _) (λ separator b168 e169 l170. bound_bind expr_height _ (1 + begun_levels nothing) _
      _ _ _ _ _ (bound_weaker _ (1 + begun_levels nothing) (room - 1) (10 + begun_levels nothing) _ _ _ _ _
      (omega arith) (omega arith) (good.expr Assigned nothing (room - 1) _ _)) (λ e2 b171 e172 l173.
      bound_bind token_levels _ (0) _ _ _ _ _ _ (bound_token is_close_paren _ _ _ _) (λ closing b174 e175 l176.
      let f177 = low2 keyword.tree opening.tree e.tree separator.tree e2.tree closing.tree in bound_weaker _
      (expr_height (make keyword.tree opening.tree e.tree separator.tree e2.tree closing.tree)) room (expr_height (make
      keyword.tree opening.tree e.tree separator.tree e2.tree closing.tree) + 10) _ _ _ _ _ (omega arith) (omega arith)
      (b_postfixed room (make keyword.tree opening.tree e.tree separator.tree e2.tree closing.tree) _ _))))))))

  pub b_step_with : (room : ℕ) (s : HeldScopes) (ts : List Lexeme)
      → BoundAt step_height (1) room (11) ts (step_with inner room s ts)
  unfolding step_with
  b_step_with room s ts =
      bound_if _ _ _ _ _ (is_dot (kind_at ts)) (and_then (take_one s ts) (λ token. (and_then
      (name_at token.scopes token.rest) (λ name. (ends (member_desig token.tree name.tree) name.scopes name.rest)))))
      (and_then (take_one s ts) (λ opening. (and_then (inner.expr Whole nothing (room - 1) opening.scopes opening.rest)
      (λ e. (and_then (token_at is_close_bracket e.scopes e.rest)
      (λ closing. (ends (index_desig opening.tree e.tree closing.tree) closing.scopes closing.rest))))))) (λ is178.
      bound_bind token_levels _ (0) _ _ _ _ _ _ (bound_take _ _ _ _) (λ token b179 e180 l181. bound_bind token_levels _
      (0) _ _ _ _ _ _ (bound_name _ _ _ _) (λ name b182 e183 l184. bound_ends _ _ _ _ _ _ _ (omega arith))))
      (λ is178. bound_bind token_levels _ (0) _ _ _ _ _ _ (bound_take _ _ _ _) (λ opening b185 e186 l187.
      bound_bind expr_height _ (1 + begun_levels nothing) _ _ _ _ _ _ (bound_weaker _ (1 + begun_levels nothing)
      (room - 1) (10 + begun_levels nothing) _ _ _ _ _ (omega arith) (omega arith)
      (good.expr Whole nothing (room - 1) _ _)) (λ e b188 e189 l190. bound_bind token_levels _ (0) _ _ _ _ _ _
      (bound_token is_close_bracket _ _ _ _) (λ closing b191 e192 l193. bound_ends _ _ _ _ _ _ _ (omega arith)))))

  pub b_offset_with : (room : ℕ) (s : HeldScopes) (ts : List Lexeme) → is_end (kind_at ts) ≡ false
      → BoundAt expr_height (1) room
      (10) ts (offset_with inner room s ts)
  unfolding offset_with
  b_offset_with room s ts known =
      bound_fits _ _ _ _ _ _ _ _ (known) (λ less194. omega arith) (λ less194.
      bound_bind token_levels _ (0) _ _ _ _ _ _ (bound_take _ _ _ _) (λ keyword b195 e196 l197.
      bound_bind token_levels _ (0) _ _ _ _ _ _ (bound_token is_open_paren _ _ _ _) (λ opening b198 e199 l200.
      bound_bind type_name_height _ (2) _ _ _ _ _ _ (bound_weaker _ (2) (room - 1) (12) _ _ _ _ _ (omega arith)
      (omega arith) (good.type_name (room - 1) _ _)) (λ t b201 e202 l203. bound_bind token_levels _ (0) _ _ _ _ _ _
      (bound_token is_comma _ _ _ _) (λ separator b204 e205 l206. bound_bind token_levels _ (0) _ _ _ _ _ _
      (bound_name _ _ _ _) (λ name b207 e208 l209. bound_bind (most_of step_height) _ (1) _ _ _ _ _ _
      (bound_weaker _ (1) room (11) _ _ _ _ _ (omega arith) (omega arith) (bound_repeated begins_desig
      (step_with inner room) step_height (1) room (11) (step_shrinks all tokens n inner laws room) (omega arith)
      (λ s9 ts9 is9. b_step_with room _ _) name.scopes name.rest)) (λ steps b210 e211 l212. bound_bind token_levels _
      (0) _ _ _ _ _ _ (bound_token is_close_paren _ _ _ _) (λ closing b213 e214 l215. let f216 =
      low_steps steps.tree in
      bound_weaker _ (expr_height (offset keyword.tree opening.tree t.tree.words t.tree.declr separator.tree name.tree
      (desigs_from steps.tree) closing.tree)) room
      (expr_height (offset keyword.tree opening.tree t.tree.words t.tree.declr separator.tree name.tree
      (desigs_from steps.tree) closing.tree) + 10) _ _ _ _ _ (omega arith) (omega arith)
      (b_postfixed room (offset keyword.tree opening.tree t.tree.words t.tree.declr separator.tree name.tree
      (desigs_from steps.tree) closing.tree) _ _)))))))))

  pub b_name_with : (name : ℕ) (room : ℕ) (s : HeldScopes) (ts : List Lexeme) → is_end (kind_at ts) ≡ false
      → BoundAt expr_height
      (1) room (10) ts (name_with inner name room s ts)
  b_name_with name room s ts known =
      bound_if _ _ _ _ _ (names_type s name) (refuses Unexpected ts)
      (primary_with inner (λ token. name_use token name) room s ts)
      (λ is217. record { held = λ e. absurd cc }) (λ is217.
      bound_weaker _ (1) room (10) _ _ _ _ _ (omega arith) (omega arith)
      (b_primary_with (λ token. name_use token name) room _ _ (known) (λ token9. omega arith)))

  pub b_part_with : (room : ℕ) (s : HeldScopes) (ts : List Lexeme) → is_end (kind_at ts) ≡ false
      → BoundAt expr_height (1) room
      (10) ts (part_with inner room s ts)
  unfolding part_with
  b_part_with room s ts known =
      bound_fits _ _ _ _ _ _ _ _ (known) (λ less3. omega arith)
      (λ less3. bound_bind token_levels _ (0) _ _ _ _ _ _ (bound_take _ _ _ _) (λ token p2 q2 r2.
      bound_bind expr_height _ (1 + begun_levels nothing) _ _ _ _ _ _ (bound_weaker _ (1 + begun_levels nothing)
      (room - 1) (10 + begun_levels nothing) _ _ _ _ _ (omega arith) (omega arith)
      (good.expr Castable nothing (room - 1) _ _)) (λ e p1 q1 r1. bound_ends _ _ _ _ _ _ _ (omega arith))))

  pub b_label_use_with : (room : ℕ) (s : HeldScopes) (ts : List Lexeme) → is_end (kind_at ts) ≡ false
      → BoundAt expr_height (1)
      room (10) ts (label_use_with inner room s ts)
  unfolding label_use_with
  b_label_use_with room s ts known =
      bound_if _ _ _ _ _ (is_wide s) (fits 1 room ts (and_then (take_one s ts) (λ token. (and_then
      (name_at token.scopes token.rest) (λ name. (ends (label_use token.tree name.tree) name.scopes name.rest))))))
      (refuses Unexpected ts) (λ on. bound_fits _ _ _ _ _ _ _ _ (known) (λ less6. omega arith)
      (λ less6. bound_bind token_levels _ (0) _ _ _ _ _ _ (bound_take _ _ _ _) (λ token p5 q5 r5. bound_bind
      token_levels _ (0) _ _ _ _ _ _ (bound_name _ _ _ _) (λ name p4 q4 r4. bound_ends _ _ _ _ _ _ _ (omega arith)))))
      (λ off. record { held = λ e. absurd cc })

  pub b_compat_with : (room : ℕ) (s : HeldScopes) (ts : List Lexeme) → is_end (kind_at ts) ≡ false
      → BoundAt expr_height (1) room
      (10) ts (compat_with inner room s ts)
  unfolding compat_with
  b_compat_with room s ts known =
      bound_fits _ _ _ _ _ _ _ _ (known) (λ less13. omega arith) (λ less13. bound_bind token_levels _ (0) _ _ _ _ _ _
      (bound_take _ _ _ _) (λ keyword p12 q12 r12. bound_bind token_levels _ (0) _ _ _ _ _ _
      (bound_token is_open_paren _ _ _ _) (λ opening p11 q11 r11. bound_bind type_name_height _ (2) _ _ _ _ _ _
      (bound_weaker _ (2) (room - 1) (12) _ _ _ _ _ (omega arith) (omega arith) (good.type_name (room - 1) _ _))
      (λ t p10 q10 r10. bound_bind token_levels _ (0) _ _ _ _ _ _ (bound_token is_comma _ _ _ _) (λ separator p9 q9 r9.
      bound_bind type_name_height _ (2) _ _ _ _ _ _ (bound_weaker _ (2) (room - 1) (12) _ _ _ _ _ (omega arith)
      (omega arith) (good.type_name (room - 1) _ _)) (λ t2 p8 q8 r8. bound_bind token_levels _ (0) _ _ _ _ _ _
      (bound_token is_close_paren _ _ _ _) (λ closing p7 q7 r7. bound_weaker _ (expr_height (compat keyword.tree
      opening.tree t.tree.words t.tree.declr separator.tree t2.tree.words t2.tree.declr closing.tree)) room
      (expr_height (compat keyword.tree opening.tree t.tree.words t.tree.declr separator.tree t2.tree.words
      t2.tree.declr closing.tree) + 10) _ _ _ _ _ (omega arith) (omega arith) (b_postfixed room (compat keyword.tree
      opening.tree t.tree.words t.tree.declr separator.tree t2.tree.words t2.tree.declr closing.tree) _ _))))))))

  pub b_choose_with : (room : ℕ) (s : HeldScopes) (ts : List Lexeme) → is_end (kind_at ts) ≡ false
      → BoundAt expr_height (1) room
      (10) ts (choose_with inner room s ts)
  unfolding choose_with
  b_choose_with room s ts known =
      bound_fits _ _ _ _ _ _ _ _ (known) (λ less22. omega arith) (λ less22.
      bound_bind token_levels _ (0) _ _ _ _ _ _ (bound_take _ _ _ _) (λ keyword p21 q21 r21. bound_bind token_levels _
      (0) _ _ _ _ _ _ (bound_token is_open_paren _ _ _ _) (λ opening p20 q20 r20. bound_bind expr_height _
      (1 + begun_levels nothing) _ _ _ _ _ _ (bound_weaker _ (1 + begun_levels nothing) (room - 1)
      (10 + begun_levels nothing) _ _ _ _ _ (omega arith) (omega arith) (good.expr Assigned nothing (room - 1) _ _))
      (λ e p19 q19 r19. bound_bind token_levels _ (0) _ _ _ _ _ _ (bound_token is_comma _ _ _ _)
      (λ separator p18 q18 r18. bound_bind expr_height _ (1 + begun_levels nothing) _ _ _ _ _ _ (bound_weaker _
      (1 + begun_levels nothing) (room - 1) (10 + begun_levels nothing) _ _ _ _ _ (omega arith) (omega arith)
      (good.expr Assigned nothing (room - 1) _ _)) (λ e2 p17 q17 r17. bound_bind token_levels _ (0) _ _ _ _ _ _
      (bound_token is_comma _ _ _ _) (λ separator2 p16 q16 r16. bound_bind expr_height _ (1 + begun_levels nothing) _ _
      _ _ _ _ (bound_weaker _ (1 + begun_levels nothing) (room - 1) (10 + begun_levels nothing) _ _ _ _ _ (omega arith)
      (omega arith) (good.expr Assigned nothing (room - 1) _ _)) (λ e3 p15 q15 r15. bound_bind token_levels _
      (0) _ _ _ _ _ _ (bound_token is_close_paren _ _ _ _) (λ closing p14 q14 r14. bound_weaker _ (expr_height
      (choose keyword.tree opening.tree e.tree separator.tree e2.tree separator2.tree e3.tree closing.tree)) room
      (expr_height (choose keyword.tree opening.tree e.tree separator.tree e2.tree separator2.tree e3.tree closing.tree)
      + 10) _ _ _ _ _ (omega arith) (omega arith) (b_postfixed room (choose keyword.tree opening.tree e.tree
      separator.tree e2.tree separator2.tree e3.tree closing.tree) _ _))))))))))

  pub b_default_assoc_with : (room : ℕ) (s : HeldScopes) (ts : List Lexeme) → is_end (kind_at ts) ≡ false
      → BoundAt assoc_height
      (3) room (13) ts (default_assoc_with inner room s ts)
  unfolding default_assoc_with
  b_default_assoc_with room s ts known =
      bound_fits _ _ _ _ _ _ _ _ (known) (λ less26. omega arith)
      (λ less26. bound_bind token_levels _ (0) _ _ _ _ _ _ (bound_take _ _ _ _) (λ keyword p25 q25 r25.
      bound_bind token_levels _ (0) _ _ _ _ _ _ (bound_token is_colon _ _ _ _) (λ colon p24 q24 r24.
      bound_bind expr_height _ (1 + begun_levels nothing) _ _ _ _ _ _ (bound_weaker _ (1 + begun_levels nothing)
      (room - 1) (10 + begun_levels nothing) _ _ _ _ _ (omega arith) (omega arith)
      (good.expr Assigned nothing (room - 1) _ _)) (λ e p23 q23 r23. bound_ends _ _ _ _ _ _ _ (omega arith)))))

  pub b_typed_assoc_with : (room : ℕ) (s : HeldScopes) (ts : List Lexeme) → is_end (kind_at ts) ≡ false
      → BoundAt assoc_height (3)
      room (13) ts (typed_assoc_with inner room s ts)
  unfolding typed_assoc_with
  b_typed_assoc_with room s ts known =
      bound_fits _ _ _ _ _ _ _ _ (known) (λ less30. omega arith) (λ less30. bound_bind type_name_height _ (2) _ _ _ _ _
      _ (bound_weaker _ (2) (room - 1) (12) _ _ _ _ _ (omega arith) (omega arith) (good.type_name (room - 1) _ _))
      (λ t p29 q29 r29. bound_bind token_levels _ (0) _ _ _ _ _ _ (bound_token is_colon _ _ _ _) (λ colon p28 q28 r28.
      bound_bind expr_height _ (1 + begun_levels nothing) _ _ _ _ _ _ (bound_weaker _ (1 + begun_levels nothing)
      (room - 1) (10 + begun_levels nothing) _ _ _ _ _ (omega arith) (omega arith)
      (good.expr Assigned nothing (room - 1) _ _)) (λ e p27 q27 r27. bound_ends _ _ _ _ _ _ _ (omega arith)))))

  role_known : (role : Role) (s : HeldScopes) (kind : TokenKind) → begins_role role s kind ≡ true → is_end kind ≡ false
  role_known role s kind is = known_by (λ kind. begins_role role s kind) refl kind is

  pub b_assoc_with : (room : ℕ) (s : HeldScopes) (ts : List Lexeme)
      → BoundAt assoc_height (3) room (13) ts (assoc_with inner room
      s ts)
  unfolding assoc_with
  b_assoc_with room s ts =
      bound_if _ _ _ _ _ (is_default (kind_at ts)) (default_assoc_with inner room s ts)
      (if begins_role Naming s (kind_at ts) then (typed_assoc_with inner room s ts) else (refuses Unexpected ts))
      (λ is. b_default_assoc_with room s ts (known_by (λ kind9. is_default kind9) refl (kind_at ts) is))
      (λ off. bound_if _ _ _ _ _ (begins_role Naming s (kind_at ts)) (typed_assoc_with inner room s ts)
      (refuses Unexpected ts) (λ is. b_typed_assoc_with room s ts (role_known Naming s (kind_at ts) is))
      (λ off2. record { held = λ e. absurd cc }))

  pub b_next_assoc : (room : ℕ) (token : ℕ) (s : HeldScopes) (ts : List Lexeme)
      → BoundAt (next_height {E = ⊥} assoc_height) (3)
      room (13) ts (next_assoc inner room token s ts)
  unfolding next_assoc
  b_next_assoc room token s ts =
      bound_bind assoc_height _ (3) _ _ _ _ _ _ (b_assoc_with room _ _)
      (λ x p31 q31 r31. bound_ends _ _ _ _ _ _ _ (omega arith))

  pub b_generic_with : (room : ℕ) (s : HeldScopes) (ts : List Lexeme) → is_end (kind_at ts) ≡ false
      → BoundAt expr_height (1) room
      (10) ts (generic_with inner room s ts)
  unfolding generic_with
  b_generic_with room s ts known =
      bound_fits _ _ _ _ _ _ _ _ (known) (λ less39. omega arith) (λ less39. bound_bind token_levels _ (0) _ _ _ _ _ _
      (bound_take _ _ _ _) (λ keyword p38 q38 r38. bound_bind token_levels _ (0) _ _ _ _ _ _
      (bound_token is_open_paren _ _ _ _) (λ opening p37 q37 r37. bound_bind expr_height _ (1 + begun_levels nothing) _
      _ _ _ _ _ (bound_weaker _ (1 + begun_levels nothing) (room - 1) (10 + begun_levels nothing) _ _ _ _ _
      (omega arith) (omega arith) (good.expr Assigned nothing (room - 1) _ _)) (λ e p36 q36 r36.
      bound_bind token_levels _ (0) _ _ _ _ _ _ (bound_token is_comma _ _ _ _) (λ separator p35 q35 r35.
      bound_bind (list_height {E = ⊥} (assoc_height)) _ (3) _ _ _ _ _ _ (bound_weaker _ (3) (room - 1) (13) _ _ _ _ _
      (omega arith) (omega arith) (bound_listed (assoc_with inner (room - 1)) (next_assoc inner (room - 1))
      (assoc_height) (3) (room - 1) (13) (λ comma. next_assoc_falls all tokens n inner laws (room - 1) comma)
      (omega arith) _ _ (b_assoc_with (room - 1) _ _) (λ comma s9 ts9. b_next_assoc (room - 1) comma _ _)))
      (λ xs p34 q34 r34. let low_xs = low_assocs xs.tree.items in bound_bind token_levels _ (0) _ _ _ _ _ _
      (bound_token is_close_paren _ _ _ _) (λ closing p33 q33 r33. bound_weaker _ (expr_height (generic keyword.tree
      opening.tree e.tree (assocs_from xs.tree.items) closing.tree)) room (expr_height (generic keyword.tree
      opening.tree e.tree (assocs_from xs.tree.items) closing.tree) + 10) _ _ _ _ _ (omega arith) (omega arith)
      (b_postfixed room (generic keyword.tree opening.tree e.tree (assocs_from xs.tree.items) closing.tree) _ _))))))))

  pub b_unary_by : (a0 : Opening) (room : ℕ) (s : HeldScopes) (ts : List Lexeme)
      → ((a0 ≡ openings.Nothing → ⊥) → is_end (kind_at
      ts) ≡ false) → BoundAt expr_height (1) room (10) ts (unary_by inner a0 room s ts)
  unfolding unary_by
  b_unary_by (openings.Prefix p reach) room s ts known =
      bound_weaker _ (1) room (10) _ _ _ _ _ (omega arith) (omega arith)
      (b_prefix_with p reach room _ _ (known (λ e9. absurd cc)))
  b_unary_by (openings.Sizeof keyword) room s ts known =
      bound_weaker _ (1) room (10) _ _ _ _ _ (omega arith) (omega arith)
      (b_sizeof_with keyword room _ _ (known (λ e9. absurd cc)))
  b_unary_by openings.Extension room s ts known =
      bound_weaker _ (1) room (10) _ _ _ _ _ (omega arith) (omega arith)
      (b_extension_with room _ _ (known (λ e9. absurd cc)))
  b_unary_by (openings.Name name) room s ts known =
      bound_weaker _ (1) room (10) _ _ _ _ _ (omega arith) (omega arith)
      (b_name_with name room s ts (known (λ e9. absurd cc)))
  b_unary_by openings.Number room s ts known =
      bound_weaker _ (1) room (10) _ _ _ _ _ (omega arith) (omega arith)
      (b_primary_with number_use room _ _ (known (λ e9. absurd cc)) (λ token9. omega arith))
  b_unary_by openings.Char room s ts known =
      bound_weaker _ (1) room (10) _ _ _ _ _ (omega arith) (omega arith)
      (b_primary_with char_use room _ _ (known (λ e9. absurd cc))
      (λ token9. omega arith))
  b_unary_by openings.Text room s ts known =
      bound_weaker _ (1) room (10) _ _ _ _ _ (omega arith) (omega arith)
      (b_text_with room _ _ (known (λ e9. absurd cc)))
  b_unary_by openings.Paren room s ts known =
      bound_weaker _ (1) room (10) _ _ _ _ _ (omega arith) (omega arith)
      (b_opened_with false room _ _ (known (λ e9. absurd cc)))
  b_unary_by openings.VaArg room s ts known =
      bound_weaker _ (1) room (10) _ _ _ _ _ (omega arith) (omega arith)
      (b_va_arg_with room _ _ (known (λ e9. absurd cc)))
  b_unary_by openings.VaStart room s ts known =
      bound_weaker _ (1) room (10) _ _ _ _ _ (omega arith) (omega arith)
      (b_va_two_with va_start room _ _ (known (λ e9. absurd cc))
      (λ a b e x e2 y. omega arith))
  b_unary_by openings.VaCopy room s ts known =
      bound_weaker _ (1) room (10) _ _ _ _ _ (omega arith) (omega arith)
      (b_va_two_with va_copy room _ _ (known (λ e9. absurd cc))
      (λ a b e x e2 y. omega arith))
  b_unary_by openings.Offset room s ts known =
      bound_weaker _ (1) room (10) _ _ _ _ _ (omega arith) (omega arith)
      (b_offset_with room _ _ (known (λ e9. absurd cc)))
  b_unary_by openings.Part room s ts known =
      bound_weaker _ (1) room (10) _ _ _ _ _ (omega arith) (omega arith)
      (b_part_with room _ _ (known (λ e9. absurd cc)))
  b_unary_by openings.Label room s ts known =
      bound_weaker _ (1) room (10) _ _ _ _ _ (omega arith) (omega arith)
      (b_label_use_with room _ _ (known (λ e9. absurd cc)))
  b_unary_by openings.Compat room s ts known =
      bound_weaker _ (1) room (10) _ _ _ _ _ (omega arith) (omega arith)
      (b_compat_with room _ _ (known (λ e9. absurd cc)))
  b_unary_by openings.Choose room s ts known =
      bound_weaker _ (1) room (10) _ _ _ _ _ (omega arith) (omega arith)
      (b_choose_with room _ _ (known (λ e9. absurd cc)))
  b_unary_by openings.Generic room s ts known =
      bound_weaker _ (1) room (10) _ _ _ _ _ (omega arith) (omega arith)
      (b_generic_with room _ _ (known (λ e9. absurd cc)))
  b_unary_by openings.Nothing room s ts known =
      record { held = λ e. absurd cc }

  pub b_unary_with : (room : ℕ) (s : HeldScopes) (ts : List Lexeme)
      → BoundAt expr_height (1) room (10) ts (unary_with inner room s ts)
  unfolding unary_with
  b_unary_with room s ts =
      bound_weaker _ (1) room (10) _ _ _ _ _ (omega arith) (omega arith)
      (b_unary_by (opening_of (kind_at ts)) room _ _ (known_of opening_of openings.Nothing refl (kind_at ts)))

  pub b_cast_with : (room : ℕ) (s : HeldScopes) (ts : List Lexeme)
      → BoundAt expr_height (1) room (10) ts (cast_with inner room s ts)
  unfolding cast_with
  b_cast_with room s ts =
      bound_if _ _ _ _ _ (is_open_paren (kind_at ts)) (opened_with inner true room s ts) (unary_with inner room s ts)
      (λ is218. bound_weaker _ (1) room (10) _ _ _ _ _ (omega arith) (omega arith)
      (b_opened_with true room _ _ (known_by (λ kind9. is_open_paren kind9) refl (kind_at ts) is218)))
      (λ is218. bound_weaker _ (1) room (10) _ _ _ _ _ (omega arith) (omega arith) (b_unary_with room _ _))

  pub b_operand_with : (a0 : Begun) (room : ℕ) (s : HeldScopes) (ts : List Lexeme)
      → BoundAt expr_height (1 + begun_levels a0) room
      (10 + begun_levels a0) ts (operand_with inner a0 room s ts)
  unfolding operand_with
  b_operand_with nothing room s ts =
      bound_weaker _ (1) room (10) _ _ _ _ _ (omega arith) (omega arith) (b_cast_with room _ _)
  b_operand_with (extensions tokens) room s ts =
      bound_bind expr_height _ (1) _ _ _ _ _ _ (bound_weaker _ (1) (room - length tokens) (10) _ _ _ _ _ (omega arith)
      (omega arith) (b_cast_with (room - length tokens) _ _))
      (λ e b219 e220 l221. bound_ends _ _ _ _ _ _ _ (let f222 = low_extended tokens e.tree in omega arith))
  b_operand_with (star token) room s ts =
      bound_bind expr_height _ (1) _ _ _ _ _ _ (bound_weaker _ (1) (room - 1) (10) _ _ _ _ _ (omega arith) (omega arith)
      (b_cast_with (room - 1) _ _)) (λ e b223 e224 l225. bound_ends _ _ _ _ _ _ _ (omega arith))

  -- an operator and the operand behind it
  operation_bound : (op : Operator) → operator_height op ≤ 0
      → (left : Settled) (room : ℕ) (s : HeldScopes) (ts : List Lexeme) (c :
      ℕ) → 1 ≤ c → pot left.below (expr_height left.last) ≤ c → is_end (kind_at ts) ≡ false →
      BoundAt row_height c room (c + 9) ts (operation_with inner op left room s ts)
  operation_bound op none left room s ts c high low known =
      let least = pot_least left.below (expr_height left.last) in
      bound_fits row_height c room (c + 9) (depth_of left + expr_height left.last) room ts
      (and_then (take_one s ts) (λ token. and_then (cast_with inner (room - depth_of left) token.scopes token.rest)
      (λ e. ends (with_operand left op token.tree e.tree) e.scopes e.rest))) known (λ less. omega arith)
      (λ enough. bound_bind token_levels row_height 0 c room (c + 9) ts (take_one s ts)
      (λ token. and_then (cast_with inner (room - depth_of left) token.scopes token.rest)
      (λ e. ends (with_operand left op token.tree e.tree) e.scopes e.rest)) (bound_take room (c + 9) s ts)
      (λ token b1 e1 l1. bound_bind expr_height row_height 1 (8 * length b1 + c) room
      (8 * length b1 + (c + 9)) token.rest (cast_with inner (room - depth_of left) token.scopes token.rest) (λ e. ends
      (with_operand left op token.tree e.tree) e.scopes e.rest) (bound_weaker expr_height 1 (room - depth_of left) 10 1
      room (8 * length b1 + (c + 9)) token.rest (cast_with inner (room - depth_of left) token.scopes token.rest)
      (omega arith) (omega arith) (b_cast_with (room - depth_of left) token.scopes token.rest)) (λ e b2 e2 l2.
      bound_ends row_height (8 * length b2 + (8 * length b1 + c)) room (8 * length b2 + (8 * length b1 + (c + 9)))
      (with_operand left op token.tree e.tree) e.scopes e.rest (pot_both left.below (expr_height left.last)
      (max (expr_height left.last) (max (operator_height op) (expr_height e.tree)) + 1)
      (max (expr_height left.last) (max (operator_height op) (expr_height e.tree)) + 1) c
      (8 * length b2 + (8 * length b1 + c)) low (omega arith) (omega arith) (omega arith)))))

  pub b_middle_with : (room : ℕ) (s : HeldScopes) (ts : List Lexeme)
      → BoundAt some_expr_height (1) room (10) ts (middle_with inner
      room s ts)
  unfolding middle_with
  b_middle_with room s ts =
      bound_if _ _ _ _ _ (is_colon (kind_at ts)) (ends no_expr s ts) (and_then (inner.expr Whole nothing room s ts)
      (λ e. (ends (some_expr e.tree) e.scopes e.rest))) (λ is226. bound_ends _ _ _ _ _ _ _ (omega arith))
      (λ is226. bound_bind expr_height _ (1 + begun_levels nothing) _ _ _ _ _ _
      (bound_weaker _ (1 + begun_levels nothing) room (10 + begun_levels nothing) _ _ _ _ _ (omega arith) (omega arith)
      (good.expr Whole nothing room _ _)) (λ e b227 e228 l229. bound_ends _ _ _ _ _ _ _ (omega arith)))

  question_bound : (left : Settled) (room : ℕ) (s : HeldScopes) (ts : List Lexeme) (c : ℕ) → 1 ≤ c
      → pot left.below (expr_height
      left.last) ≤ c → is_end (kind_at ts) ≡ false →
      BoundAt row_height c room (c + 9) ts (question_with inner left room s ts)
  question_bound left room s ts c high low known =
      let least = pot_least left.below (expr_height left.last) in
      bound_fits row_height c room (c + 9) (depth_of left + expr_height left.last) room ts
      (and_then (take_one s ts) (λ token. (and_then (middle_with inner (room - depth_of left) token.scopes token.rest)
      (λ middle. (and_then (token_at is_colon middle.scopes middle.rest)
      (λ colon. (and_then (cast_with inner (room - depth_of left) colon.scopes colon.rest)
      (λ e. ends (with_operand left (cond middle.tree colon.tree) token.tree e.tree) e.scopes e.rest)))))))) known
      (λ less. omega arith) (λ enough. bound_bind token_levels row_height 0 c room (c + 9) ts (take_one s ts)
      (λ token. (and_then (middle_with inner (room - depth_of left) token.scopes token.rest)
      (λ middle. (and_then (token_at is_colon middle.scopes middle.rest)
      (λ colon. (and_then (cast_with inner (room - depth_of left) colon.scopes colon.rest)
      (λ e. ends (with_operand left (cond middle.tree colon.tree) token.tree e.tree) e.scopes e.rest)))))))
      (bound_take room (c + 9) s ts) (λ token b1 e1 l1. bound_bind some_expr_height row_height 1 (8 * length b1 + c)
      room (8 * length b1 + (c + 9)) token.rest (middle_with inner (room - depth_of left) token.scopes token.rest)
      (λ middle. (and_then (token_at is_colon middle.scopes middle.rest)
      (λ colon. (and_then (cast_with inner (room - depth_of left) colon.scopes colon.rest)
      (λ e. ends (with_operand left (cond middle.tree colon.tree) token.tree e.tree) e.scopes e.rest)))))
      (bound_weaker some_expr_height 1 (room - depth_of left) 10 1 room (8 * length b1 + (c + 9)) token.rest
      (middle_with inner (room - depth_of left) token.scopes token.rest) (omega arith) (omega arith)
      (b_middle_with (room - depth_of left) token.scopes token.rest)) (λ middle b2 e2 l2.
      bound_bind token_levels row_height 0 (8 * length b2 + (8 * length b1 + c)) room
      (8 * length b2 + (8 * length b1 + (c + 9))) middle.rest (token_at is_colon middle.scopes middle.rest)
      (λ colon. (and_then (cast_with inner (room - depth_of left) colon.scopes colon.rest)
      (λ e. ends (with_operand left (cond middle.tree colon.tree) token.tree e.tree) e.scopes e.rest)))
      (bound_token is_colon room (8 * length b2 + (8 * length b1 + (c + 9))) middle.scopes middle.rest)
      (λ colon b3 e3 l3. bound_bind expr_height row_height 1 (8 * length b3 + (8 * length b2 + (8 * length b1 + c)))
      room (8 * length b3 + (8 * length b2 + (8 * length b1 + (c + 9)))) colon.rest
      (cast_with inner (room - depth_of left) colon.scopes colon.rest) (λ e. ends
      (with_operand left (cond middle.tree colon.tree) token.tree e.tree) e.scopes e.rest) (bound_weaker expr_height 1
      (room - depth_of left) 10 1 room (8 * length b3 + (8 * length b2 + (8 * length b1 + (c + 9)))) colon.rest
      (cast_with inner (room - depth_of left) colon.scopes colon.rest) (omega arith) (omega arith)
      (b_cast_with (room - depth_of left) colon.scopes colon.rest)) (λ e b4 e4 l4.
      bound_ends row_height (8 * length b4 + (8 * length b3 + (8 * length b2 + (8 * length b1 + c)))) room
      (8 * length b4 + (8 * length b3 + (8 * length b2 + (8 * length b1 + (c + 9)))))
      (with_operand left (cond middle.tree colon.tree) token.tree e.tree) e.scopes e.rest (pot_both left.below
      (expr_height left.last) (max (expr_height left.last) (max (some_expr_height middle.tree) (expr_height e.tree))
      + 1) (max (expr_height left.last) (max (some_expr_height middle.tree) (expr_height e.tree)) + 1) c (8 * length b4
      + (8 * length b3 + (8 * length b2 + (8 * length b1 + c)))) low (omega arith) (omega arith) (omega arith)))))))

  operation_step : (reach : Reach) (room : ℕ) (row : OperandRow) (s : HeldScopes) (ts : List Lexeme) (c : ℕ) → 1 ≤ c
      → row_height row ≤ c →
      StepAt row_height c room (c + 9) ts (operation_turn inner reach room row s ts)
  operation_step reach room row s ts c high low =
      by_infix (infix_of (kind_at ts)) (known_of infix_of infixes.Nothing refl (kind_at ts))
    where
      at_level : (level : ℕ) → pot (settled row level).below (expr_height (settled row level).last) ≤ c
      at_level level = let same = settled_pot level row.waiting row.last in omega arith

      by_comma : (b : Bool) → is_end (kind_at ts) ≡ false
          → StepAt row_height c room (c + 9) ts (if b then Some (operation_with
          inner comma (settled row 0) room s ts) else None)
      by_comma true known = operation_bound comma (omega arith) (settled row 0) room s ts c high (at_level 0) known
      by_comma false known = tt

      by_assign : (p : Punct) (b : Bool) → is_end (kind_at ts) ≡ false
          → StepAt row_height c room (c + 9) ts (if b then Some
          (operation_with inner (assign p) (settled row 1) room s ts) else None)
      by_assign p true known =
          operation_bound (assign p) (omega arith) (settled row 1) room s ts c high (at_level 1) known
      by_assign p false known = tt

      by_target : (p : Punct) (b : Bool) → is_end (kind_at ts) ≡ false →
          StepAt row_height c room (c + 9) ts (if b then (if takes_assign reach then Some
          (operation_with inner (assign p) (settled row 1) room s ts) else None) else Some (refuses BadTarget ts))
      by_target p true known = by_assign p (takes_assign reach) known
      by_target p false known = record { held = λ e. absurd cc }

      by_infix : (i : Infix) → ((i ≡ infixes.Nothing → ⊥) → is_end (kind_at ts) ≡ false)
          → StepAt row_height c room (c + 9) ts
          (operation_by inner reach room i row s ts)
      by_infix infixes.Comma known = by_comma (takes_comma reach) (known (λ e9. absurd cc))
      by_infix (infixes.Assign p) known =
          by_target p (nat_le 14 (expr_level (settled row 1).last)) (known (λ e9. absurd cc))
      by_infix infixes.Question known =
          question_bound (settled row 2) room s ts c high (at_level 2) (known (λ e9. absurd cc))
      by_infix (infixes.Binary p) known =
          operation_bound (binary p) (omega arith) (settled row (binary_level p + 2)) room s ts c
          high (at_level (binary_level p + 2)) (known (λ e9. absurd cc))
      by_infix infixes.Nothing known = tt

  pub b_row_with : (reach : Reach) (begun : Begun) (room : ℕ) (s : HeldScopes) (ts : List Lexeme)
      → BoundAt expr_height (1 +
      begun_levels begun) room (10 + begun_levels begun) ts (row_with inner reach begun room s ts)
  unfolding row_with
  b_row_with reach begun room s ts =
      bound_bind expr_height expr_height (1 + begun_levels begun) (1 + begun_levels begun) room
      (10 + begun_levels begun) ts (operand_with inner begun room s ts) (λ e. and_then
      (run (operation_turn inner reach room) (record { waiting = bottom; last = e.tree }) e.scopes e.rest)
      (λ row. ends (finished row.tree.waiting row.tree.last) row.scopes row.rest)) (b_operand_with begun room s ts)
      (λ e b1 e1 l1. bound_bind row_height expr_height (8 * length b1 + (1 + begun_levels begun))
      (8 * length b1 + (1 + begun_levels begun)) room (8 * length b1 + (10 + begun_levels begun)) e.rest
      (run (operation_turn inner reach room) (record { waiting = bottom; last = e.tree }) e.scopes e.rest)
      (λ row. ends (finished row.tree.waiting row.tree.last) row.scopes row.rest) (bound_weaker row_height
      (8 * length b1 + (1 + begun_levels begun)) room (8 * length b1 + (1 + begun_levels begun) + 9)
      (8 * length b1 + (1 + begun_levels begun)) room (8 * length b1 + (10 + begun_levels begun)) e.rest
      (run (operation_turn inner reach room) (record { waiting = bottom; last = e.tree }) e.scopes e.rest) (omega arith)
      (omega arith) (bound_run (operation_turn inner reach room) (operation_turn_shrinks all tokens n inner laws reach
      room) row_height room 9 1 (operation_step reach room) (record { waiting = bottom; last = e.tree }) e.scopes e.rest
      (8 * length b1 + (1 + begun_levels begun)) (omega arith) l1)) (λ row b2 e2 l2.
      bound_ends expr_height (8 * length b2 + (8 * length b1 + (1 + begun_levels begun))) room
      (8 * length b2 + (8 * length b1 + (10 + begun_levels begun))) (finished row.tree.waiting row.tree.last) row.scopes
      row.rest (let same = finished_pot row.tree.waiting row.tree.last in omega arith)))

  pub b_expr_with : (a0 : Reach) (begun : Begun) (room : ℕ) (s : HeldScopes) (ts : List Lexeme)
      → BoundAt expr_height (1 +
      begun_levels begun) room (10 + begun_levels begun) ts (expr_with inner a0 begun room s ts)
  unfolding expr_with
  b_expr_with Whole begun room s ts =
      bound_weaker _ (1 + begun_levels begun) room (10 + begun_levels begun) _ _ _ _ _ (omega arith) (omega arith)
      (b_row_with Whole begun room _ _)
  b_expr_with Assigned begun room s ts =
      bound_weaker _ (1 + begun_levels begun) room (10 + begun_levels begun) _ _ _ _ _ (omega arith) (omega arith)
      (b_row_with Assigned begun room _ _)
  b_expr_with Conditional begun room s ts =
      bound_weaker _ (1 + begun_levels begun) room (10 + begun_levels begun) _ _ _ _ _ (omega arith) (omega arith)
      (b_row_with Conditional begun room _ _)
  b_expr_with Castable begun room s ts =
      bound_weaker _ (1 + begun_levels begun) room (10 + begun_levels begun) _ _ _ _ _ (omega arith) (omega arith)
      (b_operand_with begun room _ _)
  b_expr_with Unary begun room s ts =
      bound_weaker _ (1) room (10) _ _ _ _ _ (omega arith) (omega arith) (b_unary_with room _ _)
