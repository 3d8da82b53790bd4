-- Statements: each is completed by `;` in the place of the statements inside, and a name alone by `: ;`.
use Rattle.std.proofs.Common.{◌≡◌, ℕ, suc, ◌<◌, ◌≤◌, Bool, true, false, if◌then◌else◌, List, [], ◌∷◌, length, inl, inr, refl, ◌∙◌, ap, arith}
use Rattle.std.specs.Prelude.{◌-◌, ◌&&◌, not}
use Rattle.std.proofs.lemmas.Bool.{and_right}
use Rattle.qual_base.proofs.Tests.{and_second}
use Rattle.c_words.specs.declared.kinds.TokenKind.{TokenKind}
use Rattle.c_words.specs.declared.kinds.TokenKind.TheVariants as kinds
use Rattle.c_words.specs.declared.kinds.Punct.TheVariants as puncts
use Rattle.c_words.specs.declared.kinds.Keyword.TheVariants as keywords
use Rattle.c_tree.specs.declared.lexeme.Lexeme.{Lexeme}
use Rattle.c_syntax.specs.declared.parts.Word.{Word}
use Rattle.c_tree.specs.Tree.{Expr, SomeExpr, no_expr, some_expr, Stmt, block, expr_stmt, attr_stmt, case_stmt, case_range, goto_value, default_stmt, if_stmt, switch_stmt, while_stmt, do_stmt, for_stmt, goto_stmt, continue_stmt, break_stmt, return_stmt, asm_stmt, SomeElse, no_else, some_else, ForStart, start_declaration, start_value}
use Rattle.c_units.specs.HeldScopes.{HeldScopes, is_wide, names_type, new_scope, enter, leave}
use Rattle.c_reading.specs.declared.kinds.FaultKind.TheVariants.{Unexpected}
use Rattle.c_reading.specs.declared.kinds.Reach.{Reach}
use Rattle.c_reading.specs.declared.kinds.Reach.TheVariants.{Whole, Conditional}
use Rattle.c_reading.specs.declared.kinds.StmtStart.{StmtStart}
use Rattle.c_reading.specs.declared.kinds.StmtStart.TheVariants as starts
use Rattle.c_reading.specs.Reading.{Reader, ends, refuses, fits, kind_at, behind_first, take_one, token_at, and_then}
use Rattle.c_reading.specs.Tokens.{is_dots, is_star, is_semicolon, is_colon, is_open_paren, is_close_paren, is_while, is_else, is_extension, is_end, is_made, asm_word_of, identifier_of, name_at, attrs_at, extensions_at, asm_words_at, group_at}
use Rattle.c_reading.specs.Parts.{Inner, Begun, nothing, extensions}
use Rattle.c_reading.specs.Specifying.{begins_specs}
use Rattle.c_reading.specs.Expressing.{begins_expr}
use Rattle.c_reading.specs.Stating.{stmt_start, in_own, declaration_with, expr_stmt_with, label_with, block_with, part_with, some_expr_with, range_behind, value_behind, goto_value_with, goto_name, case_with, default_with, some_else_with, if_inside, headed_inside, do_inside, start_value_with, extended_start, for_start_with, for_inside, goto_with, jump_with, return_with, asm_with, attr_stmt_with, named_stmt, stmt_by, stmt_with}
use Rattle.c_reading.proofs.Binding.{found, bind_ok, fits_is, fits_ok, if_ok}
use Rattle.c_reading.proofs.Forms.{Falls, Shrinks, shrinks_falls, name_falls}
use Rattle.c_reading.proofs.Aims.{Laws}
use Rattle.c_reading.proofs.KnotLaws.{none_tokens}
use Rattle.c_reading.proofs.StmtKinds.{start_name}
use Rattle.c_reading.proofs.StmtFalls.{stmt_shrinks}
use Rattle.reading_steps.specs.Steps.{first_kind, any, Good, Ready, Law}
use Rattle.reading_steps.specs.Stops.{is_int, is_name_kind, stops_whole, stops_expr, stops_stmt}
use Rattle.reading_steps.specs.InnerLaws.{InnerLaws, StmtPlaces}
use Rattle.reading_steps.proofs.Keeping.{kept_refl}
use Rattle.reading_steps.proofs.Steps.{behind, kind_same, refused_here, ends_good, ends_law, if_good, fits_good, ready_as, bind_good, bind_law, take_behind, good_as, good_before, ready_before, law_before, good_weaker, law_weaker, own_good, own_ready, tail_good}
use Rattle.reading_steps.proofs.Chains.{ends_falls, behind_falls, behind_shrinks, falls_shrinks, closed_shrinks, closed_falls, token_shrinks, take_shrinks, good_choice, if_good_takes, token_then, closed_law}
use Rattle.token_places.proofs.Single.{dots_end, star_end, semicolon_end, colon_end, open_paren_end, close_paren_end, while_end, else_end, mapped_law, mapped_good, mapped_ready, name_law}
use Rattle.token_places.proofs.Groups.{group_law}
use Rattle.token_places.proofs.Rows.{attrs_law, extensions_law, asm_words_law}
use Rattle.decl_places.proofs.Members.{exts_room}
use Rattle.expr_places.proofs.Facts.{semicolon_whole, close_paren_whole, colon_whole, whole_operand}
use Rattle.expr_places.proofs.Operands.{expr_law}
use Rattle.stmt_places.proofs.Declared.{semi_attribute, declaration_good, declaration_ready, declaration_shrinks}
use Rattle.stmt_places.proofs.Blocks.{int_extension, int_specs, semi_of, expr_stmt_good, expr_stmt_two, expr_stmt_shrinks, expr_stmt_name, label_rest, label_law, label_shrinks, block_places}

while_stops : (kind : TokenKind) → is_while kind ≡ true → stops_stmt kind ≡ true
while_stops (kinds.Keyword keywords.While) h = refl
while_stops kind h = absurd cc

-- what stops a statement is no `else`
stops_no_else : (kind : TokenKind) → stops_stmt kind ≡ true → is_else kind ≡ false
stops_no_else kind h = by_else (is_else kind) h
  where
    by_else : (b : Bool) → not b ≡ true → b ≡ false
    by_else true h = absurd cc
    by_else false h = refl

colon_no_dots : (kind : TokenKind) → is_colon kind ≡ true → is_dots kind ≡ false
colon_no_dots (kinds.Punct puncts.Colon) h = refl
colon_no_dots kind h = absurd cc

name_no_star : (kind : TokenKind) → is_name_kind kind ≡ true → is_star kind ≡ false
name_no_star (kinds.Name name) h = refl
name_no_star kind h = absurd cc

paren_no_asm : (kind : TokenKind) → is_open_paren kind ≡ true → is_made (asm_word_of kind) ≡ false
paren_no_asm (kinds.Punct puncts.OpenParen) h = refl
paren_no_asm kind h = absurd cc

abbrev begins_stmt : StmtStart → Bool
begins_stmt starts.Value = false
begins_stmt start = true

start_no_end : (kind : TokenKind) → begins_stmt (stmt_start kind) ≡ true → is_end kind ≡ false
start_no_end kinds.End h = absurd cc
start_no_end kind h = refl

-- A part in a scope of its own.

-- a reader that is lawful is so in a scope of its own too, and keeps the scopes outside
pub own_law : {A : Type 0} (read : Reader A) (front stops : TokenKind → Bool) → Law false read front stops
    → Law true (in_own read) front stops
own_law read front stops l = record {
  good = λ s ts. own_good (λ s. new_scope (is_wide s)) read (λ x t. x) stops s ts (l.good (enter s) ts);
  ready = λ s at. own_ready (λ s. new_scope (is_wide s)) read (λ x t. x) front stops s at (l.ready (enter s) at);
}

-- a reader that leaves no more tokens than it was given does so in a scope of its own too
own_falls : {A : Type 0} (read : Reader A) → Falls read → Falls (in_own read)
own_falls read falls s ts x e =
    let a = bind_ok e in
    let one : length a.0.rest ≤ length ts = falls (enter s) ts a.0 a.1 in
    let two = ends_falls a.0.tree (leave a.0.scopes) a.0.rest x a.2 in
    omega (arith, one, two)

module _ (n : ℕ) (inner : Inner) (laws : Laws [] n inner) (places : InnerLaws n inner) where
  value_law : (reach : Reach) (room : ℕ) → room < suc n → 2 ≤ room → (fewer : TokenKind → Bool)
      → ((kind : TokenKind) → fewer kind ≡ true → stops_expr reach kind ≡ true) →
      Law false (inner.expr reach nothing (room - 1)) any fewer
  value_law reach room less two fewer h =
      law_weaker false (inner.expr reach nothing (room - 1)) any fewer
      (expr_law n inner laws places reach room less two any fewer (λ kind h. refl) h)

  inner_law : (room : ℕ) → room < suc n → 2 ≤ room → Law true (inner.stmt (room - 1)) is_semicolon stops_stmt
  inner_law room less two = record {
    good = places.stmts.good (room - 1) (omega arith);
    ready = places.stmts.ready (room - 1) (omega arith) (omega arith);
  }

  stmt_law : (keep : Bool) (room : ℕ) → room < suc n → 2 ≤ room → Law keep (inner.stmt (room - 1)) any stops_stmt
  stmt_law keep room less two =
      law_weaker keep (inner.stmt (room - 1)) any stops_stmt (law_before true (inner.stmt (room - 1)) is_semicolon any
      stops_stmt stops_stmt (λ kind h. h) (λ kind h. refl) (inner_law room less two))

  part_law : (room : ℕ) → room < suc n → 2 ≤ room → Law false (part_with inner (room - 1)) any stops_stmt
  part_law room less two =
      law_weaker false (part_with inner (room - 1)) any stops_stmt
      (own_law (inner.stmt (room - 1)) any stops_stmt (stmt_law false room less two))

  part_falls : (room : ℕ) → Falls (part_with inner room)
  part_falls room = own_falls (inner.stmt room) (shrinks_falls (inner.stmt room) (laws.stmts.shrinks room))

  -- [expr], before a token that may stand behind one
  some_expr_law : (test : TokenKind → Bool) → ((kind : TokenKind) → test kind ≡ true → stops_whole kind ≡ true)
      → (room : ℕ) → room < n → (keep : Bool) → Law keep (some_expr_with inner test room) any test
  unfolding some_expr_with
  some_expr_law test whole room less keep = record {
    good = λ s ts.
        if_good keep (λ s. test) (ends no_expr) (behind (inner.expr Whole nothing room) (λ e. ends (some_expr e))) test
        s ts (λ is. ends_good keep no_expr test s ts)
        (λ is. mapped_good keep (inner.expr Whole nothing room) some_expr test s ts
        (good_weaker keep (inner.expr Whole nothing room) test s ts (good_before true
        (inner.expr Whole nothing room) stops_whole test s ts whole (places.exprs.good Whole nothing room less s ts))))
        (λ is. inr (λ kind h. h)) (λ is. inl (λ x e. behind_shrinks (inner.expr Whole nothing room)
        (λ e. ends (some_expr e)) (laws.exprs.shrinks Whole nothing room) (λ e. ends_falls (some_expr e)) s ts x e));
    ready = λ s at. record {
      more = [];
      tree = no_expr;
      scopes = s;
      keeps = kept_refl keep s;
      begins = λ k h. refl;
      reads = λ k h. rw h refl;
    };
  }

  some_expr_falls : (test : TokenKind → Bool) (room : ℕ) → Falls (some_expr_with inner test room)
  unfolding some_expr_with
  some_expr_falls test room s ts x e =
      if_ok (test (kind_at ts)) e (λ is e. ends_falls no_expr s ts x e)
      (λ is e. behind_falls (inner.expr Whole nothing room) (λ e. ends (some_expr e)) (shrinks_falls
      (inner.expr Whole nothing room) (laws.exprs.shrinks Whole nothing room)) (λ e. ends_falls (some_expr e)) s ts x e)

  case_good : (room : ℕ) → room < suc n → (s : HeldScopes) (ts : List Lexeme) → is_end (kind_at ts) ≡ false
      → Good true (case_with inner room) stops_stmt s ts
  unfolding case_with value_behind range_behind and_then
  case_good room less s ts known =
      fits_good true 2 room (behind take_one all) stops_stmt s ts
      (λ fit. take_behind true all stops_stmt (all_law fit) s ts known)
    where
      last : ℕ → Expr → ℕ → Reader Stmt
      last keyword e colon = behind (inner.stmt (room - 1)) (λ t. ends (case_stmt keyword e colon t))

      one : ℕ → Expr → Reader Stmt
      one keyword e = behind (token_at is_colon) (last keyword e)

      one_law : 2 ≤ room → (keyword : ℕ) (e : Expr) → Law true (one keyword e) is_colon stops_stmt
      one_law two keyword e =
          token_then true is_colon (kinds.Punct puncts.Colon) is_colon stops_stmt (last keyword e) refl refl colon_end
          (λ colon. mapped_law true (inner.stmt (room - 1)) (case_stmt keyword e colon) any stops_stmt
          (stmt_law true room less two))

      one_shrinks : (keyword : ℕ) (e : Expr) → Shrinks (one keyword e)
      one_shrinks keyword e =
          behind_shrinks (token_at is_colon) (last keyword e) (token_shrinks is_colon)
          (λ colon. behind_falls (inner.stmt (room - 1)) (λ t. ends (case_stmt keyword e colon t)) (shrinks_falls
          (inner.stmt (room - 1)) (laws.stmts.shrinks (room - 1))) (λ t. ends_falls (case_stmt keyword e colon t)))

      -- behind the first value of a range and its dots
      range_last : ℕ → Expr → ℕ → Expr → ℕ → Reader Stmt
      range_last keyword first dots e colon =
          behind (inner.stmt (room - 1)) (λ t. ends (case_range keyword first dots e colon t))

      range_last_falls : (keyword : ℕ) (first : Expr) (dots : ℕ) (e : Expr) (colon : ℕ)
          → Falls (range_last keyword first dots e colon)
      range_last_falls keyword first dots e colon =
          behind_falls (inner.stmt (room - 1)) (λ t. ends (case_range keyword first dots e colon t))
          (shrinks_falls (inner.stmt (room - 1)) (laws.stmts.shrinks (room - 1)))
          (λ t. ends_falls (case_range keyword first dots e colon t))

      range_rest : ℕ → Expr → ℕ → Reader Stmt
      range_rest keyword first dots =
          behind (inner.expr Conditional nothing (room - 1))
          (λ e. behind (token_at is_colon) (range_last keyword first dots e))

      range_law : 2 ≤ room → (keyword : ℕ) (first : Expr) (dots : ℕ)
          → Law true (range_rest keyword first dots) any stops_stmt
      range_law two keyword first dots =
          closed_law true (inner.expr Conditional nothing (room - 1)) is_colon (kinds.Punct puncts.Colon) any stops_stmt
          (range_last keyword first dots)
          (expr_law n inner laws places Conditional room less two any is_colon (λ kind h. refl)
          (λ kind h. whole_operand kind (colon_whole kind h))) refl colon_end
          (λ e colon. mapped_law true (inner.stmt (room - 1)) (case_range keyword first dots e colon) any stops_stmt
          (stmt_law true room less two)) (range_last_falls keyword first dots)

      range_shrinks : (keyword : ℕ) (first : Expr) → Shrinks (behind take_one (range_rest keyword first))
      range_shrinks keyword first =
          behind_shrinks take_one (range_rest keyword first) take_shrinks
          (λ dots. closed_falls (inner.expr Conditional nothing (room - 1)) is_colon (range_last keyword first dots)
          (shrinks_falls (inner.expr Conditional nothing (room - 1))
          (laws.exprs.shrinks Conditional nothing (room - 1))) (range_last_falls keyword first dots))

      is_range : HeldScopes → TokenKind → Bool
      is_range s kind = is_wide s && is_dots kind

      rest : ℕ → Expr → Reader Stmt
      rest keyword e s ts =
          if is_range s (kind_at ts) then behind take_one (range_rest keyword e) s ts else one keyword e s ts

      rest_shrinks : (keyword : ℕ) (e : Expr) → Shrinks (rest keyword e)
      rest_shrinks keyword e s ts x eq =
          if_ok (is_range s (kind_at ts)) eq (λ is eq. range_shrinks keyword e s ts x eq)
          (λ is eq. one_shrinks keyword e s ts x eq)

      rest_law : 2 ≤ room → (keyword : ℕ) (e : Expr) → Law true (rest keyword e) is_colon stops_stmt
      rest_law two keyword e = record {
        good = λ s ts.
            if_good_takes true is_range (behind take_one (range_rest keyword e)) (one keyword e) stops_stmt s ts
            (λ is. take_behind true (range_rest keyword e) stops_stmt (range_law two keyword e) s ts
            (dots_end (kind_at ts) (and_second (is_wide s) (is_dots (kind_at ts)) is)))
            (λ is. (one_law two keyword e).good s ts) (rest_shrinks keyword e);
        ready = λ s at.
            ready_as true (one keyword e) (rest keyword e) is_colon stops_stmt s at
            (λ k h. rw (and_right (is_wide s) (is_dots (kind_at k)) (colon_no_dots (kind_at k) h)) refl)
            ((one_law two keyword e).ready s at);
      }

      all : ℕ → Reader Stmt
      all keyword = behind (inner.expr Conditional nothing (room - 1)) (rest keyword)

      all_law : 2 ≤ room → (keyword : ℕ) → Law true (all keyword) any stops_stmt
      all_law two keyword =
          bind_law true (inner.expr Conditional nothing (room - 1)) (rest keyword) any is_colon stops_stmt
          (expr_law n inner laws places Conditional room less two any is_colon (λ kind h. refl)
          (λ kind h. whole_operand kind (colon_whole kind h))) (rest_law two keyword)
          (inl (λ e s ts y eq. rest_shrinks keyword e s ts y eq))

  default_good : (room : ℕ) → room < suc n → (s : HeldScopes) (ts : List Lexeme) → is_end (kind_at ts) ≡ false
      → Good true (default_with inner room) stops_stmt s ts
  unfolding default_with
  default_good room less s ts known =
      fits_good true 2 room (behind take_one all) stops_stmt s ts
      (λ fit. take_behind true all stops_stmt (all_law fit) s ts known)
    where
      last : ℕ → ℕ → Reader Stmt
      last keyword colon = behind (inner.stmt (room - 1)) (λ t. ends (default_stmt keyword colon t))

      all : ℕ → Reader Stmt
      all keyword = behind (token_at is_colon) (last keyword)

      all_law : 2 ≤ room → (keyword : ℕ) → Law true (all keyword) any stops_stmt
      all_law two keyword =
          token_then true is_colon (kinds.Punct puncts.Colon) any stops_stmt (last keyword) refl refl colon_end
          (λ colon. mapped_law true (inner.stmt (room - 1)) (default_stmt keyword colon) any stops_stmt
          (stmt_law true room less two))

  -- Statements that choose and repeat.

  else_law : (room : ℕ) → room < suc n → 2 ≤ room → Law false (some_else_with inner (room - 1)) stops_stmt stops_stmt
  unfolding some_else_with
  else_law room less two = record {
    good = λ s ts.
        if_good false (λ s. is_else) (behind take_one other) (ends no_else) stops_stmt s ts
        (λ is. take_behind false other stops_stmt other_law s ts (else_end (kind_at ts) is))
        (λ is. ends_good false no_else stops_stmt s ts)
        (λ is. inl (λ x e.
        behind_shrinks take_one other take_shrinks (λ keyword. behind_falls (part_with inner (room - 1))
        (λ t. ends (some_else keyword t)) (part_falls (room - 1)) (λ t. ends_falls (some_else keyword t))) s ts x e))
        (λ is. inr stops_no_else);
    ready = λ s at. record {
      more = [];
      tree = no_else;
      scopes = s;
      keeps = kept_refl false s;
      begins = λ k h. h;
      reads = λ k h. rw (stops_no_else (kind_at k) h) refl;
    };
  }
    where
      other : ℕ → Reader SomeElse
      other keyword = behind (part_with inner (room - 1)) (λ t. ends (some_else keyword t))

      other_law : (keyword : ℕ) → Law false (other keyword) any stops_stmt
      other_law keyword =
          mapped_law false (part_with inner (room - 1)) (some_else keyword) any stops_stmt (part_law room less two)

  else_falls : (room : ℕ) → Falls (some_else_with inner room)
  unfolding some_else_with
  else_falls room s ts x e =
      if_ok (is_else (kind_at ts)) e
      (λ is e. behind_falls take_one (λ keyword. behind (part_with inner room) (λ t. ends (some_else keyword t)))
      (shrinks_falls take_one take_shrinks)
      (λ keyword. behind_falls (part_with inner room) (λ t. ends (some_else keyword t)) (part_falls room)
      (λ t. ends_falls (some_else keyword t))) s ts x e)
      (λ is e. ends_falls no_else s ts x e)

  -- a condition in parentheses, and what stands behind it
  headed_law : {A : Type 0} (room : ℕ) → room < suc n → 2 ≤ room
      → (stops : TokenKind → Bool) (f : ℕ → Expr → ℕ → Reader A)
      → ((opening : ℕ) (e : Expr) (closing : ℕ) → Law false (f opening e closing) any stops) →
      ((opening : ℕ) (e : Expr) (closing : ℕ) → Falls (f opening e closing)) →
      Law false (behind (token_at is_open_paren) (λ opening. behind (inner.expr Whole nothing (room - 1))
      (λ e. behind (token_at is_close_paren) (f opening e)))) any stops
  headed_law room less two stops f lf falls =
      token_then false is_open_paren (kinds.Punct puncts.OpenParen) any stops
      (λ opening. behind (inner.expr Whole nothing (room - 1))
      (λ e. behind (token_at is_close_paren) (f opening e))) refl refl open_paren_end
      (λ opening. closed_law false (inner.expr Whole nothing (room - 1)) is_close_paren (kinds.Punct puncts.CloseParen)
      any stops (f opening) (value_law Whole room less two is_close_paren close_paren_whole) refl close_paren_end
      (lf opening) (falls opening))

  headed_falls : {A : Type 0} (room : ℕ) (f : ℕ → Expr → ℕ → Reader A)
      → ((opening : ℕ) (e : Expr) (closing : ℕ) → Falls (f opening e closing)) →
      Falls (behind (token_at is_open_paren) (λ opening.
      behind (inner.expr Whole nothing (room - 1)) (λ e. behind (token_at is_close_paren) (f opening e))))
  headed_falls room f falls =
      behind_falls (token_at is_open_paren)
      (λ opening. behind (inner.expr Whole nothing (room - 1)) (λ e. behind (token_at is_close_paren) (f opening e)))
      (shrinks_falls (token_at is_open_paren) (token_shrinks is_open_paren))
      (λ opening. closed_falls (inner.expr Whole nothing (room - 1)) is_close_paren (f opening) (shrinks_falls
      (inner.expr Whole nothing (room - 1)) (laws.exprs.shrinks Whole nothing (room - 1))) (falls opening))

  if_good_inside : (room : ℕ) → room < suc n → 2 ≤ room → (s : HeldScopes) (ts : List Lexeme)
      → is_end (kind_at ts) ≡ false → Good false (if_inside inner room) stops_stmt s ts
  unfolding if_inside
  if_good_inside room less two s ts known = take_behind false all stops_stmt all_law s ts known
    where
      rest : ℕ → ℕ → Expr → ℕ → Stmt → Reader Stmt
      rest keyword opening e closing t =
          behind (some_else_with inner (room - 1)) (λ other. ends (if_stmt keyword opening e closing t other))

      last : ℕ → ℕ → Expr → ℕ → Reader Stmt
      last keyword opening e closing = behind (part_with inner (room - 1)) (rest keyword opening e closing)

      all : ℕ → Reader Stmt
      all keyword =
          behind (token_at is_open_paren) (λ opening.
          behind (inner.expr Whole nothing (room - 1)) (λ e. behind (token_at is_close_paren) (last keyword opening e)))

      all_law : (keyword : ℕ) → Law false (all keyword) any stops_stmt
      all_law keyword =
          headed_law room less two stops_stmt (last keyword)
          (λ opening e closing. bind_law false (part_with inner (room - 1))
          (rest keyword opening e closing) any stops_stmt stops_stmt (part_law room less two)
          (λ t. mapped_law false (some_else_with inner (room - 1))
          (if_stmt keyword opening e closing t) stops_stmt stops_stmt (else_law room less two)) (inr (λ kind h. h)))
          (λ opening e closing.
          behind_falls (part_with inner (room - 1)) (rest keyword opening e closing) (part_falls (room - 1))
          (λ t. behind_falls (some_else_with inner (room - 1))
          (λ other. ends (if_stmt keyword opening e closing t other)) (else_falls (room - 1))
          (λ other. ends_falls (if_stmt keyword opening e closing t other))))

  headed_good : (make : ℕ → ℕ → Expr → ℕ → Stmt → Stmt) (room : ℕ) → room < suc n → 2 ≤ room
      → (s : HeldScopes) (ts : List Lexeme) → is_end (kind_at ts) ≡ false
      → Good false (headed_inside inner make room) stops_stmt s ts
  unfolding headed_inside
  headed_good make room less two s ts known = take_behind false all stops_stmt all_law s ts known
    where
      last : ℕ → ℕ → Expr → ℕ → Reader Stmt
      last keyword opening e closing =
          behind (part_with inner (room - 1)) (λ t. ends (make keyword opening e closing t))

      all : ℕ → Reader Stmt
      all keyword =
          behind (token_at is_open_paren) (λ opening.
          behind (inner.expr Whole nothing (room - 1)) (λ e. behind (token_at is_close_paren) (last keyword opening e)))

      all_law : (keyword : ℕ) → Law false (all keyword) any stops_stmt
      all_law keyword =
          headed_law room less two stops_stmt (last keyword) (λ opening e closing. mapped_law false
          (part_with inner (room - 1)) (make keyword opening e closing) any stops_stmt (part_law room less two))
          (λ opening e closing. behind_falls (part_with inner (room - 1)) (λ t. ends (make keyword opening e closing t))
          (part_falls (room - 1)) (λ t. ends_falls (make keyword opening e closing t)))

  do_good : (room : ℕ) → room < suc n → 2 ≤ room → (s : HeldScopes) (ts : List Lexeme) → is_end (kind_at ts) ≡ false
      → Good false (do_inside inner room) stops_stmt s ts
  unfolding do_inside
  do_good room less two s ts known = take_behind false all stops_stmt all_law s ts known
    where
      last : ℕ → Stmt → ℕ → ℕ → Expr → ℕ → Reader Stmt
      last keyword t keyword2 opening e closing =
          behind (token_at is_semicolon) (λ semi. ends (do_stmt keyword t keyword2 opening e closing semi))

      test : ℕ → Stmt → ℕ → Reader Stmt
      test keyword t keyword2 =
          behind (token_at is_open_paren) (λ opening. behind (inner.expr Whole nothing (room - 1))
          (λ e. behind (token_at is_close_paren) (last keyword t keyword2 opening e)))

      all : ℕ → Reader Stmt
      all keyword = behind (part_with inner (room - 1)) (λ t. behind (token_at is_while) (test keyword t))

      last_falls : (keyword : ℕ) (t : Stmt) (keyword2 opening : ℕ) (e : Expr) (closing : ℕ)
          → Falls (last keyword t keyword2 opening e closing)
      last_falls keyword t keyword2 opening e closing =
          behind_falls (token_at is_semicolon) (λ semi. ends (do_stmt keyword t keyword2 opening e closing semi))
          (shrinks_falls (token_at is_semicolon) (token_shrinks is_semicolon))
          (λ semi. ends_falls (do_stmt keyword t keyword2 opening e closing semi))

      all_law : (keyword : ℕ) → Law false (all keyword) any stops_stmt
      all_law keyword =
          closed_law false (part_with inner (room - 1)) is_while (kinds.Keyword keywords.While) any stops_stmt
          (test keyword)
          (law_before false (part_with inner (room - 1)) any any stops_stmt is_while while_stops (λ kind h. h)
          (part_law room less two)) refl while_end
          (λ t keyword2. headed_law room less two stops_stmt (last keyword t keyword2)
          (λ opening e closing. token_then false is_semicolon (kinds.Punct puncts.Semicolon) any stops_stmt
          (λ semi. ends (do_stmt keyword t keyword2 opening e closing semi)) refl refl semicolon_end
          (λ semi. ends_law false (do_stmt keyword t keyword2 opening e closing semi) any stops_stmt (λ kind h. refl)))
          (last_falls keyword t keyword2))
          (λ t keyword2. headed_falls room (last keyword t keyword2) (last_falls keyword t keyword2))

  -- What a `for` begins with.

  start_value_good : (begun : Begun) (room : ℕ) → room < n → (s : HeldScopes) (ts : List Lexeme)
      → Good false (start_value_with inner begun room) any s ts
  unfolding start_value_with
  start_value_good begun room less s ts =
      bind_good false (inner.expr Whole begun room) rest is_semicolon any s ts
      (λ e scopes gives at. (rest_law e).ready scopes at)
      (good_weaker false (inner.expr Whole begun room) is_semicolon s ts (good_before true (inner.expr Whole begun room)
      stops_whole is_semicolon s ts semicolon_whole (places.exprs.good Whole begun room less s ts)))
      (λ x is. (rest_law x.tree).good x.scopes x.rest)
      (inl (λ x y is e. behind_shrinks (token_at is_semicolon) (λ semi. ends (start_value (some_expr x.tree) semi))
      (token_shrinks is_semicolon) (λ semi. ends_falls (start_value (some_expr x.tree) semi)) x.scopes x.rest y e))
    where
      rest : Expr → Reader ForStart
      rest e = behind (token_at is_semicolon) (λ semi. ends (start_value (some_expr e) semi))

      rest_law : (e : Expr) → Law false (rest e) is_semicolon any
      rest_law e =
          token_then false is_semicolon (kinds.Punct puncts.Semicolon) is_semicolon any
          (λ semi. ends (start_value (some_expr e) semi)) refl refl semicolon_end
          (λ semi. ends_law false (start_value (some_expr e) semi) any any (λ kind h. h))

  start_value_shrinks : (begun : Begun) (room : ℕ) → Shrinks (start_value_with inner begun room)
  unfolding start_value_with
  start_value_shrinks begun room =
      closed_shrinks (inner.expr Whole begun room) is_semicolon (λ e semi. ends (start_value (some_expr e) semi))
      (laws.exprs.shrinks Whole begun room) (λ e semi. ends_falls (start_value (some_expr e) semi))

  abbrev declared_start : List ℕ → ℕ → Reader ForStart
  declared_start exts room = behind (declaration_with inner exts room) (λ d. ends (start_declaration d))

  declared_start_good : (exts : List ℕ) (room : ℕ) → room < n → (s : HeldScopes) (ts : List Lexeme)
      → Good false (declared_start exts room) any s ts
  declared_start_good exts room less s ts =
      mapped_good false (declaration_with inner exts room) start_declaration any s ts
      (declaration_good n inner laws places exts room less s ts)

  declared_start_shrinks : (exts : List ℕ) (room : ℕ) → Shrinks (declared_start exts room)
  declared_start_shrinks exts room =
      behind_shrinks (declaration_with inner exts room) (λ d. ends (start_declaration d))
      (declaration_shrinks n inner laws places exts room) (λ d. ends_falls (start_declaration d))

  abbrev start_by_specs : List ℕ → Begun → ℕ → Reader ForStart
  start_by_specs exts begun room s ts =
      if begins_specs s (kind_at ts) then declared_start exts room s ts else start_value_with inner begun room s ts

  start_by_specs_good : (exts : List ℕ) (begun : Begun) (room : ℕ) → room < n → (s : HeldScopes) (ts : List Lexeme)
      → Good false (start_by_specs exts begun room) any s ts
  start_by_specs_good exts begun room less s ts =
      if_good false begins_specs (declared_start exts room) (start_value_with inner begun room) any s ts
      (λ is. declared_start_good exts room less s ts) (λ is. start_value_good begun room less s ts)
      (λ is. inl (λ x e. declared_start_shrinks exts room s ts x e))
      (λ is. inl (λ x e. start_value_shrinks begun room s ts x e))

  start_by_specs_shrinks : (exts : List ℕ) (begun : Begun) (room : ℕ) → Shrinks (start_by_specs exts begun room)
  start_by_specs_shrinks exts begun room s ts x e =
      if_ok (begins_specs s (kind_at ts)) e (λ is e. declared_start_shrinks exts room s ts x e)
      (λ is e. start_value_shrinks begun room s ts x e)

  extended_start_good : (room : ℕ) → room < n → (s : HeldScopes) (ts : List Lexeme)
      → Good false (extended_start inner room) any s ts
  unfolding extended_start
  extended_start_good room less s ts =
      bind_good false (extensions_at room) (λ exts. start_by_specs exts (extensions exts) room) is_int any s ts
      (λ exts scopes gives at. let h = gives.reads int_of refl in
      ready_as false (declared_start exts room) (start_by_specs exts (extensions exts) room) is_int any scopes at
      (λ k h. rw (int_specs scopes (kind_at k) h) refl)
      (mapped_ready false (declaration_with inner exts room) start_declaration is_int any scopes at
      (declaration_ready n inner laws places exts room less
      (exts_room n inner places laws room s h.0 (found exts scopes int_of) h.1 h.2) scopes at)))
      ((extensions_law false room is_int is_int ((λ kind h. h), int_extension)).good s ts)
      (λ x is. start_by_specs_good x.tree (extensions x.tree) room less x.scopes x.rest)
      (inl (λ x y is e. start_by_specs_shrinks x.tree (extensions x.tree) room x.scopes x.rest y e))
    where
      int_of : List Lexeme
      int_of = record { kind = kinds.Keyword keywords.Int; at = 0 } ∷ []

  extended_start_shrinks : (room : ℕ) → Shrinks (extended_start inner room)
  unfolding extended_start
  extended_start_shrinks room =
      falls_shrinks (extensions_at room) (λ exts. start_by_specs exts (extensions exts) room)
      (none_tokens.exts_falls room) (λ exts. start_by_specs_shrinks exts (extensions exts) room)

  abbrev semi_start : Reader ForStart
  semi_start = behind take_one (λ semi. ends (start_value no_expr semi))

  semi_start_shrinks : Shrinks semi_start
  semi_start_shrinks =
      behind_shrinks take_one (λ semi. ends (start_value no_expr semi)) take_shrinks
      (λ semi. ends_falls (start_value no_expr semi))

  abbrev other_start : ℕ → Reader ForStart
  other_start room s ts =
      if is_extension (kind_at ts) then extended_start inner room s ts else start_by_specs [] nothing room s ts

  other_start_shrinks : (room : ℕ) → Shrinks (other_start room)
  other_start_shrinks room s ts x e =
      if_ok (is_extension (kind_at ts)) e (λ is e. extended_start_shrinks room s ts x e)
      (λ is e. start_by_specs_shrinks [] nothing room s ts x e)

  for_start_law : (room : ℕ) → room < n → Law false (for_start_with inner room) any any
  unfolding for_start_with and_then
  for_start_law room less = record {
    good = λ s ts.
        if_good false (λ s. is_semicolon) semi_start (other_start room) any s ts
        (λ is. take_behind false (λ semi. ends (start_value no_expr semi)) any
        (λ semi. ends_law false (start_value no_expr semi) any any (λ kind h. h)) s ts (semicolon_end (kind_at ts) is))
        (λ is. if_good false (λ s. is_extension) (extended_start inner room) (start_by_specs [] nothing room) any s ts
        (λ is. extended_start_good room less s ts) (λ is. start_by_specs_good [] nothing room less s ts)
        (λ is. inl (λ x e. extended_start_shrinks room s ts x e))
        (λ is. inl (λ x e. start_by_specs_shrinks [] nothing room s ts x e)))
        (λ is. inl (λ x e. semi_start_shrinks s ts x e)) (λ is. inl (λ x e. other_start_shrinks room s ts x e));
    ready = λ s at. record {
      more = kinds.Punct puncts.Semicolon ∷ [];
      tree = start_value no_expr at;
      scopes = s;
      keeps = kept_refl false s;
      begins = λ k h. refl;
      reads = λ k h. refl;
    };
  }

  for_good : (room : ℕ) → room < suc n → 2 ≤ room → (s : HeldScopes) (ts : List Lexeme) → is_end (kind_at ts) ≡ false
      → Good false (for_inside inner room) stops_stmt s ts
  unfolding for_inside
  for_good room less two s ts known = take_behind false all stops_stmt all_law s ts known
    where
      last : ℕ → ℕ → ForStart → SomeExpr → ℕ → SomeExpr → ℕ → Reader Stmt
      last keyword opening start e semi e2 closing =
          behind (part_with inner (room - 1)) (λ t. ends (for_stmt keyword opening start e semi e2 closing t))

      steps : ℕ → ℕ → ForStart → SomeExpr → ℕ → Reader Stmt
      steps keyword opening start e semi =
          behind (some_expr_with inner is_close_paren (room - 1))
          (λ e2. behind (token_at is_close_paren) (last keyword opening start e semi e2))

      tests : ℕ → ℕ → ForStart → Reader Stmt
      tests keyword opening start =
          behind (some_expr_with inner is_semicolon (room - 1))
          (λ e. behind (token_at is_semicolon) (steps keyword opening start e))

      all : ℕ → Reader Stmt
      all keyword =
          behind (token_at is_open_paren) (λ opening. behind (for_start_with inner (room - 1)) (tests keyword opening))

      last_falls : (keyword opening : ℕ) (start : ForStart) (e : SomeExpr) (semi : ℕ) (e2 : SomeExpr) (closing : ℕ)
          → Falls (last keyword opening start e semi e2 closing)
      last_falls keyword opening start e semi e2 closing =
          behind_falls (part_with inner (room - 1)) (λ t. ends (for_stmt keyword opening start e semi e2 closing t))
          (part_falls (room - 1)) (λ t. ends_falls (for_stmt keyword opening start e semi e2 closing t))

      tests_law : (keyword opening : ℕ) (start : ForStart) → Law false (tests keyword opening start) any stops_stmt
      tests_law keyword opening start =
          closed_law false (some_expr_with inner is_semicolon (room - 1)) is_semicolon
          (kinds.Punct puncts.Semicolon) any stops_stmt (steps keyword opening start)
          (some_expr_law is_semicolon semicolon_whole (room - 1) (omega arith) false) refl semicolon_end
          (λ e semi. closed_law false (some_expr_with inner is_close_paren (room - 1)) is_close_paren
          (kinds.Punct puncts.CloseParen) any stops_stmt (last keyword opening start e semi)
          (some_expr_law is_close_paren close_paren_whole (room - 1) (omega arith) false) refl close_paren_end
          (λ e2 closing. mapped_law false (part_with inner (room - 1))
          (for_stmt keyword opening start e semi e2 closing) any stops_stmt (part_law room less two))
          (last_falls keyword opening start e semi))
          (λ e semi. closed_falls (some_expr_with inner is_close_paren (room - 1)) is_close_paren
          (last keyword opening start e semi) (some_expr_falls is_close_paren (room - 1))
          (last_falls keyword opening start e semi))

      all_law : (keyword : ℕ) → Law false (all keyword) any stops_stmt
      all_law keyword =
          token_then false is_open_paren (kinds.Punct puncts.OpenParen) any stops_stmt
          (λ opening. behind (for_start_with inner (room - 1)) (tests keyword opening)) refl refl open_paren_end
          (λ opening. bind_law false (for_start_with inner (room - 1)) (tests keyword opening) any any stops_stmt
          (for_start_law (room - 1) (omega arith)) (tests_law keyword opening) (inr (λ kind h. refl)))

  -- Jumps and the rest.

  goto_good : (room : ℕ) → room < suc n → (s : HeldScopes) (ts : List Lexeme) → is_end (kind_at ts) ≡ false
      → Good true (goto_with inner room) stops_stmt s ts
  unfolding goto_with goto_value_with goto_name and_then
  goto_good room less s ts known =
      fits_good true 1 room (behind take_one all) stops_stmt s ts
      (λ fit. take_behind true all stops_stmt all_law s ts known)
    where
      label_part : ℕ → Reader Stmt
      label_part keyword =
          behind name_at (λ name. behind (token_at is_semicolon) (λ semi. ends (goto_stmt keyword name semi)))

      label_part_law : (keyword : ℕ) → Law true (label_part keyword) is_name_kind stops_stmt
      label_part_law keyword =
          closed_law true name_at is_semicolon (kinds.Punct puncts.Semicolon) is_name_kind stops_stmt
          (λ name semi. ends (goto_stmt keyword name semi))
          (name_law true is_name_kind is_semicolon (λ name. refl)) refl semicolon_end
          (λ name semi. ends_law true (goto_stmt keyword name semi) any stops_stmt (λ kind h. refl))
          (λ name semi. ends_falls (goto_stmt keyword name semi))

      label_part_shrinks : (keyword : ℕ) → Shrinks (label_part keyword)
      label_part_shrinks keyword =
          closed_shrinks name_at is_semicolon (λ name semi. ends (goto_stmt keyword name semi))
          (λ s ts x e. let one = name_falls s ts x e in omega (arith, one))
          (λ name semi. ends_falls (goto_stmt keyword name semi))

      -- in wider C a star and a value
      star_part : ℕ → ℕ → Reader Stmt
      star_part keyword star =
          behind (inner.expr Whole nothing (room - 1))
          (λ e. behind (token_at is_semicolon) (λ semi. ends (goto_value keyword star e semi)))

      star_law : 2 ≤ room → (keyword star : ℕ) → Law true (star_part keyword star) any stops_stmt
      star_law two keyword star =
          closed_law true (inner.expr Whole nothing (room - 1)) is_semicolon
          (kinds.Punct puncts.Semicolon) any stops_stmt (λ e semi. ends (goto_value keyword star e semi))
          (expr_law n inner laws places Whole room less two any is_semicolon
          (λ kind h. refl) semicolon_whole) refl semicolon_end
          (λ e semi. ends_law true (goto_value keyword star e semi) any stops_stmt (λ kind h. refl))
          (λ e semi. ends_falls (goto_value keyword star e semi))

      value_part : ℕ → Reader Stmt
      value_part keyword s ts = fits 2 room ts (behind take_one (star_part keyword) s ts)

      value_part_shrinks : (keyword : ℕ) → Shrinks (value_part keyword)
      value_part_shrinks keyword s ts x e =
          behind_shrinks take_one (star_part keyword) take_shrinks
          (λ star. closed_falls (inner.expr Whole nothing (room - 1)) is_semicolon
          (λ e semi. ends (goto_value keyword star e semi))
          (shrinks_falls (inner.expr Whole nothing (room - 1)) (laws.exprs.shrinks Whole nothing (room - 1)))
          (λ e semi. ends_falls (goto_value keyword star e semi))) s ts x (fits_ok 2 room ts e).1

      is_value : HeldScopes → TokenKind → Bool
      is_value s kind = is_wide s && is_star kind

      all : ℕ → Reader Stmt
      all keyword s ts = if is_value s (kind_at ts) then value_part keyword s ts else label_part keyword s ts

      all_law : (keyword : ℕ) → Law true (all keyword) any stops_stmt
      all_law keyword = record {
        good = λ s ts.
            if_good true is_value (value_part keyword) (label_part keyword) stops_stmt s ts
            (λ is. fits_good true 2 room (behind take_one (star_part keyword)) stops_stmt s ts
            (λ fit. take_behind true (star_part keyword) stops_stmt (star_law fit keyword) s ts
            (star_end (kind_at ts) (and_second (is_wide s) (is_star (kind_at ts)) is))))
            (λ is. (label_part_law keyword).good s ts) (λ is. inl (λ x e. value_part_shrinks keyword s ts x e))
            (λ is. inl (λ x e. label_part_shrinks keyword s ts x e));
        ready = λ s at.
            ready_before true (all keyword) is_name_kind any stops_stmt stops_stmt s at (λ kind h. h) (λ kind h. refl)
            (ready_as true (label_part keyword) (all keyword) is_name_kind stops_stmt s at
            (λ k h. rw (and_right (is_wide s) (is_star (kind_at k)) (name_no_star (kind_at k) h)) refl)
            ((label_part_law keyword).ready s at));
      }

  jump_good : (make : ℕ → ℕ → Stmt) (room : ℕ) (s : HeldScopes) (ts : List Lexeme) → is_end (kind_at ts) ≡ false
      → Good true (jump_with inner make room) stops_stmt s ts
  unfolding jump_with
  jump_good make room s ts known =
      fits_good true 1 room
      (behind take_one (λ keyword. behind (token_at is_semicolon) (λ semi. ends (make keyword semi)))) stops_stmt s ts
      (λ fit. take_behind true (λ keyword. behind (token_at is_semicolon) (λ semi. ends (make keyword semi))) stops_stmt
      (λ keyword. token_then true is_semicolon (kinds.Punct puncts.Semicolon) any stops_stmt
      (λ semi. ends (make keyword semi)) refl refl semicolon_end
      (λ semi. ends_law true (make keyword semi) any stops_stmt (λ kind h. refl))) s ts known)

  return_good : (room : ℕ) → room < suc n → (s : HeldScopes) (ts : List Lexeme) → is_end (kind_at ts) ≡ false
      → Good true (return_with inner room) stops_stmt s ts
  unfolding return_with
  return_good room less s ts known =
      fits_good true 1 room (behind take_one all) stops_stmt s ts
      (λ fit. take_behind true all stops_stmt (all_law fit) s ts known)
    where
      all : ℕ → Reader Stmt
      all keyword =
          behind (some_expr_with inner is_semicolon (room - 1))
          (λ e. behind (token_at is_semicolon) (λ semi. ends (return_stmt keyword e semi)))

      all_law : 1 ≤ room → (keyword : ℕ) → Law true (all keyword) any stops_stmt
      all_law one keyword =
          closed_law true (some_expr_with inner is_semicolon (room - 1)) is_semicolon
          (kinds.Punct puncts.Semicolon) any stops_stmt (λ e semi. ends (return_stmt keyword e semi))
          (some_expr_law is_semicolon semicolon_whole (room - 1) (omega arith) true) refl semicolon_end
          (λ e semi. ends_law true (return_stmt keyword e semi) any stops_stmt (λ kind h. refl))
          (λ e semi. ends_falls (return_stmt keyword e semi))

  asm_good : (room : ℕ) (s : HeldScopes) (ts : List Lexeme) → is_end (kind_at ts) ≡ false
      → Good true (asm_with inner room) stops_stmt s ts
  unfolding asm_with
  asm_good room s ts known =
      fits_good true 1 room (behind take_one all) stops_stmt s ts
      (λ fit. take_behind true all stops_stmt all_law s ts known)
    where
      grouped : ℕ → List Word → Reader Stmt
      grouped keyword words =
          behind group_at (λ group. behind (token_at is_semicolon) (λ semi. ends (asm_stmt keyword words group semi)))

      all : ℕ → Reader Stmt
      all keyword = behind asm_words_at (grouped keyword)

      all_law : (keyword : ℕ) → Law true (all keyword) any stops_stmt
      all_law keyword =
          bind_law true asm_words_at (grouped keyword) any is_open_paren stops_stmt
          (asm_words_law true any is_open_paren ((λ kind h. refl), paren_no_asm))
          (λ words. closed_law true group_at is_semicolon (kinds.Punct puncts.Semicolon) is_open_paren stops_stmt
          (λ group semi. ends (asm_stmt keyword words group semi))
          (law_before true group_at is_open_paren is_open_paren any is_semicolon (λ kind h. refl) (λ kind h. h)
          (group_law true)) refl semicolon_end
          (λ group semi. ends_law true (asm_stmt keyword words group semi) any stops_stmt (λ kind h. refl))
          (λ group semi. ends_falls (asm_stmt keyword words group semi)))
          (inl (λ words s ts y e. closed_shrinks group_at is_semicolon
          (λ group semi. ends (asm_stmt keyword words group semi)) none_tokens.group_shrinks
          (λ group semi. ends_falls (asm_stmt keyword words group semi)) s ts y e))

  attr_good : (room : ℕ) (s : HeldScopes) (ts : List Lexeme) → Good true (attr_stmt_with inner room) stops_stmt s ts
  unfolding attr_stmt_with
  attr_good room s ts =
      (closed_law true (attrs_at room) is_semicolon (kinds.Punct puncts.Semicolon) is_semicolon stops_stmt
      (λ attrs semi. ends (attr_stmt attrs semi))
      (attrs_law true room is_semicolon is_semicolon ((λ kind h. h), semi_attribute)) refl semicolon_end
      (λ attrs semi. ends_law true (attr_stmt attrs semi) any stops_stmt (λ kind h. refl))
      (λ attrs semi. ends_falls (attr_stmt attrs semi))).good s ts

  -- A name: a label or an expression, by the token behind it.
  module _ (name room : ℕ) (less : room - 1 < n) (two : 2 ≤ room) where
    abbrev name_token : ℕ → Lexeme
    name_token at = record { kind = kinds.Name name; at = at }

    abbrev other_choice : ℕ → Reader Stmt
    other_choice at s k =
        if names_type s name then refuses Unexpected k else expr_stmt_with inner nothing room s (name_token at ∷ k)

    abbrev choice : ℕ → Reader Stmt
    choice at s k =
        if is_colon (kind_at k) then label_rest n inner laws places room (identifier_of at name) s k
        else other_choice at s k

    other_shrinks : (at : ℕ) → Shrinks (other_choice at)
    other_shrinks at s k x e =
        if_ok (names_type s name) e (λ is e. absurd cc) (λ is e.
        let low = expr_stmt_two n inner laws places nothing room s (name_token at ∷ k) x e in omega (arith, low))

    other_good : (at : ℕ) (s : HeldScopes) (k : List Lexeme) → Good true (other_choice at) stops_stmt s k
    other_good at s k = by_type (names_type s name) refl
      where
        by_type : (b : Bool) → names_type s name ≡ b → Good true (other_choice at) stops_stmt s k
        by_type true is = refused_here true (other_choice at) stops_stmt s k Unexpected (λ k e. rw is refl)
        by_type false is =
            let o = expr_stmt_name n inner laws places room less two s name at is in
            good_as true (λ s k. expr_stmt_with inner nothing room s (name_token at ∷ k))
            (other_choice at) stops_stmt s k (λ k e. rw is refl) (inr (λ k e. rw is refl))
            (tail_good true (expr_stmt_with inner nothing room) stops_stmt s (name_token at) k (semi_of ∷ [])
            (found o.0 s []) o.1
            (λ x e. let low = expr_stmt_two n inner laws places nothing room s (name_token at ∷ k) x e in
            omega (arith, low))
            (good_before true (expr_stmt_with inner nothing room) any stops_stmt s (name_token at ∷ k) (λ kind h. refl)
            (expr_stmt_good n inner laws places nothing room less s (name_token at ∷ k))))

    choice_law : (at : ℕ) → Law true (choice at) any stops_stmt
    choice_law at = record {
      good = λ s k.
          if_good true (λ s. is_colon) (label_rest n inner laws places room (identifier_of at name)) (other_choice at)
          stops_stmt s k (λ is. (label_law n inner laws places room less two (identifier_of at name)).good s k)
          (λ is. other_good at s k)
          (λ is. inl (λ x e. label_shrinks n inner laws places room (identifier_of at name) s k x e))
          (λ is. inl (λ x e. other_shrinks at s k x e));
      ready = λ s here.
          ready_before true (choice at) is_colon any stops_stmt stops_stmt s here (λ kind h. h) (λ kind h. refl)
          (ready_as true (label_rest n inner laws places room (identifier_of at name)) (choice at) is_colon stops_stmt s
          here (λ k h. rw h refl) ((label_law n inner laws places room less two (identifier_of at name)).ready s here));
    }

    abbrev named_choice : Reader Stmt
    named_choice s ts =
        if is_colon (kind_at (behind_first ts)) then label_with inner room s ts
        else if names_type s name then refuses Unexpected (behind_first ts)
        else expr_stmt_with inner nothing room s ts

    named_same : (t : Lexeme) → t.kind ≡ kinds.Name name → (ts : List Lexeme) (s : HeldScopes) (k : List Lexeme)
        → first_kind k ≡ first_kind (t ∷ ts) → named_choice s k ≡ behind take_one choice s k
    unfolding label_with and_then
    named_same t is ts s [] e = absurd cc
    named_same t is ts s (u ∷ us) e =
        let same : u.kind ≡ t.kind = cc in
        ap (λ (u : Lexeme). named_choice s (u ∷ us))
        (ap (λ (kind : TokenKind). record { kind = kind; at = u.at }) (same ∙ is))

    named_choice_good : (s : HeldScopes) (t : Lexeme) (ts : List Lexeme) → t.kind ≡ kinds.Name name
        → Good true named_choice stops_stmt s (t ∷ ts)
    named_choice_good s t ts is =
        good_as true (behind take_one choice) named_choice stops_stmt s (t ∷ ts) (named_same t is ts s)
        (inl (λ x e. behind_shrinks take_one choice take_shrinks choice_falls s (t ∷ ts) x e))
        (take_behind true choice stops_stmt choice_law s (t ∷ ts) (ap is_end is))
      where
        choice_falls : (at : ℕ) → Falls (choice at)
        choice_falls at s k x e =
            if_ok (is_colon (kind_at k)) e
            (λ is e. shrinks_falls (label_rest n inner laws places room (identifier_of at name))
            (label_shrinks n inner laws places room (identifier_of at name)) s k x e)
            (λ is e. shrinks_falls (other_choice at) (other_shrinks at) s k x e)

  named_good : (name room : ℕ) → room < suc n → (s : HeldScopes) (ts : List Lexeme)
      → stmt_start (kind_at ts) ≡ starts.Name name → Good true (named_stmt inner name room) stops_stmt s ts
  unfolding named_stmt
  named_good name room less s [] is = absurd cc
  named_good name room less s (t ∷ ts) is =
      fits_good true 2 room (λ s ts. if is_colon (kind_at (behind_first ts)) then label_with inner room s ts
      else if names_type s name then refuses Unexpected (behind_first ts)
      else expr_stmt_with inner nothing room s ts) stops_stmt s (t ∷ ts)
      (λ fit. named_choice_good name room (omega (arith, less, fit)) fit s t ts (start_name t.kind name is))

  value_good : (room : ℕ) → room < suc n → (s : HeldScopes) (ts : List Lexeme)
      → Good true (stmt_by inner starts.Value room) stops_stmt s ts
  unfolding stmt_by
  value_good room less s ts =
      if_good true begins_expr (λ s ts. fits 2 room ts (expr_stmt_with inner nothing room s ts))
      (λ s ts. refuses Unexpected ts) stops_stmt s ts
      (λ is. fits_good true 2 room (expr_stmt_with inner nothing room) stops_stmt s ts
      (λ fit. good_before true (expr_stmt_with inner nothing room) any stops_stmt s ts (λ kind h. refl)
      (expr_stmt_good n inner laws places nothing room (omega (arith, less, fit)) s ts)))
      (λ is. refused_here true (λ s ts. refuses Unexpected ts) stops_stmt s ts Unexpected (λ k e. refl))
      (λ is. inl (λ x e. expr_stmt_shrinks n inner laws places nothing room s ts x (fits_ok 2 room ts e).1))
      (λ is. inl (λ x e. absurd cc))

  -- in a scope of its own
  own_stmt : (read : Reader Stmt) (room : ℕ) (s : HeldScopes) (ts : List Lexeme)
      → (2 ≤ room → Good false read stops_stmt (enter s) ts)
      → Good true (λ s ts. fits 2 room ts (in_own read s ts)) stops_stmt s ts
  own_stmt read room s ts g =
      fits_good true 2 room (in_own read) stops_stmt s ts
      (λ fit. own_good (λ s. new_scope (is_wide s)) read (λ x t. x) stops_stmt s ts (g fit))

  stmt_by_good : (start : StmtStart) (room : ℕ) → room < suc n → (s : HeldScopes) (ts : List Lexeme)
      → stmt_start (kind_at ts) ≡ start → Good true (stmt_by inner start room) stops_stmt s ts
  unfolding stmt_by
  stmt_by_good starts.Block room less s ts is =
      mapped_good true (block_with inner room) (λ b. block b.opening b.items b.closing) stops_stmt s ts
      (good_before true (block_with inner room) any stops_stmt s ts (λ kind h. refl)
      ((block_places n inner laws places).good room less s ts))
  stmt_by_good starts.Semicolon room less s ts is =
      fits_good true 1 room (behind take_one (λ semi. ends (expr_stmt no_expr semi))) stops_stmt s ts
      (λ fit. take_behind true (λ semi. ends (expr_stmt no_expr semi)) stops_stmt (λ semi. ends_law true
      (expr_stmt no_expr semi) any stops_stmt (λ kind h. refl)) s ts (start_no_end (kind_at ts) (ap begins_stmt is)))
  stmt_by_good starts.Attribute room less s ts is = attr_good room s ts
  stmt_by_good (starts.Name name) room less s ts is = named_good name room less s ts is
  stmt_by_good starts.Case room less s ts is = case_good room less s ts (start_no_end (kind_at ts) (ap begins_stmt is))
  stmt_by_good starts.Default room less s ts is =
      default_good room less s ts (start_no_end (kind_at ts) (ap begins_stmt is))
  stmt_by_good starts.If room less s ts is =
      own_stmt (if_inside inner room) room s ts
      (λ fit. if_good_inside room less fit (enter s) ts (start_no_end (kind_at ts) (ap begins_stmt is)))
  stmt_by_good starts.Switch room less s ts is =
      own_stmt (headed_inside inner switch_stmt room) room s ts
      (λ fit. headed_good switch_stmt room less fit (enter s) ts (start_no_end (kind_at ts) (ap begins_stmt is)))
  stmt_by_good starts.While room less s ts is =
      own_stmt (headed_inside inner while_stmt room) room s ts
      (λ fit. headed_good while_stmt room less fit (enter s) ts (start_no_end (kind_at ts) (ap begins_stmt is)))
  stmt_by_good starts.Do room less s ts is =
      own_stmt (do_inside inner room) room s ts
      (λ fit. do_good room less fit (enter s) ts (start_no_end (kind_at ts) (ap begins_stmt is)))
  stmt_by_good starts.For room less s ts is =
      own_stmt (for_inside inner room) room s ts
      (λ fit. for_good room less fit (enter s) ts (start_no_end (kind_at ts) (ap begins_stmt is)))
  stmt_by_good starts.Goto room less s ts is = goto_good room less s ts (start_no_end (kind_at ts) (ap begins_stmt is))
  stmt_by_good starts.Continue room less s ts is =
      jump_good continue_stmt room s ts (start_no_end (kind_at ts) (ap begins_stmt is))
  stmt_by_good starts.Break room less s ts is =
      jump_good break_stmt room s ts (start_no_end (kind_at ts) (ap begins_stmt is))
  stmt_by_good starts.Return room less s ts is =
      return_good room less s ts (start_no_end (kind_at ts) (ap begins_stmt is))
  stmt_by_good starts.Asm room less s ts is = asm_good room s ts (start_no_end (kind_at ts) (ap begins_stmt is))
  stmt_by_good starts.Value room less s ts is = value_good room less s ts

  stmt_good : (room : ℕ) → room < suc n → (s : HeldScopes) (ts : List Lexeme)
      → Good true (stmt_with inner room) stops_stmt s ts
  unfolding stmt_with
  stmt_good room less s ts =
      good_choice true (stmt_by inner (stmt_start (kind_at ts)) room) (stmt_with inner room) stops_stmt s ts
      (λ k e. ap (λ (kind : TokenKind). stmt_by inner (stmt_start kind) room s k) (kind_same k ts e))
      (stmt_shrinks [] none_tokens n inner laws room) (stmt_by_good (stmt_start (kind_at ts)) room less s ts refl)

  stmt_ready : (room : ℕ) → room < suc n → 1 ≤ room → (s : HeldScopes) (at : ℕ)
      → Ready true (stmt_with inner room) is_semicolon stops_stmt s at
  unfolding stmt_with stmt_by and_then
  stmt_ready room less one s at = record {
    more = kinds.Punct puncts.Semicolon ∷ [];
    tree = expr_stmt no_expr at;
    scopes = s;
    keeps = kept_refl true s;
    begins = λ k h. refl;
    reads = λ k h. fits_is 1 room (record { kind = kinds.Punct puncts.Semicolon; at = at } ∷ k) _ one;
  }

  pub stmt_places : StmtPlaces (suc n) (stmt_with inner)
  stmt_places = record { good = stmt_good; ready = stmt_ready }
