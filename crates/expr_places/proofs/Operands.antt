-- Operands: primary expressions with their postfix forms, what begins with a parenthesis, and the unary forms.
use Rattle.std.proofs.Common.{◌≡◌, ℕ, suc, ◌<◌, ◌≤◌, Bool, true, false, if◌then◌else◌, List, [], ◌∷◌, inl, inr, None, refl, ◌∙◌, ap, arith}
use Rattle.std.specs.Prelude.{◌-◌}
use Rattle.c_words.specs.declared.kinds.TokenKind.{TokenKind}
use Rattle.c_words.specs.declared.kinds.TokenKind.TheVariants as kinds
use Rattle.c_words.specs.declared.kinds.Punct.{Punct}
use Rattle.c_words.specs.declared.kinds.Punct.TheVariants as puncts
use Rattle.c_tree.specs.declared.lexeme.Lexeme.{Lexeme}
use Rattle.c_tree.specs.Tree.{Expr, cast, index, call, dot, arrow, post, compound, paren, statement_expr, text_use, no_exprs}
use Rattle.c_tree.specs.Height.{expr_height}
use Rattle.c_units.specs.HeldScopes.{HeldScopes}
use Rattle.c_reading.specs.declared.kinds.FaultKind.TheVariants.{Unexpected}
use Rattle.c_reading.specs.declared.kinds.Reach.{Reach}
use Rattle.c_reading.specs.declared.kinds.Reach.TheVariants.{Whole, Assigned, Castable}
use Rattle.c_reading.specs.declared.kinds.PostfixForm.{PostfixForm}
use Rattle.c_reading.specs.declared.kinds.PostfixForm.TheVariants as forms
use Rattle.c_reading.specs.Reading.{Reader, one_more, ends, refuses, fits, kind_at, take_one, token_at, listed}
use Rattle.c_reading.specs.Tokens.{is_open_paren, is_close_paren, is_close_bracket, is_open_brace, is_end, name_at, texts_at}
use Rattle.c_reading.specs.Specifying.{begins_specs}
use Rattle.c_reading.specs.Parts.{Inner, nothing, TypeName, exprs_from}
use Rattle.c_reading.specs.Expressing.{form_of, next_argument, arguments_with, index_with, call_with, dot_with, arrow_with, post_with, postfix_by, lowered, postfix_turn, postfixed, primary_with, text_with, compound_with, cast_behind, typed_behind, typed_with, statement_with, paren_with, opened_by, opened_with}
use Rattle.c_reading.proofs.Binding.{found, done, if_ok}
use Rattle.c_reading.proofs.Forms.{Falls, Shrinks, shrinks_falls}
use Rattle.c_reading.proofs.Commas.{listed_shrinks}
use Rattle.c_reading.proofs.Aims.{Laws}
use Rattle.c_reading.proofs.KnotLaws.{none_tokens}
use Rattle.c_reading.proofs.ExprFalls.{next_argument_falls, postfix_turn_shrinks, postfixed_falls}
use Rattle.c_reading.proofs.SpecsCompleteBodies.{expr_high}
use Rattle.reading_steps.specs.Steps.{first_kind, any, Good, Ready, Law}
use Rattle.reading_steps.specs.Stops.{is_number, stops_operand, stops_expr, stops_type}
use Rattle.reading_steps.specs.InnerLaws.{InnerLaws}
use Rattle.reading_steps.proofs.Keeping.{kept_refl}
use Rattle.reading_steps.proofs.Steps.{behind, kind_same, refused_here, ends_good, if_good, fits_good, ready_fits, ready_take, ready_as, ready_bind, bind_good, bind_law, take_behind, ends_law, good_before, ready_before, law_before, GoodTurn, run_good, run_stops}
use Rattle.reading_steps.proofs.Lists.{listed_good}
use Rattle.reading_steps.proofs.Chains.{ends_falls, behind_falls, behind_shrinks, token_shrinks, token_then, closed_law}
use Rattle.token_places.proofs.Single.{close_paren_end, close_bracket_end, mapped_law, mapped_good, name_law}
use Rattle.token_places.proofs.Rows.{texts_law}
use Rattle.expr_places.proofs.Facts.{operand_no_form, operand_no_text, operand_no_brace, whole_operand, close_paren_whole, close_bracket_whole, close_paren_type, close_paren_no_comma, number_no_specs, number_no_brace, is_form, form_no_end}

module _ (n : ℕ) (inner : Inner) (laws : Laws [] n inner) (places : InnerLaws n inner) where
  -- an expression inside, before some of the tokens that end one
  pub expr_law : (reach : Reach) (room : ℕ) → room < suc n → 2 ≤ room → (wider fewer : TokenKind → Bool)
      → ((kind : TokenKind) → is_number kind ≡ true → wider kind ≡ true) →
      ((kind : TokenKind) → fewer kind ≡ true → stops_expr reach kind ≡ true)
      → Law true (inner.expr reach nothing (room - 1)) wider fewer
  expr_law reach room less two wider fewer w h = record {
    good = λ s ts. good_before true (inner.expr reach nothing (room - 1)) (stops_expr reach) fewer s ts h
        (places.exprs.good reach nothing (room - 1) (omega arith) s ts);
    ready = λ s at.
        ready_before true (inner.expr reach nothing (room - 1)) is_number wider (stops_expr reach) fewer s at h w
        (places.exprs.ready reach nothing (room - 1) (omega arith)
        (let more : 0 < room - 1 = omega arith in more) s at);
  }

  -- Postfix forms.

  next_argument_law : (room : ℕ) → room < suc n → 2 ≤ room → (comma : ℕ)
      → Law true (next_argument inner room comma) any is_close_paren
  unfolding next_argument
  next_argument_law room less two comma =
      mapped_law true (inner.expr Assigned nothing (room - 1)) one_more any is_close_paren
      (expr_law Assigned room less two any is_close_paren (λ kind h. refl)
      (λ kind h. whole_operand kind (close_paren_whole kind h)))

  arguments_law : (room : ℕ) → room < suc n → 2 ≤ room → Law true (arguments_with inner room) any is_close_paren
  unfolding arguments_with
  arguments_law room less two = record {
    good = λ s ts.
        if_good true (λ s. is_close_paren) (ends no_exprs)
        (behind (listed first (next_argument inner room)) (λ es. ends (exprs_from es.items))) is_close_paren s ts
        (λ is. ends_good true no_exprs is_close_paren s ts) (λ is. mapped_good true
        (listed first (next_argument inner room)) (λ es. exprs_from es.items) is_close_paren s ts (list s ts))
        (λ is. inr (λ kind h. h))
        (λ is. inl (λ x e. behind_shrinks (listed first (next_argument inner room)) (λ es. ends (exprs_from es.items))
        (listed_shrinks first (next_argument inner room) (next_argument_falls [] none_tokens n inner laws room)
        (laws.exprs.shrinks Assigned nothing (room - 1))) (λ es. ends_falls (exprs_from es.items)) s ts x e));
    ready = λ s at. record {
      more = [];
      tree = no_exprs;
      scopes = s;
      keeps = kept_refl true s;
      begins = λ k h. refl;
      reads = λ k h. rw h refl;
    };
  }
    where
      first : Reader Expr
      first = inner.expr Assigned nothing (room - 1)

      list : (s : HeldScopes) (ts : List Lexeme)
          → Good true (listed first (next_argument inner room)) is_close_paren s ts
      list s ts =
          listed_good true (next_argument inner room) (next_argument_falls [] none_tokens n inner laws room)
          stops_operand is_close_paren (λ kind h. whole_operand kind (close_paren_whole kind h)) close_paren_no_comma
          (next_argument_law room less two) first s ts
          (places.exprs.good Assigned nothing (room - 1) (omega arith) s ts)

  index_good : (e : Expr) (room : ℕ) → room < suc n → 2 ≤ room → (s : HeldScopes) (ts : List Lexeme)
      → is_end (kind_at ts) ≡ false → Good true (index_with inner e room) stops_operand s ts
  unfolding index_with
  index_good e room less two s ts known =
      take_behind true (λ opening. behind (inner.expr Whole nothing (room - 1))
      (λ e2. behind (token_at is_close_bracket) (λ closing. ends (index e opening e2 closing)))) stops_operand
      (λ opening. closed_law true (inner.expr Whole nothing (room - 1)) is_close_bracket
      (kinds.Punct puncts.CloseBracket) any stops_operand (λ e2 closing. ends (index e opening e2 closing))
      (expr_law Whole room less two any is_close_bracket (λ kind h. refl) close_bracket_whole) refl close_bracket_end
      (λ e2 closing. ends_law true (index e opening e2 closing) any stops_operand (λ kind h. refl))
      (λ e2 closing. ends_falls (index e opening e2 closing))) s ts known

  call_good : (e : Expr) (room : ℕ) → room < suc n → 2 ≤ room → (s : HeldScopes) (ts : List Lexeme)
      → is_end (kind_at ts) ≡ false → Good true (call_with inner e room) stops_operand s ts
  unfolding call_with
  call_good e room less two s ts known =
      take_behind true (λ opening. behind (arguments_with inner room)
      (λ es. behind (token_at is_close_paren) (λ closing. ends (call e opening es closing)))) stops_operand
      (λ opening. closed_law true (arguments_with inner room) is_close_paren (kinds.Punct puncts.CloseParen) any
      stops_operand (λ es closing. ends (call e opening es closing)) (arguments_law room less two) refl close_paren_end
      (λ es closing. ends_law true (call e opening es closing) any stops_operand (λ kind h. refl))
      (λ es closing. ends_falls (call e opening es closing))) s ts known

  dot_good : (e : Expr) (s : HeldScopes) (ts : List Lexeme) → is_end (kind_at ts) ≡ false
      → Good true (dot_with inner e) stops_operand s ts
  unfolding dot_with
  dot_good e s ts known =
      take_behind true (λ token. behind name_at (λ name. ends (dot e token name))) stops_operand
      (λ token. mapped_law true name_at (dot e token) any stops_operand
      (name_law true any stops_operand (λ name. refl))) s ts known

  arrow_good : (e : Expr) (s : HeldScopes) (ts : List Lexeme) → is_end (kind_at ts) ≡ false
      → Good true (arrow_with inner e) stops_operand s ts
  unfolding arrow_with
  arrow_good e s ts known =
      take_behind true (λ token. behind name_at (λ name. ends (arrow e token name))) stops_operand
      (λ token. mapped_law true name_at (arrow e token) any stops_operand
      (name_law true any stops_operand (λ name. refl))) s ts known

  post_good : (e : Expr) (p : Punct) (s : HeldScopes) (ts : List Lexeme) → is_end (kind_at ts) ≡ false
      → Good true (post_with inner e p) stops_operand s ts
  unfolding post_with
  post_good e p s ts known =
      take_behind true (λ token. ends (post e token p)) stops_operand
      (λ token. ends_law true (post e token p) any stops_operand (λ kind h. refl)) s ts known

  postfix_none : (room : ℕ) (e : Expr) (s : HeldScopes) (k : List Lexeme) → stops_operand (kind_at k) ≡ true
      → postfix_turn inner room e s k ≡ None
  postfix_none room e s k h =
      ap (λ (f : PostfixForm). lowered inner (expr_height e) room k (postfix_by inner f room e s k))
      (operand_no_form (kind_at k) h)

  postfix_step : (room : ℕ) → room < suc n → (e : Expr) (s : HeldScopes) (ts : List Lexeme)
      → GoodTurn true (postfix_turn inner room) stops_operand e s ts
  postfix_step room less e s ts = by_form (form_of (kind_at ts)) refl
    where
      to : (f : PostfixForm) → form_of (kind_at ts) ≡ f → (k : List Lexeme) → first_kind k ≡ first_kind ts
          → postfix_turn inner room e s k ≡ lowered inner (expr_height e) room k (postfix_by inner f room e s k)
      to f is k h =
          ap (λ (f : PostfixForm). lowered inner (expr_height e) room k (postfix_by inner f room e s k))
          (ap form_of (kind_same k ts h) ∙ is)

      two : suc (expr_height e) ≤ room → 2 ≤ room
      two fit = let high : 1 ≤ expr_height e = expr_high e in omega (arith, fit, high)

      low : (read : Reader Expr) → (suc (expr_height e) ≤ room → Good true read stops_operand s ts)
          → Good true (λ s ts. fits (suc (expr_height e)) room ts (read s ts)) stops_operand s ts
      low read g = fits_good true (suc (expr_height e)) room read stops_operand s ts g

      by_form : (f : PostfixForm) → form_of (kind_at ts) ≡ f
          → GoodTurn true (postfix_turn inner room) stops_operand e s ts
      by_form forms.Nothing is = inl (to forms.Nothing is)
      by_form forms.Index is =
          inr (
            (λ s ts. fits (suc (expr_height e)) room ts (index_with inner e room s ts)),
            to forms.Index is,
            low (index_with inner e room)
                (λ fit. index_good e room less (two fit) s ts (form_no_end (kind_at ts) (ap is_form is))),
          )
      by_form forms.Call is =
          inr (
            (λ s ts. fits (suc (expr_height e)) room ts (call_with inner e room s ts)),
            to forms.Call is,
            low (call_with inner e room)
                (λ fit. call_good e room less (two fit) s ts (form_no_end (kind_at ts) (ap is_form is))),
          )
      by_form forms.Dot is = inr (
        (λ s ts. fits (suc (expr_height e)) room ts (dot_with inner e s ts)),
        to forms.Dot is,
        low (dot_with inner e) (λ fit. dot_good e s ts (form_no_end (kind_at ts) (ap is_form is))),
      )
      by_form forms.Arrow is = inr (
        (λ s ts. fits (suc (expr_height e)) room ts (arrow_with inner e s ts)),
        to forms.Arrow is,
        low (arrow_with inner e) (λ fit. arrow_good e s ts (form_no_end (kind_at ts) (ap is_form is))),
      )
      by_form (forms.Post p) is = inr (
        (λ s ts. fits (suc (expr_height e)) room ts (post_with inner e p s ts)),
        to (forms.Post p) is,
        low (post_with inner e p) (λ fit. post_good e p s ts (form_no_end (kind_at ts) (ap is_form is))),
      )

  pub postfixed_ends : (room : ℕ) (e : Expr) (s : HeldScopes) (k : List Lexeme) → stops_operand (kind_at k) ≡ true
      → postfixed inner room e s k ≡ done (found e s k)
  unfolding postfixed
  postfixed_ends room e s k h =
      run_stops true (postfix_turn inner room) (postfix_turn_shrinks [] none_tokens n inner laws room) stops_operand
      (postfix_none room) e s k h

  pub postfixed_law : (room : ℕ) → room < suc n → (e : Expr) (front : TokenKind → Bool)
      → ((kind : TokenKind) → stops_operand kind ≡ true → front kind ≡ true)
      → Law true (postfixed inner room e) front stops_operand
  unfolding postfixed
  postfixed_law room less e front fronts = record {
    good = λ s ts.
        run_good true (postfix_turn inner room) (postfix_turn_shrinks [] none_tokens n inner laws room) stops_operand
        (postfix_none room) (postfix_step room less) e s ts;
    ready = λ s at. record {
      more = [];
      tree = e;
      scopes = s;
      keeps = kept_refl true s;
      begins = λ k h. fronts (kind_at k) h;
      reads = λ k h. run_stops true (postfix_turn inner room)
          (postfix_turn_shrinks [] none_tokens n inner laws room) stops_operand (postfix_none room) e s k h;
    };
  }

  falls : (room : ℕ) (e : Expr) → Falls (postfixed inner room e)
  falls room e = postfixed_falls [] none_tokens n inner laws room e

  -- Primary expressions.

  pub primary_good : (make : ℕ → Expr) (room : ℕ) → room < suc n → (s : HeldScopes) (ts : List Lexeme)
      → is_end (kind_at ts) ≡ false → Good true (primary_with inner make room) stops_operand s ts
  primary_good make room less s ts known =
      fits_good true 1 room (behind take_one (λ token. postfixed inner room (make token))) stops_operand s ts
      (λ fit. take_behind true (λ token. postfixed inner room (make token)) stops_operand
      (λ token. postfixed_law room less (make token) any (λ kind h. refl)) s ts known)

  pub text_good : (room : ℕ) → room < suc n → (s : HeldScopes) (ts : List Lexeme) → is_end (kind_at ts) ≡ false
      → Good true (text_with inner room) stops_operand s ts
  unfolding text_with
  text_good room less s ts known =
      fits_good true 1 room (behind take_one
      (λ token. behind texts_at (λ texts. postfixed inner room (text_use (token ∷ texts))))) stops_operand s ts
      (λ fit. take_behind true
      (λ token. behind texts_at (λ texts. postfixed inner room (text_use (token ∷ texts)))) stops_operand
      (λ token. bind_law true texts_at (λ texts. postfixed inner room (text_use (token ∷ texts))) any stops_operand
      stops_operand (texts_law true any stops_operand ((λ kind h. refl), operand_no_text))
      (λ texts. postfixed_law room less (text_use (token ∷ texts)) stops_operand (λ kind h. h))
      (inr (λ kind h. h))) s ts known)

  -- Behind a parenthesis.

  compound_law : (opening : ℕ) (t : TypeName) (closing room : ℕ) → room < suc n → 2 ≤ room
      → Law true (compound_with inner opening t closing room) is_open_brace stops_operand
  unfolding compound_with
  compound_law opening t closing room less two =
      bind_law true (inner.init_list (room - 1))
      (λ list. postfixed inner room (compound opening t.words t.declr closing list)) is_open_brace any stops_operand
      (record {
        good = places.lists.good (room - 1) (omega arith);
        ready = places.lists.ready (room - 1) (omega arith) (omega arith);
      })
      (λ list. postfixed_law room less (compound opening t.words t.declr closing list) any (λ kind h. refl))
      (inr (λ kind h. refl))

  pub compound_shrinks : (opening : ℕ) (t : TypeName) (closing room : ℕ)
      → Shrinks (compound_with inner opening t closing room)
  unfolding compound_with
  compound_shrinks opening t closing room =
      behind_shrinks (inner.init_list (room - 1))
      (λ list. postfixed inner room (compound opening t.words t.declr closing list)) (laws.lists.shrinks (room - 1))
      (λ list. falls room (compound opening t.words t.declr closing list))

  pub compound_good : (opening : ℕ) (t : TypeName) (closing room : ℕ) → room < suc n → 2 ≤ room
      → (s : HeldScopes) (ts : List Lexeme) → Good true (compound_with inner opening t closing room) stops_operand s ts
  compound_good opening t closing room less two s ts = (compound_law opening t closing room less two).good s ts

  abbrev cast_or_not : Bool → ℕ → TypeName → ℕ → ℕ → Reader Expr
  cast_or_not casts opening t closing room s ts =
      if casts then cast_behind inner opening t closing room s ts else refuses Unexpected ts

  cast_good : (casts : Bool) (opening : ℕ) (t : TypeName) (closing room : ℕ) → room < suc n → 2 ≤ room
      → (s : HeldScopes) (ts : List Lexeme) → Good true (cast_or_not casts opening t closing room) stops_operand s ts
  unfolding cast_behind
  cast_good false opening t closing room less two s ts =
      refused_here true (cast_or_not false opening t closing room) stops_operand s ts Unexpected (λ k e. refl)
  cast_good true opening t closing room less two s ts =
      mapped_good true (inner.expr Castable nothing (room - 1)) (λ e. cast opening t.words t.declr closing e)
      stops_operand s ts (places.exprs.good Castable nothing (room - 1) (omega arith) s ts)

  cast_falls : (casts : Bool) (opening : ℕ) (t : TypeName) (closing room : ℕ)
      → Falls (cast_or_not casts opening t closing room)
  unfolding cast_behind
  cast_falls false opening t closing room s ts x e = absurd cc
  cast_falls true opening t closing room s ts x e =
      behind_falls (inner.expr Castable nothing (room - 1)) (λ e. ends (cast opening t.words t.declr closing e))
      (shrinks_falls (inner.expr Castable nothing (room - 1)) (laws.exprs.shrinks Castable nothing (room - 1)))
      (λ e. ends_falls (cast opening t.words t.declr closing e)) s ts x e

  typed_behind_falls : (casts : Bool) (opening : ℕ) (t : TypeName) (closing room : ℕ)
      → Falls (typed_behind inner casts opening t closing room)
  unfolding typed_behind
  typed_behind_falls casts opening t closing room s ts x e =
      if_ok (is_open_brace (kind_at ts)) e (λ is e. shrinks_falls (compound_with inner opening t closing room)
      (compound_shrinks opening t closing room) s ts x e) (λ is e. cast_falls casts opening t closing room s ts x e)

  -- `{ }` completes a type's name in parentheses, whether a cast may stand there or not
  typed_behind_law : (casts : Bool) (opening : ℕ) (t : TypeName) (closing room : ℕ) → room < suc n → 2 ≤ room
      → Law true (typed_behind inner casts opening t closing room) any stops_operand
  unfolding typed_behind
  typed_behind_law casts opening t closing room less two = record {
    good = λ s ts.
        if_good true (λ s. is_open_brace) (compound_with inner opening t closing room)
        (cast_or_not casts opening t closing room) stops_operand s ts
        (λ is. compound_good opening t closing room less two s ts)
        (λ is. cast_good casts opening t closing room less two s ts)
        (λ is. inl (λ x e. compound_shrinks opening t closing room s ts x e)) (λ is. inr operand_no_brace);
    ready = λ s at.
        ready_before true (typed_behind inner casts opening t closing room) is_open_brace any stops_operand
        stops_operand s at (λ kind h. h) (λ kind h. refl)
        (ready_as true (compound_with inner opening t closing room)
        (typed_behind inner casts opening t closing room) is_open_brace stops_operand s at (λ k h. rw h refl)
        ((compound_law opening t closing room less two).ready s at));
  }

  typed_good : (casts : Bool) (opening room : ℕ) → room < suc n → 2 ≤ room → (s : HeldScopes) (ts : List Lexeme)
      → Good true (typed_with inner casts opening room) stops_operand s ts
  unfolding typed_with
  typed_good casts opening room less two s ts =
      bind_good true (inner.type_name (room - 1)) (λ t. behind (token_at is_close_paren)
      (λ closing. typed_behind inner casts opening t closing room)) is_close_paren stops_operand s ts
      (λ t scopes gives at. (rest t).ready scopes at) (good_before true (inner.type_name (room - 1)) stops_type
      is_close_paren s ts close_paren_type (places.types.good (room - 1) (omega arith) (omega arith) s ts))
      (λ x is. (rest x.tree).good x.scopes x.rest)
      (inl (λ x y is e. behind_shrinks (token_at is_close_paren)
      (λ closing. typed_behind inner casts opening x.tree closing room) (token_shrinks is_close_paren)
      (λ closing. typed_behind_falls casts opening x.tree closing room) x.scopes x.rest y e))
    where
      rest : (t : TypeName)
          → Law true (behind (token_at is_close_paren)
          (λ closing. typed_behind inner casts opening t closing room)) is_close_paren stops_operand
      rest t =
          token_then true is_close_paren (kinds.Punct puncts.CloseParen) is_close_paren stops_operand
          (λ closing. typed_behind inner casts opening t closing room) refl refl close_paren_end
          (λ closing. typed_behind_law casts opening t closing room less two)

  typed_shrinks : (casts : Bool) (opening room : ℕ) → Shrinks (typed_with inner casts opening room)
  unfolding typed_with
  typed_shrinks casts opening room =
      behind_shrinks (inner.type_name (room - 1)) (λ t. behind (token_at is_close_paren)
      (λ closing. typed_behind inner casts opening t closing room)) (laws.types.shrinks (room - 1))
      (λ t. behind_falls (token_at is_close_paren) (λ closing. typed_behind inner casts opening t closing room)
      (shrinks_falls (token_at is_close_paren) (token_shrinks is_close_paren))
      (λ closing. typed_behind_falls casts opening t closing room))

  statement_good : (opening room : ℕ) → room < suc n → 2 ≤ room → (s : HeldScopes) (ts : List Lexeme)
      → Good true (statement_with inner opening room) stops_operand s ts
  unfolding statement_with
  statement_good opening room less two s ts =
      (closed_law true (inner.block (room - 1)) is_close_paren
      (kinds.Punct puncts.CloseParen) is_open_brace stops_operand
      (λ block closing. postfixed inner room (statement_expr opening block.opening block.items block.closing closing))
      (law_before true (inner.block (room - 1)) is_open_brace is_open_brace any is_close_paren
      (λ kind h. refl) (λ kind h. h)
      (record {
        good = places.blocks.good (room - 1) (omega arith);
        ready = places.blocks.ready (room - 1) (omega arith) (omega arith);
      })) refl close_paren_end
      (λ block closing. postfixed_law room less
      (statement_expr opening block.opening block.items block.closing closing) any (λ kind h. refl))
      (λ block closing. falls room (statement_expr opening block.opening block.items block.closing closing))).good s ts

  statement_shrinks : (opening room : ℕ) → Shrinks (statement_with inner opening room)
  unfolding statement_with
  statement_shrinks opening room =
      behind_shrinks (inner.block (room - 1)) (λ block. behind (token_at is_close_paren)
      (λ closing. postfixed inner room (statement_expr opening block.opening block.items block.closing closing)))
      (laws.blocks.shrinks (room - 1))
      (λ block. behind_falls (token_at is_close_paren)
      (λ closing. postfixed inner room (statement_expr opening block.opening block.items block.closing closing))
      (shrinks_falls (token_at is_close_paren) (token_shrinks is_close_paren))
      (λ closing. falls room (statement_expr opening block.opening block.items block.closing closing)))

  paren_law : (opening room : ℕ) → room < suc n → 2 ≤ room
      → Law true (paren_with inner opening room) is_number stops_operand
  unfolding paren_with
  paren_law opening room less two =
      closed_law true (inner.expr Whole nothing (room - 1)) is_close_paren (kinds.Punct puncts.CloseParen) is_number
      stops_operand (λ e closing. postfixed inner room (paren opening e closing))
      (expr_law Whole room less two is_number is_close_paren (λ kind h. h) close_paren_whole) refl close_paren_end
      (λ e closing. postfixed_law room less (paren opening e closing) any (λ kind h. refl))
      (λ e closing. falls room (paren opening e closing))

  paren_shrinks : (opening room : ℕ) → Shrinks (paren_with inner opening room)
  unfolding paren_with
  paren_shrinks opening room =
      behind_shrinks (inner.expr Whole nothing (room - 1)) (λ e. behind (token_at is_close_paren)
      (λ closing. postfixed inner room (paren opening e closing))) (laws.exprs.shrinks Whole nothing (room - 1))
      (λ e. behind_falls (token_at is_close_paren) (λ closing. postfixed inner room (paren opening e closing))
      (shrinks_falls (token_at is_close_paren) (token_shrinks is_close_paren))
      (λ closing. falls room (paren opening e closing)))

  abbrev statement_or_paren : ℕ → ℕ → Reader Expr
  statement_or_paren opening room s ts =
      if is_open_brace (kind_at ts) then statement_with inner opening room s ts else paren_with inner opening room s ts

  statement_or_paren_shrinks : (opening room : ℕ) → Shrinks (statement_or_paren opening room)
  statement_or_paren_shrinks opening room s ts x e =
      if_ok (is_open_brace (kind_at ts)) e (λ is e. statement_shrinks opening room s ts x e)
      (λ is e. paren_shrinks opening room s ts x e)

  opened_by_law : (casts : Bool) (opening room : ℕ) → room < suc n → 2 ≤ room
      → Law true (opened_by inner casts opening room) any stops_operand
  unfolding opened_by
  opened_by_law casts opening room less two = record {
    good = λ s ts.
        if_good true begins_specs (typed_with inner casts opening room)
        (statement_or_paren opening room) stops_operand s ts (λ is. typed_good casts opening room less two s ts)
        (λ is. if_good true (λ s. is_open_brace) (statement_with inner opening room)
        (paren_with inner opening room) stops_operand s ts (λ is. statement_good opening room less two s ts)
        (λ is. (paren_law opening room less two).good s ts) (λ is. inl (λ x e. statement_shrinks opening room s ts x e))
        (λ is. inl (λ x e. paren_shrinks opening room s ts x e)))
        (λ is. inl (λ x e. typed_shrinks casts opening room s ts x e))
        (λ is. inl (λ x e. statement_or_paren_shrinks opening room s ts x e));
    ready = λ s at.
        ready_before true (opened_by inner casts opening room) is_number any stops_operand stops_operand s at
        (λ kind h. h) (λ kind h. refl)
        (ready_as true (paren_with inner opening room) (opened_by inner casts opening room) is_number stops_operand s at
        (λ k h. rw (number_no_specs s (kind_at k) h, number_no_brace (kind_at k) h) refl)
        ((paren_law opening room less two).ready s at));
  }

  pub opened_good : (casts : Bool) (room : ℕ) → room < suc n → (s : HeldScopes) (ts : List Lexeme)
      → is_end (kind_at ts) ≡ false → Good true (opened_with inner casts room) stops_operand s ts
  unfolding opened_with
  opened_good casts room less s ts known =
      fits_good true 2 room (behind take_one (λ opening. opened_by inner casts opening room)) stops_operand s ts
      (λ fit. take_behind true (λ opening. opened_by inner casts opening room) stops_operand
      (λ opening. opened_by_law casts opening room less fit) s ts known)

  -- an expression in parentheses
  pub opened_ready : (casts : Bool) (room : ℕ) → room < suc n → 2 ≤ room → (s : HeldScopes) (at : ℕ)
      → Ready true (opened_with inner casts room) is_open_paren stops_operand s at
  unfolding opened_with
  opened_ready casts room less two s at =
      ready_fits true 2 room
      (behind take_one (λ opening. opened_by inner casts opening room)) is_open_paren stops_operand s at two
      (ready_bind true take_one (λ opening. opened_by inner casts opening room) is_open_paren any stops_operand s at
      (ready_take true (kinds.Punct puncts.OpenParen) is_open_paren any s at refl)
      (λ opening scopes given at. (opened_by_law casts opening room less two).ready scopes at))
