-- What the readers of unary and postfix forms take is spelled so and well formed.
use Rattle.std.proofs.Common.{◌≡◌, ℕ, ◌<◌, ◌≤◌, Bool, true, false, List, [], ◌∷◌, length, Option, Some, None, refl, sym, ◌∙◌, ap, subst, arith}
use Rattle.std.specs.Prelude.{◌+◌, ◌-◌, max, if◌then◌else◌}
use Rattle.c_words.specs.declared.kinds.TokenKind.{TokenKind}
use Rattle.c_words.specs.declared.kinds.TokenKind.TheVariants as kinds
use Rattle.c_words.specs.declared.kinds.Punct.{Punct}
use Rattle.c_words.specs.declared.kinds.Punct.TheVariants as puncts
use Rattle.c_words.specs.declared.kinds.Keyword.{Keyword}
use Rattle.c_words.specs.declared.kinds.Keyword.TheVariants as keywords
use Rattle.c_tree.specs.declared.lexeme.Lexeme.{Lexeme}
use Rattle.c_syntax.specs.declared.parts.Word.{Word}
use Rattle.c_tree.specs.Tree.{Expr, compound, name_use, number_use, char_use, text_use, paren, statement_expr, va_arg, va_start, va_copy, offset, complex_part, label_use, compat, choose, generic, Assoc, Exprs, Desig}
use Rattle.c_tree.specs.Text.{separated, assocs_text, plain_text, sign_text, keyword_text, word_text, identifier_text, expr_text, exprs_text, spec_words_text, some_declr_text, block_items_text, desigs_text}
use Rattle.c_tree.specs.Height.{expr_height, assocs_height, exprs_height, steps_height}
use Rattle.c_tree.specs.Levels.{expr_level}
use Rattle.c_tree.specs.WellFormed.{IsExpr, AreArguments, prefix_level, IsSomeAbstract, AreTypeWords, is_sizeof}
use Rattle.c_units.specs.HeldScopes.{HeldScopes, is_wide, names_type}
use Rattle.c_units.specs.Scoping.{behind, where_true, assocs_scopes, expr_scopes, exprs_scopes, spec_words_scopes, some_declr_scopes, init_list_scopes, desigs_scopes}
use Rattle.c_reading.specs.declared.kinds.Reach.{Reach}
use Rattle.c_reading.specs.declared.kinds.Reach.TheVariants.{Whole, Assigned, Castable, Unary}
use Rattle.c_reading.specs.declared.kinds.Opening.{Opening}
use Rattle.c_reading.specs.declared.kinds.Opening.TheVariants as openings
use Rattle.c_reading.specs.declared.kinds.PostfixForm.{PostfixForm}
use Rattle.c_reading.specs.declared.kinds.PostfixForm.TheVariants as forms
use Rattle.c_reading.specs.Reading.{Found, Read, Reader, kind_at, behind_first, Next, one_more, IsNumbered, IsTail, CommaList, refuses}
use Rattle.c_reading.specs.Tokens.{is_open_paren, is_close_paren, is_close_bracket, is_open_brace, is_comma, is_colon, is_default, word_of}
use Rattle.c_reading.specs.Specifying.{begins_role, begins_specs}
use Rattle.c_reading.specs.declared.kinds.Role.TheVariants.{Naming}
use Rattle.c_reading.specs.Parts.{Inner, nothing, TypeName, type_name_height, assocs_from, exprs_from, desigs_from}
use Rattle.c_reading.specs.Expressing.{opening_of, form_of, is_dot, begins_desig, next_argument, arguments_with, postfix_by, lowered, postfix_turn, index_with, call_with, dot_with, arrow_with, post_with, postfixed, primary_with, text_with, compound_with, cast_behind, typed_behind, typed_with, statement_with, paren_with, opened_by, opened_with, prefix_with, extension_with, sizeof_value_with, sizeof_typed, sizeof_type_with, sizeof_behind, sizeof_with, va_arg_with, va_two_with, step_with, offset_with, part_with, label_use_with, compat_with, choose_with, default_assoc_with, typed_assoc_with, assoc_with, next_assoc, generic_with, unary_by, unary_with, cast_with, name_with}
use Rattle.c_reading.proofs.Binding.{found, done, bind_ok, fits_ok, if_ok}
use Rattle.c_reading.proofs.Loops.{run-keep}
use Rattle.c_reading.proofs.Tails.{comma_is}
use Rattle.c_reading.proofs.Forms.{Form, Takes, IsSound, at_end, behind_is, through, behind_token, took, took_token, took_name}
use Rattle.c_reading.proofs.Rows.{repeated_sound_at}
use Rattle.c_reading.proofs.Commas.{HasItem, no_ending, list_form, NextTakes, listed_sound, listed_shrinks, ending_text, commas_text}
use Rattle.c_reading.proofs.KindFacts.{open_paren_kind, close_paren_kind, close_bracket_kind, comma_kind, colon_kind, default_kind}
use Rattle.c_reading.proofs.Aims.{reach_level, assoc_form, expr_form, step_form, TokenLaws, Laws}
use Rattle.c_reading.proofs.ExprFalls.{some_is, assoc_shrinks, next_assoc_falls}
use Rattle.c_reading.proofs.ExprLists.{assocs_are, assocs_fit, some_assocs, assocs_named, assocs_high, exprs_are, exprs_fit, exprs_named, exprs_high, steps_are, steps_fit, steps_named, steps_high}
use Rattle.c_reading.proofs.ExprKinds.{IsForm, form_is, IsOpening, opening_is}
use Rattle.c_reading.specs.declared.kinds.FaultKind.TheVariants.{Unexpected}
use Rattle.c_tree.specs.Specifiers.{IsMix}

module _ (all : List Lexeme) where
  -- expressions of a level at least
  abbrev pub level_form : ℕ → Form Expr
  level_form level = record {
    text = expr_text all;
    Fits = λ e. IsExpr all e × (level ≤ expr_level e);
    scopes = expr_scopes;
    height = expr_height;
  }

  pub lower : (n m room : ℕ) (s : HeldScopes) (ts : List Lexeme) (x : Found Expr) → m ≤ n
      → Takes all (level_form n) room s ts x → Takes all (level_form m) room s ts x
  lower n m room s ts x less h = record {
    spelled = h.spelled;
    fits = (h.fits.0, omega (arith, less, h.fits.1));
    named = h.named;
    low = h.low;
    left = h.left;
  }

  -- a type's name in parentheses
  abbrev pub typed_text : ℕ → TypeName → ℕ → List Lexeme → List Lexeme
  typed_text opening t closing k =
      sign_text puncts.OpenParen opening
      (spec_words_text all t.words (some_declr_text all t.declr (sign_text puncts.CloseParen closing k)))

  -- what such a name is, with the scopes before and behind it
  pub record TypedAt (room : ℕ) (s : HeldScopes) (t : TypeName) (u : HeldScopes) : Type 0 where
    pub fits : IsMix t.words × AreTypeWords all t.words × IsSomeAbstract all t.declr
    pub named : behind (spec_words_scopes t.words s) (some_declr_scopes None t.declr) ≡ Some u
    pub low : type_name_height t ≤ room

  module _ (numbered : IsNumbered all) (tokens : TokenLaws all) (n : ℕ) (inner : Inner) (laws : Laws all n inner) where
    next_argument_sound : (room comma : ℕ) (s : HeldScopes) (ts : List Lexeme) (x : Found (Next Expr ⊥)) → IsTail all ts
        → next_argument inner room comma s ts ≡ done x →
        NextTakes all (expr_form all Assigned) no_ending (room - 1) comma s ts x.tree x.scopes x.rest
    unfolding next_argument
    next_argument_sound room comma s ts x tail e =
        let a = bind_ok e in
        at_end (λ (x : Found (Next Expr ⊥)). NextTakes all (expr_form all Assigned) no_ending
        (room - 1) comma s ts x.tree x.scopes x.rest) a.2 (
          laws.exprs.sound Assigned (room - 1) s ts a.0 tail a.1,
          laws.exprs.shrinks Assigned nothing (room - 1) s ts a.0 a.1,
        )

    -- arguments, as one form
    abbrev arguments_form : Form Exprs
    arguments_form =
        record { text = exprs_text all; Fits = AreArguments all; scopes = exprs_scopes; height = exprs_height }

    arguments_sound : (room : ℕ) → IsSound all arguments_form (room - 1) (arguments_with inner room)
    unfolding arguments_with
    arguments_sound room s ts x tail e =
        if_ok (is_close_paren (kind_at ts)) e (λ is e. at_end (Takes all arguments_form (room - 1) s ts) e
        (record { spelled = refl; fits = tt; named = refl; low = omega arith; left = tail })) (λ is e.
        let a = bind_ok e in
        let i = listed_sound (inner.expr Assigned nothing (room - 1)) (next_argument inner room) all numbered
        (expr_form all Assigned) no_ending (room - 1)
        (laws.exprs.sound Assigned (room - 1)) (next_argument_sound room) s ts a.0 tail a.1 in
        at_end (Takes all arguments_form (room - 1) s ts) a.2 (of_list a.0 i))
      where
        of_list : (l : Found (CommaList Expr ⊥))
            → Takes all (list_form (expr_form all Assigned) no_ending) (room - 1) s ts l →
            Takes all arguments_form (room - 1) s ts (found (exprs_from l.tree.items) l.scopes l.rest)
        of_list l i = record {
          spelled = by_ending l.tree.ending i.spelled;
          fits = exprs_fit all l.tree.items i.fits.1;
          named = sym (exprs_named all l.tree.items s) ∙ i.named;
          low = subst (λ (h : ℕ). h ≤ room - 1) (exprs_high all l.tree.items) i.low;
          left = i.left;
        }
          where
            by_ending : (o : Option ⊥)
                → ts ≡ commas_text (expr_form all Assigned) no_ending l.tree.items
                (ending_text (expr_form all Assigned) no_ending o l.rest) →
                ts ≡ exprs_text all (exprs_from l.tree.items) l.rest
            by_ending None is = is ∙ exprs_are all l.tree.items l.rest
            by_ending (Some e) is = absurd e

    -- one more postfix form
    postfix_taken : (room : ℕ) (s : HeldScopes) (ts : List Lexeme) (base : Expr) (t : HeldScopes) (k : List Lexeme)
        (x : Found Expr)
        → Takes all (level_form 15) room s ts (found base t k) →
        postfix_turn inner room base t k ≡ Some (done x) → Takes all (level_form 15) room s ts x
    unfolding index_with call_with dot_with arrow_with post_with
    postfix_taken room s ts base t k x h e = by_form (form_of (kind_at k)) (form_is (kind_at k)) e
      where
        by_form : (f : PostfixForm) → IsForm f (kind_at k)
            → lowered inner (expr_height base) room k (postfix_by inner f room base t k) ≡ Some (done x)
            → Takes all (level_form 15) room s ts x
        by_form forms.Index is e =
            let r = fits_ok _ _ _ (some_is all tokens n inner laws e) in
            let a = bind_ok r.1 in
            let b = bind_ok a.2 in
            let c = bind_ok b.2 in
            let o = took all (kinds.Punct puncts.OpenBracket) t k a.0 h.left is a.1 in
            let i = laws.exprs.sound Whole (room - 1) a.0.scopes a.0.rest b.0 o.left b.1 in
            let q = took_token all is_close_bracket
            (kinds.Punct puncts.CloseBracket) close_bracket_kind b.0.scopes b.0.rest c.0 i.left c.1 in
            at_end (Takes all (level_form 15) room s ts) c.2 (record {
              spelled = h.spelled ∙ ap (expr_text all base) (o.spelled
                  ∙ ap (sign_text puncts.OpenBracket a.0.tree) (i.spelled ∙ ap (expr_text all b.0.tree) q.spelled));
              fits = ((h.fits.0, i.fits.0, h.fits.1), omega arith);
              named = behind_is (expr_scopes b.0.tree) h.named (through (expr_scopes b.0.tree) o.same i.named q.same);
              low = omega (arith, r.0, i.low);
              left = q.left;
            })
        by_form forms.Call is e =
            let r = fits_ok _ _ _ (some_is all tokens n inner laws e) in
            let a = bind_ok r.1 in
            let b = bind_ok a.2 in
            let c = bind_ok b.2 in
            let o = took all (kinds.Punct puncts.OpenParen) t k a.0 h.left is a.1 in
            let i = arguments_sound room a.0.scopes a.0.rest b.0 o.left b.1 in
            let q = took_token all is_close_paren
            (kinds.Punct puncts.CloseParen) close_paren_kind b.0.scopes b.0.rest c.0 i.left c.1 in
            at_end (Takes all (level_form 15) room s ts) c.2 (record {
              spelled = h.spelled ∙ ap (expr_text all base) (o.spelled
                  ∙ ap (sign_text puncts.OpenParen a.0.tree) (i.spelled ∙ ap (exprs_text all b.0.tree) q.spelled));
              fits = ((h.fits.0, i.fits, h.fits.1), omega arith);
              named = behind_is (exprs_scopes b.0.tree) h.named (through (exprs_scopes b.0.tree) o.same i.named q.same);
              low = omega (arith, r.0, i.low);
              left = q.left;
            })
        by_form forms.Dot is e =
            let r = fits_ok _ _ _ (some_is all tokens n inner laws e) in
            let a = bind_ok r.1 in
            let b = bind_ok a.2 in
            let o = took all (kinds.Punct puncts.Dot) t k a.0 h.left is a.1 in
            let q = took_name all a.0.scopes a.0.rest b.0 o.left b.1 in
            at_end (Takes all (level_form 15) room s ts) b.2 (record {
              spelled = h.spelled ∙ ap (expr_text all base) (o.spelled ∙ ap (sign_text puncts.Dot a.0.tree) q.spelled);
              fits = ((h.fits.0, h.fits.1), omega arith);
              named = h.named ∙ ap Some (sym o.same ∙ sym q.same);
              low = omega (arith, r.0);
              left = q.left;
            })
        by_form forms.Arrow is e =
            let r = fits_ok _ _ _ (some_is all tokens n inner laws e) in
            let a = bind_ok r.1 in
            let b = bind_ok a.2 in
            let o = took all (kinds.Punct puncts.Arrow) t k a.0 h.left is a.1 in
            let q = took_name all a.0.scopes a.0.rest b.0 o.left b.1 in
            at_end (Takes all (level_form 15) room s ts) b.2 (record {
              spelled =
                  h.spelled ∙ ap (expr_text all base) (o.spelled ∙ ap (sign_text puncts.Arrow a.0.tree) q.spelled);
              fits = ((h.fits.0, h.fits.1), omega arith);
              named = h.named ∙ ap Some (sym o.same ∙ sym q.same);
              low = omega (arith, r.0);
              left = q.left;
            })
        by_form (forms.Post p) is e =
            let r = fits_ok _ _ _ (some_is all tokens n inner laws e) in
            let a = bind_ok r.1 in
            let o = took all (kinds.Punct p) t k a.0 h.left is.0 a.1 in
            at_end (Takes all (level_form 15) room s ts) a.2 (record {
              spelled = h.spelled ∙ ap (expr_text all base) o.spelled;
              fits = ((h.fits.0, is.1, h.fits.1), omega arith);
              named = h.named ∙ ap Some (sym o.same);
              low = omega (arith, r.0);
              left = o.left;
            })
        by_form forms.Nothing is e = absurd cc

    pub postfixed_sound : (room : ℕ) (s : HeldScopes) (ts : List Lexeme) (base : Expr) (t : HeldScopes)
        (k : List Lexeme) (x : Found Expr)
        → Takes all (level_form 15) room s ts (found base t k) →
        postfixed inner room base t k ≡ done x → Takes all (level_form 15) room s ts x
    unfolding postfixed
    postfixed_sound room s ts base t k x h e =
        run-keep (postfix_turn inner room) (λ a t k. Takes all (level_form 15) room s ts (found a t k))
        (λ a t k x h e. postfix_taken room s ts a t k x h e) base t k x h e

    -- what begins with a token and goes on as a primary expression with its postfix forms
    primary_taken : (make : ℕ → Expr) (kind : TokenKind) (room : ℕ) (s : HeldScopes) (ts : List Lexeme) (x : Found Expr)
        → IsTail all ts → kind_at ts ≡ kind →
        ((token : ℕ) (k : List Lexeme) → plain_text kind token k ≡ expr_text all (make token) k)
        → ((token : ℕ) → IsExpr all (make token) × (15 ≤ expr_level (make token))) →
        ((token : ℕ) → expr_scopes (make token) s ≡ Some s) → ((token : ℕ) → expr_height (make token) ≡ 1) →
        primary_with inner make room s ts ≡ done x → Takes all (level_form 15) room s ts x
    primary_taken make kind room s ts x tail is spells fits named high e =
        let r = fits_ok _ _ _ e in
        let a = bind_ok r.1 in
        let o = took all kind s ts a.0 tail is a.1 in
        let low : expr_height (make a.0.tree) ≤ room = rw (high a.0.tree) r.0 in
        postfixed_sound room s ts (make a.0.tree) a.0.scopes a.0.rest x
        (record {
          spelled = o.spelled ∙ spells a.0.tree a.0.rest;
          fits = fits a.0.tree;
          named = named a.0.tree ∙ ap Some (sym o.same);
          low = low;
          left = o.left;
        }) a.2

    text_sound : (room : ℕ) (s : HeldScopes) (ts : List Lexeme) (x : Found Expr) → IsTail all ts
        → kind_at ts ≡ kinds.Text → text_with inner room s ts ≡ done x → Takes all (level_form 15) room s ts x
    unfolding text_with
    text_sound room s ts x tail is e =
        let r = fits_ok _ _ _ e in
        let a = bind_ok r.1 in
        let b = bind_ok a.2 in
        let o = took all kinds.Text s ts a.0 tail is a.1 in
        let i = tokens.texts_sound room a.0.scopes a.0.rest b.0 o.left b.1 in
        postfixed_sound room s ts (text_use (a.0.tree ∷ b.0.tree)) b.0.scopes b.0.rest x
        (record {
          spelled = o.spelled ∙ ap (plain_text kinds.Text a.0.tree) i.spelled;
          fits = (λ e. absurd cc, omega arith);
          named = ap Some (sym o.same) ∙ i.named;
          low = r.0;
          left = i.left;
        }) b.2

    compound_sound : (opening : ℕ) (t : TypeName) (closing room : ℕ) (s0 s : HeldScopes) (ts : List Lexeme)
        (x : Found Expr)
        → TypedAt (room - 1) s0 t s → 1 ≤ room → IsTail all ts →
        compound_with inner opening t closing room s ts ≡ done x
        → Takes all (level_form 15) room s0 (typed_text opening t closing ts) x
    unfolding compound_with
    compound_sound opening t closing room s0 s ts x typed least tail e =
        let a = bind_ok e in
        let i = laws.lists.sound (room - 1) s ts a.0 tail a.1 in
        postfixed_sound room s0 (typed_text opening t closing ts)
        (compound opening t.words t.declr closing a.0.tree) a.0.scopes a.0.rest x
        (record {
          spelled = ap (typed_text opening t closing) i.spelled;
          fits = ((typed.fits.0, typed.fits.1, typed.fits.2, i.fits), omega arith);
          named = behind_is (init_list_scopes a.0.tree) typed.named i.named;
          low = omega (arith, typed.low, i.low, least);
          left = i.left;
        }) a.2

    -- a cast, where one is wanted, or a unary form
    abbrev pub cast_level : Bool → ℕ
    cast_level true = 13
    cast_level false = 14

    above_cast : (casts : Bool) → cast_level casts ≤ 15
    above_cast true = omega arith
    above_cast false = omega arith

    cast_behind_sound : (opening : ℕ) (t : TypeName) (closing room : ℕ) (s0 s : HeldScopes) (ts : List Lexeme)
        (x : Found Expr)
        → TypedAt (room - 1) s0 t s → 1 ≤ room → IsTail all ts →
        cast_behind inner opening t closing room s ts ≡ done x
        → Takes all (level_form 13) room s0 (typed_text opening t closing ts) x
    unfolding cast_behind
    cast_behind_sound opening t closing room s0 s ts x typed least tail e =
        let a = bind_ok e in
        let i = laws.exprs.sound Castable (room - 1) s ts a.0 tail a.1 in
        at_end (Takes all (level_form 13) room s0 (typed_text opening t closing ts)) a.2 (record {
          spelled = ap (typed_text opening t closing) i.spelled;
          fits = ((typed.fits.0, typed.fits.1, typed.fits.2, i.fits.0, i.fits.1), omega arith);
          named = behind_is (expr_scopes a.0.tree) typed.named i.named;
          low = omega (arith, typed.low, i.low, least);
          left = i.left;
        })

    typed_behind_sound : (casts : Bool) (opening : ℕ) (t : TypeName) (closing room : ℕ) (s0 s : HeldScopes)
        (ts : List Lexeme) (x : Found Expr)
        → TypedAt (room - 1) s0 t s → 1 ≤ room → IsTail all ts →
        typed_behind inner casts opening t closing room s ts ≡ done x
        → Takes all (level_form (cast_level casts)) room s0 (typed_text opening t closing ts) x
    unfolding typed_behind
    typed_behind_sound casts opening t closing room s0 s ts x typed least tail e =
        if_ok (is_open_brace (kind_at ts)) e (λ is e.
        lower 15 (cast_level casts) room s0 (typed_text opening t closing ts) x (above_cast casts)
        (compound_sound opening t closing room s0 s ts x typed least tail e)) (λ is e. by_casts casts e)
      where
        by_casts : (casts : Bool)
            → (if casts then cast_behind inner opening t closing room s ts else refuses Unexpected ts) ≡ done x →
            Takes all (level_form (cast_level casts)) room s0 (typed_text opening t closing ts) x
        by_casts true e = cast_behind_sound opening t closing room s0 s ts x typed least tail e
        by_casts false e = absurd cc

    -- behind a parenthesis
    typed_sound : (casts : Bool) (opening room : ℕ) (s : HeldScopes) (ts : List Lexeme) (x : Found Expr) → 1 ≤ room
        → IsTail all ts → typed_with inner casts opening room s ts ≡ done x →
        Takes all (level_form (cast_level casts)) room s (sign_text puncts.OpenParen opening ts) x
    unfolding typed_with
    typed_sound casts opening room s ts x least tail e =
        let a = bind_ok e in
        let b = bind_ok a.2 in
        let i = laws.types.sound (room - 1) s ts a.0 tail a.1 in
        let q = took_token all is_close_paren
        (kinds.Punct puncts.CloseParen) close_paren_kind a.0.scopes a.0.rest b.0 i.left b.1 in
        let is : sign_text puncts.OpenParen opening ts ≡ typed_text opening a.0.tree b.0.tree b.0.rest =
        ap (sign_text puncts.OpenParen opening) (i.spelled ∙ ap
        (λ (k : List Lexeme). spec_words_text all a.0.tree.words (some_declr_text all a.0.tree.declr k)) q.spelled) in
        rw is (typed_behind_sound casts opening a.0.tree b.0.tree room s b.0.scopes b.0.rest x
        (record { fits = i.fits; named = i.named ∙ ap Some (sym q.same); low = i.low }) least q.left b.2)

    statement_sound : (opening room : ℕ) (s : HeldScopes) (ts : List Lexeme) (x : Found Expr) → 1 ≤ room → IsTail all ts
        → statement_with inner opening room s ts ≡ done x →
        Takes all (level_form 15) room s (sign_text puncts.OpenParen opening ts) x
    unfolding statement_with
    statement_sound opening room s ts x least tail e =
        let a = bind_ok e in
        let b = bind_ok a.2 in
        let i = laws.blocks.sound (room - 1) s ts a.0 tail a.1 in
        let q = took_token all is_close_paren
        (kinds.Punct puncts.CloseParen) close_paren_kind a.0.scopes a.0.rest b.0 i.left b.1 in
        postfixed_sound room s (sign_text puncts.OpenParen opening ts)
        (statement_expr opening a.0.tree.opening a.0.tree.items a.0.tree.closing b.0.tree) b.0.scopes b.0.rest x
        (record {
          spelled = ap (sign_text puncts.OpenParen opening)
              (i.spelled ∙ ap (λ (k : List Lexeme). sign_text puncts.OpenBrace a.0.tree.opening
              (block_items_text all a.0.tree.items (sign_text puncts.CloseBrace a.0.tree.closing k))) q.spelled);
          fits = (i.fits, omega arith);
          named = i.named ∙ ap Some (sym q.same);
          low = omega (arith, i.low, least);
          left = q.left;
        }) b.2

    paren_sound : (opening room : ℕ) (s : HeldScopes) (ts : List Lexeme) (x : Found Expr) → 1 ≤ room → IsTail all ts
        → paren_with inner opening room s ts ≡ done x →
        Takes all (level_form 15) room s (sign_text puncts.OpenParen opening ts) x
    unfolding paren_with
    paren_sound opening room s ts x least tail e =
        let a = bind_ok e in
        let b = bind_ok a.2 in
        let i = laws.exprs.sound Whole (room - 1) s ts a.0 tail a.1 in
        let q = took_token all is_close_paren
        (kinds.Punct puncts.CloseParen) close_paren_kind a.0.scopes a.0.rest b.0 i.left b.1 in
        postfixed_sound room s (sign_text puncts.OpenParen opening ts)
        (paren opening a.0.tree b.0.tree) b.0.scopes b.0.rest x
        (record {
          spelled = ap (sign_text puncts.OpenParen opening) (i.spelled ∙ ap (expr_text all a.0.tree) q.spelled);
          fits = (i.fits.0, omega arith);
          named = i.named ∙ ap Some (sym q.same);
          low = omega (arith, i.low, least);
          left = q.left;
        }) b.2

    opened_by_sound : (casts : Bool) (opening room : ℕ) (s : HeldScopes) (ts : List Lexeme) (x : Found Expr) → 1 ≤ room
        → IsTail all ts → opened_by inner casts opening room s ts ≡ done x →
        Takes all (level_form (cast_level casts)) room s (sign_text puncts.OpenParen opening ts) x
    unfolding opened_by
    opened_by_sound casts opening room s ts x least tail e =
        if_ok (begins_specs s (kind_at ts)) e (λ is e. typed_sound casts opening room s ts x least tail e) (λ is e.
        lower 15 (cast_level casts) room s (sign_text puncts.OpenParen opening ts) x (above_cast casts)
        (if_ok (is_open_brace (kind_at ts)) e (λ is e. statement_sound opening room s ts x least tail e)
        (λ is e. paren_sound opening room s ts x least tail e)))

    opened_sound : (casts : Bool) (room : ℕ) (s : HeldScopes) (ts : List Lexeme) (x : Found Expr) → IsTail all ts
        → kind_at ts ≡ kinds.Punct puncts.OpenParen → opened_with inner casts room s ts ≡ done x →
        Takes all (level_form (cast_level casts)) room s ts x
    unfolding opened_with
    opened_sound casts room s ts x tail is e =
        let r = fits_ok _ _ _ e in
        let a = bind_ok r.1 in
        let o = took all (kinds.Punct puncts.OpenParen) s ts a.0 tail is a.1 in
        behind_token all (level_form (cast_level casts)) room (kinds.Punct puncts.OpenParen) s ts a.0 x o
        (opened_by_sound casts a.0.tree room a.0.scopes a.0.rest x (omega (arith, r.0)) o.left a.2)

    prefix_sound : (p : Punct) (reach : Reach) (room : ℕ) (s : HeldScopes) (ts : List Lexeme) (x : Found Expr)
        → IsTail all ts → kind_at ts ≡ kinds.Punct p → prefix_level p ≡ reach_level reach →
        prefix_with inner p reach room s ts ≡ done x → Takes all (level_form 14) room s ts x
    unfolding prefix_with
    prefix_sound p reach room s ts x tail is level e =
        let r = fits_ok _ _ _ e in
        let a = bind_ok r.1 in
        let b = bind_ok a.2 in
        let o = took all (kinds.Punct p) s ts a.0 tail is a.1 in
        let i = laws.exprs.sound reach (room - 1) a.0.scopes a.0.rest b.0 o.left b.1 in
        at_end (Takes all (level_form 14) room s ts) b.2 (record {
          spelled = o.spelled ∙ ap (sign_text p a.0.tree) i.spelled;
          fits = ((i.fits.0, rw level i.fits.1), omega arith);
          named = through (expr_scopes b.0.tree) o.same i.named refl;
          low = omega (arith, r.0, i.low);
          left = i.left;
        })

    extension_sound : (room : ℕ) (s : HeldScopes) (ts : List Lexeme) (x : Found Expr) → IsTail all ts
        → kind_at ts ≡ kinds.Keyword keywords.Extension → extension_with inner room s ts ≡ done x →
        Takes all (level_form 14) room s ts x
    unfolding extension_with
    extension_sound room s ts x tail is e =
        let r = fits_ok _ _ _ e in
        let a = bind_ok r.1 in
        let b = bind_ok a.2 in
        let o = took all (kinds.Keyword keywords.Extension) s ts a.0 tail is a.1 in
        let i = laws.exprs.sound Castable (room - 1) a.0.scopes a.0.rest b.0 o.left b.1 in
        at_end (Takes all (level_form 14) room s ts) b.2 (record {
          spelled = o.spelled ∙ ap (keyword_text keywords.Extension a.0.tree) i.spelled;
          fits = ((i.fits.0, i.fits.1), omega arith);
          named = through (expr_scopes b.0.tree) o.same i.named refl;
          low = omega (arith, r.0, i.low);
          left = i.left;
        })

    part_sound : (room : ℕ) (s : HeldScopes) (ts : List Lexeme) (x : Found Expr) → IsTail all ts
        → kind_at ts ≡ kinds.Keyword keywords.Part → part_with inner room s ts ≡ done x →
        Takes all (level_form 14) room s ts x
    unfolding part_with
    part_sound room s ts x tail is e =
        let r = fits_ok _ _ _ e in
        let a = bind_ok r.1 in
        let b = bind_ok a.2 in
        let o = took all (kinds.Keyword keywords.Part) s ts a.0 tail is a.1 in
        let i = laws.exprs.sound Castable (room - 1) a.0.scopes a.0.rest b.0 o.left b.1 in
        at_end (Takes all (level_form 14) room s ts) b.2 (record {
          spelled = o.spelled ∙ ap (keyword_text keywords.Part a.0.tree) i.spelled;
          fits = ((i.fits.0, i.fits.1), omega arith);
          named = through (expr_scopes b.0.tree) o.same i.named refl;
          low = omega (arith, r.0, i.low);
          left = i.left;
        })

    label_use_sound : (room : ℕ) (s : HeldScopes) (ts : List Lexeme) (x : Found Expr) → IsTail all ts
        → kind_at ts ≡ kinds.Punct puncts.AmpersandAmpersand → label_use_with inner room s ts ≡ done x →
        Takes all (level_form 14) room s ts x
    unfolding label_use_with
    label_use_sound room s ts x tail is e =
        if_ok (is_wide s) e (λ wide e.
        let r = fits_ok _ _ _ e in
        let a = bind_ok r.1 in
        let b = bind_ok a.2 in
        let o = took all (kinds.Punct puncts.AmpersandAmpersand) s ts a.0 tail is a.1 in
        let q = took_name all a.0.scopes a.0.rest b.0 o.left b.1 in
        let named : where_true (is_wide s) s ≡ Some b.0.scopes = rw wide (ap Some (sym o.same ∙ sym q.same)) in
        at_end (Takes all (level_form 14) room s ts) b.2 (record {
          spelled = o.spelled ∙ ap (sign_text puncts.AmpersandAmpersand a.0.tree) q.spelled;
          fits = (tt, omega arith);
          named = named;
          low = r.0;
          left = q.left;
        })) (λ wide e. absurd cc)

    module _ (word : Word) (kind : is_sizeof word.keyword ≡ true) where
      sizeof_value_sound : (room : ℕ) (s : HeldScopes) (ts : List Lexeme) (x : Found Expr) → 1 ≤ room → IsTail all ts
          → sizeof_value_with inner word room s ts ≡ done x →
          Takes all (level_form 14) room s (word_text word ts) x
      unfolding sizeof_value_with
      sizeof_value_sound room s ts x least tail e =
          let a = bind_ok e in
          let i = laws.exprs.sound Unary (room - 1) s ts a.0 tail a.1 in
          at_end (Takes all (level_form 14) room s (word_text word ts)) a.2 (record {
            spelled = ap (word_text word) i.spelled;
            fits = ((i.fits.0, kind, i.fits.1), omega arith);
            named = i.named;
            low = omega (arith, least, i.low);
            left = i.left;
          })

      sizeof_typed_sound : (opening : ℕ) (t : TypeName) (closing room : ℕ) (s0 s : HeldScopes) (ts : List Lexeme)
          (x : Found Expr)
          → TypedAt (room - 1) s0 t s → 1 ≤ room → IsTail all ts →
          sizeof_typed inner word opening t closing room s ts ≡ done x
          → Takes all (level_form 14) room s0 (word_text word (typed_text opening t closing ts)) x
      unfolding sizeof_typed
      sizeof_typed_sound opening t closing room s0 s ts x typed least tail e =
          if_ok (is_open_brace (kind_at ts)) e (λ is e.
          let r = fits_ok _ _ _ e in
          let a = bind_ok r.1 in
          let i = compound_sound opening t closing (room - 1) s0 s ts a.0
          (record { fits = typed.fits; named = typed.named; low = omega (arith, r.0) }) (omega (arith, r.0)) tail a.1 in
          at_end (Takes all (level_form 14) room s0 (word_text word (typed_text opening t closing ts))) a.2 (record {
            spelled = ap (word_text word) i.spelled;
            fits = ((i.fits.0, kind, omega (arith, i.fits.1)), omega arith);
            named = i.named;
            low = omega (arith, least, i.low);
            left = i.left;
          }))
          (λ is e.
          at_end (Takes all (level_form 14) room s0 (word_text word (typed_text opening t closing ts))) e (record {
            spelled = refl;
            fits = ((typed.fits.0, typed.fits.1, typed.fits.2, kind), omega arith);
            named = typed.named;
            low = omega (arith, least, typed.low);
            left = tail;
          }))

      sizeof_type_sound : (room : ℕ) (s : HeldScopes) (ts : List Lexeme) (x : Found Expr) → 1 ≤ room → IsTail all ts
          → kind_at ts ≡ kinds.Punct puncts.OpenParen → sizeof_type_with inner word room s ts ≡ done x →
          Takes all (level_form 14) room s (word_text word ts) x
      unfolding sizeof_type_with
      sizeof_type_sound room s ts x least tail is e =
          let a = bind_ok e in
          let b = bind_ok a.2 in
          let c = bind_ok b.2 in
          let o = took all (kinds.Punct puncts.OpenParen) s ts a.0 tail is a.1 in
          let i = laws.types.sound (room - 1) a.0.scopes a.0.rest b.0 o.left b.1 in
          let q = took_token all is_close_paren
          (kinds.Punct puncts.CloseParen) close_paren_kind b.0.scopes b.0.rest c.0 i.left c.1 in
          let spelled : ts ≡ typed_text a.0.tree b.0.tree c.0.tree c.0.rest =
          o.spelled ∙ ap (sign_text puncts.OpenParen a.0.tree) (i.spelled ∙ ap
          (λ (k : List Lexeme). spec_words_text all b.0.tree.words (some_declr_text all b.0.tree.declr k)) q.spelled) in
          rw spelled (sizeof_typed_sound a.0.tree b.0.tree c.0.tree room s c.0.scopes c.0.rest x
          (record {
            fits = i.fits;
            named = through (λ s. behind (spec_words_scopes b.0.tree.words s)
                (some_declr_scopes None b.0.tree.declr)) o.same i.named q.same;
            low = i.low;
          }) least q.left c.2)

      sizeof_behind_sound : (room : ℕ) (s : HeldScopes) (ts : List Lexeme) (x : Found Expr) → 1 ≤ room → IsTail all ts
          → sizeof_behind inner word room s ts ≡ done x →
          Takes all (level_form 14) room s (word_text word ts) x
      unfolding sizeof_behind
      sizeof_behind_sound room s ts x least tail e =
          if_ok (is_open_paren (kind_at ts)) e (λ is e.
          if_ok (begins_specs s (kind_at (behind_first ts))) (fits_ok _ _ _ e).1
          (λ begun e. sizeof_type_sound room s ts x least tail (open_paren_kind (kind_at ts) is) e)
          (λ begun e. sizeof_value_sound room s ts x least tail e))
          (λ is e. sizeof_value_sound room s ts x least tail e)

    sizeof_sound : (keyword : Keyword) (room : ℕ) (s : HeldScopes) (ts : List Lexeme) (x : Found Expr) → IsTail all ts
        → kind_at ts ≡ kinds.Keyword keyword → is_sizeof keyword ≡ true →
        sizeof_with inner keyword room s ts ≡ done x → Takes all (level_form 14) room s ts x
    unfolding sizeof_with
    sizeof_sound keyword room s ts x tail is kind e =
        let r = fits_ok _ _ _ e in
        let a = bind_ok r.1 in
        let o = took all (kinds.Keyword keyword) s ts a.0 tail is a.1 in
        behind_token all (level_form 14) room (kinds.Keyword keyword) s ts a.0 x o
        (sizeof_behind_sound (word_of keyword a.0.tree) kind room a.0.scopes a.0.rest x (omega (arith, r.0)) o.left a.2)

    unary_fifteen : 14 ≤ 15
    unary_fifteen = omega arith

    primary_fifteen : 15 ≤ 16
    primary_fifteen = omega arith

    -- scopes through two parts
    behind_two : (f g h : HeldScopes → Option HeldScopes) (s t u v : HeldScopes) → f s ≡ Some t
        → behind (g t) h ≡ Some u → u ≡ v → behind (behind (f s) g) h ≡ Some v
    behind_two f g h s t u v p q same = rw p (q ∙ ap Some same)

    va_arg_sound : (room : ℕ) (s : HeldScopes) (ts : List Lexeme) (x : Found Expr) → IsTail all ts
        → kind_at ts ≡ kinds.Keyword keywords.VaArg → va_arg_with inner room s ts ≡ done x →
        Takes all (level_form 14) room s ts x
    unfolding va_arg_with
    va_arg_sound room s ts x tail is e =
        let r = fits_ok _ _ _ e in
        let a = bind_ok r.1 in
        let b = bind_ok a.2 in
        let c = bind_ok b.2 in
        let d = bind_ok c.2 in
        let f = bind_ok d.2 in
        let g = bind_ok f.2 in
        let o = took all (kinds.Keyword keywords.VaArg) s ts a.0 tail is a.1 in
        let p = took_token all is_open_paren
        (kinds.Punct puncts.OpenParen) open_paren_kind a.0.scopes a.0.rest b.0 o.left b.1 in
        let i = laws.exprs.sound Assigned (room - 1) b.0.scopes b.0.rest c.0 p.left c.1 in
        let q = took_token all is_comma (kinds.Punct puncts.Comma) comma_kind c.0.scopes c.0.rest d.0 i.left d.1 in
        let j = laws.types.sound (room - 1) d.0.scopes d.0.rest f.0 q.left f.1 in
        let l = took_token all is_close_paren
        (kinds.Punct puncts.CloseParen) close_paren_kind f.0.scopes f.0.rest g.0 j.left g.1 in
        lower 15 14 room s ts x unary_fifteen (postfixed_sound room s ts
        (va_arg a.0.tree b.0.tree c.0.tree d.0.tree f.0.tree.words f.0.tree.declr g.0.tree) g.0.scopes g.0.rest x
        (record {
          spelled = o.spelled ∙ ap (keyword_text keywords.VaArg a.0.tree) (p.spelled
              ∙ ap (sign_text puncts.OpenParen b.0.tree) (i.spelled ∙ ap (expr_text all c.0.tree) (q.spelled ∙
              ap (sign_text puncts.Comma d.0.tree) (j.spelled ∙ ap (λ (k : List Lexeme).
              spec_words_text all f.0.tree.words (some_declr_text all f.0.tree.declr k)) l.spelled))));
          fits = ((i.fits.0, j.fits.0, j.fits.1, j.fits.2, i.fits.1), primary_fifteen);
          named = behind_two (expr_scopes c.0.tree) (spec_words_scopes f.0.tree.words)
              (some_declr_scopes None f.0.tree.declr) s d.0.scopes f.0.scopes g.0.scopes
              (through (expr_scopes c.0.tree) (p.same ∙ o.same) i.named q.same) j.named (sym l.same);
          low = two_low (expr_height c.0.tree) (type_name_height f.0.tree) room r.0 i.low j.low;
          left = l.left;
        }) g.2)
      where
        two_low : (h k room : ℕ) → 3 ≤ room → h ≤ room - 1 → k ≤ room - 1 → max h k + 1 ≤ room
        two_low h k room a b c = omega (arith, a, b, c)

    -- two operands
    va_two_sound : (make : ℕ → ℕ → Expr → ℕ → Expr → ℕ → Expr) (keyword : Keyword)
        → ((a b c d : ℕ) (e f : Expr) (k : List Lexeme) →
        keyword_text keyword a (sign_text puncts.OpenParen b (expr_text all e (sign_text puncts.Comma c
        (expr_text all f (sign_text puncts.CloseParen d k))))) ≡ expr_text all (make a b e c f d) k) →
        ((a b c d : ℕ) (e f : Expr) → IsExpr all e → IsExpr all f → 1 ≤ expr_level e → 1 ≤ expr_level f
        → IsExpr all (make a b e c f d) × (15 ≤ expr_level (make a b e c f d))) →
        ((a b c d : ℕ) (e f : Expr) (s : HeldScopes)
        → expr_scopes (make a b e c f d) s ≡ behind (expr_scopes e s) (expr_scopes f)) →
        ((a b c d : ℕ) (e f : Expr) → expr_height (make a b e c f d) ≡ max (expr_height e) (expr_height f) + 1) →
        (room : ℕ) (s : HeldScopes) (ts : List Lexeme) (x : Found Expr) → IsTail all ts
        → kind_at ts ≡ kinds.Keyword keyword → va_two_with inner make room s ts ≡ done x →
        Takes all (level_form 14) room s ts x
    unfolding va_two_with
    va_two_sound make keyword spells fits scopes high room s ts x tail is e =
        let r = fits_ok _ _ _ e in
        let a = bind_ok r.1 in
        let b = bind_ok a.2 in
        let c = bind_ok b.2 in
        let d = bind_ok c.2 in
        let f = bind_ok d.2 in
        let g = bind_ok f.2 in
        let o = took all (kinds.Keyword keyword) s ts a.0 tail is a.1 in
        let p = took_token all is_open_paren
        (kinds.Punct puncts.OpenParen) open_paren_kind a.0.scopes a.0.rest b.0 o.left b.1 in
        let i = laws.exprs.sound Assigned (room - 1) b.0.scopes b.0.rest c.0 p.left c.1 in
        let q = took_token all is_comma (kinds.Punct puncts.Comma) comma_kind c.0.scopes c.0.rest d.0 i.left d.1 in
        let j = laws.exprs.sound Assigned (room - 1) d.0.scopes d.0.rest f.0 q.left f.1 in
        let l = took_token all is_close_paren
        (kinds.Punct puncts.CloseParen) close_paren_kind f.0.scopes f.0.rest g.0 j.left g.1 in
        lower 15 14 room s ts x unary_fifteen
        (postfixed_sound room s ts (make a.0.tree b.0.tree c.0.tree d.0.tree f.0.tree g.0.tree) g.0.scopes g.0.rest x
        (record {
          spelled = (o.spelled ∙ ap (keyword_text keyword a.0.tree) (p.spelled
              ∙ ap (sign_text puncts.OpenParen b.0.tree) (i.spelled ∙ ap (expr_text all c.0.tree) (q.spelled ∙
              ap (sign_text puncts.Comma d.0.tree) (j.spelled ∙ ap (expr_text all f.0.tree) l.spelled)))))
              ∙ spells a.0.tree b.0.tree d.0.tree g.0.tree c.0.tree f.0.tree g.0.rest;
          fits = fits a.0.tree b.0.tree d.0.tree g.0.tree c.0.tree f.0.tree i.fits.0 j.fits.0 i.fits.1 j.fits.1;
          named = scopes a.0.tree b.0.tree d.0.tree g.0.tree c.0.tree f.0.tree s
              ∙ behind_is (expr_scopes f.0.tree) (through (expr_scopes c.0.tree) (p.same ∙ o.same) i.named q.same)
              (through (expr_scopes f.0.tree) refl j.named l.same);
          low = subst (λ (h : ℕ). h ≤ room) (sym (high a.0.tree b.0.tree d.0.tree g.0.tree c.0.tree f.0.tree))
              (two_low (expr_height c.0.tree) (expr_height f.0.tree) room r.0 i.low j.low);
          left = l.left;
        }) g.2)
      where
        two_low : (h k room : ℕ) → 2 ≤ room → h ≤ room - 1 → k ≤ room - 1 → max h k + 1 ≤ room
        two_low h k room a b c = omega (arith, a, b, c)

    dot_kind : (kind : TokenKind) → is_dot kind ≡ true → kind ≡ kinds.Punct puncts.Dot
    dot_kind (kinds.Punct puncts.Dot) e = refl
    dot_kind kind e = absurd cc

    -- a step begins with a point or a bracket; the reader of one is asked at such a token alone
    desig_kind : (kind : TokenKind) → begins_desig kind ≡ true → is_dot kind ≡ false
        → kind ≡ kinds.Punct puncts.OpenBracket
    desig_kind (kinds.Punct puncts.OpenBracket) e f = refl
    desig_kind (kinds.Punct puncts.Dot) e f = absurd cc
    desig_kind kind e f = absurd cc

    -- before each step stands a token that begins one
    step_taken : (room : ℕ) (s : HeldScopes) (ts : List Lexeme) (x : Found Desig) → 1 ≤ room → IsTail all ts
        → begins_desig (kind_at ts) ≡ true → step_with inner room s ts ≡ done x
        → Takes all (step_form all) (room - 1) s ts x
    unfolding step_with
    step_taken room s ts x least tail begun e =
        if_ok (is_dot (kind_at ts)) e (λ is e.
        let a = bind_ok e in
        let b = bind_ok a.2 in
        let o = took all (kinds.Punct puncts.Dot) s ts a.0 tail (dot_kind (kind_at ts) is) a.1 in
        let q = took_name all a.0.scopes a.0.rest b.0 o.left b.1 in
        at_end (Takes all (step_form all) (room - 1) s ts) b.2 (record {
          spelled = o.spelled ∙ ap (sign_text puncts.Dot a.0.tree) q.spelled;
          fits = tt;
          named = ap Some (sym o.same ∙ sym q.same);
          low = omega arith;
          left = q.left;
        })) (λ is e.
        let a = bind_ok e in
        let b = bind_ok a.2 in
        let c = bind_ok b.2 in
        let o = took all (kinds.Punct puncts.OpenBracket) s ts a.0 tail (desig_kind (kind_at ts) begun is) a.1 in
        let i = laws.exprs.sound Whole (room - 1) a.0.scopes a.0.rest b.0 o.left b.1 in
        let q = took_token all is_close_bracket
        (kinds.Punct puncts.CloseBracket) close_bracket_kind b.0.scopes b.0.rest c.0 i.left c.1 in
        at_end (Takes all (step_form all) (room - 1) s ts) c.2 (record {
          spelled = o.spelled
              ∙ ap (sign_text puncts.OpenBracket a.0.tree) (i.spelled ∙ ap (expr_text all b.0.tree) q.spelled);
          fits = i.fits.0;
          named = through (expr_scopes b.0.tree) o.same i.named q.same;
          low = i.low;
          left = q.left;
        }))

    offset_sound : (room : ℕ) (s : HeldScopes) (ts : List Lexeme) (x : Found Expr) → IsTail all ts
        → kind_at ts ≡ kinds.Keyword keywords.Offsetof → offset_with inner room s ts ≡ done x →
        Takes all (level_form 14) room s ts x
    unfolding offset_with
    offset_sound room s ts x tail is e =
        let r = fits_ok _ _ _ e in
        let a = bind_ok r.1 in
        let b = bind_ok a.2 in
        let c = bind_ok b.2 in
        let d = bind_ok c.2 in
        let f = bind_ok d.2 in
        let g = bind_ok f.2 in
        let h = bind_ok g.2 in
        let o = took all (kinds.Keyword keywords.Offsetof) s ts a.0 tail is a.1 in
        let p = took_token all is_open_paren
        (kinds.Punct puncts.OpenParen) open_paren_kind a.0.scopes a.0.rest b.0 o.left b.1 in
        let i = laws.types.sound (room - 1) b.0.scopes b.0.rest c.0 p.left c.1 in
        let q = took_token all is_comma (kinds.Punct puncts.Comma) comma_kind c.0.scopes c.0.rest d.0 i.left d.1 in
        let m = took_name all d.0.scopes d.0.rest f.0 q.left f.1 in
        let j = repeated_sound_at begins_desig (step_with inner room) all (step_form all) (room - 1)
        (λ s ts x tail begun e. step_taken room s ts x
        (some_room room r.0) tail begun e) f.0.scopes f.0.rest g.0 m.left g.1 in
        let l = took_token all is_close_paren
        (kinds.Punct puncts.CloseParen) close_paren_kind g.0.scopes g.0.rest h.0 j.left h.1 in
        lower 15 14 room s ts x unary_fifteen (postfixed_sound room s ts (offset a.0.tree b.0.tree c.0.tree.words
        c.0.tree.declr d.0.tree f.0.tree (desigs_from g.0.tree) h.0.tree) h.0.scopes h.0.rest x
        (record {
          spelled = o.spelled ∙ ap (keyword_text keywords.Offsetof a.0.tree) (p.spelled
              ∙ ap (sign_text puncts.OpenParen b.0.tree) (i.spelled ∙
              ap (λ (k : List Lexeme). spec_words_text all c.0.tree.words (some_declr_text all c.0.tree.declr k))
              (q.spelled ∙ ap (sign_text puncts.Comma d.0.tree) (m.spelled ∙
              ap (identifier_text f.0.tree)
              (j.spelled ∙ steps_are all g.0.tree g.0.rest ∙ ap (desigs_text all (desigs_from g.0.tree)) l.spelled)))));
          fits = ((i.fits.0, i.fits.1, i.fits.2, steps_fit all g.0.tree j.fits), primary_fifteen);
          named = behind_is (desigs_scopes (desigs_from g.0.tree))
              (through (λ s. behind (spec_words_scopes c.0.tree.words s) (some_declr_scopes None c.0.tree.declr))
              (p.same ∙ o.same) i.named (m.same ∙ q.same))
              (sym (steps_named all g.0.tree f.0.scopes) ∙ j.named ∙ ap Some (sym l.same));
          low = two_low (type_name_height c.0.tree) (steps_height (desigs_from g.0.tree)) room r.0 i.low
              (subst (λ (h : ℕ). h ≤ room - 1) (steps_high all g.0.tree) j.low);
          left = l.left;
        }) h.2)
      where
        some_room : (room : ℕ) → 3 ≤ room → 1 ≤ room
        some_room room a = omega (arith, a)

        two_low : (h k room : ℕ) → 3 ≤ room → h ≤ room - 1 → k ≤ room - 1 → max h k + 1 ≤ room
        two_low h k room a b c = omega (arith, a, b, c)

    compat_sound : (room : ℕ) (s : HeldScopes) (ts : List Lexeme) (x : Found Expr) → IsTail all ts
        → kind_at ts ≡ kinds.Keyword keywords.Compatible → compat_with inner room s ts ≡ done x →
        Takes all (level_form 14) room s ts x
    unfolding compat_with
    compat_sound room s ts x tail is e =
        let r = fits_ok _ _ _ e in
        let a = bind_ok r.1 in
        let b = bind_ok a.2 in
        let c = bind_ok b.2 in
        let d = bind_ok c.2 in
        let f = bind_ok d.2 in
        let g = bind_ok f.2 in
        let o = took all (kinds.Keyword keywords.Compatible) s ts a.0 tail is a.1 in
        let p = took_token all is_open_paren
        (kinds.Punct puncts.OpenParen) open_paren_kind a.0.scopes a.0.rest b.0 o.left b.1 in
        let i = laws.types.sound (room - 1) b.0.scopes b.0.rest c.0 p.left c.1 in
        let q = took_token all is_comma (kinds.Punct puncts.Comma) comma_kind c.0.scopes c.0.rest d.0 i.left d.1 in
        let j = laws.types.sound (room - 1) d.0.scopes d.0.rest f.0 q.left f.1 in
        let l = took_token all is_close_paren
        (kinds.Punct puncts.CloseParen) close_paren_kind f.0.scopes f.0.rest g.0 j.left g.1 in
        lower 15 14 room s ts x unary_fifteen (postfixed_sound room s ts (compat a.0.tree b.0.tree c.0.tree.words
        c.0.tree.declr d.0.tree f.0.tree.words f.0.tree.declr g.0.tree) g.0.scopes g.0.rest x
        (record {
          spelled = o.spelled ∙ ap (keyword_text keywords.Compatible a.0.tree) (p.spelled
              ∙ ap (sign_text puncts.OpenParen b.0.tree) (i.spelled ∙
              ap (λ (k : List Lexeme). spec_words_text all c.0.tree.words (some_declr_text all c.0.tree.declr k))
              (q.spelled ∙ ap (sign_text puncts.Comma d.0.tree) (j.spelled ∙
              ap (λ (k : List Lexeme). spec_words_text all f.0.tree.words
              (some_declr_text all f.0.tree.declr k)) l.spelled))));
          fits = ((i.fits.0, i.fits.1, i.fits.2, j.fits.0, j.fits.1, j.fits.2), primary_fifteen);
          named = behind_two (λ s. behind (spec_words_scopes c.0.tree.words s) (some_declr_scopes None c.0.tree.declr))
              (spec_words_scopes f.0.tree.words)
              (some_declr_scopes None f.0.tree.declr) s d.0.scopes f.0.scopes g.0.scopes
              (through (λ s. behind (spec_words_scopes c.0.tree.words s) (some_declr_scopes None c.0.tree.declr))
              (p.same ∙ o.same) i.named q.same) j.named (sym l.same);
          low = two_low (type_name_height c.0.tree) (type_name_height f.0.tree) room r.0 i.low j.low;
          left = l.left;
        }) g.2)
      where
        two_low : (h k room : ℕ) → 3 ≤ room → h ≤ room - 1 → k ≤ room - 1 → max h k + 1 ≤ room
        two_low h k room a b c = omega (arith, a, b, c)

    choose_sound : (room : ℕ) (s : HeldScopes) (ts : List Lexeme) (x : Found Expr) → IsTail all ts
        → kind_at ts ≡ kinds.Keyword keywords.Choose → choose_with inner room s ts ≡ done x →
        Takes all (level_form 14) room s ts x
    unfolding choose_with
    choose_sound room s ts x tail is e =
        let r = fits_ok _ _ _ e in
        let a = bind_ok r.1 in
        let b = bind_ok a.2 in
        let c = bind_ok b.2 in
        let d = bind_ok c.2 in
        let f = bind_ok d.2 in
        let g = bind_ok f.2 in
        let h = bind_ok g.2 in
        let v = bind_ok h.2 in
        let o = took all (kinds.Keyword keywords.Choose) s ts a.0 tail is a.1 in
        let p = took_token all is_open_paren
        (kinds.Punct puncts.OpenParen) open_paren_kind a.0.scopes a.0.rest b.0 o.left b.1 in
        let i = laws.exprs.sound Assigned (room - 1) b.0.scopes b.0.rest c.0 p.left c.1 in
        let q = took_token all is_comma (kinds.Punct puncts.Comma) comma_kind c.0.scopes c.0.rest d.0 i.left d.1 in
        let j = laws.exprs.sound Assigned (room - 1) d.0.scopes d.0.rest f.0 q.left f.1 in
        let q2 = took_token all is_comma (kinds.Punct puncts.Comma) comma_kind f.0.scopes f.0.rest g.0 j.left g.1 in
        let m = laws.exprs.sound Assigned (room - 1) g.0.scopes g.0.rest h.0 q2.left h.1 in
        let l = took_token all is_close_paren
        (kinds.Punct puncts.CloseParen) close_paren_kind h.0.scopes h.0.rest v.0 m.left v.1 in
        lower 15 14 room s ts x unary_fifteen (postfixed_sound room s ts
        (choose a.0.tree b.0.tree c.0.tree d.0.tree f.0.tree g.0.tree h.0.tree v.0.tree) v.0.scopes v.0.rest x
        (record {
          spelled = o.spelled ∙ ap (keyword_text keywords.Choose a.0.tree) (p.spelled
              ∙ ap (sign_text puncts.OpenParen b.0.tree) (i.spelled ∙ ap (expr_text all c.0.tree) (q.spelled ∙
              ap (sign_text puncts.Comma d.0.tree) (j.spelled ∙ ap (expr_text all f.0.tree) (q2.spelled
              ∙ ap (sign_text puncts.Comma g.0.tree) (m.spelled ∙ ap (expr_text all h.0.tree) l.spelled))))));
          fits = ((i.fits.0, j.fits.0, m.fits.0, i.fits.1, j.fits.1, m.fits.1), primary_fifteen);
          named = behind_is (expr_scopes h.0.tree)
              (behind_is (expr_scopes f.0.tree) (through (expr_scopes c.0.tree) (p.same ∙ o.same) i.named q.same)
              (through (expr_scopes f.0.tree) refl j.named q2.same))
              (through (expr_scopes h.0.tree) refl m.named l.same);
          low =
              three_low (expr_height c.0.tree) (expr_height f.0.tree) (expr_height h.0.tree) room r.0 i.low j.low m.low;
          left = l.left;
        }) v.2)
      where
        three_low : (h k l room : ℕ) → 2 ≤ room → h ≤ room - 1 → k ≤ room - 1 → l ≤ room - 1
            → max h (max k l) + 1 ≤ room
        three_low h k l room a b c d = omega (arith, a, b, c, d)

    -- an association
    assoc_sound : (room : ℕ) → IsSound all (assoc_form all) room (assoc_with inner room)
    unfolding assoc_with default_assoc_with typed_assoc_with
    assoc_sound room s ts x tail e =
        if_ok (is_default (kind_at ts)) e (λ is e.
        let r = fits_ok _ _ _ e in
        let a = bind_ok r.1 in
        let b = bind_ok a.2 in
        let c = bind_ok b.2 in
        let o = took all (kinds.Keyword keywords.Default) s ts a.0 tail (default_kind (kind_at ts) is) a.1 in
        let q = took_token all is_colon (kinds.Punct puncts.Colon) colon_kind a.0.scopes a.0.rest b.0 o.left b.1 in
        let i = laws.exprs.sound Assigned (room - 1) b.0.scopes b.0.rest c.0 q.left c.1 in
        at_end (Takes all (assoc_form all) room s ts) c.2 (record {
          spelled = o.spelled ∙ ap (keyword_text keywords.Default a.0.tree)
              (q.spelled ∙ ap (sign_text puncts.Colon b.0.tree) i.spelled);
          fits = (i.fits.0, i.fits.1);
          named = through (expr_scopes c.0.tree) (q.same ∙ o.same) i.named refl;
          low = one_low (expr_height c.0.tree) room r.0 i.low;
          left = i.left;
        })) (λ is e.
        if_ok (begins_role Naming s (kind_at ts)) e (λ is e.
        let r = fits_ok _ _ _ e in
        let a = bind_ok r.1 in
        let b = bind_ok a.2 in
        let c = bind_ok b.2 in
        let i = laws.types.sound (room - 1) s ts a.0 tail a.1 in
        let q = took_token all is_colon (kinds.Punct puncts.Colon) colon_kind a.0.scopes a.0.rest b.0 i.left b.1 in
        let j = laws.exprs.sound Assigned (room - 1) b.0.scopes b.0.rest c.0 q.left c.1 in
        at_end (Takes all (assoc_form all) room s ts) c.2 (record {
          spelled = i.spelled ∙ ap (λ (k : List Lexeme). spec_words_text all a.0.tree.words
              (some_declr_text all a.0.tree.declr k)) (q.spelled ∙ ap (sign_text puncts.Colon b.0.tree) j.spelled);
          fits = (i.fits.0, i.fits.1, i.fits.2, j.fits.0, j.fits.1);
          named = behind_is (expr_scopes c.0.tree) i.named (through (expr_scopes c.0.tree) q.same j.named refl);
          low = two_low (type_name_height a.0.tree) (expr_height c.0.tree) room r.0 i.low j.low;
          left = j.left;
        })) (λ is e. absurd cc))
      where
        one_low : (h room : ℕ) → 2 ≤ room → h ≤ room - 1 → h + 1 ≤ room
        one_low h room a b = omega (arith, a, b)

        two_low : (h k room : ℕ) → 3 ≤ room → h ≤ room - 1 → k ≤ room - 1 → max h k + 1 ≤ room
        two_low h k room a b c = omega (arith, a, b, c)

    next_assoc_sound : (room comma : ℕ) (s : HeldScopes) (ts : List Lexeme) (x : Found (Next Assoc ⊥)) → IsTail all ts
        → next_assoc inner room comma s ts ≡ done x →
        NextTakes all (assoc_form all) no_ending room comma s ts x.tree x.scopes x.rest
    unfolding next_assoc
    next_assoc_sound room comma s ts x tail e =
        let a = bind_ok e in
        at_end (λ (x : Found (Next Assoc ⊥)). NextTakes all
        (assoc_form all) no_ending room comma s ts x.tree x.scopes x.rest) a.2
        (assoc_sound room s ts a.0 tail a.1, assoc_shrinks all tokens n inner laws room s ts a.0 a.1)

    -- a comma has the number before that of the token behind it
    comma_separates : (token : ℕ) (ts : List Lexeme) → IsTail all (sign_text puncts.Comma token ts) → 0 < length ts
        → sign_text puncts.Comma token ts ≡ separated ts
    comma_separates token [] tail more = absurd (omega (arith, more))
    comma_separates token (u ∷ ts) tail more =
        comma_is all numbered (record { kind = kinds.Punct puncts.Comma; at = token }) u ts tail refl

    generic_sound : (room : ℕ) (s : HeldScopes) (ts : List Lexeme) (x : Found Expr) → IsTail all ts
        → kind_at ts ≡ kinds.Keyword keywords.Generic → generic_with inner room s ts ≡ done x →
        Takes all (level_form 14) room s ts x
    unfolding generic_with
    generic_sound room s ts x tail is e =
        let r = fits_ok _ _ _ e in
        let a = bind_ok r.1 in
        let b = bind_ok a.2 in
        let c = bind_ok b.2 in
        let d = bind_ok c.2 in
        let f = bind_ok d.2 in
        let g = bind_ok f.2 in
        let o = took all (kinds.Keyword keywords.Generic) s ts a.0 tail is a.1 in
        let p = took_token all is_open_paren
        (kinds.Punct puncts.OpenParen) open_paren_kind a.0.scopes a.0.rest b.0 o.left b.1 in
        let i = laws.exprs.sound Assigned (room - 1) b.0.scopes b.0.rest c.0 p.left c.1 in
        let q = took_token all is_comma (kinds.Punct puncts.Comma) comma_kind c.0.scopes c.0.rest d.0 i.left d.1 in
        let j =
        listed_sound (assoc_with inner (room - 1)) (next_assoc inner (room - 1)) all numbered (assoc_form all) no_ending
        (room - 1) (assoc_sound (room - 1)) (next_assoc_sound (room - 1)) d.0.scopes d.0.rest f.0 q.left f.1 in
        let less : length f.0.rest < length d.0.rest =
        listed_shrinks (assoc_with inner (room - 1)) (next_assoc inner (room - 1))
        (next_assoc_falls all tokens n inner laws (room - 1))
        (assoc_shrinks all tokens n inner laws (room - 1)) d.0.scopes d.0.rest f.0 f.1 in
        let l = took_token all is_close_paren
        (kinds.Punct puncts.CloseParen) close_paren_kind f.0.scopes f.0.rest g.0 j.left g.1 in
        let separates : c.0.rest ≡ separated d.0.rest =
        q.spelled ∙ comma_separates d.0.tree d.0.rest (subst (IsTail all) q.spelled i.left) (omega (arith, less)) in
        lower 15 14 room s ts x unary_fifteen (postfixed_sound room s ts
        (generic a.0.tree b.0.tree c.0.tree (assocs_from f.0.tree.items) g.0.tree) g.0.scopes g.0.rest x
        (record {
          spelled = o.spelled ∙ ap (keyword_text keywords.Generic a.0.tree) (p.spelled
              ∙ ap (sign_text puncts.OpenParen b.0.tree) (i.spelled ∙ ap (expr_text all c.0.tree)
              (separates ∙ by_items f.0.tree.items f.0.tree.ending d.0.rest f.0.rest j.fits.0 j.spelled
              ∙ ap (assocs_text all (assocs_from f.0.tree.items)) l.spelled)));
          fits = (
            (i.fits.0, i.fits.1, some_assocs all f.0.tree.items j.fits.0, assocs_fit all f.0.tree.items j.fits.1),
            primary_fifteen,
          );
          named = behind_is (assocs_scopes (assocs_from f.0.tree.items))
              (through (expr_scopes c.0.tree) (p.same ∙ o.same) i.named q.same)
              (sym (assocs_named all f.0.tree.items d.0.scopes) ∙ j.named ∙ ap Some (sym l.same));
          low = two_low (expr_height c.0.tree) (assocs_height (assocs_from f.0.tree.items)) room r.0 i.low
              (subst (λ (h : ℕ). h ≤ room - 1) (assocs_high all f.0.tree.items) j.low);
          left = l.left;
        }) g.2)
      where
        by_items : (xs : List Assoc) (o : Option ⊥) (ts k : List Lexeme) → HasItem (assoc_form all) no_ending xs
            → ts ≡ commas_text (assoc_form all) no_ending xs (ending_text (assoc_form all) no_ending o k) →
            separated ts ≡ assocs_text all (assocs_from xs) k
        by_items [] o ts k some is = absurd some
        by_items (x ∷ xs) None ts k some is = ap separated is ∙ assocs_are all (x ∷ xs) k
        by_items (x ∷ xs) (Some e) ts k some is = absurd e

        two_low : (h k room : ℕ) → 3 ≤ room → h ≤ room - 1 → k ≤ room - 1 → max h k + 1 ≤ room
        two_low h k room a b c = omega (arith, a, b, c)

    name_sound : (name room : ℕ) (s : HeldScopes) (ts : List Lexeme) (x : Found Expr) → IsTail all ts
        → kind_at ts ≡ kinds.Name name → name_with inner name room s ts ≡ done x →
        Takes all (level_form 14) room s ts x
    name_sound name room s ts x tail is e =
        if_ok (names_type s name) e (λ no e. absurd cc) (λ no e.
        lower 15 14 room s ts x unary_fifteen (primary_taken (λ token. name_use token name) (kinds.Name name) room s ts
        x tail is (λ token k. refl) (λ token. (tt, primary_fifteen)) (λ token. rw no refl) (λ token. refl) e))

    unary_by_sound : (o : Opening) (room : ℕ) (s : HeldScopes) (ts : List Lexeme) (x : Found Expr) → IsTail all ts
        → IsOpening o (kind_at ts) → unary_by inner o room s ts ≡ done x → Takes all (level_form 14) room s ts x
    unfolding unary_by
    unary_by_sound (openings.Prefix p reach) room s ts x tail is e = prefix_sound p reach room s ts x tail is.0 is.1 e
    unary_by_sound (openings.Sizeof keyword) room s ts x tail is e = sizeof_sound keyword room s ts x tail is.0 is.1 e
    unary_by_sound openings.Extension room s ts x tail is e = extension_sound room s ts x tail is e
    unary_by_sound (openings.Name name) room s ts x tail is e = name_sound name room s ts x tail is e
    unary_by_sound openings.Number room s ts x tail is e =
        lower 15 14 room s ts x unary_fifteen (primary_taken number_use kinds.Number room s ts x tail is
        (λ token k. refl) (λ token. (tt, primary_fifteen)) (λ token. refl) (λ token. refl) e)
    unary_by_sound openings.Char room s ts x tail is e =
        lower 15 14 room s ts x unary_fifteen (primary_taken char_use kinds.Char room s ts x tail is (λ token k. refl)
        (λ token. (tt, primary_fifteen)) (λ token. refl) (λ token. refl) e)
    unary_by_sound openings.Text room s ts x tail is e =
        lower 15 14 room s ts x unary_fifteen (text_sound room s ts x tail is e)
    unary_by_sound openings.Paren room s ts x tail is e = opened_sound false room s ts x tail is e
    unary_by_sound openings.VaArg room s ts x tail is e = va_arg_sound room s ts x tail is e
    unary_by_sound openings.VaStart room s ts x tail is e =
        va_two_sound va_start keywords.VaStart (λ a b c d e f k. refl)
        (λ a b c d e f g h i j. ((g, h, i, j), primary_fifteen)) (λ a b c d e f s. refl)
        (λ a b c d e f. refl) room s ts x tail is e
    unary_by_sound openings.VaCopy room s ts x tail is e =
        va_two_sound va_copy keywords.VaCopy (λ a b c d e f k. refl)
        (λ a b c d e f g h i j. ((g, h, i, j), primary_fifteen)) (λ a b c d e f s. refl)
        (λ a b c d e f. refl) room s ts x tail is e
    unary_by_sound openings.Offset room s ts x tail is e = offset_sound room s ts x tail is e
    unary_by_sound openings.Part room s ts x tail is e = part_sound room s ts x tail is e
    unary_by_sound openings.Label room s ts x tail is e = label_use_sound room s ts x tail is e
    unary_by_sound openings.Compat room s ts x tail is e = compat_sound room s ts x tail is e
    unary_by_sound openings.Choose room s ts x tail is e = choose_sound room s ts x tail is e
    unary_by_sound openings.Generic room s ts x tail is e = generic_sound room s ts x tail is e
    unary_by_sound openings.Nothing room s ts x tail is e = absurd cc

    pub unary_sound : (room : ℕ) → IsSound all (level_form 14) room (unary_with inner room)
    unfolding unary_with
    unary_sound room s ts x tail e =
        unary_by_sound (opening_of (kind_at ts)) room s ts x tail (opening_is (kind_at ts)) e

    pub cast_sound : (room : ℕ) → IsSound all (level_form 13) room (cast_with inner room)
    unfolding cast_with
    cast_sound room s ts x tail e =
        if_ok (is_open_paren (kind_at ts)) e
        (λ is e. opened_sound true room s ts x tail (open_paren_kind (kind_at ts) is) e)
        (λ is e. lower 14 13 room s ts x unary_cast (unary_sound room s ts x tail e))
      where
        unary_cast : 13 ≤ 14
        unary_cast = omega arith
