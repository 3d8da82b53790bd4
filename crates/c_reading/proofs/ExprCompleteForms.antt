-- Unary and postfix forms are read from their text.
use Rattle.std.proofs.Common.{◌≡◌, ℕ, suc, ◌<◌, ◌≤◌, true, false, List, Option, Some, None, refl, sym, ◌∙◌, ap, subst, arith}
use Rattle.std.specs.Prelude.{◌+◌, ◌-◌, max, not, ◌&&◌}
use Rattle.qual_base.proofs.Tests.{and_second, and_first}
use Rattle.c_words.specs.declared.kinds.TokenKind.{TokenKind}
use Rattle.c_words.specs.declared.kinds.TokenKind.TheVariants as kinds
use Rattle.c_words.specs.declared.kinds.Punct.{Punct}
use Rattle.c_words.specs.declared.kinds.Punct.TheVariants as puncts
use Rattle.c_tree.specs.declared.lexeme.Lexeme.{Lexeme}
use Rattle.c_tree.specs.Tree.{Expr, operation, cast, prefix, sizeof_value, sizeof_type, extension, index, call, dot, arrow, post, compound, name_use, number_use, char_use, text_use, paren, statement_expr, va_arg, va_start, va_copy, offset, complex_part, label_use, compat, choose, generic, comma, Exprs, no_exprs, more_exprs}
use Rattle.c_tree.specs.Text.{sign_text, word_text, expr_text, exprs_text, desig_text, desigs_text, other_exprs_text, identifier_text}
use Rattle.c_tree.specs.Height.{expr_height, exprs_height}
use Rattle.c_tree.specs.Levels.{IsOperator, binary_level, expr_level, operator_level}
use Rattle.c_tree.specs.WellFormed.{IsExpr, AreArguments, prefix_level, is_postfix}
use Rattle.c_ops.proofs.Levels.{level_most}
use Rattle.c_units.specs.HeldScopes.{HeldScopes}
use Rattle.c_units.specs.Scoping.{expr_scopes, exprs_scopes}
use Rattle.c_reading.specs.declared.kinds.Reach.{Reach}
use Rattle.c_reading.specs.declared.kinds.Reach.TheVariants.{Whole, Assigned, Castable, Unary}
use Rattle.c_reading.specs.declared.kinds.Opening.TheVariants as openings
use Rattle.c_reading.specs.declared.kinds.PostfixForm.{PostfixForm}
use Rattle.c_reading.specs.declared.kinds.PostfixForm.TheVariants as forms
use Rattle.c_reading.specs.declared.kinds.Infix.{Infix}
use Rattle.c_reading.specs.declared.kinds.Infix.TheVariants as infixes
use Rattle.c_reading.specs.Reading.{Found, Read, Reader, kind_at, fits, Next, one_more, IsNumbered, is_comma, listed}
use Rattle.c_reading.specs.Tokens.{is_open_paren, is_text, is_open_brace, is_close_paren}
use Rattle.c_reading.specs.Parts.{Inner, nothing}
use Rattle.c_reading.specs.Expressing.{punct_opening, form_of, infix_of, next_argument, arguments_with, index_with, call_with, dot_with, arrow_with, post_with, postfix_by, lowered, postfix_turn, postfixed}
use Rattle.c_reading.proofs.Binding.{found, done, bind_is, fits_is}
use Rattle.c_reading.proofs.Loops.{run_on, run_ends}
use Rattle.c_reading.proofs.Forms.{behind_ok}
use Rattle.c_reading.proofs.Commas.{no_ending, listed_complete}
use Rattle.c_reading.proofs.KindFacts.{expr_no_close_paren, both, not_true}
use Rattle.c_reading.proofs.Aims.{is_no_form, ends_before, ends_unary, ends_expr, reach_level, expr_form, TokenLaws, FirstLaws, Laws}
use Rattle.c_reading.proofs.ExprFalls.{postfix_turn_shrinks, next_argument_falls}
use Rattle.c_reading.proofs.ExprLists.{exprs_items, exprs_back, exprs_are, exprs_fit_back, exprs_named, exprs_high}

pub level_sixteen : (e : Expr) → expr_level e ≤ 16
level_sixteen (operation e op token e2) = let t : operator_level op ≤ 12 = level_most op in omega (arith, t)
level_sixteen e = omega arith

-- the sign of a prefix, by the level of its operand
pub prefix_opens : (p : Punct) → prefix_level p ≤ 16
    → (reach : Reach) × (punct_opening p ≡ openings.Prefix p reach) × (prefix_level p ≡ reach_level reach)
prefix_opens puncts.PlusPlus h = (Unary, refl, refl)
prefix_opens puncts.MinusMinus h = (Unary, refl, refl)
prefix_opens puncts.Ampersand h = (Castable, refl, refl)
prefix_opens puncts.Star h = (Castable, refl, refl)
prefix_opens puncts.Plus h = (Castable, refl, refl)
prefix_opens puncts.Minus h = (Castable, refl, refl)
prefix_opens puncts.Tilde h = (Castable, refl, refl)
prefix_opens puncts.Bang h = (Castable, refl, refl)
prefix_opens p h = absurd (omega (arith, h))

pub prefix_no_paren : (p : Punct) (reach : Reach) → punct_opening p ≡ openings.Prefix p reach
    → is_open_paren (kinds.Punct p) ≡ false
prefix_no_paren puncts.OpenParen reach e = absurd cc
prefix_no_paren p reach e = refl

-- what ends an operand ends a cast and a unary form
pub ends_castable : (kind : TokenKind) → ends_unary kind ≡ true → ends_expr Castable kind ≡ true
ends_castable kind h = both h (by_infix (infix_of kind))
  where
    by_infix : (f : Infix) → ends_before Castable f ≡ true
    by_infix infixes.Nothing = refl
    by_infix infixes.Comma = refl
    by_infix (infixes.Assign p) = refl
    by_infix infixes.Question = refl
    by_infix (infixes.Binary p) = refl

-- what ends a unary form ends an expression of that reach
pub ends_unary_expr : (kind : TokenKind) → ends_unary kind ≡ true → ends_expr Unary kind ≡ true
ends_unary_expr kind h = both h (by_infix (infix_of kind))
  where
    by_infix : (f : Infix) → ends_before Unary f ≡ true
    by_infix infixes.Nothing = refl
    by_infix infixes.Comma = refl
    by_infix (infixes.Assign p) = refl
    by_infix infixes.Question = refl
    by_infix (infixes.Binary p) = refl

-- what ends a unary form is no postfix form
pub ends_no_form : (kind : TokenKind) → ends_unary kind ≡ true → form_of kind ≡ forms.Nothing
ends_no_form kind h =
    by_form (form_of kind) (and_first (is_no_form (form_of kind)) (not (is_text kind))
    (and_first (is_no_form (form_of kind) && not (is_text kind)) (not (is_open_brace kind)) h))
  where
    by_form : (f : PostfixForm) → is_no_form f ≡ true → f ≡ forms.Nothing
    by_form forms.Nothing e = refl
    by_form forms.Index e = absurd cc
    by_form forms.Call e = absurd cc
    by_form forms.Dot e = absurd cc
    by_form forms.Arrow e = absurd cc
    by_form (forms.Post p) e = absurd cc

pub ends_no_text : (kind : TokenKind) → ends_unary kind ≡ true → is_text kind ≡ false
ends_no_text kind h =
    not_true (and_second (is_no_form (form_of kind)) (not (is_text kind))
    (and_first (is_no_form (form_of kind) && not (is_text kind)) (not (is_open_brace kind)) h))

pub ends_no_brace : (kind : TokenKind) → ends_unary kind ≡ true → is_open_brace kind ≡ false
ends_no_brace kind h =
    not_true (and_second (is_no_form (form_of kind) && not (is_text kind)) (not (is_open_brace kind)) h)

-- rooms of parts
pub inside_less : (h room n : ℕ) → room ≤ n → h + 1 ≤ room → room - 1 < n
inside_less h room n a b = omega (arith, a, b)

pub inside_low : (h room : ℕ) → h + 1 ≤ room → h ≤ room - 1
inside_low h room a = omega (arith, a)

pub asks_two : (h room : ℕ) → h + 1 ≤ room → 1 ≤ h → 2 ≤ room
asks_two h room a b = omega (arith, a, b)

pub max_left : (h k room : ℕ) → max h k + 1 ≤ room → h + 1 ≤ room
max_left h k room a = omega (arith, a)

pub max_right : (h k room : ℕ) → max h k + 1 ≤ room → k + 1 ≤ room
max_right h k room a = omega (arith, a)

-- what is asked of a form round a left part
asks_one_more : (h k room : ℕ) → max h k + 1 ≤ room → suc h ≤ room
asks_one_more h k room a = omega (arith, a)

pub suc_le : (h room : ℕ) → h + 1 ≤ room → suc h ≤ room
suc_le h room a = omega (arith, a)

pub less_all : (h room : ℕ) → h + 1 ≤ room → h ≤ room
less_all h room a = omega (arith, a)

module _ (all : List Lexeme) (numbered : IsNumbered all) (tokens : TokenLaws all) (firsts : FirstLaws all) (n : ℕ)
    (inner : Inner) (laws : Laws all n inner) where
  arguments_read : (room : ℕ) → room - 1 < n → (es : Exprs) (s s' : HeldScopes) (k : List Lexeme) → AreArguments all es
      → exprs_scopes es s ≡ Some s' → exprs_height es ≤ room - 1 →
      is_close_paren (kind_at k) ≡ true → arguments_with inner room s (exprs_text all es k) ≡ done (found es s' k)
  unfolding arguments_with next_argument
  arguments_read room less no_exprs s s' k h named low ended =
      rw ended (ap (λ (o : Option HeldScopes). done (found no_exprs (from o) k)) named)
    where
      from : Option HeldScopes → HeldScopes
      from None = s
      from (Some t) = t
  arguments_read room less (more_exprs e es) s s' k h named low ended =
      let b = behind_ok (expr_scopes e s) (exprs_scopes es) s' named in
      let begun = firsts.expr_begins e s b.0 (other_exprs_text all es k) h.0 b.1 in
      let whole = more_exprs e es in
      let is = listed_complete (inner.expr Assigned nothing (room - 1)) (next_argument inner room)
      (expr_form all Assigned) no_ending (λ e. ends_expr Assigned) (room - 1)
      (next_argument_falls all tokens n inner laws room)
      (λ x s t k h n l ended. laws.exprs.complete Assigned (room - 1) less x s t k h n l ended)
      (λ comma x s t k h n l ended. bind_is _
      (laws.exprs.complete Assigned (room - 1) less x s t k h n l ended) refl) (λ x. refl)
      (record { items = exprs_items whole; ending = None }) s s' k tt (exprs_fit_back all whole h)
      (exprs_named all (exprs_items whole) s ∙ ap (λ (es : Exprs). exprs_scopes es s) (exprs_back whole) ∙ named)
      (subst (λ (m : ℕ). m ≤ room - 1)
      (sym (exprs_high all (exprs_items whole) ∙ ap exprs_height (exprs_back whole))) low)
      (close_comma (kind_at k) ended, λ x. close_ends (kind_at k) ended) in
      rw (expr_no_close_paren s (kind_at (expr_text all e (other_exprs_text all es k))) begun)
      (bind_is _
      (ap (λ (ts : List Lexeme). listed (inner.expr Assigned nothing (room - 1)) (next_argument inner room) s ts)
      (sym (exprs_are all (exprs_items whole) k ∙ ap (λ (es : Exprs). exprs_text all es k) (exprs_back whole))) ∙ is)
      (ap (λ (es : Exprs). done (found es s' k)) (exprs_back whole)))
    where
      close_comma : (kind : TokenKind) → is_close_paren kind ≡ true → is_comma kind ≡ false
      close_comma (kinds.Punct puncts.CloseParen) e = refl
      close_comma kind e = absurd cc

      close_ends : (kind : TokenKind) → is_close_paren kind ≡ true → ends_expr Assigned kind ≡ true
      close_ends (kinds.Punct puncts.CloseParen) e = refl
      close_ends kind e = absurd cc

  -- a postfix form goes on, and ends
  postfix_on : (room : ℕ) (e f : Expr) (s t : HeldScopes) (k k' : List Lexeme) → suc (expr_height e) ≤ room
      → postfix_by inner (form_of (kind_at k)) room e s k ≡ Some (done (found f t k')) →
      postfixed inner room e s k ≡ postfixed inner room f t k'
  unfolding postfixed
  postfix_on room e f s t k k' low is =
      run_on (postfix_turn inner room) (postfix_turn_shrinks all tokens n inner laws room) e s k (found f t k')
      (ap (lowered inner (expr_height e) room k) is
      ∙ ap Some (fits_is (suc (expr_height e)) room k (done (found f t k')) low))

  pub postfix_ends : (room : ℕ) (e : Expr) (s : HeldScopes) (k : List Lexeme) → ends_unary (kind_at k) ≡ true
      → postfixed inner room e s k ≡ done (found e s k)
  unfolding postfixed
  postfix_ends room e s k ended =
      run_ends (postfix_turn inner room) (postfix_turn_shrinks all tokens n inner laws room) e s k
      (ap (λ (f : PostfixForm). lowered inner (expr_height e) room k (postfix_by inner f room e s k))
      (ends_no_form (kind_at k) ended))

  -- a primary expression or a compound literal
  abbrev pub IsBase : Expr → Type 0
  IsBase (operation e op token e2) = ⊥
  IsBase (cast opening ws d closing e) = ⊥
  IsBase (prefix token p e) = ⊥
  IsBase (sizeof_value word e) = ⊥
  IsBase (sizeof_type word opening ws d closing) = ⊥
  IsBase (extension keyword e) = ⊥
  IsBase (index e opening e2 closing) = ⊥
  IsBase (call e opening es closing) = ⊥
  IsBase (dot e token name) = ⊥
  IsBase (arrow e token name) = ⊥
  IsBase (post e token p) = ⊥
  IsBase (complex_part keyword e) = ⊥
  IsBase (label_use token name) = ⊥
  IsBase e = Unit {0}

  -- The operand that postfix forms stand behind, and that they go on from there.
  pub record BaseOf (room : ℕ) (e : Expr) (s s' : HeldScopes) (k : List Lexeme) : Type 0 where
    pub base : Expr
    pub behind_base : List Lexeme
    pub middle : HeldScopes
    pub is_base : IsBase base
    pub same_text : expr_text all e k ≡ expr_text all base behind_base
    pub fits : IsExpr all base
    pub named : expr_scopes base s ≡ Some middle
    pub low : expr_height base ≤ expr_height e
    pub no_text : is_text (kind_at behind_base) ≡ false
    pub goes_on : postfixed inner room base middle behind_base ≡ postfixed inner room e s' k

  up_left : (a b c : ℕ) → a ≤ b → a ≤ max b c + 1
  up_left a b c h = omega (arith, h)

  up_one : (a b : ℕ) → a ≤ b → a ≤ b + 1
  up_one a b h = omega (arith, h)

  pub base_of : (room : ℕ) → room ≤ n → (e : Expr) (s s' : HeldScopes) (k : List Lexeme) → IsExpr all e
      → 15 ≤ expr_level e → expr_scopes e s ≡ Some s' → expr_height e ≤ room → is_text (kind_at k) ≡ false
      → BaseOf room e s s' k
  unfolding index_with call_with dot_with arrow_with post_with
  base_of room less (operation e op token e2) s s' k h l named low no_text =
      absurd (let t : operator_level op ≤ 12 = level_most op in omega (arith, t, l))
  base_of room less (cast opening ws d closing e) s s' k h l named low no_text = absurd (omega (arith, l))
  base_of room less (prefix token p e) s s' k h l named low no_text = absurd (omega (arith, l))
  base_of room less (sizeof_value word e) s s' k h l named low no_text = absurd (omega (arith, l))
  base_of room less (sizeof_type word opening ws d closing) s s' k h l named low no_text = absurd (omega (arith, l))
  base_of room less (extension keyword e) s s' k h l named low no_text = absurd (omega (arith, l))
  base_of room less (complex_part keyword e) s s' k h l named low no_text = absurd (omega (arith, l))
  base_of room less (label_use token name) s s' k h l named low no_text = absurd (omega (arith, l))
  base_of room less (index e opening e2 closing) s s' k h l named low no_text =
      let b = behind_ok (expr_scopes e s) (expr_scopes e2) s' named in
      let i = base_of room less e s b.0
      (sign_text puncts.OpenBracket opening (expr_text all e2 (sign_text puncts.CloseBracket closing k))) h.0 h.2 b.1
      (less_all (expr_height e) room (max_left (expr_height e) (expr_height e2) room low)) refl in
      let right = max_right (expr_height e) (expr_height e2) room low in
      record {
        base = i.base;
        behind_base = i.behind_base;
        middle = i.middle;
        is_base = i.is_base;
        same_text = i.same_text;
        fits = i.fits;
        named = i.named;
        low = up_left (expr_height i.base) (expr_height e) (expr_height e2) i.low;
        no_text = i.no_text;
        goes_on = i.goes_on ∙ postfix_on room e (index e opening e2 closing) b.0 s'
            (sign_text puncts.OpenBracket opening (expr_text all e2 (sign_text puncts.CloseBracket closing k))) k
            (asks_one_more (expr_height e) (expr_height e2) room low)
            (ap Some (bind_is _ refl (bind_is _ (laws.exprs.complete Whole (room - 1)
            (inside_less (expr_height e2) room n less right) e2 b.0 s' (sign_text puncts.CloseBracket closing k)
            (h.1, omega arith) b.2 (inside_low (expr_height e2) room right) refl) (bind_is _ refl refl))));
      }
  base_of room less (call e opening es closing) s s' k h l named low no_text =
      let b = behind_ok (expr_scopes e s) (exprs_scopes es) s' named in
      let i = base_of room less e s b.0
      (sign_text puncts.OpenParen opening (exprs_text all es (sign_text puncts.CloseParen closing k))) h.0 h.2 b.1
      (less_all (expr_height e) room (max_left (expr_height e) (exprs_height es) room low)) refl in
      let right = max_right (expr_height e) (exprs_height es) room low in
      record {
        base = i.base;
        behind_base = i.behind_base;
        middle = i.middle;
        is_base = i.is_base;
        same_text = i.same_text;
        fits = i.fits;
        named = i.named;
        low = up_left (expr_height i.base) (expr_height e) (exprs_height es) i.low;
        no_text = i.no_text;
        goes_on = i.goes_on ∙ postfix_on room e (call e opening es closing) b.0 s'
            (sign_text puncts.OpenParen opening (exprs_text all es (sign_text puncts.CloseParen closing k))) k
            (asks_one_more (expr_height e) (exprs_height es) room low)
            (ap Some (bind_is _ refl (bind_is _ (arguments_read room
            (inside_less (exprs_height es) room n less right) es b.0 s' (sign_text puncts.CloseParen closing k) h.1 b.2
            (inside_low (exprs_height es) room right) refl) (bind_is _ refl refl))));
      }
  base_of room less (dot e token name) s s' k h l named low no_text =
      let i = base_of room less e s s' (sign_text puncts.Dot token (identifier_text name k)) h.0 h.1 named
      (less_all (expr_height e) room low) refl in
      record {
        base = i.base;
        behind_base = i.behind_base;
        middle = i.middle;
        is_base = i.is_base;
        same_text = i.same_text;
        fits = i.fits;
        named = i.named;
        low = up_one (expr_height i.base) (expr_height e) i.low;
        no_text = i.no_text;
        goes_on = i.goes_on ∙ postfix_on room e (dot e token name) s' s'
            (sign_text puncts.Dot token (identifier_text name k)) k (suc_le (expr_height e) room low)
            (ap Some (bind_is _ refl (bind_is _ refl refl)));
      }
  base_of room less (arrow e token name) s s' k h l named low no_text =
      let i = base_of room less e s s' (sign_text puncts.Arrow token (identifier_text name k)) h.0 h.1 named
      (less_all (expr_height e) room low) refl in
      record {
        base = i.base;
        behind_base = i.behind_base;
        middle = i.middle;
        is_base = i.is_base;
        same_text = i.same_text;
        fits = i.fits;
        named = i.named;
        low = up_one (expr_height i.base) (expr_height e) i.low;
        no_text = i.no_text;
        goes_on = i.goes_on ∙ postfix_on room e (arrow e token name) s' s'
            (sign_text puncts.Arrow token (identifier_text name k)) k (suc_le (expr_height e) room low)
            (ap Some (bind_is _ refl (bind_is _ refl refl)));
      }
  base_of room less (post e token p) s s' k h l named low no_text =
      let i = base_of room less e s s' (sign_text p token k) h.0 h.2 named (less_all (expr_height e) room low)
      (no_sign_text p) in
      record {
        base = i.base;
        behind_base = i.behind_base;
        middle = i.middle;
        is_base = i.is_base;
        same_text = i.same_text;
        fits = i.fits;
        named = i.named;
        low = up_one (expr_height i.base) (expr_height e) i.low;
        no_text = i.no_text;
        goes_on = i.goes_on ∙ postfix_on room e (post e token p) s' s' (sign_text p token k) k
            (suc_le (expr_height e) room low) (by_sign p h.1);
      }
    where
      no_sign_text : (p : Punct) → is_text (kinds.Punct p) ≡ false
      no_sign_text p = refl

      by_sign : (p : Punct) → is_postfix p ≡ true
          → postfix_by inner (form_of (kinds.Punct p)) room e s' (sign_text p token k)
          ≡ Some (done (found (post e token p) s' k))
      by_sign puncts.PlusPlus is = ap Some (bind_is _ refl refl)
      by_sign puncts.MinusMinus is = ap Some (bind_is _ refl refl)
      by_sign p is = absurd cc
  base_of room less (compound opening ws d closing list) s s' k h l named low no_text =
      record {
        base = compound opening ws d closing list;
        behind_base = k;
        middle = s';
        is_base = tt;
        same_text = refl;
        fits = h;
        named = named;
        low = omega arith;
        no_text = no_text;
        goes_on = refl;
      }
  base_of room less (name_use token name) s s' k h l named low no_text =
      record {
        base = name_use token name;
        behind_base = k;
        middle = s';
        is_base = tt;
        same_text = refl;
        fits = h;
        named = named;
        low = omega arith;
        no_text = no_text;
        goes_on = refl;
      }
  base_of room less (number_use token) s s' k h l named low no_text =
      record {
        base = number_use token;
        behind_base = k;
        middle = s';
        is_base = tt;
        same_text = refl;
        fits = h;
        named = named;
        low = omega arith;
        no_text = no_text;
        goes_on = refl;
      }
  base_of room less (char_use token) s s' k h l named low no_text =
      record {
        base = char_use token;
        behind_base = k;
        middle = s';
        is_base = tt;
        same_text = refl;
        fits = h;
        named = named;
        low = omega arith;
        no_text = no_text;
        goes_on = refl;
      }
  base_of room less (text_use texts) s s' k h l named low no_text =
      record {
        base = text_use texts;
        behind_base = k;
        middle = s';
        is_base = tt;
        same_text = refl;
        fits = h;
        named = named;
        low = omega arith;
        no_text = no_text;
        goes_on = refl;
      }
  base_of room less (paren opening e closing) s s' k h l named low no_text =
      record {
        base = paren opening e closing;
        behind_base = k;
        middle = s';
        is_base = tt;
        same_text = refl;
        fits = h;
        named = named;
        low = omega arith;
        no_text = no_text;
        goes_on = refl;
      }
  base_of room less (statement_expr opening opening2 items closing closing2) s s' k h l named low no_text =
      record {
        base = statement_expr opening opening2 items closing closing2;
        behind_base = k;
        middle = s';
        is_base = tt;
        same_text = refl;
        fits = h;
        named = named;
        low = omega arith;
        no_text = no_text;
        goes_on = refl;
      }
  base_of room less (va_arg keyword opening e separator ws d closing) s s' k h l named low no_text =
      record {
        base = va_arg keyword opening e separator ws d closing;
        behind_base = k;
        middle = s';
        is_base = tt;
        same_text = refl;
        fits = h;
        named = named;
        low = omega arith;
        no_text = no_text;
        goes_on = refl;
      }
  base_of room less (va_start keyword opening e separator e2 closing) s s' k h l named low no_text =
      record {
        base = va_start keyword opening e separator e2 closing;
        behind_base = k;
        middle = s';
        is_base = tt;
        same_text = refl;
        fits = h;
        named = named;
        low = omega arith;
        no_text = no_text;
        goes_on = refl;
      }
  base_of room less (va_copy keyword opening e separator e2 closing) s s' k h l named low no_text =
      record {
        base = va_copy keyword opening e separator e2 closing;
        behind_base = k;
        middle = s';
        is_base = tt;
        same_text = refl;
        fits = h;
        named = named;
        low = omega arith;
        no_text = no_text;
        goes_on = refl;
      }
  base_of room less (offset keyword opening ws d separator name steps closing) s s' k h l named low no_text =
      record {
        base = offset keyword opening ws d separator name steps closing;
        behind_base = k;
        middle = s';
        is_base = tt;
        same_text = refl;
        fits = h;
        named = named;
        low = omega arith;
        no_text = no_text;
        goes_on = refl;
      }
  base_of room less (compat keyword opening ws d separator ws2 d2 closing) s s' k h l named low no_text =
      record {
        base = compat keyword opening ws d separator ws2 d2 closing;
        behind_base = k;
        middle = s';
        is_base = tt;
        same_text = refl;
        fits = h;
        named = named;
        low = omega arith;
        no_text = no_text;
        goes_on = refl;
      }
  base_of room less (choose keyword opening e separator e2 separator2 e3 closing) s s' k h l named low no_text =
      record {
        base = choose keyword opening e separator e2 separator2 e3 closing;
        behind_base = k;
        middle = s';
        is_base = tt;
        same_text = refl;
        fits = h;
        named = named;
        low = omega arith;
        no_text = no_text;
        goes_on = refl;
      }
  base_of room less (generic keyword opening e xs closing) s s' k h l named low no_text =
      record {
        base = generic keyword opening e xs closing;
        behind_base = k;
        middle = s';
        is_base = tt;
        same_text = refl;
        fits = h;
        named = named;
        low = omega arith;
        no_text = no_text;
        goes_on = refl;
      }
