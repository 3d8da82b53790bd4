-- The text of a size of an array is read as this, also where it begins with a star.
use Rattle.std.proofs.Common.{◌≡◌, ℕ, ◌<◌, ◌≤◌, Bool, true, false, List, [], ◌∷◌, Option, Some, None, refl, sym, ◌∙◌, ap, arith}
use Rattle.std.specs.Prelude.{◌-◌}
use Rattle.c_words.specs.declared.kinds.TokenKind.TheVariants as kinds
use Rattle.c_words.specs.declared.kinds.Punct.{Punct}
use Rattle.c_words.specs.declared.kinds.Punct.TheVariants as puncts
use Rattle.c_tree.specs.declared.lexeme.Lexeme.{Lexeme}
use Rattle.c_tree.specs.Tree.{Expr, operation, cast, prefix, sizeof_value, sizeof_type, extension, index, call, dot, arrow, post, compound, name_use, number_use, char_use, text_use, paren, statement_expr, va_arg, va_start, va_copy, offset, complex_part, label_use, compat, choose, generic, SomeSize, no_size, some_size, size_value, size_star}
use Rattle.c_tree.specs.Text.{sign_text, operator_text, expr_text, some_size_text}
use Rattle.c_tree.specs.Height.{some_size_height}
use Rattle.c_tree.specs.Levels.{expr_level}
use Rattle.c_tree.specs.WellFormed.{IsExpr, IsSize}
use Rattle.c_ops.proofs.Levels.{level_most}
use Rattle.c_units.specs.HeldScopes.{HeldScopes}
use Rattle.c_units.specs.Scoping.{behind, expr_scopes, operator_scopes, some_size_scopes}
use Rattle.c_reading.specs.declared.kinds.Reach.TheVariants.{Assigned}
use Rattle.c_reading.specs.Reading.{kind_at, and_then}
use Rattle.c_reading.specs.Tokens.{is_star, is_close_bracket}
use Rattle.c_reading.specs.Parts.{Inner, star as begun_star}
use Rattle.c_reading.specs.Expressing.{begins_expr}
use Rattle.c_reading.specs.Declaring.{star_size, size_with}
use Rattle.c_reading.proofs.Binding.{found, done, bind_is}
use Rattle.c_reading.proofs.Forms.{behind_ok}
use Rattle.c_reading.proofs.KindFacts.{expr_no_close_bracket}
use Rattle.c_reading.proofs.Aims.{star_begins, behind_star, FirstLaws, Laws, ends_expr}

star_punct : (p : Punct) → is_star (kinds.Punct p) ≡ true → p ≡ puncts.Star
star_punct puncts.Star e = refl
star_punct p e = absurd cc

texts_no_star : (all : List Lexeme) (texts : List ℕ) (k : List Lexeme) → (texts ≡ [] → ⊥)
    → is_star (kind_at (expr_text all (text_use texts) k)) ≡ false
texts_no_star all [] k h = absurd (h refl)
texts_no_star all (x ∷ xs) k h = refl

module _ (all : List Lexeme) where
  -- what holds together as tightly as a postfix form begins with no star
  high_no_star : (e : Expr) (k : List Lexeme) → IsExpr all e → 15 ≤ expr_level e
      → is_star (kind_at (expr_text all e k)) ≡ false
  high_no_star (operation e op token e2) k fits high = let most = level_most op in absurd (omega (arith, most, high))
  high_no_star (cast opening ws d closing e) k fits high = refl
  high_no_star (prefix token p e) k fits high = absurd (omega (arith, high))
  high_no_star (sizeof_value word e) k fits high = refl
  high_no_star (sizeof_type word opening ws d closing) k fits high = refl
  high_no_star (extension keyword e) k fits high = refl
  high_no_star (index e opening e2 closing) k fits high = high_no_star e _ fits.0 fits.2
  high_no_star (call e opening es closing) k fits high = high_no_star e _ fits.0 fits.2
  high_no_star (dot e token name) k fits high = high_no_star e _ fits.0 fits.1
  high_no_star (arrow e token name) k fits high = high_no_star e _ fits.0 fits.1
  high_no_star (post e token p) k fits high = high_no_star e _ fits.0 fits.2
  high_no_star (compound opening ws d closing list) k fits high = refl
  high_no_star (name_use token name) k fits high = refl
  high_no_star (number_use token) k fits high = refl
  high_no_star (char_use token) k fits high = refl
  high_no_star (text_use texts) k fits high = texts_no_star all texts k fits
  high_no_star (paren opening e closing) k fits high = refl
  high_no_star (statement_expr opening opening2 items closing closing2) k fits high = refl
  high_no_star (va_arg keyword opening e separator ws d closing) k fits high = refl
  high_no_star (va_start keyword opening e separator e2 closing) k fits high = refl
  high_no_star (va_copy keyword opening e separator e2 closing) k fits high = refl
  high_no_star (offset keyword opening ws d separator name steps closing) k fits high = refl
  high_no_star (complex_part token e) k fits high = refl
  high_no_star (label_use token name) k fits high = refl
  high_no_star (compat keyword opening ws d separator ws2 d2 closing) k fits high = refl
  high_no_star (choose keyword opening e separator e2 separator2 e3 closing) k fits high = refl
  high_no_star (generic keyword opening e items closing) k fits high = refl

  -- an expression that begins with a star has it as the first operand's
  pub record Starred (e : Expr) (k : List Lexeme) : Type 0 where
    pub token : ℕ
    pub begun : star_begins token e
    pub spelled : expr_text all e k ≡ sign_text puncts.Star token (behind_star all e k)
    pub more : FirstLaws all → (s s' : HeldScopes) → expr_scopes e s ≡ Some s'
        → begins_expr s (kind_at (behind_star all e k)) ≡ true

  no_star : {e : Expr} {k : List Lexeme} → is_star (kind_at (expr_text all e k)) ≡ false
      → is_star (kind_at (expr_text all e k)) ≡ true → Starred e k
  no_star none is = let wrong : true ≡ false = sym is ∙ none in absurd cc

  pub star_first : (e : Expr) (k : List Lexeme) → IsExpr all e → is_star (kind_at (expr_text all e k)) ≡ true
      → Starred e k
  star_first (operation e op token e2) k fits is =
      let h = star_first e (operator_text all op token (expr_text all e2 k)) fits.0 is in
      record {
        token = h.token;
        begun = h.begun;
        spelled = h.spelled;
        more = λ firsts s s' named.
            let a = behind_ok (behind (expr_scopes e s) (operator_scopes op)) (expr_scopes e2) s' named in
            let b = behind_ok (expr_scopes e s) (operator_scopes op) a.0 a.1 in
            h.more firsts s b.0 b.1;
      }
  star_first (prefix token p e) k fits is =
      let same = star_punct p is in
      record {
        token = token;
        begun = (refl, same);
        spelled = ap (λ (p : Punct). sign_text p token (expr_text all e k)) same;
        more = λ firsts s s' named. firsts.expr_begins e s s' k fits.0 named;
      }
  star_first (index e opening e2 closing) k fits is =
      no_star (high_no_star (index e opening e2 closing) k fits (omega arith)) is
  star_first (call e opening es closing) k fits is =
      no_star (high_no_star (call e opening es closing) k fits (omega arith)) is
  star_first (dot e token name) k fits is = no_star (high_no_star (dot e token name) k fits (omega arith)) is
  star_first (arrow e token name) k fits is = no_star (high_no_star (arrow e token name) k fits (omega arith)) is
  star_first (post e token p) k fits is = no_star (high_no_star (post e token p) k fits (omega arith)) is
  star_first (text_use texts) k fits is = no_star (texts_no_star all texts k fits) is
  star_first e k fits is = absurd cc

  module _ (firsts : FirstLaws all) (n : ℕ) (inner : Inner) (laws : Laws all n inner) where
    star_complete : (e : Expr) (room : ℕ) → room - 1 < n → (s s' : HeldScopes) (k : List Lexeme) (h : Starred e k)
        → is_close_bracket (kind_at k) ≡ true → ends_expr Assigned (kind_at k) ≡ true
        → IsSize all (some_size (size_value e)) →
        some_size_scopes (some_size (size_value e)) s ≡ Some s'
        → some_size_height (some_size (size_value e)) ≤ room - 1 →
        star_size inner room s (sign_text puncts.Star h.token (behind_star all e k))
        ≡ done (found (some_size (size_value e)) s' k)
    unfolding star_size and_then
    star_complete e room less s s' k h closing ended fits named low =
        let begun = h.more firsts s s' named in
        rw (expr_no_close_bracket s (kind_at (behind_star all e k)) begun)
        (bind_is _ (laws.exprs.begun_complete Assigned (begun_star h.token)
        (room - 1) refl less e s s' k fits.0 fits.1 h.begun named low ended) refl)

    pub size_complete : (size : SomeSize) (room : ℕ) → room ≤ n → 1 ≤ room
        → (s s' : HeldScopes) (closing : ℕ) (k : List Lexeme) → IsSize all size → some_size_scopes size s ≡ Some s'
        → some_size_height size ≤ room - 1 →
        size_with inner room s (some_size_text all size (sign_text puncts.CloseBracket closing k))
        ≡ done (found size s' (sign_text puncts.CloseBracket closing k))
    unfolding size_with star_size and_then
    size_complete no_size room less least s s' closing k fits named low =
        ap (λ (u : Option HeldScopes). done (found no_size (from u) (sign_text puncts.CloseBracket closing k))) named
      where
        from : Option HeldScopes → HeldScopes
        from None = s
        from (Some t) = t
    size_complete (some_size (size_star token)) room less least s s' closing k fits named low =
        ap (λ (u : Option HeldScopes). done
        (found (some_size (size_star token)) (from u) (sign_text puncts.CloseBracket closing k))) named
      where
        from : Option HeldScopes → HeldScopes
        from None = s
        from (Some t) = t
    size_complete (some_size (size_value e)) room less least s s' closing k fits named low =
        by_star (is_star (kind_at (expr_text all e last))) refl
      where
        last : List Lexeme
        last = sign_text puncts.CloseBracket closing k

        few : room - 1 < n
        few = omega (arith, less, least)

        by_star : (b : Bool) → is_star (kind_at (expr_text all e last)) ≡ b
            → size_with inner room s (expr_text all e last) ≡ done (found (some_size (size_value e)) s' last)
        by_star true is =
            let h = star_first e last fits.0 is in
            rw h.spelled (star_complete e room few s s' last h refl refl fits named low)
        by_star false is =
            let begun = firsts.expr_begins e s s' last fits.0 named in
            rw (expr_no_close_bracket s (kind_at (expr_text all e last)) begun, is)
            (bind_is _ (laws.exprs.complete Assigned (room - 1) few e s s' last fits named low refl) refl)
