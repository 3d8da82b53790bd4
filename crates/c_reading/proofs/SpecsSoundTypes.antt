-- What the readers of types by `typeof` and `_Atomic` take is spelled so and well formed.
use Rattle.std.proofs.Common.{◌≡◌, ℕ, ◌≤◌, Bool, true, false, List, Some, refl, sym, ◌∙◌, ap, arith}
use Rattle.std.specs.Prelude.{◌+◌, ◌-◌, max}
use Rattle.c_words.specs.declared.kinds.TokenKind.TheVariants as kinds
use Rattle.c_words.specs.declared.kinds.Keyword.{Keyword}
use Rattle.c_words.specs.declared.kinds.Keyword.TheVariants as keywords
use Rattle.c_words.specs.declared.kinds.Punct.TheVariants as puncts
use Rattle.c_tree.specs.declared.lexeme.Lexeme.{Lexeme}
use Rattle.c_tree.specs.Tree.{SpecWord}
use Rattle.c_tree.specs.Text.{sign_text, keyword_text, expr_text, spec_words_text, some_declr_text}
use Rattle.c_tree.specs.Height.{expr_height, specs_height, some_declr_height}
use Rattle.c_tree.specs.WellFormed.{IsTypeWord, is_type_former}
use Rattle.c_units.specs.HeldScopes.{HeldScopes}
use Rattle.c_units.specs.Scoping.{expr_scopes, spec_word_scopes}
use Rattle.c_reading.specs.declared.kinds.Reach.TheVariants.{Whole}
use Rattle.c_reading.specs.Reading.{Found, kind_at, IsNumbered, IsTail}
use Rattle.c_reading.specs.Tokens.{is_open_paren, is_close_paren}
use Rattle.c_reading.specs.Parts.{Inner, TypeName}
use Rattle.c_reading.specs.Specifying.{begins_specs, typed_word_with, typeof_value_with, typeof_with, atomic_with}
use Rattle.c_reading.proofs.Binding.{found, done, bind_ok, if_ok}
use Rattle.c_reading.proofs.Forms.{Took, Takes, at_end, through, took, took_token, behind_token}
use Rattle.c_reading.proofs.KindFacts.{open_paren_kind, close_paren_kind}
use Rattle.c_reading.proofs.SpecsSoundBodies.{word_form}
use Rattle.c_reading.proofs.Aims.{TokenLaws, Laws}

one_higher : (a room : ℕ) → 1 ≤ room → a ≤ room - 1 → a + 1 ≤ room
one_higher a room one h = omega (arith, one, h)

module _ (all : List Lexeme) where
  -- what stands behind a parenthesis that was taken, and begins with it
  behind_paren : (room : ℕ) (s : HeldScopes) (ts : List Lexeme) (y : Found ℕ) (x : Found SpecWord)
      → Took all (kinds.Punct puncts.OpenParen) s ts y →
      (front : ℕ) (keyword : Keyword)
      → Takes all (word_form all) room y.scopes
      (keyword_text keyword front (sign_text puncts.OpenParen y.tree y.rest)) x →
      Takes all (word_form all) room s (keyword_text keyword front ts) x
  behind_paren room s ts y x o front keyword h = record {
    spelled = ap (keyword_text keyword front) o.spelled ∙ h.spelled;
    fits = h.fits;
    named = through (spec_word_scopes x.tree) o.same h.named refl;
    low = h.low;
    left = h.left;
  }

  module _ (numbered : IsNumbered all) (tokens : TokenLaws all) (n : ℕ) (inner : Inner) (laws : Laws all n inner) where
    -- a type that was taken, which may stand in the name of a type
    abbrev pub TypeTakes : ℕ → HeldScopes → List Lexeme → Found SpecWord → Type 0
    TypeTakes room s ts x = Takes all (word_form all) room s ts x × IsTypeWord x.tree

    typed_word_sound : (keyword : Keyword) (token opening room : ℕ) (s : HeldScopes) (ts : List Lexeme)
        (x : Found SpecWord)
        → IsTail all ts → is_type_former keyword ≡ true → 1 ≤ room →
        typed_word_with inner keyword token opening room s ts ≡ done x
        → TypeTakes room s (keyword_text keyword token (sign_text puncts.OpenParen opening ts)) x
    unfolding typed_word_with
    typed_word_sound keyword token opening room s ts x tail former one e =
        let a = bind_ok e in
        let b = bind_ok a.2 in
        let t = laws.types.sound (room - 1) s ts a.0 tail a.1 in
        let q = took_token all is_close_paren
        (kinds.Punct puncts.CloseParen) close_paren_kind a.0.scopes a.0.rest b.0 t.left b.1 in
        at_end (TypeTakes room s (keyword_text keyword token (sign_text puncts.OpenParen opening ts))) b.2 (
          record {
            spelled = ap (λ (ts : List Lexeme). keyword_text keyword token (sign_text puncts.OpenParen opening ts))
                (t.spelled ∙ ap (λ (k : List Lexeme). spec_words_text all a.0.tree.words
                (some_declr_text all a.0.tree.declr k)) q.spelled);
            fits = (former, t.fits.0, t.fits.1, t.fits.2);
            named = t.named ∙ ap Some (sym q.same);
            low = one_higher (max (specs_height a.0.tree.words) (some_declr_height a.0.tree.declr) + 1) room one t.low;
            left = q.left;
          },
          tt,
        )

    typeof_value_sound : (token opening room : ℕ) (s : HeldScopes) (ts : List Lexeme) (x : Found SpecWord)
        → IsTail all ts → 1 ≤ room →
        typeof_value_with inner token opening room s ts ≡ done x
        → TypeTakes room s (keyword_text keywords.Typeof token (sign_text puncts.OpenParen opening ts)) x
    unfolding typeof_value_with
    typeof_value_sound token opening room s ts x tail one e =
        let a = bind_ok e in
        let b = bind_ok a.2 in
        let t = laws.exprs.sound Whole (room - 1) s ts a.0 tail a.1 in
        let q = took_token all is_close_paren
        (kinds.Punct puncts.CloseParen) close_paren_kind a.0.scopes a.0.rest b.0 t.left b.1 in
        at_end (TypeTakes room s (keyword_text keywords.Typeof token (sign_text puncts.OpenParen opening ts))) b.2 (
          record {
            spelled =
                ap (λ (ts : List Lexeme). keyword_text keywords.Typeof token (sign_text puncts.OpenParen opening ts))
                (t.spelled ∙ ap (expr_text all a.0.tree) q.spelled);
            fits = t.fits.0;
            named = t.named ∙ ap Some (sym q.same);
            low = one_higher (expr_height a.0.tree) room one t.low;
            left = q.left;
          },
          tt,
        )

    pub typeof_sound : (room : ℕ) (s : HeldScopes) (ts : List Lexeme) (x : Found SpecWord) → IsTail all ts
        → kind_at ts ≡ kinds.Keyword keywords.Typeof → 1 ≤ room → typeof_with inner room s ts ≡ done x →
        TypeTakes room s ts x
    unfolding typeof_with
    typeof_sound room s ts x tail is one e =
        let a = bind_ok e in
        let b = bind_ok a.2 in
        let o = took all (kinds.Keyword keywords.Typeof) s ts a.0 tail is a.1 in
        let p = took_token all is_open_paren
        (kinds.Punct puncts.OpenParen) open_paren_kind a.0.scopes a.0.rest b.0 o.left b.1 in
        let i : TypeTakes room b.0.scopes
        (keyword_text keywords.Typeof a.0.tree (sign_text puncts.OpenParen b.0.tree b.0.rest)) x =
        if_ok (begins_specs b.0.scopes (kind_at b.0.rest)) b.2
        (λ is e. typed_word_sound keywords.Typeof a.0.tree b.0.tree room b.0.scopes b.0.rest x p.left refl one e)
        (λ is e. typeof_value_sound a.0.tree b.0.tree room b.0.scopes b.0.rest x p.left one e) in (
          behind_token all (word_form all) room (kinds.Keyword keywords.Typeof) s ts a.0 x o
              (behind_paren room a.0.scopes a.0.rest b.0 x p a.0.tree keywords.Typeof i.0),
          i.1,
        )

    pub atomic_sound : (room : ℕ) (s : HeldScopes) (ts : List Lexeme) (x : Found SpecWord) → IsTail all ts
        → kind_at ts ≡ kinds.Keyword keywords.AtomicType → 1 ≤ room → atomic_with inner room s ts ≡ done x →
        TypeTakes room s ts x
    unfolding atomic_with
    atomic_sound room s ts x tail is one e =
        let a = bind_ok e in
        let b = bind_ok a.2 in
        let o = took all (kinds.Keyword keywords.AtomicType) s ts a.0 tail is a.1 in
        let p = took_token all is_open_paren
        (kinds.Punct puncts.OpenParen) open_paren_kind a.0.scopes a.0.rest b.0 o.left b.1 in
        let i = typed_word_sound keywords.AtomicType a.0.tree b.0.tree room b.0.scopes b.0.rest x p.left refl one b.2 in (
          behind_token all (word_form all) room (kinds.Keyword keywords.AtomicType) s ts a.0 x o
              (behind_paren room a.0.scopes a.0.rest b.0 x p a.0.tree keywords.AtomicType i.0),
          i.1,
        )
