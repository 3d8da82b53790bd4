-- Types by `typeof` and `_Atomic` are read from their text.
use Rattle.std.proofs.Common.{◌≡◌, ℕ, ◌<◌, ◌≤◌, Bool, true, false, List, Some, None, refl, sym, ◌∙◌, ap, subst, arith}
use Rattle.std.specs.Prelude.{◌+◌, ◌-◌, max}
use Rattle.c_words.specs.declared.kinds.Keyword.{Keyword}
use Rattle.c_words.specs.declared.kinds.Keyword.TheVariants as keywords
use Rattle.c_words.specs.declared.kinds.Punct.TheVariants as puncts
use Rattle.c_tree.specs.declared.lexeme.Lexeme.{Lexeme}
use Rattle.c_syntax.specs.declared.parts.Word.{Word}
use Rattle.c_tree.specs.Tree.{Expr, SpecWords, SomeDeclr, typeof_value, typeof_type}
use Rattle.c_tree.specs.Text.{sign_text, expr_text, spec_words_text, some_declr_text, spec_word_text}
use Rattle.c_tree.specs.Height.{expr_height, specs_height, some_declr_height}
use Rattle.c_tree.specs.Specifiers.{IsMix}
use Rattle.c_tree.specs.WellFormed.{IsExpr, AreTypeWords, IsSomeAbstract, is_type_former}
use Rattle.c_units.specs.HeldScopes.{HeldScopes}
use Rattle.c_units.specs.Scoping.{behind, expr_scopes, spec_words_scopes, some_declr_scopes}
use Rattle.c_reading.specs.declared.kinds.Reach.TheVariants.{Whole}
use Rattle.c_reading.specs.Reading.{kind_at, IsNumbered}
use Rattle.c_reading.specs.Tokens.{word_of}
use Rattle.c_reading.specs.Parts.{Inner}
use Rattle.c_reading.specs.Specifying.{begins_specs, typed_word_with, typeof_value_with, typeof_with, atomic_with, word_by}
use Rattle.c_reading.proofs.Binding.{found, done, bind_is}
use Rattle.c_reading.proofs.Forms.{behind_ok}
use Rattle.c_reading.proofs.KindFacts.{expr_no_specs}
use Rattle.c_reading.proofs.Firsts.{former_start}
use Rattle.c_reading.proofs.Aims.{TokenLaws, FirstLaws, Laws}

inside_one : (a room : ℕ) → a + 1 ≤ room → a ≤ room - 1
inside_one a room h = omega (arith, h)

less_inside : (a room n : ℕ) → a + 1 ≤ room → room < n → room - 1 < n
less_inside a room n h k = omega (arith, h, k)

module _ (all : List Lexeme) (firsts : FirstLaws all) (n : ℕ) (inner : Inner) (laws : Laws all n inner) where
  pub typeof_complete : (keyword opening : ℕ) (e : Expr) (closing room : ℕ) → room < n
      → (s s' : HeldScopes) (k : List Lexeme) → IsExpr all e → expr_scopes e s ≡ Some s' →
      expr_height e + 1 ≤ room
      → typeof_with inner room s (spec_word_text all (typeof_value keyword opening e closing) k)
      ≡ done (found (typeof_value keyword opening e closing) s' k)
  unfolding typeof_with typeof_value_with
  typeof_complete keyword opening e closing room less s s' k fits scopes low =
      let more = sign_text puncts.CloseParen closing k in
      bind_is _ refl (bind_is _ refl
      (rw (expr_no_specs s (kind_at (expr_text all e more)) (firsts.expr_begins e s s' more fits scopes))
      (bind_is _ (laws.exprs.complete Whole (room - 1) (less_inside (expr_height e) room n low less) e s s' more
      (fits, omega arith) scopes (inside_one (expr_height e) room low) refl)
      (bind_is _ refl refl))))

  typed_word_complete : (word : Word) (opening : ℕ) (ws : SpecWords) (d : SomeDeclr) (closing room : ℕ) → room < n
      → (s s' : HeldScopes) (k : List Lexeme) →
      IsMix ws → AreTypeWords all ws → IsSomeAbstract all d → behind (spec_words_scopes ws s) (some_declr_scopes None d)
      ≡ Some s' → max (specs_height ws) (some_declr_height d) + 1 + 1 ≤ room →
      typed_word_with inner word.keyword word.token opening room s
      (spec_words_text all ws (some_declr_text all d (sign_text puncts.CloseParen closing k))) ≡
      done (found (typeof_type word opening ws d closing) s' k)
  unfolding typed_word_with
  typed_word_complete word opening ws d closing room less s s' k mix words declr scopes low =
      let more = sign_text puncts.CloseParen closing k in
      bind_is _
      (laws.types.complete (room - 1) (less_inside (max (specs_height ws) (some_declr_height d) + 1) room n low less)
      (record { words = ws; declr = d }) s s' more (mix, words, declr) scopes
      (inside_one (max (specs_height ws) (some_declr_height d) + 1) room low) refl) (bind_is _ refl refl)

  -- a type with such a word is read by what it begins with
  pub former_complete : (word : Word) (opening : ℕ) (ws : SpecWords) (d : SomeDeclr) (closing room : ℕ) → room - 1 < n
      → (s s' : HeldScopes) (k : List Lexeme) → is_type_former word.keyword ≡ true →
      IsMix ws → AreTypeWords all ws → IsSomeAbstract all d → behind (spec_words_scopes ws s) (some_declr_scopes None d)
      ≡ Some s' → max (specs_height ws) (some_declr_height d) + 1 + 1 ≤ room - 1 →
      word_by inner (former_start word.keyword) room s (spec_word_text all (typeof_type word opening ws d closing) k)
      ≡ done (found (typeof_type word opening ws d closing) s' k)
  unfolding word_by typeof_with atomic_with
  former_complete word opening ws d closing room less s s' k former mix words declr scopes low =
      by_keyword word.keyword former
    where
      more : List Lexeme
      more = some_declr_text all d (sign_text puncts.CloseParen closing k)

      by_keyword : (keyword : Keyword) → is_type_former keyword ≡ true →
          word_by inner (former_start keyword) room s
          (spec_word_text all (typeof_type (word_of keyword word.token) opening ws d closing) k) ≡
          done (found (typeof_type (word_of keyword word.token) opening ws d closing) s' k)
      by_keyword keywords.Typeof former =
          let b = behind_ok (spec_words_scopes ws s) (some_declr_scopes None d) s' scopes in
          bind_is _ refl (bind_is _ refl (rw (firsts.type_words_begin ws s b.0 more mix words b.1)
          (typed_word_complete (word_of keywords.Typeof word.token) opening ws d closing
          (room - 1) less s s' k mix words declr scopes low)))
      by_keyword keywords.AtomicType former =
          bind_is _ refl (bind_is _ refl (typed_word_complete (word_of keywords.AtomicType word.token) opening ws d
          closing (room - 1) less s s' k mix words declr scopes low))
      by_keyword keyword former = absurd cc
