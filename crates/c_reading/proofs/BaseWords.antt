-- A base word behind the words of a typedef, which is its name there.
use Rattle.std.proofs.Common.{◌≡◌, ◌≢◌, ℕ, zero, suc, Bool, true, false, if◌then◌else◌, List, [], ◌∷◌, Option, Some, None, inl, inr, refl, sym, ◌∙◌, ap, subst, arith}
use Rattle.std.specs.Prelude.{◌&&◌, ◌||◌, ◌⊎◌, not, is_some, Contains}
use Rattle.std.proofs.lemmas.Bool.{or_right, or_left}
use Rattle.c_words.specs.declared.kinds.TokenKind.{TokenKind}
use Rattle.c_words.specs.declared.kinds.Keyword.{Keyword}
use Rattle.c_words.specs.declared.kinds.Keyword.TheVariants as keywords
use Rattle.c_words.specs.declared.kinds.Punct.TheVariants as puncts
use Rattle.c_tree.specs.declared.lexeme.Lexeme.{Lexeme}
use Rattle.c_syntax.specs.declared.parts.Word.{Word}
use Rattle.c_syntax.specs.declared.parts.Attr.{Attr}
use Rattle.c_syntax.specs.declared.parts.AsmLabel.{AsmLabel}
use Rattle.c_tree.specs.Tree.{SpecWords, no_words, more_words, basic, Declr, pointer, declr_name, declr_paren, array, params, abs_pointer, abs_paren, abs_array, abs_params, identifiers, base_name, InitDeclrs, no_init_declrs, more_init_declrs, SomeInit, some_init, init_value}
use Rattle.c_tree.specs.Text.{sign_text, declr_text, label_text, attrs_text, some_init_text, init_declrs_text, other_init_declrs_text}
use Rattle.c_tree.specs.Specifiers.{IsMix, storage_words}
use Rattle.c_tree.specs.WellFormed.{IsDeclr, is_named, begins_base, and_base, has_auto, is_auto, IsAutoDeclr, IsAutoWhere, IsBaseStart, IsInitStart, AreInitDeclrs}
use Rattle.c_specs.specs.declared.basic.Base.{Base}
use Rattle.c_specs.specs.declared.basic.Base.TheVariants as bases
use Rattle.c_specs.specs.declared.basic.Mark.{Mark}
use Rattle.c_specs.specs.declared.basic.Core.TheVariants as cores
use Rattle.c_specs.specs.declared.basic.Part.TheVariants as parts
use Rattle.c_specs.specs.declared.mix.Types.{Types}
use Rattle.c_specs.specs.declared.mix.Types.TheVariants.{Words, Named}
use Rattle.c_specs.specs.declared.mix.Mix.{Mix}
use Rattle.c_specs.specs.declared.mix.Class.TheVariants as classes
use Rattle.c_specs.specs.Basic.{fits}
use Rattle.c_specs.specs.Mix.{class_of, then_class, goes_on, mix_from, mix_of, no_mix, with_types, with_part, whole_in, is_whole_mix, fitting}
use Rattle.c_specs.specs.Reading.{append_words}
use Rattle.c_specs.specs.Laws.{WholeAreMixes, MixesGoOn}
use Rattle.typedef_scope.specs.declared.kind.Kind.{Kind}
use Rattle.typedef_scope.specs.declared.kind.Kind.TheVariants.{Typedef, Value}
use Rattle.c_units.specs.HeldScopes.{HeldScopes, is_wide, is_typedef, release}
use Rattle.c_units.specs.Scoping.{behind, where_true, declr_scopes, declared_kind, is_typedef_word, has_typedef_word, init_declrs_scopes, auto_declrs_scopes, params_scopes, in_own_scope, some_size_scopes, identifiers_scopes, some_init_scopes}
use Rattle.c_reading.specs.declared.kinds.SpecStart.TheVariants as starts
use Rattle.c_reading.specs.Reading.{kind_at}
use Rattle.c_reading.specs.Tokens.{is_base_word}
use Rattle.c_reading.specs.Specifying.{ends_before}
use Rattle.c_reading.proofs.Binding.{if_ok}
use Rattle.c_reading.proofs.Forms.{behind_ok}
use Rattle.c_reading.proofs.KindFacts.{named_ends_specs}
use Rattle.c_reading.proofs.Aims.{EndsWords, FirstLaws}
use Rattle.c_reading.proofs.Firsts.{named_base}

abbrev pub base_of_words : ℕ → SpecWords
base_of_words token = more_words (basic (record { keyword = keywords.BaseWord; token = token })) no_words

pub and_base_is : (ws : SpecWords) (token : ℕ) → and_base ws token ≡ append_words ws (base_of_words token)
and_base_is no_words token = refl
and_base_is (more_words w ws) token = ap (more_words w) (and_base_is ws token)

mix_and_base : (o : Option Mix) (ws : SpecWords) (token : ℕ)
    → mix_from o (and_base ws token) ≡ then_class (mix_from o ws) (classes.Spells keywords.BaseWord)
mix_and_base o no_words token = refl
mix_and_base o (more_words w ws) token = mix_and_base (then_class o (class_of w)) ws token

-- a whole mix that goes on with a base word is a whole one with it
base_whole : (o : Option Mix) → whole_in o ≡ true → is_some (then_class o (classes.Spells keywords.BaseWord)) ≡ true
    → whole_in (then_class o (classes.Spells keywords.BaseWord)) ≡ true
base_whole None whole on = absurd cc
base_whole (Some mix) whole on = by_types mix.types on
  where
    by_fits : (mark : Mark) (b : Bool) → fits bases.Alone mark ≡ b
        → is_some (with_types mix (if b then Some (Words bases.Alone mark) else None)) ≡ true →
        whole_in (with_types mix (if b then Some (Words bases.Alone mark) else None)) ≡ true
    by_fits mark true is on = refl
    by_fits mark false is on = absurd cc

    by_types : (types : Types) → is_some (with_types mix (with_part types (parts.Core cores.Alone))) ≡ true
        → whole_in (with_types mix (with_part types (parts.Core cores.Alone))) ≡ true
    by_types Named on = absurd cc
    by_types (Words bases.Nothing mark) on = by_fits mark (fits bases.Alone mark) refl on
    by_types (Words base mark) on = absurd cc

-- words that a base word continues are a mix with it, and the other way round
pub base_mixes : (whole_are : WholeAreMixes) (ws : SpecWords) → IsMix ws
    → goes_on ws (classes.Spells keywords.BaseWord) ≡ true → IsMix (and_base ws 0)
base_mixes whole_are ws mix on =
    (whole_are (and_base ws 0)).0
    (ap whole_in (mix_and_base (Some no_mix) ws 0) ∙ base_whole (mix_of ws) ((whole_are ws).1 mix) on)

pub base_continues : (goes : MixesGoOn) (ws : SpecWords) → IsMix (and_base ws 0)
    → goes_on ws (classes.Spells keywords.BaseWord) ≡ true
base_continues goes ws mix =
    goes ws (basic (record { keyword = keywords.BaseWord; token = 0 })) no_words (subst IsMix (and_base_is ws 0) mix)

-- a declarator that begins with a base word is that of a typedef in wider C
pub base_scopes : (kind : Option Kind) (d : Declr) (s t : HeldScopes) → begins_base d ≡ true
    → declr_scopes kind d s ≡ Some t → (is_wide s ≡ true) × (is_typedef kind ≡ true)
base_scopes kind (base_name token) s t begins named = by_tests (is_wide s) (is_typedef kind) named
  where
    by_tests : (a b : Bool) → where_true (a && b) s ≡ Some t → (a ≡ true) × (b ≡ true)
    by_tests true true e = (refl, refl)
    by_tests true false e = absurd cc
    by_tests false b e = absurd cc
base_scopes kind (array d opening words size closing) s t begins named =
    let b = behind_ok (declr_scopes kind d s) (some_size_scopes size) t named in
    base_scopes kind d s b.0 begins b.1
base_scopes kind (params d opening ps dots closing) s t begins named =
    let b = behind_ok (declr_scopes kind d s) (in_own_scope (params_scopes ps)) t named in
    base_scopes kind d s b.0 begins b.1
base_scopes kind (identifiers d opening names closing) s t begins named =
    let b =
    behind_ok (declr_scopes kind d s) (λ t. behind (where_true (is_wide t) t) (identifiers_scopes names)) t named in
    base_scopes kind d s b.0 begins b.1
base_scopes kind (declr_name token name) s t begins named = absurd cc
base_scopes kind (declr_paren opening attrs d closing) s t begins named = absurd cc
base_scopes kind (pointer star words d) s t begins named = absurd cc
base_scopes kind (abs_pointer star words d) s t begins named = absurd cc
base_scopes kind (abs_paren opening attrs d closing) s t begins named = absurd cc
base_scopes kind (abs_array d opening words size closing) s t begins named = absurd cc
base_scopes kind (abs_params d opening ps dots closing) s t begins named = absurd cc

-- so it is none of another kind
pub not_base : (kind : Option Kind) (d : Declr) (s t : HeldScopes) → is_typedef kind ≡ false
    → declr_scopes kind d s ≡ Some t → begins_base d ≡ false
not_base kind d s t other named = by_begin (begins_base d) refl
  where
    by_begin : (b : Bool) → begins_base d ≡ b → begins_base d ≡ false
    by_begin false is = is
    by_begin true is = let typed : is_typedef kind ≡ true = (base_scopes kind d s t is named).1 in absurd cc

-- what the declarators of a declaration make of the scopes
abbrev pub words_declrs_scopes : SpecWords → InitDeclrs → HeldScopes → Option HeldScopes
words_declrs_scopes words ds =
    if has_auto words then auto_declrs_scopes ds else init_declrs_scopes (declared_kind words) ds

-- `typedef` is one of these words
pub typedef_among : (ws : List Keyword) → Contains ws keywords.Typedef → has_typedef_word ws ≡ true
typedef_among [] (k, l, e) = absurd (omega (arith, l))
typedef_among (w ∷ ws) (zero, l, e) = rw e refl
typedef_among (w ∷ ws) (suc k, l, e) = rw (typedef_among ws (k, omega (arith, l), e)) (or_true (is_typedef_word w))
  where
    or_true : (b : Bool) → (if b then true else true) ≡ true
    or_true true = refl
    or_true false = refl

module _ (all : List Lexeme) where
  -- declarators that are read behind words which a base word does not continue
  pub base_start : (goes : MixesGoOn) (ws : SpecWords) (ds : InitDeclrs) (k : List Lexeme)
      → (is_base_word (kind_at (init_declrs_text all ds k)) ≡ true
      → goes_on ws (classes.Spells keywords.BaseWord) ≡ false) →
      IsInitStart ds → AreInitDeclrs all ds → IsBaseStart ws ds
  base_start goes ws no_init_declrs k stops start fit = tt
  base_start goes ws (more_init_declrs (a ∷ attrs) d l attrs2 i ds) k stops start fit = absurd cc
  base_start goes ws (more_init_declrs [] d l attrs2 i ds) k stops start fit = λ begins mix.
      let off : goes_on ws (classes.Spells keywords.BaseWord) ≡ false = stops (named_base all d (label_text all l
      (attrs_text all attrs2 (some_init_text all i (other_init_declrs_text all ds k)))) fit.1 fit.2 ∙ begins) in
      let on : goes_on ws (classes.Spells keywords.BaseWord) ≡ true = base_continues goes ws mix in
      absurd cc

  typedef_words : (words : SpecWords) → is_typedef (Some (declared_kind words)) ≡ true
      → has_typedef_word (storage_words words) ≡ true
  typedef_words words is = by_test (has_typedef_word (storage_words words)) is
    where
      by_test : (b : Bool) → is_typedef (Some (if b then Typedef else Value)) ≡ true → b ≡ true
      by_test true e = refl
      by_test false e = absurd cc

  -- behind `__auto_type` a base word stands where `typedef` is one of the words
  auto_typedef : (words : SpecWords) (d : Declr) (l : Option AsmLabel) (attrs : List Attr) (i : SomeInit)
      (ds : InitDeclrs)
      → begins_base d ≡ true → IsAutoDeclr words (more_init_declrs [] d l attrs i ds) →
      has_typedef_word (storage_words words) ≡ true
  auto_typedef words (base_name token) None attrs (some_init equal (init_value e)) no_init_declrs is auto =
      typedef_among (storage_words words) auto
  auto_typedef words (declr_name token name) l attrs i ds is auto = absurd cc
  auto_typedef words d l attrs i ds is auto = absurd auto

  module _ (whole_are : WholeAreMixes) (firsts : FirstLaws all) where
    -- the words end before the declarators that are the definition's
    pub declrs_end : (words : SpecWords) (ds : InitDeclrs) (semi : ℕ) (s t : HeldScopes) (k : List Lexeme) → IsMix words
        → IsInitStart ds → AreInitDeclrs all ds → IsAutoWhere (has_auto words) words ds → IsBaseStart words ds →
        words_declrs_scopes words ds s ≡ Some t
        → EndsWords s words (kind_at (init_declrs_text all ds (sign_text puncts.Semicolon semi k)))
    declrs_end words no_init_declrs semi s t k mix start fit auto base named = inl refl
    declrs_end words (more_init_declrs (a ∷ attrs) d l attrs2 i ds) semi s t k mix start fit auto base named = absurd cc
    declrs_end words (more_init_declrs [] d l attrs2 i ds) semi s t k mix start fit auto base named =
        by_begin (begins_base d) refl
      where
        more : List Lexeme
        more = label_text all l (attrs_text all attrs2
            (some_init_text all i (other_init_declrs_text all ds (sign_text puncts.Semicolon semi k))))

        by_auto : begins_base d ≡ true → (b : Bool) → has_auto words ≡ b
            → IsAutoWhere b words (more_init_declrs [] d l attrs2 i ds) →
            (if b then auto_declrs_scopes (more_init_declrs [] d l attrs2 i ds)
            else init_declrs_scopes (declared_kind words) (more_init_declrs [] d l attrs2 i ds)) s ≡ Some t →
            (is_wide s || has_auto words ≡ true) × (has_typedef_word (storage_words words) ≡ true)
        by_auto is true on auto named =
            (or_right (is_wide s) (has_auto words) on, auto_typedef words d l attrs2 i ds is auto)
        by_auto is false on auto named =
            let a = behind_ok (behind (declr_scopes (Some (declared_kind words)) d s) (λ t. some_init_scopes i
            (release (declared_kind words) t))) (init_declrs_scopes (declared_kind words) ds) t named in
            let b = behind_ok (declr_scopes (Some (declared_kind words)) d s)
            (λ t. some_init_scopes i (release (declared_kind words) t)) a.0 a.1 in
            let p = base_scopes (Some (declared_kind words)) d s b.0 is b.1 in
            (or_left (is_wide s) (has_auto words) p.0, typedef_words words p.1)

        by_on : begins_base d ≡ true → (b : Bool) → goes_on words (classes.Spells keywords.BaseWord) ≡ b
            → goes_on words (classes.Spells keywords.BaseWord) ≡ false
        by_on is true on = absurd (base is (base_mixes whole_are words mix on))
        by_on is false on = on

        by_begin : (b : Bool) → begins_base d ≡ b → EndsWords s words (kind_at (declr_text all d more))
        by_begin false is =
            inl (named_ends_specs (kind_at (declr_text all d more)) (firsts.named_begins d more fit.1 fit.2)
            (firsts.named_base d more fit.1 fit.2 ∙ is))
        by_begin true is =
            let p = by_auto is (has_auto words) refl auto named in
            let off = by_on is (goes_on words (classes.Spells keywords.BaseWord)) refl in
            inr (firsts.named_base d more fit.1 fit.2 ∙ is, rw (p.0, p.1, (whole_are words).1 mix, off) refl)

-- words without `typedef`
first_typedef : (w : Keyword) → is_typedef_word w ≡ false → w ≢ keywords.Typedef
first_typedef keywords.Typedef h e = absurd cc
first_typedef w h e = by_word (ap is_typedef_word e) h
  where
    by_word : {b : Bool} → b ≡ true → b ≡ false → ⊥
    by_word {b = true} p q = cc
    by_word {b = false} p q = cc

-- storage words that fail the test for `typedef` hold none
pub no_typedef : (ws : List Keyword) → has_typedef_word ws ≡ false → ¬ Contains ws keywords.Typedef
no_typedef [] h (k, l, e) = absurd (omega (arith, l))
no_typedef (w ∷ ws) h (zero, l, e) = if_ok (is_typedef_word w) h (λ is e2. absurd cc) (λ is e2. first_typedef w is e)
no_typedef (w ∷ ws) h (suc k, l, e) =
    if_ok (is_typedef_word w) h (λ is e2. absurd cc) (λ is e2. no_typedef ws e2 (k, omega (arith, l), e))

contains_first : (w : Keyword) (ws : List Keyword) → w ≡ keywords.Typedef → Contains (w ∷ ws) keywords.Typedef
contains_first w ws e = (0, omega arith, e)

contains_later : (w : Keyword) (ws : List Keyword) → Contains ws keywords.Typedef → Contains (w ∷ ws) keywords.Typedef
contains_later w ws (k, l, e) = (suc k, omega (arith, l), e)

typedef_is : (w : Keyword) → is_typedef_word w ≡ true → w ≡ keywords.Typedef
typedef_is keywords.Typedef h = refl
typedef_is w h = absurd cc

-- storage words that hold no `typedef` fail the test for it
pub bare_words : (ws : List Keyword) → (Contains ws keywords.Typedef → ⊥) → has_typedef_word ws ≡ false
bare_words [] h = refl
bare_words (w ∷ ws) h = by_word (is_typedef_word w) refl (bare_words ws (λ c. h (contains_later w ws c)))
  where
    by_word : (b : Bool) → is_typedef_word w ≡ b → has_typedef_word ws ≡ false
        → (if b then true else has_typedef_word ws) ≡ false
    by_word true is later = absurd (h (contains_first w ws (typedef_is w is)))
    by_word false is later = later

-- storage words that pass the test for `typedef` hold it
pub among_typedef : (ws : List Keyword) → has_typedef_word ws ≡ true → Contains ws keywords.Typedef
among_typedef [] h = absurd cc
among_typedef (w ∷ ws) h = by_word (is_typedef_word w) refl (among_typedef ws) h
  where
    by_word : (b : Bool) → is_typedef_word w ≡ b → (has_typedef_word ws ≡ true → Contains ws keywords.Typedef)
        → (if b then true else has_typedef_word ws) ≡ true → Contains (w ∷ ws) keywords.Typedef
    by_word true is later h = contains_first w ws (typedef_is w is)
    by_word false is later h = contains_later w ws (later h)
