-- Rows of like tokens: extensions, texts, qualifiers, words of arrays and of assembler.
use Rattle.std.proofs.Common.{◌≡◌, ℕ, ◌<◌, ◌≤◌, Bool, true, false, if◌then◌else◌, List, [], ◌∷◌, ◌++◌, length, Option, Some, None, refl, sym, ◌∙◌, ap, subst, arith}
use Rattle.std.specs.Prelude.{All, not}
use Rattle.std.proofs.lemmas.List.Elements.{All-nil, All-cons, All-head, All-tail}
use Rattle.std.proofs.lemmas.Bool.{not-true}
use Rattle.c_words.specs.declared.kinds.TokenKind.{TokenKind}
use Rattle.c_words.specs.declared.kinds.TokenKind.TheVariants as kinds
use Rattle.c_words.specs.declared.kinds.Keyword.{Keyword}
use Rattle.c_words.specs.declared.kinds.Keyword.TheVariants as keywords
use Rattle.c_tree.specs.declared.lexeme.Lexeme.{Lexeme}
use Rattle.c_tree.specs.Text.{plain_text, keyword_text, word_text, extensions_text, texts_text, qual_text, quals_text, array_words_text, words_text, tokens_between}
use Rattle.c_tree.specs.WellFormed.{is_qual, is_asm_word, IsElement, IsElementKind, IsQual, is_word_qual, IsWordQual, IsArrayWord}
use Rattle.c_syntax.specs.declared.parts.Word.{Word}
use Rattle.c_syntax.specs.declared.parts.Qual.{Qual}
use Rattle.c_syntax.specs.declared.parts.Qual.TheVariants as quals
use Rattle.c_syntax.specs.declared.parts.ArrayWord.{ArrayWord}
use Rattle.c_syntax.specs.declared.parts.ArrayWord.TheVariants as array_words
use Rattle.c_units.specs.HeldScopes.{HeldScopes}
use Rattle.c_units.specs.Scoping.{behind}
use Rattle.c_reading.specs.Reading.{IsNumbered, Found, Reader, ends, fits, kind_at, take_one, repeated, repeated_turn, and_then, IsTail}
use Rattle.c_reading.specs.Tokens.{made_at, made_by, is_made, is_extension, is_text, is_static, extensions_at, texts_at, word_of, qual_of, word_qual_of, quals_at, array_word_of, array_word_by, array_words_at, asm_word_of, asm_words_at}
use Rattle.c_reading.proofs.Aims.{exts_form, texts_form, quals_form, array_words_form, asm_words_form}
use Rattle.c_reading.proofs.KindFacts.{extension_kind, text_kind}
use Rattle.c_reading.proofs.Binding.{found, done, ok_is, bind_ok, fits_ok, fits_is, take_falls}
use Rattle.c_reading.proofs.Loops.{run-keep}
use Rattle.c_reading.proofs.Tails.{tail_of, element_is, element_spelled}
use Rattle.c_reading.proofs.Forms.{Form, Falls, Shrinks, Takes, IsSound, IsComplete, at_end, took}
use Rattle.c_reading.proofs.Rows.{row_form, row_text, AllFit, row_scopes, row_height, fit_push, scopes_push, height_push, repeated_falls, repeated_sound, repeated_complete}

-- what is read of an item whose first token passed the test
abbrev pub IsSoundWhere : List Lexeme → {T : Type 0} → (TokenKind → Bool) → Form T → ℕ → Reader T → Type 0
IsSoundWhere all {T} begins form room read =
    (s : HeldScopes) (ts : List Lexeme) (x : Found T) → IsTail all ts → begins (kind_at ts) ≡ true → read s ts ≡ done x
    → Takes all form room s ts x

module _ {T : Type 0} (begins : TokenKind → Bool) (read : Reader T) where
  -- what one turn read, and that its first token passed the test
  turn_where : (xs : List T) (s : HeldScopes) (ts : List Lexeme) (x : Found (List T))
      → repeated_turn begins read xs s ts ≡ Some (done x) →
      (begins (kind_at ts) ≡ true) × (y : Found T) × (read s ts ≡ done y)
      × (found (xs ++ y.tree ∷ []) y.scopes y.rest ≡ x)
  turn_where xs s ts x e = by_test (begins (kind_at ts)) refl e
    where
      by_test : (b : Bool) → begins (kind_at ts) ≡ b
          → (if b then Some (and_then (read s ts) (λ y. ends (xs ++ y.tree ∷ []) y.scopes y.rest)) else None)
          ≡ Some (done x) →
          (begins (kind_at ts) ≡ true) × (y : Found T) × (read s ts ≡ done y)
          × (found (xs ++ y.tree ∷ []) y.scopes y.rest ≡ x)
      by_test false is e = absurd cc
      by_test true is e =
          let e' : and_then (read s ts) (λ y. ends (xs ++ y.tree ∷ []) y.scopes y.rest) ≡ done x = cc in
          let b = bind_ok e' in
          (is, b.0, b.1, ok_is b.2)

  push_text : (form : Form T) (xs : List T) (x : T) (k : List Lexeme)
      → row_text form (xs ++ x ∷ []) k ≡ row_text form xs (form.text x k)
  push_text form [] x k = refl
  push_text form (y ∷ xs) x k = ap (form.text y) (push_text form xs x k)

  module _ (all : List Lexeme) (form : Form T) (room : ℕ) where
    pub repeated_sound_where : IsSoundWhere all begins form room read
        → IsSound all (row_form form) room (repeated begins read)
    unfolding repeated
    repeated_sound_where sound s ts x tail e =
        run-keep (repeated_turn begins read)
        (λ xs t k. Takes all (row_form form) room s ts (found xs t k)) step [] s ts x
        (record { spelled = refl; fits = tt; named = refl; low = omega arith; left = tail }) e
      where
        step : (xs : List T) (t : HeldScopes) (k : List Lexeme) (x : Found (List T))
            → Takes all (row_form form) room s ts (found xs t k) → repeated_turn begins read xs t k ≡ Some (done x) →
            Takes all (row_form form) room s ts x
        step xs t k x h e =
            let p = turn_where xs t k x e in
            let i = sound t k p.1 h.left p.0 p.2 in
            subst (Takes all (row_form form) room s ts) p.3 (record {
              spelled = h.spelled ∙ ap (row_text form xs) i.spelled ∙ sym (push_text form xs p.1.tree p.1.rest);
              fits = fit_push form xs p.1.tree h.fits i.fits;
              named = scopes_push form xs p.1.tree s t p.1.scopes h.named i.named;
              low = height_push form xs p.1.tree room h.low i.low;
              left = i.left;
            })

-- Two kinds of trees that say the same.
pub record Same {T : Type 0} (f g : Form T) : Type 0 where
  pub text : (x : T) (k : List Lexeme) → f.text x k ≡ g.text x k
  pub there : (x : T) → f.Fits x → g.Fits x
  pub back : (x : T) → g.Fits x → f.Fits x
  pub scopes : (x : T) (s : HeldScopes) → f.scopes x s ≡ g.scopes x s
  pub lower : (x : T) (room : ℕ) → f.height x ≤ room → g.height x ≤ room
  pub higher : (x : T) (room : ℕ) → g.height x ≤ room → f.height x ≤ room

-- a reader that is sound for one form of trees is so for one that says the same
pub sound_as : (all : List Lexeme) {T : Type 0} (f g : Form T) → Same f g → (room : ℕ) (read : Reader T)
    → IsSound all f room read → IsSound all g room read
sound_as all f g same room read sound s ts x tail e =
    let i = sound s ts x tail e in
    record {
      spelled = i.spelled ∙ same.text x.tree x.rest;
      fits = same.there x.tree i.fits;
      named = sym (same.scopes x.tree s) ∙ i.named;
      low = same.lower x.tree room i.low;
      left = i.left;
    }

-- a row of tokens that change no scope, before a token that begins none
pub row_complete : {T : Type 0} (begins : TokenKind → Bool) (read : Reader T) (item : Form T) (form : Form (List T))
    → Same (row_form item) form → (room : ℕ) → Shrinks read →
    ((x : T) (s : HeldScopes) (k : List Lexeme) → item.Fits x → item.height x ≤ room
    → read s (item.text x k) ≡ done (found x s k)) →
    ((x : T) (s : HeldScopes) → item.scopes x s ≡ Some s) →
    ((x : T) (k : List Lexeme) → item.Fits x → begins (kind_at (item.text x k)) ≡ true) →
    IsComplete form (λ xs kind. not (begins kind)) room (repeated begins read)
row_complete {T} begins read item form same room shrinks complete flat starts xs s s' k h n l ended =
    ap (λ (ts : List Lexeme). repeated begins read s ts) (sym (same.text xs k)) ∙
    repeated_complete begins read item (λ x kind. true) room shrinks
    (λ x s t k f n l e. complete x s k f l
    ∙ ap (λ (t : HeldScopes). done (found x t k)) (some_is s t (sym (flat x s) ∙ n)))
    (λ x s t k f n. starts x k f) (λ x kind e. refl) xs s s' k (same.back xs h) (same.scopes xs s ∙ n)
    (same.higher xs room l) (not-true (begins (kind_at k)) ended) (λ x. refl)
  where
    some_is : (s t : HeldScopes) → Some s ≡ Some t → s ≡ t
    some_is s t e = cc

static_kind : (kind : TokenKind) → is_static kind ≡ true → kind ≡ kinds.Keyword keywords.Static
static_kind (kinds.Keyword keywords.Static) e = refl
static_kind kind e = absurd cc

-- one token as what it may be

-- a reader that makes something of one token takes it
pub made_shrinks : {A : Type 0} (of : TokenKind → Option (ℕ → A)) → Shrinks (made_at of)
made_shrinks of s [] x e = absurd cc
made_shrinks {A} of s (t ∷ ts) x e = by_made (of t.kind) e
  where
    by_made : (o : Option (ℕ → A)) → made_by o t s ts ≡ done x → length x.rest < length (t ∷ ts)
    by_made None e = absurd cc
    by_made (Some make) e = let is = ap (λ (x : Found A). length x.rest) (ok_is e) in omega (arith, is)

-- what is taken, where the test of a kind says what its token spells and what it obeys
pub made_sound : (all : List Lexeme) {A : Type 0} (of : TokenKind → Option (ℕ → A)) (form : Form A) (room : ℕ) →
    ((x : A) (s : HeldScopes) → form.scopes x s ≡ Some s) → ((x : A) → form.height x ≤ room) →
    ((t : Lexeme) (ts : List Lexeme) (make : ℕ → A) → IsTail all (t ∷ ts) → of t.kind ≡ Some make
    → (t ∷ ts ≡ form.text (make t.at) ts) × form.Fits (make t.at)) →
    IsSound all form room (made_at of)
made_sound all of form room flat low spells s [] x tail e = absurd cc
made_sound all {A} of form room flat low spells s (t ∷ ts) x tail e = by_made (of t.kind) refl e
  where
    by_made : (o : Option (ℕ → A)) → of t.kind ≡ o → made_by o t s ts ≡ done x → Takes all form room s (t ∷ ts) x
    by_made None is e = absurd cc
    by_made (Some make) is e =
        let p = spells t ts make tail is in
        at_end (Takes all form room s (t ∷ ts)) e (record {
          spelled = p.0;
          fits = p.1;
          named = flat (make t.at) s;
          low = low (make t.at);
          left = tail_of all t ts tail;
        })

pub made_is : {A : Type 0} (of : TokenKind → Option (ℕ → A)) (make : ℕ → A) (kind : TokenKind) (token : ℕ)
    (s : HeldScopes) (k : List Lexeme)
    → of kind ≡ Some make →
    made_at of s (plain_text kind token k) ≡ done (found (make token) s k)
made_is of make kind token s k is = rw is refl

-- the rows

abbrev pub ext_item : Form ℕ
ext_item = record {
  text = λ token k. keyword_text keywords.Extension token k;
  Fits = λ token. Unit {0};
  scopes = λ token s. Some s;
  height = λ token. 2;
}

abbrev pub text_item : Form ℕ
text_item = record {
  text = λ token k. plain_text kinds.Text token k;
  Fits = λ token. Unit {0};
  scopes = λ token s. Some s;
  height = λ token. 0;
}

ext_text : (xs : List ℕ) (k : List Lexeme) → row_text ext_item xs k ≡ extensions_text xs k
ext_text [] k = refl
ext_text (x ∷ xs) k = ap (λ (ts : List Lexeme). keyword_text keywords.Extension x ts) (ext_text xs k)

text_text : (xs : List ℕ) (k : List Lexeme) → row_text text_item xs k ≡ texts_text xs k
text_text [] k = refl
text_text (x ∷ xs) k = ap (λ (ts : List Lexeme). plain_text kinds.Text x ts) (text_text xs k)

-- rows of items that obey nothing and change no scope
pub flat_scopes : {T : Type 0} (item : Form T) → ((x : T) (s : HeldScopes) → item.scopes x s ≡ Some s)
    → (xs : List T) (s : HeldScopes) → row_scopes item xs s ≡ Some s
flat_scopes item flat [] s = refl
flat_scopes item flat (x ∷ xs) s =
    ap (λ (r : Option HeldScopes). behind r (row_scopes item xs)) (flat x s) ∙ flat_scopes item flat xs s

pub low_row : {T : Type 0} (item : Form T) (room : ℕ) → ((x : T) → item.height x ≤ room) → (xs : List T)
    → row_height item xs ≤ room
low_row item room low [] = omega arith
low_row item room low (x ∷ xs) =
    let rest : row_height item xs ≤ room = low_row item room low xs in
    omega (arith, low x, rest)

pub fit_all : {T : Type 0} (item : Form T) (P : T → Type 0) → ((x : T) → item.Fits x → P x) → (xs : List T)
    → AllFit item xs → All P xs
fit_all item P to [] h = All-nil P
fit_all item P to (x ∷ xs) h = All-cons P x xs (to x h.0) (fit_all item P to xs h.1)

pub all_fit : {T : Type 0} (item : Form T) (P : T → Type 0) → ((x : T) → P x → item.Fits x) → (xs : List T) → All P xs
    → AllFit item xs
all_fit item P to [] h = tt
all_fit item P to (x ∷ xs) h = (to x (All-head P x xs h), all_fit item P to xs (All-tail P x xs h))

unit_fit : {T : Type 0} (item : Form T) → ((x : T) → item.Fits x) → (xs : List T) → AllFit item xs
unit_fit item to [] = tt
unit_fit item to (x ∷ xs) = (to x, unit_fit item to xs)

module _ (all : List Lexeme) where
  exts_low : (xs : List ℕ) (room : ℕ) → row_height ext_item xs ≤ room → (exts_form all).height xs ≤ room
  exts_low [] room h = omega arith
  exts_low (x ∷ xs) room h = omega (arith, h)

  exts_high : (xs : List ℕ) (room : ℕ) → (exts_form all).height xs ≤ room → row_height ext_item xs ≤ room
  exts_high [] room h = omega arith
  exts_high (x ∷ xs) room h =
      let rest : row_height ext_item xs ≤ 2 = low_row ext_item 2 (λ x. omega arith) xs in
      omega (arith, h, rest)

  exts_same : Same (row_form ext_item) (exts_form all)
  exts_same = record {
    text = ext_text;
    there = λ xs h. tt;
    back = λ xs h. unit_fit ext_item (λ x. tt) xs;
    scopes = λ xs s. flat_scopes ext_item (λ x s. refl) xs s;
    lower = exts_low;
    higher = exts_high;
  }

  texts_same : Same (row_form text_item) (texts_form all)
  texts_same = record {
    text = text_text;
    there = λ xs h. tt;
    back = λ xs h. unit_fit text_item (λ x. tt) xs;
    scopes = λ xs s. flat_scopes text_item (λ x s. refl) xs s;
    lower = λ xs room h. omega arith;
    higher = λ xs room h. low_row text_item room (λ x. omega arith) xs;
  }

  abbrev ext_read : ℕ → Reader ℕ
  ext_read room s ts = fits 2 room ts (take_one s ts)

  ext_shrinks : (room : ℕ) → Shrinks (ext_read room)
  ext_shrinks room s ts x e =
      let r = fits_ok 2 room ts e in
      omega (arith, take_falls s ts x r.1)

  pub exts_falls : (room : ℕ) → Falls (extensions_at room)
  unfolding extensions_at
  exts_falls room s ts x e = repeated_falls is_extension (ext_read room) (ext_shrinks room) s ts x e

  ext_sound : (room : ℕ) → IsSoundWhere all is_extension ext_item room (ext_read room)
  ext_sound room s ts x tail begins e =
      let r = fits_ok 2 room ts e in
      let t = took all (kinds.Keyword keywords.Extension) s ts x tail (extension_kind (kind_at ts) begins) r.1 in
      record { spelled = t.spelled; fits = tt; named = ap Some (sym t.same); low = r.0; left = t.left }

  pub exts_sound : (room : ℕ) → IsSound all (exts_form all) room (extensions_at room)
  unfolding extensions_at
  exts_sound room =
      sound_as all (row_form ext_item) (exts_form all) exts_same room (repeated is_extension (ext_read room))
      (repeated_sound_where is_extension (ext_read room) all ext_item room (ext_sound room))

  pub exts_complete : (room : ℕ)
      → IsComplete (exts_form all) (λ xs kind. not (is_extension kind)) room (extensions_at room)
  unfolding extensions_at
  exts_complete room =
      row_complete is_extension (ext_read room) ext_item (exts_form all) exts_same room (ext_shrinks room)
      (λ x s k f l. fits_is 2 room _ _ l) (λ x s. refl) (λ x k f. refl)

  take_shrinks : Shrinks take_one
  take_shrinks s ts x e = omega (arith, take_falls s ts x e)

  pub texts_falls : Falls texts_at
  unfolding texts_at
  texts_falls s ts x e = repeated_falls is_text take_one take_shrinks s ts x e

  text_sound : (room : ℕ) → IsSoundWhere all is_text text_item room take_one
  text_sound room s ts x tail begins e =
      let t = took all kinds.Text s ts x tail (text_kind (kind_at ts) begins) e in
      record { spelled = t.spelled; fits = tt; named = ap Some (sym t.same); low = omega arith; left = t.left }

  pub texts_sound : (room : ℕ) → IsSound all (texts_form all) room texts_at
  unfolding texts_at
  texts_sound room =
      sound_as all (row_form text_item) (texts_form all) texts_same room (repeated is_text take_one)
      (repeated_sound_where is_text take_one all text_item room (text_sound room))

  pub texts_complete : (room : ℕ) → IsComplete (texts_form all) (λ xs kind. not (is_text kind)) room texts_at
  unfolding texts_at
  texts_complete room =
      row_complete is_text take_one text_item (texts_form all) texts_same room take_shrinks (λ x s k f l. refl)
      (λ x s. refl) (λ x k f. refl)

  -- qualifiers

  abbrev pub qual_item : Form Qual
  qual_item = record { text = qual_text all; Fits = IsQual all; scopes = λ q s. Some s; height = λ q. 0 }

  -- among specifiers
  abbrev pub word_item : Form Qual
  word_item = record { text = qual_text all; Fits = IsWordQual all; scopes = λ q s. Some s; height = λ q. 0 }

  abbrev pub array_item : Form ArrayWord
  array_item = record { text = array_word_text; Fits = IsArrayWord all; scopes = λ w s. Some s; height = λ w. 0 }
    where
      array_word_text : ArrayWord → List Lexeme → List Lexeme
      array_word_text (array_words.Static token) k = keyword_text keywords.Static token k
      array_word_text (array_words.Qual q) k = qual_text all q k

  abbrev pub asm_item : Form Word
  asm_item =
      record { text = word_text; Fits = λ w. is_asm_word w.keyword ≡ true; scopes = λ w s. Some s; height = λ w. 0 }

  qual_row : (xs : List Qual) (k : List Lexeme) → row_text word_item xs k ≡ quals_text all xs k
  qual_row [] k = refl
  qual_row (x ∷ xs) k = ap (qual_text all x) (qual_row xs k)

  array_row : (xs : List ArrayWord) (k : List Lexeme) → row_text array_item xs k ≡ array_words_text all xs k
  array_row [] k = refl
  array_row (array_words.Static token ∷ xs) k =
      ap (λ (ts : List Lexeme). keyword_text keywords.Static token ts) (array_row xs k)
  array_row (array_words.Qual q ∷ xs) k = ap (qual_text all q) (array_row xs k)

  asm_row : (xs : List Word) (k : List Lexeme) → row_text asm_item xs k ≡ words_text xs k
  asm_row [] k = refl
  asm_row (x ∷ xs) k = ap (word_text x) (asm_row xs k)

  quals_same : Same (row_form word_item) (quals_form all)
  quals_same = record {
    text = qual_row;
    there = fit_all word_item (IsWordQual all) (λ x h. h);
    back = all_fit word_item (IsWordQual all) (λ x h. h);
    scopes = λ xs s. flat_scopes word_item (λ x s. refl) xs s;
    lower = λ xs room h. omega arith;
    higher = λ xs room h. low_row word_item room (λ x. omega arith) xs;
  }

  array_words_same : Same (row_form array_item) (array_words_form all)
  array_words_same = record {
    text = array_row;
    there = fit_all array_item (IsArrayWord all) (λ x h. h);
    back = all_fit array_item (IsArrayWord all) (λ x h. h);
    scopes = λ xs s. flat_scopes array_item (λ x s. refl) xs s;
    lower = λ xs room h. omega arith;
    higher = λ xs room h. low_row array_item room (λ x. omega arith) xs;
  }

  asm_words_same : Same (row_form asm_item) (asm_words_form all)
  asm_words_same = record {
    text = asm_row;
    there = fit_all asm_item (λ w. is_asm_word w.keyword ≡ true) (λ x h. h);
    back = all_fit asm_item (λ w. is_asm_word w.keyword ≡ true) (λ x h. h);
    scopes = λ xs s. flat_scopes asm_item (λ x s. refl) xs s;
    lower = λ xs room h. omega arith;
    higher = λ xs room h. low_row asm_item room (λ x. omega arith) xs;
  }

  abbrev Says : ℕ → List Lexeme → TokenKind → (ℕ → Qual) → Type 0
  Says n ts kind make = (record { kind = kind; at = n } ∷ ts ≡ qual_text all (make n) ts) × IsQual all (make n)

  make_is : {A : Type 0} {f g : ℕ → A} → Some f ≡ Some g → f ≡ g
  make_is e = cc

  module _ (numbered : IsNumbered all) where
    qual_by_kind : (kind : TokenKind) (n : ℕ) (ts : List Lexeme) (make : ℕ → Qual)
        → IsTail all (record { kind = kind; at = n } ∷ ts) → qual_of kind ≡ Some make → Says n ts kind make
    qual_by_kind (kinds.Keyword keywords.Const) n ts make tail e =
        subst (Says n ts (kinds.Keyword keywords.Const)) (make_is e) (refl, refl)
    qual_by_kind (kinds.Keyword keywords.Volatile) n ts make tail e =
        subst (Says n ts (kinds.Keyword keywords.Volatile)) (make_is e) (refl, refl)
    qual_by_kind (kinds.Keyword keywords.Restrict) n ts make tail e =
        subst (Says n ts (kinds.Keyword keywords.Restrict)) (make_is e) (refl, refl)
    qual_by_kind (kinds.Keyword keywords.Atomic) n ts make tail e =
        subst (Says n ts (kinds.Keyword keywords.Atomic)) (make_is e) (refl, refl)
    qual_by_kind (kinds.Keyword keywords.AtomicType) n ts make tail e =
        subst (Says n ts (kinds.Keyword keywords.AtomicType)) (make_is e) (refl, refl)
    qual_by_kind (kinds.Keyword keywords.Seg) n ts make tail e =
        subst (Says n ts (kinds.Keyword keywords.Seg)) (make_is e) (refl, refl)
    qual_by_kind (kinds.Qual lattice elem) n ts make tail e =
        let is = element_is all numbered (record { kind = kinds.Qual lattice elem; at = n }) ts tail in
        subst (Says n ts (kinds.Qual lattice elem)) (make_is e)
        (ap (λ (us : List Lexeme). us ++ ts) (sym is), subst IsElement (sym is) tt)
    qual_by_kind kinds.Index n ts make tail e = subst (Says n ts kinds.Index) (make_is e) (refl, tt)
    qual_by_kind kind n ts make tail e = absurd cc

    pub qual_spells : (t : Lexeme) (ts : List Lexeme) (make : ℕ → Qual) → IsTail all (t ∷ ts)
        → qual_of t.kind ≡ Some make →
        (t ∷ ts ≡ qual_text all (make t.at) ts) × IsQual all (make t.at)
    qual_spells t ts make tail e = qual_by_kind t.kind t.at ts make tail e

    pub qual_sound : (room : ℕ) → IsSound all qual_item room (made_at qual_of)
    qual_sound room = made_sound all qual_of qual_item room (λ q s. refl) (λ q. omega arith) qual_spells

    -- a qualifier among specifiers is one, and `_Atomic` before a parenthesis is none
    word_qual_is : (kind : TokenKind) (make : ℕ → Qual) → word_qual_of kind ≡ Some make → qual_of kind ≡ Some make
    word_qual_is (kinds.Keyword keywords.AtomicType) make e = absurd cc
    word_qual_is kind make e = e

    word_plain : (kind : TokenKind) (n : ℕ) (make : ℕ → Qual) → word_qual_of kind ≡ Some make
        → is_word_qual (make n) ≡ true
    word_plain (kinds.Keyword keywords.Const) n make e =
        subst (λ (make : ℕ → Qual). is_word_qual (make n) ≡ true) (make_is e) refl
    word_plain (kinds.Keyword keywords.Volatile) n make e =
        subst (λ (make : ℕ → Qual). is_word_qual (make n) ≡ true) (make_is e) refl
    word_plain (kinds.Keyword keywords.Restrict) n make e =
        subst (λ (make : ℕ → Qual). is_word_qual (make n) ≡ true) (make_is e) refl
    word_plain (kinds.Keyword keywords.Atomic) n make e =
        subst (λ (make : ℕ → Qual). is_word_qual (make n) ≡ true) (make_is e) refl
    word_plain (kinds.Keyword keywords.Seg) n make e =
        subst (λ (make : ℕ → Qual). is_word_qual (make n) ≡ true) (make_is e) refl
    word_plain (kinds.Qual lattice elem) n make e =
        subst (λ (make : ℕ → Qual). is_word_qual (make n) ≡ true) (make_is e) refl
    word_plain kinds.Index n make e = subst (λ (make : ℕ → Qual). is_word_qual (make n) ≡ true) (make_is e) refl
    word_plain kind n make e = absurd cc

    word_spells : (t : Lexeme) (ts : List Lexeme) (make : ℕ → Qual) → IsTail all (t ∷ ts)
        → word_qual_of t.kind ≡ Some make →
        (t ∷ ts ≡ qual_text all (make t.at) ts) × IsWordQual all (make t.at)
    word_spells t ts make tail e =
        let p = qual_spells t ts make tail (word_qual_is t.kind make e) in
        (p.0, (p.1, word_plain t.kind t.at make e))

    word_sound : (room : ℕ) → IsSound all word_item room (made_at word_qual_of)
    word_sound room = made_sound all word_qual_of word_item room (λ q s. refl) (λ q. omega arith) word_spells

    pub quals_falls : Falls quals_at
    unfolding quals_at
    quals_falls s ts x e =
        repeated_falls (λ kind. is_made (word_qual_of kind)) (made_at word_qual_of) (made_shrinks word_qual_of) s ts x e

    pub quals_sound : (room : ℕ) → IsSound all (quals_form all) room quals_at
    unfolding quals_at
    quals_sound room =
        sound_as all (row_form word_item) (quals_form all) quals_same room
        (repeated (λ kind. is_made (word_qual_of kind)) (made_at word_qual_of))
        (repeated_sound (λ kind. is_made (word_qual_of kind)) (made_at word_qual_of) all word_item room
        (word_sound room))

    -- the first token of a qualifier, as what it is
    pub record QualToken (q : Qual) (k : List Lexeme) : Type 0 where
      pub kind : TokenKind
      pub token : ℕ
      pub make : ℕ → Qual
      pub is : qual_of kind ≡ Some make
      pub text : qual_text all q k ≡ plain_text kind token k
      pub made : make token ≡ q

    word_token : (keyword : Keyword) (token : ℕ) (k : List Lexeme) → is_qual keyword ≡ true
        → QualToken (quals.Word (word_of keyword token)) k
    word_token keywords.Const token k h = record {
      kind = kinds.Keyword keywords.Const;
      token = token;
      make = λ n. quals.Word (word_of keywords.Const n);
      is = refl;
      text = refl;
      made = refl;
    }
    word_token keywords.Volatile token k h = record {
      kind = kinds.Keyword keywords.Volatile;
      token = token;
      make = λ n. quals.Word (word_of keywords.Volatile n);
      is = refl;
      text = refl;
      made = refl;
    }
    word_token keywords.Restrict token k h = record {
      kind = kinds.Keyword keywords.Restrict;
      token = token;
      make = λ n. quals.Word (word_of keywords.Restrict n);
      is = refl;
      text = refl;
      made = refl;
    }
    word_token keywords.Atomic token k h = record {
      kind = kinds.Keyword keywords.Atomic;
      token = token;
      make = λ n. quals.Word (word_of keywords.Atomic n);
      is = refl;
      text = refl;
      made = refl;
    }
    word_token keywords.AtomicType token k h =
        record {
          kind = kinds.Keyword keywords.AtomicType;
          token = token;
          make = λ n. quals.Word (word_of keywords.AtomicType n);
          is = refl;
          text = refl;
          made = refl;
        }
    word_token keywords.Seg token k h = record {
      kind = kinds.Keyword keywords.Seg;
      token = token;
      make = λ n. quals.Word (word_of keywords.Seg n);
      is = refl;
      text = refl;
      made = refl;
    }
    word_token keyword token k h = absurd cc

    element_token : (kind : TokenKind) (n token : ℕ) (k : List Lexeme) → IsElementKind kind
        → tokens_between all token token ≡ record { kind = kind; at = n } ∷ [] → n ≡ token
        → QualToken (quals.Element token) k
    element_token (kinds.Qual lattice elem) n token k h is same =
        record {
          kind = kinds.Qual lattice elem;
          token = n;
          make = quals.Element;
          is = refl;
          text = ap (λ (us : List Lexeme). us ++ k) is;
          made = ap quals.Element same;
        }
    element_token kind n token k h is same = absurd h

    pub qual_token : (q : Qual) (k : List Lexeme) → IsQual all q → QualToken q k
    qual_token (quals.Word w) k h = word_token w.keyword w.token k h
    qual_token (quals.Element token) k h =
        let p = element_spelled all numbered token h in
        element_token p.0.kind p.0.at token k p.3 p.1 p.2
    qual_token (quals.Index token) k h =
        record { kind = kinds.Index; token = token; make = quals.Index; is = refl; text = refl; made = refl }

    pub qual_read : (q : Qual) (s : HeldScopes) (k : List Lexeme) → IsQual all q
        → made_at qual_of s (qual_text all q k) ≡ done (found q s k)
    qual_read q s k h =
        let t = qual_token q k h in
        ap (λ (ts : List Lexeme). made_at qual_of s ts) t.text ∙ made_is qual_of t.make t.kind t.token s k t.is
        ∙ ap (λ (q : Qual). done (found q s k)) t.made

    some_made : {A : Type 0} (of : TokenKind → Option (ℕ → A)) (kind : TokenKind) (make : ℕ → A) → of kind ≡ Some make
        → is_made (of kind) ≡ true
    some_made of kind make e = rw e refl

    pub qual_starts : (q : Qual) (k : List Lexeme) → IsQual all q
        → is_made (qual_of (kind_at (qual_text all q k))) ≡ true
    qual_starts q k h =
        let t = qual_token q k h in
        ap (λ (ts : List Lexeme). is_made (qual_of (kind_at ts))) t.text ∙ some_made qual_of t.kind t.make t.is

    -- the token of a qualifier among specifiers is such a one
    word_from : (kind : TokenKind) (make : ℕ → Qual) (token : ℕ) (q : Qual) → qual_of kind ≡ Some make → make token ≡ q
        → is_word_qual q ≡ true → word_qual_of kind ≡ Some make
    word_from (kinds.Keyword keywords.AtomicType) make token q e made word =
        let no : is_word_qual (make token) ≡ false = ap (λ (f : ℕ → Qual). is_word_qual (f token)) (sym (make_is e)) in
        let yes : is_word_qual (make token) ≡ true = ap is_word_qual made ∙ word in
        absurd cc
    word_from kind make token q e made word = e

    word_read : (q : Qual) (s : HeldScopes) (k : List Lexeme) → IsWordQual all q
        → made_at word_qual_of s (qual_text all q k) ≡ done (found q s k)
    word_read q s k h =
        let t = qual_token q k h.0 in
        ap (λ (ts : List Lexeme). made_at word_qual_of s ts) t.text
        ∙ made_is word_qual_of t.make t.kind t.token s k (word_from t.kind t.make t.token q t.is t.made h.1) ∙
        ap (λ (q : Qual). done (found q s k)) t.made

    word_starts : (q : Qual) (k : List Lexeme) → IsWordQual all q
        → is_made (word_qual_of (kind_at (qual_text all q k))) ≡ true
    word_starts q k h =
        let t = qual_token q k h.0 in
        ap (λ (ts : List Lexeme). is_made (word_qual_of (kind_at ts))) t.text
        ∙ some_made word_qual_of t.kind t.make (word_from t.kind t.make t.token q t.is t.made h.1)

    pub quals_complete : (room : ℕ)
        → IsComplete (quals_form all) (λ xs kind. not (is_made (word_qual_of kind))) room quals_at
    unfolding quals_at
    quals_complete room =
        row_complete (λ kind. is_made (word_qual_of kind)) (made_at word_qual_of) word_item
        (quals_form all) quals_same room (made_shrinks word_qual_of)
        (λ x s k f l. word_read x s k f) (λ x s. refl) word_starts

    -- words in brackets

    array_by_kind : (o : Option (ℕ → Qual)) (t : Lexeme) (ts : List Lexeme) (make : ℕ → ArrayWord) → IsTail all (t ∷ ts)
        → qual_of t.kind ≡ o → array_word_by o t.kind ≡ Some make →
        (t ∷ ts ≡ array_item.text (make t.at) ts) × IsArrayWord all (make t.at)
    array_by_kind (Some of) t ts make tail is e =
        let p = qual_spells t ts of tail is in
        subst (λ (make : ℕ → ArrayWord). (t ∷ ts ≡ array_item.text (make t.at) ts)
        × IsArrayWord all (make t.at)) (make_is e) p
    array_by_kind None t ts make tail is e = static_word (is_static t.kind) refl e
      where
        static_word : (b : Bool) → is_static t.kind ≡ b → (if b then Some array_words.Static else None) ≡ Some make
            → (t ∷ ts ≡ array_item.text (make t.at) ts) × IsArrayWord all (make t.at)
        static_word true is e =
            subst (λ (make : ℕ → ArrayWord). (t ∷ ts ≡ array_item.text (make t.at) ts)
            × IsArrayWord all (make t.at)) (make_is e)
            (ap (λ (kind : TokenKind). plain_text kind t.at ts) (static_kind t.kind is), tt)
        static_word false is e = absurd cc

    array_sound : (room : ℕ) → IsSound all array_item room (made_at array_word_of)
    array_sound room =
        made_sound all array_word_of array_item room (λ w s. refl) (λ w. omega arith)
        (λ t ts make tail e. array_by_kind (qual_of t.kind) t ts make tail refl e)

    pub array_words_falls : Falls array_words_at
    unfolding array_words_at
    array_words_falls s ts x e =
        repeated_falls (λ kind. is_made (array_word_of kind)) (made_at array_word_of)
        (made_shrinks array_word_of) s ts x e

    pub array_words_sound : (room : ℕ) → IsSound all (array_words_form all) room array_words_at
    unfolding array_words_at
    array_words_sound room =
        sound_as all (row_form array_item) (array_words_form all) array_words_same room
        (repeated (λ kind. is_made (array_word_of kind)) (made_at array_word_of))
        (repeated_sound (λ kind. is_made (array_word_of kind)) (made_at array_word_of) all array_item room
        (array_sound room))

    array_of_qual : (kind : TokenKind) (make : ℕ → Qual) → qual_of kind ≡ Some make
        → array_word_of kind ≡ Some (λ token. array_words.Qual (make token))
    array_of_qual kind make e = ap (λ (o : Option (ℕ → Qual)). array_word_by o kind) e

    array_read : (w : ArrayWord) (s : HeldScopes) (k : List Lexeme) → IsArrayWord all w
        → made_at array_word_of s (array_item.text w k) ≡ done (found w s k)
    array_read (array_words.Static token) s k h = refl
    array_read (array_words.Qual q) s k h =
        let t = qual_token q k h in
        ap (λ (ts : List Lexeme). made_at array_word_of s ts) t.text ∙
        made_is array_word_of (λ token. array_words.Qual (t.make token)) t.kind t.token s k
        (array_of_qual t.kind t.make t.is) ∙ ap (λ (q : Qual). done (found (array_words.Qual q) s k)) t.made

    array_starts : (w : ArrayWord) (k : List Lexeme) → IsArrayWord all w
        → is_made (array_word_of (kind_at (array_item.text w k))) ≡ true
    array_starts (array_words.Static token) k h = refl
    array_starts (array_words.Qual q) k h =
        let t = qual_token q k h in
        ap (λ (ts : List Lexeme). is_made (array_word_of (kind_at ts))) t.text
        ∙ some_made array_word_of t.kind (λ token. array_words.Qual (t.make token)) (array_of_qual t.kind t.make t.is)

    pub array_words_complete : (room : ℕ)
        → IsComplete (array_words_form all) (λ xs kind. not (is_made (array_word_of kind))) room array_words_at
    unfolding array_words_at
    array_words_complete room =
        row_complete (λ kind. is_made (array_word_of kind)) (made_at array_word_of) array_item
        (array_words_form all) array_words_same room (made_shrinks array_word_of)
        (λ x s k f l. array_read x s k f) (λ x s. refl) array_starts

    -- words of assembler

    abbrev Spells : ℕ → List Lexeme → TokenKind → (ℕ → Word) → Type 0
    Spells n ts kind make =
        (record { kind = kind; at = n } ∷ ts ≡ word_text (make n) ts) × (is_asm_word (make n).keyword ≡ true)

    asm_by_kind : (kind : TokenKind) (n : ℕ) (ts : List Lexeme) (make : ℕ → Word) → asm_word_of kind ≡ Some make
        → Spells n ts kind make
    asm_by_kind (kinds.Keyword keywords.Volatile) n ts make e =
        subst (Spells n ts (kinds.Keyword keywords.Volatile)) (make_is e) (refl, refl)
    asm_by_kind (kinds.Keyword keywords.Goto) n ts make e =
        subst (Spells n ts (kinds.Keyword keywords.Goto)) (make_is e) (refl, refl)
    asm_by_kind (kinds.Keyword keywords.Inline) n ts make e =
        subst (Spells n ts (kinds.Keyword keywords.Inline)) (make_is e) (refl, refl)
    asm_by_kind kind n ts make e = absurd cc

    asm_sound : (room : ℕ) → IsSound all asm_item room (made_at asm_word_of)
    asm_sound room =
        made_sound all asm_word_of asm_item room (λ w s. refl) (λ w. omega arith)
        (λ t ts make tail e. asm_by_kind t.kind t.at ts make e)

    pub asm_words_falls : Falls asm_words_at
    unfolding asm_words_at
    asm_words_falls s ts x e =
        repeated_falls (λ kind. is_made (asm_word_of kind)) (made_at asm_word_of) (made_shrinks asm_word_of) s ts x e

    pub asm_words_sound : (room : ℕ) → IsSound all (asm_words_form all) room asm_words_at
    unfolding asm_words_at
    asm_words_sound room =
        sound_as all (row_form asm_item) (asm_words_form all) asm_words_same room
        (repeated (λ kind. is_made (asm_word_of kind)) (made_at asm_word_of))
        (repeated_sound (λ kind. is_made (asm_word_of kind)) (made_at asm_word_of) all asm_item room (asm_sound room))

    asm_read : (keyword : Keyword) (token : ℕ) (s : HeldScopes) (k : List Lexeme) → is_asm_word keyword ≡ true →
        made_at asm_word_of s (keyword_text keyword token k) ≡ done (found (word_of keyword token) s k)
    asm_read keywords.Volatile token s k h = refl
    asm_read keywords.Goto token s k h = refl
    asm_read keywords.Inline token s k h = refl
    asm_read keyword token s k h = absurd cc

    asm_starts : (keyword : Keyword) → is_asm_word keyword ≡ true → is_made (asm_word_of (kinds.Keyword keyword)) ≡ true
    asm_starts keywords.Volatile h = refl
    asm_starts keywords.Goto h = refl
    asm_starts keywords.Inline h = refl
    asm_starts keyword h = absurd cc

    pub asm_words_complete : (room : ℕ)
        → IsComplete (asm_words_form all) (λ xs kind. not (is_made (asm_word_of kind))) room asm_words_at
    unfolding asm_words_at
    asm_words_complete room =
        row_complete (λ kind. is_made (asm_word_of kind)) (made_at asm_word_of) asm_item
        (asm_words_form all) asm_words_same room (made_shrinks asm_word_of)
        (λ x s k f l. asm_read x.keyword x.token s k f) (λ x s. refl) (λ x k f. asm_starts x.keyword f)
