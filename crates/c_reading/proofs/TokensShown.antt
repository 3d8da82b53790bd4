-- Attributes, words behind a star, assertions; what is shown of all rows of tokens.
use Rattle.std.proofs.Common.{◌≡◌, ◌<◌, ℕ, ◌≤◌, Bool, true, false, if◌then◌else◌, List, [], ◌∷◌, length, Some, refl, sym, ◌∙◌, ap, arith}
use Rattle.std.specs.Prelude.{not}
use Rattle.std.proofs.lemmas.List.Elements.{All-nil, All-cons}
use Rattle.std.proofs.lemmas.Option.{same_Some}
use Rattle.c_words.specs.declared.kinds.TokenKind.{TokenKind}
use Rattle.c_words.specs.declared.kinds.TokenKind.TheVariants as kinds
use Rattle.c_words.specs.declared.kinds.Keyword.TheVariants as keywords
use Rattle.c_words.specs.declared.kinds.Punct.TheVariants as puncts
use Rattle.c_tree.specs.declared.lexeme.Lexeme.{Lexeme}
use Rattle.c_syntax.specs.declared.parts.Attr.{Attr}
use Rattle.c_syntax.specs.declared.parts.Assert.{Assert}
use Rattle.c_syntax.specs.declared.parts.PointerWord.{PointerWord}
use Rattle.c_syntax.specs.declared.parts.PointerWord.TheVariants as pointer_words
use Rattle.c_tree.specs.Text.{keyword_text, sign_text, group_text, attr_text, attrs_text, qual_text, pointer_words_text}
use Rattle.c_tree.specs.Groups.{IsGroup}
use Rattle.c_tree.specs.WellFormed.{IsPointerWord}
use Rattle.c_units.specs.HeldScopes.{HeldScopes}
use Rattle.c_reading.specs.Reading.{IsNumbered, IsTail, Found, Reader, fits, kind_at, repeated}
use Rattle.c_reading.specs.Tokens.{is_attribute, is_static_assert, is_semicolon, is_made, qual_of, begins_pointer_word, align_at, attr_at, attrs_at, pointer_word_at, pointer_words_at, assert_at}
use Rattle.c_reading.proofs.Binding.{found, done, ok_is, bind_ok, bind_is, fits_ok, fits_is, take_falls, token_falls, if_ok}
use Rattle.c_reading.proofs.Forms.{Form, Falls, Shrinks, Takes, IsSound, IsComplete, always, at_end, took, took_token}
use Rattle.c_reading.proofs.Rows.{row_form, row_text, row_height, repeated_falls, repeated_sound}
use Rattle.c_reading.proofs.KindFacts.{attribute_kind, static_assert_kind, semicolon_kind}
use Rattle.c_reading.proofs.Aims.{align_form, attrs_form, pointer_words_form, assert_form, TokenLaws}
use Rattle.c_reading.proofs.TokenRows
use Rattle.c_reading.proofs.TokenRows.{Same, sound_as, row_complete, made_shrinks, qual_sound, qual_read, qual_starts, flat_scopes, low_row, fit_all, all_fit}
use Rattle.c_reading.proofs.Groups.{group_shrinks, took_group, group_sound, group_read, group_complete}

attr_shrinks : Shrinks attr_at
unfolding attr_at
attr_shrinks s ts x e =
    let a = bind_ok e in
    let b = bind_ok a.2 in
    let end = ap (λ (x : Found Attr). length x.rest) (ok_is b.2) in
    omega (arith, token_falls is_attribute _ _ _ a.1, group_shrinks _ _ _ b.1, end)

pub assert_shrinks : Shrinks assert_at
unfolding assert_at
assert_shrinks s ts x e =
    let a = bind_ok e in
    let b = bind_ok a.2 in
    let c = bind_ok b.2 in
    let end = ap (λ (x : Found Assert). length x.rest) (ok_is c.2) in
    omega
    (arith, token_falls is_static_assert _ _ _ a.1, group_shrinks _ _ _ b.1, token_falls is_semicolon _ _ _ c.1, end)

module _ (all : List Lexeme) where
  abbrev attr_item : Form Attr
  attr_item = record { text = attr_text all; Fits = λ a. IsGroup all a.group; scopes = λ a s. Some s; height = λ a. 2 }

  abbrev pointer_height : PointerWord → ℕ
  pointer_height (pointer_words.Qual q) = 0
  pointer_height (pointer_words.Attr a) = 2

  abbrev pointer_text : PointerWord → List Lexeme → List Lexeme
  pointer_text (pointer_words.Qual q) k = qual_text all q k
  pointer_text (pointer_words.Attr a) k = attr_text all a k

  abbrev pointer_item : Form PointerWord
  pointer_item =
      record { text = pointer_text; Fits = IsPointerWord all; scopes = λ w s. Some s; height = pointer_height }

  attrs_row : (xs : List Attr) (k : List Lexeme) → row_text attr_item xs k ≡ attrs_text all xs k
  attrs_row [] k = refl
  attrs_row (x ∷ xs) k = ap (attr_text all x) (attrs_row xs k)

  pointer_row : (xs : List PointerWord) (k : List Lexeme) → row_text pointer_item xs k ≡ pointer_words_text all xs k
  pointer_row [] k = refl
  pointer_row (pointer_words.Qual q ∷ xs) k = ap (qual_text all q) (pointer_row xs k)
  pointer_row (pointer_words.Attr a ∷ xs) k = ap (attr_text all a) (pointer_row xs k)

  attrs_low : (xs : List Attr) (room : ℕ) → row_height attr_item xs ≤ room → (attrs_form all).height xs ≤ room
  attrs_low [] room h = omega arith
  attrs_low (x ∷ xs) room h = omega (arith, h)

  attrs_high : (xs : List Attr) (room : ℕ) → (attrs_form all).height xs ≤ room → row_height attr_item xs ≤ room
  attrs_high [] room h = omega arith
  attrs_high (x ∷ xs) room h =
      let rest : row_height attr_item xs ≤ 2 = low_row attr_item 2 (λ x. omega arith) xs in
      omega (arith, h, rest)

  attrs_same : Same (row_form attr_item) (attrs_form all)
  attrs_same = record {
    text = attrs_row;
    there = fit_all attr_item (λ a. IsGroup all a.group) (λ x h. h);
    back = all_fit attr_item (λ a. IsGroup all a.group) (λ x h. h);
    scopes = λ xs s. flat_scopes attr_item (λ x s. refl) xs s;
    lower = attrs_low;
    higher = attrs_high;
  }

  low_pointer : (w : PointerWord) → pointer_height w ≤ 2
  low_pointer (pointer_words.Qual q) = omega arith
  low_pointer (pointer_words.Attr a) = omega arith

  pointer_low : (xs : List PointerWord) (room : ℕ) → row_height pointer_item xs ≤ room
      → (pointer_words_form all).height xs ≤ room
  pointer_low [] room h = omega arith
  pointer_low (pointer_words.Qual q ∷ xs) room h = pointer_low xs room (omega (arith, h))
  pointer_low (pointer_words.Attr a ∷ xs) room h = omega (arith, h)

  pointer_high : (xs : List PointerWord) (room : ℕ) → (pointer_words_form all).height xs ≤ room
      → row_height pointer_item xs ≤ room
  pointer_high [] room h = omega arith
  pointer_high (pointer_words.Qual q ∷ xs) room h =
      let rest : row_height pointer_item xs ≤ room = pointer_high xs room h in
      omega (arith, rest)
  pointer_high (pointer_words.Attr a ∷ xs) room h =
      let rest : row_height pointer_item xs ≤ 2 = low_row pointer_item 2 low_pointer xs in
      omega (arith, h, rest)

  pointer_same : Same (row_form pointer_item) (pointer_words_form all)
  pointer_same = record {
    text = pointer_row;
    there = fit_all pointer_item (IsPointerWord all) (λ x h. h);
    back = all_fit pointer_item (IsPointerWord all) (λ x h. h);
    scopes = λ xs s. flat_scopes pointer_item (λ x s. refl) xs s;
    lower = pointer_low;
    higher = pointer_high;
  }

  pub attr_read : (a : Attr) (s : HeldScopes) (k : List Lexeme) → IsGroup all a.group
      → attr_at s (attr_text all a k) ≡ done (found a s k)
  unfolding attr_at
  attr_read a s k h = bind_is _ refl (bind_is _ (group_read all a.group s k h) refl)

  pub align_shrinks : Shrinks align_at
  unfolding align_at
  align_shrinks s ts x e =
      let a = bind_ok e in
      let b = bind_ok a.2 in
      let end = ap (λ (x : Found Attr). length x.rest) (ok_is b.2) in
      let one = take_falls s ts a.0 a.1 in
      let less : length b.0.rest < length a.0.rest = group_shrinks a.0.scopes a.0.rest b.0 b.1 in
      omega (arith, end, one, less)

  pub align_complete : (room : ℕ) → IsComplete (align_form all) always room align_at
  unfolding align_at
  align_complete room a s s' k h n l ended =
      bind_is _ refl
      (bind_is _ (group_read all a.group s k h) (ap (λ (t : HeldScopes). done (found a t k)) (same_Some s s' n)))

  abbrev attr_reader : ℕ → Reader Attr
  attr_reader room s ts = fits 2 room ts (attr_at s ts)

  attr_reader_shrinks : (room : ℕ) → Shrinks (attr_reader room)
  attr_reader_shrinks room s ts x e = attr_shrinks s ts x (fits_ok 2 room ts e).1

  pub attrs_falls : (room : ℕ) → Falls (attrs_at room)
  unfolding attrs_at
  attrs_falls room s ts x e = repeated_falls is_attribute (attr_reader room) (attr_reader_shrinks room) s ts x e

  pub attrs_complete : (room : ℕ)
      → IsComplete (attrs_form all) (λ xs kind. not (is_attribute kind)) room (attrs_at room)
  unfolding attrs_at
  attrs_complete room =
      row_complete is_attribute (attr_reader room) attr_item (attrs_form all) attrs_same room (attr_reader_shrinks room)
      (λ x s k f l. fits_is 2 room _ _ l ∙ attr_read x s k f) (λ x s. refl) (λ x k f. refl)

  pub pointer_word_shrinks : (room : ℕ) → Shrinks (pointer_word_at room)
  unfolding pointer_word_at
  pointer_word_shrinks room s ts x e =
      if_ok (is_attribute (kind_at ts)) e
      (λ is e. let r = fits_ok 2 room ts e in
      let b = bind_ok r.1 in
      let end = ap (λ (x : Found PointerWord). length x.rest) (ok_is b.2) in
      omega (arith, attr_shrinks _ _ _ b.1, end))
      (λ is e. let b = bind_ok e in
      let end = ap (λ (x : Found PointerWord). length x.rest) (ok_is b.2) in
      omega (arith, made_shrinks qual_of _ _ _ b.1, end))

  pub pointer_words_falls : (room : ℕ) → Falls (pointer_words_at room)
  unfolding pointer_words_at
  pointer_words_falls room s ts x e =
      repeated_falls begins_pointer_word (pointer_word_at room) (pointer_word_shrinks room) s ts x e

  pub assert_complete : (room : ℕ) → IsComplete (assert_form all) always room assert_at
  unfolding assert_at
  assert_complete room it s s' k h n l ended =
      bind_is _ refl (bind_is _ (group_read all it.group s (sign_text puncts.Semicolon it.semi k) h)
      (bind_is _ refl (ap (λ (t : HeldScopes). done (found it t k)) (same_Some s s' n))))

  pointer_read : (room : ℕ) (numbered : IsNumbered all) (w : PointerWord) (s : HeldScopes) (k : List Lexeme)
      → IsPointerWord all w → pointer_height w ≤ room →
      pointer_word_at room s (pointer_text w k) ≡ done (found w s k)
  unfolding pointer_word_at
  pointer_read room numbered (pointer_words.Qual q) s k h l =
      let no : is_attribute (kind_at (qual_text all q k)) ≡ false =
      qual_no_attribute (kind_at (qual_text all q k)) (qual_starts all numbered q k h) in
      rw no (bind_is _ (qual_read all numbered q s k h) refl)
    where
      qual_no_attribute : (kind : TokenKind) → is_made (qual_of kind) ≡ true → is_attribute kind ≡ false
      qual_no_attribute (kinds.Keyword keywords.Attribute) e = absurd cc
      qual_no_attribute kind e = refl
  pointer_read room numbered (pointer_words.Attr a) s k h l = fits_is 2 room _ _ l ∙ bind_is _ (attr_read a s k h) refl

  pointer_starts : (numbered : IsNumbered all) (w : PointerWord) (k : List Lexeme) → IsPointerWord all w
      → begins_pointer_word (kind_at (pointer_text w k)) ≡ true
  pointer_starts numbered (pointer_words.Qual q) k h =
      either_way (is_attribute (kind_at (qual_text all q k))) (qual_starts all numbered q k h)
    where
      either_way : (b : Bool) {c : Bool} → c ≡ true → (if b then true else c) ≡ true
      either_way true e = refl
      either_way false e = e
  pointer_starts numbered (pointer_words.Attr a) k h = refl

  pub pointer_words_complete : (numbered : IsNumbered all) (room : ℕ)
      → IsComplete (pointer_words_form all) (λ xs kind. not (begins_pointer_word kind)) room (pointer_words_at room)
  unfolding pointer_words_at
  pointer_words_complete numbered room =
      row_complete begins_pointer_word (pointer_word_at room) pointer_item (pointer_words_form all) pointer_same room
      (pointer_word_shrinks room)
      (λ x s k f l. pointer_read room numbered x s k f l) (λ x s. refl) (λ x k f. pointer_starts numbered x k f)

  module _ (numbered : IsNumbered all) where
    -- an attribute that was read
    pub record TookAttr (s : HeldScopes) (ts : List Lexeme) (a : Attr) (t : HeldScopes) (k : List Lexeme) : Type 0 where
      pub spelled : ts ≡ attr_text all a k
      pub fits : IsGroup all a.group
      pub same : t ≡ s
      pub left : IsTail all k

    pub took_attr : (s : HeldScopes) (ts : List Lexeme) (x : Found Attr) → IsTail all ts → attr_at s ts ≡ done x
        → TookAttr s ts x.tree x.scopes x.rest
    unfolding attr_at
    took_attr s ts x tail e =
        let a = bind_ok e in
        let b = bind_ok a.2 in
        let w = took_token all is_attribute (kinds.Keyword keywords.Attribute) attribute_kind s ts a.0 tail a.1 in
        let g = took_group all numbered a.0.scopes a.0.rest b.0 w.left b.1 in
        at_end (λ (x : Found Attr). TookAttr s ts x.tree x.scopes x.rest) b.2 (record {
          spelled = w.spelled ∙ ap (λ (us : List Lexeme). keyword_text keywords.Attribute a.0.tree us) g.spelled;
          fits = g.fits;
          same = g.same ∙ w.same;
          left = g.left;
        })

    -- `_Alignas`, whose keyword is known
    pub align_sound : (room : ℕ) (s : HeldScopes) (ts : List Lexeme) (x : Found Attr) → IsTail all ts
        → kind_at ts ≡ kinds.Keyword keywords.Alignas → align_at s ts ≡ done x →
        Takes all (align_form all) room s ts x
    unfolding align_at
    align_sound room s ts x tail is e =
        let a = bind_ok e in
        let b = bind_ok a.2 in
        let w = took all (kinds.Keyword keywords.Alignas) s ts a.0 tail is a.1 in
        let g = took_group all numbered a.0.scopes a.0.rest b.0 w.left b.1 in
        at_end (Takes all (align_form all) room s ts) b.2 (record {
          spelled = w.spelled ∙ ap (λ (us : List Lexeme). keyword_text keywords.Alignas a.0.tree us) g.spelled;
          fits = g.fits;
          named = ap Some (sym (g.same ∙ w.same));
          low = omega arith;
          left = g.left;
        })

    attr_sound_item : (room : ℕ) → IsSound all attr_item room (attr_reader room)
    attr_sound_item room s ts x tail e =
        let r = fits_ok 2 room ts e in
        let a = took_attr s ts x tail r.1 in
        record { spelled = a.spelled; fits = a.fits; named = ap Some (sym a.same); low = r.0; left = a.left }

    pub attr_sound : (room : ℕ) (s : HeldScopes) (ts : List Lexeme) (x : Found Attr) → IsTail all ts
        → attr_at s ts ≡ done x → Takes all (attrs_form all) 2 s ts (found (x.tree ∷ []) x.scopes x.rest)
    attr_sound room s ts x tail e =
        let a = took_attr s ts x tail e in
        record {
          spelled = a.spelled;
          fits = All-cons (λ (a : Attr). IsGroup all a.group) x.tree [] a.fits
              (All-nil (λ (a : Attr). IsGroup all a.group));
          named = ap Some (sym a.same);
          low = omega arith;
          left = a.left;
        }

    pub attrs_sound : (room : ℕ) → IsSound all (attrs_form all) room (attrs_at room)
    unfolding attrs_at
    attrs_sound room =
        sound_as all (row_form attr_item) (attrs_form all) attrs_same room (repeated is_attribute (attr_reader room))
        (repeated_sound is_attribute (attr_reader room) all attr_item room (attr_sound_item room))

    pointer_sound_item : (room : ℕ) → IsSound all pointer_item room (pointer_word_at room)
    unfolding pointer_word_at
    pointer_sound_item room s ts x tail e =
        if_ok (is_attribute (kind_at ts)) e
        (λ is e. let r = fits_ok 2 room ts e in
        let b = bind_ok r.1 in
        let a = took_attr s ts b.0 tail b.1 in
        at_end (Takes all pointer_item room s ts) b.2
        (record { spelled = a.spelled; fits = a.fits; named = ap Some (sym a.same); low = r.0; left = a.left }))
        (λ is e. let b = bind_ok e in
        let q = qual_sound all numbered room s ts b.0 tail b.1 in
        at_end (Takes all pointer_item room s ts) b.2
        (record { spelled = q.spelled; fits = q.fits; named = q.named; low = omega arith; left = q.left }))

    pub pointer_words_sound : (room : ℕ) → IsSound all (pointer_words_form all) room (pointer_words_at room)
    unfolding pointer_words_at
    pointer_words_sound room =
        sound_as all (row_form pointer_item) (pointer_words_form all) pointer_same room
        (repeated begins_pointer_word (pointer_word_at room))
        (repeated_sound begins_pointer_word (pointer_word_at room) all pointer_item room (pointer_sound_item room))

    pub assert_sound : (room : ℕ) → IsSound all (assert_form all) room assert_at
    unfolding assert_at
    assert_sound room s ts x tail e =
        let a = bind_ok e in
        let b = bind_ok a.2 in
        let c = bind_ok b.2 in
        let w =
        took_token all is_static_assert (kinds.Keyword keywords.StaticAssert) static_assert_kind s ts a.0 tail a.1 in
        let g = took_group all numbered a.0.scopes a.0.rest b.0 w.left b.1 in
        let m =
        took_token all is_semicolon (kinds.Punct puncts.Semicolon) semicolon_kind b.0.scopes b.0.rest c.0 g.left c.1 in
        at_end (Takes all (assert_form all) room s ts) c.2 (record {
          spelled = w.spelled ∙ ap (λ (us : List Lexeme). keyword_text keywords.StaticAssert a.0.tree us)
              (g.spelled ∙ ap (λ (us : List Lexeme). group_text all b.0.tree us) m.spelled);
          fits = g.fits;
          named = ap Some (sym (m.same ∙ g.same ∙ w.same));
          low = omega arith;
          left = m.left;
        })

    pub attr_complete : (a : Attr) (s : HeldScopes) (k : List Lexeme) → IsGroup all a.group
        → attr_at s (attrs_text all (a ∷ []) k) ≡ done (found a s k)
    attr_complete a s k h = attr_read a s k h

-- the readers of rows of tokens, groups, attributes and words take tokens, and are sound and complete
pub token_laws : (all : List Lexeme) → IsNumbered all → TokenLaws all
token_laws all numbered = record {
  exts_falls = TokenRows.exts_falls all;
  exts_sound = TokenRows.exts_sound all;
  exts_complete = TokenRows.exts_complete all;
  texts_falls = TokenRows.texts_falls all;
  texts_sound = TokenRows.texts_sound all;
  texts_complete = TokenRows.texts_complete all;
  quals_falls = TokenRows.quals_falls all numbered;
  quals_sound = TokenRows.quals_sound all numbered;
  quals_complete = TokenRows.quals_complete all numbered;
  array_words_falls = TokenRows.array_words_falls all numbered;
  array_words_sound = TokenRows.array_words_sound all numbered;
  array_words_complete = TokenRows.array_words_complete all numbered;
  asm_words_falls = TokenRows.asm_words_falls all numbered;
  asm_words_sound = TokenRows.asm_words_sound all numbered;
  asm_words_complete = TokenRows.asm_words_complete all numbered;
  group_shrinks = group_shrinks;
  group_sound = group_sound all numbered;
  group_complete = group_complete all;
  attr_shrinks = attr_shrinks;
  attr_sound = attr_sound all numbered;
  attr_complete = attr_complete all numbered;
  align_shrinks = align_shrinks all;
  align_sound = align_sound all numbered;
  align_complete = align_complete all;
  attrs_falls = attrs_falls all;
  attrs_sound = attrs_sound all numbered;
  attrs_complete = attrs_complete all;
  pointer_words_falls = pointer_words_falls all;
  pointer_words_sound = pointer_words_sound all numbered;
  pointer_words_complete = pointer_words_complete all numbered;
  assert_shrinks = assert_shrinks;
  assert_sound = assert_sound all numbered;
  assert_complete = assert_complete all;
}
