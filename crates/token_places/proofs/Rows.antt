-- Rows of like tokens and of attributes: each ends before a token that begins none of its items.
use Rattle.std.proofs.Common.{◌≡◌, ℕ, Bool, true, false, List, [], length, inl, refl, ap, arith}
use Rattle.c_words.specs.declared.kinds.TokenKind.{TokenKind}
use Rattle.c_words.specs.declared.kinds.TokenKind.TheVariants as kinds
use Rattle.c_words.specs.declared.kinds.Punct.TheVariants.{Semicolon}
use Rattle.c_tree.specs.declared.lexeme.Lexeme.{Lexeme}
use Rattle.c_syntax.specs.declared.parts.PointerWord.TheVariants as pointer_words
use Rattle.c_units.specs.HeldScopes.{HeldScopes}
use Rattle.c_reading.specs.Reading.{Found, Reader, ends, fits, kind_at, take_one}
use Rattle.c_reading.specs.Tokens.{is_end, is_semicolon, is_attribute, is_extension, is_text, is_made, qual_of, word_qual_of, array_word_of, asm_word_of, made_at, extensions_at, texts_at, quals_at, array_words_at, asm_words_at, attr_at, attrs_at, begins_pointer_word, pointer_word_at, pointer_words_at}
use Rattle.c_reading.proofs.Binding.{ok_is, bind_ok, fits_ok, take_falls}
use Rattle.c_reading.proofs.Forms.{Shrinks}
use Rattle.c_reading.proofs.TokenRows.{made_shrinks}
use Rattle.c_reading.proofs.TokensShown.{pointer_word_shrinks}
use Rattle.c_reading.proofs.KnotLaws.{none_tokens}
use Rattle.reading_steps.specs.Steps.{any, Good, Law}
use Rattle.reading_steps.proofs.Steps.{behind, if_good, fits_good, take_good, good_before}
use Rattle.reading_steps.proofs.Lists.{repeated_law}
use Rattle.token_places.proofs.Single.{extension_end, text_end, mapped_good, made_good}
use Rattle.token_places.proofs.Groups.{attr_law}

qual_end : (kind : TokenKind) → is_made (qual_of kind) ≡ true → is_end kind ≡ false
qual_end kinds.End h = absurd cc
qual_end kind h = refl

word_qual_end : (kind : TokenKind) → is_made (word_qual_of kind) ≡ true → is_end kind ≡ false
word_qual_end kinds.End h = absurd cc
word_qual_end kind h = refl

array_word_end : (kind : TokenKind) → is_made (array_word_of kind) ≡ true → is_end kind ≡ false
array_word_end kinds.End h = absurd cc
array_word_end kind h = refl

asm_word_end : (kind : TokenKind) → is_made (asm_word_of kind) ≡ true → is_end kind ≡ false
asm_word_end kinds.End h = absurd cc
asm_word_end kind h = refl

-- what may follow a row, and what it may begin with
abbrev pub Ending : (TokenKind → Bool) → (TokenKind → Bool) → (TokenKind → Bool) → Type 0
Ending begins front stops =
    ((kind : TokenKind) → stops kind ≡ true → front kind ≡ true)
    × ((kind : TokenKind) → stops kind ≡ true → begins kind ≡ false)

module _ (keep : Bool) where
  fits_shrinks : {A : Type 0} (least room : ℕ) (read : Reader A) → Shrinks read
      → Shrinks (λ s ts. fits least room ts (read s ts))
  fits_shrinks least room read shrinks s ts x e = shrinks s ts x (fits_ok least room ts e).1

  take_shrinks : Shrinks take_one
  take_shrinks s ts x e = let one = take_falls s ts x e in omega (arith, one)

  pub extensions_law : (room : ℕ) (front stops : TokenKind → Bool) → Ending is_extension front stops
      → Law keep (extensions_at room) front stops
  unfolding extensions_at
  extensions_law room front stops h =
      repeated_law keep is_extension (λ s ts. fits 2 room ts (take_one s ts))
      (fits_shrinks 2 room take_one take_shrinks) front stops h.0 h.1
      (λ s ts is.
      fits_good keep 2 room take_one stops s ts (λ fit. take_good keep stops s ts (extension_end (kind_at ts) is)))

  pub texts_law : (front stops : TokenKind → Bool) → Ending is_text front stops → Law keep texts_at front stops
  unfolding texts_at
  texts_law front stops h =
      repeated_law keep is_text take_one take_shrinks front stops h.0 h.1
      (λ s ts is. take_good keep stops s ts (text_end (kind_at ts) is))

  pub quals_law : (front stops : TokenKind → Bool) → Ending (λ kind. is_made (word_qual_of kind)) front stops
      → Law keep quals_at front stops
  unfolding quals_at
  quals_law front stops h =
      repeated_law keep (λ kind. is_made (word_qual_of kind)) (made_at word_qual_of)
      (made_shrinks word_qual_of) front stops h.0 h.1 (λ s ts is. made_good keep word_qual_of stops word_qual_end s ts)

  pub array_words_law : (front stops : TokenKind → Bool) → Ending (λ kind. is_made (array_word_of kind)) front stops
      → Law keep array_words_at front stops
  unfolding array_words_at
  array_words_law front stops h =
      repeated_law keep (λ kind. is_made (array_word_of kind)) (made_at array_word_of) (made_shrinks array_word_of)
      front stops h.0 h.1 (λ s ts is. made_good keep array_word_of stops array_word_end s ts)

  pub asm_words_law : (front stops : TokenKind → Bool) → Ending (λ kind. is_made (asm_word_of kind)) front stops
      → Law keep asm_words_at front stops
  unfolding asm_words_at
  asm_words_law front stops h =
      repeated_law keep (λ kind. is_made (asm_word_of kind)) (made_at asm_word_of)
      (made_shrinks asm_word_of) front stops h.0 h.1 (λ s ts is. made_good keep asm_word_of stops asm_word_end s ts)

  pub attr_good : (stops : TokenKind → Bool) (s : HeldScopes) (ts : List Lexeme) → Good keep attr_at stops s ts
  attr_good stops s ts = good_before keep attr_at any stops s ts (λ kind h. refl) ((attr_law keep).good s ts)

  pub attrs_law : (room : ℕ) (front stops : TokenKind → Bool) → Ending is_attribute front stops
      → Law keep (attrs_at room) front stops
  unfolding attrs_at
  attrs_law room front stops h =
      repeated_law keep is_attribute (λ s ts. fits 2 room ts (attr_at s ts))
      (fits_shrinks 2 room attr_at none_tokens.attr_shrinks) front stops h.0 h.1
      (λ s ts is. fits_good keep 2 room attr_at stops s ts (λ fit. attr_good stops s ts))

  mapped_shrinks : {A B : Type 0} (read : Reader A) (make : A → B) → Shrinks read
      → Shrinks (behind read (λ x. ends (make x)))
  mapped_shrinks read make shrinks s ts x e =
      let a = bind_ok e in
      let end = ap (λ (x : Found _). length x.rest) (ok_is a.2) in
      omega (arith, shrinks s ts a.0 a.1, end)

  -- A word behind a star: an attribute or a qualifier.
  word_good : (room : ℕ) (stops : TokenKind → Bool) (s : HeldScopes) (ts : List Lexeme)
      → Good keep (pointer_word_at room) stops s ts
  unfolding pointer_word_at
  word_good room stops s ts =
      if_good keep (λ s. is_attribute)
      (λ s ts. fits 2 room ts (behind attr_at (λ attr. ends (pointer_words.Attr attr)) s ts))
      (behind (made_at qual_of) (λ qual. ends (pointer_words.Qual qual))) stops s ts
      (λ is. fits_good keep 2 room (behind attr_at (λ attr. ends (pointer_words.Attr attr))) stops s ts (λ fit.
      mapped_good keep attr_at pointer_words.Attr stops s ts (attr_good stops s ts)))
      (λ is. mapped_good keep (made_at qual_of) pointer_words.Qual stops s ts
      (made_good keep qual_of stops qual_end s ts))
      (λ is. inl (λ x e.
      mapped_shrinks attr_at pointer_words.Attr none_tokens.attr_shrinks s ts x (fits_ok 2 room ts e).1))
      (λ is. inl (λ x e. mapped_shrinks (made_at qual_of) pointer_words.Qual (made_shrinks qual_of) s ts x e))

  pub pointer_words_law : (room : ℕ) (front stops : TokenKind → Bool) → Ending begins_pointer_word front stops
      → Law keep (pointer_words_at room) front stops
  unfolding pointer_words_at
  pointer_words_law room front stops h =
      repeated_law keep begins_pointer_word (pointer_word_at room) (pointer_word_shrinks [] room) front stops h.0 h.1
      (λ s ts is. word_good room stops s ts)

semicolon_attribute : (kind : TokenKind) → is_semicolon kind ≡ true → is_attribute kind ≡ false
semicolon_attribute (kinds.Punct Semicolon) h = refl
semicolon_attribute kind h = absurd cc

-- attributes before a semicolon
pub attrs_before_semicolon : (keep : Bool) (room : ℕ) → Law keep (attrs_at room) any is_semicolon
attrs_before_semicolon keep room = attrs_law keep room any is_semicolon ((λ kind h. refl), semicolon_attribute)
