-- Parts of texts and of tapes, and what stands round other nodes.
use Rattle.std.proofs.Common.{ℕ, All, Bool, true, false, List, [], ◌∷◌, Option, None, Some}
use Rattle.std.proofs.lemmas.List.Elements.{All-head, All-tail}
use Rattle.std.specs.Prelude.{if◌then◌else◌}
use Rattle.c_words.specs.declared.kinds.Punct.{Punct}
use Rattle.c_syntax.specs.declared.parts.Identifier.{Identifier}
use Rattle.c_syntax.specs.declared.parts.Word.{Word}
use Rattle.c_syntax.specs.declared.parts.Group.{Group}
use Rattle.c_syntax.specs.declared.parts.Attr.{Attr}
use Rattle.c_syntax.specs.declared.parts.AsmLabel.{AsmLabel}
use Rattle.c_syntax.specs.declared.parts.Assert.{Assert}
use Rattle.c_syntax.specs.declared.parts.Qual.{Qual}
use Rattle.c_syntax.specs.declared.parts.Qual.TheVariants as quals
use Rattle.c_syntax.specs.declared.parts.PointerWord.{PointerWord}
use Rattle.c_syntax.specs.declared.parts.PointerWord.TheVariants as pointer_words
use Rattle.c_syntax.specs.declared.parts.ArrayWord.{ArrayWord}
use Rattle.c_syntax.specs.declared.parts.ArrayWord.TheVariants as array_words
use Rattle.tape_ops.specs.declared.op.Op.{Op}
use Rattle.tape_ops.specs.declared.specifier.TagKind.{TagKind}
use Rattle.c_tree.specs.declared.lexeme.Lexeme.{Lexeme}
use Rattle.c_tree.specs.Tree.{SpecWords, no_words, more_words, Params, no_params, more_params, Dots}
use Rattle.c_tree.specs.Text.{some_sign_text, tag_text, words_text, other_names_text, names_text, extensions_text, texts_text, group_text, tokens_between, attrs_text, label_text, assert_text, qual_text, quals_text, pointer_words_text, array_words_text, dots_text}
use Rattle.c_tree.specs.Firsts.{qual_token, word_token, first_word}
use Rattle.c_tree.specs.Specifiers.{IsMix}
use Rattle.c_tree.specs.WellFormed.{IsElement, IsQual, IsWordQual, IsPointerWord, IsArrayWord, IsEllipsis}
use Rattle.c_tree.proofs.NoType.{no_mix_of_none}
use Rattle.c_tape.specs.Tape.{quals_tape, pointer_words_tape, array_words_tape, dots_tape, tag_tape, body_tape, quietly, in_scope, params_with, identifiers_tape}
use Rattle.token_laws.proofs.Texts.{Holds, Covers, empty, one, both, nothing, none, so, head, skip, skips, bind, mute, set}

module _ (P : ℕ → Type 0) where
  -- of the first word, where there is one
  abbrev pub Begins : SpecWords → Type 0
  Begins no_words = Unit {0}
  Begins (more_words word ws) = P (word_token word)

  pub first_of : (ws : SpecWords) → IsMix ws → Begins ws → P (first_word ws)
  first_of no_words mix h = absurd (no_mix_of_none mix)
  first_of (more_words word ws) mix h = h

  abbrev pub SomeAt : Option Identifier → Type 0
  SomeAt None = Unit {0}
  SomeAt (Some tag) = P tag.token

  pub tag_ops : (is_alone : Bool) (kind : TagKind) (tag : Option Identifier) → SomeAt tag
      → Holds P (tag_tape is_alone kind tag)
  tag_ops is_alone kind None h = empty
  tag_ops true kind (Some tag) h = one (h, tt)
  tag_ops false kind (Some tag) h = one (h, tt)

  pub body_ops : (kind : TagKind) (keyword : ℕ) (tag : Option Identifier) → P keyword → SomeAt tag →
      Holds P (body_tape kind keyword tag)
  body_ops kind keyword None k h = one (k, tt)
  body_ops kind keyword (Some tag) k h = one (h, tt)

module _ {P : ℕ → Type 0} {F : Type 0} where
  pub quiet_covers : {tape : List Op} {t k : List Lexeme} → Covers P F tape t k → Covers P F (quietly tape) t k
  quiet_covers p = mute (set (one tt) p) (one tt)

  pub scope_covers : {tape : List Op} {t k : List Lexeme} → Covers P F tape t k → Covers P F (in_scope tape) t k
  scope_covers p = mute (set (one tt) p) (one tt)

  pub either : (b : Bool) {xs ys : List Op} {t k : List Lexeme} → Covers P F xs t k → Covers P F ys t k →
      Covers P F (if b then xs else ys) t k
  either true p q = p
  either false p q = q

  unless : (b : Bool) {xs : List Op} {t k : List Lexeme} → Covers P F xs t k → Covers P F (if b then [] else xs) t k
  unless true p = record { goes = λ h. (let a = p.goes h in record { ops = empty; facts = a.facts; rest = a.rest }) }
  unless false p = p

  pub params_cover : (own says_none : Bool) {tape : List Op} {t k : List Lexeme} → Covers P F tape t k →
      Covers P F (params_with own says_none tape) t k
  params_cover own says_none p = mute (set (one tt) (unless says_none p)) (one tt)

  -- tokens of no op

  pub some_sign_skip : (p : Punct) (sign : Option ℕ) {xs : List Op} {t k : List Lexeme} → Covers P F xs t k →
      Covers P F xs (some_sign_text p sign t) k
  some_sign_skip p None h = h
  some_sign_skip p (Some token) h = skip h

  pub tag_covers : (tag : Option Identifier) {xs : List Op} {t k : List Lexeme} → (SomeAt P tag → Covers P F xs t k) →
      Covers P F xs (tag_text tag t) k
  tag_covers None h = h tt
  tag_covers (Some tag) h = head h

  pub words_skip : (words : List Word) {xs : List Op} {t k : List Lexeme} → Covers P F xs t k
      → Covers P F xs (words_text words t) k
  words_skip [] h = h
  words_skip (word ∷ words) h = skip (words_skip words h)

  other_names_skip : (names : List Identifier) {xs : List Op} {t k : List Lexeme} → Covers P F xs t k →
      Covers P F xs (other_names_text names t) k
  other_names_skip [] h = h
  other_names_skip (name ∷ names) h = skip (skip (other_names_skip names h))

  pub names_skip : (names : List Identifier) {xs : List Op} {t k : List Lexeme} → Covers P F xs t k →
      Covers P F xs (names_text names t) k
  names_skip [] h = h
  names_skip (name ∷ names) h = skip (other_names_skip names h)

  pub extensions_skip : (tokens : List ℕ) {xs : List Op} {t k : List Lexeme} → Covers P F xs t k →
      Covers P F xs (extensions_text tokens t) k
  extensions_skip [] h = h
  extensions_skip (token ∷ tokens) h = skip (extensions_skip tokens h)

  pub texts_skip : (tokens : List ℕ) {xs : List Op} {t k : List Lexeme} → Covers P F xs t k
      → Covers P F xs (texts_text tokens t) k
  texts_skip [] h = h
  texts_skip (token ∷ tokens) h = skip (texts_skip tokens h)

  module _ (all : List Lexeme) where
    pub group_skip : (group : Group) {xs : List Op} {t k : List Lexeme} → Covers P F xs t k
        → Covers P F xs (group_text all group t) k
    group_skip group h = skips (tokens_between all group.first group.last) h

    pub attrs_skip : (attrs : List Attr) {xs : List Op} {t k : List Lexeme} → Covers P F xs t k →
        Covers P F xs (attrs_text all attrs t) k
    attrs_skip [] h = h
    attrs_skip (attr ∷ attrs) h = skip (group_skip attr.group (attrs_skip attrs h))

    pub label_skip : (label : Option AsmLabel) {xs : List Op} {t k : List Lexeme} → Covers P F xs t k →
        Covers P F xs (label_text all label t) k
    label_skip None h = h
    label_skip (Some label) h = skip (group_skip label.group h)

    pub assert_skip : (it : Assert) {xs : List Op} {t k : List Lexeme} → Covers P F xs t k
        → Covers P F xs (assert_text all it t) k
    assert_skip it h = skip (group_skip it.group (skip h))

-- identifiers of a list
module _ {P : ℕ → Type 0} where
  other_names_cover : (names : List Identifier) {k : List Lexeme} →
      Covers P (Holds P (identifiers_tape names)) [] (other_names_text names k) k
  other_names_cover [] = none
  other_names_cover (name ∷ names) = skip (head (λ is. so (other_names_cover names) (λ f. both (one (is, tt)) f)))

  pub names_cover : (names : List Identifier) {k : List Lexeme} →
      Covers P (Holds P (identifiers_tape names)) [] (names_text names k) k
  names_cover [] = none
  names_cover (name ∷ names) = head (λ is. so (other_names_cover names) (λ f. both (one (is, tt)) f))

-- Qualifiers. A `$` word that names an element is where its number is among the tokens of the unit.
module _ {P : ℕ → Type 0} (all : List Lexeme) (element : (n : ℕ) → IsElement (tokens_between all n n) → P n) where
  pub qual_at : (q : Qual) → IsQual all q → {k : List Lexeme} → Covers P (P (qual_token q)) [] (qual_text all q k) k
  qual_at (quals.Word word) h = head (λ is. so nothing (λ f. is))
  qual_at (quals.Element token) h = so (skips (tokens_between all token token) nothing) (λ f. element token h)
  qual_at (quals.Index token) h = head (λ is. so nothing (λ f. is))

  pub pointer_words_at : (words : List PointerWord) → All (IsPointerWord all) words → {k : List Lexeme} →
      Covers P (Holds P (pointer_words_tape words)) [] (pointer_words_text all words k) k
  pointer_words_at [] h = none
  pointer_words_at (pointer_words.Qual q ∷ words) h =
      bind (qual_at q (All-head (IsPointerWord all) (pointer_words.Qual q) words h)) (λ is. so (pointer_words_at words
      (All-tail (IsPointerWord all) (pointer_words.Qual q) words h)) (λ f. both (one (is, tt)) f))
  pointer_words_at (pointer_words.Attr attr ∷ words) h =
      skip (group_skip all attr.group
      (pointer_words_at words (All-tail (IsPointerWord all) (pointer_words.Attr attr) words h)))

  pub array_words_at : (words : List ArrayWord) → All (IsArrayWord all) words → {k : List Lexeme} →
      Covers P (Holds P (array_words_tape words)) [] (array_words_text all words k) k
  array_words_at [] h = none
  array_words_at (array_words.Static token ∷ words) h =
      skip (array_words_at words (All-tail (IsArrayWord all) (array_words.Static token) words h))
  array_words_at (array_words.Qual q ∷ words) h =
      bind (qual_at q (All-head (IsArrayWord all) (array_words.Qual q) words h)) (λ is. so (array_words_at words
      (All-tail (IsArrayWord all) (array_words.Qual q) words h)) (λ f. both (one (is, tt)) f))

  word_quals_at : (qs : List Qual) → All (IsWordQual all) qs → {k : List Lexeme} →
      Covers P (Holds P (quals_tape qs)) [] (quals_text all qs k) k
  word_quals_at [] h = none
  word_quals_at (q ∷ qs) h =
      bind (qual_at q (All-head (IsWordQual all) q qs h).0) (λ is.
      so (word_quals_at qs (All-tail (IsWordQual all) q qs h))
      (λ f. both (one (is, tt)) f))

  pub dots_at : (ps : Params) (dots : Option Dots) → IsEllipsis all ps dots → {k : List Lexeme} →
      Covers P (Holds P (dots_tape dots)) [] (dots_text all dots k) k
  dots_at ps None h = none
  dots_at no_params (Some dots) h = absurd h
  dots_at (more_params ws d attrs ps) (Some dots) h =
      skip (bind (word_quals_at dots.quals h) (λ f. so (skip nothing) (λ g. f)))
