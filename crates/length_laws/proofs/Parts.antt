-- Parts of texts without ops, and parts of tapes that are no tree's of their own.
use Rattle.std.proofs.Common.{ℕ, ◌+◌, All, Bool, true, false, List, [], ◌∷◌, ◌++◌, Option, None, Some, arith, lit≤}
use Rattle.std.proofs.lemmas.List.Elements.{All-head, All-tail}
use Rattle.std.specs.Prelude.{if◌then◌else◌}
use Rattle.c_words.specs.declared.kinds.Punct.{Punct}
use Rattle.c_words.specs.declared.kinds.Punct.TheVariants as signs
use Rattle.c_syntax.specs.declared.parts.Identifier.{Identifier}
use Rattle.c_syntax.specs.declared.parts.Word.{Word}
use Rattle.c_syntax.specs.declared.parts.Group.{Group}
use Rattle.c_syntax.specs.declared.parts.Attr.{Attr}
use Rattle.c_syntax.specs.declared.parts.AsmLabel.{AsmLabel}
use Rattle.c_syntax.specs.declared.parts.Assert.{Assert}
use Rattle.c_syntax.specs.declared.parts.Qual.{Qual}
use Rattle.c_syntax.specs.declared.parts.Qual.TheVariants as quals
use Rattle.c_syntax.specs.declared.parts.PointerWord.{PointerWord}
use Rattle.c_syntax.specs.declared.parts.PointerWord.TheVariants as pointer_words
use Rattle.c_syntax.specs.declared.parts.ArrayWord.{ArrayWord}
use Rattle.c_syntax.specs.declared.parts.ArrayWord.TheVariants as array_words
use Rattle.tape_ops.specs.declared.op.Op.{Op}
use Rattle.tape_ops.specs.declared.specifier.TagKind.{TagKind}
use Rattle.c_tree.specs.declared.lexeme.Lexeme.{Lexeme}
use Rattle.c_tree.specs.Tree.{Expr, Params, no_params, more_params, Dots}
use Rattle.c_tree.specs.Text.{other_names_text, names_text, some_sign_text, words_text, extensions_text, texts_text, group_text, tokens_between, attrs_text, label_text, assert_text, qual_text, quals_text, pointer_words_text, array_words_text, dots_text}
use Rattle.c_tree.specs.WellFormed.{IsElement, IsQual, IsWordQual, IsPointerWord, IsArrayWord, IsEllipsis}
use Rattle.c_tape.specs.Tape.{identifiers_tape, prefix_tape, qual_tape, quals_tape, pointer_words_tape, array_words_tape, dots_tape, tag_tape, body_tape, quietly, in_scope, specs_with, type_name_with, params_with}
use Rattle.length_laws.proofs.Lengths.{Fits, FitBoth, nothing, one, so, join, skip, ends, skips, text_only, first_of}

-- specifiers are no mix without a word

-- one of two tapes

pub either : {m l : ℕ} (b : Bool) {xs ys : List Op} {t k : List Lexeme} → Fits m l xs t k → Fits m l ys t k →
    Fits m l (if b then xs else ys) t k
either true p q = p
either false p q = q

unless : {m l : ℕ} (b : Bool) {xs : List Op} {t k : List Lexeme} → Fits m l xs t k → Fits m l (if b then [] else xs) t k
unless b p = either b (text_only p) p

-- what stands round other nodes

module _ {m l : ℕ} where
  pub quiet_fits : {tape : List Op} {t k : List Lexeme} → Fits m l tape t k → Fits (2 + m) l (quietly tape) t k
  quiet_fits p = so (join (join one p) one) (omega arith)

  -- an operator before its operand, from what fits the tape of the operand only addressed and that of it taken
  pub prefix_fits : (token : ℕ) (p : Punct) (e : Expr) (aims : Bool) {addressed taken : List Op} {t k : List Lexeme} →
      Fits m l addressed t k → Fits m l taken t k → Fits (1 + m) l (prefix_tape token p e aims addressed taken) t k
  prefix_fits token signs.Ampersand e aims p q = so (join p one) (omega arith)
  prefix_fits token sign e aims p q = so (join q one) (omega arith)

  pub scope_fits : {tape : List Op} {t k : List Lexeme} → Fits m l tape t k → Fits (2 + m) l (in_scope tape) t k
  scope_fits p = so (join (join one p) one) (omega arith)

  pub specs_fit : {words us : List Op} {t k : List Lexeme} → FitBoth m l words us t k
      → Fits (1 + m) l (specs_with words) t k
  specs_fit p = so (join (first_of p) one) (omega arith)

  pub params_fit : (own none : Bool) {tape : List Op} {t k : List Lexeme} → Fits m l tape t k →
      Fits (2 + m) l (params_with own none tape) t k
  params_fit own none p = so (join (join one (unless none p)) one) (omega arith)

pub type_name_fits : {words us d : List Op} {t u k : List Lexeme} (first : ℕ) → FitBoth 0 0 words us t u
    → Fits 0 0 d u k →
    Fits 2 0 (type_name_with words d first) t k
type_name_fits first p q = join (join (specs_fit p) q) one

-- a tag without a body, and the beginning of a body

pub tag_fits : (is_alone : Bool) (kind : TagKind) (tag : Option Identifier) {k : List Lexeme} →
    Fits 1 0 (tag_tape is_alone kind tag) k k
tag_fits is_alone kind None = so nothing (lit≤ tt)
tag_fits is_alone kind (Some tag) = either is_alone one one

pub body_fits : (kind : TagKind) (keyword : ℕ) (tag : Option Identifier) {k : List Lexeme} →
    Fits 1 0 (body_tape kind keyword tag) k k
body_fits kind keyword None = one
body_fits kind keyword (Some tag) = one

-- tokens of no op, not counted

module _ {m l : ℕ} where
  pub some_sign_skip : (p : Punct) (sign : Option ℕ) {xs : List Op} {t k : List Lexeme} → Fits m l xs t k →
      Fits m l xs (some_sign_text p sign t) k
  some_sign_skip p None h = h
  some_sign_skip p (Some token) h = so (skip h) (omega arith)

  other_names_skip : (names : List Identifier) {xs : List Op} {t k : List Lexeme} → Fits m l xs t k →
      Fits m l xs (other_names_text names t) k
  other_names_skip [] h = h
  other_names_skip (name ∷ names) h = so (skip (skip (other_names_skip names h))) (omega arith)

  pub names_skip : (names : List Identifier) {xs : List Op} {t k : List Lexeme} → Fits m l xs t k →
      Fits m l xs (names_text names t) k
  names_skip [] h = h
  names_skip (name ∷ names) h = so (skip (other_names_skip names h)) (omega arith)

  pub words_skip : (words : List Word) {xs : List Op} {t k : List Lexeme} → Fits m l xs t k
      → Fits m l xs (words_text words t) k
  words_skip [] h = h
  words_skip (word ∷ words) h = so (skip (words_skip words h)) (omega arith)

  pub extensions_skip : (tokens : List ℕ) {xs : List Op} {t k : List Lexeme} → Fits m l xs t k →
      Fits m l xs (extensions_text tokens t) k
  extensions_skip [] h = h
  extensions_skip (token ∷ tokens) h = so (skip (extensions_skip tokens h)) (omega arith)

  pub texts_skip : (tokens : List ℕ) {xs : List Op} {t k : List Lexeme} → Fits m l xs t k
      → Fits m l xs (texts_text tokens t) k
  texts_skip [] h = h
  texts_skip (token ∷ tokens) h = so (skip (texts_skip tokens h)) (omega arith)

  module _ (all : List Lexeme) where
    pub group_skip : (group : Group) {xs : List Op} {t k : List Lexeme} → Fits m l xs t k
        → Fits m l xs (group_text all group t) k
    group_skip group h = skips (tokens_between all group.first group.last) h

    pub attrs_skip : (attrs : List Attr) {xs : List Op} {t k : List Lexeme} → Fits m l xs t k →
        Fits m l xs (attrs_text all attrs t) k
    attrs_skip [] h = h
    attrs_skip (attr ∷ attrs) h = so (skip (group_skip attr.group (attrs_skip attrs h))) (omega arith)

    pub label_skip : (label : Option AsmLabel) {xs : List Op} {t k : List Lexeme} → Fits m l xs t k →
        Fits m l xs (label_text all label t) k
    label_skip None h = h
    label_skip (Some label) h = so (skip (group_skip label.group h)) (omega arith)

    pub assert_skip : (it : Assert) {xs : List Op} {t k : List Lexeme} → Fits m l xs t k
        → Fits m l xs (assert_text all it t) k
    assert_skip it h = so (skip (group_skip it.group (so (skip h) (omega arith)))) (omega arith)

-- identifiers of a list: each is a token

other_names_fit : (names : List Identifier) {k : List Lexeme}
    → Fits 0 0 (identifiers_tape names) (other_names_text names k) k
other_names_fit [] = nothing
other_names_fit (name ∷ names) = so (skip (skip (join one (other_names_fit names)))) (lit≤ tt)

pub names_fit : (names : List Identifier) {k : List Lexeme} → Fits 0 0 (identifiers_tape names) (names_text names k) k
names_fit [] = nothing
names_fit (name ∷ names) = so (skip (join one (other_names_fit names))) (lit≤ tt)

-- qualifiers: each is a token at least

module _ (all : List Lexeme) where
  element_fits : {op : Op} (tokens : List Lexeme) → IsElement tokens → {k : List Lexeme} →
      Fits 0 1 (op ∷ []) (tokens ++ k) k
  element_fits [] h = absurd h
  element_fits (it ∷ []) h = so (skip one) (lit≤ tt)
  element_fits (it ∷ other ∷ tokens) h = absurd h

  pub qual_fits : (q : Qual) → IsQual all q → {k : List Lexeme} → Fits 0 1 (qual_tape q) (qual_text all q k) k
  qual_fits (quals.Word word) h = so (skip one) (lit≤ tt)
  qual_fits (quals.Element token) h = element_fits (tokens_between all token token) h
  qual_fits (quals.Index token) h = so (skip one) (lit≤ tt)

  quals_fit : (qs : List Qual) → All (IsWordQual all) qs → {k : List Lexeme}
      → Fits 0 0 (quals_tape qs) (quals_text all qs k) k
  quals_fit [] h = nothing
  quals_fit (q ∷ qs) h =
      so (join (qual_fits q (All-head (IsWordQual all) q qs h).0)
      (quals_fit qs (All-tail (IsWordQual all) q qs h))) (lit≤ tt)

  pub pointer_words_fit : (words : List PointerWord) → All (IsPointerWord all) words → {k : List Lexeme} →
      Fits 0 0 (pointer_words_tape words) (pointer_words_text all words k) k
  pointer_words_fit [] h = nothing
  pointer_words_fit (pointer_words.Qual q ∷ words) h =
      so (join (qual_fits q (All-head (IsPointerWord all) (pointer_words.Qual q) words h))
      (pointer_words_fit words (All-tail (IsPointerWord all) (pointer_words.Qual q) words h))) (lit≤ tt)
  pointer_words_fit (pointer_words.Attr attr ∷ words) h =
      attrs_skip all (attr ∷ [])
      (pointer_words_fit words (All-tail (IsPointerWord all) (pointer_words.Attr attr) words h))

  pub array_words_fit : (words : List ArrayWord) → All (IsArrayWord all) words → {k : List Lexeme} →
      Fits 0 0 (array_words_tape words) (array_words_text all words k) k
  array_words_fit [] h = nothing
  array_words_fit (array_words.Static token ∷ words) h =
      so (skip (array_words_fit words (All-tail (IsArrayWord all) (array_words.Static token) words h))) (lit≤ tt)
  array_words_fit (array_words.Qual q ∷ words) h =
      so (join (qual_fits q (All-head (IsArrayWord all) (array_words.Qual q) words h))
      (array_words_fit words (All-tail (IsArrayWord all) (array_words.Qual q) words h))) (lit≤ tt)

  pub dots_fit : (ps : Params) (dots : Option Dots) → IsEllipsis all ps dots → {k : List Lexeme} →
      Fits 0 0 (dots_tape dots) (dots_text all dots k) k
  dots_fit ps None h = nothing
  dots_fit no_params (Some dots) h = absurd h
  dots_fit (more_params ws d attrs ps) (Some dots) h =
      so (skip (ends (quals_fit dots.quals h))) (lit≤ tt)
