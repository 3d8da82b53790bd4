-- Parts of tapes whose ops have no keys, and parts of texts whose tokens are of no op.
use Rattle.std.proofs.Common.{Bool, true, false, List, [], ◌∷◌, ℕ, Option, None, Some, refl}
use Rattle.std.specs.Prelude.{if◌then◌else◌}
use Rattle.c_words.specs.declared.kinds.Punct.{Punct}
use Rattle.c_words.specs.declared.kinds.Punct.TheVariants as signs
use Rattle.c_syntax.specs.declared.parts.Identifier.{Identifier}
use Rattle.c_syntax.specs.declared.parts.Word.{Word}
use Rattle.c_syntax.specs.declared.parts.Group.{Group}
use Rattle.c_syntax.specs.declared.parts.Attr.{Attr}
use Rattle.c_syntax.specs.declared.parts.AsmLabel.{AsmLabel}
use Rattle.c_syntax.specs.declared.parts.Assert.{Assert}
use Rattle.c_syntax.specs.declared.parts.Qual.{Qual}
use Rattle.c_syntax.specs.declared.parts.Qual.TheVariants as quals
use Rattle.c_syntax.specs.declared.parts.PointerWord.{PointerWord}
use Rattle.c_syntax.specs.declared.parts.PointerWord.TheVariants as pointer_words
use Rattle.c_syntax.specs.declared.parts.ArrayWord.{ArrayWord}
use Rattle.c_syntax.specs.declared.parts.ArrayWord.TheVariants as array_words
use Rattle.tape_ops.specs.declared.op.Op.{Op}
use Rattle.tape_ops.specs.declared.specifier.SpecOp.TheVariants as specs
use Rattle.tape_ops.specs.declared.specifier.TagKind.{TagKind}
use Rattle.c_tree.specs.declared.lexeme.Lexeme.{Lexeme}
use Rattle.c_tree.specs.Tree.{Expr, identifiers, base_name, range_desig, old_desig, Exprs, no_exprs, more_exprs, Declr, pointer, declr_name, declr_paren, array, params, abs_pointer, abs_paren, abs_array, abs_params, SomeDeclr, no_declr, some_declr, Init, init_value, init_braced, InitList, init_list, InitItems, no_init_items, more_init_items, Desigs, no_desigs, more_desigs, Desig, member_desig, index_desig, Dots}
use Rattle.c_tree.specs.Text.{other_names_text, names_text, some_sign_text, tag_text, words_text, extensions_text, texts_text, group_text, tokens_between, attr_text, attrs_text, label_text, assert_text, qual_text, quals_text, pointer_words_text, array_words_text, dots_text}
use Rattle.c_tape.specs.Tape.{identifiers_tape, prefix_tape, quals_tape, pointer_word_tape, pointer_words_tape, array_word_tape, array_words_tape, dots_tape, pieces, some_pieces, desig_tape, desigs_tape, rule, rule_of_list, rule_of_items, arguments, tag_tape, body_tape, quietly, in_scope, specs_with, type_name_with, params_with, spec}
use Rattle.row_laws.proofs.KeyLaws.Counts.{Covers, CoversBoth, keyed, own, first_of, IsMute, empty, mute, mutes, join, skip, skips, then_mute, mute_then, text_only}

module _ {n : ℕ} where
  -- ops without keys

  quals_mute : (qs : List Qual) → IsMute n (quals_tape qs)
  quals_mute [] = empty
  quals_mute (q ∷ qs) = mutes (mute refl) (quals_mute qs)

  pointer_word_mute : (word : PointerWord) → IsMute n (pointer_word_tape word)
  pointer_word_mute (pointer_words.Qual q) = mute refl
  pointer_word_mute (pointer_words.Attr attr) = empty

  pointer_words_mute : (words : List PointerWord) → IsMute n (pointer_words_tape words)
  pointer_words_mute [] = empty
  pointer_words_mute (word ∷ words) = mutes (pointer_word_mute word) (pointer_words_mute words)

  array_word_mute : (word : ArrayWord) → IsMute n (array_word_tape word)
  array_word_mute (array_words.Static token) = empty
  array_word_mute (array_words.Qual q) = mute refl

  array_words_mute : (words : List ArrayWord) → IsMute n (array_words_tape words)
  array_words_mute [] = empty
  array_words_mute (word ∷ words) = mutes (array_word_mute word) (array_words_mute words)

  dots_mute : (dots : Option Dots) → IsMute n (dots_tape dots)
  dots_mute None = empty
  dots_mute (Some dots) = quals_mute dots.quals

  mutual
    pub pieces_mute : (d : Declr) → IsMute n (pieces d)
    pieces_mute (pointer star words d) = mutes (mutes (pointer_words_mute words) (mute refl)) (pieces_mute d)
    pieces_mute (declr_name token name) = empty
    pieces_mute (declr_paren opening attrs d closing) = pieces_mute d
    pieces_mute (array d opening words size closing) =
        mutes (mutes (array_words_mute words) (mute refl)) (pieces_mute d)
    pieces_mute (params d opening ps dots closing) = mutes (mutes (dots_mute dots) (mute refl)) (pieces_mute d)
    pieces_mute (abs_pointer star words d) = mutes (mutes (pointer_words_mute words) (mute refl)) (some_pieces_mute d)
    pieces_mute (abs_paren opening attrs d closing) = pieces_mute d
    pieces_mute (abs_array d opening words size closing) =
        mutes (mutes (array_words_mute words) (mute refl)) (some_pieces_mute d)
    pieces_mute (abs_params d opening ps dots closing) = mutes (mutes (dots_mute dots) (mute refl)) (some_pieces_mute d)
    pieces_mute (identifiers d opening names closing) = mutes (mute refl) (pieces_mute d)
    pieces_mute (base_name token) = empty

    some_pieces_mute : (d : SomeDeclr) → IsMute n (some_pieces d)
    some_pieces_mute no_declr = empty
    some_pieces_mute (some_declr d) = pieces_mute d

  desig_mute : (d : Desig) → IsMute n (desig_tape d)
  desig_mute (member_desig before name) = mute refl
  desig_mute (index_desig opening e closing) = mute refl
  desig_mute (range_desig opening e dots e2 closing) = mute refl
  desig_mute (old_desig name colon) = mute refl

  desigs_mute : (ds : Desigs) → IsMute n (desigs_tape ds)
  desigs_mute no_desigs = empty
  desigs_mute (more_desigs d ds) = mutes (desig_mute d) (desigs_mute ds)

  mutual
    rule_mute : (i : Init) → IsMute n (rule i)
    rule_mute (init_value e) = mute refl
    rule_mute (init_braced list) = rule_list_mute list

    pub rule_list_mute : (list : InitList) → IsMute n (rule_of_list list)
    rule_list_mute (init_list opening items last closing) =
        mutes (mutes (mute refl) (rule_items_mute items)) (mute refl)

    rule_items_mute : (items : InitItems) → IsMute n (rule_of_items items)
    rule_items_mute no_init_items = empty
    rule_items_mute (more_init_items ds equal i items) =
        mutes (mutes (desigs_mute ds) (rule_mute i)) (rule_items_mute items)

  pub arguments_mute : (es : Exprs) → IsMute n (arguments es)
  arguments_mute no_exprs = empty
  arguments_mute (more_exprs e es) = mutes (mute refl) (arguments_mute es)

  pub tag_mute : (is_alone : Bool) (kind : TagKind) (tag : Option Identifier) → IsMute n (tag_tape is_alone kind tag)
  tag_mute is_alone kind None = empty
  tag_mute true kind (Some tag) = mute refl
  tag_mute false kind (Some tag) = mute refl

  pub body_mute : (kind : TagKind) (keyword : ℕ) (tag : Option Identifier) → IsMute n (body_tape kind keyword tag)
  body_mute kind keyword None = mute refl
  body_mute kind keyword (Some tag) = mute refl

  pub void_mute : (is : Bool) → IsMute n (if is then spec specs.Void else [])
  void_mute true = mute refl
  void_mute false = empty

  pub identifiers_mute : (names : List Identifier) → IsMute n (identifiers_tape names)
  identifiers_mute [] = empty
  identifiers_mute (name ∷ names) = mutes (mute refl) (identifiers_mute names)

  -- what stands round other nodes

  -- an operator before its operand, from what covers the tape of the operand only addressed and that of it taken
  pub prefix_covers : (p : Punct) (e : Expr) (aims : Bool) {it : Lexeme} {addressed taken : List Op}
      {t k : List Lexeme} →
      Covers n addressed t k → Covers n taken t k → Covers n (prefix_tape it.at p e aims addressed taken) (it ∷ t) k
  prefix_covers signs.Ampersand e aims p q = keyed p (own refl)
  prefix_covers sign e aims p q = keyed q (own refl)

  pub quiet_covers : {tape : List Op} {t k : List Lexeme} → Covers n tape t k → Covers n (quietly tape) t k
  quiet_covers p = then_mute (mute_then (mute refl) p) (mute refl)

  pub scope_covers : {tape : List Op} {t k : List Lexeme} → Covers n tape t k → Covers n (in_scope tape) t k
  scope_covers p = then_mute (mute_then (mute refl) p) (mute refl)

  pub specs_cover : {words us : List Op} {t k : List Lexeme} → CoversBoth n words us t k
      → Covers n (specs_with words) t k
  specs_cover p = then_mute (first_of p) (mute refl)

  pub type_name_covers : {words us d : List Op} {t m k : List Lexeme} (first : ℕ) → CoversBoth n words us t m
      → Covers n d m k →
      Covers n (type_name_with words d first) t k
  type_name_covers first p q = then_mute (join (specs_cover p) q) (mute refl)

  unless : {tape : List Op} {t k : List Lexeme} (b : Bool) → Covers n tape t k → Covers n (if b then [] else tape) t k
  unless true p = text_only p
  unless false p = p

  pub params_cover : {tape : List Op} {t k : List Lexeme} (own says_none : Bool) → Covers n tape t k →
      Covers n (params_with own says_none tape) t k
  params_cover own says_none p = then_mute (mute_then (mute refl) (unless says_none p)) (mute refl)

  -- tokens of no op

  pub some_sign_skip : (p : Punct) (sign : Option ℕ) {xs : List Op} {t k : List Lexeme} → Covers n xs t k →
      Covers n xs (some_sign_text p sign t) k
  some_sign_skip p None h = h
  some_sign_skip p (Some token) h = skip h

  pub tag_skip : (tag : Option Identifier) {xs : List Op} {t k : List Lexeme} → Covers n xs t k
      → Covers n xs (tag_text tag t) k
  tag_skip None h = h
  tag_skip (Some tag) h = skip h

  other_names_skip : (names : List Identifier) {xs : List Op} {t k : List Lexeme} → Covers n xs t k →
      Covers n xs (other_names_text names t) k
  other_names_skip [] h = h
  other_names_skip (name ∷ names) h = skip (skip (other_names_skip names h))

  pub names_skip : (names : List Identifier) {xs : List Op} {t k : List Lexeme} → Covers n xs t k →
      Covers n xs (names_text names t) k
  names_skip [] h = h
  names_skip (name ∷ names) h = skip (other_names_skip names h)

  pub words_skip : (words : List Word) {xs : List Op} {t k : List Lexeme} → Covers n xs t k
      → Covers n xs (words_text words t) k
  words_skip [] h = h
  words_skip (word ∷ words) h = skip (words_skip words h)

  pub extensions_skip : (tokens : List ℕ) {xs : List Op} {t k : List Lexeme} → Covers n xs t k →
      Covers n xs (extensions_text tokens t) k
  extensions_skip [] h = h
  extensions_skip (token ∷ tokens) h = skip (extensions_skip tokens h)

  pub texts_skip : (tokens : List ℕ) {xs : List Op} {t k : List Lexeme} → Covers n xs t k
      → Covers n xs (texts_text tokens t) k
  texts_skip [] h = h
  texts_skip (token ∷ tokens) h = skip (texts_skip tokens h)

  module _ (all : List Lexeme) where
    pub group_skip : (group : Group) {xs : List Op} {t k : List Lexeme} → Covers n xs t k
        → Covers n xs (group_text all group t) k
    group_skip group h = skips (tokens_between all group.first group.last) h

    pub attr_skip : (attr : Attr) {xs : List Op} {t k : List Lexeme} → Covers n xs t k
        → Covers n xs (attr_text all attr t) k
    attr_skip attr h = skip (group_skip attr.group h)

    pub attrs_skip : (attrs : List Attr) {xs : List Op} {t k : List Lexeme} → Covers n xs t k →
        Covers n xs (attrs_text all attrs t) k
    attrs_skip [] h = h
    attrs_skip (attr ∷ attrs) h = attr_skip attr (attrs_skip attrs h)

    pub label_skip : (label : Option AsmLabel) {xs : List Op} {t k : List Lexeme} → Covers n xs t k →
        Covers n xs (label_text all label t) k
    label_skip None h = h
    label_skip (Some label) h = skip (group_skip label.group h)

    pub assert_skip : (it : Assert) {xs : List Op} {t k : List Lexeme} → Covers n xs t k
        → Covers n xs (assert_text all it t) k
    assert_skip it h = skip (group_skip it.group (skip h))

    pub qual_skip : (q : Qual) {xs : List Op} {t k : List Lexeme} → Covers n xs t k → Covers n xs (qual_text all q t) k
    qual_skip (quals.Word word) h = skip h
    qual_skip (quals.Element token) h = skips (tokens_between all token token) h
    qual_skip (quals.Index token) h = skip h

    quals_skip : (qs : List Qual) {xs : List Op} {t k : List Lexeme} → Covers n xs t k
        → Covers n xs (quals_text all qs t) k
    quals_skip [] h = h
    quals_skip (q ∷ qs) h = qual_skip q (quals_skip qs h)

    pub pointer_words_skip : (words : List PointerWord) {xs : List Op} {t k : List Lexeme} → Covers n xs t k →
        Covers n xs (pointer_words_text all words t) k
    pointer_words_skip [] h = h
    pointer_words_skip (pointer_words.Qual q ∷ words) h = qual_skip q (pointer_words_skip words h)
    pointer_words_skip (pointer_words.Attr attr ∷ words) h = attr_skip attr (pointer_words_skip words h)

    pub array_words_skip : (words : List ArrayWord) {xs : List Op} {t k : List Lexeme} → Covers n xs t k →
        Covers n xs (array_words_text all words t) k
    array_words_skip [] h = h
    array_words_skip (array_words.Static token ∷ words) h = skip (array_words_skip words h)
    array_words_skip (array_words.Qual q ∷ words) h = qual_skip q (array_words_skip words h)

    pub dots_skip : (dots : Option Dots) {xs : List Op} {t k : List Lexeme} → Covers n xs t k →
        Covers n xs (dots_text all dots t) k
    dots_skip None h = h
    dots_skip (Some dots) h = skip (quals_skip dots.quals (skip h))
