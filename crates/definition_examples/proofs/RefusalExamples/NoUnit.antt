-- No unit begins with `long float`, whatever its height: no mix does, and nothing that stands behind specifiers
-- begins with a keyword of a basic type.
use Rattle.std.specs.Prelude.{◌++◌, Some, is_some, All}
use Rattle.std.proofs.Common.{◌≡◌, ◌≢◌, ℕ, Bool, true, false, List, [], ◌∷◌, arith, refl, sym, ap, subst, ◌∙◌}
use Rattle.c_words.specs.declared.kinds.TokenKind.{TokenKind}
use Rattle.c_words.specs.declared.kinds.TokenKind.TheVariants as kinds
use Rattle.c_words.specs.declared.kinds.Keyword.{Keyword}
use Rattle.c_words.specs.declared.kinds.Keyword.TheVariants as words
use Rattle.c_words.specs.declared.kinds.Punct.TheVariants as signs
use Rattle.c_syntax.specs.declared.parts.Attr.{Attr}
use Rattle.c_syntax.specs.declared.parts.Qual.TheVariants as quals
use Rattle.c_tree.specs.declared.lexeme.Lexeme.{Lexeme}
use Rattle.c_tree.specs.Tree.{SpecWords, SpecWord, no_words, more_words, storage, thread, inline_word, noreturn, qualifier, basic, struct_type, enum_type, enum_of, typedef_name, attribute, typeof_value, typeof_type, align, auto_word, identifiers, base_name, Declr, pointer, declr_name, declr_paren, array, params, abs_pointer, abs_paren, abs_array, abs_params, InitDeclrs, no_init_declrs, more_init_declrs, declaration, decl_declaration, decl_assert}
use Rattle.c_tree.specs.Text.{tokens_between, attrs_text, spec_word_text, spec_words_text, declr_text, init_declrs_text}
use Rattle.c_tree.specs.WellFormed.{is_storage, is_qual, is_struct, is_type_former, is_named, IsElement, IsElementKind, IsSpecWord, AreSpecWords, IsDeclr, IsInitStart, AreInitDeclrs}
use Rattle.c_tree.specs.Specifiers.{IsMix}
use Rattle.c_tree.specs.Unit.{Item, function_item, old_function_item, decl_item, asm_item, semi_item, item_text, items_text, IsItem}
use Rattle.c_tree.proofs.NamedDeclarators.{lister_is_named, bare_is_named}
use Rattle.c_specs.specs.declared.mix.Class.{Class}
use Rattle.c_specs.specs.Mix.{is_whole_mix, goes_on, class_of, then_class, no_mix}
use Rattle.c_specs.specs.Laws.{WholeAreMixes, MixesGoOn}
use Rattle.c_units.specs.Units.{numbered, numbered_from}
use Rattle.refusal_rules.proofs.Weaker.{function_is_named}
use Rattle.refusal_rules.specs.Allowed.{BeginsUnitOfAnyHeight}

-- a keyword, but for a base word, which may be the name of a typedef
is_keyword : TokenKind → Bool
is_keyword (kinds.Keyword words.BaseWord) = false
is_keyword (kinds.Keyword word) = true
is_keyword kind = false

-- the kind of a first token
first_kind : List Lexeme → TokenKind
first_kind [] = kinds.End
first_kind (t ∷ k) = t.kind

rest_of : List Lexeme → List Lexeme
rest_of [] = []
rest_of (t ∷ k) = k

-- a keyword that begins a word of a basic type and nothing else
pub record IsBasicWord (word : Keyword) : Type 0 where
  pub no_storage : is_storage word ≡ false
  pub no_qual : is_qual word ≡ false
  pub no_struct : is_struct word ≡ false
  pub no_thread : word ≢ words.Thread
  pub no_inline : word ≢ words.Inline
  pub no_noreturn : word ≢ words.Noreturn
  pub no_enum : word ≢ words.Enum
  pub no_attribute : word ≢ words.Attribute
  pub no_extension : word ≢ words.Extension
  pub no_asm : word ≢ words.Asm
  pub no_assert : word ≢ words.StaticAssert
  pub no_typeof : word ≢ words.Typeof
  pub no_type_former : is_type_former word ≡ false
  pub no_align : word ≢ words.Alignas
  pub no_auto : word ≢ words.AutoType

-- `long` is a word of a basic type
long_is_basic : IsBasicWord words.Long
long_is_basic =
    record {
      no_storage = refl;
      no_qual = refl;
      no_struct = refl;
      no_thread = λ e. absurd cc;
      no_inline = λ e. absurd cc;
      no_noreturn = λ e. absurd cc;
      no_enum = λ e. absurd cc;
      no_attribute = λ e. absurd cc;
      no_extension = λ e. absurd cc;
      no_asm = λ e. absurd cc;
      no_assert = λ e. absurd cc;
      no_typeof = λ e. absurd cc;
      no_type_former = refl;
      no_align = λ e. absurd cc;
      no_auto = λ e. absurd cc;
    }

-- `float` is a word of a basic type
float_is_basic : IsBasicWord words.Float
float_is_basic =
    record {
      no_storage = refl;
      no_qual = refl;
      no_struct = refl;
      no_thread = λ e. absurd cc;
      no_inline = λ e. absurd cc;
      no_noreturn = λ e. absurd cc;
      no_enum = λ e. absurd cc;
      no_attribute = λ e. absurd cc;
      no_extension = λ e. absurd cc;
      no_asm = λ e. absurd cc;
      no_assert = λ e. absurd cc;
      no_typeof = λ e. absurd cc;
      no_type_former = refl;
      no_align = λ e. absurd cc;
      no_auto = λ e. absurd cc;
    }

keyword_is : (a b : Keyword) → kinds.Keyword a ≡ kinds.Keyword b → a ≡ b
keyword_is a b e = cc

not_both : (b : Bool) → b ≡ true → b ≡ false → ⊥
not_both b is other = absurd cc

-- an element is one token, and no keyword
element_first : (ts k : List Lexeme) (word : Keyword) → IsElement ts → first_kind (ts ++ k) ≡ kinds.Keyword word → ⊥
unfolding first_kind
element_first [] k word h e = absurd h
element_first (t ∷ []) k word h e = let g : IsElementKind (kinds.Keyword word) = subst IsElementKind e h in absurd g
element_first (t ∷ u ∷ ts) k word h e = absurd h

abbrev long_word : SpecWord
long_word = basic (record { token = 0; keyword = words.Long })

abbrev float_word : SpecWord
float_word = basic (record { token = 0; keyword = words.Float })

module _ (whole_are : WholeAreMixes) (goes : MixesGoOn) (all : List Lexeme) where
  -- a word of specifiers that such a keyword begins
  basic_first : (w : SpecWord) (k : List Lexeme) (word : Keyword) → IsBasicWord word → IsSpecWord all w
      → first_kind (spec_word_text all w k) ≡ kinds.Keyword word →
      (class_of w ≡ class_of (basic (record { token = 0; keyword = word }))) × (rest_of (spec_word_text all w k) ≡ k)
  unfolding first_kind rest_of
  basic_first (storage w) k word is h e =
      absurd (not_both (is_storage word)
      (subst (λ (a : Keyword). is_storage a ≡ true) (keyword_is w.keyword word e) h) is.no_storage)
  basic_first (thread token) k word is h e = absurd (is.no_thread (sym (keyword_is words.Thread word e)))
  basic_first (inline_word token) k word is h e = absurd (is.no_inline (sym (keyword_is words.Inline word e)))
  basic_first (noreturn token) k word is h e = absurd (is.no_noreturn (sym (keyword_is words.Noreturn word e)))
  basic_first (qualifier (quals.Word w)) k word is h e =
      absurd
      (not_both (is_qual word) (subst (λ (a : Keyword). is_qual a ≡ true) (keyword_is w.keyword word e) h.0) is.no_qual)
  basic_first (qualifier (quals.Element token)) k word is h e =
      absurd (element_first (tokens_between all token token) k word h.0 e)
  basic_first (qualifier (quals.Index token)) k word is h e = absurd cc
  basic_first (basic w) k word is h e =
      (ap (λ (a : Keyword). class_of (basic (record { token = 0; keyword = a }))) (keyword_is w.keyword word e), refl)
  basic_first (struct_type w attrs tag body) k word is h e =
      absurd (not_both (is_struct word)
      (subst (λ (a : Keyword). is_struct a ≡ true) (keyword_is w.keyword word e) h.0) is.no_struct)
  basic_first (enum_type (enum_of keyword attrs tag body)) k word is h e =
      absurd (is.no_enum (sym (keyword_is words.Enum word e)))
  basic_first (typedef_name name) k word is h e = absurd cc
  basic_first (attribute attr) k word is h e = absurd (is.no_attribute (sym (keyword_is words.Attribute word e)))
  basic_first (typeof_value keyword opening e1 closing) k word is h e =
      absurd (is.no_typeof (sym (keyword_is words.Typeof word e)))
  basic_first (typeof_type w opening ws d closing) k word is h e =
      absurd (not_both (is_type_former word)
      (subst (λ (a : Keyword). is_type_former a ≡ true) (keyword_is w.keyword word e) h.0) is.no_type_former)
  basic_first (align attr) k word is h e = absurd (is.no_align (sym (keyword_is words.Alignas word e)))
  basic_first (auto_word token) k word is h e = absurd (is.no_auto (sym (keyword_is words.AutoType word e)))

  -- no declarator with a name begins with a keyword
  declr_first : (d : Declr) (k : List Lexeme) → is_named d ≡ true → IsDeclr all d
      → is_keyword (first_kind (declr_text all d k)) ≡ false
  unfolding first_kind is_keyword
  declr_first (pointer star words d) k named h = refl
  declr_first (declr_name token name) k named h = refl
  declr_first (declr_paren opening attrs d closing) k named h = refl
  declr_first (array d opening words size closing) k named h = declr_first d _ h.1 h.0
  declr_first (params d opening ps dots closing) k named h = declr_first d _ h.1 h.0
  declr_first (identifiers d opening names closing) k named h = declr_first d _ (bare_is_named d h.1) h.0
  declr_first (base_name token) k named h = refl
  declr_first (abs_pointer star words d) k named h = absurd cc
  declr_first (abs_paren opening attrs d closing) k named h = absurd cc
  declr_first (abs_array d opening words size closing) k named h = absurd cc
  declr_first (abs_params d opening ps dots closing) k named h = absurd cc

  behind_none : (attrs : List Attr) (k : List Lexeme) → attrs ≡ [] → is_keyword (first_kind k) ≡ false
      → is_keyword (first_kind (attrs_text all attrs k)) ≡ false
  behind_none [] k e free = free
  behind_none (a ∷ attrs) k e free = absurd cc

  init_declrs_first : (ds : InitDeclrs) (semi : ℕ) (k : List Lexeme) → IsInitStart ds → AreInitDeclrs all ds →
      is_keyword (first_kind (init_declrs_text all ds (record {
        kind =
            kinds.Punct signs.Semicolon;
        at = semi;
      } ∷ k))) ≡ false
  unfolding first_kind is_keyword
  init_declrs_first no_init_declrs semi k start h = refl
  init_declrs_first (more_init_declrs attrs d asm_label attrs2 init ds) semi k start h =
      behind_none attrs _ start (declr_first d _ h.2 h.1)

  -- specifiers do not begin with `long float` and go on with what is no keyword
  words_first : (ws : SpecWords) (k rest : List Lexeme) (a b : ℕ) → IsMix ws → AreSpecWords all ws
      → is_keyword (first_kind k) ≡ false →
      spec_words_text all ws k ≡ record {
        kind =
            kinds.Keyword words.Long;
        at = a;
      } ∷ record { kind = kinds.Keyword words.Float; at = b } ∷ rest → ⊥
  unfolding first_kind rest_of is_keyword
  words_first no_words k rest a b mix h free e =
      let f : is_whole_mix no_words ≡ true = (whole_are no_words).1 mix in absurd cc
  words_first (more_words w no_words) k rest a b mix h free e =
      let long = basic_first w k words.Long long_is_basic h.0 (ap first_kind e) in
      let next : first_kind k ≡ kinds.Keyword words.Float = ap first_kind (sym long.1 ∙ ap rest_of e) in
      not_both (is_keyword (first_kind k)) (ap is_keyword next) free
  words_first (more_words w (more_words v ws)) k rest a b mix h free e =
      let long =
      basic_first w (spec_words_text all (more_words v ws) k) words.Long long_is_basic h.0 (ap first_kind e) in
      let next : first_kind (spec_words_text all (more_words v ws) k) ≡ kinds.Keyword words.Float =
      ap first_kind (sym long.1 ∙ ap rest_of e) in
      let float = basic_first v (spec_words_text all ws k) words.Float float_is_basic h.1.0 next in
      let on : goes_on (more_words w no_words) (class_of v) ≡ true = goes (more_words w no_words) v ws mix in
      let with_float : is_some (then_class (then_class (Some no_mix) (class_of w)) (class_of float_word)) ≡ true =
      subst (λ (c : Class). is_some (then_class (then_class (Some no_mix) (class_of w)) c) ≡ true) float.0 on in
      let with_long : is_some (then_class (then_class (Some no_mix) (class_of long_word)) (class_of float_word))
      ≡ true =
      subst (λ (c : Class). is_some (then_class (then_class (Some no_mix) c) (class_of float_word))
      ≡ true) long.0 with_float in
      absurd cc

  no_item : (item : Item) (k rest : List Lexeme) (a b : ℕ) → IsItem all item →
      item_text all item k ≡ record {
        kind =
            kinds.Keyword words.Long;
        at = a;
      } ∷ record { kind = kinds.Keyword words.Float; at = b } ∷ rest → ⊥
  unfolding first_kind
  no_item (function_item [] ws d attrs opening items closing) k rest a b h e =
      words_first ws _ rest a b h.0 h.1 (declr_first d _ (function_is_named d h.5) h.4) e
  no_item (function_item (t ∷ exts) ws d attrs opening items closing) k rest a b h e =
      long_is_basic.no_extension (sym (keyword_is words.Extension words.Long (ap first_kind e)))
  no_item (old_function_item [] ws d attrs ds opening items closing) k rest a b h e =
      words_first ws _ rest a b h.0 h.1 (declr_first d _ (lister_is_named d h.5) h.4) e
  no_item (old_function_item (t ∷ exts) ws d attrs ds opening items closing) k rest a b h e =
      long_is_basic.no_extension (sym (keyword_is words.Extension words.Long (ap first_kind e)))
  no_item (decl_item (decl_declaration (declaration [] ws ds semi))) k rest a b h e =
      words_first ws _ rest a b h.0 h.1 (init_declrs_first ds semi k h.2 h.3) e
  no_item (decl_item (decl_declaration (declaration (t ∷ exts) ws ds semi))) k rest a b h e =
      long_is_basic.no_extension (sym (keyword_is words.Extension words.Long (ap first_kind e)))
  no_item (decl_item (decl_assert it)) k rest a b h e =
      long_is_basic.no_assert (sym (keyword_is words.StaticAssert words.Long (ap first_kind e)))
  no_item (asm_item keyword group semi) k rest a b h e =
      long_is_basic.no_asm (sym (keyword_is words.Asm words.Long (ap first_kind e)))
  no_item (semi_item semi) k rest a b h e =
      let f : kinds.Punct signs.Semicolon ≡ kinds.Keyword words.Long = ap first_kind e in absurd cc

module _ (whole_are : WholeAreMixes) (goes : MixesGoOn) where
  no_items : (all rest end : List Lexeme) (items : List Item) (a b : ℕ) → All (IsItem all) items
      → is_keyword (first_kind end) ≡ false →
      items_text all items end ≡ record {
        kind =
            kinds.Keyword words.Long;
        at = a;
      } ∷ record { kind = kinds.Keyword words.Float; at = b } ∷ rest → ⊥
  unfolding first_kind is_keyword
  no_items all rest end [] a b h free e = not_both (is_keyword (first_kind end)) (ap is_keyword (ap first_kind e)) free
  no_items all rest end (item ∷ items) a b h free e =
      no_item whole_are goes all item (items_text all items end) rest a b (h 0 item (omega arith)) e

  pub no_unit : ¬ BeginsUnitOfAnyHeight false (kinds.Keyword words.Long ∷ kinds.Keyword words.Float ∷ [])
  unfolding first_kind is_keyword
  no_unit b =
      no_items (numbered (kinds.Keyword words.Long ∷ kinds.Keyword words.Float ∷ b.behind))
      (numbered_from 2 b.behind) _ b.items 0 1 b.formed.parts refl (sym b.formed.tokens.spelled)
