-- The first tokens of specifiers, expressions and declarators.
use Rattle.std.proofs.Common.{◌≡◌, ℕ, ◌≤◌, Bool, true, false, List, [], ◌∷◌, ◌++◌, Option, Some, None, inl, inr, refl, sym, ◌∙◌, ap, arith}
use Rattle.std.specs.Prelude.{is_some, not, ◌||◌}
use Rattle.c_words.specs.declared.kinds.TokenKind.{TokenKind}
use Rattle.c_words.specs.declared.kinds.TokenKind.TheVariants as kinds
use Rattle.c_words.specs.declared.kinds.Keyword.{Keyword}
use Rattle.c_words.specs.declared.kinds.Keyword.TheVariants as keywords
use Rattle.c_words.specs.declared.kinds.Punct.{Punct}
use Rattle.c_words.specs.declared.kinds.Punct.TheVariants as puncts
use Rattle.c_tree.specs.declared.lexeme.Lexeme.{Lexeme}
use Rattle.c_syntax.specs.declared.parts.Qual.TheVariants as quals
use Rattle.c_tree.specs.Tree.{Expr, operation, cast, prefix, sizeof_value, sizeof_type, extension, index, call, dot, arrow, post, compound, name_use, number_use, char_use, text_use, paren, statement_expr, va_arg, va_start, va_copy, offset, complex_part, label_use, compat, choose, generic, SpecWords, no_words, more_words, SpecWord, storage, thread, inline_word, noreturn, qualifier, basic, struct_type, enum_type, typedef_name, attribute, typeof_value, typeof_type, align, auto_word, enum_of, Declr, pointer, declr_name, declr_paren, array, params, abs_pointer, abs_paren, abs_array, abs_params, identifiers, base_name, no_declr, some_declr}
use Rattle.c_tree.specs.Text.{operator_text, expr_text, spec_words_text, spec_word_text, declr_text, tokens_between}
use Rattle.c_tree.specs.Specifiers.{IsMix}
use Rattle.c_tree.specs.WellFormed.{IsExpr, IsSpecWord, IsTypeWord, is_auto, has_auto, AreSpecWords, IsDeclr, IsElement, IsElementKind, is_type_former, begins_base, is_storage, is_qual, is_struct, is_sizeof, is_named, prefix_level}
use Rattle.c_tree.proofs.NamedDeclarators.{bare_is_named}
use Rattle.c_tree.proofs.Weaker.{type_words_are}
use Rattle.c_tree.proofs.NoType.{no_type_of_none}
use Rattle.c_specs.specs.declared.basic.Part.TheVariants as parts
use Rattle.c_specs.specs.declared.mix.Types.{Types}
use Rattle.c_specs.specs.declared.mix.Types.TheVariants.{Words, Named}
use Rattle.c_specs.specs.declared.mix.Mix.{Mix}
use Rattle.c_specs.specs.declared.mix.Class.TheVariants as classes
use Rattle.c_specs.specs.Basic.{part_of}
use Rattle.c_specs.specs.Mix.{class_of, then_class, goes_on, mix_of, with_types, with_part}
use Rattle.c_specs.specs.Laws.{MixesGoOn}
use Rattle.c_units.specs.HeldScopes.{HeldScopes, is_wide, names_type}
use Rattle.c_units.specs.Scoping.{behind, where_true, expr_scopes, operator_scopes, exprs_scopes, spec_word_scopes, spec_words_scopes}
use Rattle.c_reading.specs.declared.kinds.SpecStart.{SpecStart}
use Rattle.c_reading.specs.declared.kinds.SpecStart.TheVariants as starts
use Rattle.c_reading.specs.Reading.{IsNumbered, kind_at}
use Rattle.c_reading.specs.Specifying.{keyword_start, kind_start, typed_start, may_stand, start_at, is_start, begins_specs}
use Rattle.c_reading.specs.declared.kinds.Role.{Role}
use Rattle.c_reading.specs.declared.kinds.Role.TheVariants.{Declaring, Typed, Naming}
use Rattle.c_reading.specs.Tokens.{is_base_word}
use Rattle.c_reading.specs.Expressing.{begins_expr}
use Rattle.c_reading.proofs.Tails.{element_spelled}
use Rattle.c_reading.proofs.Forms.{behind_ok}
use Rattle.c_reading.proofs.Aims.{begins_named, begins_abstract, FitsRole, FirstLaws}
use Rattle.c_reading.proofs.ExprCompleteForms.{level_sixteen}

-- words of specifiers

-- no mix goes on with a word that is in no basic type
other_stops : (o : Option Mix)
    → is_some (elim o [ None ↦ None | Some mix ↦ with_types mix (with_part mix.types parts.Other) ]) ≡ true → ⊥
other_stops None e = absurd cc
other_stops (Some mix) e = by_types mix.types e
  where
    by_types : (types : Types) → is_some (with_types mix (with_part types parts.Other)) ≡ true → ⊥
    by_types Named e = absurd cc
    by_types (Words base mark) e = absurd cc

-- no mix goes on with a keyword that is no part of a basic type
stops : (keyword : Keyword) (words : SpecWords) → part_of keyword ≡ parts.Other
    → goes_on words (classes.Spells keyword) ≡ true → ⊥
stops keyword words other e = by_mix (mix_of words) e
  where
    by_mix : (o : Option Mix) → is_some (then_class o (classes.Spells keyword)) ≡ true → ⊥
    by_mix None e = absurd cc
    by_mix (Some mix) e =
        other_stops (Some mix) (ap (λ (part : _). is_some (with_types mix (with_part mix.types part))) (sym other) ∙ e)

-- a keyword with which some mix goes on begins a basic type word
pub basic_starts : (keyword : Keyword) (words : SpecWords) → goes_on words (classes.Spells keyword) ≡ true
    → keyword_start keyword ≡ starts.Basic keyword
basic_starts keywords.Void words e = refl
basic_starts keywords.Char words e = refl
basic_starts keywords.Short words e = refl
basic_starts keywords.Int words e = refl
basic_starts keywords.Long words e = refl
basic_starts keywords.Float words e = refl
basic_starts keywords.Double words e = refl
basic_starts keywords.Signed words e = refl
basic_starts keywords.Unsigned words e = refl
basic_starts keywords.Bool words e = refl
basic_starts keywords.Complex words e = refl
basic_starts keywords.AnyComplex words e = refl
basic_starts keywords.BaseWord words e = refl
basic_starts keywords.Int128 words e = refl
basic_starts keyword words e = absurd (stops keyword words refl e)

-- a storage keyword begins a storage word
pub storage_starts : (keyword : Keyword) → is_storage keyword ≡ true → keyword_start keyword ≡ starts.Storage keyword
storage_starts keywords.Typedef e = refl
storage_starts keywords.Extern e = refl
storage_starts keywords.Static e = refl
storage_starts keywords.Auto e = refl
storage_starts keywords.Register e = refl
storage_starts keyword e = absurd cc

-- a qualifier keyword that forms no type begins a qualifier
pub qual_starts : (keyword : Keyword) → is_qual keyword ≡ true → not (is_type_former keyword) ≡ true
    → keyword_start keyword ≡ starts.Word keyword
qual_starts keywords.Const e word = refl
qual_starts keywords.Volatile e word = refl
qual_starts keywords.Restrict e word = refl
qual_starts keywords.Atomic e word = refl
qual_starts keywords.Seg e word = refl
qual_starts keywords.AtomicType e word = absurd cc
qual_starts keyword e word = absurd cc

-- the words before the name of a type
abbrev pub former_start : Keyword → SpecStart
former_start keywords.AtomicType = starts.Atomic
former_start keyword = starts.Typeof

former_some : (keyword : Keyword) → is_start (former_start keyword) ≡ true
former_some keywords.AtomicType = refl
former_some keyword = refl

-- `struct` and `union` begin a struct type
pub struct_starts : (keyword : Keyword) → is_struct keyword ≡ true → keyword_start keyword ≡ starts.Struct keyword
struct_starts keywords.Struct e = refl
struct_starts keywords.Union e = refl
struct_starts keyword e = absurd cc

element_starts : (kind : TokenKind) → IsElementKind kind → kind_start kind ≡ starts.Element
element_starts (kinds.Qual lattice elem) h = refl
element_starts kind h = absurd h

-- what a word begins with
abbrev pub start_of : SpecWord → SpecStart
start_of (storage w) = starts.Storage w.keyword
start_of (thread token) = starts.Thread
start_of (inline_word token) = starts.Inline
start_of (noreturn token) = starts.Noreturn
start_of (qualifier (quals.Word w)) = starts.Word w.keyword
start_of (qualifier (quals.Element token)) = starts.Element
start_of (qualifier (quals.Index token)) = starts.Index
start_of (basic w) = starts.Basic w.keyword
start_of (struct_type w attrs tag body) = starts.Struct w.keyword
start_of (enum_type e) = starts.Enum
start_of (typedef_name n) = starts.Name n.name
start_of (attribute a) = starts.Attribute
start_of (typeof_value keyword opening e closing) = starts.Typeof
start_of (typeof_type w opening ws d closing) = former_start w.keyword
start_of (align a) = starts.Align
start_of (auto_word token) = starts.Auto

-- each specifier has a first token that begins one
pub starts_some : (w : SpecWord) → is_start (start_of w) ≡ true
starts_some (storage w) = refl
starts_some (thread token) = refl
starts_some (inline_word token) = refl
starts_some (noreturn token) = refl
starts_some (qualifier (quals.Word w)) = refl
starts_some (qualifier (quals.Element token)) = refl
starts_some (qualifier (quals.Index token)) = refl
starts_some (basic w) = refl
starts_some (struct_type w attrs tag body) = refl
starts_some (enum_type e) = refl
starts_some (typedef_name n) = refl
starts_some (attribute a) = refl
starts_some (typeof_value keyword opening e closing) = refl
starts_some (typeof_type w opening ws d closing) = former_some w.keyword
starts_some (align a) = refl
starts_some (auto_word token) = refl

-- a typedef name
abbrev pub is_name : SpecWord → Bool
is_name (typedef_name n) = true
is_name w = false

pub where_holds : (b : Bool) (s s' : HeldScopes) → where_true b s ≡ Some s' → b ≡ true
where_holds true s s' e = refl
where_holds false s s' e = absurd cc

name_starts : (s : HeldScopes) (typed : Bool) (name : ℕ) → names_type s name ≡ true → typed ≡ false
    → typed_start s typed (starts.Name name) ≡ starts.Name name
name_starts s typed name is not_typed = rw (is, not_typed) refl

-- no words are no mix
pub no_mix_of_none : (ws : SpecWords) → ws ≡ no_words → IsMix ws → ⊥
no_mix_of_none no_words is (inl one, stores) = no_type_of_none one.1
no_mix_of_none no_words is (inr one, stores) = let zero_is_one : 0 ≡ 1 = one.0 in omega (arith, zero_is_one)
no_mix_of_none (more_words w ws) is mix = absurd cc

module _ (all : List Lexeme) (numbered : IsNumbered all) (goes : MixesGoOn) where
  element_start_at : (s : HeldScopes) (typed : Bool) (token : ℕ) (k : List Lexeme)
      → IsElement (tokens_between all token token) →
      start_at s typed (kind_at (tokens_between all token token ++ k)) ≡ starts.Element
  element_start_at s typed token k h =
      let e = element_spelled all numbered token h in
      ap (λ (ts : List Lexeme). start_at s typed (kind_at (ts ++ k))) e.1
      ∙ ap (typed_start s typed) (element_starts e.0.kind e.3)

  former_typed : (s : HeldScopes) (typed : Bool) (keyword : Keyword) → is_type_former keyword ≡ true
      → typed_start s typed (keyword_start keyword) ≡ former_start keyword
  former_typed s typed keywords.Typeof e = refl
  former_typed s typed keywords.AtomicType e = refl
  former_typed s typed keyword e = absurd cc

  -- the text of a word that fits where it stands begins with what the word does
  pub word_starts : (s s' : HeldScopes) (typed : Bool) (words : SpecWords) (w : SpecWord) (k : List Lexeme)
      → IsSpecWord all w → spec_word_scopes w s ≡ Some s' → goes_on words (class_of w) ≡ true →
      (is_name w ≡ true → typed ≡ false) → start_at s typed (kind_at (spec_word_text all w k)) ≡ start_of w
  word_starts s s' typed words (storage w) k fits named on free =
      ap (typed_start s typed) (storage_starts w.keyword fits)
  word_starts s s' typed words (thread token) k fits named on free = refl
  word_starts s s' typed words (inline_word token) k fits named on free = refl
  word_starts s s' typed words (noreturn token) k fits named on free = refl
  word_starts s s' typed words (qualifier (quals.Word w)) k fits named on free =
      ap (typed_start s typed) (qual_starts w.keyword fits.0 fits.1)
  word_starts s s' typed words (qualifier (quals.Element token)) k fits named on free =
      element_start_at s typed token k fits.0
  word_starts s s' typed words (qualifier (quals.Index token)) k fits named on free = refl
  word_starts s s' typed words (basic w) k fits named on free =
      ap (typed_start s typed) (basic_starts w.keyword words on)
  word_starts s s' typed words (struct_type w attrs tag body) k fits named on free =
      ap (typed_start s typed) (struct_starts w.keyword fits.0)
  word_starts s s' typed words (enum_type (enum_of keyword attrs tag body)) k fits named on free = refl
  word_starts s s' typed words (typedef_name n) k fits named on free =
      name_starts s typed n.name (where_holds (names_type s n.name) s s' named) (free refl)
  word_starts s s' typed words (attribute a) k fits named on free = refl
  word_starts s s' typed words (typeof_value keyword opening e closing) k fits named on free = refl
  word_starts s s' typed words (typeof_type w opening ws d closing) k fits named on free =
      former_typed s typed w.keyword fits.0
  word_starts s s' typed words (align a) k fits named on free = refl
  word_starts s s' typed words (auto_word token) k fits named on free = refl

  words_begin : (ws : SpecWords) (s s' : HeldScopes) (k : List Lexeme) → IsMix ws → AreSpecWords all ws
      → spec_words_scopes ws s ≡ Some s' →
      begins_specs s (kind_at (spec_words_text all ws k)) ≡ true
  words_begin no_words s s' k mix fits named = absurd (no_mix_of_none no_words refl mix)
  words_begin (more_words w ws) s s' k mix fits named =
      let step = behind_ok (spec_word_scopes w s) (spec_words_scopes ws) s' named in
      ap is_start (word_starts s step.0 false no_words w (spec_words_text all ws k) fits.0 step.1
      (goes no_words w ws mix) (λ is. refl)) ∙ starts_some w

-- what a word begins with may stand where the word may

former_stands : (keyword : Keyword) → may_stand Naming (former_start keyword) ≡ true
former_stands keywords.AtomicType = refl
former_stands keyword = refl

former_stands_typed : (keyword : Keyword) → may_stand Typed (former_start keyword) ≡ true
former_stands_typed keywords.AtomicType = refl
former_stands_typed keyword = refl

-- a word of the name of a type may stand in one
stands : (w : SpecWord) → IsTypeWord w → may_stand Naming (start_of w) ≡ true
stands (storage w) h = absurd h
stands (thread a) h = absurd h
stands (inline_word a) h = absurd h
stands (noreturn a) h = absurd h
stands (qualifier (quals.Word w)) h = refl
stands (qualifier (quals.Element token)) h = refl
stands (qualifier (quals.Index token)) h = refl
stands (basic w) h = refl
stands (struct_type a b c d) h = refl
stands (enum_type e) h = refl
stands (typedef_name name) h = refl
stands (attribute a) h = refl
stands (typeof_value keyword opening e closing) h = refl
stands (typeof_type w opening ws d closing) h = former_stands w.keyword
stands (align a) h = absurd h
stands (auto_word token) h = absurd h

-- a word other than `__auto_type` may stand among the words of a parameter or a member
plain_stands : (w : SpecWord) → is_auto w ≡ false → may_stand Typed (start_of w) ≡ true
plain_stands (storage w) h = refl
plain_stands (thread a) h = refl
plain_stands (inline_word a) h = refl
plain_stands (noreturn a) h = refl
plain_stands (qualifier (quals.Word w)) h = refl
plain_stands (qualifier (quals.Element token)) h = refl
plain_stands (qualifier (quals.Index token)) h = refl
plain_stands (basic w) h = refl
plain_stands (struct_type a b c d) h = refl
plain_stands (enum_type e) h = refl
plain_stands (typedef_name name) h = refl
plain_stands (attribute a) h = refl
plain_stands (typeof_value keyword opening e closing) h = refl
plain_stands (typeof_type w opening ws d closing) h = former_stands_typed w.keyword
plain_stands (align a) h = refl
plain_stands (auto_word token) h = absurd cc

first_plain : (a b : Bool) → (a || b) ≡ false → a ≡ false
first_plain true b h = absurd cc
first_plain false b h = refl

rest_plain : (a b : Bool) → (a || b) ≡ false → b ≡ false
rest_plain true b h = absurd cc
rest_plain false b h = h

-- the first of words that fit a role may stand in it
pub role_stands : (all : List Lexeme) (role : Role) (w : SpecWord) (ws : SpecWords)
    → FitsRole all role (more_words w ws) → may_stand role (start_of w) ≡ true
role_stands all Declaring w ws fits = refl
role_stands all Typed w ws fits = plain_stands w (first_plain (is_auto w) (has_auto ws) fits.1)
role_stands all Naming w ws fits = stands w fits.1

-- the first of words that fit a role is a well-formed specifier
pub role_word : (all : List Lexeme) (role : Role) (w : SpecWord) (ws : SpecWords) → FitsRole all role (more_words w ws)
    → IsSpecWord all w
role_word all Declaring w ws fits = fits.0
role_word all Typed w ws fits = fits.0.0
role_word all Naming w ws fits = fits.0

-- the words behind the first of words that fit a role fit it too
pub role_words : (all : List Lexeme) (role : Role) (w : SpecWord) (ws : SpecWords) → FitsRole all role (more_words w ws)
    → FitsRole all role ws
role_words all Declaring w ws fits = fits.1
role_words all Typed w ws fits = (fits.0.1, rest_plain (is_auto w) (has_auto ws) fits.1)
role_words all Naming w ws fits = fits.2

module _ (all : List Lexeme) (numbered : IsNumbered all) (goes : MixesGoOn) where
  words_stand : (role : Role) (ws : SpecWords) (s s' : HeldScopes) (k : List Lexeme) → IsMix ws → FitsRole all role ws
      → spec_words_scopes ws s ≡ Some s' →
      may_stand role (start_at s false (kind_at (spec_words_text all ws k))) ≡ true
  words_stand role no_words s s' k mix fits named = absurd (no_mix_of_none no_words refl mix)
  words_stand role (more_words w ws) s s' k mix fits named =
      let step = behind_ok (spec_word_scopes w s) (spec_words_scopes ws) s' named in
      ap (may_stand role) (word_starts all numbered goes s step.0 false no_words w (spec_words_text all ws k)
      (role_word all role w ws fits) step.1 (goes no_words w ws mix) (λ is. refl))
      ∙ role_stands all role w ws fits

-- expressions

-- a sign that is a prefix operator, of level 16 at most, begins an expression
prefix_begins : (s : HeldScopes) (p : Punct) → prefix_level p ≤ 16 → begins_expr s (kinds.Punct p) ≡ true
prefix_begins s puncts.PlusPlus h = refl
prefix_begins s puncts.MinusMinus h = refl
prefix_begins s puncts.Ampersand h = refl
prefix_begins s puncts.Star h = refl
prefix_begins s puncts.Plus h = refl
prefix_begins s puncts.Minus h = refl
prefix_begins s puncts.Tilde h = refl
prefix_begins s puncts.Bang h = refl
prefix_begins s p h = absurd (omega (arith, h))

-- `sizeof` and `alignof` begin an expression
sizeof_begins : (s : HeldScopes) (keyword : Keyword) → is_sizeof keyword ≡ true
    → begins_expr s (kinds.Keyword keyword) ≡ true
sizeof_begins s keywords.Sizeof h = refl
sizeof_begins s keywords.Alignof h = refl
sizeof_begins s keyword h = absurd cc

-- texts are at least one
texts_begin : (all : List Lexeme) (texts : List ℕ) (s : HeldScopes) (k : List Lexeme) → (texts ≡ [] → ⊥)
    → begins_expr s (kind_at (expr_text all (text_use texts) k)) ≡ true
texts_begin all [] s k h = absurd (h refl)
texts_begin all (x ∷ xs) s k h = refl

module _ (all : List Lexeme) where
  expr_begins : (e : Expr) (s s' : HeldScopes) (k : List Lexeme) → IsExpr all e → expr_scopes e s ≡ Some s'
      → begins_expr s (kind_at (expr_text all e k)) ≡ true
  expr_begins (operation e op token e2) s s' k fits named =
      let a = behind_ok (behind (expr_scopes e s) (operator_scopes op)) (expr_scopes e2) s' named in
      let b = behind_ok (expr_scopes e s) (operator_scopes op) a.0 a.1 in
      expr_begins e s b.0 (operator_text all op token (expr_text all e2 k)) fits.0 b.1
  expr_begins (cast opening ws d closing e) s s' k fits named = refl
  expr_begins (prefix token p e) s s' k fits named =
      let most = level_sixteen e in
      prefix_begins s p (omega (arith, most, fits.1))
  expr_begins (sizeof_value word e) s s' k fits named = sizeof_begins s word.keyword fits.1
  expr_begins (sizeof_type word opening ws d closing) s s' k fits named = sizeof_begins s word.keyword fits.3
  expr_begins (extension keyword e) s s' k fits named = refl
  expr_begins (index e opening e2 closing) s s' k fits named =
      let a = behind_ok (expr_scopes e s) (expr_scopes e2) s' named in
      expr_begins e s a.0 _ fits.0 a.1
  expr_begins (call e opening es closing) s s' k fits named =
      let a = behind_ok (expr_scopes e s) (exprs_scopes es) s' named in
      expr_begins e s a.0 _ fits.0 a.1
  expr_begins (dot e token name) s s' k fits named = expr_begins e s s' _ fits.0 named
  expr_begins (arrow e token name) s s' k fits named = expr_begins e s s' _ fits.0 named
  expr_begins (post e token p) s s' k fits named = expr_begins e s s' _ fits.0 named
  expr_begins (compound opening ws d closing list) s s' k fits named = refl
  expr_begins (name_use token name) s s' k fits named = where_holds (not (names_type s name)) s s' named
  expr_begins (number_use token) s s' k fits named = refl
  expr_begins (char_use token) s s' k fits named = refl
  expr_begins (text_use texts) s s' k fits named = texts_begin all texts s k fits
  expr_begins (paren opening e closing) s s' k fits named = refl
  expr_begins (statement_expr opening opening2 items closing closing2) s s' k fits named = refl
  expr_begins (va_arg keyword opening e separator ws d closing) s s' k fits named = refl
  expr_begins (va_start keyword opening e separator e2 closing) s s' k fits named = refl
  expr_begins (va_copy keyword opening e separator e2 closing) s s' k fits named = refl
  expr_begins (offset keyword opening ws d separator name steps closing) s s' k fits named = refl
  expr_begins (complex_part keyword e) s s' k fits named = refl
  expr_begins (label_use token name) s s' k fits named = where_holds (is_wide s) s s' named
  expr_begins (compat keyword opening ws d separator ws2 d2 closing) s s' k fits named = refl
  expr_begins (choose keyword opening e separator e2 separator2 e3 closing) s s' k fits named = refl
  expr_begins (generic keyword opening e xs closing) s s' k fits named = refl

  -- declarators

  named_begins : (d : Declr) (k : List Lexeme) → IsDeclr all d → is_named d ≡ true
      → begins_named (kind_at (declr_text all d k)) ≡ true
  named_begins (pointer star words d) k fits is = refl
  named_begins (declr_name token name) k fits is = refl
  named_begins (declr_paren opening attrs d closing) k fits is = refl
  named_begins (array d opening words size closing) k fits is = named_begins d _ fits.0 fits.1
  named_begins (params d opening ps dots closing) k fits is = named_begins d _ fits.0 fits.1
  named_begins (identifiers d opening names closing) k fits is = named_begins d _ fits.0 (bare_is_named d fits.1)
  named_begins (base_name token) k fits is = refl
  named_begins d k fits is = absurd cc

  -- whether a declarator begins with a base word
  pub named_base : (d : Declr) (k : List Lexeme) → IsDeclr all d → is_named d ≡ true
      → is_base_word (kind_at (declr_text all d k)) ≡ begins_base d
  named_base (pointer star words d) k fits is = refl
  named_base (declr_name token name) k fits is = refl
  named_base (declr_paren opening attrs d closing) k fits is = refl
  named_base (array d opening words size closing) k fits is = named_base d _ fits.0 fits.1
  named_base (params d opening ps dots closing) k fits is = named_base d _ fits.0 fits.1
  named_base (identifiers d opening names closing) k fits is = named_base d _ fits.0 (bare_is_named d fits.1)
  named_base (base_name token) k fits is = refl
  named_base d k fits is = absurd cc

  abstract_begins : (d : Declr) (k : List Lexeme) → IsDeclr all d → is_named d ≡ false
      → begins_abstract (kind_at (declr_text all d k)) ≡ true
  abstract_begins (abs_pointer star words d) k fits is = refl
  abstract_begins (abs_paren opening attrs d closing) k fits is = refl
  abstract_begins (abs_array no_declr opening words size closing) k fits is = refl
  abstract_begins (abs_array (some_declr d) opening words size closing) k fits is =
      abstract_begins d _ fits.0.0 fits.0.1
  abstract_begins (abs_params no_declr opening ps dots closing) k fits is = refl
  abstract_begins (abs_params (some_declr d) opening ps dots closing) k fits is = abstract_begins d _ fits.0.0 fits.0.1
  abstract_begins d k fits is = absurd cc

-- specifiers, expressions and declarators begin with the tokens that they are told by
pub first_laws : (goes : MixesGoOn) (all : List Lexeme) → IsNumbered all → FirstLaws all
first_laws goes all numbered = record {
  words_begin = words_begin all numbered goes;
  type_words_begin =
      λ ws s s' k mix fits named. words_begin all numbered goes ws s s' k mix (type_words_are all ws fits) named;
  words_stand = words_stand all numbered goes;
  expr_begins = expr_begins all;
  named_begins = named_begins all;
  named_base = named_base all;
  abstract_begins = abstract_begins all;
}
