-- What each form that holds specifiers or declarators makes of names, where its parts do what they should.
use Rattle.std.proofs.Common.{◌≡◌, ℕ, suc, Bool, true, false, ◌&&◌, if◌then◌else◌, List, [], ◌∷◌, ◌++◌, length, Option, None, Some, refl, ◌∙◌, ap, subst}
use Rattle.std.proofs.lemmas.List.{append-nil}
use Rattle.qual_base.proofs.Tests.{and_second, and_first}
use Rattle.c_words.specs.declared.kinds.Keyword.{Keyword}
use Rattle.c_words.specs.declared.kinds.Keyword.TheVariants as keywords
use Rattle.c_syntax.specs.declared.parts.Identifier.{Identifier}
use Rattle.c_syntax.specs.declared.parts.Attr.{Attr}
use Rattle.c_syntax.specs.declared.parts.ArrayWord.{ArrayWord}
use Rattle.c_syntax.specs.declared.parts.AsmLabel.{AsmLabel}
use Rattle.c_syntax.specs.declared.parts.PointerWord.{PointerWord}
use Rattle.c_syntax.specs.declared.parts.Word.{Word}
use Rattle.c_tree.specs.Tree.{Expr, SpecWords, no_words, more_words, SpecWord, storage, thread, inline_word, noreturn, qualifier, basic, struct_type, enum_type, typedef_name, attribute, SomeBody, no_body, some_body, StructItems, StructItem, member, MemDeclrs, no_mem_declrs, more_mem_declrs, MemDeclr, named, unnamed, SomeValue, EnumType, enum_of, no_enum_body, some_enum_body, Enumerators, Declr, pointer, declr_name, declr_paren, array, params, abs_pointer, abs_paren, abs_array, abs_params, SomeDeclr, no_declr, some_declr, SomeSize, Params, no_params, more_params, SomeInit, InitDeclrs, no_init_declrs, more_init_declrs, Dots, identifiers, base_name, typeof_value, typeof_type, align, auto_word}
use Rattle.tape_ops.specs.declared.op.Op.{Op}
use Rattle.tape_ops.specs.declared.op.Op.TheVariants as ops
use Rattle.tape_ops.specs.declared.declarator.DeclrOp.TheVariants as declrs
use Rattle.tape_ops.specs.declared.specifier.SpecOp.TheVariants as specs
use Rattle.tape_ops.specs.declared.specifier.TagKind.{TagKind}
use Rattle.tape_ops.specs.declared.specifier.TagKind.TheVariants as tags
use Rattle.type_table.specs.Types.{Words, CType, base, void}
use Rattle.name_rules.specs.Spellings.{Place, Spelling, place, Named}
use Rattle.name_rules.specs.Scopes.{Names, enter, enumerator_role}
use Rattle.name_rules.specs.Pieces.{decayed, applied, no_params_if}
use Rattle.name_rules.specs.Declaring.{type_named, tag_type, untagged_number, declared_some, declared_here, declared_param, own_where, keep, Begun}
use Rattle.name_rules.specs.NameSteps.State.{State, no_specifiers}
use Rattle.name_rules.specs.NameSteps.Steps.{untagged_by, body, linked_some}
use Rattle.type_rules.specs.Naming as names
use Rattle.type_rules.specs.Naming.{Typed, Pieced, typed, expr_named, some_size_named, with_typed, with_pieced, body_begun, words_behind, tag_named, words_named, word_named, struct_named, struct_items_named, struct_item_named, unnamed_where, unnamed_among, unnamed_by, mem_declrs_named, mem_declr_named, some_value_named, enum_named, enumerators_named, declr_named, some_declr_named, params_named, init_declrs_named, some_init_named, declaration_named, is_tag_alone}
use Rattle.type_rules.specs.Tokens as trees
use Rattle.c_tree.specs.Firsts.{first_word}
use Rattle.type_rules.specs.Tokens.{declared_name, some_declared_name, is_bare, leaves_void, leave_void}
use Rattle.c_tape.specs.Tests as tests
use Rattle.c_tape.specs.Tape.{expr_tape, some_size_tape, spec, declr, specs_with, type_name_with, params_with, tag_tape, body_tape, words_tape, word_tape, struct_tape, struct_items_tape, members_tape, unnamed_tape, unnamed_word_tape, mem_declrs_tape, mem_declr_tape, some_value_tape, enum_tape, enumerators_tape, some_declr_tape, contents, some_contents, params_tape, some_init_tape, init_declrs_tape, struct_item_tape}
use Rattle.resolve_laws.proofs.NameLaws.Running.{between, among_words, declaring, Goes, ◌▸◌, one, stays, arriving, in_turn}
use Rattle.resolve_laws.proofs.NameLaws.Saying.{Says, quietly_says}
use Rattle.resolve_laws.proofs.NameLaws.Agreeing.{same_void, same_kind, same_none}
use Rattle.resolve_laws.proofs.NameLaws.Pieces.{listed_behind, lists_of, lists_push, pieces_make}

-- the storage words of specifiers, and `inline`, behind others
abbrev pub storage_word : SpecWord → List Keyword → List Keyword
storage_word (storage word) words = words ++ word.keyword ∷ []
storage_word (thread token) words = words
storage_word (inline_word token) words = words ++ keywords.Inline ∷ []
storage_word (noreturn token) words = words
storage_word (qualifier q) words = words
storage_word (basic word) words = words
storage_word (struct_type word attrs tag body) words = words
storage_word (enum_type e) words = words
storage_word (typedef_name name) words = words
storage_word (attribute attr) words = words
storage_word (typeof_value keyword opening e closing) words = words
storage_word (typeof_type word opening ws d closing) words = words
storage_word (align attr) words = words
storage_word (auto_word token) words = words

abbrev pub storage_behind : SpecWords → List Keyword → List Keyword
storage_behind no_words words = words
storage_behind (more_words word ws) words = storage_behind ws (storage_word word words)

-- whether a struct without a tag that has a body is one of the words, behind others
abbrev pub untagged_begins : TagKind → Option Identifier → Bool → Bool
untagged_begins kind None b = untagged_by kind b
untagged_begins kind (Some tag) b = b

abbrev pub untagged_body : TagKind → Option Identifier → SomeBody → Bool → Bool
untagged_body kind tag no_body b = b
untagged_body kind tag (some_body opening items closing) b = untagged_begins kind tag b

-- of a specifier: a struct or union that has a body and no tag makes the flag true, all others leave it
abbrev pub untagged_word : SpecWord → Bool → Bool
untagged_word (storage word) b = b
untagged_word (thread token) b = b
untagged_word (inline_word token) b = b
untagged_word (noreturn token) b = b
untagged_word (qualifier q) b = b
untagged_word (basic word) b = b
untagged_word (struct_type word attrs tag body) b = untagged_body (names.tag_kind word.keyword) tag body b
untagged_word (enum_type e) b = b
untagged_word (typedef_name name) b = b
untagged_word (attribute attr) b = b
untagged_word (typeof_value keyword opening e closing) b = b
untagged_word (typeof_type word opening ws d closing) b = b
untagged_word (align attr) b = b
untagged_word (auto_word token) b = b

abbrev pub untagged_behind : SpecWords → Bool → Bool
untagged_behind no_words b = b
untagged_behind (more_words word ws) b = untagged_behind ws (untagged_word word b)

-- what is left of it behind declarators: the first name uses it
abbrev pub untagged_left : InitDeclrs → Bool → Bool
untagged_left no_init_declrs b = b
untagged_left (more_init_declrs attrs d asm_label attrs2 init ds) b = untagged_left ds false

-- in a list of parameters, with these types so far
abbrev pub listing : State → Option Place → List CType → Names → State
listing st own types s =
    record st {
      names = s;
      specifiers = no_specifiers;
      parameters = record { own = own; types = types; identifiers = [] } ∷ st.parameters;
    }

length_push : (types : List CType) (t : CType) → length (types ++ t ∷ []) ≡ suc (length types)
length_push [] t = refl
length_push (x ∷ types) t = ap suc (length_push types t)

-- the names of `void` as no parameter

module _ (u : Spelling) where
  void_word : (alone : Bool) (word : SpecWord) (t : CType) (s : Names) → leaves_void word ≡ true
      → (word_named u alone word t s).names ≡ s
  void_word alone (storage word) t s h = refl
  void_word alone (thread token) t s h = refl
  void_word alone (inline_word token) t s h = refl
  void_word alone (noreturn token) t s h = refl
  void_word alone (qualifier q) t s h = refl
  void_word alone (basic word) t s h = refl
  void_word alone (struct_type word attrs tag body) t s h = absurd cc
  void_word alone (enum_type e) t s h = absurd cc
  void_word alone (typedef_name name) t s h = refl
  void_word alone (attribute attr) t s h = refl
  void_word alone (typeof_value keyword opening e closing) t s h = absurd cc
  void_word alone (typeof_type word opening ws d closing) t s h = absurd cc
  void_word alone (align attr) t s h = refl
  void_word alone (auto_word token) t s h = absurd cc

  void_words : (alone : Bool) (ws : SpecWords) (t : CType) (w : Words) (s : Names) → leave_void ws ≡ true
      → (words_named u alone ws t w s).names ≡ s
  void_words alone no_words t w s h = refl
  void_words alone (more_words word ws) t w s h =
      void_words alone ws (word_named u alone word t s).type (words_behind u word w) (word_named u alone word t s).names
      (and_second (leaves_void word) _ h)
      ∙ void_word alone word t s (and_first (leaves_void word) _ h)

  pub none_names : (ps : Params) (own : Option Place) (s : Names) → trees.says_none ps ≡ true
      → (params_named u 0 own ps s).names ≡ s
  none_names no_params own s h = refl
  none_names (more_params ws no_declr attrs no_params) own s h = void_words false ws (base []) [] s h
  none_names (more_params ws no_declr attrs (more_params ws2 d attrs2 ps)) own s h = absurd cc
  none_names (more_params ws (some_declr d) attrs ps) own s h = absurd cc

  -- a function's own parameters are those right behind its name
  pub own_same : (d : Declr) (own : Bool) (o : Option Place) (s : Names)
      → own_where (own && tests.is_name d) (linked_some u (declared_name d) (declr_named u o d s).names)
      ≡ own_where (is_bare d) (own_where own (linked_some u (declared_name d) s))
  own_same (declr_name token name) true o s = refl
  own_same (declr_name token name) false o s = refl
  own_same (declr_paren opening attrs d closing) own o s = own_same d own o s
  own_same (pointer star words d) true o s = refl
  own_same (pointer star words d) false o s = refl
  own_same (array d opening words size closing) true o s = refl
  own_same (array d opening words size closing) false o s = refl
  own_same (params d opening ps dots closing) true o s = refl
  own_same (params d opening ps dots closing) false o s = refl
  own_same (abs_pointer star words d) true o s = refl
  own_same (abs_pointer star words d) false o s = refl
  own_same (abs_paren opening attrs d closing) true o s = refl
  own_same (abs_paren opening attrs d closing) false o s = refl
  own_same (abs_array d opening words size closing) true o s = refl
  own_same (abs_array d opening words size closing) false o s = refl
  own_same (abs_params d opening ps dots closing) true o s = refl
  own_same (abs_params d opening ps dots closing) false o s = refl
  own_same (identifiers d opening names closing) true o s = refl
  own_same (identifiers d opening names closing) false o s = refl
  own_same (base_name token) true o s = refl
  own_same (base_name token) false o s = refl

  -- what each kind of part should do

  abbrev pub WordLaw : Bool → SpecWord → Type 0
  WordLaw alone word = (st : State) (t : CType) (w : Words) (k : List Keyword) (b : Bool) (s : Names)
      → Goes u (word_tape alone word) (among_words st t w k b s)
      (among_words st (word_named u alone word t s).type (words_behind u word w) (storage_word word k)
      (untagged_word word b) (word_named u alone word t s).names)

  abbrev pub SpecsLaw : Bool → SpecWords → Type 0
  SpecsLaw alone ws = (st : State) (t : CType) (w : Words) (k : List Keyword) (b : Bool) (s : Names)
      → Goes u (specs_with (words_tape alone ws)) (among_words st t w k b s)
      (declaring st (words_named u alone ws t w s).type (storage_behind ws k) (untagged_behind ws b) None
      (words_named u alone ws t w s).type st.finished (words_named u alone ws t w s).names)

  abbrev pub StructLaw : Bool → SomeBody → Type 0
  StructLaw alone body =
      (kind : TagKind) (keyword : ℕ) (tag : Option Identifier) (st : State) (t : CType) (w : Words) (k : List Keyword)
      (b : Bool) (s : Names)
      → Goes u (struct_tape alone kind keyword tag body) (among_words st t w k b s)
      (among_words st (struct_named u alone kind keyword tag body t s).type w k
      (untagged_body kind tag body b) (struct_named u alone kind keyword tag body t s).names)

  abbrev pub ItemsLaw : StructItems → Type 0
  ItemsLaw items = (st : State) (s : Names)
      → Goes u (struct_items_tape items) (between st s) (between st (struct_items_named u (body st).members_of items s))

  abbrev pub ItemLaw : StructItem → Type 0
  ItemLaw item = (st : State) (s : Names)
      → Goes u (struct_item_tape item) (between st s) (between st (struct_item_named u (body st).members_of item s))

  abbrev pub MembersLaw : MemDeclrs → Type 0
  MembersLaw ds = (st : State) (t : CType) (k : List Keyword) (b : Bool) (finished : List (List CType)) (s : Names)
      → Goes u (mem_declrs_tape ds) (declaring st t k b None t finished s)
      (declaring st t k b None t finished (mem_declrs_named u (body st).members_of t ds s))

  abbrev pub MemberLaw : MemDeclr → Type 0
  MemberLaw d = (st : State) (t : CType) (k : List Keyword) (b : Bool) (finished : List (List CType)) (s : Names)
      → Goes u (mem_declr_tape d) (declaring st t k b None t finished s)
      (declaring st t k b None t finished (mem_declr_named u (body st).members_of t d s))

  abbrev pub EnumLaw : EnumType → Type 0
  EnumLaw e = (st : State) (t : CType) (w : Words) (k : List Keyword) (b : Bool) (s : Names)
      → Goes u (enum_tape e) (among_words st t w k b s) (among_words st t w k b (enum_named u e s))

  -- the name, the parameters and the sizes of a declarator
  abbrev pub DeclrLaw : Bool → Declr → Type 0
  DeclrLaw own d = (st : State) (t : CType) (k : List Keyword) (b : Bool) (finished : List (List CType)) (s : Names)
      → Goes u (contents own d) (declaring st t k b None t finished s)
      (declaring st t k b (declared_name d) t
      (lists_of (declr_named u (own_where own (linked_some u (declared_name d) s)) d s).pieces finished)
      (declr_named u (own_where own (linked_some u (declared_name d) s)) d s).names)

  abbrev pub SomeDeclrLaw : SomeDeclr → Type 0
  SomeDeclrLaw d = (st : State) (t : CType) (k : List Keyword) (b : Bool) (finished : List (List CType)) (s : Names)
      → Goes u (some_contents d) (declaring st t k b None t finished s)
      (declaring st t k b (some_declared_name d) t (lists_of (some_declr_named u d s).pieces finished)
      (some_declr_named u d s).names)

  abbrev pub ParamsLaw : Params → Type 0
  ParamsLaw ps = (st : State) (own : Option Place) (types : List CType) (s : Names)
      → Goes u (params_tape ps) (listing st own types s)
      (listing st own (listed_behind types (params_named u (length types) own ps s).types)
      (params_named u (length types) own ps s).names)

  abbrev pub DeclrsLaw : InitDeclrs → Type 0
  DeclrsLaw ds = (st : State) (t : CType) (k : List Keyword) (b : Bool) (finished : List (List CType)) (s : Names)
      → Goes u (init_declrs_tape ds) (declaring st t k b None t finished s)
      (declaring st t k (untagged_left ds b) None t finished (init_declrs_named u k b t ds s))

  -- what says of names alone says it also among declarations
  pub inside : {ops : List Op} {f : Names → Names} → Says u ops f
      → (st : State) (t : CType) (k : List Keyword) (b : Bool) (name : Option Named) (m : CType)
      (finished : List (List CType)) (s : Names)
      → Goes u ops (declaring st t k b name m finished s) (declaring st t k b name m finished (f s))
  inside p st t k b name m finished s = p.goes (declaring st t k b name m finished s) s

  -- specifiers

  pub specs_none : (alone : Bool) → SpecsLaw alone no_words
  specs_none alone st t w k b s = one u (ops.Spec specs.SpecsEnd) _ (λ passed. refl)

  pub specs_more : (alone : Bool) (word : SpecWord) (ws : SpecWords) → WordLaw alone word → SpecsLaw alone ws
      → SpecsLaw alone (more_words word ws)
  specs_more alone word ws p q st t w k b s =
      in_turn (words_tape alone ws) (spec specs.SpecsEnd) (p st t w k b s) (q st _ _ _ _ _)

  tag_goes : (alone : Bool) (kind : TagKind) (tag : Option Identifier) (st : State) (t : CType) (w : Words)
      (k : List Keyword) (b : Bool) (s : Names)
      → Goes u (tag_tape alone kind tag) (among_words st t w k b s)
      (among_words st (tag_named u alone kind tag t s).type w k b (tag_named u alone kind tag t s).names)
  tag_goes alone kind None st t w k b s = stays u _
  tag_goes true kind (Some tag) st t w k b s =
      one u (ops.Spec (specs.TagAlone kind tag.token tag.name)) _ (λ passed. refl)
  tag_goes false kind (Some tag) st t w k b s =
      one u (ops.Spec (specs.TagUse kind tag.token tag.name)) _ (λ passed. refl)

  -- in a body of a tag
  abbrev bodied : State → TagKind → Begun → CType → Words → List Keyword → Bool → State
  bodied st kind it t w k b =
      record st {
        bodies = record {
          outer = record { type = tag_type kind it.number t; words = w; storage = k; is_untagged = b };
          members_of = it.members_of;
        } ∷ st.bodies;
      }

  body_goes : (kind : TagKind) (keyword : ℕ) (tag : Option Identifier) (st : State) (t : CType) (w : Words)
      (k : List Keyword) (b : Bool) (s : Names)
      → Goes u (body_tape kind keyword tag) (among_words st t w k b s)
      (between (bodied st kind (body_begun u kind keyword tag s) t w k (untagged_begins kind tag b))
      (body_begun u kind keyword tag s).names)
  body_goes kind keyword None st t w k b s = one u (ops.Spec (specs.Untagged kind keyword)) _ (λ passed. refl)
  body_goes kind keyword (Some tag) st t w k b s =
      one u (ops.Spec (specs.TagBody kind tag.token tag.name)) _ (λ passed. refl)

  pub struct_none : (alone : Bool) → StructLaw alone no_body
  struct_none alone kind keyword tag st t w k b s = tag_goes alone kind tag st t w k b s

  pub struct_some : (alone : Bool) (opening : ℕ) (items : StructItems) (closing : ℕ) → ItemsLaw items
      → StructLaw alone (some_body opening items closing)
  struct_some alone opening items closing p kind keyword tag st t w k b s =
      body_goes kind keyword tag st t w k b s
      ▸ p (bodied st kind (body_begun u kind keyword tag s) t w k (untagged_begins kind tag b))
      (body_begun u kind keyword tag s).names
      ▸ one u (ops.Spec specs.BodyEnd) _ (λ passed. refl)

  pub word_struct : (alone : Bool) (word : Word) (attrs : List Attr) (tag : Option Identifier) (body : SomeBody)
      → StructLaw alone body → WordLaw alone (struct_type word attrs tag body)
  word_struct alone word attrs tag body p st t w k b s =
      rw (same_kind word.keyword) (p (names.tag_kind word.keyword) word.token tag st t w k b s)

  pub word_basic : (alone : Bool) (word : Word) → WordLaw alone (basic word)
  word_basic alone word st t w k b s = rw (same_void word.keyword) (by_void (trees.is_void word.keyword))
    where
      by_void : (is : Bool) → Goes u (if is then spec specs.Void else []) (among_words st t w k b s)
          (among_words st (if is then void [] else t) w k b s)
      by_void true = one u (ops.Spec specs.Void) _ (λ passed. refl)
      by_void false = stays u _

  -- enumerations

  pub enumerator_says : (token name : ℕ)
      → Says u (spec (specs.Enumerator token name))
      (declared_here (place u token) (u.key name) enumerator_role (base []) None)
  enumerator_says token name =
      record { goes = λ st s. one u (ops.Spec (specs.Enumerator token name)) _ (λ passed. refl) }

  pub enum_none : (keyword : ℕ) (attrs : List Attr) (tag : Option Identifier)
      → EnumLaw (enum_of keyword attrs tag no_enum_body)
  enum_none keyword attrs None st t w k b s = stays u _
  enum_none keyword attrs (Some tag) st t w k b s =
      one u (ops.Spec (specs.TagUse tags.Enum tag.token tag.name)) _ (λ passed. refl)

  pub enum_some : (keyword : ℕ) (attrs : List Attr) (tag : Option Identifier) (opening : ℕ) (es : Enumerators)
      (last : Option ℕ) (closing : ℕ) → Says u (enumerators_tape es) (enumerators_named u es)
      → EnumLaw (enum_of keyword attrs tag (some_enum_body opening es last closing))
  enum_some keyword attrs None opening es last closing p st t w k b s =
      body_goes tags.Enum keyword None st t w k b s
      ▸ p.goes (bodied st tags.Enum (body_begun u tags.Enum keyword None s) t w k b)
      (body_begun u tags.Enum keyword None s).names ▸ one u (ops.Spec specs.BodyEnd) _ (λ passed. refl)
  enum_some keyword attrs (Some tag) opening es last closing p st t w k b s =
      body_goes tags.Enum keyword (Some tag) st t w k b s
      ▸ p.goes (bodied st tags.Enum (body_begun u tags.Enum keyword (Some tag) s) t w k b)
      (body_begun u tags.Enum keyword (Some tag) s).names ▸ one u (ops.Spec specs.BodyEnd) _ (λ passed. refl)

  -- declarators

  pub whole_declr : (d : SomeDeclr) → SomeDeclrLaw d
      → (st : State) (t : CType) (k : List Keyword) (b : Bool) (finished : List (List CType)) (s : Names)
      → Goes u (some_declr_tape d) (declaring st t k b None t finished s)
      (declaring st t k b (some_declared_name d) (applied (some_declr_named u d s).pieces t) finished
      (some_declr_named u d s).names)
  whole_declr no_declr p st t k b finished s = stays u _
  whole_declr (some_declr d) p st t k b finished s =
      p st t k b finished s ▸ pieces_make u d None s st t k b (declared_name d) t finished _

  pub type_name_says : (ws : SpecWords) (d : SomeDeclr) → SpecsLaw false ws → SomeDeclrLaw d
      → Says u (type_name_with (words_tape false ws) (some_declr_tape d) (first_word ws))
      (λ s. with_typed (words_named u false ws (base []) [] s)
      (λ t s. with_pieced (some_declr_named u d s) (λ ps s. type_named (place u (first_word ws)) (applied ps t) s)))
  type_name_says ws d p q =
      record { goes = named }
    where
      named : (st : State) (s : Names)
          → Goes u (type_name_with (words_tape false ws) (some_declr_tape d) (first_word ws)) (between st s)
          (between st (with_typed (words_named u false ws (base []) [] s)
          (λ t s. with_pieced (some_declr_named u d s)
          (λ ps s. type_named (place u (first_word ws)) (applied ps t) s))))
      named st s =
          p st (base []) [] [] false s ▸ whole_declr d q st _ _ _ _ _ ▸ one u
          (ops.Declr (declrs.TypeName (first_word ws))) _ (λ passed. refl)

  -- a list without identifiers ends
  list_ends : (st : State) (t : CType) (k : List Keyword) (b : Bool) (name : Option Named) (m : CType)
      (finished : List (List CType)) (s : Names) (o : Option Place) (types : List CType) (names : Names)
      → Goes u (declr declrs.ParamsEnd) (listing (declaring st t k b name m finished s) o types names)
      (declaring st t k b name m (types ∷ finished) (keep o names))
  list_ends st t k b name m finished s o types names =
      arriving (one u (ops.Declr declrs.ParamsEnd) _ (λ passed. refl))
      (ap (λ (all : List CType). declaring st t k b name m (all ∷ finished) (keep o names)) (append-nil types))

  pub list_goes : (ps : Params) → ParamsLaw ps
      → (is_own : Bool) (st : State) (t : CType) (k : List Keyword) (b : Bool) (name : Option Named) (m : CType)
      (finished : List (List CType)) (s : Names) (o : Option Place)
      → own_where is_own (linked_some u name s) ≡ o
      → Goes u (params_with is_own (tests.says_none ps) (params_tape ps)) (declaring st t k b name m finished s)
      (declaring st t k b name m
      (listed_behind [] (no_params_if (trees.says_none ps) (params_named u 0 o ps (enter s)).types) ∷ finished)
      (keep o (params_named u 0 o ps (enter s)).names))
  list_goes ps p is_own st t k b name m finished s o is = rw (same_none ps) (by_none (trees.says_none ps) refl)
    where
      opened : State
      opened = declaring st t k b name m finished s

      begins : Goes u (declr (declrs.ParamsBegin is_own)) (declaring st t k b name m finished s)
          (listing (declaring st t k b name m finished s) o [] (enter s))
      begins = arriving (one u (ops.Declr (declrs.ParamsBegin is_own)) _ (λ passed. refl))
          (ap (λ (o : Option Place). listing (declaring st t k b name m finished s) o [] (enter s)) is)

      by_none : (none : Bool) → trees.says_none ps ≡ none
          → Goes u (params_with is_own none (params_tape ps)) (declaring st t k b name m finished s)
          (declaring st t k b name m
          (listed_behind [] (no_params_if none (params_named u 0 o ps (enter s)).types) ∷ finished)
          (keep o (params_named u 0 o ps (enter s)).names))
      by_none true h = rw (none_names ps o (enter s) h)
          (begins ▸ stays u _ ▸ list_ends st t k b name m finished s o [] (enter s))
      by_none false h = begins ▸ p (declaring st t k b name m finished s) o [] (enter s)
          ▸ list_ends st t k b name m finished s o _ _

  pub declr_params : (own : Bool) (d : Declr) (opening : ℕ) (ps : Params) (dots : Option Dots) (closing : ℕ)
      → DeclrLaw own d → ParamsLaw ps → DeclrLaw own (params d opening ps dots closing)
  declr_params own d opening ps dots closing p q st t k b finished s =
      rw (lists_push (declr_named u o d s).pieces _ finished)
      (p st t k b finished s ▸ list_goes ps q (own && tests.is_name d) st t k b (declared_name d) t _
      (declr_named u o d s).names (own_where (is_bare d) o) (own_same d own o s))
    where
      o : Option Place
      o = own_where own (linked_some u (declared_name d) s)

  pub declr_abs_params : (own : Bool) (d : SomeDeclr) (opening : ℕ) (ps : Params) (dots : Option Dots) (closing : ℕ)
      → SomeDeclrLaw d → ParamsLaw ps → DeclrLaw own (abs_params d opening ps dots closing)
  declr_abs_params own d opening ps dots closing p q st t k b finished s =
      rw (lists_push (some_declr_named u d s).pieces _ finished)
      (p st t k b finished s ▸ list_goes ps q false st t k b (some_declared_name d) t _
      (some_declr_named u d s).names None refl)

  pub declr_pointer : (own : Bool) (star : ℕ) (words : List PointerWord) (d : Declr) → DeclrLaw own d
      → DeclrLaw own (pointer star words d)
  declr_pointer own star words d p st t k b finished s =
      rw (lists_push (declr_named u (own_where own (linked_some u (declared_name d) s)) d s).pieces _ finished)
      (p st t k b finished s)

  pub declr_array : (own : Bool) (d : Declr) (opening : ℕ) (words : List ArrayWord) (size : SomeSize) (closing : ℕ)
      → DeclrLaw own d → Says u (some_size_tape size) (some_size_named u size)
      → DeclrLaw own (array d opening words size closing)
  declr_array own d opening words size closing p q st t k b finished s =
      rw (lists_push (declr_named u (own_where own (linked_some u (declared_name d) s)) d s).pieces _ finished)
      (p st t k b finished s ▸ inside q st t k b (declared_name d) t _ _)

  pub declr_abs_pointer : (own : Bool) (star : ℕ) (words : List PointerWord) (d : SomeDeclr) → SomeDeclrLaw d
      → DeclrLaw own (abs_pointer star words d)
  declr_abs_pointer own star words d p st t k b finished s =
      rw (lists_push (some_declr_named u d s).pieces _ finished) (p st t k b finished s)

  pub declr_abs_array : (own : Bool) (d : SomeDeclr) (opening : ℕ) (words : List ArrayWord) (size : SomeSize)
      (closing : ℕ) → SomeDeclrLaw d → Says u (some_size_tape size) (some_size_named u size)
      → DeclrLaw own (abs_array d opening words size closing)
  declr_abs_array own d opening words size closing p q st t k b finished s =
      rw (lists_push (some_declr_named u d s).pieces _ finished)
      (p st t k b finished s ▸ inside q st t k b (some_declared_name d) t _ _)

  pub declr_identifiers : (own : Bool) (d : Declr) (opening : ℕ) (names : List Identifier) (closing : ℕ)
      → DeclrLaw own d
      → DeclrLaw own (identifiers d opening names closing)
  declr_identifiers own d opening names closing p st t k b finished s =
      rw (lists_push (declr_named u (own_where own (linked_some u (declared_name d) s)) d s).pieces _ finished)
      (p st t k b finished s ▸ one u (ops.Declr (declrs.ParamsBegin false)) _ (λ passed. refl)
      ▸ one u (ops.Declr declrs.ParamsEnd) _ (λ passed. refl))

  pub declr_base_name : (own : Bool) (token : ℕ) → DeclrLaw own (base_name token)
  declr_base_name own token st t k b finished s = stays u _

  pub declr_of_name : (own : Bool) (token name : ℕ) → DeclrLaw own (declr_name token name)
  declr_of_name own token name st t k b finished s = one u (ops.Declr (declrs.DeclName token name)) _ (λ passed. refl)

  -- parameters

  pub params_none : ParamsLaw no_params
  params_none st own types s = stays u _

  pub params_more : (ws : SpecWords) (d : SomeDeclr) (attrs : List Attr) (ps : Params) → SpecsLaw false ws
      → SomeDeclrLaw d → ParamsLaw ps → ParamsLaw (more_params ws d attrs ps)
  params_more ws d attrs ps p q r st own types s =
      first ▸ subst Rest (length_push types param) (r st own (types ++ param ∷ []) declared)
    where
      here : State
      here = listing st own types s

      specified : Typed
      specified = words_named u false ws (base []) [] s

      found : Pieced
      found = some_declr_named u d specified.names

      param : CType
      param = decayed (applied found.pieces specified.type)

      declared : Names
      declared = declared_param u (some_declared_name d) (length types) own param found.names

      first : Goes u (specs_with (words_tape false ws) ++ some_declr_tape d ++ declr declrs.Param)
          (listing st own types s) (listing st own (types ++ param ∷ []) declared)
      first = p (listing st own types s) (base []) [] [] false s ▸ whole_declr d q (listing st own types s) _ _ _ _ _
          ▸ one u (ops.Declr declrs.Param) _ (λ passed. refl)

      Rest : ℕ → Type 0
      Rest i = Goes u (params_tape ps) (listing st own (types ++ param ∷ []) declared)
          (listing st own (listed_behind (types ++ param ∷ []) (params_named u i own ps declared).types)
          (params_named u i own ps declared).names)

  -- members

  unnamed_word_goes : (word : SpecWord) (st : State) (t : CType) (k : List Keyword) (b : Bool)
      (finished : List (List CType)) (s : Names)
      → Goes u (unnamed_word_tape word) (declaring st t k b None t finished s)
      (declaring st t k b None t finished (unnamed_by u word (body st).members_of t s))
  unnamed_word_goes (struct_type word attrs None body) st t k b finished s =
      one u (ops.Spec (specs.UnnamedMember word.token)) _ (λ passed. refl)
  unnamed_word_goes (struct_type word attrs (Some tag) body) st t k b finished s = stays u _
  unnamed_word_goes (storage word) st t k b finished s = stays u _
  unnamed_word_goes (thread token) st t k b finished s = stays u _
  unnamed_word_goes (inline_word token) st t k b finished s = stays u _
  unnamed_word_goes (noreturn token) st t k b finished s = stays u _
  unnamed_word_goes (qualifier q) st t k b finished s = stays u _
  unnamed_word_goes (basic word) st t k b finished s = stays u _
  unnamed_word_goes (enum_type e) st t k b finished s = stays u _
  unnamed_word_goes (typedef_name name) st t k b finished s = stays u _
  unnamed_word_goes (attribute attr) st t k b finished s = stays u _
  unnamed_word_goes (typeof_value keyword opening e closing) st t k b finished s = stays u _
  unnamed_word_goes (typeof_type word2 opening ws d2 closing) st t k b finished s = stays u _
  unnamed_word_goes (align attr) st t k b finished s = stays u _
  unnamed_word_goes (auto_word token) st t k b finished s = stays u _

  unnamed_goes : (ws : SpecWords) (st : State) (t : CType) (k : List Keyword) (b : Bool)
      (finished : List (List CType)) (s : Names)
      → Goes u (unnamed_tape ws) (declaring st t k b None t finished s)
      (declaring st t k b None t finished (unnamed_among u ws (body st).members_of t s))
  unnamed_goes no_words st t k b finished s = stays u _
  unnamed_goes (more_words word ws) st t k b finished s =
      unnamed_word_goes word st t k b finished s ▸ unnamed_goes ws st t k b finished _

  pub members_none : MembersLaw no_mem_declrs
  members_none st t k b finished s = stays u _

  pub members_more : (attrs : List Attr) (d : MemDeclr) (ds : MemDeclrs) → MemberLaw d → MembersLaw ds
      → MembersLaw (more_mem_declrs attrs d ds)
  members_more attrs d ds p q st t k b finished s = p st t k b finished s ▸ q st t k b finished _

  pub member_named : (d : Declr) (width : SomeValue) (attrs : List Attr) → DeclrLaw false d
      → Says u (some_value_tape width) (some_value_named u width) → MemberLaw (named d width attrs)
  member_named d width attrs p q st t k b finished s =
      p st t k b finished s ▸ pieces_make u d None s st t k b (declared_name d) t finished _
      ▸ one u (ops.Declr declrs.Member) _ (λ passed. refl) ▸ inside q st t k b None t finished _

  pub member_unnamed : (colon : ℕ) (e : Expr) (attrs : List Attr) → Says u (expr_tape false e) (expr_named u false e)
      → MemberLaw (unnamed colon e attrs)
  member_unnamed colon e attrs p st t k b finished s = inside (quietly_says p) st t k b None t finished s

  pub item_member : (exts : List ℕ) (ws : SpecWords) (ds : MemDeclrs) (semi : ℕ) → SpecsLaw false ws → MembersLaw ds
      → ItemLaw (member exts ws ds semi)
  item_member exts ws ds semi p q st s =
      p st (base []) [] [] false s ▸ by_list ds q ▸ one u (ops.Declr declrs.DeclarationEnd) _ (λ passed. refl)
    where
      t : CType
      t = (words_named u false ws (base []) [] s).type

      k : List Keyword
      k = storage_behind ws []

      b : Bool
      b = untagged_behind ws false

      by_list : (ds : MemDeclrs) → MembersLaw ds
          → Goes u (members_tape ws ds)
          (declaring st t k b None t st.finished (words_named u false ws (base []) [] s).names)
          (declaring st t k b None t st.finished
          (mem_declrs_named u (body st).members_of t ds
          (unnamed_where u ds ws (body st).members_of t (words_named u false ws (base []) [] s).names)))
      by_list no_mem_declrs q = unnamed_goes ws st t k b st.finished _
      by_list (more_mem_declrs attrs d ds) q = q st t k b st.finished _

  -- declarations

  declare_goes : (name : Option Named) (st : State) (t : CType) (k : List Keyword) (b : Bool) (m : CType)
      (finished : List (List CType)) (s : Names)
      → Goes u (declr declrs.Declare) (declaring st t k b name m finished s)
      (declaring st t k false None t finished (declared_some u (untagged_number b t) name k m s))
  declare_goes name st t k b m finished s = one u (ops.Declr declrs.Declare) _ (λ passed. refl)

  pub declrs_none : DeclrsLaw no_init_declrs
  declrs_none st t k b finished s = stays u _

  pub declrs_more : (attrs : List Attr) (d : Declr) (asm_label : Option AsmLabel) (attrs2 : List Attr) (init : SomeInit)
      (ds : InitDeclrs)
      → DeclrLaw false d → Says u (some_init_tape init) (some_init_named u init) → DeclrsLaw ds
      → DeclrsLaw (more_init_declrs attrs d asm_label attrs2 init ds)
  declrs_more attrs d asm_label attrs2 init ds p q r st t k b finished s =
      p st t k b finished s ▸ pieces_make u d None s st t k b (declared_name d) t finished _
      ▸ declare_goes (declared_name d) st t k b _ finished _
      ▸ inside q st t k false None t finished _ ▸ r st t k false finished _
