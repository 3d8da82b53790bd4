-- Readers of specifiers (C99, 6.7), over readers of the expressions, specifiers and declarators inside.
use Rattle.std.specs.Prelude.{ℕ, ◌-◌, max, Bool, true, false, ◌&&◌, ◌||◌, not, List, [], Option, None, Some, if◌then◌else◌}
use Rattle.c_words.specs.declared.kinds.TokenKind.{TokenKind}
use Rattle.c_words.specs.declared.kinds.TokenKind.TheVariants as kinds
use Rattle.c_words.specs.declared.kinds.Keyword.{Keyword}
use Rattle.c_words.specs.declared.kinds.Keyword.TheVariants as keywords
use Rattle.c_tree.specs.declared.lexeme.Lexeme.{Lexeme}
use Rattle.c_syntax.specs.declared.parts.Identifier.{Identifier}
use Rattle.c_syntax.specs.declared.parts.Qual.TheVariants as quals
use Rattle.c_specs.specs.declared.mix.Class.{Class}
use Rattle.c_specs.specs.declared.mix.Class.TheVariants as classes
use Rattle.c_specs.specs.Mix.{goes_on, is_whole_mix, is_typed}
use Rattle.c_specs.specs.Reading.{pushed}
use Rattle.c_tree.specs.Tree.{SpecWords, no_words, SpecWord, storage, thread, inline_word, noreturn, qualifier, basic, struct_type, enum_type, typedef_name, attribute, SomeBody, no_body, some_body, StructItem, member, member_semi, member_assert, MemDeclr, named, unnamed, SomeValue, no_value, some_value, enum_of, SomeEnumBody, no_enum_body, some_enum_body, Declr, SomeDeclr, no_declr, some_declr, typeof_value, typeof_type, align, auto_word}
use Rattle.c_tree.specs.Height.{specs_height}
use Rattle.c_tree.specs.Specifiers.{storage_words}
use Rattle.c_tree.specs.WellFormed.{has_auto}
use Rattle.c_units.specs.Scoping.{has_typedef_word}
use Rattle.typedef_scope.specs.declared.kind.Kind.{Kind}
use Rattle.typedef_scope.specs.declared.kind.Kind.TheVariants.{Constant}
use Rattle.c_units.specs.HeldScopes.{HeldScopes, is_wide, names_type, innermost, may_declare, is_name, declare}
use Rattle.c_reading.specs.declared.kinds.FaultKind.TheVariants.{Unexpected, Redeclared, BadMix}
use Rattle.c_reading.specs.declared.kinds.Reach.TheVariants.{Whole, Conditional}
use Rattle.c_reading.specs.declared.kinds.Role.{Role}
use Rattle.c_reading.specs.declared.kinds.Role.TheVariants.{Declaring, Typed, Naming}
use Rattle.c_reading.specs.declared.kinds.Mode.TheVariants.{Named}
use Rattle.c_reading.specs.declared.kinds.SpecStart.{SpecStart}
use Rattle.c_reading.specs.declared.kinds.SpecStart.TheVariants as starts
use Rattle.c_reading.specs.Reading.{Reader, Read, Turn, ◌>>=◌, ends, refuses, fits, kind_at, take_one, token_at, run, repeated, listed, Next, one_more, list_end}
use Rattle.c_reading.specs.Tokens.{is_semicolon, is_colon, is_equal, is_open_brace, is_close_brace, is_open_paren, is_close_paren, is_static_assert, word_of, name_at, tag_at, extensions_at, attr_at, attrs_at, align_at, assert_at}
use Rattle.c_reading.specs.Parts.{Inner, nothing, MemberItem, EnumItem, struct_items_from, mem_declrs_from, enumerators_from}

-- which word of specifiers a keyword begins
abbrev pub keyword_start : Keyword → SpecStart
keyword_start keywords.Typedef = starts.Storage keywords.Typedef
keyword_start keywords.Extern = starts.Storage keywords.Extern
keyword_start keywords.Static = starts.Storage keywords.Static
keyword_start keywords.Auto = starts.Storage keywords.Auto
keyword_start keywords.Register = starts.Storage keywords.Register
keyword_start keywords.Thread = starts.Thread
keyword_start keywords.Inline = starts.Inline
keyword_start keywords.Noreturn = starts.Noreturn
keyword_start keywords.Const = starts.Word keywords.Const
keyword_start keywords.Volatile = starts.Word keywords.Volatile
keyword_start keywords.Restrict = starts.Word keywords.Restrict
keyword_start keywords.Atomic = starts.Word keywords.Atomic
keyword_start keywords.Seg = starts.Word keywords.Seg
keyword_start keywords.AtomicType = starts.Atomic
keyword_start keywords.Typeof = starts.Typeof
keyword_start keywords.Alignas = starts.Align
keyword_start keywords.AutoType = starts.Auto
keyword_start keywords.AnyComplex = starts.Basic keywords.AnyComplex
keyword_start keywords.Void = starts.Basic keywords.Void
keyword_start keywords.Char = starts.Basic keywords.Char
keyword_start keywords.Short = starts.Basic keywords.Short
keyword_start keywords.Int = starts.Basic keywords.Int
keyword_start keywords.Long = starts.Basic keywords.Long
keyword_start keywords.Float = starts.Basic keywords.Float
keyword_start keywords.Double = starts.Basic keywords.Double
keyword_start keywords.Signed = starts.Basic keywords.Signed
keyword_start keywords.Unsigned = starts.Basic keywords.Unsigned
keyword_start keywords.Bool = starts.Basic keywords.Bool
keyword_start keywords.Complex = starts.Basic keywords.Complex
keyword_start keywords.BaseWord = starts.Basic keywords.BaseWord
keyword_start keywords.Int128 = starts.Basic keywords.Int128
keyword_start keywords.Struct = starts.Struct keywords.Struct
keyword_start keywords.Union = starts.Struct keywords.Union
keyword_start keywords.Enum = starts.Enum
keyword_start keywords.Attribute = starts.Attribute
keyword_start keyword = starts.Nothing

-- which word of specifiers a token begins, scopes aside
abbrev pub kind_start : TokenKind → SpecStart
kind_start (kinds.Keyword keyword) = keyword_start keyword
kind_start (kinds.Qual lattice elem) = starts.Element
kind_start kinds.Index = starts.Index
kind_start (kinds.Name name) = starts.Name name
kind_start kind = starts.Nothing

-- a name begins a word where it is a typedef name and no type stands before it
abbrev pub typed_start : HeldScopes → Bool → SpecStart → SpecStart
typed_start s typed (starts.Name name) = if names_type s name && not typed then starts.Name name else starts.Nothing
typed_start s typed start = start

-- whether a word of specifiers begins so
abbrev pub is_start : SpecStart → Bool
is_start starts.Nothing = false
is_start start = true

-- what a token begins behind words, among which a type stands or not
abbrev pub start_at : HeldScopes → Bool → TokenKind → SpecStart
start_at s typed kind = typed_start s typed (kind_start kind)

-- a word of specifiers begins
abbrev pub begins_specs : HeldScopes → TokenKind → Bool
begins_specs s kind = is_start (start_at s false kind)

-- what a word that begins so is in a mix of specifiers
abbrev pub class_of_start : SpecStart → Class
class_of_start (starts.Storage keyword) = classes.Stores keyword
class_of_start starts.Thread = classes.Stores keywords.Thread
class_of_start (starts.Basic keyword) = classes.Spells keyword
class_of_start (starts.Struct keyword) = classes.Named
class_of_start starts.Enum = classes.Named
class_of_start (starts.Name name) = classes.Named
class_of_start starts.Typeof = classes.Named
class_of_start starts.Atomic = classes.Named
class_of_start starts.Auto = classes.Named
class_of_start start = classes.Free

-- a word that the name of a type cannot have
abbrev pub is_declaring : SpecStart → Bool
is_declaring (starts.Storage keyword) = true
is_declaring starts.Thread = true
is_declaring starts.Inline = true
is_declaring starts.Noreturn = true
is_declaring starts.Align = true
is_declaring starts.Auto = true
is_declaring start = false

-- whether the word is `__auto_type`
abbrev pub is_auto_start : SpecStart → Bool
is_auto_start starts.Auto = true
is_auto_start start = false

-- whether a word may stand among specifiers of a role: no `__auto_type` but in a declaration, and no storage class or
-- function specifier in a type name
abbrev pub may_stand : Role → SpecStart → Bool
may_stand Declaring start = true
may_stand Typed start = not (is_auto_start start)
may_stand Naming start = not (is_declaring start)

-- whether specifiers of a role begin so: with a word that may stand there
abbrev pub begins_role : Role → HeldScopes → TokenKind → Bool
begins_role role s kind = begins_specs s kind && may_stand role (start_at s false kind)

-- the least height of specifiers with such a word
abbrev pub least_of : SpecStart → ℕ
least_of (starts.Struct keyword) = 2
least_of starts.Enum = 2
least_of (starts.Name name) = 2
least_of starts.Attribute = 2
least_of starts.Auto = 2
least_of starts.Align = 2
least_of starts.Typeof = 3
least_of starts.Atomic = 4
least_of start = 1

-- in wider C a base word is the name of a typedef, behind a whole type that it does not continue
abbrev pub is_base_start : SpecStart → Bool
is_base_start (starts.Basic keywords.BaseWord) = true
is_base_start start = false

-- whether specifiers end before a base word, which is then the name of a typedef
abbrev pub ends_before : HeldScopes → SpecWords → SpecStart → Bool
ends_before s words start =
    (is_wide s || has_auto words) && is_base_start start && has_typedef_word (storage_words words) && is_whole_mix words
    && not (goes_on words (class_of_start start))

-- without a body a tag must stand
abbrev pub without_body : {A : Type 0} → Option Identifier → A → Reader A
without_body None a s ts = refuses Unexpected ts
without_body (Some tag) a s ts = ends a s ts

-- a declarator that must be there
abbrev pub present : SomeDeclr → Reader Declr
present no_declr s ts = refuses Unexpected ts
present (some_declr d) s ts = ends d s ts

-- a name is declared behind what stands there
abbrev pub declared : {A : Type 0} → A → Option HeldScopes → List Lexeme → Read A
declared a None ts = refuses Redeclared ts
declared a (Some s) ts = ends a s ts

module _ (inner : Inner) where
  -- the specifiers that a node begins with
  unfoldable pub specs_here : Role → ℕ → Reader SpecWords
  specs_here role room s ts =
      if begins_role role s (kind_at ts) then fits 2 room ts (inner.specs role no_words (room - 1) s ts)
      else refuses Unexpected ts

  -- [sign cond]
  unfoldable pub value_with : (TokenKind → Bool) → ℕ → Reader SomeValue
  value_with test room s ts =
      if test (kind_at ts)
      then fits 2 room ts (take_one s ts >>= λ token.
      inner.expr Conditional nothing (room - 1) token.scopes token.rest >>= λ e.
      ends (some_value token.tree e.tree) e.scopes e.rest)
      else ends no_value s ts

  -- declr
  unfoldable pub named_declr : Option Kind → ℕ → Reader Declr
  named_declr wanted room s ts = do
    d ← inner.declr Named wanted false room s ts
    present d.tree.declr d.scopes d.rest

  -- : cond Attr*
  unfoldable pub width_with : ℕ → Reader MemDeclr
  width_with room s ts = fits 2 room ts (do
    colon ← take_one s ts
    e ← inner.expr Conditional nothing (room - 1) colon.scopes colon.rest
    attrs ← attrs_at room e.scopes e.rest
    ends (unnamed colon.tree e.tree attrs.tree) attrs.scopes attrs.rest)

  -- declr [: cond] Attr*
  unfoldable pub field_with : ℕ → Reader MemDeclr
  field_with room s ts = do
    d ← named_declr None (room - 1) s ts
    width ← value_with is_colon room d.scopes d.rest
    attrs ← attrs_at room width.scopes width.rest
    ends (named d.tree width.tree attrs.tree) attrs.scopes attrs.rest

  -- MemDeclr = declr [: cond] Attr* | : cond Attr*
  unfoldable pub mem_declr_with : ℕ → Reader MemDeclr
  mem_declr_with room s ts = if is_colon (kind_at ts) then width_with room s ts else field_with room s ts

  -- the first declarator of a member's declaration, which has no attributes before it
  unfoldable pub first_member : ℕ → Reader MemberItem
  first_member room s ts = do
    d ← mem_declr_with room s ts
    ends (record { attrs = []; declr = d.tree }) d.scopes d.rest

  -- Attr* MemDeclr, behind a comma
  unfoldable pub next_member : ℕ → ℕ → Reader (Next MemberItem ⊥)
  next_member room comma s ts = do
    attrs ← attrs_at room s ts
    d ← mem_declr_with room attrs.scopes attrs.rest
    ends (one_more (record { attrs = attrs.tree; declr = d.tree })) d.scopes d.rest

  -- [MemDeclr (, Attr* MemDeclr)*]
  unfoldable pub mem_declrs_with : ℕ → Reader (List MemberItem)
  mem_declrs_with room s ts =
      if is_semicolon (kind_at ts) then ends [] s ts
      else listed (first_member room) (next_member room) s ts >>= λ ds. ends ds.tree.items ds.scopes ds.rest

  -- Member = ext* Specs [MemDeclr (, Attr* MemDeclr)*] ;
  unfoldable pub member_with : ℕ → Reader StructItem
  member_with room s ts = do
    exts ← extensions_at room s ts
    words ← specs_here Typed room exts.scopes exts.rest
    ds ← mem_declrs_with (room - 1) words.scopes words.rest
    semi ← token_at is_semicolon ds.scopes ds.rest
    ends (member exts.tree words.tree (mem_declrs_from ds.tree) semi.tree) semi.scopes semi.rest

  -- member = Member | Semi | Assert
  unfoldable pub struct_item_with : ℕ → Reader StructItem
  struct_item_with room s ts =
      if is_semicolon (kind_at ts)
      then fits 1 room ts
      (take_one s ts >>= λ semi. ends (member_semi (record { token = semi.tree })) semi.scopes semi.rest)
      else if is_static_assert (kind_at ts)
      then fits 1 room ts (assert_at s ts >>= λ it. ends (member_assert it.tree) it.scopes it.rest)
      else member_with room s ts

  -- { member* }
  unfoldable pub members_with : ℕ → Reader SomeBody
  members_with room s ts = do
    opening ← take_one s ts
    items ← repeated (λ kind. not (is_close_brace kind)) (struct_item_with (room - 1)) opening.scopes opening.rest
    closing ← token_at is_close_brace items.scopes items.rest
    ends (some_body opening.tree (struct_items_from items.tree) closing.tree) closing.scopes closing.rest

  -- [{ member* }], behind a tag or none
  unfoldable pub body_with : Option Identifier → ℕ → Reader SomeBody
  body_with tag room s ts = if is_open_brace (kind_at ts) then members_with room s ts else without_body tag no_body s ts

  -- Struct = (struct | union) Attr* [Name] [{ member* }]
  unfoldable pub struct_with : Keyword → ℕ → Reader SpecWord
  struct_with keyword room s ts = do
    token ← take_one s ts
    attrs ← attrs_at room token.scopes token.rest
    tag ← tag_at attrs.scopes attrs.rest
    body ← body_with tag.tree room tag.scopes tag.rest
    ends (struct_type (word_of keyword token.tree) attrs.tree tag.tree body.tree) body.scopes body.rest

  -- Attr* [= cond], behind the name; the name is declared behind its value
  unfoldable pub enumerator_behind : Identifier → ℕ → Reader EnumItem
  enumerator_behind name room s ts = do
    attrs ← attrs_at room s ts
    value ← value_with is_equal room attrs.scopes attrs.rest
    declared (record { name = name; attrs = attrs.tree; value = value.tree })
        (declare name.name Constant value.scopes) value.rest

  -- a name that its scope gives another kind, or that is held there, is refused at once
  unfoldable pub enumerator_named : Identifier → ℕ → List Lexeme → Reader EnumItem
  enumerator_named name room at s ts =
      if may_declare (innermost s) name.name Constant
      then (if is_name (innermost s).held name.name then refuses Unexpected at
      else fits 1 room at (enumerator_behind name room s ts))
      else refuses Redeclared at

  -- Enumerator = Name Attr* [= cond]
  unfoldable pub enumerator_with : ℕ → Reader EnumItem
  enumerator_with room s ts = do
    name ← name_at s ts
    enumerator_named name.tree room ts name.scopes name.rest

  -- behind a comma, which may end the list
  unfoldable pub next_enumerator : ℕ → ℕ → Reader (Next EnumItem ℕ)
  next_enumerator room comma s ts =
      if is_close_brace (kind_at ts) then ends (list_end comma) s ts
      else enumerator_with room s ts >>= λ x. ends (one_more x.tree) x.scopes x.rest

  -- { Enumerator (, Enumerator)* [,] }
  unfoldable pub enumerators_with : ℕ → Reader SomeEnumBody
  enumerators_with room s ts = fits 2 room ts (do
    opening ← take_one s ts
    es ← listed (enumerator_with (room - 1)) (next_enumerator (room - 1)) opening.scopes opening.rest
    closing ← token_at is_close_brace es.scopes es.rest
    ends (some_enum_body opening.tree
        (enumerators_from es.tree.items) es.tree.ending closing.tree) closing.scopes closing.rest)

  -- [{ Enumerator (, Enumerator)* [,] }], behind a tag or none
  unfoldable pub enum_body_with : Option Identifier → ℕ → Reader SomeEnumBody
  enum_body_with tag room s ts =
      if is_open_brace (kind_at ts) then enumerators_with room s ts else without_body tag no_enum_body s ts

  -- Enum = enum Attr* [Name] [{ Enumerator (, Enumerator)* [,] }]
  unfoldable pub enum_with : ℕ → Reader SpecWord
  enum_with room s ts = do
    token ← take_one s ts
    attrs ← attrs_at room token.scopes token.rest
    tag ← tag_at attrs.scopes attrs.rest
    body ← enum_body_with tag.tree room tag.scopes tag.rest
    ends (enum_type (enum_of token.tree attrs.tree tag.tree body.tree)) body.scopes body.rest

  -- TypeofType = typeof ( TypeName ) and AtomicType = _Atomic ( TypeName ), behind the parenthesis
  unfoldable pub typed_word_with : Keyword → ℕ → ℕ → ℕ → Reader SpecWord
  typed_word_with keyword token opening room s ts = do
    t ← inner.type_name (room - 1) s ts
    closing ← token_at is_close_paren t.scopes t.rest
    ends
        (typeof_type (word_of keyword token) opening t.tree.words t.tree.declr closing.tree) closing.scopes closing.rest

  -- Typeof = typeof ( expr ), behind the parenthesis
  unfoldable pub typeof_value_with : ℕ → ℕ → ℕ → Reader SpecWord
  typeof_value_with token opening room s ts = do
    e ← inner.expr Whole nothing (room - 1) s ts
    closing ← token_at is_close_paren e.scopes e.rest
    ends (typeof_value token opening e.tree closing.tree) closing.scopes closing.rest

  -- Typeof or TypeofType, by the token behind the parenthesis
  unfoldable pub typeof_with : ℕ → Reader SpecWord
  typeof_with room s ts = do
    keyword ← take_one s ts
    opening ← token_at is_open_paren keyword.scopes keyword.rest
    if begins_specs opening.scopes (kind_at opening.rest)
        then typed_word_with keywords.Typeof keyword.tree opening.tree room opening.scopes opening.rest
        else typeof_value_with keyword.tree opening.tree room opening.scopes opening.rest

  -- AtomicType = _Atomic ( TypeName )
  unfoldable pub atomic_with : ℕ → Reader SpecWord
  atomic_with room s ts = do
    keyword ← take_one s ts
    opening ← token_at is_open_paren keyword.scopes keyword.rest
    typed_word_with keywords.AtomicType keyword.tree opening.tree room opening.scopes opening.rest

  -- a word of one token
  abbrev pub word_at : (ℕ → SpecWord) → Reader SpecWord
  word_at make s ts = take_one s ts >>= λ token. ends (make token.tree) token.scopes token.rest

  -- spec = storage | thread | inline | _Noreturn | qual | typeword | Struct | Enum | TypedefName | Attr, by what its
  -- first token begins
  unfoldable pub word_by : SpecStart → ℕ → Reader SpecWord
  word_by (starts.Storage keyword) room s ts = word_at (λ token. storage (word_of keyword token)) s ts
  word_by starts.Thread room s ts = word_at thread s ts
  word_by starts.Inline room s ts = word_at inline_word s ts
  word_by starts.Noreturn room s ts = word_at noreturn s ts
  word_by (starts.Word keyword) room s ts = word_at (λ token. qualifier (quals.Word (word_of keyword token))) s ts
  word_by starts.Element room s ts = word_at (λ token. qualifier (quals.Element token)) s ts
  word_by starts.Index room s ts = word_at (λ token. qualifier (quals.Index token)) s ts
  word_by (starts.Basic keyword) room s ts = word_at (λ token. basic (word_of keyword token)) s ts
  word_by (starts.Struct keyword) room s ts = struct_with keyword (room - 1) s ts
  word_by starts.Enum room s ts = enum_with (room - 1) s ts
  word_by starts.Attribute room s ts = attr_at s ts >>= λ attr. ends (attribute attr.tree) attr.scopes attr.rest
  word_by (starts.Name name) room s ts = word_at (λ token. typedef_name (record { token = token; name = name })) s ts
  word_by starts.Typeof room s ts = typeof_with (room - 1) s ts
  word_by starts.Atomic room s ts = atomic_with (room - 1) s ts
  word_by starts.Align room s ts = align_at s ts >>= λ attr. ends (align attr.tree) attr.scopes attr.rest
  word_by starts.Auto room s ts = word_at auto_word s ts
  word_by starts.Nothing room s ts = refuses Unexpected ts

  -- a word behind others: one that may not stand there, then one that continues no mix, then the height
  unfoldable pub word_with : Role → SpecWords → SpecStart → ℕ → Reader SpecWord
  word_with role words start room s ts =
      if may_stand role start
      then (if goes_on words (class_of_start start)
      then fits (max (least_of start) (specs_height words)) room ts (word_by start room s ts) else refuses BadMix ts)
      else refuses Unexpected ts

  -- one more word of specifiers, by what the token begins; none where they end
  abbrev pub word_turn_by : Role → ℕ → SpecStart → Turn SpecWords
  word_turn_by role room start words s ts =
      if ends_before s words start then None
      else if is_start start
      then Some (word_with role words start room s ts >>= λ word. ends (pushed words word.tree) word.scopes word.rest)
      else None

  -- one more word of specifiers, by the token there
  abbrev pub word_turn : Role → ℕ → Turn SpecWords
  word_turn role room words s ts = word_turn_by role room (start_at s (is_typed words) (kind_at ts)) words s ts

  -- words that are a whole mix of specifiers; else the token behind them is refused
  abbrev pub whole : SpecWords → Reader SpecWords
  whole words s ts = if is_whole_mix words then ends words s ts else refuses Unexpected ts

  -- Specs = spec+, behind words that were read already
  unfoldable pub specs_with : Role → SpecWords → ℕ → Reader SpecWords
  specs_with role words room s ts = do
    all ← run (word_turn role room) words s ts
    whole all.tree all.scopes all.rest
