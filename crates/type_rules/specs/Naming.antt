-- What names mean (C99, 6.2.1 to 6.2.3, 6.7): a tree is gone through in the order of its text, from what is known of
-- names before it to what is known behind it.
use Rattle.std.specs.Prelude.{ℕ, suc, Bool, true, false, not, ◌&&◌, ◌||◌, List, [], ◌∷◌, ◌++◌, Option, None, Some, if◌then◌else◌}
use Rattle.c_words.specs.declared.kinds.Keyword.{Keyword}
use Rattle.c_words.specs.declared.kinds.Keyword.TheVariants as keywords
use Rattle.c_syntax.specs.declared.parts.Identifier.{Identifier}
use Rattle.c_tree.specs.Tree.{Expr, operation, cast, prefix, sizeof_value, sizeof_type, extension, index, call, dot, arrow, post, compound, name_use, number_use, char_use, text_use, paren, statement_expr, va_arg, va_start, va_copy, offset, Operator, comma, assign, cond, binary, SomeExpr, no_expr, some_expr, Exprs, no_exprs, more_exprs, SpecWords, no_words, more_words, SpecWord, storage, thread, inline_word, noreturn, qualifier, basic, struct_type, enum_type, typedef_name, attribute, SomeBody, no_body, some_body, StructItems, no_struct_items, more_struct_items, StructItem, member, member_semi, member_assert, MemDeclrs, no_mem_declrs, more_mem_declrs, MemDeclr, named, unnamed, SomeValue, no_value, some_value, EnumType, enum_of, no_enum_body, some_enum_body, Enumerators, no_enumerators, more_enumerators, Declr, pointer, declr_name, declr_paren, array, params, abs_pointer, abs_paren, abs_array, abs_params, SomeDeclr, no_declr, some_declr, SomeSize, no_size, some_size, ArraySize, size_value, size_star, Params, no_params, more_params, Init, init_value, init_braced, InitList, init_list, InitItems, no_init_items, more_init_items, Desigs, no_desigs, more_desigs, Desig, member_desig, index_desig, SomeInit, no_init, some_init, InitDeclrs, no_init_declrs, more_init_declrs, Declaration, declaration, Decl, decl_declaration, decl_assert, BlockItems, no_block_items, more_block_items, BlockItem, block_decl, block_stmt, Stmt, block, expr_stmt, attr_stmt, label, case_stmt, default_stmt, if_stmt, switch_stmt, while_stmt, do_stmt, for_stmt, goto_stmt, continue_stmt, break_stmt, return_stmt, asm_stmt, SomeElse, no_else, some_else, ForStart, start_declaration, start_value, typeof_value, typeof_type, align, auto_word, complex_part, label_use, compat, choose, generic, range_desig, old_desig, case_range, goto_value, block_labels, identifiers, base_name, Assocs, no_assocs, more_assocs, Assoc, typed_assoc, default_assoc}
use Rattle.c_tree.specs.Tree.{Dots}
use Rattle.c_tree.specs.Unit.{Item, function_item, decl_item, asm_item, semi_item, old_function_item}
use Rattle.tape_ops.specs.declared.specifier.TagKind.{TagKind}
use Rattle.tape_ops.specs.declared.specifier.TagKind.TheVariants as tags
use Rattle.type_table.specs.Types.{Words, CType, base, void, CTypes, no_types, more_types, words_of}
use Rattle.name_rules.specs.Spellings.{Place, Spelling, place, Named}
use Rattle.name_rules.specs.Scopes.{enumerator_role, Names, meaning, enter, leave, sized, with_faults}
use Rattle.name_rules.specs.Pieces.{with_words, decayed, Piece, to_pointer, to_function, applied, no_params_if, bare, types_in}
use Rattle.name_rules.specs.Declaring.{used, type_named, type_by, Numbered, tag_used, tag_type, Begun, tag_begun, untagged_begun, untagged_number, declared_here, linked, has_word, declared_thing, declared_some, declared_param, declared_member, unnamed_member, own_where, keep, body_entered, body_left, is_counted_by}
use Rattle.c_tree.specs.Firsts.{first_word}
use Rattle.type_rules.specs.Tokens.{are_auto, annotations, annotation, pointer_annotations, array_annotations, declared_name, some_declared_name, is_bare, is_void, says_none}
use Rattle.name_rules.specs.Faults.{no_type, fault_where}
use Rattle.name_rules.specs.Values.{value}
use Rattle.name_rules.specs.Identifiers.{Olds, identified, old_declared_some, old_faults, old_types}
use Rattle.type_rules.specs.Shapes.{shape_of}

-- parts of trees, with what is known of names behind them

-- a type, and what is known of names behind where it was found
pub record Typed : Type 0 where
  pub type : CType
  pub names : Names

-- the pieces of a declarator, and what is known of names behind it
pub record Pieced : Type 0 where
  pub pieces : List Piece
  pub names : Names

-- the types of a list of parameters, and what is known of names behind it
pub record Listed : Type 0 where
  pub types : CTypes
  pub names : Names

-- what is made of a type and of the names behind it
abbrev pub with_typed : {A : Type 0} → Typed → (CType → Names → A) → A
with_typed it next = next it.type it.names

-- what is made of the pieces of a declarator and of the names behind it
abbrev pub with_pieced : {A : Type 0} → Pieced → (List Piece → Names → A) → A
with_pieced it next = next it.pieces it.names

-- what is made of the types of parameters and of the names behind them
abbrev pub with_listed : {A : Type 0} → Listed → (CTypes → Names → A) → A
with_listed it next = next it.types it.names

-- what is made of the number of a struct, union or enum and of the names behind its tag
abbrev pub with_numbered : {A : Type 0} → Numbered → (ℕ → Names → A) → A
with_numbered it next = next it.number it.names

-- of a body that begins: the number of its type, whose its members are, and the names
abbrev pub with_begun : {A : Type 0} → Begun → (ℕ → ℕ → Names → A) → A
with_begun it next = next it.number it.members_of it.names

-- a type, where these names are known behind it
abbrev pub typed : CType → Names → Typed
typed t s = record { type = t; names = s }

-- a type without annotation words, or the base type and a fault at this token where there is none
abbrev pub typed_by : Spelling → ℕ → Option CType → Names → Typed
typed_by u token None s = typed (base []) (with_faults (fault_where true (place u token) no_type) s)
typed_by u token (Some t) s = typed (bare t) s

-- tags

-- the kind of a tag, by the keyword before it
abbrev pub tag_kind : Keyword → TagKind
tag_kind keywords.Union = tags.Union
tag_kind keyword = tags.Struct

-- what a tag without a body means; with neither there is none, as in no well-formed unit
abbrev pub tag_named : Spelling → Bool → TagKind → Option Identifier → CType → Names → Typed
tag_named u is_alone kind None t s = typed t s
tag_named u is_alone kind (Some tag) t s =
    with_numbered (tag_used u is_alone kind tag.token tag.name s) (λ n s. typed (tag_type kind n t) s)

-- a body of a struct, union or enum begins, behind its tag, or behind its keyword where it has none
abbrev pub body_begun : Spelling → TagKind → ℕ → Option Identifier → Names → Begun
body_begun u kind keyword None s = untagged_begun (place u keyword) kind s
body_begun u kind keyword (Some tag) s = tag_begun u kind tag.token tag.name s

-- members

-- a member without a declarator is one where its specifiers have a struct or union without a tag
abbrev pub unnamed_by : Spelling → SpecWord → ℕ → CType → Names → Names
unnamed_by u (struct_type word attrs None body) n t s = unnamed_member (place u word.token) n t s
unnamed_by u (struct_type word attrs (Some tag) body) n t s = s
unnamed_by u (storage word) n t s = s
unnamed_by u (thread token) n t s = s
unnamed_by u (inline_word token) n t s = s
unnamed_by u (noreturn token) n t s = s
unnamed_by u (qualifier q) n t s = s
unnamed_by u (basic word) n t s = s
unnamed_by u (enum_type e) n t s = s
unnamed_by u (typedef_name name) n t s = s
unnamed_by u (attribute attr) n t s = s
unnamed_by u (typeof_value keyword opening e closing) n t s = s
unnamed_by u (typeof_type word opening ws d closing) n t s = s
unnamed_by u (align attr) n t s = s
unnamed_by u (auto_word token) n t s = s

-- the members without a name that the specifiers of a member without a declarator declare
abbrev pub unnamed_among : Spelling → SpecWords → ℕ → CType → Names → Names
unnamed_among u no_words n t s = s
unnamed_among u (more_words word ws) n t s = unnamed_among u ws n t (unnamed_by u word n t s)

-- whether a struct, union or enum has no body here
abbrev pub is_bodiless : SomeBody → Bool
is_bodiless no_body = true
is_bodiless (some_body opening items closing) = false

-- whether a word of specifiers is a struct or union without a body, or says nothing, as an attribute does
abbrev pub is_lone_word : SpecWord → Bool
is_lone_word (storage word) = false
is_lone_word (thread token) = false
is_lone_word (inline_word token) = false
is_lone_word (noreturn token) = false
is_lone_word (qualifier q) = false
is_lone_word (basic word) = false
is_lone_word (struct_type word attrs tag body) = is_bodiless body
is_lone_word (enum_type e) = false
is_lone_word (typedef_name name) = false
is_lone_word (attribute attr) = true
is_lone_word (typeof_value keyword opening e closing) = false
is_lone_word (typeof_type word opening ws d closing) = false
is_lone_word (align attr) = true
is_lone_word (auto_word token) = false

-- whether each word of specifiers is a struct or union without a body, or says nothing
abbrev pub is_lone : SpecWords → Bool
is_lone no_words = true
is_lone (more_words word ws) = is_lone_word word && is_lone ws

-- a tag alone: a declaration of nothing else, whose words, attributes aside, are a struct or union without a body
abbrev pub is_tag_alone : SpecWords → InitDeclrs → Bool
is_tag_alone ws no_init_declrs = is_lone ws
is_tag_alone ws (more_init_declrs attrs d asm_label attrs2 init ds) = false

-- the storage words of specifiers, and `inline`
abbrev pub said_words : SpecWords → List Keyword
said_words no_words = []
said_words (more_words word ws) = words_said word ++ said_words ws where
  words_said : SpecWord → List Keyword
  words_said (storage word) = word.keyword ∷ []
  words_said (thread token) = []
  words_said (inline_word token) = keywords.Inline ∷ []
  words_said (noreturn token) = []
  words_said (qualifier q) = []
  words_said (basic word) = []
  words_said (struct_type word attrs tag body) = []
  words_said (enum_type e) = []
  words_said (typedef_name name) = []
  words_said (attribute attr) = []
  words_said (typeof_value keyword opening e closing) = []
  words_said (typeof_type word opening ws d closing) = []
  words_said (align attr) = []
  words_said (auto_word token) = []

-- whether a struct or union without a tag that has a body is among words
abbrev pub has_untagged : SpecWords → Bool
has_untagged no_words = false
has_untagged (more_words word ws) = is_untagged word || has_untagged ws where
  is_untagged : SpecWord → Bool
  is_untagged (struct_type word attrs None body) = not (is_bodiless body)
  is_untagged (struct_type word attrs (Some tag) body) = false
  is_untagged (storage word) = false
  is_untagged (thread token) = false
  is_untagged (inline_word token) = false
  is_untagged (noreturn token) = false
  is_untagged (qualifier q) = false
  is_untagged (basic word) = false
  is_untagged (enum_type e) = false
  is_untagged (typedef_name name) = false
  is_untagged (attribute attr) = false
  is_untagged (typeof_value keyword opening e closing) = false
  is_untagged (typeof_type word opening ws d closing) = false
  is_untagged (align attr) = false
  is_untagged (auto_word token) = false

-- the annotation words of specifiers behind one of their words, by those before it
abbrev pub words_behind : Spelling → SpecWord → Words → Words
words_behind u (qualifier q) ws = ws ++ annotation u q
words_behind u (storage word) ws = ws
words_behind u (thread token) ws = ws
words_behind u (inline_word token) ws = ws
words_behind u (noreturn token) ws = ws
words_behind u (basic word) ws = ws
words_behind u (struct_type word attrs tag body) ws = ws
words_behind u (enum_type e) ws = ws
words_behind u (typedef_name name) ws = ws
words_behind u (attribute attr) ws = ws
words_behind u (typeof_value keyword opening e closing) ws = ws
words_behind u (typeof_type word opening vs d closing) ws = ws
words_behind u (align attr) ws = ws
words_behind u (auto_word token) ws = ws

-- the words before an ellipsis; a function without parameters takes any
abbrev pub ellipsis : Spelling → Params → Option Dots → Option Words
ellipsis u ps (Some dots) = Some (annotations u dots.quals)
ellipsis u no_params None = Some []
ellipsis u (more_params ws d attrs ps) None = None

module _ (u : Spelling) where
  abbrev mutual
    -- the names behind an expression
    pub expr_named : Bool → Expr → Names → Names
    expr_named c (operation e op token e2) s = expr_named false e2 (operator_named op (expr_named false e s))
    expr_named c (cast opening ws d closing e) s =
        with_typed (words_named false ws (base []) [] s)
        (λ t s. with_pieced (some_declr_named d s)
        (λ ps s. expr_named false e (type_named (place u (first_word ws)) (applied ps t) s)))
    expr_named c (prefix token p e) s = expr_named false e s
    expr_named c (sizeof_value word e) s = expr_named false e s
    expr_named c (sizeof_type word opening ws d closing) s =
        with_typed (words_named false ws (base []) [] s)
        (λ t s. with_pieced (some_declr_named d s) (λ ps s. type_named (place u (first_word ws)) (applied ps t) s))
    expr_named c (extension keyword e) s = expr_named false e s
    expr_named c (index e opening e2 closing) s = expr_named false e2 (expr_named false e s)
    -- what stands right before the parenthesis is called directly
    expr_named c (call e opening es closing) s = exprs_named es (expr_named true e s)
    expr_named c (dot e token name) s = expr_named false e s
    expr_named c (arrow e token name) s = expr_named false e s
    expr_named c (post e token p) s = expr_named false e s
    expr_named c (compound opening ws d closing list) s =
        with_typed (words_named false ws (base []) [] s)
        (λ t s. with_pieced (some_declr_named d s)
        (λ ps s. init_list_named list (type_named (place u (first_word ws)) (applied ps t) s)))
    expr_named c (name_use token name) s = used u c token name s
    expr_named c (number_use token) s = s
    expr_named c (char_use token) s = s
    expr_named c (text_use texts) s = s
    expr_named c (paren opening e closing) s = expr_named false e s
    expr_named c (statement_expr opening opening2 items closing closing2) s = leave (block_items_named items (enter s))
    expr_named c (va_arg keyword opening e separator ws d closing) s =
        with_typed (words_named false ws (base []) [] (expr_named false e s))
        (λ t s. with_pieced (some_declr_named d s) (λ ps s. type_named (place u (first_word ws)) (applied ps t) s))
    expr_named c (va_start keyword opening e separator e2 closing) s = expr_named false e2 (expr_named false e s)
    expr_named c (va_copy keyword opening e separator e2 closing) s = expr_named false e2 (expr_named false e s)
    expr_named c (offset keyword opening ws d separator name steps closing) s =
        with_typed (words_named false ws (base []) [] s)
        (λ t s. with_pieced (some_declr_named d s)
        (λ ps s. desigs_named steps (type_named (place u (first_word ws)) (applied ps t) s)))
    expr_named c (complex_part keyword e) s = expr_named false e s
    expr_named c (label_use token name) s = s
    expr_named c (compat keyword opening ws d separator ws2 d2 closing) s =
        with_typed (words_named false ws (base []) [] s)
        (λ t s. with_pieced (some_declr_named d s)
        (λ ps s. with_typed (words_named false ws2 (base []) [] (type_named (place u (first_word ws)) (applied ps t) s))
        (λ t s. with_pieced (some_declr_named d2 s) (λ ps s. type_named (place u (first_word ws2)) (applied ps t) s))))
    expr_named c (choose keyword opening e separator e2 separator2 e3 closing) s =
        expr_named false e3 (expr_named false e2 (expr_named false e s))
    expr_named c (generic keyword opening e xs closing) s = assocs_named xs (expr_named false e s)

    -- the names behind the associations of a `_Generic`
    pub assocs_named : Assocs → Names → Names
    assocs_named no_assocs s = s
    assocs_named (more_assocs x xs) s = assocs_named xs (assoc_named x s)

    -- the names behind an association of a `_Generic`
    pub assoc_named : Assoc → Names → Names
    assoc_named (typed_assoc ws d colon e) s =
        with_typed (words_named false ws (base []) [] s)
        (λ t s. with_pieced (some_declr_named d s)
        (λ ps s. expr_named false e (type_named (place u (first_word ws)) (applied ps t) s)))
    assoc_named (default_assoc keyword colon e) s = expr_named false e s

    -- the names behind an infix operator and its middle operand
    pub operator_named : Operator → Names → Names
    operator_named comma s = s
    operator_named (assign p) s = s
    operator_named (cond e colon) s = some_expr_named e s
    operator_named (binary p) s = s

    -- the names behind an expression that may be left out
    pub some_expr_named : SomeExpr → Names → Names
    some_expr_named no_expr s = s
    some_expr_named (some_expr e) s = expr_named false e s

    -- the names behind arguments
    pub exprs_named : Exprs → Names → Names
    exprs_named no_exprs s = s
    exprs_named (more_exprs e es) s = exprs_named es (expr_named false e s)

    -- the type of specifiers, by that of the words so far and the annotation words so far
    pub words_named : Bool → SpecWords → CType → Words → Names → Typed
    words_named alone no_words t ws s = typed (with_words ws t) s
    words_named alone (more_words word words) t ws s =
        with_typed (word_named alone word t s) (λ t s. words_named alone words t (words_behind u word ws) s)

    -- the names behind a word of specifiers, and the type that it says
    pub word_named : Bool → SpecWord → CType → Names → Typed
    word_named alone (storage word) t s = typed t s
    word_named alone (thread token) t s = typed t s
    word_named alone (inline_word token) t s = typed t s
    word_named alone (noreturn token) t s = typed t s
    word_named alone (qualifier q) t s = typed t s
    word_named alone (basic word) t s = typed (if is_void word.keyword then void [] else t) s
    word_named alone (struct_type word attrs tag body) t s =
        struct_named alone (tag_kind word.keyword) word.token tag body t s
    word_named alone (enum_type e) t s = typed t (enum_named e s)
    word_named alone (typedef_name name) t s = typed (type_by (meaning s (u.key name.name))) s
    word_named alone (attribute attr) t s = typed t s
    -- by what is known behind the expression so far
    word_named alone (typeof_value keyword opening e closing) t s =
        typed_by u closing (shape_of u (expr_named false e s) e).type (expr_named false e s)
    word_named alone (typeof_type word opening ws d closing) t s =
        with_typed (words_named false ws (base []) [] s)
        (λ t s. with_pieced (some_declr_named d s)
        (λ ps s. typed (applied ps t) (type_named (place u (first_word ws)) (applied ps t) s)))
    word_named alone (align attr) t s = typed t s
    word_named alone (auto_word token) t s = typed t s

    -- the names behind a struct or union, and its type
    pub struct_named : Bool → TagKind → ℕ → Option Identifier → SomeBody → CType → Names → Typed
    struct_named alone kind keyword tag no_body t s = tag_named u alone kind tag t s
    struct_named alone kind keyword tag (some_body opening items closing) t s =
        with_begun (body_begun u kind keyword tag s)
        (λ n members_of s. typed (tag_type kind n t) (struct_items_named members_of items s))

    -- the names behind the items of a struct's body
    pub struct_items_named : ℕ → StructItems → Names → Names
    struct_items_named n no_struct_items s = s
    struct_items_named n (more_struct_items item items) s = struct_items_named n items (struct_item_named n item s)

    -- the names behind an item of a struct's body
    pub struct_item_named : ℕ → StructItem → Names → Names
    struct_item_named n (member exts ws ds semi) s =
        with_typed (words_named false ws (base []) [] s) (λ t s. mem_declrs_named n t ds (unnamed_where ds ws n t s))
    struct_item_named n (member_semi semi) s = s
    struct_item_named n (member_assert it) s = s

    -- the member without a name that an item of a body without declarators is, if it is one
    pub unnamed_where : MemDeclrs → SpecWords → ℕ → CType → Names → Names
    unnamed_where no_mem_declrs ws n t s = unnamed_among u ws n t s
    unnamed_where (more_mem_declrs attrs d ds) ws n t s = s

    -- the names behind the declarators of members
    pub mem_declrs_named : ℕ → CType → MemDeclrs → Names → Names
    mem_declrs_named n t no_mem_declrs s = s
    mem_declrs_named n t (more_mem_declrs attrs d ds) s = mem_declrs_named n t ds (mem_declr_named n t d s)

    -- the names behind the declarator of a member
    pub mem_declr_named : ℕ → CType → MemDeclr → Names → Names
    mem_declr_named n t (named d width attrs) s =
        with_pieced (declr_named None d s)
        (λ ps s. some_value_named width (declared_member u (declared_name d) n (applied ps t) s))
    mem_declr_named n t (unnamed colon e attrs) s = expr_named false e s

    -- the names behind the value of an enumerator, if it has one
    pub some_value_named : SomeValue → Names → Names
    some_value_named no_value s = s
    some_value_named (some_value token e) s = expr_named false e s

    -- the names behind an enumeration
    pub enum_named : EnumType → Names → Names
    enum_named (enum_of keyword attrs tag no_enum_body) s = (tag_named u false tags.Enum tag (base []) s).names
    enum_named (enum_of keyword attrs tag (some_enum_body opening es last closing)) s =
        enumerators_named es (body_begun u tags.Enum keyword tag s).names

    -- the names behind enumerators
    pub enumerators_named : Enumerators → Names → Names
    enumerators_named no_enumerators s = s
    enumerators_named (more_enumerators name attrs value es) s =
        enumerators_named es (declared_here (place u name.token) (u.key name.name) enumerator_role (base []) None
        (some_value_named value s))

    -- the pieces of a declarator; the parameters directly around its name belong to a function where one is given
    pub declr_named : Option Place → Declr → Names → Pieced
    declr_named own (pointer star words d) s =
        with_pieced (declr_named own d s)
        (λ ps s. record { pieces = ps ++ to_pointer (pointer_annotations u words) ∷ []; names = s })
    declr_named own (declr_name token name) s = record { pieces = []; names = s }
    declr_named own (declr_paren opening attrs d closing) s = declr_named own d s
    declr_named own (array d opening words size closing) s =
        with_pieced (declr_named own d s)
        (λ ps s. record {
          pieces = ps ++ to_pointer (array_annotations u words) ∷ [];
          names = some_size_named size s;
        })
    declr_named own (params d opening ps dots closing) s =
        with_pieced (declr_named own d s)
        (λ pieces s. with_listed (params_named 0 (own_where (is_bare d) own) ps (enter s))
        (λ types s. record {
          pieces = pieces
              ++ to_function (no_params_if (says_none ps) types) (ellipsis u ps dots) ∷ [];
          names = keep (own_where (is_bare d) own) s;
        }))
    declr_named own (abs_pointer star words d) s =
        with_pieced (some_declr_named d s)
        (λ ps s. record { pieces = ps ++ to_pointer (pointer_annotations u words) ∷ []; names = s })
    declr_named own (abs_paren opening attrs d closing) s = declr_named own d s
    declr_named own (abs_array d opening words size closing) s =
        with_pieced (some_declr_named d s)
        (λ ps s. record {
          pieces = ps ++ to_pointer (array_annotations u words) ∷ [];
          names = some_size_named size s;
        })
    declr_named own (abs_params d opening ps dots closing) s =
        with_pieced (some_declr_named d s) (λ pieces s. with_listed (params_named 0 None ps (enter s))
        (λ types s. record {
          pieces = pieces
              ++ to_function (no_params_if (says_none ps) types) (ellipsis u ps dots) ∷ [];
          names = leave s;
        }))
    -- the list of a function with a body is gone through with the declarations behind it; of any other one nothing is
    -- known
    declr_named own (identifiers d opening names closing) s =
        with_pieced (declr_named own d s)
        (λ ps s. record { pieces = ps ++ to_function no_types None ∷ []; names = leave (enter s) })
    declr_named own (base_name token) s = record { pieces = []; names = s }

    -- the names behind a declarator that may be left out, and what it makes of a type
    pub some_declr_named : SomeDeclr → Names → Pieced
    some_declr_named no_declr s = record { pieces = []; names = s }
    some_declr_named (some_declr d) s = declr_named None d s

    -- the names behind the size of an array, if it has one
    pub some_size_named : SomeSize → Names → Names
    some_size_named no_size s = s
    some_size_named (some_size size) s = array_size_named size s

    -- the names behind the size of an array
    pub array_size_named : ArraySize → Names → Names
    array_size_named (size_value e) s = expr_named false e s
    array_size_named (size_star star) s = s

    -- the names behind parameters, with their types
    pub params_named : ℕ → Option Place → Params → Names → Listed
    params_named i own no_params s = record { types = no_types; names = s }
    params_named i own (more_params ws d attrs ps) s =
        with_typed (words_named false ws (base []) [] s) (λ t s. with_pieced (some_declr_named d s)
        (λ pieces s. with_listed
        (params_named (suc i) own ps (declared_param u (some_declared_name d) i own (decayed (applied pieces t)) s))
        (λ types s. record { types = more_types (decayed (applied pieces t)) types; names = s })))

    -- the names behind an initialiser
    pub init_named : Init → Names → Names
    init_named (init_value e) s = expr_named false e s
    init_named (init_braced list) s = init_list_named list s

    -- the names behind a list in braces
    pub init_list_named : InitList → Names → Names
    init_list_named (init_list opening items last closing) s = init_items_named items s

    -- the names behind the items of a list in braces
    pub init_items_named : InitItems → Names → Names
    init_items_named no_init_items s = s
    init_items_named (more_init_items ds equal init items) s =
        init_items_named items (init_named init (desigs_named ds s))

    -- the names behind designators
    pub desigs_named : Desigs → Names → Names
    desigs_named no_desigs s = s
    desigs_named (more_desigs d ds) s = desigs_named ds (desig_named d s)

    -- the names behind a designator
    pub desig_named : Desig → Names → Names
    desig_named (member_desig token name) s = s
    desig_named (index_desig opening e closing) s = expr_named false e s
    desig_named (range_desig opening e dots e2 closing) s = expr_named false e2 (expr_named false e s)
    desig_named (old_desig name colon) s = s

    -- the names behind the initialiser of a declarator, if it has one
    pub some_init_named : SomeInit → Names → Names
    some_init_named no_init s = s
    some_init_named (some_init equal init) s = init_named init s

    -- a name is declared behind its declarator, before its initialiser; the first one may be what a struct without a
    -- tag is known by
    pub init_declrs_named : List Keyword → Bool → CType → InitDeclrs → Names → Names
    init_declrs_named words is_untagged t no_init_declrs s = s
    init_declrs_named words is_untagged t (more_init_declrs attrs d asm_label attrs2 init ds) s =
        init_declrs_named words false t ds
        (with_pieced (declr_named None d s)
        (λ ps s. some_init_named init
        (declared_some u (untagged_number is_untagged t) (declared_name d) words (applied ps t) s)))

    -- A name of the type of its initialiser's value, with the words of its specifiers, is declared behind that.
    pub auto_declrs_named : List Keyword → Bool → ℕ → CType → InitDeclrs → Names → Names
    auto_declrs_named words is_untagged semi t no_init_declrs s = s
    auto_declrs_named words is_untagged semi t (more_init_declrs attrs d asm_label attrs2 init ds) s =
        auto_declrs_named words false semi t ds
        (with_pieced (declr_named None d s) (λ ps s. auto_named words is_untagged semi t (declared_name d) init s))

    -- the names behind a declarator with `__auto_type`
    pub auto_named : List Keyword → Bool → ℕ → CType → Option Named → SomeInit → Names → Names
    auto_named words is_untagged semi t it no_init s = s
    auto_named words is_untagged semi t it (some_init equal (init_braced list)) s = s
    auto_named words is_untagged semi t it (some_init equal (init_value e)) s =
        with_typed (typed_by u semi (value (shape_of u (expr_named false e s) e)) (expr_named false e s))
        (λ bare s. declared_some u (untagged_number is_untagged t) it words (with_words (words_of t) bare) s)

    -- the names behind a declaration
    pub declaration_named : Declaration → Names → Names
    declaration_named (declaration exts ws ds semi) s =
        with_typed (words_named (is_tag_alone ws ds) ws (base []) [] s)
        (λ t s. if are_auto ws ds then auto_declrs_named (said_words ws) (has_untagged ws) semi t ds s
        else init_declrs_named (said_words ws) (has_untagged ws) t ds s)

    -- the names behind a declaration or an assertion
    pub decl_named : Decl → Names → Names
    decl_named (decl_declaration d) s = declaration_named d s
    decl_named (decl_assert it) s = s

    -- the names behind the items of a block
    pub block_items_named : BlockItems → Names → Names
    block_items_named no_block_items s = s
    block_items_named (more_block_items item items) s = block_items_named items (block_item_named item s)

    -- the names behind an item of a block
    pub block_item_named : BlockItem → Names → Names
    block_item_named (block_decl d) s = decl_named d s
    block_item_named (block_stmt t) s = stmt_named t s
    block_item_named (block_labels keyword names semi) s = s

    -- the statements that choose and repeat have scopes of their own, and so has each direct part of theirs
    pub stmt_named : Stmt → Names → Names
    stmt_named (block opening items closing) s = leave (block_items_named items (enter s))
    stmt_named (expr_stmt e semi) s = some_expr_named e s
    stmt_named (attr_stmt attrs semi) s = s
    stmt_named (label name colon attrs t) s = stmt_named t s
    stmt_named (case_stmt keyword e colon t) s = stmt_named t (expr_named false e s)
    stmt_named (default_stmt keyword colon t) s = stmt_named t s
    stmt_named (if_stmt keyword opening e closing t other) s =
        leave (some_else_named other (leave (stmt_named t (enter (expr_named false e (enter s))))))
    stmt_named (switch_stmt keyword opening e closing t) s =
        leave (leave (stmt_named t (enter (expr_named false e (enter s)))))
    stmt_named (while_stmt keyword opening e closing t) s =
        leave (leave (stmt_named t (enter (expr_named false e (enter s)))))
    stmt_named (do_stmt keyword t keyword2 opening e closing semi) s =
        leave (expr_named false e (leave (stmt_named t (enter (enter s)))))
    stmt_named (for_stmt keyword opening start e semi e2 closing t) s =
        leave (leave (stmt_named t (enter (some_expr_named e2 (some_expr_named e (for_start_named start (enter s)))))))
    stmt_named (goto_stmt keyword name semi) s = s
    stmt_named (continue_stmt keyword semi) s = s
    stmt_named (break_stmt keyword semi) s = s
    stmt_named (return_stmt keyword e semi) s = some_expr_named e s
    stmt_named (asm_stmt keyword words group semi) s = s
    stmt_named (case_range keyword e dots e2 colon t) s = stmt_named t (expr_named false e2 (expr_named false e s))
    stmt_named (goto_value keyword star e semi) s = expr_named false e s

    -- the names behind the `else` of an `if`, if it has one
    pub some_else_named : SomeElse → Names → Names
    some_else_named no_else s = s
    some_else_named (some_else keyword t) s = leave (stmt_named t (enter s))

    -- the names behind the first part of a `for`
    pub for_start_named : ForStart → Names → Names
    for_start_named (start_declaration d) s = declaration_named d s
    for_start_named (start_value e semi) s = some_expr_named e s

  -- functions and units

  -- the names behind a function with a body, by the name that it declares
  abbrev pub function_by : Option Named → SpecWords → Declr → BlockItems → Names → Names
  function_by None ws d items s = s
  function_by (Some it) ws d items s =
      with_typed (words_named false ws (base []) [] s)
      (λ t s. with_pieced (declr_named (Some (linked (u.key it.name) (place u it.token) s)) d s)
      (λ ps s. body_left (block_items_named items
      (body_entered (place u it.token) (linked (u.key it.name) (place u it.token) s)
      (not (has_word keywords.Inline (said_words ws))) (is_counted_by u.wide (said_words ws))
      (declared_thing (said_words ws) (place u it.token) (u.key it.name) (applied ps t)
      (sized (place u it.token) (applied ps t) s))))))

  -- functions with lists of identifiers

  -- the parameters that the identifiers of an old function name
  abbrev pub identifiers_named : List Identifier → Olds → Olds
  identifiers_named [] it = it
  identifiers_named (name ∷ names) it = identifiers_named names (identified u name.token name.name it)

  -- what a declaration behind such a list declares, with the initialisers that no well-formed unit has there
  abbrev pub old_declrs_named : Option Place → List Keyword → Bool → CType → InitDeclrs → Olds → Olds
  old_declrs_named own words is_untagged t no_init_declrs it = it
  old_declrs_named own words is_untagged t (more_init_declrs attrs d asm_label attrs2 init ds) it =
      old_declrs_named own words false t ds (with_pieced (declr_named None d it.names)
      (λ ps s. initialised init
      (old_one own words is_untagged t (declared_name d) (applied ps t) (record it { names = s })))) where
        initialised : SomeInit → Olds → Olds
        initialised init it = record it { names = some_init_named init it.names }

        old_one : Option Place → List Keyword → Bool → CType → Option Named → CType → Olds → Olds
        old_one own words is_untagged t name declared it =
            if has_word keywords.Typedef words
            then record it { names = declared_some u (untagged_number is_untagged t) name words declared it.names }
            else old_declared_some u own name (decayed declared) it

  -- the names behind a declaration between the parameters of an old function and its body
  abbrev pub old_declaration_named : Option Place → Declaration → Olds → Olds
  old_declaration_named own (declaration exts ws ds semi) it =
      with_typed (words_named (is_tag_alone ws ds) ws (base []) [] it.names)
      (λ t s. if are_auto ws ds
      then record it { names = auto_declrs_named (said_words ws) (has_untagged ws) semi t ds s }
      else old_declrs_named own (said_words ws) (has_untagged ws) t ds (record it { names = s }))

  -- the names behind the declarations between the parameters of an old function and its body
  abbrev pub old_declarations_named : Option Place → List Declaration → Olds → Olds
  old_declarations_named own [] it = it
  old_declarations_named own (d ∷ ds) it = old_declarations_named own ds (old_declaration_named own d it)

  -- the pieces of such a declarator: the types of the parameters are in the order of the identifiers
  abbrev pub old_declr_named : Option Place → List Declaration → Declr → Names → Pieced
  old_declr_named own ds (identifiers d opening names closing) s =
      with_pieced (declr_named None d s)
      (λ ps s. listed own ps
      (old_declarations_named own ds (identifiers_named names (record { list = []; names = enter s })))) where
        listed : Option Place → List Piece → Olds → Pieced
        listed own ps it = record {
          pieces = ps ++ to_function (types_in (old_types it.list)) None ∷ [];
          names = keep own (old_faults u it.list it.names);
        }
  old_declr_named own ds (pointer star words d) s =
      with_pieced (old_declr_named own ds d s)
      (λ ps s. record { pieces = ps ++ to_pointer (pointer_annotations u words) ∷ []; names = s })
  old_declr_named own ds (declr_paren opening attrs d closing) s = old_declr_named own ds d s
  old_declr_named own ds (array d opening words size closing) s =
      with_pieced (old_declr_named own ds d s)
      (λ ps s. record { pieces = ps ++ to_pointer (array_annotations u words) ∷ []; names = some_size_named size s })
  old_declr_named own ds (params d opening ps dots closing) s =
      with_pieced (old_declr_named own ds d s)
      (λ pieces s. with_listed (params_named 0 None ps (enter s))
      (λ types s. record {
        pieces = pieces ++ to_function (no_params_if (says_none ps) types) (ellipsis u ps dots) ∷ [];
        names = leave s;
      }))
  old_declr_named own ds (declr_name token name) s = declr_named None (declr_name token name) s
  old_declr_named own ds (base_name token) s = declr_named None (base_name token) s
  old_declr_named own ds (abs_pointer star words d) s = declr_named None (abs_pointer star words d) s
  old_declr_named own ds (abs_paren opening attrs d closing) s = declr_named None (abs_paren opening attrs d closing) s
  old_declr_named own ds (abs_array d opening words size closing) s =
      declr_named None (abs_array d opening words size closing) s
  old_declr_named own ds (abs_params d opening ps dots closing) s =
      declr_named None (abs_params d opening ps dots closing) s

  -- the names behind an old function with a body, by the name that it declares
  abbrev pub old_function_by : Option Named → SpecWords → Declr → List Declaration → BlockItems → Names → Names
  old_function_by None ws d ds items s = s
  old_function_by (Some it) ws d ds items s =
      with_typed (words_named false ws (base []) [] s)
      (λ t s. with_pieced (old_declr_named (Some (linked (u.key it.name) (place u it.token) s)) ds d s)
      (λ ps s. body_left (block_items_named items
      (body_entered (place u it.token) (linked (u.key it.name) (place u it.token) s)
      (not (has_word keywords.Inline (said_words ws))) (is_counted_by u.wide (said_words ws))
      (declared_thing (said_words ws) (place u it.token) (u.key it.name) (applied ps t)
      (sized (place u it.token) (applied ps t) s))))))

  -- the names behind an item of a unit
  abbrev pub item_named : Item → Names → Names
  item_named (function_item exts ws d attrs opening items closing) s = function_by (declared_name d) ws d items s
  item_named (old_function_item exts ws d attrs ds opening items closing) s =
      old_function_by (declared_name d) ws d ds items s
  item_named (decl_item d) s = decl_named d s
  item_named (asm_item keyword group semi) s = s
  item_named (semi_item semi) s = s

  -- the names behind the items of a unit
  abbrev pub items_named : List Item → Names → Names
  items_named [] s = s
  items_named (item ∷ items) s = items_named items (item_named item s)
