-- The tokens of a tree, before what comes after them: each node has those of its line of the grammar.
--
-- `all` are the tokens of the unit. What stands in a group, and which element a `$` word names, is read there; all
-- else is in the tree.
use Rattle.std.specs.Prelude.{ℕ, ◌+◌, ◌-◌, List, [], ◌∷◌, ◌++◌, take, drop, Option, None, Some}
use Rattle.c_words.specs.declared.kinds.Punct.{Punct}
use Rattle.c_words.specs.declared.kinds.Punct.TheVariants.{AmpersandAmpersand, Arrow, CloseBrace, CloseBracket, CloseParen, Colon, Comma, Dot, Ellipsis, Equal, OpenBrace, OpenBracket, OpenParen, Question, Semicolon, Star}
use Rattle.c_words.specs.declared.kinds.Keyword.{Keyword}
use Rattle.c_words.specs.declared.kinds.Keyword.TheVariants.{Alignas, Asm, Attribute, AutoType, BaseWord, Break, Case, Choose, Compatible, Continue, Default, Do, Else, Enum, Extension, For, Generic, Goto, If, Inline, LabelWord, Noreturn, Offsetof, Part, Return, Static, StaticAssert, Switch, Thread, Typeof, VaArg, VaCopy, VaStart, While}
use Rattle.c_words.specs.declared.kinds.TokenKind.{TokenKind}
use Rattle.c_words.specs.declared.kinds.TokenKind.TheVariants as kinds
use Rattle.c_tree.specs.declared.lexeme.Lexeme.{Lexeme}
use Rattle.c_syntax.specs.declared.parts.Identifier.{Identifier}
use Rattle.c_syntax.specs.declared.parts.Word.{Word}
use Rattle.c_syntax.specs.declared.parts.Group.{Group}
use Rattle.c_syntax.specs.declared.parts.Attr.{Attr}
use Rattle.c_syntax.specs.declared.parts.AsmLabel.{AsmLabel}
use Rattle.c_syntax.specs.declared.parts.Assert.{Assert}
use Rattle.c_syntax.specs.declared.parts.Qual.{Qual}
use Rattle.c_syntax.specs.declared.parts.PointerWord.{PointerWord}
use Rattle.c_syntax.specs.declared.parts.ArrayWord.{ArrayWord}
use Rattle.c_syntax.specs.declared.parts.Qual.TheVariants as quals
use Rattle.c_syntax.specs.declared.parts.PointerWord.TheVariants as pointer_words
use Rattle.c_syntax.specs.declared.parts.ArrayWord.TheVariants as array_words
use Rattle.c_tree.specs.Tree.{Expr, operation, cast, prefix, sizeof_value, sizeof_type, extension, index, call, dot, arrow, post, compound, name_use, number_use, char_use, text_use, paren, statement_expr, va_arg, va_start, va_copy, offset, Operator, comma, assign, cond, binary, SomeExpr, no_expr, some_expr, Exprs, no_exprs, more_exprs, SpecWords, no_words, more_words, SpecWord, storage, thread, inline_word, noreturn, qualifier, basic, struct_type, enum_type, typedef_name, attribute, SomeBody, no_body, some_body, StructItems, no_struct_items, more_struct_items, StructItem, member, member_semi, member_assert, MemDeclrs, no_mem_declrs, more_mem_declrs, MemDeclr, named, unnamed, SomeValue, no_value, some_value, EnumType, enum_of, SomeEnumBody, no_enum_body, some_enum_body, Enumerators, no_enumerators, more_enumerators, Declr, pointer, declr_name, declr_paren, array, params, abs_pointer, abs_paren, abs_array, abs_params, SomeDeclr, no_declr, some_declr, SomeSize, no_size, some_size, ArraySize, size_value, size_star, Params, no_params, more_params, Init, init_value, init_braced, InitList, init_list, InitItems, no_init_items, more_init_items, Desigs, no_desigs, more_desigs, Desig, member_desig, index_desig, SomeInit, no_init, some_init, InitDeclrs, no_init_declrs, more_init_declrs, Declaration, declaration, Decl, decl_declaration, decl_assert, BlockItems, no_block_items, more_block_items, BlockItem, block_decl, block_stmt, Stmt, block, expr_stmt, attr_stmt, label, case_stmt, default_stmt, if_stmt, switch_stmt, while_stmt, do_stmt, for_stmt, goto_stmt, continue_stmt, break_stmt, return_stmt, asm_stmt, SomeElse, no_else, some_else, ForStart, start_declaration, start_value, Dots, complex_part, label_use, compat, choose, generic, Assocs, no_assocs, more_assocs, Assoc, typed_assoc, default_assoc, typeof_value, typeof_type, align, auto_word, identifiers, base_name, range_desig, old_desig, block_labels, case_range, goto_value}

-- one token of a kind, with its number
abbrev pub plain_text : TokenKind → ℕ → List Lexeme → List Lexeme
plain_text kind token k = record { kind = kind; at = token } ∷ k

-- one punctuator, with its number
abbrev pub sign_text : Punct → ℕ → List Lexeme → List Lexeme
sign_text p token k = plain_text (kinds.Punct p) token k

-- a punctuator that may be left out
abbrev pub some_sign_text : Punct → Option ℕ → List Lexeme → List Lexeme
some_sign_text p None k = k
some_sign_text p (Some token) k = sign_text p token k

-- one keyword, with its number
abbrev pub keyword_text : Keyword → ℕ → List Lexeme → List Lexeme
keyword_text w token k = plain_text (kinds.Keyword w) token k

-- one identifier: its name, and its number as a token
abbrev pub name_text : ℕ → ℕ → List Lexeme → List Lexeme
name_text name token k = plain_text (kinds.Name name) token k

-- the token of an identifier node
abbrev pub identifier_text : Identifier → List Lexeme → List Lexeme
identifier_text i k = name_text i.name i.token k

-- a tag, where there is one
abbrev pub tag_text : Option Identifier → List Lexeme → List Lexeme
tag_text None k = k
tag_text (Some i) k = identifier_text i k

-- the token of a keyword that a node keeps
abbrev pub word_text : Word → List Lexeme → List Lexeme
word_text w k = keyword_text w.keyword w.token k

-- keywords one behind another
abbrev pub words_text : List Word → List Lexeme → List Lexeme
words_text [] k = k
words_text (w ∷ ws) k = word_text w (words_text ws k)

-- `__extension__` again and again, at these numbers
abbrev pub extensions_text : List ℕ → List Lexeme → List Lexeme
extensions_text [] k = k
extensions_text (token ∷ tokens) k = keyword_text Extension token (extensions_text tokens k)

-- adjacent string literals, at these numbers
abbrev pub texts_text : List ℕ → List Lexeme → List Lexeme
texts_text [] k = k
texts_text (token ∷ tokens) k = plain_text kinds.Text token (texts_text tokens k)

-- the number right before the first token
abbrev pub number_before : List Lexeme → ℕ
number_before [] = 0
number_before (t ∷ k) = t.at - 1

-- a comma between items of a list, whose number is in no node
abbrev pub separated : List Lexeme → List Lexeme
separated k = sign_text Comma (number_before k) k

-- names with a comma between two
abbrev pub other_names_text : List Identifier → List Lexeme → List Lexeme
other_names_text [] k = k
other_names_text (name ∷ names) k = separated (identifier_text name (other_names_text names k))

-- a list of identifiers with a comma between two
abbrev pub names_text : List Identifier → List Lexeme → List Lexeme
names_text [] k = k
names_text (name ∷ names) k = identifier_text name (other_names_text names k)

-- the tokens of the unit from one number to another
abbrev pub tokens_between : List Lexeme → ℕ → ℕ → List Lexeme
tokens_between all first last = take (last + 1 - first) (drop first all)

-- a group, with its parentheses, as it stands in the unit
abbrev pub group_text : List Lexeme → Group → List Lexeme → List Lexeme
group_text all g k = tokens_between all g.first g.last ++ k

-- an attribute: its keyword and its group
abbrev pub attr_text : List Lexeme → Attr → List Lexeme → List Lexeme
attr_text all a k = keyword_text Attribute a.keyword (group_text all a.group k)

-- attributes one behind another
abbrev pub attrs_text : List Lexeme → List Attr → List Lexeme → List Lexeme
attrs_text all [] k = k
attrs_text all (a ∷ attrs) k = attr_text all a (attrs_text all attrs k)

-- the `asm` label of a declarator, where there is one
abbrev pub label_text : List Lexeme → Option AsmLabel → List Lexeme → List Lexeme
label_text all None k = k
label_text all (Some l) k = keyword_text Asm l.keyword (group_text all l.group k)

-- a `_Static_assert` with its group and semicolon
abbrev pub assert_text : List Lexeme → Assert → List Lexeme → List Lexeme
assert_text all it k = keyword_text StaticAssert it.keyword (group_text all it.group (sign_text Semicolon it.semi k))

-- a qualifier; which element a `$` word names is what the unit has at its number
abbrev pub qual_text : List Lexeme → Qual → List Lexeme → List Lexeme
qual_text all (quals.Word w) k = word_text w k
qual_text all (quals.Element token) k = tokens_between all token token ++ k
qual_text all (quals.Index token) k = plain_text kinds.Index token k

-- qualifiers one behind another
abbrev pub quals_text : List Lexeme → List Qual → List Lexeme → List Lexeme
quals_text all [] k = k
quals_text all (q ∷ qs) k = qual_text all q (quals_text all qs k)

-- the qualifiers and attributes behind the `*` of a pointer
abbrev pub pointer_words_text : List Lexeme → List PointerWord → List Lexeme → List Lexeme
pointer_words_text all [] k = k
pointer_words_text all (pointer_words.Qual q ∷ ws) k = qual_text all q (pointer_words_text all ws k)
pointer_words_text all (pointer_words.Attr a ∷ ws) k = attr_text all a (pointer_words_text all ws k)

-- `static` and qualifiers behind the `[` of an array declarator (6.7.5.2)
abbrev pub array_words_text : List Lexeme → List ArrayWord → List Lexeme → List Lexeme
array_words_text all [] k = k
array_words_text all (array_words.Static token ∷ ws) k = keyword_text Static token (array_words_text all ws k)
array_words_text all (array_words.Qual q ∷ ws) k = qual_text all q (array_words_text all ws k)

-- the comma, qualifiers and `...` that end a list of parameters, where they stand
abbrev pub dots_text : List Lexeme → Option Dots → List Lexeme → List Lexeme
dots_text all None k = k
dots_text all (Some d) k = sign_text Comma d.comma (quals_text all d.quals (sign_text Ellipsis d.dots k))

module _ (all : List Lexeme) where
  abbrev mutual
    -- an expression (6.5)
    pub expr_text : Expr → List Lexeme → List Lexeme
    expr_text (operation e op token e2) k = expr_text e (operator_text op token (expr_text e2 k))
    expr_text (cast opening ws d closing e) k =
        sign_text OpenParen opening
        (spec_words_text ws (some_declr_text d (sign_text CloseParen closing (expr_text e k))))
    expr_text (prefix token p e) k = sign_text p token (expr_text e k)
    expr_text (sizeof_value word e) k = word_text word (expr_text e k)
    expr_text (sizeof_type word opening ws d closing) k =
        word_text word
        (sign_text OpenParen opening (spec_words_text ws (some_declr_text d (sign_text CloseParen closing k))))
    expr_text (extension keyword e) k = keyword_text Extension keyword (expr_text e k)
    expr_text (index e opening e2 closing) k =
        expr_text e (sign_text OpenBracket opening (expr_text e2 (sign_text CloseBracket closing k)))
    expr_text (call e opening es closing) k =
        expr_text e (sign_text OpenParen opening (exprs_text es (sign_text CloseParen closing k)))
    expr_text (dot e token name) k = expr_text e (sign_text Dot token (identifier_text name k))
    expr_text (arrow e token name) k = expr_text e (sign_text Arrow token (identifier_text name k))
    expr_text (post e token p) k = expr_text e (sign_text p token k)
    expr_text (compound opening ws d closing list) k =
        sign_text OpenParen opening
        (spec_words_text ws (some_declr_text d (sign_text CloseParen closing (init_list_text list k))))
    expr_text (name_use token name) k = name_text name token k
    expr_text (number_use token) k = plain_text kinds.Number token k
    expr_text (char_use token) k = plain_text kinds.Char token k
    expr_text (text_use texts) k = texts_text texts k
    expr_text (paren opening e closing) k = sign_text OpenParen opening (expr_text e (sign_text CloseParen closing k))
    expr_text (statement_expr opening opening2 items closing closing2) k =
        sign_text OpenParen opening (sign_text OpenBrace opening2
        (block_items_text items (sign_text CloseBrace closing (sign_text CloseParen closing2 k))))
    expr_text (va_arg keyword opening e separator ws d closing) k =
        keyword_text VaArg keyword (sign_text OpenParen opening (expr_text e
        (sign_text Comma separator (spec_words_text ws (some_declr_text d (sign_text CloseParen closing k))))))
    expr_text (va_start keyword opening e separator e2 closing) k =
        keyword_text VaStart keyword (sign_text OpenParen opening
        (expr_text e (sign_text Comma separator (expr_text e2 (sign_text CloseParen closing k)))))
    expr_text (va_copy keyword opening e separator e2 closing) k =
        keyword_text VaCopy keyword (sign_text OpenParen opening
        (expr_text e (sign_text Comma separator (expr_text e2 (sign_text CloseParen closing k)))))
    expr_text (offset keyword opening ws d separator name steps closing) k =
        keyword_text Offsetof keyword (sign_text OpenParen opening (spec_words_text ws (some_declr_text d
        (sign_text Comma separator (identifier_text name (desigs_text steps (sign_text CloseParen closing k)))))))
    expr_text (complex_part keyword e) k = keyword_text Part keyword (expr_text e k)
    expr_text (label_use token name) k = sign_text AmpersandAmpersand token (identifier_text name k)
    expr_text (compat keyword opening ws d separator ws2 d2 closing) k =
        keyword_text Compatible keyword (sign_text OpenParen opening (spec_words_text ws (some_declr_text d
        (sign_text Comma separator (spec_words_text ws2 (some_declr_text d2 (sign_text CloseParen closing k)))))))
    expr_text (choose keyword opening e separator e2 separator2 e3 closing) k =
        keyword_text Choose keyword (sign_text OpenParen opening (expr_text e (sign_text Comma separator
        (expr_text e2 (sign_text Comma separator2 (expr_text e3 (sign_text CloseParen closing k)))))))
    expr_text (generic keyword opening e xs closing) k =
        keyword_text Generic keyword
        (sign_text OpenParen opening (expr_text e (assocs_text xs (sign_text CloseParen closing k))))

    -- the associations of `_Generic`, each after a comma
    pub assocs_text : Assocs → List Lexeme → List Lexeme
    assocs_text no_assocs k = k
    assocs_text (more_assocs x xs) k = separated (assoc_text x (assocs_text xs k))

    -- an association: a type name or `default`, a colon and an expression
    pub assoc_text : Assoc → List Lexeme → List Lexeme
    assoc_text (typed_assoc ws d colon e) k =
        spec_words_text ws (some_declr_text d (sign_text Colon colon (expr_text e k)))
    assoc_text (default_assoc keyword colon e) k = keyword_text Default keyword (sign_text Colon colon (expr_text e k))

    -- an operator, with what stands in the middle of `?:`
    pub operator_text : Operator → ℕ → List Lexeme → List Lexeme
    operator_text comma token k = sign_text Comma token k
    operator_text (assign p) token k = sign_text p token k
    operator_text (cond e colon) token k = sign_text Question token (some_expr_text e (sign_text Colon colon k))
    operator_text (binary p) token k = sign_text p token k

    -- an expression that may be left out
    pub some_expr_text : SomeExpr → List Lexeme → List Lexeme
    some_expr_text no_expr k = k
    some_expr_text (some_expr e) k = expr_text e k

    -- the arguments of a call
    pub exprs_text : Exprs → List Lexeme → List Lexeme
    exprs_text no_exprs k = k
    exprs_text (more_exprs e es) k = expr_text e (other_exprs_text es k)

    -- further arguments, each after a comma
    pub other_exprs_text : Exprs → List Lexeme → List Lexeme
    other_exprs_text no_exprs k = k
    other_exprs_text (more_exprs e es) k = separated (expr_text e (other_exprs_text es k))

    -- specifiers (6.7)
    pub spec_words_text : SpecWords → List Lexeme → List Lexeme
    spec_words_text no_words k = k
    spec_words_text (more_words w ws) k = spec_word_text w (spec_words_text ws k)

    -- one word of specifiers, with its body, type name or group where it has one
    pub spec_word_text : SpecWord → List Lexeme → List Lexeme
    spec_word_text (storage word) k = word_text word k
    spec_word_text (thread keyword) k = keyword_text Thread keyword k
    spec_word_text (inline_word keyword) k = keyword_text Inline keyword k
    spec_word_text (noreturn keyword) k = keyword_text Noreturn keyword k
    spec_word_text (qualifier qual) k = qual_text all qual k
    spec_word_text (basic word) k = word_text word k
    spec_word_text (struct_type word attrs tag body) k =
        word_text word (attrs_text all attrs (tag_text tag (some_body_text body k)))
    spec_word_text (enum_type enum) k = enum_type_text enum k
    spec_word_text (typedef_name name) k = name_text name.name name.token k
    spec_word_text (attribute attr) k = attr_text all attr k
    spec_word_text (typeof_value keyword opening e closing) k =
        keyword_text Typeof keyword (sign_text OpenParen opening (expr_text e (sign_text CloseParen closing k)))
    spec_word_text (typeof_type word opening ws d closing) k =
        word_text word
        (sign_text OpenParen opening (spec_words_text ws (some_declr_text d (sign_text CloseParen closing k))))
    spec_word_text (align attr) k = keyword_text Alignas attr.keyword (group_text all attr.group k)
    spec_word_text (auto_word token) k = keyword_text AutoType token k

    -- the body of a struct or union, where there is one
    pub some_body_text : SomeBody → List Lexeme → List Lexeme
    some_body_text no_body k = k
    some_body_text (some_body opening items closing) k =
        sign_text OpenBrace opening (struct_items_text items (sign_text CloseBrace closing k))

    -- the members of a struct or union
    pub struct_items_text : StructItems → List Lexeme → List Lexeme
    struct_items_text no_struct_items k = k
    struct_items_text (more_struct_items item items) k = struct_item_text item (struct_items_text items k)

    -- a member's declaration (6.7.2.1), a semicolon alone, or a `_Static_assert`
    pub struct_item_text : StructItem → List Lexeme → List Lexeme
    struct_item_text (member exts ws ds semi) k =
        extensions_text exts (spec_words_text ws (mem_declrs_text ds (sign_text Semicolon semi k)))
    struct_item_text (member_semi semi) k = sign_text Semicolon semi.token k
    struct_item_text (member_assert it) k = assert_text all it k

    -- the declarators of a member's declaration
    pub mem_declrs_text : MemDeclrs → List Lexeme → List Lexeme
    mem_declrs_text no_mem_declrs k = k
    mem_declrs_text (more_mem_declrs attrs d ds) k =
        attrs_text all attrs (mem_declr_text d (other_mem_declrs_text ds k))

    -- further declarators of a member's declaration, each after a comma
    pub other_mem_declrs_text : MemDeclrs → List Lexeme → List Lexeme
    other_mem_declrs_text no_mem_declrs k = k
    other_mem_declrs_text (more_mem_declrs attrs d ds) k =
        separated (attrs_text all attrs (mem_declr_text d (other_mem_declrs_text ds k)))

    -- a member's declarator, or a colon and a width, with the attributes behind it
    pub mem_declr_text : MemDeclr → List Lexeme → List Lexeme
    mem_declr_text (named d width attrs) k = declr_text d (some_value_text Colon width (attrs_text all attrs k))
    mem_declr_text (unnamed colon e attrs) k = sign_text Colon colon (expr_text e (attrs_text all attrs k))

    -- a value behind this sign, where it stands
    pub some_value_text : Punct → SomeValue → List Lexeme → List Lexeme
    some_value_text mark no_value k = k
    some_value_text mark (some_value token e) k = sign_text mark token (expr_text e k)

    -- an enumeration type (6.7.2.2)
    pub enum_type_text : EnumType → List Lexeme → List Lexeme
    enum_type_text (enum_of keyword attrs tag body) k =
        keyword_text Enum keyword (attrs_text all attrs (tag_text tag (some_enum_body_text body k)))

    -- the body of an enumeration, where there is one
    pub some_enum_body_text : SomeEnumBody → List Lexeme → List Lexeme
    some_enum_body_text no_enum_body k = k
    some_enum_body_text (some_enum_body opening es last closing) k =
        sign_text OpenBrace opening (enumerators_text es (some_sign_text Comma last (sign_text CloseBrace closing k)))

    -- the enumerators of an enumeration
    pub enumerators_text : Enumerators → List Lexeme → List Lexeme
    enumerators_text no_enumerators k = k
    enumerators_text (more_enumerators name attrs value es) k =
        identifier_text name (attrs_text all attrs (some_value_text Equal value (other_enumerators_text es k)))

    -- further enumerators, each after a comma
    pub other_enumerators_text : Enumerators → List Lexeme → List Lexeme
    other_enumerators_text no_enumerators k = k
    other_enumerators_text (more_enumerators name attrs value es) k = separated
        (identifier_text name (attrs_text all attrs (some_value_text Equal value (other_enumerators_text es k))))

    -- a declarator, with a name (6.7.5) or without (6.7.6)
    pub declr_text : Declr → List Lexeme → List Lexeme
    declr_text (pointer star words d) k = sign_text Star star (pointer_words_text all words (declr_text d k))
    declr_text (declr_name token name) k = name_text name token k
    declr_text (declr_paren opening attrs d closing) k =
        sign_text OpenParen opening (attrs_text all attrs (declr_text d (sign_text CloseParen closing k)))
    declr_text (array d opening words size closing) k =
        declr_text d (sign_text OpenBracket opening
        (array_words_text all words (some_size_text size (sign_text CloseBracket closing k))))
    declr_text (params d opening ps dots closing) k = declr_text d
        (sign_text OpenParen opening (params_text ps (dots_text all dots (sign_text CloseParen closing k))))
    declr_text (abs_pointer star words d) k = sign_text Star star (pointer_words_text all words (some_declr_text d k))
    declr_text (abs_paren opening attrs d closing) k =
        sign_text OpenParen opening (attrs_text all attrs (declr_text d (sign_text CloseParen closing k)))
    declr_text (abs_array d opening words size closing) k =
        some_declr_text d (sign_text OpenBracket opening
        (array_words_text all words (some_size_text size (sign_text CloseBracket closing k))))
    declr_text (abs_params d opening ps dots closing) k =
        some_declr_text d
        (sign_text OpenParen opening (params_text ps (dots_text all dots (sign_text CloseParen closing k))))
    declr_text (identifiers d opening names closing) k =
        declr_text d (sign_text OpenParen opening (names_text names (sign_text CloseParen closing k)))
    declr_text (base_name token) k = keyword_text BaseWord token k

    -- a declarator that may be absent
    pub some_declr_text : SomeDeclr → List Lexeme → List Lexeme
    some_declr_text no_declr k = k
    some_declr_text (some_declr d) k = declr_text d k

    -- the size of an array, where it stands
    pub some_size_text : SomeSize → List Lexeme → List Lexeme
    some_size_text no_size k = k
    some_size_text (some_size size) k = array_size_text size k

    -- the size of an array: an expression or `*`
    pub array_size_text : ArraySize → List Lexeme → List Lexeme
    array_size_text (size_value e) k = expr_text e k
    array_size_text (size_star star) k = sign_text Star star k

    -- the parameters of a function declarator
    pub params_text : Params → List Lexeme → List Lexeme
    params_text no_params k = k
    params_text (more_params ws d attrs ps) k =
        spec_words_text ws (some_declr_text d (attrs_text all attrs (other_params_text ps k)))

    -- further parameters, each after a comma
    pub other_params_text : Params → List Lexeme → List Lexeme
    other_params_text no_params k = k
    other_params_text (more_params ws d attrs ps) k =
        separated (spec_words_text ws (some_declr_text d (attrs_text all attrs (other_params_text ps k))))

    -- an initialiser (6.7.8)
    pub init_text : Init → List Lexeme → List Lexeme
    init_text (init_value e) k = expr_text e k
    init_text (init_braced list) k = init_list_text list k

    -- a braced list of initialisers
    pub init_list_text : InitList → List Lexeme → List Lexeme
    init_list_text (init_list opening items last closing) k =
        sign_text OpenBrace opening (init_items_text items (some_sign_text Comma last (sign_text CloseBrace closing k)))

    -- the items of a list of initialisers
    pub init_items_text : InitItems → List Lexeme → List Lexeme
    init_items_text no_init_items k = k
    init_items_text (more_init_items ds equal init items) k =
        desigs_text ds (some_sign_text Equal equal (init_text init (other_init_items_text items k)))

    -- further items, each after a comma
    pub other_init_items_text : InitItems → List Lexeme → List Lexeme
    other_init_items_text no_init_items k = k
    other_init_items_text (more_init_items ds equal init items) k =
        separated (desigs_text ds (some_sign_text Equal equal (init_text init (other_init_items_text items k))))

    -- designators, or the steps of an offset
    pub desigs_text : Desigs → List Lexeme → List Lexeme
    desigs_text no_desigs k = k
    desigs_text (more_desigs d ds) k = desig_text d (desigs_text ds k)

    -- a designator: a member, an index, a range of indices, or the old form `m:`
    pub desig_text : Desig → List Lexeme → List Lexeme
    desig_text (member_desig token name) k = sign_text Dot token (identifier_text name k)
    desig_text (index_desig opening e closing) k =
        sign_text OpenBracket opening (expr_text e (sign_text CloseBracket closing k))
    desig_text (range_desig opening e dots e2 closing) k =
        sign_text OpenBracket opening
        (expr_text e (sign_text Ellipsis dots (expr_text e2 (sign_text CloseBracket closing k))))
    desig_text (old_desig name colon) k = identifier_text name (sign_text Colon colon k)

    -- the initialiser of a declarator, where there is one
    pub some_init_text : SomeInit → List Lexeme → List Lexeme
    some_init_text no_init k = k
    some_init_text (some_init equal init) k = sign_text Equal equal (init_text init k)

    -- the declarators of a declaration
    pub init_declrs_text : InitDeclrs → List Lexeme → List Lexeme
    init_declrs_text no_init_declrs k = k
    init_declrs_text (more_init_declrs attrs d asm_label attrs2 init ds) k =
        attrs_text all attrs (declr_text d
        (label_text all asm_label (attrs_text all attrs2 (some_init_text init (other_init_declrs_text ds k)))))

    -- further declarators, each after a comma
    pub other_init_declrs_text : InitDeclrs → List Lexeme → List Lexeme
    other_init_declrs_text no_init_declrs k = k
    other_init_declrs_text (more_init_declrs attrs d asm_label attrs2 init ds) k =
        separated (attrs_text all attrs (declr_text d
        (label_text all asm_label (attrs_text all attrs2 (some_init_text init (other_init_declrs_text ds k))))))

    -- a declaration (6.7)
    pub declaration_text : Declaration → List Lexeme → List Lexeme
    declaration_text (declaration exts ws ds semi) k =
        extensions_text exts (spec_words_text ws (init_declrs_text ds (sign_text Semicolon semi k)))

    -- a declaration or a `_Static_assert`
    pub decl_text : Decl → List Lexeme → List Lexeme
    decl_text (decl_declaration d) k = declaration_text d k
    decl_text (decl_assert it) k = assert_text all it k

    -- the items of a block
    pub block_items_text : BlockItems → List Lexeme → List Lexeme
    block_items_text no_block_items k = k
    block_items_text (more_block_items item items) k = block_item_text item (block_items_text items k)

    -- a declaration, a statement, or a declaration of labels
    pub block_item_text : BlockItem → List Lexeme → List Lexeme
    block_item_text (block_decl d) k = decl_text d k
    block_item_text (block_stmt s) k = stmt_text s k
    block_item_text (block_labels keyword names semi) k =
        keyword_text LabelWord keyword (names_text names (sign_text Semicolon semi k))

    -- a statement (6.8)
    pub stmt_text : Stmt → List Lexeme → List Lexeme
    stmt_text (block opening items closing) k =
        sign_text OpenBrace opening (block_items_text items (sign_text CloseBrace closing k))
    stmt_text (expr_stmt e semi) k = some_expr_text e (sign_text Semicolon semi k)
    stmt_text (attr_stmt attrs semi) k = attrs_text all attrs (sign_text Semicolon semi k)
    stmt_text (label name colon attrs s) k =
        identifier_text name (sign_text Colon colon (attrs_text all attrs (stmt_text s k)))
    stmt_text (case_stmt keyword e colon s) k =
        keyword_text Case keyword (expr_text e (sign_text Colon colon (stmt_text s k)))
    stmt_text (default_stmt keyword colon s) k = keyword_text Default keyword (sign_text Colon colon (stmt_text s k))
    stmt_text (if_stmt keyword opening e closing s other) k =
        keyword_text If keyword (sign_text OpenParen opening
        (expr_text e (sign_text CloseParen closing (stmt_text s (some_else_text other k)))))
    stmt_text (switch_stmt keyword opening e closing s) k =
        keyword_text Switch keyword
        (sign_text OpenParen opening (expr_text e (sign_text CloseParen closing (stmt_text s k))))
    stmt_text (while_stmt keyword opening e closing s) k =
        keyword_text While keyword
        (sign_text OpenParen opening (expr_text e (sign_text CloseParen closing (stmt_text s k))))
    stmt_text (do_stmt keyword s keyword2 opening e closing semi) k =
        keyword_text Do keyword (stmt_text s (keyword_text While keyword2
        (sign_text OpenParen opening (expr_text e (sign_text CloseParen closing (sign_text Semicolon semi k))))))
    stmt_text (for_stmt keyword opening start e semi e2 closing s) k =
        keyword_text For keyword (sign_text OpenParen opening (for_start_text start (some_expr_text e
        (sign_text Semicolon semi (some_expr_text e2 (sign_text CloseParen closing (stmt_text s k)))))))
    stmt_text (goto_stmt keyword name semi) k =
        keyword_text Goto keyword (identifier_text name (sign_text Semicolon semi k))
    stmt_text (continue_stmt keyword semi) k = keyword_text Continue keyword (sign_text Semicolon semi k)
    stmt_text (break_stmt keyword semi) k = keyword_text Break keyword (sign_text Semicolon semi k)
    stmt_text (return_stmt keyword e semi) k =
        keyword_text Return keyword (some_expr_text e (sign_text Semicolon semi k))
    stmt_text (asm_stmt keyword words group semi) k =
        keyword_text Asm keyword (words_text words (group_text all group (sign_text Semicolon semi k)))
    stmt_text (case_range keyword e dots e2 colon s) k =
        keyword_text Case keyword
        (expr_text e (sign_text Ellipsis dots (expr_text e2 (sign_text Colon colon (stmt_text s k)))))
    stmt_text (goto_value keyword star e semi) k =
        keyword_text Goto keyword (sign_text Star star (expr_text e (sign_text Semicolon semi k)))

    -- the `else` of an `if`, where there is one
    pub some_else_text : SomeElse → List Lexeme → List Lexeme
    some_else_text no_else k = k
    some_else_text (some_else keyword s) k = keyword_text Else keyword (stmt_text s k)

    -- the first clause of a `for`, with its semicolon
    pub for_start_text : ForStart → List Lexeme → List Lexeme
    for_start_text (start_declaration d) k = declaration_text d k
    for_start_text (start_value e semi) k = some_expr_text e (sign_text Semicolon semi k)
