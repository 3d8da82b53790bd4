-- Which trees are well formed, scopes of names aside: the rules of the grammar and those beside it.
--
-- A `sizeof` with a type's name does not stand before `{`; no tree of a whole unit has one there.
use Rattle.std.specs.Prelude.{◌≡◌, ◌≢◌, ℕ, ◌≤◌, All, Contains, Bool, true, false, not, ◌&&◌, ◌||◌, List, [], ◌∷◌, Option, None, Some}
use Rattle.c_words.specs.declared.kinds.Punct.{Punct}
use Rattle.c_words.specs.declared.kinds.Punct.TheVariants.{PlusPlus, MinusMinus, Ampersand, Star, Plus, Minus, Tilde, Bang}
use Rattle.c_words.specs.declared.kinds.Keyword.{Keyword}
use Rattle.c_words.specs.declared.kinds.Keyword.TheVariants.{BaseWord, Const, Volatile, Restrict, Atomic, AtomicType, Seg, Typeof, Goto, Inline, Sizeof, Alignof, Struct, Union, Typedef, Extern, Static, Auto, Register}
use Rattle.c_words.specs.declared.kinds.TokenKind.{TokenKind}
use Rattle.c_words.specs.declared.kinds.TokenKind.TheVariants as kinds
use Rattle.c_tree.specs.declared.lexeme.Lexeme.{Lexeme}
use Rattle.c_syntax.specs.declared.parts.Identifier.{Identifier}
use Rattle.c_syntax.specs.declared.parts.Attr.{Attr}
use Rattle.c_syntax.specs.declared.parts.AsmLabel.{AsmLabel}
use Rattle.c_syntax.specs.declared.parts.Qual.{Qual}
use Rattle.c_syntax.specs.declared.parts.PointerWord.{PointerWord}
use Rattle.c_syntax.specs.declared.parts.ArrayWord.{ArrayWord}
use Rattle.c_syntax.specs.declared.parts.Qual.TheVariants as quals
use Rattle.c_syntax.specs.declared.parts.PointerWord.TheVariants as pointer_words
use Rattle.c_syntax.specs.declared.parts.ArrayWord.TheVariants as array_words
use Rattle.c_tree.specs.Tree.{Expr, operation, cast, prefix, sizeof_value, sizeof_type, extension, index, call, dot, arrow, post, compound, name_use, number_use, char_use, text_use, paren, statement_expr, va_arg, va_start, va_copy, offset, Operator, comma, assign, cond, binary, SomeExpr, no_expr, some_expr, Exprs, no_exprs, more_exprs, SpecWords, no_words, more_words, SpecWord, storage, thread, inline_word, noreturn, qualifier, basic, struct_type, enum_type, typedef_name, attribute, SomeBody, no_body, some_body, StructItems, no_struct_items, more_struct_items, StructItem, member, member_semi, member_assert, MemDeclrs, no_mem_declrs, more_mem_declrs, MemDeclr, named, unnamed, SomeValue, no_value, some_value, EnumType, enum_of, SomeEnumBody, no_enum_body, some_enum_body, Enumerators, no_enumerators, more_enumerators, Declr, pointer, declr_name, declr_paren, array, params, abs_pointer, abs_paren, abs_array, abs_params, SomeDeclr, no_declr, some_declr, SomeSize, no_size, some_size, ArraySize, size_value, size_star, Params, no_params, more_params, Init, init_value, init_braced, InitList, init_list, InitItems, no_init_items, more_init_items, Desigs, no_desigs, more_desigs, Desig, member_desig, index_desig, SomeInit, no_init, some_init, InitDeclrs, no_init_declrs, more_init_declrs, Declaration, declaration, Decl, decl_declaration, decl_assert, BlockItems, no_block_items, more_block_items, BlockItem, block_decl, block_stmt, Stmt, block, expr_stmt, attr_stmt, label, case_stmt, default_stmt, if_stmt, switch_stmt, while_stmt, do_stmt, for_stmt, goto_stmt, continue_stmt, break_stmt, return_stmt, asm_stmt, SomeElse, no_else, some_else, ForStart, start_declaration, start_value, Dots, complex_part, label_use, compat, choose, generic, Assocs, no_assocs, more_assocs, Assoc, typed_assoc, default_assoc, range_desig, old_desig, typeof_value, typeof_type, align, auto_word, identifiers, base_name, block_labels, case_range, goto_value}
use Rattle.c_tree.specs.Text.{tokens_between}
use Rattle.c_tree.specs.Groups.{IsGroup}
use Rattle.c_tree.specs.Levels.{IsOperator, expr_level, left_level, right_level}
use Rattle.c_tree.specs.Specifiers.{IsMix, storage_words}

-- the least level of the operand of a prefix; above all levels where the sign is no prefix
abbrev pub prefix_level : Punct → ℕ
prefix_level PlusPlus = 14
prefix_level MinusMinus = 14
prefix_level Ampersand = 13
prefix_level Star = 13
prefix_level Plus = 13
prefix_level Minus = 13
prefix_level Tilde = 13
prefix_level Bang = 13
prefix_level _ = 17

-- whether a sign is `++` or `--`, which may stand behind an operand (6.5.2.4)
abbrev pub is_postfix : Punct → Bool
is_postfix PlusPlus = true
is_postfix MinusMinus = true
is_postfix _ = false

-- whether a keyword is `sizeof` or `_Alignof`
abbrev pub is_sizeof : Keyword → Bool
is_sizeof Sizeof = true
is_sizeof Alignof = true
is_sizeof _ = false

-- whether a keyword is `struct` or `union`
abbrev pub is_struct : Keyword → Bool
is_struct Struct = true
is_struct Union = true
is_struct _ = false

-- the words before the name of a type that is a type by itself
abbrev pub is_type_former : Keyword → Bool
is_type_former Typeof = true
is_type_former AtomicType = true
is_type_former _ = false

-- `_Thread_local` has a form of its own
abbrev pub is_storage : Keyword → Bool
is_storage Typedef = true
is_storage Extern = true
is_storage Static = true
is_storage Auto = true
is_storage Register = true
is_storage _ = false

-- whether a keyword is a type qualifier (6.7.3), `_Atomic` and the named address spaces of wider C among them
abbrev pub is_qual : Keyword → Bool
is_qual Const = true
is_qual Volatile = true
is_qual Restrict = true
is_qual Atomic = true
is_qual AtomicType = true
is_qual Seg = true
is_qual _ = false

-- whether a keyword may stand between `asm` and its parenthesis
abbrev pub is_asm_word : Keyword → Bool
is_asm_word Volatile = true
is_asm_word Goto = true
is_asm_word Inline = true
is_asm_word _ = false

-- one token of a `$` word that names an element
abbrev pub IsElementKind : TokenKind → Type 0
IsElementKind (kinds.Qual lattice elem) = Unit {0}
IsElementKind _ = ⊥

-- tokens that are one `$` word that names an element of a lattice
abbrev pub IsElement : List Lexeme → Type 0
IsElement (t ∷ []) = IsElementKind t.kind
IsElement _ = ⊥

-- a well formed qualifier: the keyword of one, or a `$` word
abbrev pub IsQual : List Lexeme → Qual → Type 0
IsQual all (quals.Word w) = is_qual w.keyword ≡ true
IsQual all (quals.Element token) = IsElement (tokens_between all token token)
IsQual all (quals.Index token) = Unit {0}

-- among specifiers `_Atomic` before a parenthesis is no qualifier: it begins a type there
abbrev pub is_word_qual : Qual → Bool
is_word_qual (quals.Word w) = not (is_type_former w.keyword)
is_word_qual (quals.Element token) = true
is_word_qual (quals.Index token) = true

-- a qualifier that may stand among specifiers
abbrev pub IsWordQual : List Lexeme → Qual → Type 0
IsWordQual all qual = IsQual all qual × (is_word_qual qual ≡ true)

-- a qualifier or an attribute behind the `*` of a pointer
abbrev pub IsPointerWord : List Lexeme → PointerWord → Type 0
IsPointerWord all (pointer_words.Qual q) = IsQual all q
IsPointerWord all (pointer_words.Attr a) = IsGroup all a.group

-- `static` or a qualifier behind the `[` of an array declarator
abbrev pub IsArrayWord : List Lexeme → ArrayWord → Type 0
IsArrayWord all (array_words.Static token) = Unit {0}
IsArrayWord all (array_words.Qual q) = IsQual all q

-- attributes whose groups are groups of the unit
abbrev pub AreAttrs : List Lexeme → List Attr → Type 0
AreAttrs all attrs = All (λ a. IsGroup all a.group) attrs

-- the `asm` label of a declarator, if any, has a group of the unit
abbrev pub IsLabel : List Lexeme → Option AsmLabel → Type 0
IsLabel all None = Unit {0}
IsLabel all (Some l) = IsGroup all l.group

-- whether a declarator has a name, as those do that are not abstract
abbrev pub is_named : Declr → Bool
is_named (pointer a b c) = true
is_named (declr_name a b) = true
is_named (declr_paren a b c d) = true
is_named (array a b c d e) = true
is_named (params a b c d e) = true
is_named (identifiers a b c d) = true
is_named (base_name a) = true
is_named _ = false

-- whether a declarator is a name alone, parentheses aside
abbrev pub is_bare_name : Declr → Bool
is_bare_name (declr_name token name) = true
is_bare_name (declr_paren opening attrs d closing) = is_bare_name d
is_bare_name (pointer star words d) = false
is_bare_name (array d opening words size closing) = false
is_bare_name (params d opening ps dots closing) = false
is_bare_name (abs_pointer star words d) = false
is_bare_name (abs_paren opening attrs d closing) = false
is_bare_name (abs_array d opening words size closing) = false
is_bare_name (abs_params d opening ps dots closing) = false
is_bare_name (identifiers d opening names closing) = false
is_bare_name (base_name token) = false

-- whether a list of identifiers is the form directly around the name, parentheses aside
abbrev pub lists_identifiers : Declr → Bool
lists_identifiers (identifiers d opening names closing) = true
lists_identifiers (declr_name token name) = false
lists_identifiers (declr_paren opening attrs d closing) = lists_identifiers d
lists_identifiers (params d opening ps dots closing) = lists_identifiers d
lists_identifiers (pointer star words d) = lists_identifiers d
lists_identifiers (array d opening words size closing) = lists_identifiers d
lists_identifiers (abs_pointer star words d) = false
lists_identifiers (abs_paren opening attrs d closing) = false
lists_identifiers (abs_array d opening words size closing) = false
lists_identifiers (abs_params d opening ps dots closing) = false
lists_identifiers (base_name token) = false

-- the same of a declarator that may be absent
abbrev pub some_lists_identifiers : SomeDeclr → Bool
some_lists_identifiers no_declr = false
some_lists_identifiers (some_declr d) = lists_identifiers d

-- whether a declarator is no pointer, so that brackets and parameters may follow it (6.7.5)
abbrev pub is_direct : Declr → Bool
is_direct (pointer a b c) = false
is_direct (abs_pointer a b c) = false
is_direct _ = true

-- the ends of a list: with more arguments only behind a parameter
abbrev pub IsEllipsis : List Lexeme → Params → Option Dots → Type 0
IsEllipsis all ps None = Unit {0}
IsEllipsis all no_params (Some d) = ⊥
IsEllipsis all ps (Some d) = All (IsWordQual all) d.quals

-- a declarator that ends with the star of a pointer takes the attributes behind it
abbrev mutual
  -- whether a declarator ends with the star of a pointer
  pub ends_starred : Declr → Bool
  ends_starred (pointer a b d) = ends_starred d
  ends_starred (abs_pointer a b d) = ends_starred_some d
  ends_starred _ = false

  -- whether nothing, or a declarator that ends with a star, stands behind a star
  pub ends_starred_some : SomeDeclr → Bool
  ends_starred_some no_declr = true
  ends_starred_some (some_declr d) = ends_starred d

-- the attributes of a parameter stand behind its declarator, where that takes none itself; without one they are
-- words of its specifiers
abbrev pub IsParamEnd : SomeDeclr → List Attr → Type 0
IsParamEnd d [] = Unit {0}
IsParamEnd no_declr (a ∷ attrs) = ⊥
IsParamEnd (some_declr d) (a ∷ attrs) = ends_starred d ≡ false

-- attributes before a first declarator are words of the specifiers
abbrev pub IsInitStart : InitDeclrs → Type 0
IsInitStart no_init_declrs = Unit {0}
IsInitStart (more_init_declrs attrs a b c d e) = attrs ≡ []

-- no attributes before the first declarator of a member: they are words of its specifiers
abbrev pub IsMemStart : MemDeclrs → Type 0
IsMemStart no_mem_declrs = Unit {0}
IsMemStart (more_mem_declrs attrs d ds) = attrs ≡ []

-- a struct, union or enum has a tag or a body
abbrev pub HasTagOrBody : Option Identifier → SomeBody → Type 0
HasTagOrBody None no_body = ⊥
HasTagOrBody tag body = Unit {0}

-- an enumeration has a tag or a body
abbrev pub HasTagOrEnumBody : Option Identifier → SomeEnumBody → Type 0
HasTagOrEnumBody None no_enum_body = ⊥
HasTagOrEnumBody tag body = Unit {0}

-- a comma ends a list only behind an item
abbrev pub IsItemsEnd : InitItems → Option ℕ → Type 0
IsItemsEnd no_init_items (Some token) = ⊥
IsItemsEnd items last = Unit {0}

-- whether none of these designators is of the old form `m:`
abbrev pub has_no_old : Desigs → Bool
has_no_old no_desigs = true
has_no_old (more_desigs (member_desig a b) ds) = has_no_old ds
has_no_old (more_desigs (index_desig a b c) ds) = has_no_old ds
has_no_old (more_desigs (range_desig a b c d e) ds) = has_no_old ds
has_no_old (more_desigs (old_desig a b) ds) = false

-- `=` stands behind designators, and only there; an `m:` stands alone and without it
abbrev pub IsDesignated : Desigs → Option ℕ → Type 0
IsDesignated no_desigs None = Unit {0}
IsDesignated (more_desigs (member_desig a b) ds) (Some equal) = has_no_old ds ≡ true
IsDesignated (more_desigs (index_desig a b c) ds) (Some equal) = has_no_old ds ≡ true
IsDesignated (more_desigs (range_desig a b c d e) ds) (Some equal) = has_no_old ds ≡ true
IsDesignated (more_desigs (old_desig a b) no_desigs) None = Unit {0}
IsDesignated _ _ = ⊥

-- a statement that is not attributes and a semicolon alone
abbrev pub IsNoAttrStmt : Stmt → Type 0
IsNoAttrStmt (attr_stmt attrs semi) = ⊥
IsNoAttrStmt _ = Unit {0}

-- a statement behind which an `else` would belong to an `if` in it
abbrev mutual
  -- whether a statement ends with an `if` without `else`
  pub takes_else : Stmt → Bool
  takes_else (if_stmt a b c d s other) = other_takes_else other
  takes_else (label a b c s) = takes_else s
  takes_else (case_stmt a b c s) = takes_else s
  takes_else (case_range a b c d e s) = takes_else s
  takes_else (default_stmt a b s) = takes_else s
  takes_else (switch_stmt a b c d s) = takes_else s
  takes_else (while_stmt a b c d s) = takes_else s
  takes_else (for_stmt a b c d e f g s) = takes_else s
  takes_else _ = false

  -- whether an `if` has no `else`, or one whose statement would take a further `else`
  pub other_takes_else : SomeElse → Bool
  other_takes_else no_else = true
  other_takes_else (some_else a s) = takes_else s

-- whether `__auto_type` is a word
abbrev pub is_auto : SpecWord → Bool
is_auto (auto_word token) = true
is_auto (storage word) = false
is_auto (thread keyword) = false
is_auto (inline_word keyword) = false
is_auto (noreturn keyword) = false
is_auto (qualifier qual) = false
is_auto (basic word) = false
is_auto (struct_type word attrs tag body) = false
is_auto (enum_type enum) = false
is_auto (typedef_name name) = false
is_auto (attribute attr) = false
is_auto (typeof_value keyword opening e closing) = false
is_auto (typeof_type word opening ws d closing) = false
is_auto (align attr) = false

-- whether `__auto_type` is among specifiers
abbrev pub has_auto : SpecWords → Bool
has_auto no_words = false
has_auto (more_words w ws) = is_auto w || has_auto ws

-- Behind words with `__auto_type` one name stands, with an expression that gives it its type; where `typedef` is one of
-- the words, it is a base word, which declares nothing.
abbrev pub IsAutoDeclr : SpecWords → InitDeclrs → Type 0
IsAutoDeclr ws
    (more_init_declrs attrs (declr_name token name) None attrs2 (some_init equal (init_value e)) no_init_declrs) =
    ¬ Contains (storage_words ws) Typedef
IsAutoDeclr ws (more_init_declrs attrs (base_name token) None attrs2 (some_init equal (init_value e)) no_init_declrs) =
    Contains (storage_words ws) Typedef
IsAutoDeclr ws _ = ⊥

-- the rule of `__auto_type`, where it is among the words
abbrev pub IsAutoWhere : Bool → SpecWords → InitDeclrs → Type 0
IsAutoWhere false ws ds = Unit {0}
IsAutoWhere true ws ds = IsAutoDeclr ws ds

-- whether a declarator begins with a base word
abbrev pub begins_base : Declr → Bool
begins_base (base_name token) = true
begins_base (array d opening words size closing) = begins_base d
begins_base (params d opening ps dots closing) = begins_base d
begins_base (identifiers d opening names closing) = begins_base d
begins_base (declr_name token name) = false
begins_base (declr_paren opening attrs d closing) = false
begins_base (pointer star words d) = false
begins_base (abs_pointer star words d) = false
begins_base (abs_paren opening attrs d closing) = false
begins_base (abs_array d opening words size closing) = false
begins_base (abs_params d opening ps dots closing) = false

-- words with a base word behind them
abbrev pub and_base : SpecWords → ℕ → SpecWords
and_base no_words token = more_words (basic (record { keyword = BaseWord; token = token })) no_words
and_base (more_words w ws) token = more_words w (and_base ws token)

-- a base word behind words that it continues is one of them, and no name
abbrev pub IsBaseStart : SpecWords → InitDeclrs → Type 0
IsBaseStart ws no_init_declrs = Unit {0}
IsBaseStart ws (more_init_declrs attrs d asm_label attrs2 init ds) = begins_base d ≡ true → IsMix (and_base ws 0) → ⊥

-- the declarations of labels stand before all other items of their block
abbrev pub is_labels : BlockItem → Bool
is_labels (block_labels keyword names semi) = true
is_labels (block_decl d) = false
is_labels (block_stmt s) = false

-- whether no item declares labels
abbrev pub has_no_labels : BlockItems → Bool
has_no_labels no_block_items = true
has_no_labels (more_block_items item items) = not (is_labels item) && has_no_labels items

-- the items of a block, in which declarations of labels stand before all others
abbrev pub AreLabelsFirst : BlockItems → Type 0
AreLabelsFirst no_block_items = Unit {0}
AreLabelsFirst (more_block_items (block_labels keyword names semi) items) = AreLabelsFirst items
AreLabelsFirst (more_block_items item items) = has_no_labels items ≡ true

-- a word of the name of a type: no storage word, `_Thread_local`, `inline` or `_Noreturn`
abbrev pub IsTypeWord : SpecWord → Type 0
IsTypeWord (storage word) = ⊥
IsTypeWord (thread keyword) = ⊥
IsTypeWord (inline_word keyword) = ⊥
IsTypeWord (noreturn keyword) = ⊥
IsTypeWord (align attr) = ⊥
IsTypeWord (auto_word token) = ⊥
IsTypeWord _ = Unit {0}

module _ (all : List Lexeme) where
  abbrev mutual
    -- an expression (6.5) whose operands hold together as tightly as their operators want
    pub IsExpr : Expr → Type 0
    IsExpr (operation e op token e2) =
        IsExpr e × IsExpr e2 × IsOperator op × IsMiddle op × (left_level op ≤ expr_level e)
        × (right_level op ≤ expr_level e2)
    IsExpr (cast opening ws d closing e) =
        IsMix ws × AreTypeWords ws × IsSomeAbstract d × IsExpr e × (13 ≤ expr_level e)
    IsExpr (prefix token p e) = IsExpr e × (prefix_level p ≤ expr_level e)
    IsExpr (sizeof_value word e) = IsExpr e × (is_sizeof word.keyword ≡ true) × (14 ≤ expr_level e)
    IsExpr (sizeof_type word opening ws d closing) =
        IsMix ws × AreTypeWords ws × IsSomeAbstract d × (is_sizeof word.keyword ≡ true)
    IsExpr (extension keyword e) = IsExpr e × (13 ≤ expr_level e)
    IsExpr (index e opening e2 closing) = IsExpr e × IsExpr e2 × (15 ≤ expr_level e)
    IsExpr (call e opening es closing) = IsExpr e × AreArguments es × (15 ≤ expr_level e)
    IsExpr (dot e token name) = IsExpr e × (15 ≤ expr_level e)
    IsExpr (arrow e token name) = IsExpr e × (15 ≤ expr_level e)
    IsExpr (post e token p) = IsExpr e × (is_postfix p ≡ true) × (15 ≤ expr_level e)
    IsExpr (compound opening ws d closing list) = IsMix ws × AreTypeWords ws × IsSomeAbstract d × IsInitList list
    IsExpr (name_use token name) = Unit {0}
    IsExpr (number_use token) = Unit {0}
    IsExpr (char_use token) = Unit {0}
    IsExpr (text_use texts) = texts ≢ []
    IsExpr (paren opening e closing) = IsExpr e
    IsExpr (statement_expr opening opening2 items closing closing2) = AreBlockItems items × AreLabelsFirst items
    IsExpr (va_arg keyword opening e separator ws d closing) =
        IsExpr e × IsMix ws × AreTypeWords ws × IsSomeAbstract d × (1 ≤ expr_level e)
    IsExpr (va_start keyword opening e separator e2 closing) =
        IsExpr e × IsExpr e2 × (1 ≤ expr_level e) × (1 ≤ expr_level e2)
    IsExpr (va_copy keyword opening e separator e2 closing) =
        IsExpr e × IsExpr e2 × (1 ≤ expr_level e) × (1 ≤ expr_level e2)
    IsExpr (offset keyword opening ws d separator name steps closing) =
        IsMix ws × AreTypeWords ws × IsSomeAbstract d × AreSteps steps
    IsExpr (complex_part keyword e) = IsExpr e × (13 ≤ expr_level e)
    IsExpr (label_use token name) = Unit {0}
    IsExpr (compat keyword opening ws d separator ws2 d2 closing) =
        IsMix ws × AreTypeWords ws × IsSomeAbstract d × IsMix ws2 × AreTypeWords ws2 × IsSomeAbstract d2
    IsExpr (choose keyword opening e separator e2 separator2 e3 closing) =
        IsExpr e × IsExpr e2 × IsExpr e3 × (1 ≤ expr_level e) × (1 ≤ expr_level e2) × (1 ≤ expr_level e3)
    IsExpr (generic keyword opening e xs closing) = IsExpr e × (1 ≤ expr_level e) × (xs ≢ no_assocs) × AreAssocs xs

    -- the associations of `_Generic`, each an assignment expression behind its colon
    pub AreAssocs : Assocs → Type 0
    AreAssocs no_assocs = Unit {0}
    AreAssocs (more_assocs x xs) = IsAssoc x × AreAssocs xs

    -- an association with the name of a type, or with `default`
    pub IsAssoc : Assoc → Type 0
    IsAssoc (typed_assoc ws d colon e) = IsMix ws × AreTypeWords ws × IsSomeAbstract d × IsExpr e × (1 ≤ expr_level e)
    IsAssoc (default_assoc keyword colon e) = IsExpr e × (1 ≤ expr_level e)

    -- the middle of `?:` is any expression, or left out
    pub IsMiddle : Operator → Type 0
    IsMiddle comma = Unit {0}
    IsMiddle (assign p) = Unit {0}
    IsMiddle (cond e colon) = IsSomeExpr e
    IsMiddle (binary p) = Unit {0}

    -- an expression that may be left out
    pub IsSomeExpr : SomeExpr → Type 0
    IsSomeExpr no_expr = Unit {0}
    IsSomeExpr (some_expr e) = IsExpr e

    -- the arguments of a call, each an assignment expression
    pub AreArguments : Exprs → Type 0
    AreArguments no_exprs = Unit {0}
    AreArguments (more_exprs e es) = IsExpr e × (1 ≤ expr_level e) × AreArguments es

    -- the steps of `__builtin_offsetof` behind its first member
    pub AreSteps : Desigs → Type 0
    AreSteps no_desigs = Unit {0}
    AreSteps (more_desigs d ds) = IsStep d × AreSteps ds

    -- a step: a member or an index, and no range or old form
    pub IsStep : Desig → Type 0
    IsStep (member_desig token name) = Unit {0}
    IsStep (index_desig opening e closing) = IsExpr e
    IsStep (range_desig opening e dots e2 closing) = ⊥
    IsStep (old_desig name colon) = ⊥

    -- the designators of an initialiser
    pub AreDesigs : Desigs → Type 0
    AreDesigs no_desigs = Unit {0}
    AreDesigs (more_desigs d ds) = IsDesig d × AreDesigs ds

    -- a designator, whose index or bounds are constant expressions by their level
    pub IsDesig : Desig → Type 0
    IsDesig (member_desig token name) = Unit {0}
    IsDesig (index_desig opening e closing) = IsExpr e × (2 ≤ expr_level e)
    IsDesig (range_desig opening e dots e2 closing) = IsExpr e × (2 ≤ expr_level e) × IsExpr e2 × (2 ≤ expr_level e2)
    IsDesig (old_desig name colon) = Unit {0}

    -- the specifiers of the name of a type (6.7.6)
    pub AreTypeWords : SpecWords → Type 0
    AreTypeWords no_words = Unit {0}
    AreTypeWords (more_words w ws) = IsSpecWord w × IsTypeWord w × AreTypeWords ws

    -- the specifiers of a declaration, a member or a parameter
    pub AreSpecWords : SpecWords → Type 0
    AreSpecWords no_words = Unit {0}
    AreSpecWords (more_words w ws) = IsSpecWord w × AreSpecWords ws

    -- a word of specifiers has a keyword of its kind, and well formed parts
    pub IsSpecWord : SpecWord → Type 0
    IsSpecWord (storage word) = is_storage word.keyword ≡ true
    IsSpecWord (thread keyword) = Unit {0}
    IsSpecWord (inline_word keyword) = Unit {0}
    IsSpecWord (noreturn keyword) = Unit {0}
    IsSpecWord (qualifier qual) = IsWordQual all qual
    IsSpecWord (basic word) = Unit {0}
    IsSpecWord (struct_type word attrs tag body) =
        (is_struct word.keyword ≡ true) × AreAttrs all attrs × HasTagOrBody tag body × IsBody body
    IsSpecWord (enum_type enum) = IsEnum enum
    IsSpecWord (typedef_name name) = Unit {0}
    IsSpecWord (attribute attr) = IsGroup all attr.group
    IsSpecWord (typeof_value keyword opening e closing) = IsExpr e
    IsSpecWord (typeof_type word opening ws d closing) =
        (is_type_former word.keyword ≡ true) × IsMix ws × AreTypeWords ws × IsSomeAbstract d
    IsSpecWord (align attr) = IsGroup all attr.group
    IsSpecWord (auto_word token) = Unit {0}

    -- the body of a struct or union, if any
    pub IsBody : SomeBody → Type 0
    IsBody no_body = Unit {0}
    IsBody (some_body opening items closing) = AreStructItems items

    -- the members of a struct or union
    pub AreStructItems : StructItems → Type 0
    AreStructItems no_struct_items = Unit {0}
    AreStructItems (more_struct_items item items) = IsStructItem item × AreStructItems items

    -- a member's declaration (6.7.2.1), which has no `__auto_type`
    pub IsStructItem : StructItem → Type 0
    IsStructItem (member exts ws ds semi) =
        IsMix ws × AreSpecWords ws × (has_auto ws ≡ false) × IsMemStart ds × AreMemDeclrs ds
    IsStructItem (member_semi semi) = Unit {0}
    IsStructItem (member_assert it) = IsGroup all it.group

    -- the declarators of a member's declaration
    pub AreMemDeclrs : MemDeclrs → Type 0
    AreMemDeclrs no_mem_declrs = Unit {0}
    AreMemDeclrs (more_mem_declrs attrs d ds) = AreAttrs all attrs × IsMemDeclr d × AreMemDeclrs ds

    -- a member's declarator with a name, maybe with a width, or a width alone
    pub IsMemDeclr : MemDeclr → Type 0
    IsMemDeclr (named d width attrs) =
        IsDeclr d × (is_named d ≡ true) × IsSomeValue width × AreAttrs all attrs × (lists_identifiers d ≡ false)
    IsMemDeclr (unnamed colon e attrs) = IsExpr e × (2 ≤ expr_level e) × AreAttrs all attrs

    -- a width or a value that may be left out, a constant expression by its level
    pub IsSomeValue : SomeValue → Type 0
    IsSomeValue no_value = Unit {0}
    IsSomeValue (some_value token e) = IsExpr e × (2 ≤ expr_level e)

    -- an enumeration type (6.7.2.2)
    pub IsEnum : EnumType → Type 0
    IsEnum (enum_of keyword attrs tag body) = AreAttrs all attrs × HasTagOrEnumBody tag body × IsEnumBody body

    -- the body of an enumeration, if any, has an enumerator at least
    pub IsEnumBody : SomeEnumBody → Type 0
    IsEnumBody no_enum_body = Unit {0}
    IsEnumBody (some_enum_body opening es last closing) = (es ≢ no_enumerators) × AreEnumerators es

    -- the enumerators of an enumeration
    pub AreEnumerators : Enumerators → Type 0
    AreEnumerators no_enumerators = Unit {0}
    AreEnumerators (more_enumerators name attrs value es) = AreAttrs all attrs × IsSomeValue value × AreEnumerators es

    -- a declarator: one with a name has named declarators inside, and an abstract one has abstract ones
    pub IsDeclr : Declr → Type 0
    IsDeclr (pointer star words d) = All (IsPointerWord all) words × IsDeclr d × (is_named d ≡ true)
    IsDeclr (declr_name token name) = Unit {0}
    IsDeclr (declr_paren opening attrs d closing) = AreAttrs all attrs × IsDeclr d × (is_named d ≡ true)
    IsDeclr (array d opening words size closing) =
        IsDeclr d × (is_named d ≡ true) × (is_direct d ≡ true) × All (IsArrayWord all) words × IsSize size
    IsDeclr (params d opening ps dots closing) =
        IsDeclr d × (is_named d ≡ true) × (is_direct d ≡ true) × AreParams ps × IsEllipsis all ps dots
    IsDeclr (abs_pointer star words d) = All (IsPointerWord all) words × IsSomeAbstract d
    IsDeclr (abs_paren opening attrs d closing) = AreAttrs all attrs × IsDeclr d × (is_named d ≡ false)
    IsDeclr (abs_array d opening words size closing) = IsSomeDirect d × All (IsArrayWord all) words × IsSize size
    IsDeclr (abs_params d opening ps dots closing) = IsSomeDirect d × AreParams ps × IsEllipsis all ps dots
    IsDeclr (identifiers d opening names closing) = IsDeclr d × (is_bare_name d ≡ true) × (names ≢ [])
    IsDeclr (base_name token) = Unit {0}

    -- an abstract declarator, or none
    pub IsSomeAbstract : SomeDeclr → Type 0
    IsSomeAbstract no_declr = Unit {0}
    IsSomeAbstract (some_declr d) = IsDeclr d × (is_named d ≡ false)

    -- an abstract declarator that is no pointer, or none, before brackets or parameters
    pub IsSomeDirect : SomeDeclr → Type 0
    IsSomeDirect no_declr = Unit {0}
    IsSomeDirect (some_declr d) = IsDeclr d × (is_named d ≡ false) × (is_direct d ≡ true)

    -- what stands in the brackets of an array declarator
    pub IsSize : SomeSize → Type 0
    IsSize no_size = Unit {0}
    IsSize (some_size size) = IsArraySize size

    -- the size of an array: an assignment expression or `*`
    pub IsArraySize : ArraySize → Type 0
    IsArraySize (size_value e) = IsExpr e × (1 ≤ expr_level e)
    IsArraySize (size_star star) = Unit {0}

    -- the parameters of a function declarator
    pub AreParams : Params → Type 0
    AreParams no_params = Unit {0}
    AreParams (more_params ws d attrs ps) =
        IsMix ws × AreSpecWords ws × (has_auto ws ≡ false) × IsSomeDeclr d × AreAttrs all attrs × IsParamEnd d attrs
        × AreParams ps × (some_lists_identifiers d ≡ false)

    -- a declarator that may be absent, with a name or without
    pub IsSomeDeclr : SomeDeclr → Type 0
    IsSomeDeclr no_declr = Unit {0}
    IsSomeDeclr (some_declr d) = IsDeclr d

    -- an initialiser: an assignment expression, or a braced list
    pub IsInit : Init → Type 0
    IsInit (init_value e) = IsExpr e × (1 ≤ expr_level e)
    IsInit (init_braced list) = IsInitList list

    -- a braced list of initialisers
    pub IsInitList : InitList → Type 0
    IsInitList (init_list opening items last closing) = AreInitItems items × IsItemsEnd items last

    -- the items of a list of initialisers
    pub AreInitItems : InitItems → Type 0
    AreInitItems no_init_items = Unit {0}
    AreInitItems (more_init_items ds equal init items) =
        AreDesigs ds × IsDesignated ds equal × IsInit init × AreInitItems items

    -- an initialiser that may be left out
    pub IsSomeInit : SomeInit → Type 0
    IsSomeInit no_init = Unit {0}
    IsSomeInit (some_init equal init) = IsInit init

    -- the declarators of a declaration, each with a name
    pub AreInitDeclrs : InitDeclrs → Type 0
    AreInitDeclrs no_init_declrs = Unit {0}
    AreInitDeclrs (more_init_declrs attrs d asm_label attrs2 init ds) =
        AreAttrs all attrs × IsDeclr d × (is_named d ≡ true) × IsLabel all asm_label × AreAttrs all attrs2
        × IsSomeInit init × AreInitDeclrs ds × (lists_identifiers d ≡ false)

    -- a declaration (6.7)
    pub IsDeclaration : Declaration → Type 0
    IsDeclaration (declaration exts ws ds semi) =
        IsMix ws × AreSpecWords ws × IsInitStart ds × AreInitDeclrs ds × IsAutoWhere (has_auto ws) ws ds
        × IsBaseStart ws ds

    -- a declaration, or a `_Static_assert` with a group
    pub IsDecl : Decl → Type 0
    IsDecl (decl_declaration d) = IsDeclaration d
    IsDecl (decl_assert it) = IsGroup all it.group

    -- the items of a block
    pub AreBlockItems : BlockItems → Type 0
    AreBlockItems no_block_items = Unit {0}
    AreBlockItems (more_block_items item items) = IsBlockItem item × AreBlockItems items

    -- an item of a block; a declaration of labels has one at least
    pub IsBlockItem : BlockItem → Type 0
    IsBlockItem (block_decl d) = IsDecl d
    IsBlockItem (block_stmt s) = IsStmt s
    IsBlockItem (block_labels keyword names semi) = names ≢ []

    -- a statement (6.8)
    pub IsStmt : Stmt → Type 0
    IsStmt (block opening items closing) = AreBlockItems items × AreLabelsFirst items
    IsStmt (expr_stmt e semi) = IsSomeExpr e
    IsStmt (attr_stmt attrs semi) = (attrs ≢ []) × AreAttrs all attrs
    IsStmt (label name colon attrs s) = AreAttrs all attrs × IsStmt s × IsNoAttrStmt s
    IsStmt (case_stmt keyword e colon s) = IsExpr e × (2 ≤ expr_level e) × IsStmt s
    IsStmt (default_stmt keyword colon s) = IsStmt s
    IsStmt (if_stmt keyword opening e closing s other) = IsExpr e × IsStmt s × IsOther s other
    IsStmt (switch_stmt keyword opening e closing s) = IsExpr e × IsStmt s
    IsStmt (while_stmt keyword opening e closing s) = IsExpr e × IsStmt s
    IsStmt (do_stmt keyword s keyword2 opening e closing semi) = IsStmt s × IsExpr e
    IsStmt (for_stmt keyword opening start e semi e2 closing s) =
        IsStart start × IsSomeExpr e × IsSomeExpr e2 × IsStmt s
    IsStmt (goto_stmt keyword name semi) = Unit {0}
    IsStmt (continue_stmt keyword semi) = Unit {0}
    IsStmt (break_stmt keyword semi) = Unit {0}
    IsStmt (return_stmt keyword e semi) = IsSomeExpr e
    IsStmt (asm_stmt keyword words group semi) = All (λ w. is_asm_word w.keyword ≡ true) words × IsGroup all group
    IsStmt (case_range keyword e dots e2 colon s) =
        IsExpr e × (2 ≤ expr_level e) × IsExpr e2 × (2 ≤ expr_level e2) × IsStmt s
    IsStmt (goto_value keyword star e semi) = IsExpr e

    -- an `else` belongs to the nearest `if`
    pub IsOther : Stmt → SomeElse → Type 0
    IsOther before no_else = Unit {0}
    IsOther before (some_else keyword s) = IsStmt s × (takes_else before ≡ false)

    -- the first clause of a `for`
    pub IsStart : ForStart → Type 0
    IsStart (start_declaration d) = IsDeclaration d
    IsStart (start_value e semi) = IsSomeExpr e
