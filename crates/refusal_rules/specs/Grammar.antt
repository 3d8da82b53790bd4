-- The trees that the lines of the grammar make, whatever other rule of C they break: the precedence of the binary
-- operators among one another, the mixes of specifiers, the `if` that an `else` belongs to, the form that an
-- attribute belongs to, which declarators a function may have, the kinds of names by scope and the height are not
-- looked at here.
use Rattle.std.specs.Prelude.{◌≡◌, ◌≢◌, ◌≤◌, All, Bool, true, false, ℕ, List, [], ◌∷◌}
use Rattle.c_words.specs.declared.kinds.Keyword.{Keyword}
use Rattle.c_words.specs.declared.kinds.Keyword.TheVariants.{Void, Char, Short, Int, Long, Float, Double, Signed, Unsigned, Bool as BoolWord, Complex, BaseWord, Int128, AnyComplex}
use Rattle.c_tree.specs.declared.lexeme.Lexeme.{Lexeme}
use Rattle.c_tree.specs.Tree.{Expr, operation, cast, prefix, sizeof_value, sizeof_type, extension, index, call, dot, arrow, post, compound, name_use, number_use, char_use, text_use, paren, statement_expr, va_arg, va_start, va_copy, offset, Operator, comma, assign, cond, binary, SomeExpr, no_expr, some_expr, Exprs, no_exprs, more_exprs, SpecWords, no_words, more_words, SpecWord, storage, thread, inline_word, noreturn, qualifier, basic, struct_type, enum_type, typedef_name, attribute, SomeBody, no_body, some_body, StructItems, no_struct_items, more_struct_items, StructItem, member, member_semi, member_assert, MemDeclrs, no_mem_declrs, more_mem_declrs, MemDeclr, named, unnamed, SomeValue, no_value, some_value, EnumType, enum_of, SomeEnumBody, no_enum_body, some_enum_body, Enumerators, no_enumerators, more_enumerators, Declr, pointer, declr_name, declr_paren, array, params, abs_pointer, abs_paren, abs_array, abs_params, SomeDeclr, no_declr, some_declr, SomeSize, no_size, some_size, ArraySize, size_value, size_star, Params, no_params, more_params, Init, init_value, init_braced, InitList, init_list, InitItems, no_init_items, more_init_items, Desigs, no_desigs, more_desigs, Desig, member_desig, index_desig, SomeInit, no_init, some_init, InitDeclrs, no_init_declrs, more_init_declrs, Declaration, declaration, Decl, decl_declaration, decl_assert, BlockItems, no_block_items, more_block_items, BlockItem, block_decl, block_stmt, Stmt, block, expr_stmt, attr_stmt, label, case_stmt, default_stmt, if_stmt, switch_stmt, while_stmt, do_stmt, for_stmt, goto_stmt, continue_stmt, break_stmt, return_stmt, asm_stmt, SomeElse, no_else, some_else, ForStart, start_declaration, start_value, complex_part, label_use, compat, choose, generic, typeof_value, typeof_type, align, auto_word, range_desig, old_desig, case_range, goto_value, block_labels, identifiers, base_name, Assocs, no_assocs, more_assocs, Assoc, typed_assoc, default_assoc}
use Rattle.c_tree.specs.Levels.{IsOperator, expr_level, left_level, right_level}
use Rattle.c_tree.specs.Groups.{IsGroup}
use Rattle.c_tree.specs.WellFormed.{prefix_level, is_postfix, is_sizeof, is_struct, is_storage, is_asm_word, IsWordQual, IsPointerWord, IsArrayWord, AreAttrs, IsLabel, is_named, is_direct, IsEllipsis, IsInitStart, IsMemStart, HasTagOrBody, HasTagOrEnumBody, IsItemsEnd, IsDesignated, IsTypeWord, is_type_former, is_bare_name, has_auto, IsAutoWhere, AreLabelsFirst}
use Rattle.c_tree.specs.Unit.{Item, function_item, decl_item, asm_item, semi_item, old_function_item}

-- a word of the basic types
abbrev pub is_basic_word : Keyword → Bool
is_basic_word Void = true
is_basic_word Char = true
is_basic_word Short = true
is_basic_word Int = true
is_basic_word Long = true
is_basic_word Float = true
is_basic_word Double = true
is_basic_word Signed = true
is_basic_word Unsigned = true
is_basic_word BoolWord = true
is_basic_word Complex = true
is_basic_word AnyComplex = true
is_basic_word BaseWord = true
is_basic_word Int128 = true
is_basic_word _ = false

-- the least level of the left operand of an operator; the operands of a binary operator are any binary forms or casts
abbrev pub left_line : Operator → ℕ
left_line comma = left_level comma
left_line (assign p) = left_level (assign p)
left_line (cond middle colon) = left_level (cond middle colon)
left_line (binary p) = 3

-- the least level of its right operand
abbrev pub right_line : Operator → ℕ
right_line comma = right_level comma
right_line (assign p) = right_level (assign p)
right_line (cond middle colon) = right_level (cond middle colon)
right_line (binary p) = 3

module _ (all : List Lexeme) where
  abbrev mutual
    -- an expression (6.5)
    pub DerivesExpr : Expr → Type 0
    DerivesExpr (operation e op token e2) =
        DerivesExpr e × DerivesExpr e2 × IsOperator op × DerivesMiddle op × (left_line op ≤ expr_level e)
        × (right_line op ≤ expr_level e2)
    DerivesExpr (cast opening ws d closing e) =
        (ws ≢ no_words) × DerivesTypeWords ws × DerivesSomeAbstract d × DerivesExpr e × (13 ≤ expr_level e)
    DerivesExpr (prefix token p e) = DerivesExpr e × (prefix_level p ≤ expr_level e)
    DerivesExpr (sizeof_value word e) = DerivesExpr e × (is_sizeof word.keyword ≡ true) × (14 ≤ expr_level e)
    DerivesExpr (sizeof_type word opening ws d closing) =
        (ws ≢ no_words) × DerivesTypeWords ws × DerivesSomeAbstract d × (is_sizeof word.keyword ≡ true)
    DerivesExpr (extension keyword e) = DerivesExpr e × (13 ≤ expr_level e)
    DerivesExpr (index e opening e2 closing) = DerivesExpr e × DerivesExpr e2 × (15 ≤ expr_level e)
    DerivesExpr (call e opening es closing) = DerivesExpr e × DerivesArguments es × (15 ≤ expr_level e)
    DerivesExpr (dot e token name) = DerivesExpr e × (15 ≤ expr_level e)
    DerivesExpr (arrow e token name) = DerivesExpr e × (15 ≤ expr_level e)
    DerivesExpr (post e token p) = DerivesExpr e × (is_postfix p ≡ true) × (15 ≤ expr_level e)
    DerivesExpr (compound opening ws d closing list) =
        (ws ≢ no_words) × DerivesTypeWords ws × DerivesSomeAbstract d × DerivesInitList list
    DerivesExpr (name_use token name) = Unit {0}
    DerivesExpr (number_use token) = Unit {0}
    DerivesExpr (char_use token) = Unit {0}
    DerivesExpr (text_use texts) = texts ≢ []
    DerivesExpr (paren opening e closing) = DerivesExpr e
    DerivesExpr (statement_expr opening opening2 items closing closing2) =
        DerivesBlockItems items × AreLabelsFirst items
    DerivesExpr (va_arg keyword opening e separator ws d closing) =
        DerivesExpr e × (ws ≢ no_words) × DerivesTypeWords ws × DerivesSomeAbstract d × (1 ≤ expr_level e)
    DerivesExpr (va_start keyword opening e separator e2 closing) =
        DerivesExpr e × DerivesExpr e2 × (1 ≤ expr_level e) × (1 ≤ expr_level e2)
    DerivesExpr (va_copy keyword opening e separator e2 closing) =
        DerivesExpr e × DerivesExpr e2 × (1 ≤ expr_level e) × (1 ≤ expr_level e2)
    DerivesExpr (offset keyword opening ws d separator name steps closing) =
        (ws ≢ no_words) × DerivesTypeWords ws × DerivesSomeAbstract d × DerivesSteps steps
    DerivesExpr (complex_part keyword e) = DerivesExpr e × (13 ≤ expr_level e)
    DerivesExpr (label_use token name) = Unit {0}
    DerivesExpr (compat keyword opening ws d separator ws2 d2 closing) =
        (ws ≢ no_words) × DerivesTypeWords ws × DerivesSomeAbstract d × (ws2 ≢ no_words) × DerivesTypeWords ws2
        × DerivesSomeAbstract d2
    DerivesExpr (choose keyword opening e separator e2 separator2 e3 closing) =
        DerivesExpr e × DerivesExpr e2 × DerivesExpr e3 × (1 ≤ expr_level e) × (1 ≤ expr_level e2) × (1 ≤ expr_level e3)
    DerivesExpr (generic keyword opening e xs closing) =
        DerivesExpr e × (1 ≤ expr_level e) × (xs ≢ no_assocs) × DerivesAssocs xs

    -- the associations of `_Generic`
    pub DerivesAssocs : Assocs → Type 0
    DerivesAssocs no_assocs = Unit {0}
    DerivesAssocs (more_assocs x xs) = DerivesAssoc x × DerivesAssocs xs

    -- an association: a type name or `default`, and an assignment expression
    pub DerivesAssoc : Assoc → Type 0
    DerivesAssoc (typed_assoc ws d colon e) =
        (ws ≢ no_words) × DerivesTypeWords ws × DerivesSomeAbstract d × DerivesExpr e × (1 ≤ expr_level e)
    DerivesAssoc (default_assoc keyword colon e) = DerivesExpr e × (1 ≤ expr_level e)

    -- the middle of `?:`, which may be left out
    pub DerivesMiddle : Operator → Type 0
    DerivesMiddle comma = Unit {0}
    DerivesMiddle (assign p) = Unit {0}
    DerivesMiddle (cond e colon) = DerivesSomeExpr e
    DerivesMiddle (binary p) = Unit {0}

    -- an expression that may be left out
    pub DerivesSomeExpr : SomeExpr → Type 0
    DerivesSomeExpr no_expr = Unit {0}
    DerivesSomeExpr (some_expr e) = DerivesExpr e

    -- the arguments of a call, each an assignment expression
    pub DerivesArguments : Exprs → Type 0
    DerivesArguments no_exprs = Unit {0}
    DerivesArguments (more_exprs e es) = DerivesExpr e × (1 ≤ expr_level e) × DerivesArguments es

    -- the steps of `__builtin_offsetof` behind its first member
    pub DerivesSteps : Desigs → Type 0
    DerivesSteps no_desigs = Unit {0}
    DerivesSteps (more_desigs d ds) = DerivesStep d × DerivesSteps ds

    -- a step: a member or an index, and no range or old form
    pub DerivesStep : Desig → Type 0
    DerivesStep (member_desig token name) = Unit {0}
    DerivesStep (index_desig opening e closing) = DerivesExpr e
    DerivesStep (range_desig opening e dots e2 closing) = ⊥
    DerivesStep (old_desig name colon) = ⊥

    -- the designators of an initialiser
    pub DerivesDesigs : Desigs → Type 0
    DerivesDesigs no_desigs = Unit {0}
    DerivesDesigs (more_desigs d ds) = DerivesDesig d × DerivesDesigs ds

    -- a designator; an index or a bound is a conditional expression
    pub DerivesDesig : Desig → Type 0
    DerivesDesig (member_desig token name) = Unit {0}
    DerivesDesig (index_desig opening e closing) = DerivesExpr e × (2 ≤ expr_level e)
    DerivesDesig (range_desig opening e dots e2 closing) =
        DerivesExpr e × (2 ≤ expr_level e) × DerivesExpr e2 × (2 ≤ expr_level e2)
    DerivesDesig (old_desig name colon) = Unit {0}

    -- the specifiers of the name of a type (6.7.6)
    pub DerivesTypeWords : SpecWords → Type 0
    DerivesTypeWords no_words = Unit {0}
    DerivesTypeWords (more_words w ws) = DerivesSpecWord w × IsTypeWord w × DerivesTypeWords ws

    -- the specifiers of a declaration, a member or a parameter
    pub DerivesSpecWords : SpecWords → Type 0
    DerivesSpecWords no_words = Unit {0}
    DerivesSpecWords (more_words w ws) = DerivesSpecWord w × DerivesSpecWords ws

    -- a word of specifiers
    pub DerivesSpecWord : SpecWord → Type 0
    DerivesSpecWord (storage word) = is_storage word.keyword ≡ true
    DerivesSpecWord (thread keyword) = Unit {0}
    DerivesSpecWord (inline_word keyword) = Unit {0}
    DerivesSpecWord (noreturn keyword) = Unit {0}
    DerivesSpecWord (qualifier qual) = IsWordQual all qual
    DerivesSpecWord (basic word) = is_basic_word word.keyword ≡ true
    DerivesSpecWord (struct_type word attrs tag body) =
        (is_struct word.keyword ≡ true) × AreAttrs all attrs × HasTagOrBody tag body × DerivesBody body
    DerivesSpecWord (enum_type enum) = DerivesEnum enum
    DerivesSpecWord (typedef_name name) = Unit {0}
    DerivesSpecWord (attribute attr) = IsGroup all attr.group
    DerivesSpecWord (typeof_value keyword opening e closing) = DerivesExpr e
    DerivesSpecWord (typeof_type word opening ws d closing) =
        (is_type_former word.keyword ≡ true) × (ws ≢ no_words) × DerivesTypeWords ws × DerivesSomeAbstract d
    DerivesSpecWord (align attr) = IsGroup all attr.group
    DerivesSpecWord (auto_word token) = Unit {0}

    -- the body of a struct or union, if any
    pub DerivesBody : SomeBody → Type 0
    DerivesBody no_body = Unit {0}
    DerivesBody (some_body opening items closing) = DerivesStructItems items

    -- the members of a struct or union
    pub DerivesStructItems : StructItems → Type 0
    DerivesStructItems no_struct_items = Unit {0}
    DerivesStructItems (more_struct_items item items) = DerivesStructItem item × DerivesStructItems items

    -- a member's declaration (6.7.2.1), a semicolon alone, or a `_Static_assert`
    pub DerivesStructItem : StructItem → Type 0
    DerivesStructItem (member exts ws ds semi) =
        (ws ≢ no_words) × DerivesSpecWords ws × (has_auto ws ≡ false) × IsMemStart ds × DerivesMemDeclrs ds
    DerivesStructItem (member_semi semi) = Unit {0}
    DerivesStructItem (member_assert it) = IsGroup all it.group

    -- the declarators of a member's declaration
    pub DerivesMemDeclrs : MemDeclrs → Type 0
    DerivesMemDeclrs no_mem_declrs = Unit {0}
    DerivesMemDeclrs (more_mem_declrs attrs d ds) = AreAttrs all attrs × DerivesMemDeclr d × DerivesMemDeclrs ds

    -- a member's declarator with a name, maybe with a width, or a width alone
    pub DerivesMemDeclr : MemDeclr → Type 0
    DerivesMemDeclr (named d width attrs) =
        DerivesDeclr d × (is_named d ≡ true) × DerivesSomeValue width × AreAttrs all attrs
    DerivesMemDeclr (unnamed colon e attrs) = DerivesExpr e × (2 ≤ expr_level e) × AreAttrs all attrs

    -- a width or a value that may be left out, a conditional expression
    pub DerivesSomeValue : SomeValue → Type 0
    DerivesSomeValue no_value = Unit {0}
    DerivesSomeValue (some_value token e) = DerivesExpr e × (2 ≤ expr_level e)

    -- an enumeration type (6.7.2.2)
    pub DerivesEnum : EnumType → Type 0
    DerivesEnum (enum_of keyword attrs tag body) = AreAttrs all attrs × HasTagOrEnumBody tag body × DerivesEnumBody body

    -- the body of an enumeration, if any, with an enumerator at least
    pub DerivesEnumBody : SomeEnumBody → Type 0
    DerivesEnumBody no_enum_body = Unit {0}
    DerivesEnumBody (some_enum_body opening es last closing) = (es ≢ no_enumerators) × DerivesEnumerators es

    -- the enumerators of an enumeration
    pub DerivesEnumerators : Enumerators → Type 0
    DerivesEnumerators no_enumerators = Unit {0}
    DerivesEnumerators (more_enumerators name attrs value es) =
        AreAttrs all attrs × DerivesSomeValue value × DerivesEnumerators es

    -- a declarator, with a name (6.7.5) or without (6.7.6)
    pub DerivesDeclr : Declr → Type 0
    DerivesDeclr (pointer star words d) = All (IsPointerWord all) words × DerivesDeclr d × (is_named d ≡ true)
    DerivesDeclr (declr_name token name) = Unit {0}
    DerivesDeclr (declr_paren opening attrs d closing) = AreAttrs all attrs × DerivesDeclr d × (is_named d ≡ true)
    DerivesDeclr (array d opening words size closing) =
        DerivesDeclr d × (is_named d ≡ true) × (is_direct d ≡ true) × All (IsArrayWord all) words × DerivesSize size
    DerivesDeclr (params d opening ps dots closing) =
        DerivesDeclr d × (is_named d ≡ true) × (is_direct d ≡ true) × DerivesParams ps × IsEllipsis all ps dots
    DerivesDeclr (abs_pointer star words d) = All (IsPointerWord all) words × DerivesSomeAbstract d
    DerivesDeclr (abs_paren opening attrs d closing) = AreAttrs all attrs × DerivesDeclr d × (is_named d ≡ false)
    DerivesDeclr (abs_array d opening words size closing) =
        DerivesSomeDirect d × All (IsArrayWord all) words × DerivesSize size
    DerivesDeclr (abs_params d opening ps dots closing) =
        DerivesSomeDirect d × DerivesParams ps × IsEllipsis all ps dots
    DerivesDeclr (identifiers d opening names closing) = DerivesDeclr d × (is_bare_name d ≡ true) × (names ≢ [])
    DerivesDeclr (base_name token) = Unit {0}

    -- an abstract declarator, or none
    pub DerivesSomeAbstract : SomeDeclr → Type 0
    DerivesSomeAbstract no_declr = Unit {0}
    DerivesSomeAbstract (some_declr d) = DerivesDeclr d × (is_named d ≡ false)

    -- an abstract declarator that is no pointer, or none
    pub DerivesSomeDirect : SomeDeclr → Type 0
    DerivesSomeDirect no_declr = Unit {0}
    DerivesSomeDirect (some_declr d) = DerivesDeclr d × (is_named d ≡ false) × (is_direct d ≡ true)

    -- what stands in the brackets of an array declarator
    pub DerivesSize : SomeSize → Type 0
    DerivesSize no_size = Unit {0}
    DerivesSize (some_size size) = DerivesArraySize size

    -- the size of an array: an assignment expression or `*`
    pub DerivesArraySize : ArraySize → Type 0
    DerivesArraySize (size_value e) = DerivesExpr e × (1 ≤ expr_level e)
    DerivesArraySize (size_star star) = Unit {0}

    -- the parameters of a function declarator
    pub DerivesParams : Params → Type 0
    DerivesParams no_params = Unit {0}
    DerivesParams (more_params ws d attrs ps) =
        (ws ≢ no_words) × DerivesSpecWords ws × (has_auto ws ≡ false) × DerivesSomeDeclr d × AreAttrs all attrs
        × DerivesParams ps

    -- a declarator that may be absent
    pub DerivesSomeDeclr : SomeDeclr → Type 0
    DerivesSomeDeclr no_declr = Unit {0}
    DerivesSomeDeclr (some_declr d) = DerivesDeclr d

    -- an initialiser: an assignment expression, or a braced list
    pub DerivesInit : Init → Type 0
    DerivesInit (init_value e) = DerivesExpr e × (1 ≤ expr_level e)
    DerivesInit (init_braced list) = DerivesInitList list

    -- a braced list of initialisers
    pub DerivesInitList : InitList → Type 0
    DerivesInitList (init_list opening items last closing) = DerivesInitItems items × IsItemsEnd items last

    -- the items of a list of initialisers
    pub DerivesInitItems : InitItems → Type 0
    DerivesInitItems no_init_items = Unit {0}
    DerivesInitItems (more_init_items ds equal init items) =
        DerivesDesigs ds × IsDesignated ds equal × DerivesInit init × DerivesInitItems items

    -- an initialiser that may be left out
    pub DerivesSomeInit : SomeInit → Type 0
    DerivesSomeInit no_init = Unit {0}
    DerivesSomeInit (some_init equal init) = DerivesInit init

    -- the declarators of a declaration, each with a name
    pub DerivesInitDeclrs : InitDeclrs → Type 0
    DerivesInitDeclrs no_init_declrs = Unit {0}
    DerivesInitDeclrs (more_init_declrs attrs d asm_label attrs2 init ds) =
        AreAttrs all attrs × DerivesDeclr d × (is_named d ≡ true) × IsLabel all asm_label × AreAttrs all attrs2
        × DerivesSomeInit init × DerivesInitDeclrs ds

    -- a declaration (6.7)
    pub DerivesDeclaration : Declaration → Type 0
    DerivesDeclaration (declaration exts ws ds semi) =
        (ws ≢ no_words) × DerivesSpecWords ws × IsInitStart ds × DerivesInitDeclrs ds × IsAutoWhere (has_auto ws) ws ds

    -- a declaration, or a `_Static_assert`
    pub DerivesDecl : Decl → Type 0
    DerivesDecl (decl_declaration d) = DerivesDeclaration d
    DerivesDecl (decl_assert it) = IsGroup all it.group

    -- the items of a block
    pub DerivesBlockItems : BlockItems → Type 0
    DerivesBlockItems no_block_items = Unit {0}
    DerivesBlockItems (more_block_items item items) = DerivesBlockItem item × DerivesBlockItems items

    -- an item of a block; a declaration of labels has one at least
    pub DerivesBlockItem : BlockItem → Type 0
    DerivesBlockItem (block_decl d) = DerivesDecl d
    DerivesBlockItem (block_stmt s) = DerivesStmt s
    DerivesBlockItem (block_labels keyword names semi) = names ≢ []

    -- a statement (6.8)
    pub DerivesStmt : Stmt → Type 0
    DerivesStmt (block opening items closing) = DerivesBlockItems items × AreLabelsFirst items
    DerivesStmt (expr_stmt e semi) = DerivesSomeExpr e
    DerivesStmt (attr_stmt attrs semi) = (attrs ≢ []) × AreAttrs all attrs
    DerivesStmt (label name colon attrs s) = AreAttrs all attrs × DerivesStmt s
    DerivesStmt (case_stmt keyword e colon s) = DerivesExpr e × (2 ≤ expr_level e) × DerivesStmt s
    DerivesStmt (default_stmt keyword colon s) = DerivesStmt s
    DerivesStmt (if_stmt keyword opening e closing s other) = DerivesExpr e × DerivesStmt s × DerivesOther other
    DerivesStmt (switch_stmt keyword opening e closing s) = DerivesExpr e × DerivesStmt s
    DerivesStmt (while_stmt keyword opening e closing s) = DerivesExpr e × DerivesStmt s
    DerivesStmt (do_stmt keyword s keyword2 opening e closing semi) = DerivesStmt s × DerivesExpr e
    DerivesStmt (for_stmt keyword opening start e semi e2 closing s) =
        DerivesStart start × DerivesSomeExpr e × DerivesSomeExpr e2 × DerivesStmt s
    DerivesStmt (goto_stmt keyword name semi) = Unit {0}
    DerivesStmt (continue_stmt keyword semi) = Unit {0}
    DerivesStmt (break_stmt keyword semi) = Unit {0}
    DerivesStmt (return_stmt keyword e semi) = DerivesSomeExpr e
    DerivesStmt (asm_stmt keyword words group semi) = All (λ w. is_asm_word w.keyword ≡ true) words × IsGroup all group
    DerivesStmt (case_range keyword e dots e2 colon s) =
        DerivesExpr e × (2 ≤ expr_level e) × DerivesExpr e2 × (2 ≤ expr_level e2) × DerivesStmt s
    DerivesStmt (goto_value keyword star e semi) = DerivesExpr e

    -- the `else` of an `if`, if any; it is not looked at which `if` it belongs to
    pub DerivesOther : SomeElse → Type 0
    DerivesOther no_else = Unit {0}
    DerivesOther (some_else keyword s) = DerivesStmt s

    -- the first clause of a `for`
    pub DerivesStart : ForStart → Type 0
    DerivesStart (start_declaration d) = DerivesDeclaration d
    DerivesStart (start_value e semi) = DerivesSomeExpr e

  -- the declarations behind a list of identifiers
  abbrev pub DeriveDeclarations : List Declaration → Type 0
  DeriveDeclarations [] = Unit {0}
  DeriveDeclarations (d ∷ ds) = DerivesDeclaration d × DeriveDeclarations ds

  -- an item of a unit
  abbrev pub DerivesItem : Item → Type 0
  DerivesItem (function_item exts ws d attrs opening items closing) =
      (ws ≢ no_words) × DerivesSpecWords ws × (has_auto ws ≡ false) × DerivesDeclr d × (is_named d ≡ true)
      × AreAttrs all attrs
      × DerivesBlockItems items × AreLabelsFirst items
  DerivesItem (old_function_item exts ws d attrs ds opening items closing) =
      (ws ≢ no_words) × DerivesSpecWords ws × (has_auto ws ≡ false) × DerivesDeclr d × (is_named d ≡ true)
      × AreAttrs all attrs
      × DeriveDeclarations ds × DerivesBlockItems items × AreLabelsFirst items
  DerivesItem (decl_item d) = DerivesDecl d
  DerivesItem (asm_item keyword group semi) = IsGroup all group
  DerivesItem (semi_item semi) = Unit {0}
