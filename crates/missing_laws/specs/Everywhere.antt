-- What holds at each expression of a form whose constraints count, at names that are declared. The sizes of arrays, the
-- widths of members, the values of enumerators, case labels, indices of designators, and operands of `sizeof` and
-- `offsetof` give no constraints, and are left out.
use Rattle.std.specs.Prelude.{◌≡◌, ℕ, List, [], ◌∷◌, Option, None, Some}
use Rattle.c_tree.specs.Tree.{Expr, operation, cast, prefix, sizeof_value, sizeof_type, extension, index, call, dot, arrow, post, compound, name_use, number_use, char_use, text_use, paren, statement_expr, va_arg, va_start, va_copy, offset, Operator, comma, assign, cond, binary, SomeExpr, no_expr, some_expr, Exprs, no_exprs, more_exprs, SpecWords, no_words, more_words, SpecWord, storage, thread, inline_word, noreturn, qualifier, basic, struct_type, enum_type, typedef_name, attribute, SomeBody, no_body, some_body, StructItems, no_struct_items, more_struct_items, StructItem, member, member_semi, member_assert, MemDeclrs, no_mem_declrs, more_mem_declrs, MemDeclr, named, unnamed, Declr, pointer, declr_name, declr_paren, array, params, abs_pointer, abs_paren, abs_array, abs_params, SomeDeclr, no_declr, some_declr, Params, no_params, more_params, Init, init_value, init_braced, InitList, init_list, InitItems, no_init_items, more_init_items, SomeInit, no_init, some_init, InitDeclrs, no_init_declrs, more_init_declrs, Declaration, declaration, Decl, decl_declaration, decl_assert, BlockItems, no_block_items, more_block_items, BlockItem, block_decl, block_stmt, Stmt, block, expr_stmt, attr_stmt, label, case_stmt, default_stmt, if_stmt, switch_stmt, while_stmt, do_stmt, for_stmt, goto_stmt, continue_stmt, break_stmt, return_stmt, asm_stmt, SomeElse, no_else, some_else, ForStart, start_declaration, start_value, complex_part, label_use, compat, choose, generic, typeof_value, typeof_type, align, auto_word, range_desig, old_desig, case_range, goto_value, block_labels, identifiers, base_name, Assocs, no_assocs, more_assocs, Assoc, typed_assoc, default_assoc}
use Rattle.c_tree.specs.Unit.{Item, function_item, decl_item, asm_item, semi_item, old_function_item}
use Rattle.name_rules.specs.Spellings.{Named}
use Rattle.type_rules.specs.Tokens.{declared_name, some_declared_name}

-- at the token of a name, if there is one
abbrev pub NamedHas : (ℕ → Type 0) → Option Named → Type 0
NamedHas Q None = Unit {0}
NamedHas Q (Some it) = Q it.token

-- `U`: at the keyword of a struct or union without a tag that is a member, and at the name of a function with a body;
-- `V`: at each name that a declaration or a member declares; `W`: at each name of a parameter
module _ (U V W : ℕ → Type 0) where
  -- at a struct or union without a tag that is a member; other words have nothing of this
  abbrev pub UnnamedHas : SpecWord → Type 0
  UnnamedHas (struct_type word attrs None body) = U word.token
  UnnamedHas (struct_type word attrs (Some tag) body) = Unit {0}
  UnnamedHas (storage word) = Unit {0}
  UnnamedHas (thread token) = Unit {0}
  UnnamedHas (inline_word token) = Unit {0}
  UnnamedHas (noreturn token) = Unit {0}
  UnnamedHas (qualifier q) = Unit {0}
  UnnamedHas (basic word) = Unit {0}
  UnnamedHas (enum_type e) = Unit {0}
  UnnamedHas (typedef_name name) = Unit {0}
  UnnamedHas (attribute attr) = Unit {0}
  UnnamedHas (typeof_value keyword opening e closing) = Unit {0}
  UnnamedHas (typeof_type word opening ws d closing) = Unit {0}
  UnnamedHas (align attr) = Unit {0}
  UnnamedHas (auto_word token) = Unit {0}

  -- at each struct or union without a tag among the words of a member that has no declarator
  abbrev pub UnnamedHave : SpecWords → Type 0
  UnnamedHave no_words = Unit {0}
  UnnamedHave (more_words word words) = UnnamedHas word × UnnamedHave words

  abbrev mutual
    -- in the bodies of structs and unions among specifiers
    pub WordsHave : SpecWords → Type 0
    WordsHave no_words = Unit {0}
    WordsHave (more_words word words) = WordHas word × WordsHave words

    -- in the body of a struct or union
    pub WordHas : SpecWord → Type 0
    WordHas (struct_type word attrs tag body) = SomeBodyHas body
    WordHas (storage word) = Unit {0}
    WordHas (thread token) = Unit {0}
    WordHas (inline_word token) = Unit {0}
    WordHas (noreturn token) = Unit {0}
    WordHas (qualifier q) = Unit {0}
    WordHas (basic word) = Unit {0}
    WordHas (enum_type e) = Unit {0}
    WordHas (typedef_name name) = Unit {0}
    WordHas (attribute attr) = Unit {0}
    WordHas (typeof_value keyword opening e closing) = Unit {0}
    WordHas (typeof_type word opening ws d closing) = (some_declared_name d ≡ None) × (WordsHave ws × SomeDeclrHas d)
    WordHas (align attr) = Unit {0}
    WordHas (auto_word token) = Unit {0}

    -- in the body of a struct or union, where it has one
    pub SomeBodyHas : SomeBody → Type 0
    SomeBodyHas no_body = Unit {0}
    SomeBodyHas (some_body opening items closing) = StructItemsHave items

    -- at the members of a struct or union
    pub StructItemsHave : StructItems → Type 0
    StructItemsHave no_struct_items = Unit {0}
    StructItemsHave (more_struct_items item items) = StructItemHas item × StructItemsHave items

    -- at the members of one declaration in a struct or union
    pub StructItemHas : StructItem → Type 0
    StructItemHas (member exts ws ds semi) = WordsHave ws × MembersHave ws ds
    StructItemHas (member_semi semi) = Unit {0}
    StructItemHas (member_assert it) = Unit {0}

    -- at the names of a member's declaration, or at the struct or union that is a member without a name
    pub MembersHave : SpecWords → MemDeclrs → Type 0
    MembersHave ws no_mem_declrs = UnnamedHave ws
    MembersHave ws (more_mem_declrs attrs d ds) = MemDeclrHas d × MemDeclrsHave ds

    -- at further declarators of a member's declaration
    pub MemDeclrsHave : MemDeclrs → Type 0
    MemDeclrsHave no_mem_declrs = Unit {0}
    MemDeclrsHave (more_mem_declrs attrs d ds) = MemDeclrHas d × MemDeclrsHave ds

    -- at the name of a member, and in its declarator; a width without a name declares nothing
    pub MemDeclrHas : MemDeclr → Type 0
    MemDeclrHas (named d width attrs) = NamedHas V (declared_name d) × DeclrHas d
    MemDeclrHas (unnamed colon e attrs) = Unit {0}

    -- in the lists of parameters of a declarator
    pub DeclrHas : Declr → Type 0
    DeclrHas (pointer star words d) = DeclrHas d
    DeclrHas (declr_name token name) = Unit {0}
    DeclrHas (declr_paren opening attrs d closing) = DeclrHas d
    DeclrHas (array d opening words size closing) = DeclrHas d
    DeclrHas (params d opening ps dots closing) = DeclrHas d × ParamsHave ps
    DeclrHas (abs_pointer star words d) = SomeDeclrHas d
    DeclrHas (abs_paren opening attrs d closing) = DeclrHas d
    DeclrHas (abs_array d opening words size closing) = SomeDeclrHas d
    DeclrHas (abs_params d opening ps dots closing) = SomeDeclrHas d × ParamsHave ps
    DeclrHas (identifiers d opening names closing) = DeclrHas d
    DeclrHas (base_name token) = Unit {0}

    -- in those of a declarator that may be absent
    pub SomeDeclrHas : SomeDeclr → Type 0
    SomeDeclrHas no_declr = Unit {0}
    SomeDeclrHas (some_declr d) = DeclrHas d

    -- at the name of each parameter, and in its specifiers and declarator
    pub ParamsHave : Params → Type 0
    ParamsHave no_params = Unit {0}
    ParamsHave (more_params ws d attrs ps) =
        NamedHas W (some_declared_name d) × (WordsHave ws × (SomeDeclrHas d × ParamsHave ps))

-- `P`: at an expression
module _ (P : Expr → Type 0) (U V W : ℕ → Type 0) where
  abbrev mutual
    -- at an expression, and at all expressions in it whose constraints count
    pub ExprHas : Expr → Type 0
    ExprHas (operation e op token e2) = P (operation e op token e2) × (ExprHas e × (OperatorHas op × ExprHas e2))
    ExprHas (cast opening ws d closing e) =
        P (cast opening ws d closing e) × (WordsHave U V W ws × (SomeDeclrHas U V W d × ExprHas e))
    ExprHas (prefix token p e) = P (prefix token p e) × ExprHas e
    ExprHas (sizeof_value word e) = P (sizeof_value word e)
    ExprHas (sizeof_type word opening ws d closing) = P (sizeof_type word opening ws d closing)
    ExprHas (extension keyword e) = P (extension keyword e) × ExprHas e
    ExprHas (index e opening e2 closing) = P (index e opening e2 closing) × (ExprHas e × ExprHas e2)
    ExprHas (call e opening es closing) = P (call e opening es closing) × (ExprHas e × ExprsHave es)
    ExprHas (dot e token name) = P (dot e token name) × ExprHas e
    ExprHas (arrow e token name) = P (arrow e token name) × ExprHas e
    ExprHas (post e token p) = P (post e token p) × ExprHas e
    ExprHas (compound opening ws d closing list) =
        P (compound opening ws d closing list) × (WordsHave U V W ws × (SomeDeclrHas U V W d × InitListHas list))
    ExprHas (name_use token name) = P (name_use token name)
    ExprHas (number_use token) = P (number_use token)
    ExprHas (char_use token) = P (char_use token)
    ExprHas (text_use texts) = P (text_use texts)
    ExprHas (paren opening e closing) = P (paren opening e closing) × ExprHas e
    ExprHas (statement_expr opening opening2 items closing closing2) =
        P (statement_expr opening opening2 items closing closing2) × BlockItemsHave items
    ExprHas (va_arg keyword opening e separator ws d closing) =
        P (va_arg keyword opening e separator ws d closing) × (ExprHas e × (WordsHave U V W ws × SomeDeclrHas U V W d))
    ExprHas (va_start keyword opening e separator e2 closing) =
        P (va_start keyword opening e separator e2 closing) × (ExprHas e × ExprHas e2)
    ExprHas (va_copy keyword opening e separator e2 closing) =
        P (va_copy keyword opening e separator e2 closing) × (ExprHas e × ExprHas e2)
    ExprHas (offset keyword opening ws d separator name steps closing) =
        P (offset keyword opening ws d separator name steps closing)
    ExprHas (complex_part keyword e) = P (complex_part keyword e) × ExprHas e
    ExprHas (label_use token name) = P (label_use token name)
    ExprHas (compat keyword opening ws d separator ws2 d2 closing) =
        P (compat keyword opening ws d separator ws2 d2 closing)
    ExprHas (choose keyword opening e separator e2 separator2 e3 closing) =
        P (choose keyword opening e separator e2 separator2 e3 closing) × (ExprHas e2 × ExprHas e3)
    ExprHas (generic keyword opening e xs closing) = P (generic keyword opening e xs closing) × AssocsHave xs

    -- at the associations of `_Generic`
    pub AssocsHave : Assocs → Type 0
    AssocsHave no_assocs = Unit {0}
    AssocsHave (more_assocs x xs) = AssocHas x × AssocsHave xs

    -- at an association, whose type name declares no name
    pub AssocHas : Assoc → Type 0
    AssocHas (typed_assoc ws d colon e) =
        WordsHave U V W ws × (((some_declared_name d ≡ None) × SomeDeclrHas U V W d) × ExprHas e)
    AssocHas (default_assoc keyword colon e) = ExprHas e

    -- at the middle of `?:`
    pub OperatorHas : Operator → Type 0
    OperatorHas comma = Unit {0}
    OperatorHas (assign p) = Unit {0}
    OperatorHas (cond middle colon) = SomeExprHas middle
    OperatorHas (binary p) = Unit {0}

    -- at an expression that may be left out
    pub SomeExprHas : SomeExpr → Type 0
    SomeExprHas no_expr = Unit {0}
    SomeExprHas (some_expr e) = ExprHas e

    -- at the arguments of a call
    pub ExprsHave : Exprs → Type 0
    ExprsHave no_exprs = Unit {0}
    ExprsHave (more_exprs e es) = ExprHas e × ExprsHave es

    -- at the expressions of an initialiser
    pub InitHas : Init → Type 0
    InitHas (init_value e) = ExprHas e
    InitHas (init_braced list) = InitListHas list

    -- at the expressions of a braced list
    pub InitListHas : InitList → Type 0
    InitListHas (init_list opening items last closing) = InitItemsHave items

    -- at the expressions of its items, designators aside
    pub InitItemsHave : InitItems → Type 0
    InitItemsHave no_init_items = Unit {0}
    InitItemsHave (more_init_items ds equal init items) = InitHas init × InitItemsHave items

    -- at the expressions of an initialiser that may be left out
    pub SomeInitHas : SomeInit → Type 0
    SomeInitHas no_init = Unit {0}
    SomeInitHas (some_init equal init) = InitHas init

    -- at the names of a declaration, and in their declarators and initialisers
    pub InitDeclrsHave : InitDeclrs → Type 0
    InitDeclrsHave no_init_declrs = Unit {0}
    InitDeclrsHave (more_init_declrs attrs d asm_label attrs2 init ds) =
        NamedHas V (declared_name d) × (DeclrHas U V W d × (SomeInitHas init × InitDeclrsHave ds))

    -- in a declaration
    pub DeclarationHas : Declaration → Type 0
    DeclarationHas (declaration exts ws ds semi) = WordsHave U V W ws × InitDeclrsHave ds

    -- in a declaration; an assertion has nothing of this
    pub DeclHas : Decl → Type 0
    DeclHas (decl_declaration d) = DeclarationHas d
    DeclHas (decl_assert it) = Unit {0}

    -- in the items of a block
    pub BlockItemsHave : BlockItems → Type 0
    BlockItemsHave no_block_items = Unit {0}
    BlockItemsHave (more_block_items item items) = BlockItemHas item × BlockItemsHave items

    -- in an item of a block
    pub BlockItemHas : BlockItem → Type 0
    BlockItemHas (block_decl d) = DeclHas d
    BlockItemHas (block_stmt t) = StmtHas t
    BlockItemHas (block_labels keyword names semi) = Unit {0}

    -- in a statement
    pub StmtHas : Stmt → Type 0
    StmtHas (block opening items closing) = BlockItemsHave items
    StmtHas (expr_stmt e semi) = SomeExprHas e
    StmtHas (attr_stmt attrs semi) = Unit {0}
    StmtHas (label name colon attrs t) = StmtHas t
    StmtHas (case_stmt keyword e colon t) = StmtHas t
    StmtHas (default_stmt keyword colon t) = StmtHas t
    StmtHas (if_stmt keyword opening e closing t other) = ExprHas e × (StmtHas t × SomeElseHas other)
    StmtHas (switch_stmt keyword opening e closing t) = ExprHas e × StmtHas t
    StmtHas (while_stmt keyword opening e closing t) = ExprHas e × StmtHas t
    StmtHas (do_stmt keyword t keyword2 opening e closing semi) = StmtHas t × ExprHas e
    StmtHas (for_stmt keyword opening start e semi e2 closing t) =
        ForStartHas start × (SomeExprHas e × (SomeExprHas e2 × StmtHas t))
    StmtHas (goto_stmt keyword name semi) = Unit {0}
    StmtHas (continue_stmt keyword semi) = Unit {0}
    StmtHas (break_stmt keyword semi) = Unit {0}
    StmtHas (return_stmt keyword e semi) = SomeExprHas e
    StmtHas (asm_stmt keyword words group semi) = Unit {0}
    StmtHas (case_range keyword e dots e2 colon t) = StmtHas t
    StmtHas (goto_value keyword star e semi) = ExprHas e

    -- in the statement behind `else`, if any
    pub SomeElseHas : SomeElse → Type 0
    SomeElseHas no_else = Unit {0}
    SomeElseHas (some_else keyword t) = StmtHas t

    -- in the first clause of a `for`
    pub ForStartHas : ForStart → Type 0
    ForStartHas (start_declaration d) = DeclarationHas d
    ForStartHas (start_value e semi) = SomeExprHas e

  -- in the declarations behind a list of identifiers
  abbrev pub DeclarationsHave : List Declaration → Type 0
  DeclarationsHave [] = Unit {0}
  DeclarationsHave (d ∷ ds) = DeclarationHas d × DeclarationsHave ds

  -- a declarator with a list of identifiers, with the declarations behind that
  abbrev pub OldDeclrHas : List Declaration → Declr → Type 0
  OldDeclrHas ds (identifiers d opening names closing) = DeclrHas U V W d × DeclarationsHave ds
  OldDeclrHas ds (pointer star words d) = OldDeclrHas ds d
  OldDeclrHas ds (declr_paren opening attrs d closing) = OldDeclrHas ds d
  OldDeclrHas ds (array d opening words size closing) = OldDeclrHas ds d
  OldDeclrHas ds (params d opening ps dots closing) = OldDeclrHas ds d × ParamsHave U V W ps
  OldDeclrHas ds (declr_name token name) = DeclrHas U V W (declr_name token name)
  OldDeclrHas ds (base_name token) = Unit {0}
  OldDeclrHas ds (abs_pointer star words d) = DeclrHas U V W (abs_pointer star words d)
  OldDeclrHas ds (abs_paren opening attrs d closing) = DeclrHas U V W (abs_paren opening attrs d closing)
  OldDeclrHas ds (abs_array d opening words size closing) = DeclrHas U V W (abs_array d opening words size closing)
  OldDeclrHas ds (abs_params d opening ps dots closing) = DeclrHas U V W (abs_params d opening ps dots closing)

  -- in an item of a unit
  abbrev pub ItemHas : Item → Type 0
  ItemHas (function_item exts ws d attrs opening items closing) =
      NamedHas U (declared_name d)
      × (NamedHas V (declared_name d) × (WordsHave U V W ws × (DeclrHas U V W d × BlockItemsHave items)))
  ItemHas (old_function_item exts ws d attrs ds opening items closing) =
      NamedHas U (declared_name d)
      × (NamedHas V (declared_name d) × (WordsHave U V W ws × (OldDeclrHas ds d × BlockItemsHave items)))
  ItemHas (decl_item d) = DeclHas d
  ItemHas (asm_item keyword group semi) = Unit {0}
  ItemHas (semi_item semi) = Unit {0}

  -- in all items of a unit
  abbrev pub ItemsHave : List Item → Type 0
  ItemsHave [] = Unit {0}
  ItemsHave (item ∷ items) = ItemHas item × ItemsHave items
