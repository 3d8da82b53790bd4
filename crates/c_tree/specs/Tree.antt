-- Trees apart from where they lie in memory.
use Rattle.std.specs.Prelude.{ℕ, List, Option}
use Rattle.c_words.specs.declared.kinds.Punct.{Punct}
use Rattle.c_syntax.specs.declared.parts.Identifier.{Identifier}
use Rattle.c_syntax.specs.declared.parts.Word.{Word}
use Rattle.c_syntax.specs.declared.parts.Group.{Group}
use Rattle.c_syntax.specs.declared.parts.Attr.{Attr}
use Rattle.c_syntax.specs.declared.parts.AsmLabel.{AsmLabel}
use Rattle.c_syntax.specs.declared.parts.Semi.{Semi}
use Rattle.c_syntax.specs.declared.parts.Assert.{Assert}
use Rattle.c_syntax.specs.declared.parts.Qual.{Qual}
use Rattle.c_syntax.specs.declared.parts.PointerWord.{PointerWord}
use Rattle.c_syntax.specs.declared.parts.ArrayWord.{ArrayWord}
use Rattle.c_syntax.specs.declared.specifier.TypedefName.{TypedefName}

-- `, qual* ...`
pub record Dots : Type 0 where
  pub comma : ℕ
  pub quals : List Qual
  pub dots : ℕ

mutual
  -- an expression; all operators with their operands have one form
  pub data Expr : Type 0 where
    operation : Expr → Operator → ℕ → Expr → Expr
    cast : ℕ → SpecWords → SomeDeclr → ℕ → Expr → Expr
    prefix : ℕ → Punct → Expr → Expr
    sizeof_value : Word → Expr → Expr
    sizeof_type : Word → ℕ → SpecWords → SomeDeclr → ℕ → Expr
    extension : ℕ → Expr → Expr
    index : Expr → ℕ → Expr → ℕ → Expr
    call : Expr → ℕ → Exprs → ℕ → Expr
    dot : Expr → ℕ → Identifier → Expr
    arrow : Expr → ℕ → Identifier → Expr
    post : Expr → ℕ → Punct → Expr
    compound : ℕ → SpecWords → SomeDeclr → ℕ → InitList → Expr
    name_use : ℕ → ℕ → Expr
    number_use : ℕ → Expr
    char_use : ℕ → Expr
    text_use : List ℕ → Expr
    paren : ℕ → Expr → ℕ → Expr
    statement_expr : ℕ → ℕ → BlockItems → ℕ → ℕ → Expr
    va_arg : ℕ → ℕ → Expr → ℕ → SpecWords → SomeDeclr → ℕ → Expr
    va_start : ℕ → ℕ → Expr → ℕ → Expr → ℕ → Expr
    va_copy : ℕ → ℕ → Expr → ℕ → Expr → ℕ → Expr
    offset : ℕ → ℕ → SpecWords → SomeDeclr → ℕ → Identifier → Desigs → ℕ → Expr
    complex_part : ℕ → Expr → Expr
    label_use : ℕ → Identifier → Expr
    compat : ℕ → ℕ → SpecWords → SomeDeclr → ℕ → SpecWords → SomeDeclr → ℕ → Expr
    choose : ℕ → ℕ → Expr → ℕ → Expr → ℕ → Expr → ℕ → Expr
    generic : ℕ → ℕ → Expr → Assocs → ℕ → Expr

  -- the associations of a selection by a type
  pub data Assocs : Type 0 where
    no_assocs : Assocs
    more_assocs : Assoc → Assocs → Assocs

  -- an expression for a type, or for all others
  pub data Assoc : Type 0 where
    typed_assoc : SpecWords → SomeDeclr → ℕ → Expr → Assoc
    default_assoc : ℕ → ℕ → Expr → Assoc

  -- what stands between two operands: of a conditional, the middle and the colon
  pub data Operator : Type 0 where
    comma : Operator
    assign : Punct → Operator
    cond : SomeExpr → ℕ → Operator
    binary : Punct → Operator

  -- an expression, or none
  pub data SomeExpr : Type 0 where
    no_expr : SomeExpr
    some_expr : Expr → SomeExpr

  -- expressions
  pub data Exprs : Type 0 where
    no_exprs : Exprs
    more_exprs : Expr → Exprs → Exprs

  -- the words of specifiers
  pub data SpecWords : Type 0 where
    no_words : SpecWords
    more_words : SpecWord → SpecWords → SpecWords

  -- a word of specifiers
  pub data SpecWord : Type 0 where
    storage : Word → SpecWord
    thread : ℕ → SpecWord
    inline_word : ℕ → SpecWord
    noreturn : ℕ → SpecWord
    qualifier : Qual → SpecWord
    basic : Word → SpecWord
    struct_type : Word → List Attr → Option Identifier → SomeBody → SpecWord
    enum_type : EnumType → SpecWord
    typedef_name : TypedefName → SpecWord
    attribute : Attr → SpecWord
    typeof_value : ℕ → ℕ → Expr → ℕ → SpecWord
    typeof_type : Word → ℕ → SpecWords → SomeDeclr → ℕ → SpecWord
    align : Attr → SpecWord
    auto_word : ℕ → SpecWord

  -- the body of a struct or union, or none
  pub data SomeBody : Type 0 where
    no_body : SomeBody
    some_body : ℕ → StructItems → ℕ → SomeBody

  -- what stands in such a body
  pub data StructItems : Type 0 where
    no_struct_items : StructItems
    more_struct_items : StructItem → StructItems → StructItems

  -- a member, a semicolon or an assertion
  pub data StructItem : Type 0 where
    member : List ℕ → SpecWords → MemDeclrs → ℕ → StructItem
    member_semi : Semi → StructItem
    member_assert : Assert → StructItem

  -- the declarators of a member, each with the attributes before it
  pub data MemDeclrs : Type 0 where
    no_mem_declrs : MemDeclrs
    more_mem_declrs : List Attr → MemDeclr → MemDeclrs → MemDeclrs

  -- a declarator of a member, or a width alone
  pub data MemDeclr : Type 0 where
    named : Declr → SomeValue → List Attr → MemDeclr
    unnamed : ℕ → Expr → List Attr → MemDeclr

  -- a value behind its sign, or none
  pub data SomeValue : Type 0 where
    no_value : SomeValue
    some_value : ℕ → Expr → SomeValue

  -- an enum
  pub data EnumType : Type 0 where
    enum_of : ℕ → List Attr → Option Identifier → SomeEnumBody → EnumType

  -- the body of an enum, or none
  pub data SomeEnumBody : Type 0 where
    no_enum_body : SomeEnumBody
    some_enum_body : ℕ → Enumerators → Option ℕ → ℕ → SomeEnumBody

  -- enumerators
  pub data Enumerators : Type 0 where
    no_enumerators : Enumerators
    more_enumerators : Identifier → List Attr → SomeValue → Enumerators → Enumerators

  -- a declarator
  pub data Declr : Type 0 where
    pointer : ℕ → List PointerWord → Declr → Declr
    declr_name : ℕ → ℕ → Declr
    declr_paren : ℕ → List Attr → Declr → ℕ → Declr
    array : Declr → ℕ → List ArrayWord → SomeSize → ℕ → Declr
    params : Declr → ℕ → Params → Option Dots → ℕ → Declr
    abs_pointer : ℕ → List PointerWord → SomeDeclr → Declr
    abs_paren : ℕ → List Attr → Declr → ℕ → Declr
    abs_array : SomeDeclr → ℕ → List ArrayWord → SomeSize → ℕ → Declr
    abs_params : SomeDeclr → ℕ → Params → Option Dots → ℕ → Declr
    identifiers : Declr → ℕ → List Identifier → ℕ → Declr
    base_name : ℕ → Declr

  -- a declarator, or none
  pub data SomeDeclr : Type 0 where
    no_declr : SomeDeclr
    some_declr : Declr → SomeDeclr

  -- the size of an array, or none
  pub data SomeSize : Type 0 where
    no_size : SomeSize
    some_size : ArraySize → SomeSize

  -- the size of an array
  pub data ArraySize : Type 0 where
    size_value : Expr → ArraySize
    size_star : ℕ → ArraySize

  -- parameters
  pub data Params : Type 0 where
    no_params : Params
    more_params : SpecWords → SomeDeclr → List Attr → Params → Params

  -- an initialiser
  pub data Init : Type 0 where
    init_value : Expr → Init
    init_braced : InitList → Init

  -- an initialiser in braces
  pub data InitList : Type 0 where
    init_list : ℕ → InitItems → Option ℕ → ℕ → InitList

  -- items of such a list
  pub data InitItems : Type 0 where
    no_init_items : InitItems
    more_init_items : Desigs → Option ℕ → Init → InitItems → InitItems

  -- designators, or the steps of an offset
  pub data Desigs : Type 0 where
    no_desigs : Desigs
    more_desigs : Desig → Desigs → Desigs

  -- a designator, or a step of an offset
  pub data Desig : Type 0 where
    member_desig : ℕ → Identifier → Desig
    index_desig : ℕ → Expr → ℕ → Desig
    range_desig : ℕ → Expr → ℕ → Expr → ℕ → Desig
    old_desig : Identifier → ℕ → Desig

  -- an initialiser behind its sign, or none
  pub data SomeInit : Type 0 where
    no_init : SomeInit
    some_init : ℕ → Init → SomeInit

  -- the declarators of a declaration, each with the attributes before it
  pub data InitDeclrs : Type 0 where
    no_init_declrs : InitDeclrs
    more_init_declrs : List Attr → Declr → Option AsmLabel → List Attr → SomeInit → InitDeclrs → InitDeclrs

  -- a declaration
  pub data Declaration : Type 0 where
    declaration : List ℕ → SpecWords → InitDeclrs → ℕ → Declaration

  -- a declaration or an assertion
  pub data Decl : Type 0 where
    decl_declaration : Declaration → Decl
    decl_assert : Assert → Decl

  -- the items of a block
  pub data BlockItems : Type 0 where
    no_block_items : BlockItems
    more_block_items : BlockItem → BlockItems → BlockItems

  -- an item of a block
  pub data BlockItem : Type 0 where
    block_decl : Decl → BlockItem
    block_stmt : Stmt → BlockItem
    block_labels : ℕ → List Identifier → ℕ → BlockItem

  -- a statement
  pub data Stmt : Type 0 where
    block : ℕ → BlockItems → ℕ → Stmt
    expr_stmt : SomeExpr → ℕ → Stmt
    attr_stmt : List Attr → ℕ → Stmt
    label : Identifier → ℕ → List Attr → Stmt → Stmt
    case_stmt : ℕ → Expr → ℕ → Stmt → Stmt
    default_stmt : ℕ → ℕ → Stmt → Stmt
    if_stmt : ℕ → ℕ → Expr → ℕ → Stmt → SomeElse → Stmt
    switch_stmt : ℕ → ℕ → Expr → ℕ → Stmt → Stmt
    while_stmt : ℕ → ℕ → Expr → ℕ → Stmt → Stmt
    do_stmt : ℕ → Stmt → ℕ → ℕ → Expr → ℕ → ℕ → Stmt
    for_stmt : ℕ → ℕ → ForStart → SomeExpr → ℕ → SomeExpr → ℕ → Stmt → Stmt
    goto_stmt : ℕ → Identifier → ℕ → Stmt
    continue_stmt : ℕ → ℕ → Stmt
    break_stmt : ℕ → ℕ → Stmt
    return_stmt : ℕ → SomeExpr → ℕ → Stmt
    asm_stmt : ℕ → List Word → Group → ℕ → Stmt
    case_range : ℕ → Expr → ℕ → Expr → ℕ → Stmt → Stmt
    goto_value : ℕ → ℕ → Expr → ℕ → Stmt

  -- the other branch, or none
  pub data SomeElse : Type 0 where
    no_else : SomeElse
    some_else : ℕ → Stmt → SomeElse

  -- how a `for` begins
  pub data ForStart : Type 0 where
    start_declaration : Declaration → ForStart
    start_value : SomeExpr → ℕ → ForStart
