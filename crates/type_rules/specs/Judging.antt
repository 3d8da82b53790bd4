-- The faults of expressions and initialisers, by cases on the tree.
use Rattle.std.specs.Prelude.{ℕ, suc, Bool, true, false, not, List, [], ◌∷◌, ◌++◌, Option, None, Some}
use Rattle.c_tree.specs.Tree.{Expr, operation, cast, prefix, sizeof_value, sizeof_type, extension, index, call, dot, arrow, post, compound, name_use, number_use, char_use, text_use, paren, statement_expr, va_arg, va_start, va_copy, offset, Operator, comma, assign, cond, binary, SomeExpr, no_expr, some_expr, Exprs, no_exprs, more_exprs, SpecWords, no_words, more_words, SpecWord, storage, thread, inline_word, noreturn, qualifier, basic, struct_type, enum_type, typedef_name, attribute, SomeBody, no_body, some_body, StructItems, no_struct_items, more_struct_items, StructItem, member, member_semi, member_assert, MemDeclrs, no_mem_declrs, more_mem_declrs, MemDeclr, named, unnamed, SomeValue, no_value, some_value, EnumType, enum_of, no_enum_body, some_enum_body, Enumerators, no_enumerators, more_enumerators, Declr, pointer, declr_name, declr_paren, array, params, abs_pointer, abs_paren, abs_array, abs_params, SomeDeclr, no_declr, some_declr, SomeSize, no_size, some_size, ArraySize, size_value, size_star, Params, no_params, more_params, Init, init_value, init_braced, InitList, init_list, InitItems, no_init_items, more_init_items, Desigs, no_desigs, more_desigs, Desig, member_desig, index_desig, SomeInit, no_init, some_init, InitDeclrs, no_init_declrs, more_init_declrs, Declaration, declaration, Decl, decl_declaration, decl_assert, BlockItems, no_block_items, more_block_items, BlockItem, block_decl, block_stmt, Stmt, block, expr_stmt, attr_stmt, label, case_stmt, default_stmt, if_stmt, switch_stmt, while_stmt, do_stmt, for_stmt, goto_stmt, continue_stmt, break_stmt, return_stmt, asm_stmt, SomeElse, no_else, some_else, ForStart, start_declaration, start_value, complex_part, label_use, compat, choose, generic, typeof_value, typeof_type, align, auto_word, range_desig, old_desig, case_range, goto_value, block_labels, identifiers, base_name, Assocs, no_assocs, more_assocs, Assoc, typed_assoc, default_assoc}
use Rattle.c_tree.specs.Unit.{Item, function_item, decl_item, asm_item, semi_item, old_function_item}
use Rattle.type_table.specs.Types.{CType}
use Rattle.name_rules.specs.Spellings.{Spelling, place, Named}
use Rattle.name_rules.specs.Faults.{Fault, not_pointer, not_place, fault_where}
use Rattle.name_rules.specs.Scopes.{Names, declared_at}
use Rattle.name_rules.specs.Values.{Shape, value, some_target, member_type, is_no_pointer, Target, no_target, to, behind_member}
use Rattle.name_rules.specs.Uses.{type_named_at}
use Rattle.name_rules.specs.Checks.{prefix_faults, call_faults, type_declared, member_faults, index_faults_at, target_of_item}
use Rattle.c_tree.specs.Firsts.{first_word}
use Rattle.type_rules.specs.Tokens.{declared_name}
use Rattle.type_rules.specs.Shapes.{shape_of}

-- how many expressions there are
abbrev pub count : Exprs → ℕ
count no_exprs = 0
count (more_exprs e es) = suc (count es)

-- what a designator names, of what was designated so far
abbrev pub desig_type : Spelling → Names → Option CType → Desig → Option CType
desig_type u s t (member_desig token name) = member_type s.aggregates t (u.key name.name)
desig_type u s t (index_desig opening e closing) = some_target t
desig_type u s t (range_desig opening e dots e2 closing) = some_target t
desig_type u s t (old_desig name colon) = member_type s.aggregates t (u.key name.name)

-- the type of what designators name, one inside of the other
abbrev pub desigs_type : Spelling → Names → Option CType → Desigs → Option CType
desigs_type u s t no_desigs = t
desigs_type u s t (more_desigs d ds) = desigs_type u s (desig_type u s t d) ds

-- the next member behind an item
abbrev pub next_behind : Spelling → Names → Option CType → Desigs → ℕ → ℕ
next_behind u s t no_desigs next = suc next
next_behind u s t (more_desigs (member_desig token name) ds) next = behind_member s.aggregates t (u.key name.name) next
next_behind u s t (more_desigs (index_desig opening e closing) ds) next = next
next_behind u s t (more_desigs (range_desig opening e dots e2 closing) ds) next = next
next_behind u s t (more_desigs (old_desig name colon) ds) next = behind_member s.aggregates t (u.key name.name) next

-- what designators name, where there are any
abbrev pub some_desigs_type : Spelling → Names → Option CType → Desigs → Option (Option CType)
some_desigs_type u s t no_desigs = None
some_desigs_type u s t (more_desigs d ds) = Some (desigs_type u s t (more_desigs d ds))

-- what an item of an initialiser in braces initialises, by its designators
abbrev pub item_target : Spelling → Names → Option CType → Bool → ℕ → Desigs → Target
item_target u s t is_first next ds = target_of_item s t is_first next (some_desigs_type u s t ds)

-- the type that a name is declared with, also where it is a further declaration
abbrev pub declared_type : Spelling → Names → Option Named → Option CType
declared_type u s None = None
declared_type u s (Some it) = type_declared (declared_at s.declared (place u it.token))

module _ (u : Spelling) (s : Names) where
  abbrev mutual
    -- the faults of an expression
    pub expr_faults : Expr → List Fault
    expr_faults (operation e op token e2) =
        operator_faults op token (shape_of u s e) ++ (expr_faults e ++ (middle_faults op ++ expr_faults e2))
    expr_faults (cast opening ws d closing e) = words_faults ws ++ (some_declr_faults d ++ expr_faults e)
    expr_faults (prefix token p e) = prefix_faults (place u token) p (shape_of u s e) ++ expr_faults e
    expr_faults (sizeof_value word e) = expr_faults e
    expr_faults (sizeof_type word opening ws d closing) = words_faults ws ++ some_declr_faults d
    expr_faults (extension keyword e) = expr_faults e
    expr_faults (index e opening e2 closing) =
        index_faults_at u.wide (place u opening) (shape_of u s e) (shape_of u s e2) ++ (expr_faults e ++ expr_faults e2)
    expr_faults (call e opening es closing) =
        call_faults (place u opening) (value (shape_of u s e)) (count es) ++ (expr_faults e ++ exprs_faults es)
    expr_faults (dot e token name) = member_faults u s (value (shape_of u s e)) name.token name.name ++ expr_faults e
    expr_faults (arrow e token name) =
        fault_where (is_no_pointer (value (shape_of u s e))) (place u token) not_pointer
        ++ (member_faults u s (some_target (value (shape_of u s e))) name.token name.name ++ expr_faults e)
    expr_faults (post e token p) =
        fault_where (not (shape_of u s e).is_place) (place u token) not_place ++ expr_faults e
    expr_faults (compound opening ws d closing list) =
        words_faults ws ++ (some_declr_faults d
        ++ list_faults (type_named_at s.type_names (place u (first_word ws))) list)
    expr_faults (name_use token name) = []
    expr_faults (number_use token) = []
    expr_faults (char_use token) = []
    expr_faults (text_use texts) = []
    expr_faults (paren opening e closing) = expr_faults e
    expr_faults (statement_expr opening opening2 items closing closing2) = block_items_faults items
    expr_faults (va_arg keyword opening e separator ws d closing) =
        expr_faults e ++ (words_faults ws ++ some_declr_faults d)
    expr_faults (va_start keyword opening e separator e2 closing) = expr_faults e ++ expr_faults e2
    expr_faults (va_copy keyword opening e separator e2 closing) = expr_faults e ++ expr_faults e2
    expr_faults (offset keyword opening ws d separator name steps closing) =
        words_faults ws ++ (some_declr_faults d
        ++ (member_faults u s (type_named_at s.type_names (place u (first_word ws))) name.token name.name
        ++ desigs_faults (member_type s.aggregates (type_named_at s.type_names (place u (first_word ws)))
        (u.key name.name)) steps))
    expr_faults (complex_part keyword e) = expr_faults e
    expr_faults (label_use token name) = []
    expr_faults (compat keyword opening ws d separator ws2 d2 closing) =
        words_faults ws ++ (some_declr_faults d ++ (words_faults ws2 ++ some_declr_faults d2))
    expr_faults (choose keyword opening e separator e2 separator2 e3 closing) =
        expr_faults e ++ (expr_faults e2 ++ expr_faults e3)
    expr_faults (generic keyword opening e xs closing) = expr_faults e ++ assocs_faults xs

    -- the faults of the associations of a `_Generic`
    pub assocs_faults : Assocs → List Fault
    assocs_faults no_assocs = []
    assocs_faults (more_assocs x xs) = assoc_faults x ++ assocs_faults xs

    -- the faults of an association of a `_Generic`
    pub assoc_faults : Assoc → List Fault
    assoc_faults (typed_assoc ws d colon e) = words_faults ws ++ (some_declr_faults d ++ expr_faults e)
    assoc_faults (default_assoc keyword colon e) = expr_faults e

    -- the faults of an infix operator and its middle operand
    pub operator_faults : Operator → ℕ → Shape → List Fault
    operator_faults comma token left = []
    operator_faults (assign p) token left = fault_where (not left.is_place) (place u token) not_place
    operator_faults (cond middle colon) token left = []
    operator_faults (binary p) token left = []

    -- the faults of the middle operand of `? :`
    pub middle_faults : Operator → List Fault
    middle_faults comma = []
    middle_faults (assign p) = []
    middle_faults (cond middle colon) = some_expr_faults middle
    middle_faults (binary p) = []

    -- the faults of an expression that may be left out
    pub some_expr_faults : SomeExpr → List Fault
    some_expr_faults no_expr = []
    some_expr_faults (some_expr e) = expr_faults e

    -- the faults of arguments
    pub exprs_faults : Exprs → List Fault
    exprs_faults no_exprs = []
    exprs_faults (more_exprs e es) = expr_faults e ++ exprs_faults es

    -- designators, and the steps of an offset, from what is of this type
    pub desigs_faults : Option CType → Desigs → List Fault
    desigs_faults t no_desigs = []
    desigs_faults t (more_desigs d ds) = desig_faults t d ++ desigs_faults (desig_type u s t d) ds

    -- the faults of a designator
    pub desig_faults : Option CType → Desig → List Fault
    desig_faults t (member_desig token name) = member_faults u s t name.token name.name
    desig_faults t (index_desig opening e closing) =
        fault_where (is_no_pointer t) (place u opening) not_pointer ++ expr_faults e
    desig_faults t (range_desig opening e dots e2 closing) =
        fault_where (is_no_pointer t) (place u opening) not_pointer ++ (expr_faults e ++ expr_faults e2)
    desig_faults t (old_desig name colon) = member_faults u s t name.token name.name

    -- of designators that name nothing, only the indices are looked at
    pub indices_faults : Desigs → List Fault
    indices_faults no_desigs = []
    indices_faults (more_desigs d ds) = index_faults d ++ indices_faults ds

    -- the faults of the index of a designator
    pub index_faults : Desig → List Fault
    index_faults (member_desig token name) = []
    index_faults (index_desig opening e closing) = expr_faults e
    index_faults (range_desig opening e dots e2 closing) = expr_faults e ++ expr_faults e2
    index_faults (old_desig name colon) = []

    -- the faults of an initialiser
    pub init_faults : Target → Init → List Fault
    init_faults t (init_value e) = expr_faults e
    init_faults no_target (init_braced list) = untargeted_faults list
    init_faults (to t) (init_braced list) = list_faults t list

    -- the faults of a list in braces whose target is not known
    pub untargeted_faults : InitList → List Fault
    untargeted_faults (init_list opening items last closing) = untargeted_items_faults items

    -- the faults of the items of a list in braces whose target is not known
    pub untargeted_items_faults : InitItems → List Fault
    untargeted_items_faults no_init_items = []
    untargeted_items_faults (more_init_items ds equal init items) =
        indices_faults ds ++ (init_faults no_target init ++ untargeted_items_faults items)

    -- a list that initialises something of this type
    pub list_faults : Option CType → InitList → List Fault
    list_faults t (init_list opening items last closing) = items_faults t true 0 items

    -- the faults of the items of a list in braces with a target
    pub items_faults : Option CType → Bool → ℕ → InitItems → List Fault
    items_faults t is_first next no_init_items = []
    items_faults t is_first next (more_init_items ds equal init items) =
        desigs_faults t ds ++
        (init_faults (item_target u s t is_first next ds) init
        ++ items_faults t false (next_behind u s t ds next) items)

    -- the faults of the words of specifiers
    pub words_faults : SpecWords → List Fault
    words_faults no_words = []
    words_faults (more_words word words) = word_faults word ++ words_faults words

    -- the faults of a word of specifiers
    pub word_faults : SpecWord → List Fault
    word_faults (storage word) = []
    word_faults (thread token) = []
    word_faults (inline_word token) = []
    word_faults (noreturn token) = []
    word_faults (qualifier q) = []
    word_faults (basic word) = []
    word_faults (struct_type word attrs tag body) = some_body_faults body
    word_faults (enum_type e) = enum_faults e
    word_faults (typedef_name name) = []
    word_faults (attribute attr) = []
    word_faults (typeof_value keyword opening e closing) = expr_faults e
    word_faults (typeof_type word opening ws d closing) = words_faults ws ++ some_declr_faults d
    word_faults (align attr) = []
    word_faults (auto_word token) = []

    -- the faults of the body of a struct or union, if it has one
    pub some_body_faults : SomeBody → List Fault
    some_body_faults no_body = []
    some_body_faults (some_body opening items closing) = struct_items_faults items

    -- the faults of the items of a struct's body
    pub struct_items_faults : StructItems → List Fault
    struct_items_faults no_struct_items = []
    struct_items_faults (more_struct_items item items) = struct_item_faults item ++ struct_items_faults items

    -- the faults of an item of a struct's body
    pub struct_item_faults : StructItem → List Fault
    struct_item_faults (member exts ws ds semi) = words_faults ws ++ mem_declrs_faults ds
    struct_item_faults (member_semi semi) = []
    struct_item_faults (member_assert it) = []

    -- the faults of the declarators of members
    pub mem_declrs_faults : MemDeclrs → List Fault
    mem_declrs_faults no_mem_declrs = []
    mem_declrs_faults (more_mem_declrs attrs d ds) = mem_declr_faults d ++ mem_declrs_faults ds

    -- the faults of the declarator of a member
    pub mem_declr_faults : MemDeclr → List Fault
    mem_declr_faults (named d width attrs) = declr_faults d ++ some_value_faults width
    mem_declr_faults (unnamed colon e attrs) = expr_faults e

    -- the faults of the value of an enumerator, if it has one
    pub some_value_faults : SomeValue → List Fault
    some_value_faults no_value = []
    some_value_faults (some_value token e) = expr_faults e

    -- the faults of an enumeration
    pub enum_faults : EnumType → List Fault
    enum_faults (enum_of keyword attrs tag no_enum_body) = []
    enum_faults (enum_of keyword attrs tag (some_enum_body opening es last closing)) = enumerators_faults es

    -- the faults of enumerators
    pub enumerators_faults : Enumerators → List Fault
    enumerators_faults no_enumerators = []
    enumerators_faults (more_enumerators name attrs number es) = some_value_faults number ++ enumerators_faults es

    -- the faults of a declarator
    pub declr_faults : Declr → List Fault
    declr_faults (pointer star words d) = declr_faults d
    declr_faults (declr_name token name) = []
    declr_faults (declr_paren opening attrs d closing) = declr_faults d
    declr_faults (array d opening words size closing) = declr_faults d ++ some_size_faults size
    declr_faults (params d opening ps dots closing) = declr_faults d ++ params_faults ps
    declr_faults (abs_pointer star words d) = some_declr_faults d
    declr_faults (abs_paren opening attrs d closing) = declr_faults d
    declr_faults (abs_array d opening words size closing) = some_declr_faults d ++ some_size_faults size
    declr_faults (abs_params d opening ps dots closing) = some_declr_faults d ++ params_faults ps
    declr_faults (identifiers d opening names closing) = declr_faults d
    declr_faults (base_name token) = []

    -- the faults of a declarator that may be left out
    pub some_declr_faults : SomeDeclr → List Fault
    some_declr_faults no_declr = []
    some_declr_faults (some_declr d) = declr_faults d

    -- the faults of the size of an array, if it has one
    pub some_size_faults : SomeSize → List Fault
    some_size_faults no_size = []
    some_size_faults (some_size size) = array_size_faults size

    -- the faults of the size of an array
    pub array_size_faults : ArraySize → List Fault
    array_size_faults (size_value e) = expr_faults e
    array_size_faults (size_star star) = []

    -- the faults of parameters
    pub params_faults : Params → List Fault
    params_faults no_params = []
    params_faults (more_params ws d attrs ps) = words_faults ws ++ (some_declr_faults d ++ params_faults ps)

    -- the faults of the declarators of a declaration
    pub init_declrs_faults : InitDeclrs → List Fault
    init_declrs_faults no_init_declrs = []
    init_declrs_faults (more_init_declrs attrs d asm_label attrs2 init ds) =
        declr_faults d ++ (some_init_faults (declared_type u s (declared_name d)) init ++ init_declrs_faults ds)

    -- the faults of the initialiser of a declarator, if it has one
    pub some_init_faults : Option CType → SomeInit → List Fault
    some_init_faults t no_init = []
    some_init_faults t (some_init equal init) = init_faults (to t) init

    -- the faults of a declaration
    pub declaration_faults : Declaration → List Fault
    declaration_faults (declaration exts ws ds semi) = words_faults ws ++ init_declrs_faults ds

    -- the faults of a declaration or an assertion
    pub decl_faults : Decl → List Fault
    decl_faults (decl_declaration d) = declaration_faults d
    decl_faults (decl_assert it) = []

    -- the faults of the items of a block
    pub block_items_faults : BlockItems → List Fault
    block_items_faults no_block_items = []
    block_items_faults (more_block_items item items) = block_item_faults item ++ block_items_faults items

    -- the faults of an item of a block
    pub block_item_faults : BlockItem → List Fault
    block_item_faults (block_decl d) = decl_faults d
    block_item_faults (block_stmt t) = stmt_faults t
    block_item_faults (block_labels keyword names semi) = []

    -- the faults of a statement
    pub stmt_faults : Stmt → List Fault
    stmt_faults (block opening items closing) = block_items_faults items
    stmt_faults (expr_stmt e semi) = some_expr_faults e
    stmt_faults (attr_stmt attrs semi) = []
    stmt_faults (label name colon attrs t) = stmt_faults t
    stmt_faults (case_stmt keyword e colon t) = expr_faults e ++ stmt_faults t
    stmt_faults (default_stmt keyword colon t) = stmt_faults t
    stmt_faults (if_stmt keyword opening e closing t other) = expr_faults e ++ (stmt_faults t ++ some_else_faults other)
    stmt_faults (switch_stmt keyword opening e closing t) = expr_faults e ++ stmt_faults t
    stmt_faults (while_stmt keyword opening e closing t) = expr_faults e ++ stmt_faults t
    stmt_faults (do_stmt keyword t keyword2 opening e closing semi) = stmt_faults t ++ expr_faults e
    stmt_faults (for_stmt keyword opening start e semi e2 closing t) =
        for_start_faults start ++ (some_expr_faults e ++ (some_expr_faults e2 ++ stmt_faults t))
    stmt_faults (goto_stmt keyword name semi) = []
    stmt_faults (continue_stmt keyword semi) = []
    stmt_faults (break_stmt keyword semi) = []
    stmt_faults (return_stmt keyword e semi) = some_expr_faults e
    stmt_faults (asm_stmt keyword words group semi) = []
    stmt_faults (case_range keyword e dots e2 colon t) = expr_faults e ++ (expr_faults e2 ++ stmt_faults t)
    stmt_faults (goto_value keyword star e semi) = expr_faults e

    -- the faults of the `else` of an `if`, if it has one
    pub some_else_faults : SomeElse → List Fault
    some_else_faults no_else = []
    some_else_faults (some_else keyword t) = stmt_faults t

    -- the faults of the first part of a `for`
    pub for_start_faults : ForStart → List Fault
    for_start_faults (start_declaration d) = declaration_faults d
    for_start_faults (start_value e semi) = some_expr_faults e

  -- the faults of declarations
  abbrev pub declarations_faults : List Declaration → List Fault
  declarations_faults [] = []
  declarations_faults (d ∷ ds) = declaration_faults d ++ declarations_faults ds

  -- a declarator with a list of identifiers, with the declarations behind that
  abbrev pub old_declr_faults : List Declaration → Declr → List Fault
  old_declr_faults ds (identifiers d opening names closing) = declr_faults d ++ declarations_faults ds
  old_declr_faults ds (pointer star words d) = old_declr_faults ds d
  old_declr_faults ds (declr_paren opening attrs d closing) = old_declr_faults ds d
  old_declr_faults ds (array d opening words size closing) = old_declr_faults ds d ++ some_size_faults size
  old_declr_faults ds (params d opening ps dots closing) = old_declr_faults ds d ++ params_faults ps
  old_declr_faults ds (declr_name token name) = declr_faults (declr_name token name)
  old_declr_faults ds (base_name token) = declr_faults (base_name token)
  old_declr_faults ds (abs_pointer star words d) = declr_faults (abs_pointer star words d)
  old_declr_faults ds (abs_paren opening attrs d closing) = declr_faults (abs_paren opening attrs d closing)
  old_declr_faults ds (abs_array d opening words size closing) = declr_faults (abs_array d opening words size closing)
  old_declr_faults ds (abs_params d opening ps dots closing) = declr_faults (abs_params d opening ps dots closing)

  -- the faults of an item of a unit
  abbrev pub item_faults : Item → List Fault
  item_faults (function_item exts ws d attrs opening items closing) =
      words_faults ws ++ (declr_faults d ++ block_items_faults items)
  item_faults (old_function_item exts ws d attrs ds opening items closing) =
      words_faults ws ++ (old_declr_faults ds d ++ block_items_faults items)
  item_faults (decl_item d) = decl_faults d
  item_faults (asm_item keyword group semi) = []
  item_faults (semi_item semi) = []

  -- the faults of the items of a unit, in order
  abbrev pub items_faults_of : List Item → List Fault
  items_faults_of [] = []
  items_faults_of (item ∷ items) = item_faults item ++ items_faults_of items
