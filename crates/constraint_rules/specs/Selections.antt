-- Which associations are candidates of each selection by a type, in the order of the text.
use Rattle.std.specs.Prelude.{ℕ, List, [], ◌∷◌, ◌++◌, Option, None, Some}
use Rattle.c_tree.specs.Tree.{Expr, operation, cast, prefix, sizeof_value, sizeof_type, extension, index, call, dot, arrow, post, compound, name_use, number_use, char_use, text_use, paren, statement_expr, va_arg, va_start, va_copy, offset, comma, assign, cond, binary, SomeExpr, no_expr, some_expr, Exprs, no_exprs, more_exprs, SpecWords, no_words, more_words, SpecWord, storage, thread, inline_word, noreturn, qualifier, basic, struct_type, enum_type, typedef_name, attribute, SomeBody, no_body, some_body, StructItems, no_struct_items, more_struct_items, StructItem, member, member_semi, member_assert, MemDeclrs, no_mem_declrs, more_mem_declrs, MemDeclr, named, unnamed, SomeValue, no_value, some_value, EnumType, enum_of, no_enum_body, some_enum_body, Enumerators, no_enumerators, more_enumerators, Declr, pointer, declr_name, declr_paren, array, params, abs_pointer, abs_paren, abs_array, abs_params, SomeDeclr, no_declr, some_declr, SomeSize, no_size, some_size, ArraySize, size_value, size_star, Params, no_params, more_params, Init, init_value, init_braced, InitList, init_list, InitItems, no_init_items, more_init_items, Desigs, no_desigs, more_desigs, Desig, member_desig, index_desig, SomeInit, no_init, some_init, InitDeclrs, no_init_declrs, more_init_declrs, Declaration, declaration, Decl, decl_declaration, decl_assert, BlockItems, no_block_items, more_block_items, BlockItem, block_decl, block_stmt, Stmt, block, expr_stmt, attr_stmt, label, case_stmt, default_stmt, if_stmt, switch_stmt, while_stmt, do_stmt, for_stmt, goto_stmt, continue_stmt, break_stmt, return_stmt, asm_stmt, SomeElse, no_else, some_else, ForStart, start_declaration, start_value, typeof_value, typeof_type, align, auto_word, complex_part, label_use, compat, choose, generic, range_desig, old_desig, case_range, goto_value, block_labels, identifiers, base_name, Assocs, no_assocs, more_assocs, Assoc, typed_assoc, default_assoc}
use Rattle.c_tree.specs.Unit.{Item, function_item, old_function_item, decl_item, asm_item, semi_item}
use Rattle.type_table.specs.Types.{CType}
use Rattle.name_rules.specs.Spellings.{Spelling, place}
use Rattle.name_rules.specs.Scopes.{Names}
use Rattle.name_rules.specs.Values.{Association, value, has_of_type}
use Rattle.type_rules.specs.Shapes.{shape_of, associations_of}
use Rattle.row_rules.specs.Starting.{Selection, candidate_flags}

-- a selection at a token, by the type of its control's value
abbrev pub selection_of : Spelling → ℕ → Option CType → List Association → List Selection
selection_of u token t all = record { at = place u token; flags = candidate_flags (has_of_type t all) t all } ∷ []

abbrev mutual
  -- the selections in an expression
  pub expr_selections : Spelling → Names → Expr → List Selection
  expr_selections u s (operation e comma token e2) = expr_selections u s e ++ expr_selections u s e2
  expr_selections u s (operation e (assign p) token e2) = expr_selections u s e ++ expr_selections u s e2
  expr_selections u s (operation e (cond no_expr colon) token e2) = expr_selections u s e ++ expr_selections u s e2
  expr_selections u s (operation e (cond (some_expr m) colon) token e2) =
      expr_selections u s e ++ (expr_selections u s m ++ expr_selections u s e2)
  expr_selections u s (operation e (binary p) token e2) = expr_selections u s e ++ expr_selections u s e2
  expr_selections u s (cast opening ws d closing e) =
      words_selections u s ws ++ (some_declr_selections u s d ++ expr_selections u s e)
  expr_selections u s (prefix token p e) = expr_selections u s e
  expr_selections u s (sizeof_value word e) = expr_selections u s e
  expr_selections u s (sizeof_type word opening ws d closing) = words_selections u s ws ++ some_declr_selections u s d
  expr_selections u s (extension keyword e) = expr_selections u s e
  expr_selections u s (index e opening e2 closing) = expr_selections u s e ++ expr_selections u s e2
  expr_selections u s (call e opening es closing) = expr_selections u s e ++ exprs_selections u s es
  expr_selections u s (dot e token name) = expr_selections u s e
  expr_selections u s (arrow e token name) = expr_selections u s e
  expr_selections u s (post e token p) = expr_selections u s e
  expr_selections u s (compound opening ws d closing list) =
      words_selections u s ws ++ (some_declr_selections u s d ++ init_list_selections u s list)
  expr_selections u s (name_use token name) = []
  expr_selections u s (number_use token) = []
  expr_selections u s (char_use token) = []
  expr_selections u s (text_use texts) = []
  expr_selections u s (paren opening e closing) = expr_selections u s e
  expr_selections u s (statement_expr opening opening2 items closing closing2) = block_items_selections u s items
  expr_selections u s (va_arg keyword opening e separator ws d closing) =
      expr_selections u s e ++ (words_selections u s ws ++ some_declr_selections u s d)
  expr_selections u s (va_start keyword opening e separator e2 closing) =
      expr_selections u s e ++ expr_selections u s e2
  expr_selections u s (va_copy keyword opening e separator e2 closing) = expr_selections u s e ++ expr_selections u s e2
  expr_selections u s (offset keyword opening ws d separator name steps closing) =
      words_selections u s ws ++ (some_declr_selections u s d ++ desigs_selections u s steps)
  expr_selections u s (complex_part keyword e) = expr_selections u s e
  expr_selections u s (label_use token name) = []
  expr_selections u s (compat keyword opening ws d separator ws2 d2 closing) =
      words_selections u s ws
      ++ (some_declr_selections u s d ++ (words_selections u s ws2 ++ some_declr_selections u s d2))
  expr_selections u s (choose keyword opening e separator e2 separator2 e3 closing) =
      expr_selections u s e ++ (expr_selections u s e2 ++ expr_selections u s e3)
  expr_selections u s (generic keyword opening e xs closing) =
      expr_selections u s e
      ++ (assocs_selections u s xs ++ selection_of u keyword (value (shape_of u s e)) (associations_of u s xs))

  -- the selections in the associations of a `_Generic`
  pub assocs_selections : Spelling → Names → Assocs → List Selection
  assocs_selections u s no_assocs = []
  assocs_selections u s (more_assocs x xs) = assoc_selections u s x ++ assocs_selections u s xs

  -- the selections in an association of a `_Generic`
  pub assoc_selections : Spelling → Names → Assoc → List Selection
  assoc_selections u s (typed_assoc ws d colon e) =
      words_selections u s ws ++ (some_declr_selections u s d ++ expr_selections u s e)
  assoc_selections u s (default_assoc keyword colon e) = expr_selections u s e

  -- the selections in an expression that may be left out
  pub some_expr_selections : Spelling → Names → SomeExpr → List Selection
  some_expr_selections u s no_expr = []
  some_expr_selections u s (some_expr e) = expr_selections u s e

  -- the selections in arguments
  pub exprs_selections : Spelling → Names → Exprs → List Selection
  exprs_selections u s no_exprs = []
  exprs_selections u s (more_exprs e es) = expr_selections u s e ++ exprs_selections u s es

  -- the selections in the words of specifiers
  pub words_selections : Spelling → Names → SpecWords → List Selection
  words_selections u s no_words = []
  words_selections u s (more_words word words) = word_selections u s word ++ words_selections u s words

  -- the selections in a word of specifiers
  pub word_selections : Spelling → Names → SpecWord → List Selection
  word_selections u s (storage word) = []
  word_selections u s (thread token) = []
  word_selections u s (inline_word token) = []
  word_selections u s (noreturn token) = []
  word_selections u s (qualifier q) = []
  word_selections u s (basic word) = []
  word_selections u s (struct_type word attrs tag body) = some_body_selections u s body
  word_selections u s (enum_type e) = enum_selections u s e
  word_selections u s (typedef_name name) = []
  word_selections u s (attribute attr) = []
  word_selections u s (typeof_value keyword opening e closing) = expr_selections u s e
  word_selections u s (typeof_type word opening ws d closing) = words_selections u s ws ++ some_declr_selections u s d
  word_selections u s (align attr) = []
  word_selections u s (auto_word token) = []

  -- the selections in the body of a struct or union, if it has one
  pub some_body_selections : Spelling → Names → SomeBody → List Selection
  some_body_selections u s no_body = []
  some_body_selections u s (some_body opening items closing) = struct_items_selections u s items

  -- the selections in the items of a struct's body
  pub struct_items_selections : Spelling → Names → StructItems → List Selection
  struct_items_selections u s no_struct_items = []
  struct_items_selections u s (more_struct_items item items) =
      struct_item_selections u s item ++ struct_items_selections u s items

  -- the selections in an item of a struct's body
  pub struct_item_selections : Spelling → Names → StructItem → List Selection
  struct_item_selections u s (member exts ws ds semi) = words_selections u s ws ++ members_selections u s ws ds
  struct_item_selections u s (member_semi semi) = []
  struct_item_selections u s (member_assert it) = []

  -- the selections in the members that one item of a body declares
  pub members_selections : Spelling → Names → SpecWords → MemDeclrs → List Selection
  members_selections u s ws no_mem_declrs = []
  members_selections u s ws (more_mem_declrs attrs d ds) = mem_declr_selections u s d ++ mem_declrs_selections u s ds

  -- the selections in the declarators of members
  pub mem_declrs_selections : Spelling → Names → MemDeclrs → List Selection
  mem_declrs_selections u s no_mem_declrs = []
  mem_declrs_selections u s (more_mem_declrs attrs d ds) = mem_declr_selections u s d ++ mem_declrs_selections u s ds

  -- the selections in the declarator of a member
  pub mem_declr_selections : Spelling → Names → MemDeclr → List Selection
  mem_declr_selections u s (named d width attrs) = declr_selections u s d ++ some_value_selections u s width
  mem_declr_selections u s (unnamed colon e attrs) = expr_selections u s e

  -- the selections in the value of an enumerator, if it has one
  pub some_value_selections : Spelling → Names → SomeValue → List Selection
  some_value_selections u s no_value = []
  some_value_selections u s (some_value token e) = expr_selections u s e

  -- the selections in an enumeration
  pub enum_selections : Spelling → Names → EnumType → List Selection
  enum_selections u s (enum_of keyword attrs tag no_enum_body) = []
  enum_selections u s (enum_of keyword attrs tag (some_enum_body opening es last closing)) =
      enumerators_selections u s es

  -- the selections in enumerators
  pub enumerators_selections : Spelling → Names → Enumerators → List Selection
  enumerators_selections u s no_enumerators = []
  enumerators_selections u s (more_enumerators name attrs number es) =
      some_value_selections u s number ++ enumerators_selections u s es

  -- the selections in a declarator
  pub declr_selections : Spelling → Names → Declr → List Selection
  declr_selections u s (pointer star words d) = declr_selections u s d
  declr_selections u s (declr_name token name) = []
  declr_selections u s (declr_paren opening attrs d closing) = declr_selections u s d
  declr_selections u s (array d opening words size closing) = declr_selections u s d ++ some_size_selections u s size
  declr_selections u s (params d opening ps dots closing) = declr_selections u s d ++ params_selections u s ps
  declr_selections u s (abs_pointer star words d) = some_declr_selections u s d
  declr_selections u s (abs_paren opening attrs d closing) = declr_selections u s d
  declr_selections u s (abs_array d opening words size closing) =
      some_declr_selections u s d ++ some_size_selections u s size
  declr_selections u s (abs_params d opening ps dots closing) = some_declr_selections u s d ++ params_selections u s ps
  declr_selections u s (identifiers d opening names closing) = declr_selections u s d
  declr_selections u s (base_name token) = []

  -- the selections in a declarator that may be left out
  pub some_declr_selections : Spelling → Names → SomeDeclr → List Selection
  some_declr_selections u s no_declr = []
  some_declr_selections u s (some_declr d) = declr_selections u s d

  -- the selections in the size of an array, if it has one
  pub some_size_selections : Spelling → Names → SomeSize → List Selection
  some_size_selections u s no_size = []
  some_size_selections u s (some_size size) = array_size_selections u s size

  -- the selections in the size of an array
  pub array_size_selections : Spelling → Names → ArraySize → List Selection
  array_size_selections u s (size_value e) = expr_selections u s e
  array_size_selections u s (size_star star) = []

  -- the selections in parameters
  pub params_selections : Spelling → Names → Params → List Selection
  params_selections u s no_params = []
  params_selections u s (more_params ws d attrs ps) =
      words_selections u s ws ++ (some_declr_selections u s d ++ params_selections u s ps)

  -- the selections in an initialiser
  pub init_selections : Spelling → Names → Init → List Selection
  init_selections u s (init_value e) = expr_selections u s e
  init_selections u s (init_braced list) = init_list_selections u s list

  -- the selections in a list in braces
  pub init_list_selections : Spelling → Names → InitList → List Selection
  init_list_selections u s (init_list opening items last closing) = init_items_selections u s items

  -- the selections in the items of a list in braces
  pub init_items_selections : Spelling → Names → InitItems → List Selection
  init_items_selections u s no_init_items = []
  init_items_selections u s (more_init_items ds equal init items) =
      desigs_selections u s ds ++ (init_selections u s init ++ init_items_selections u s items)

  -- the selections in designators
  pub desigs_selections : Spelling → Names → Desigs → List Selection
  desigs_selections u s no_desigs = []
  desigs_selections u s (more_desigs d ds) = desig_selections u s d ++ desigs_selections u s ds

  -- the selections in a designator
  pub desig_selections : Spelling → Names → Desig → List Selection
  desig_selections u s (member_desig token name) = []
  desig_selections u s (index_desig opening e closing) = expr_selections u s e
  desig_selections u s (range_desig opening e dots e2 closing) = expr_selections u s e ++ expr_selections u s e2
  desig_selections u s (old_desig name colon) = []

  -- the selections in the initialiser of a declarator, if it has one
  pub some_init_selections : Spelling → Names → SomeInit → List Selection
  some_init_selections u s no_init = []
  some_init_selections u s (some_init equal init) = init_selections u s init

  -- the selections in the declarators of a declaration
  pub init_declrs_selections : Spelling → Names → InitDeclrs → List Selection
  init_declrs_selections u s no_init_declrs = []
  init_declrs_selections u s (more_init_declrs attrs d asm_label attrs2 init ds) =
      declr_selections u s d ++ (some_init_selections u s init ++ init_declrs_selections u s ds)

  -- the selections in the declarators of such a declaration
  pub old_declrs_selections : Spelling → Names → InitDeclrs → List Selection
  old_declrs_selections u s no_init_declrs = []
  old_declrs_selections u s (more_init_declrs attrs d asm_label attrs2 init ds) =
      declr_selections u s d ++ (some_init_selections u s init ++ old_declrs_selections u s ds)

  -- the selections in a declaration between the parameters of an old function and its body
  pub old_declaration_selections : Spelling → Names → Declaration → List Selection
  old_declaration_selections u s (declaration exts ws ds semi) = words_selections u s ws ++ old_declrs_selections u s ds

  -- the selections in a declaration
  pub declaration_selections : Spelling → Names → Declaration → List Selection
  declaration_selections u s (declaration exts ws ds semi) = words_selections u s ws ++ init_declrs_selections u s ds

  -- the selections in a declaration or an assertion
  pub decl_selections : Spelling → Names → Decl → List Selection
  decl_selections u s (decl_declaration d) = declaration_selections u s d
  decl_selections u s (decl_assert it) = []

  -- the selections in the items of a block
  pub block_items_selections : Spelling → Names → BlockItems → List Selection
  block_items_selections u s no_block_items = []
  block_items_selections u s (more_block_items item items) =
      block_item_selections u s item ++ block_items_selections u s items

  -- the selections in an item of a block
  pub block_item_selections : Spelling → Names → BlockItem → List Selection
  block_item_selections u s (block_decl d) = decl_selections u s d
  block_item_selections u s (block_stmt t) = stmt_selections u s t
  block_item_selections u s (block_labels keyword names semi) = []

  -- the selections in a statement
  pub stmt_selections : Spelling → Names → Stmt → List Selection
  stmt_selections u s (block opening items closing) = block_items_selections u s items
  stmt_selections u s (expr_stmt e semi) = some_expr_selections u s e
  stmt_selections u s (attr_stmt attrs semi) = []
  stmt_selections u s (label name colon attrs t) = stmt_selections u s t
  stmt_selections u s (case_stmt keyword e colon t) = expr_selections u s e ++ stmt_selections u s t
  stmt_selections u s (default_stmt keyword colon t) = stmt_selections u s t
  stmt_selections u s (if_stmt keyword opening e closing t other) =
      expr_selections u s e ++ (stmt_selections u s t ++ some_else_selections u s other)
  stmt_selections u s (switch_stmt keyword opening e closing t) = expr_selections u s e ++ stmt_selections u s t
  stmt_selections u s (while_stmt keyword opening e closing t) = expr_selections u s e ++ stmt_selections u s t
  stmt_selections u s (do_stmt keyword t keyword2 opening e closing semi) =
      stmt_selections u s t ++ expr_selections u s e
  stmt_selections u s (for_stmt keyword opening start e semi e2 closing t) =
      for_start_selections u s start
      ++ (some_expr_selections u s e ++ (some_expr_selections u s e2 ++ stmt_selections u s t))
  stmt_selections u s (goto_stmt keyword name semi) = []
  stmt_selections u s (continue_stmt keyword semi) = []
  stmt_selections u s (break_stmt keyword semi) = []
  stmt_selections u s (return_stmt keyword e semi) = some_expr_selections u s e
  stmt_selections u s (asm_stmt keyword words group semi) = []
  stmt_selections u s (case_range keyword e dots e2 colon t) =
      expr_selections u s e ++ (expr_selections u s e2 ++ stmt_selections u s t)
  stmt_selections u s (goto_value keyword star e semi) = expr_selections u s e

  -- the selections in the `else` of an `if`, if it has one
  pub some_else_selections : Spelling → Names → SomeElse → List Selection
  some_else_selections u s no_else = []
  some_else_selections u s (some_else keyword t) = stmt_selections u s t

  -- the selections in the first part of a `for`
  pub for_start_selections : Spelling → Names → ForStart → List Selection
  for_start_selections u s (start_declaration d) = declaration_selections u s d
  for_start_selections u s (start_value e semi) = some_expr_selections u s e

-- the selections in the declarations behind a list of identifiers
abbrev pub old_declarations_selections : Spelling → Names → List Declaration → List Selection
old_declarations_selections u s [] = []
old_declarations_selections u s (d ∷ ds) = old_declaration_selections u s d ++ old_declarations_selections u s ds

-- the selections in a declarator with a list of identifiers, and in the declarations behind it
abbrev pub old_declr_selections : Spelling → Names → List Declaration → Declr → List Selection
old_declr_selections u s ds (identifiers d opening names closing) =
    declr_selections u s d ++ old_declarations_selections u s ds
old_declr_selections u s ds (pointer star words d) = old_declr_selections u s ds d
old_declr_selections u s ds (declr_paren opening attrs d closing) = old_declr_selections u s ds d
old_declr_selections u s ds (array d opening words size closing) =
    old_declr_selections u s ds d ++ some_size_selections u s size
old_declr_selections u s ds (params d opening ps dots closing) =
    old_declr_selections u s ds d ++ params_selections u s ps
old_declr_selections u s ds (declr_name token name) = declr_selections u s (declr_name token name)
old_declr_selections u s ds (base_name token) = []
old_declr_selections u s ds (abs_pointer star words d) = declr_selections u s (abs_pointer star words d)
old_declr_selections u s ds (abs_paren opening attrs d closing) =
    declr_selections u s (abs_paren opening attrs d closing)
old_declr_selections u s ds (abs_array d opening words size closing) =
    declr_selections u s (abs_array d opening words size closing)
old_declr_selections u s ds (abs_params d opening ps dots closing) =
    declr_selections u s (abs_params d opening ps dots closing)

-- the selections in an item of a unit
abbrev pub item_selections : Spelling → Names → Item → List Selection
item_selections u s (function_item exts ws d attrs opening items closing) =
    words_selections u s ws ++ (declr_selections u s d ++ block_items_selections u s items)
item_selections u s (old_function_item exts ws d attrs ds opening items closing) =
    words_selections u s ws ++ (old_declr_selections u s ds d ++ block_items_selections u s items)
item_selections u s (decl_item d) = decl_selections u s d
item_selections u s (asm_item keyword group semi) = []
item_selections u s (semi_item semi) = []

-- the selections in the items of a unit
abbrev pub items_selections : Spelling → Names → List Item → List Selection
items_selections u s [] = []
items_selections u s (item ∷ items) = item_selections u s item ++ items_selections u s items
