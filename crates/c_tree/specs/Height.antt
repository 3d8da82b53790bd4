-- The height of a tree: how many nodes are on the longest way down from it.
use Rattle.std.specs.Prelude.{ℕ, ◌+◌, max, List, [], ◌∷◌, Option, None, Some}
use Rattle.c_syntax.specs.declared.parts.Attr.{Attr}
use Rattle.c_syntax.specs.declared.parts.PointerWord.{PointerWord}
use Rattle.c_syntax.specs.declared.parts.AsmLabel.{AsmLabel}
use Rattle.c_syntax.specs.declared.parts.PointerWord.TheVariants as pointer_words
use Rattle.c_tree.specs.Tree.{Expr, operation, cast, prefix, sizeof_value, sizeof_type, extension, index, call, dot, arrow, post, compound, name_use, number_use, char_use, text_use, paren, statement_expr, va_arg, va_start, va_copy, offset, Operator, comma, assign, cond, binary, SomeExpr, no_expr, some_expr, Exprs, no_exprs, more_exprs, SpecWords, no_words, more_words, SpecWord, storage, thread, inline_word, noreturn, qualifier, basic, struct_type, enum_type, typedef_name, attribute, SomeBody, no_body, some_body, StructItems, no_struct_items, more_struct_items, StructItem, member, member_semi, member_assert, MemDeclrs, no_mem_declrs, more_mem_declrs, MemDeclr, named, unnamed, SomeValue, no_value, some_value, EnumType, enum_of, SomeEnumBody, no_enum_body, some_enum_body, Enumerators, no_enumerators, more_enumerators, Declr, pointer, declr_name, declr_paren, array, params, abs_pointer, abs_paren, abs_array, abs_params, SomeDeclr, no_declr, some_declr, SomeSize, no_size, some_size, ArraySize, size_value, size_star, Params, no_params, more_params, Init, init_value, init_braced, InitList, init_list, InitItems, no_init_items, more_init_items, Desigs, no_desigs, more_desigs, Desig, member_desig, index_desig, SomeInit, no_init, some_init, InitDeclrs, no_init_declrs, more_init_declrs, Declaration, declaration, Decl, decl_declaration, decl_assert, BlockItems, no_block_items, more_block_items, BlockItem, block_decl, block_stmt, Stmt, block, expr_stmt, attr_stmt, label, case_stmt, default_stmt, if_stmt, switch_stmt, while_stmt, do_stmt, for_stmt, goto_stmt, continue_stmt, break_stmt, return_stmt, asm_stmt, SomeElse, no_else, some_else, ForStart, start_declaration, start_value, complex_part, label_use, compat, choose, generic, Assocs, no_assocs, more_assocs, Assoc, typed_assoc, default_assoc, typeof_value, typeof_type, align, auto_word, identifiers, base_name, range_desig, old_desig, block_labels, case_range, goto_value}

-- an attribute is one level; no attributes are none
abbrev pub attrs_height : List Attr → ℕ
attrs_height [] = 0
attrs_height (a ∷ attrs) = 1

-- of the words behind the `*` of a pointer: an attribute is one level, a qualifier none
abbrev pub pointer_words_height : List PointerWord → ℕ
pointer_words_height [] = 0
pointer_words_height (pointer_words.Qual q ∷ ws) = pointer_words_height ws
pointer_words_height (pointer_words.Attr a ∷ ws) = 1

-- of the `asm` label of a declarator, which is one level where it stands
abbrev pub label_height : Option AsmLabel → ℕ
label_height None = 0
label_height (Some l) = 1

abbrev mutual
  -- an expression is a node above its highest part
  pub expr_height : Expr → ℕ
  expr_height (operation e op token e2) = max (expr_height e) (max (operator_height op) (expr_height e2)) + 1
  expr_height (cast opening ws d closing e) = max (max (specs_height ws) (some_declr_height d) + 1) (expr_height e) + 1
  expr_height (prefix token p e) = expr_height e + 1
  expr_height (sizeof_value word e) = expr_height e + 1
  expr_height (sizeof_type word opening ws d closing) = max (specs_height ws) (some_declr_height d) + 1 + 1
  expr_height (extension keyword e) = expr_height e + 1
  expr_height (index e opening e2 closing) = max (expr_height e) (expr_height e2) + 1
  expr_height (call e opening es closing) = max (expr_height e) (exprs_height es) + 1
  expr_height (dot e token name) = expr_height e + 1
  expr_height (arrow e token name) = expr_height e + 1
  expr_height (post e token p) = expr_height e + 1
  expr_height (compound opening ws d closing list) =
      max (max (specs_height ws) (some_declr_height d) + 1) (init_list_height list) + 1
  expr_height (name_use token name) = 1
  expr_height (number_use token) = 1
  expr_height (char_use token) = 1
  expr_height (text_use texts) = 1
  expr_height (paren opening e closing) = expr_height e + 1
  expr_height (statement_expr opening opening2 items closing closing2) = block_height items + 1
  expr_height (va_arg keyword opening e separator ws d closing) =
      max (expr_height e) (max (specs_height ws) (some_declr_height d) + 1) + 1
  expr_height (va_start keyword opening e separator e2 closing) = max (expr_height e) (expr_height e2) + 1
  expr_height (va_copy keyword opening e separator e2 closing) = max (expr_height e) (expr_height e2) + 1
  expr_height (offset keyword opening ws d separator name steps closing) =
      max (max (specs_height ws) (some_declr_height d) + 1) (steps_height steps) + 1
  expr_height (complex_part keyword e) = expr_height e + 1
  expr_height (label_use token name) = 1
  expr_height (compat keyword opening ws d separator ws2 d2 closing) =
      max (max (specs_height ws) (some_declr_height d) + 1) (max (specs_height ws2) (some_declr_height d2) + 1) + 1
  expr_height (choose keyword opening e separator e2 separator2 e3 closing) =
      max (expr_height e) (max (expr_height e2) (expr_height e3)) + 1
  expr_height (generic keyword opening e xs closing) = max (expr_height e) (assocs_height xs) + 1

  -- of the associations of `_Generic`, the highest
  pub assocs_height : Assocs → ℕ
  assocs_height no_assocs = 0
  assocs_height (more_assocs x xs) = max (assoc_height x) (assocs_height xs)

  -- an association is a node above its type name, which is a node too, and its expression
  pub assoc_height : Assoc → ℕ
  assoc_height (typed_assoc ws d colon e) = max (max (specs_height ws) (some_declr_height d) + 1) (expr_height e) + 1
  assoc_height (default_assoc keyword colon e) = expr_height e + 1

  -- of the middle of `?:`; other operators have no part
  pub operator_height : Operator → ℕ
  operator_height comma = 0
  operator_height (assign p) = 0
  operator_height (cond e colon) = some_expr_height e
  operator_height (binary p) = 0

  -- of an expression that may be left out, which then is no level
  pub some_expr_height : SomeExpr → ℕ
  some_expr_height no_expr = 0
  some_expr_height (some_expr e) = expr_height e

  -- of the arguments of a call, the highest
  pub exprs_height : Exprs → ℕ
  exprs_height no_exprs = 0
  exprs_height (more_exprs e es) = max (expr_height e) (exprs_height es)

  -- specifiers are a node above their words, also without any
  pub specs_height : SpecWords → ℕ
  specs_height no_words = 1
  specs_height (more_words w ws) = max (spec_word_height w + 1) (specs_height ws)

  -- a storage word, a function specifier, a qualifier and a basic type are no node of their own
  pub spec_word_height : SpecWord → ℕ
  spec_word_height (storage word) = 0
  spec_word_height (thread keyword) = 0
  spec_word_height (inline_word keyword) = 0
  spec_word_height (noreturn keyword) = 0
  spec_word_height (qualifier qual) = 0
  spec_word_height (basic word) = 0
  spec_word_height (struct_type word attrs tag body) = max (attrs_height attrs) (some_body_height body) + 1
  spec_word_height (enum_type enum) = enum_type_height enum
  spec_word_height (typedef_name name) = 1
  spec_word_height (attribute attr) = 1
  spec_word_height (typeof_value keyword opening e closing) = expr_height e + 1
  spec_word_height (typeof_type word opening ws d closing) = max (specs_height ws) (some_declr_height d) + 1 + 1
  spec_word_height (align attr) = 1
  -- as high as the name that stands behind it
  spec_word_height (auto_word token) = 1

  -- of the members between braces, which are no node of their own
  pub some_body_height : SomeBody → ℕ
  some_body_height no_body = 0
  some_body_height (some_body opening items closing) = struct_items_height items

  -- of the members of a struct or union, the highest
  pub struct_items_height : StructItems → ℕ
  struct_items_height no_struct_items = 0
  struct_items_height (more_struct_items item items) = max (struct_item_height item) (struct_items_height items)

  -- a member's declaration is a node above its specifiers and declarators
  pub struct_item_height : StructItem → ℕ
  struct_item_height (member exts ws ds semi) = max (specs_height ws) (mem_declrs_height ds) + 1
  struct_item_height (member_semi semi) = 1
  struct_item_height (member_assert it) = 1

  -- of the declarators of a member's declaration, with the attributes before them
  pub mem_declrs_height : MemDeclrs → ℕ
  mem_declrs_height no_mem_declrs = 0
  mem_declrs_height (more_mem_declrs attrs d ds) =
      max (attrs_height attrs) (max (mem_declr_height d) (mem_declrs_height ds))

  -- a member's declarator is a node above its declarator, width and attributes
  pub mem_declr_height : MemDeclr → ℕ
  mem_declr_height (named d width attrs) = max (declr_height d) (max (some_value_height width) (attrs_height attrs)) + 1
  mem_declr_height (unnamed colon e attrs) = max (expr_height e) (attrs_height attrs) + 1

  -- of the value of an enumerator or the width of a bit-field, where one stands
  pub some_value_height : SomeValue → ℕ
  some_value_height no_value = 0
  some_value_height (some_value token e) = expr_height e

  -- an enumeration type is a node above its attributes and enumerators
  pub enum_type_height : EnumType → ℕ
  enum_type_height (enum_of keyword attrs tag body) = max (attrs_height attrs) (some_enum_body_height body) + 1

  -- of the enumerators between braces, which are no node of their own
  pub some_enum_body_height : SomeEnumBody → ℕ
  some_enum_body_height no_enum_body = 0
  some_enum_body_height (some_enum_body opening es last closing) = enumerators_height es

  -- an enumerator is a node above its attributes and value; of several, the highest
  pub enumerators_height : Enumerators → ℕ
  enumerators_height no_enumerators = 0
  enumerators_height (more_enumerators name attrs value es) =
      max (max (attrs_height attrs) (some_value_height value) + 1) (enumerators_height es)

  -- a declarator is a node above its parts; a name alone is one level
  pub declr_height : Declr → ℕ
  declr_height (pointer star words d) = max (pointer_words_height words) (declr_height d) + 1
  declr_height (declr_name token name) = 1
  declr_height (declr_paren opening attrs d closing) = max (attrs_height attrs) (declr_height d) + 1
  declr_height (array d opening words size closing) = max (declr_height d) (some_size_height size) + 1
  declr_height (params d opening ps dots closing) = max (declr_height d) (params_height ps) + 1
  declr_height (abs_pointer star words d) = max (pointer_words_height words) (some_declr_height d) + 1
  declr_height (abs_paren opening attrs d closing) = max (attrs_height attrs) (declr_height d) + 1
  declr_height (abs_array d opening words size closing) = max (some_declr_height d) (some_size_height size) + 1
  declr_height (abs_params d opening ps dots closing) = max (some_declr_height d) (params_height ps) + 1
  declr_height (identifiers d opening names closing) = declr_height d + 1
  declr_height (base_name token) = 1

  -- of a declarator that may be absent
  pub some_declr_height : SomeDeclr → ℕ
  some_declr_height no_declr = 0
  some_declr_height (some_declr d) = declr_height d

  -- of what stands in the brackets of an array declarator
  pub some_size_height : SomeSize → ℕ
  some_size_height no_size = 0
  some_size_height (some_size size) = array_size_height size

  -- of an array size: `*` is no node
  pub array_size_height : ArraySize → ℕ
  array_size_height (size_value e) = expr_height e
  array_size_height (size_star star) = 0

  -- a parameter is a node above its specifiers, declarator and attributes; of several, the highest
  pub params_height : Params → ℕ
  params_height no_params = 0
  params_height (more_params ws d attrs ps) =
      max (max (specs_height ws) (max (some_declr_height d) (attrs_height attrs)) + 1) (params_height ps)

  -- an initialiser is as high as its expression or its list
  pub init_height : Init → ℕ
  init_height (init_value e) = expr_height e
  init_height (init_braced list) = init_list_height list

  -- a braced list is a node above its items
  pub init_list_height : InitList → ℕ
  init_list_height (init_list opening items last closing) = init_items_height items + 1

  -- an item is a node above its designators and initialiser; of several, the highest
  pub init_items_height : InitItems → ℕ
  init_items_height no_init_items = 0
  init_items_height (more_init_items ds equal init items) =
      max (max (desigs_height ds) (init_height init) + 1) (init_items_height items)

  -- of the designators of an item, the highest
  pub desigs_height : Desigs → ℕ
  desigs_height no_desigs = 0
  desigs_height (more_desigs d ds) = max (desig_height d) (desigs_height ds)

  -- of the steps of an offset, which are no nodes
  pub steps_height : Desigs → ℕ
  steps_height no_desigs = 0
  steps_height (more_desigs d ds) = max (step_height d) (steps_height ds)

  -- of the expression of an index in `__builtin_offsetof`; a member is no level
  pub step_height : Desig → ℕ
  step_height (member_desig token name) = 0
  step_height (index_desig opening e closing) = expr_height e
  step_height (range_desig opening e dots e2 closing) = max (expr_height e) (expr_height e2)
  step_height (old_desig name colon) = 0

  -- a designator is a node above its expressions
  pub desig_height : Desig → ℕ
  desig_height (member_desig token name) = 1
  desig_height (index_desig opening e closing) = expr_height e + 1
  desig_height (range_desig opening e dots e2 closing) = max (expr_height e) (expr_height e2) + 1
  desig_height (old_desig name colon) = 1

  -- of the initialiser of a declarator, where one stands
  pub some_init_height : SomeInit → ℕ
  some_init_height no_init = 0
  some_init_height (some_init equal init) = init_height init

  -- an init-declarator is a node above its declarator, label, attributes and initialiser; of several, the highest
  pub init_declrs_height : InitDeclrs → ℕ
  init_declrs_height no_init_declrs = 0
  init_declrs_height (more_init_declrs attrs d asm_label attrs2 init ds) =
      max (max (attrs_height attrs) (max (declr_height d)
      (max (label_height asm_label) (max (attrs_height attrs2) (some_init_height init)))) + 1) (init_declrs_height ds)

  -- a declaration is a node above its specifiers and declarators
  pub declaration_height : Declaration → ℕ
  declaration_height (declaration exts ws ds semi) = max (specs_height ws) (init_declrs_height ds) + 1

  -- a `_Static_assert` is one level, since its group is not read
  pub decl_height : Decl → ℕ
  decl_height (decl_declaration d) = declaration_height d
  decl_height (decl_assert it) = 1

  -- a block is a node above its items, also without any
  pub block_height : BlockItems → ℕ
  block_height no_block_items = 1
  block_height (more_block_items item items) = max (block_item_height item + 1) (block_height items)

  -- an item of a block is as high as its declaration or statement
  pub block_item_height : BlockItem → ℕ
  block_item_height (block_decl d) = decl_height d
  block_item_height (block_stmt s) = stmt_height s
  block_item_height (block_labels keyword names semi) = 1

  -- a statement is a node above its highest part; a block is one by itself
  pub stmt_height : Stmt → ℕ
  stmt_height (block opening items closing) = block_height items
  stmt_height (expr_stmt e semi) = some_expr_height e + 1
  stmt_height (attr_stmt attrs semi) = attrs_height attrs + 1
  stmt_height (label name colon attrs s) = max (attrs_height attrs) (stmt_height s) + 1
  stmt_height (case_stmt keyword e colon s) = max (expr_height e) (stmt_height s) + 1
  stmt_height (default_stmt keyword colon s) = stmt_height s + 1
  stmt_height (if_stmt keyword opening e closing s other) =
      max (expr_height e) (max (stmt_height s) (some_else_height other)) + 1
  stmt_height (switch_stmt keyword opening e closing s) = max (expr_height e) (stmt_height s) + 1
  stmt_height (while_stmt keyword opening e closing s) = max (expr_height e) (stmt_height s) + 1
  stmt_height (do_stmt keyword s keyword2 opening e closing semi) = max (stmt_height s) (expr_height e) + 1
  stmt_height (for_stmt keyword opening start e semi e2 closing s) =
      max (for_start_height start) (max (some_expr_height e) (max (some_expr_height e2) (stmt_height s))) + 1
  stmt_height (goto_stmt keyword name semi) = 1
  stmt_height (continue_stmt keyword semi) = 1
  stmt_height (break_stmt keyword semi) = 1
  stmt_height (return_stmt keyword e semi) = some_expr_height e + 1
  stmt_height (asm_stmt keyword words group semi) = 1
  stmt_height (case_range keyword e dots e2 colon s) = max (max (expr_height e) (expr_height e2)) (stmt_height s) + 1
  stmt_height (goto_value keyword star e semi) = expr_height e + 1

  -- of the statement behind `else`, where one stands
  pub some_else_height : SomeElse → ℕ
  some_else_height no_else = 0
  some_else_height (some_else keyword s) = stmt_height s

  -- of the first clause of a `for`
  pub for_start_height : ForStart → ℕ
  for_start_height (start_declaration d) = declaration_height d
  for_start_height (start_value e semi) = some_expr_height e
