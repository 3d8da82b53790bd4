-- Where skeletons begin: at each declared name and at each expression that has a fresh one, in the order of the text.
-- What is the size of an array, the width of a member, the value of an enumerator, a case label, an index of a
-- designator, or an operand of `sizeof` or `offsetof` gives no fresh skeleton and no site; names that are declared in
-- it have theirs.
use Rattle.std.specs.Prelude.{ℕ, Bool, true, false, ◌&&◌, not, List, [], ◌∷◌, ◌++◌, Option, None, Some}
use Rattle.c_tree.specs.Tree.{Expr, operation, cast, prefix, sizeof_value, sizeof_type, extension, index, call, dot, arrow, post, compound, name_use, number_use, char_use, text_use, paren, statement_expr, va_arg, va_start, va_copy, offset, comma, assign, cond, binary, SomeExpr, no_expr, some_expr, Exprs, no_exprs, more_exprs, SpecWords, no_words, more_words, SpecWord, storage, thread, inline_word, noreturn, qualifier, basic, struct_type, enum_type, typedef_name, attribute, SomeBody, no_body, some_body, StructItems, no_struct_items, more_struct_items, StructItem, member, member_semi, member_assert, MemDeclrs, no_mem_declrs, more_mem_declrs, MemDeclr, named, unnamed, SomeValue, no_value, some_value, EnumType, enum_of, no_enum_body, some_enum_body, Enumerators, no_enumerators, more_enumerators, Declr, pointer, declr_name, declr_paren, array, params, abs_pointer, abs_paren, abs_array, abs_params, SomeDeclr, no_declr, some_declr, SomeSize, no_size, some_size, ArraySize, size_value, size_star, Params, no_params, more_params, Init, init_value, init_braced, InitList, init_list, InitItems, no_init_items, more_init_items, Desigs, no_desigs, more_desigs, Desig, member_desig, index_desig, SomeInit, no_init, some_init, InitDeclrs, no_init_declrs, more_init_declrs, Declaration, declaration, Decl, decl_declaration, decl_assert, BlockItems, no_block_items, more_block_items, BlockItem, block_decl, block_stmt, Stmt, block, expr_stmt, attr_stmt, label, case_stmt, default_stmt, if_stmt, switch_stmt, while_stmt, do_stmt, for_stmt, goto_stmt, continue_stmt, break_stmt, return_stmt, asm_stmt, SomeElse, no_else, some_else, ForStart, start_declaration, start_value, typeof_value, typeof_type, align, auto_word, complex_part, label_use, compat, choose, generic, range_desig, old_desig, case_range, goto_value, block_labels, identifiers, base_name, Assocs, no_assocs, more_assocs, Assoc, typed_assoc, default_assoc}
use Rattle.c_tree.specs.Unit.{Item, function_item, decl_item, asm_item, semi_item, old_function_item}
use Rattle.c_tree.specs.Ends.{first_text}
use Rattle.type_table.specs.Types.{CType, base, void, pointer}
use Rattle.name_rules.specs.Spellings.{Place, Spelling, place}
use Rattle.name_rules.specs.Scopes.{Names}
use Rattle.name_rules.specs.Values.{value, Candidate, is_fresh_pick, pick_shape}
use Rattle.name_rules.specs.Uses.{use_at, type_named_at, text_type}
use Rattle.c_tree.specs.Firsts.{first_word}
use Rattle.type_rules.specs.Tokens.{declared_name, is_bare}
use Rattle.type_rules.specs.Shapes.{is_zero, shape_of, candidate_of, associations_of}
use Rattle.row_rules.specs.Starting.{Around, Having, Start, declared_function, fresh, fresh_where, had_name, having_where, is_fresh_binary, is_some_pointer, name_start, quiet, some_fresh, some_place, use_start, of_function, with_skeleton, without_skeleton, prefix_starts, selected_by}
use Rattle.c_tree.specs.Addresses.{comes_by_pointer}

-- the type of the type's name that begins with these specifiers
abbrev pub type_at : Around → SpecWords → Option CType
type_at a ws = type_named_at a.names.type_names (place a.spelling (first_word ws))

-- a struct or union without a tag that a member is made of
abbrev pub unnamed_start : Around → SpecWord → List Start
unnamed_start a (struct_type word attrs None body) = name_start a word.token
unnamed_start a (struct_type word attrs (Some tag) body) = []
unnamed_start a (storage word) = []
unnamed_start a (thread token) = []
unnamed_start a (inline_word token) = []
unnamed_start a (noreturn token) = []
unnamed_start a (qualifier q) = []
unnamed_start a (basic word) = []
unnamed_start a (enum_type e) = []
unnamed_start a (typedef_name name) = []
unnamed_start a (attribute attr) = []
unnamed_start a (typeof_value keyword opening e closing) = []
unnamed_start a (typeof_type word opening ws d closing) = []
unnamed_start a (align attr) = []
unnamed_start a (auto_word token) = []

-- what begins at a pick: a value of its own where several candidates are left
abbrev pub pick_starts : Around → ℕ → List Candidate → List Start
pick_starts a token all = fresh_where (is_fresh_pick all) (some_fresh a token (pick_shape all).type)

-- what begins at a member without a name, by the specifiers that it consists of
abbrev pub unnamed_starts : Around → SpecWords → List Start
unnamed_starts a no_words = []
unnamed_starts a (more_words word ws) = unnamed_start a word ++ unnamed_starts a ws

abbrev mutual
  -- the skeletons that begin in an expression
  pub expr_starts : Around → Expr → List Start
  expr_starts a (operation e comma token e2) = expr_starts a e ++ expr_starts a e2
  expr_starts a (operation e (assign p) token e2) = expr_starts a e ++ expr_starts a e2
  expr_starts a (operation e (cond no_expr colon) token e2) = expr_starts a e ++ (expr_starts a e2
      ++ fresh_where (not (is_zero a.spelling a.names e) && not (is_zero a.spelling a.names e2))
      (some_fresh a token (shape_of a.spelling a.names (operation e (cond no_expr colon) token e2)).type))
  expr_starts a (operation e (cond (some_expr m) colon) token e2) =
      expr_starts a e ++ (expr_starts a m ++ (expr_starts a e2
      ++ fresh_where (not (is_zero a.spelling a.names m) && not (is_zero a.spelling a.names e2))
      (some_fresh a token (shape_of a.spelling a.names (operation e (cond (some_expr m) colon) token e2)).type)))
  expr_starts a (operation e (binary p) token e2) = expr_starts a e ++ (expr_starts a e2
      ++ fresh_where (is_fresh_binary p (is_some_pointer (value (shape_of a.spelling a.names e)))
      (is_some_pointer (value (shape_of a.spelling a.names e2)))) (fresh a token (base [])))
  expr_starts a (cast opening ws d closing e) =
      words_starts a ws
      ++ (some_declr_starts a with_skeleton d ++ (expr_starts a e ++ some_fresh a opening (type_at a ws)))
  expr_starts a (prefix token p e) =
      expr_starts a e ++ prefix_starts p (comes_by_pointer false e && a.access) a token (shape_of a.spelling a.names e)
  expr_starts a (sizeof_value word e) = expr_starts (quiet a) e ++ fresh a word.token (base [])
  expr_starts a (sizeof_type word opening ws d closing) =
      words_starts (quiet a) ws ++ (some_declr_starts (quiet a) with_skeleton d ++ fresh a word.token (base []))
  expr_starts a (extension keyword e) = expr_starts a e
  expr_starts a (index e opening e2 closing) = expr_starts a e ++ expr_starts a e2
  expr_starts a (call e opening es closing) = expr_starts a e ++ exprs_starts a es
  expr_starts a (dot e token name) = expr_starts a e
  expr_starts a (arrow e token name) = expr_starts a e
  expr_starts a (post e token p) = expr_starts a e
  expr_starts a (compound opening ws d closing list) =
      words_starts a ws ++ (some_declr_starts a with_skeleton d
      ++ (init_list_starts a list ++ some_fresh a opening (some_place (type_at a ws))))
  expr_starts a (name_use token name) = use_start a token (use_at a.names.uses (place a.spelling token))
  expr_starts a (number_use token) = fresh a token (base [])
  expr_starts a (char_use token) = fresh a token (base [])
  expr_starts a (text_use texts) = fresh a (first_text texts) (pointer [] text_type)
  expr_starts a (paren opening e closing) = expr_starts a e
  expr_starts a (statement_expr opening opening2 items closing closing2) =
      block_items_starts a items ++ fresh_where (not (ends_in_value items)) (fresh a opening (void []))
  expr_starts a (va_arg keyword opening e separator ws d closing) =
      expr_starts a e
      ++ (words_starts a ws ++ (some_declr_starts a with_skeleton d ++ some_fresh a keyword (type_at a ws)))
  expr_starts a (va_start keyword opening e separator e2 closing) =
      expr_starts a e ++ (expr_starts a e2 ++ fresh a keyword (void []))
  expr_starts a (va_copy keyword opening e separator e2 closing) =
      expr_starts a e ++ (expr_starts a e2 ++ fresh a keyword (void []))
  expr_starts a (offset keyword opening ws d separator name steps closing) =
      words_starts (quiet a) ws
      ++ (some_declr_starts (quiet a) with_skeleton d ++ (desigs_starts a steps ++ fresh a keyword (base [])))
  expr_starts a (complex_part keyword e) = expr_starts a e
  expr_starts a (label_use token name) = fresh a token (pointer [] (void []))
  expr_starts a (compat keyword opening ws d separator ws2 d2 closing) =
      words_starts (quiet a) ws ++ (some_declr_starts (quiet a) with_skeleton d ++ (words_starts (quiet a) ws2
      ++ (some_declr_starts (quiet a) with_skeleton d2 ++ fresh a keyword (base []))))
  expr_starts a (choose keyword opening e separator e2 separator2 e3 closing) =
      expr_starts (quiet a) e ++ (expr_starts a e2 ++ (expr_starts a e3
      ++ pick_starts a keyword (candidate_of a.spelling a.names e2 ∷ candidate_of a.spelling a.names e3 ∷ [])))
  expr_starts a (generic keyword opening e xs closing) =
      expr_starts (quiet a) e ++ (assocs_starts a xs
      ++ pick_starts a keyword
      (selected_by (value (shape_of a.spelling a.names e)) (associations_of a.spelling a.names xs)))

  -- the skeletons that begin in the associations of a `_Generic`
  pub assocs_starts : Around → Assocs → List Start
  assocs_starts a no_assocs = []
  assocs_starts a (more_assocs x xs) = assoc_starts a x ++ assocs_starts a xs

  -- the skeletons that begin in an association of a `_Generic`
  pub assoc_starts : Around → Assoc → List Start
  assoc_starts a (typed_assoc ws d colon e) =
      words_starts a ws ++ (some_declr_starts a with_skeleton d ++ expr_starts a e)
  assoc_starts a (default_assoc keyword colon e) = expr_starts a e

  -- whether the value of a statement expression is that of its last item
  pub ends_in_value : BlockItems → Bool
  ends_in_value no_block_items = false
  ends_in_value (more_block_items item no_block_items) = is_value item
  ends_in_value (more_block_items item (more_block_items item2 items)) = ends_in_value (more_block_items item2 items)

  -- whether an item of a block leaves the value of an expression
  pub is_value : BlockItem → Bool
  is_value (block_decl d) = false
  is_value (block_stmt t) = is_value_stmt t
  is_value (block_labels keyword names semi) = false

  -- whether a statement leaves the value of an expression
  pub is_value_stmt : Stmt → Bool
  is_value_stmt (expr_stmt (some_expr e) semi) = true
  is_value_stmt t = false

  -- the skeletons that begin in an expression that may be left out
  pub some_expr_starts : Around → SomeExpr → List Start
  some_expr_starts a no_expr = []
  some_expr_starts a (some_expr e) = expr_starts a e

  -- the skeletons that begin in arguments
  pub exprs_starts : Around → Exprs → List Start
  exprs_starts a no_exprs = []
  exprs_starts a (more_exprs e es) = expr_starts a e ++ exprs_starts a es

  -- the skeletons that begin in the words of specifiers
  pub words_starts : Around → SpecWords → List Start
  words_starts a no_words = []
  words_starts a (more_words word words) = word_starts a word ++ words_starts a words

  -- the skeletons that begin in a word of specifiers
  pub word_starts : Around → SpecWord → List Start
  word_starts a (storage word) = []
  word_starts a (thread token) = []
  word_starts a (inline_word token) = []
  word_starts a (noreturn token) = []
  word_starts a (qualifier q) = []
  word_starts a (basic word) = []
  word_starts a (struct_type word attrs tag body) = some_body_starts a body
  word_starts a (enum_type e) = enum_starts a e
  word_starts a (typedef_name name) = []
  word_starts a (attribute attr) = []
  word_starts a (typeof_value keyword opening e closing) = expr_starts (quiet a) e
  word_starts a (typeof_type word opening ws d closing) = words_starts a ws ++ some_declr_starts a with_skeleton d
  word_starts a (align attr) = []
  word_starts a (auto_word token) = []

  -- the skeletons that begin in the body of a struct or union, if it has one
  pub some_body_starts : Around → SomeBody → List Start
  some_body_starts a no_body = []
  some_body_starts a (some_body opening items closing) = struct_items_starts a items

  -- the skeletons that begin in the items of a struct's body
  pub struct_items_starts : Around → StructItems → List Start
  struct_items_starts a no_struct_items = []
  struct_items_starts a (more_struct_items item items) = struct_item_starts a item ++ struct_items_starts a items

  -- the skeletons that begin in an item of a struct's body
  pub struct_item_starts : Around → StructItem → List Start
  struct_item_starts a (member exts ws ds semi) = words_starts a ws ++ members_starts a ws ds
  struct_item_starts a (member_semi semi) = []
  struct_item_starts a (member_assert it) = []

  -- the skeletons that begin in the members that one item of a body declares
  pub members_starts : Around → SpecWords → MemDeclrs → List Start
  members_starts a ws no_mem_declrs = unnamed_starts a ws
  members_starts a ws (more_mem_declrs attrs d ds) = mem_declr_starts a d ++ mem_declrs_starts a ds

  -- the skeletons that begin in the declarators of members
  pub mem_declrs_starts : Around → MemDeclrs → List Start
  mem_declrs_starts a no_mem_declrs = []
  mem_declrs_starts a (more_mem_declrs attrs d ds) = mem_declr_starts a d ++ mem_declrs_starts a ds

  -- the skeletons that begin in the declarator of a member
  pub mem_declr_starts : Around → MemDeclr → List Start
  mem_declr_starts a (named d width attrs) =
      declr_starts a with_skeleton without_skeleton d ++ some_value_starts a width
  mem_declr_starts a (unnamed colon e attrs) = expr_starts (quiet a) e

  -- the skeletons that begin in the value of an enumerator, if it has one
  pub some_value_starts : Around → SomeValue → List Start
  some_value_starts a no_value = []
  some_value_starts a (some_value token e) = expr_starts (quiet a) e

  -- the skeletons that begin in an enumeration
  pub enum_starts : Around → EnumType → List Start
  enum_starts a (enum_of keyword attrs tag no_enum_body) = []
  enum_starts a (enum_of keyword attrs tag (some_enum_body opening es last closing)) = enumerators_starts a es

  -- the skeletons that begin in enumerators
  pub enumerators_starts : Around → Enumerators → List Start
  enumerators_starts a no_enumerators = []
  enumerators_starts a (more_enumerators name attrs number es) = some_value_starts a number ++ enumerators_starts a es

  -- a declarator, whose name has a skeleton or none; `own`: what the parameters directly around the name have
  pub declr_starts : Around → Having → Having → Declr → List Start
  declr_starts a h own (pointer star words d) = declr_starts a h own d
  declr_starts a h own (declr_name token name) = had_name h a token
  declr_starts a h own (declr_paren opening attrs d closing) = declr_starts a h own d
  declr_starts a h own (array d opening words size closing) = declr_starts a h own d ++ some_size_starts a size
  declr_starts a h own (params d opening ps dots closing) =
      declr_starts a h own d ++ params_starts a (having_where (is_bare d) own) ps
  declr_starts a h own (abs_pointer star words d) = some_declr_starts a h d
  declr_starts a h own (abs_paren opening attrs d closing) = declr_starts a h own d
  declr_starts a h own (abs_array d opening words size closing) = some_declr_starts a h d ++ some_size_starts a size
  declr_starts a h own (abs_params d opening ps dots closing) =
      some_declr_starts a h d ++ params_starts a without_skeleton ps
  declr_starts a h own (identifiers d opening names closing) = declr_starts a h own d
  declr_starts a h own (base_name token) = []

  -- of a type name too, whose declarator has no name
  pub some_declr_starts : Around → Having → SomeDeclr → List Start
  some_declr_starts a h no_declr = []
  some_declr_starts a h (some_declr d) = declr_starts a h without_skeleton d

  -- the skeletons that begin in the size of an array, if it has one
  pub some_size_starts : Around → SomeSize → List Start
  some_size_starts a no_size = []
  some_size_starts a (some_size size) = array_size_starts a size

  -- the skeletons that begin in the size of an array
  pub array_size_starts : Around → ArraySize → List Start
  array_size_starts a (size_value e) = expr_starts (quiet a) e
  array_size_starts a (size_star star) = []

  -- the skeletons that begin in parameters
  pub params_starts : Around → Having → Params → List Start
  params_starts a h no_params = []
  params_starts a h (more_params ws d attrs ps) = words_starts a ws ++ (some_declr_starts a h d ++ params_starts a h ps)

  -- the skeletons that begin in an initialiser
  pub init_starts : Around → Init → List Start
  init_starts a (init_value e) = expr_starts a e
  init_starts a (init_braced list) = init_list_starts a list

  -- the skeletons that begin in a list in braces
  pub init_list_starts : Around → InitList → List Start
  init_list_starts a (init_list opening items last closing) = init_items_starts a items

  -- the skeletons that begin in the items of a list in braces
  pub init_items_starts : Around → InitItems → List Start
  init_items_starts a no_init_items = []
  init_items_starts a (more_init_items ds equal init items) =
      desigs_starts a ds ++ (init_starts a init ++ init_items_starts a items)

  -- the skeletons that begin in designators
  pub desigs_starts : Around → Desigs → List Start
  desigs_starts a no_desigs = []
  desigs_starts a (more_desigs d ds) = desig_starts a d ++ desigs_starts a ds

  -- the skeletons that begin in a designator
  pub desig_starts : Around → Desig → List Start
  desig_starts a (member_desig token name) = []
  desig_starts a (index_desig opening e closing) = expr_starts (quiet a) e
  desig_starts a (range_desig opening e dots e2 closing) = expr_starts (quiet a) e ++ expr_starts (quiet a) e2
  desig_starts a (old_desig name colon) = []

  -- the skeletons that begin in the initialiser of a declarator, if it has one
  pub some_init_starts : Around → SomeInit → List Start
  some_init_starts a no_init = []
  some_init_starts a (some_init equal init) = init_starts a init

  -- the skeletons that begin in the declarators of a declaration
  pub init_declrs_starts : Around → InitDeclrs → List Start
  init_declrs_starts a no_init_declrs = []
  init_declrs_starts a (more_init_declrs attrs d asm_label attrs2 init ds) =
      declr_starts a with_skeleton without_skeleton d ++ (some_init_starts a init ++ init_declrs_starts a ds)

  -- of the declarations behind a list of identifiers: the names are parameters of the function
  pub old_declrs_starts : Around → Having → InitDeclrs → List Start
  old_declrs_starts a h no_init_declrs = []
  old_declrs_starts a h (more_init_declrs attrs d asm_label attrs2 init ds) =
      declr_starts a h without_skeleton d ++ (some_init_starts a init ++ old_declrs_starts a h ds)

  -- the skeletons that begin in a declaration between the parameters of an old function and its body
  pub old_declaration_starts : Around → Having → Declaration → List Start
  old_declaration_starts a h (declaration exts ws ds semi) = words_starts a ws ++ old_declrs_starts a h ds

  -- the skeletons that begin in a declaration
  pub declaration_starts : Around → Declaration → List Start
  declaration_starts a (declaration exts ws ds semi) = words_starts a ws ++ init_declrs_starts a ds

  -- the skeletons that begin in a declaration or an assertion
  pub decl_starts : Around → Decl → List Start
  decl_starts a (decl_declaration d) = declaration_starts a d
  decl_starts a (decl_assert it) = []

  -- the skeletons that begin in the items of a block
  pub block_items_starts : Around → BlockItems → List Start
  block_items_starts a no_block_items = []
  block_items_starts a (more_block_items item items) = block_item_starts a item ++ block_items_starts a items

  -- the skeletons that begin in an item of a block
  pub block_item_starts : Around → BlockItem → List Start
  block_item_starts a (block_decl d) = decl_starts a d
  block_item_starts a (block_stmt t) = stmt_starts a t
  block_item_starts a (block_labels keyword names semi) = []

  -- the skeletons that begin in a statement
  pub stmt_starts : Around → Stmt → List Start
  stmt_starts a (block opening items closing) = block_items_starts a items
  stmt_starts a (expr_stmt e semi) = some_expr_starts a e
  stmt_starts a (attr_stmt attrs semi) = []
  stmt_starts a (label name colon attrs t) = stmt_starts a t
  stmt_starts a (case_stmt keyword e colon t) = expr_starts (quiet a) e ++ stmt_starts a t
  stmt_starts a (default_stmt keyword colon t) = stmt_starts a t
  stmt_starts a (if_stmt keyword opening e closing t other) =
      expr_starts a e ++ (stmt_starts a t ++ some_else_starts a other)
  stmt_starts a (switch_stmt keyword opening e closing t) = expr_starts a e ++ stmt_starts a t
  stmt_starts a (while_stmt keyword opening e closing t) = expr_starts a e ++ stmt_starts a t
  stmt_starts a (do_stmt keyword t keyword2 opening e closing semi) = stmt_starts a t ++ expr_starts a e
  stmt_starts a (for_stmt keyword opening start e semi e2 closing t) =
      for_start_starts a start ++ (some_expr_starts a e ++ (some_expr_starts a e2 ++ stmt_starts a t))
  stmt_starts a (goto_stmt keyword name semi) = []
  stmt_starts a (continue_stmt keyword semi) = []
  stmt_starts a (break_stmt keyword semi) = []
  stmt_starts a (return_stmt keyword e semi) = some_expr_starts a e
  stmt_starts a (asm_stmt keyword words group semi) = []
  stmt_starts a (case_range keyword e dots e2 colon t) =
      expr_starts (quiet a) e ++ (expr_starts (quiet a) e2 ++ stmt_starts a t)
  stmt_starts a (goto_value keyword star e semi) = expr_starts a e

  -- the skeletons that begin in the `else` of an `if`, if it has one
  pub some_else_starts : Around → SomeElse → List Start
  some_else_starts a no_else = []
  some_else_starts a (some_else keyword t) = stmt_starts a t

  -- the skeletons that begin in the first part of a `for`
  pub for_start_starts : Around → ForStart → List Start
  for_start_starts a (start_declaration d) = declaration_starts a d
  for_start_starts a (start_value e semi) = some_expr_starts a e

-- what is around in a function, or at file scope, where a fresh skeleton belongs to nobody
abbrev pub around_in : Bool → Spelling → Names → Option Place → Around
around_in access u s f = record { spelling = u; names = s; enclosing = f; is_quiet = false; access = access }

-- the skeletons that begin in the declarations behind a list of identifiers
abbrev pub old_declarations_starts : Around → Having → List Declaration → List Start
old_declarations_starts a h [] = []
old_declarations_starts a h (d ∷ ds) = old_declaration_starts a h d ++ old_declarations_starts a h ds

-- a declarator with a list of identifiers: the declarations behind it stand where those of parameters do
abbrev pub old_declr_starts : Around → Having → List Declaration → Declr → List Start
old_declr_starts a own ds (identifiers d opening names closing) =
    declr_starts a with_skeleton without_skeleton d ++ old_declarations_starts a own ds
old_declr_starts a own ds (pointer star words d) = old_declr_starts a own ds d
old_declr_starts a own ds (declr_paren opening attrs d closing) = old_declr_starts a own ds d
old_declr_starts a own ds (array d opening words size closing) = old_declr_starts a own ds d ++ some_size_starts a size
old_declr_starts a own ds (params d opening ps dots closing) =
    old_declr_starts a own ds d ++ params_starts a without_skeleton ps
old_declr_starts a own ds (declr_name token name) =
    declr_starts a with_skeleton without_skeleton (declr_name token name)
old_declr_starts a own ds (base_name token) = []
old_declr_starts a own ds (abs_pointer star words d) =
    declr_starts a with_skeleton without_skeleton (abs_pointer star words d)
old_declr_starts a own ds (abs_paren opening attrs d closing) =
    declr_starts a with_skeleton without_skeleton (abs_paren opening attrs d closing)
old_declr_starts a own ds (abs_array d opening words size closing) =
    declr_starts a with_skeleton without_skeleton (abs_array d opening words size closing)
old_declr_starts a own ds (abs_params d opening ps dots closing) =
    declr_starts a with_skeleton without_skeleton (abs_params d opening ps dots closing)

-- the skeletons that begin in an item of a unit; `access`: whether some lattice bounds accesses
abbrev pub item_starts : Bool → Spelling → Names → Item → List Start
item_starts access u s (function_item exts ws d attrs opening items closing) =
    words_starts (around_in access u s None) ws
    ++ (declr_starts (around_in access u s None) with_skeleton (of_function (declared_function u s (declared_name d))) d
    ++ block_items_starts (around_in access u s (declared_function u s (declared_name d))) items)
item_starts access u s (old_function_item exts ws d attrs ds opening items closing) =
    words_starts (around_in access u s None) ws
    ++ (old_declr_starts (around_in access u s None) (of_function (declared_function u s (declared_name d))) ds d
    ++ block_items_starts (around_in access u s (declared_function u s (declared_name d))) items)
item_starts access u s (decl_item d) = decl_starts (around_in access u s None) d
item_starts access u s (asm_item keyword group semi) = []
item_starts access u s (semi_item semi) = []

-- the skeletons that begin in the items of a unit
abbrev pub items_starts : Bool → Spelling → Names → List Item → List Start
items_starts access u s [] = []
items_starts access u s (item ∷ items) = item_starts access u s item ++ items_starts access u s items
