-- The scopes of ordinary names at each place of a tree (C99, 6.2.1), said on the tree: for each part, the scopes behind
-- it by those before it, or none where a name in it has not the kind that its place wants. The parts of a form are
-- gone through in the order of its text.
--
-- A name's scope begins behind its declarator, an enumerator's behind its value. Parameters, blocks, the statements
-- that choose and repeat and each direct part of these have scopes of their own (C99, 6.8.4 and 6.8.5); the parameters
-- of a function are in the scope of its body (6.9.1), with the enumerators that stand among them. A typedef holds from
-- there on; a later one of the same name in its scope changes nothing. Labels, tags and members are no ordinary names.
use Rattle.std.specs.Prelude.{ℕ, Bool, true, false, ◌&&◌, not, List, [], ◌∷◌, Option, None, Some, if◌then◌else◌}
use Rattle.c_words.specs.declared.kinds.Keyword.{Keyword}
use Rattle.c_words.specs.declared.kinds.Keyword.TheVariants.{Typedef as TypedefWord}
use Rattle.c_tree.specs.Tree.{Expr, operation, cast, prefix, sizeof_value, sizeof_type, extension, index, call, dot, arrow, post, compound, name_use, number_use, char_use, text_use, paren, statement_expr, va_arg, va_start, va_copy, offset, Operator, comma, assign, cond, binary, SomeExpr, no_expr, some_expr, Exprs, no_exprs, more_exprs, SpecWords, no_words, more_words, SpecWord, storage, thread, inline_word, noreturn, qualifier, basic, struct_type, enum_type, typedef_name, attribute, SomeBody, no_body, some_body, StructItems, no_struct_items, more_struct_items, StructItem, member, member_semi, member_assert, MemDeclrs, no_mem_declrs, more_mem_declrs, MemDeclr, named, unnamed, SomeValue, no_value, some_value, EnumType, enum_of, SomeEnumBody, no_enum_body, some_enum_body, Enumerators, no_enumerators, more_enumerators, Declr, pointer, declr_name, declr_paren, array, params, abs_pointer, abs_paren, abs_array, abs_params, SomeDeclr, no_declr, some_declr, SomeSize, no_size, some_size, ArraySize, size_value, size_star, Params, no_params, more_params, Init, init_value, init_braced, InitList, init_list, InitItems, no_init_items, more_init_items, Desigs, no_desigs, more_desigs, Desig, member_desig, index_desig, SomeInit, no_init, some_init, InitDeclrs, no_init_declrs, more_init_declrs, Declaration, declaration, Decl, decl_declaration, decl_assert, BlockItems, no_block_items, more_block_items, BlockItem, block_decl, block_stmt, Stmt, block, expr_stmt, attr_stmt, label, case_stmt, default_stmt, if_stmt, switch_stmt, while_stmt, do_stmt, for_stmt, goto_stmt, continue_stmt, break_stmt, return_stmt, asm_stmt, SomeElse, no_else, some_else, ForStart, start_declaration, start_value, identifiers, base_name, complex_part, label_use, compat, choose, generic, Assocs, no_assocs, more_assocs, Assoc, typed_assoc, default_assoc, typeof_value, typeof_type, align, auto_word, range_desig, old_desig, block_labels, case_range, goto_value}
use Rattle.c_tree.specs.Specifiers.{storage_words}
use Rattle.typedef_scope.specs.declared.kind.Kind.{Kind}
use Rattle.typedef_scope.specs.declared.kind.Kind.TheVariants.{Typedef, Value, Constant}
use Rattle.c_units.specs.HeldScopes.{HeldScopes, names_type, enter, leave, hold, release, declare, is_wide, is_typedef}
use Rattle.c_tree.specs.WellFormed.{has_auto}
use Rattle.c_syntax.specs.declared.parts.Identifier.{Identifier}

-- what a later part makes of the scopes behind an earlier one
abbrev pub behind : Option HeldScopes → (HeldScopes → Option HeldScopes) → Option HeldScopes
behind None next = None
behind (Some scopes) next = next scopes

-- a part in a scope of its own
abbrev pub in_own_scope : (HeldScopes → Option HeldScopes) → HeldScopes → Option HeldScopes
in_own_scope part scopes = behind (part (enter scopes)) (λ inner. Some (leave inner))

-- the scopes, where a test holds
abbrev pub where_true : Bool → HeldScopes → Option HeldScopes
where_true true scopes = Some scopes
where_true false scopes = None

-- whether a keyword is `typedef`
abbrev pub is_typedef_word : Keyword → Bool
is_typedef_word TypedefWord = true
is_typedef_word word = false

-- whether `typedef` is among storage words
abbrev pub has_typedef_word : List Keyword → Bool
has_typedef_word [] = false
has_typedef_word (word ∷ words) = if is_typedef_word word then true else has_typedef_word words

-- the kind of the names of a declaration
abbrev pub declared_kind : SpecWords → Kind
declared_kind ws = if has_typedef_word (storage_words ws) then Typedef else Value

-- the scopes at the name of a declarator: it is held where a kind is wanted; a member's declarator wants none
abbrev pub at_name : Option Kind → ℕ → HeldScopes → Option HeldScopes
at_name None name scopes = Some scopes
at_name (Some kind) name scopes = hold name kind scopes

-- whether a declarator is a base word alone
abbrev pub is_base : Declr → Bool
is_base (base_name token) = true
is_base (declr_name token name) = false
is_base (array d opening words size closing) = false
is_base (params d opening ps dots closing) = false
is_base (identifiers d opening names closing) = false
is_base (pointer star words d) = false
is_base (declr_paren opening attrs d closing) = false
is_base (abs_pointer star words d) = false
is_base (abs_paren opening attrs d closing) = false
is_base (abs_array d opening words size closing) = false
is_base (abs_params d opening ps dots closing) = false

-- the name that a declarator begins with
abbrev pub first_name : Declr → Option ℕ
first_name (declr_name token name) = Some name
first_name (array d opening words size closing) = first_name d
first_name (params d opening ps dots closing) = first_name d
first_name (pointer star words d) = None
first_name (declr_paren opening attrs d closing) = None
first_name (abs_pointer star words d) = None
first_name (abs_paren opening attrs d closing) = None
first_name (abs_array d opening words size closing) = None
first_name (abs_params d opening ps dots closing) = None
first_name (identifiers d opening names closing) = first_name d
first_name (base_name token) = None

-- whether a declarator begins with a name that is a typedef name here
abbrev pub begins_with_type : HeldScopes → Option ℕ → Bool
begins_with_type scopes None = false
begins_with_type scopes (Some name) = names_type scopes name

-- none of the identifiers of a list is a typedef name at its place
abbrev pub identifiers_scopes : List Identifier → HeldScopes → Option HeldScopes
identifiers_scopes [] s = Some s
identifiers_scopes (it ∷ names) s = behind (where_true (not (names_type s it.name)) s) (identifiers_scopes names)

-- In a parameter's declarator a name right behind a parenthesis and its attributes is no typedef name: it would be the
-- first word of a parameter there (C99, 6.7.5.3 paragraph 11).
abbrev mutual
  -- whether no name right behind a parenthesis in a declarator is a typedef name
  pub shows_no_type : HeldScopes → Declr → Bool
  shows_no_type scopes (pointer star words d) = shows_no_type scopes d
  shows_no_type scopes (declr_name token name) = true
  shows_no_type scopes (declr_paren opening attrs d closing) =
      not (begins_with_type scopes (first_name d)) && shows_no_type scopes d
  shows_no_type scopes (array d opening words size closing) = shows_no_type scopes d
  shows_no_type scopes (params d opening ps dots closing) = shows_no_type scopes d
  shows_no_type scopes (abs_pointer star words d) = some_shows_no_type scopes d
  shows_no_type scopes (abs_paren opening attrs d closing) = shows_no_type scopes d
  shows_no_type scopes (abs_array d opening words size closing) = some_shows_no_type scopes d
  shows_no_type scopes (abs_params d opening ps dots closing) = some_shows_no_type scopes d
  shows_no_type scopes (identifiers d opening names closing) = shows_no_type scopes d
  shows_no_type scopes (base_name token) = true

  -- the same of a declarator that may be absent
  pub some_shows_no_type : HeldScopes → SomeDeclr → Bool
  some_shows_no_type scopes no_declr = true
  some_shows_no_type scopes (some_declr d) = shows_no_type scopes d

abbrev mutual
  -- behind an expression; only the type names and blocks in it declare names
  pub expr_scopes : Expr → HeldScopes → Option HeldScopes
  expr_scopes (operation e op token e2) s = behind (behind (expr_scopes e s) (operator_scopes op)) (expr_scopes e2)
  expr_scopes (cast opening ws d closing e) s =
      behind (behind (spec_words_scopes ws s) (some_declr_scopes None d)) (expr_scopes e)
  expr_scopes (prefix token p e) s = expr_scopes e s
  expr_scopes (sizeof_value word e) s = expr_scopes e s
  expr_scopes (sizeof_type word opening ws d closing) s = behind (spec_words_scopes ws s) (some_declr_scopes None d)
  expr_scopes (extension keyword e) s = expr_scopes e s
  expr_scopes (index e opening e2 closing) s = behind (expr_scopes e s) (expr_scopes e2)
  expr_scopes (call e opening es closing) s = behind (expr_scopes e s) (exprs_scopes es)
  expr_scopes (dot e token name) s = expr_scopes e s
  expr_scopes (arrow e token name) s = expr_scopes e s
  expr_scopes (post e token p) s = expr_scopes e s
  expr_scopes (compound opening ws d closing list) s =
      behind (behind (spec_words_scopes ws s) (some_declr_scopes None d)) (init_list_scopes list)
  expr_scopes (name_use token name) s = where_true (not (names_type s name)) s
  expr_scopes (number_use token) s = Some s
  expr_scopes (char_use token) s = Some s
  expr_scopes (text_use texts) s = Some s
  expr_scopes (paren opening e closing) s = expr_scopes e s
  expr_scopes (statement_expr opening opening2 items closing closing2) s = in_own_scope (block_items_scopes items) s
  expr_scopes (va_arg keyword opening e separator ws d closing) s =
      behind (behind (expr_scopes e s) (spec_words_scopes ws)) (some_declr_scopes None d)
  expr_scopes (va_start keyword opening e separator e2 closing) s = behind (expr_scopes e s) (expr_scopes e2)
  expr_scopes (va_copy keyword opening e separator e2 closing) s = behind (expr_scopes e s) (expr_scopes e2)
  expr_scopes (offset keyword opening ws d separator name steps closing) s =
      behind (behind (spec_words_scopes ws s) (some_declr_scopes None d)) (desigs_scopes steps)
  expr_scopes (complex_part keyword e) s = expr_scopes e s
  expr_scopes (label_use token name) s = where_true (is_wide s) s
  expr_scopes (compat keyword opening ws d separator ws2 d2 closing) s =
      behind (behind (behind (spec_words_scopes ws s) (some_declr_scopes None d)) (spec_words_scopes ws2))
      (some_declr_scopes None d2)
  expr_scopes (choose keyword opening e separator e2 separator2 e3 closing) s =
      behind (behind (expr_scopes e s) (expr_scopes e2)) (expr_scopes e3)
  expr_scopes (generic keyword opening e xs closing) s = behind (expr_scopes e s) (assocs_scopes xs)

  -- behind the associations of `_Generic`
  pub assocs_scopes : Assocs → HeldScopes → Option HeldScopes
  assocs_scopes no_assocs s = Some s
  assocs_scopes (more_assocs x xs) s = behind (assoc_scopes x s) (assocs_scopes xs)

  -- behind an association
  pub assoc_scopes : Assoc → HeldScopes → Option HeldScopes
  assoc_scopes (typed_assoc ws d colon e) s =
      behind (behind (spec_words_scopes ws s) (some_declr_scopes None d)) (expr_scopes e)
  assoc_scopes (default_assoc keyword colon e) s = expr_scopes e s

  -- behind an operator, with the middle of `?:`
  pub operator_scopes : Operator → HeldScopes → Option HeldScopes
  operator_scopes comma s = Some s
  operator_scopes (assign p) s = Some s
  operator_scopes (cond e colon) s = some_expr_scopes e s
  operator_scopes (binary p) s = Some s

  -- behind an expression that may be left out
  pub some_expr_scopes : SomeExpr → HeldScopes → Option HeldScopes
  some_expr_scopes no_expr s = Some s
  some_expr_scopes (some_expr e) s = expr_scopes e s

  -- behind the arguments of a call
  pub exprs_scopes : Exprs → HeldScopes → Option HeldScopes
  exprs_scopes no_exprs s = Some s
  exprs_scopes (more_exprs e es) s = behind (expr_scopes e s) (exprs_scopes es)

  -- behind specifiers
  pub spec_words_scopes : SpecWords → HeldScopes → Option HeldScopes
  spec_words_scopes no_words s = Some s
  spec_words_scopes (more_words w ws) s = behind (spec_word_scopes w s) (spec_words_scopes ws)

  -- behind a word of specifiers, whose enumerators are declared in it
  pub spec_word_scopes : SpecWord → HeldScopes → Option HeldScopes
  spec_word_scopes (storage word) s = Some s
  spec_word_scopes (thread keyword) s = Some s
  spec_word_scopes (inline_word keyword) s = Some s
  spec_word_scopes (noreturn keyword) s = Some s
  spec_word_scopes (qualifier qual) s = Some s
  spec_word_scopes (basic word) s = Some s
  spec_word_scopes (struct_type word attrs tag body) s = some_body_scopes body s
  spec_word_scopes (enum_type enum) s = enum_type_scopes enum s
  spec_word_scopes (typedef_name name) s = where_true (names_type s name.name) s
  spec_word_scopes (attribute attr) s = Some s
  spec_word_scopes (typeof_value keyword opening e closing) s = expr_scopes e s
  spec_word_scopes (typeof_type word opening ws d closing) s =
      behind (spec_words_scopes ws s) (some_declr_scopes None d)
  spec_word_scopes (align attr) s = Some s
  spec_word_scopes (auto_word token) s = Some s

  -- behind the body of a struct or union, if any
  pub some_body_scopes : SomeBody → HeldScopes → Option HeldScopes
  some_body_scopes no_body s = Some s
  some_body_scopes (some_body opening items closing) s = struct_items_scopes items s

  -- behind the members of a struct or union
  pub struct_items_scopes : StructItems → HeldScopes → Option HeldScopes
  struct_items_scopes no_struct_items s = Some s
  struct_items_scopes (more_struct_items item items) s = behind (struct_item_scopes item s) (struct_items_scopes items)

  -- the names of members are declared in no scope
  pub struct_item_scopes : StructItem → HeldScopes → Option HeldScopes
  struct_item_scopes (member exts ws ds semi) s = behind (spec_words_scopes ws s) (mem_declrs_scopes ds)
  struct_item_scopes (member_semi semi) s = Some s
  struct_item_scopes (member_assert it) s = Some s

  -- behind the declarators of a member's declaration
  pub mem_declrs_scopes : MemDeclrs → HeldScopes → Option HeldScopes
  mem_declrs_scopes no_mem_declrs s = Some s
  mem_declrs_scopes (more_mem_declrs attrs d ds) s = behind (mem_declr_scopes d s) (mem_declrs_scopes ds)

  -- behind a member's declarator and its width
  pub mem_declr_scopes : MemDeclr → HeldScopes → Option HeldScopes
  mem_declr_scopes (named d width attrs) s = behind (declr_scopes None d s) (some_value_scopes width)
  mem_declr_scopes (unnamed colon e attrs) s = expr_scopes e s

  -- behind a width or a value, if any
  pub some_value_scopes : SomeValue → HeldScopes → Option HeldScopes
  some_value_scopes no_value s = Some s
  some_value_scopes (some_value token e) s = expr_scopes e s

  -- behind an enumeration type
  pub enum_type_scopes : EnumType → HeldScopes → Option HeldScopes
  enum_type_scopes (enum_of keyword attrs tag body) s = some_enum_body_scopes body s

  -- behind the body of an enumeration, if any
  pub some_enum_body_scopes : SomeEnumBody → HeldScopes → Option HeldScopes
  some_enum_body_scopes no_enum_body s = Some s
  some_enum_body_scopes (some_enum_body opening es last closing) s = enumerators_scopes es s

  -- an enumerator may be declared where its name stands, and is declared behind its value
  pub enumerators_scopes : Enumerators → HeldScopes → Option HeldScopes
  enumerators_scopes no_enumerators s = Some s
  enumerators_scopes (more_enumerators name attrs value es) s =
      behind (declare name.name Constant s)
      (λ _. behind (behind (some_value_scopes value s) (declare name.name Constant)) (enumerators_scopes es))

  -- behind a declarator, whose name is held where a kind is wanted
  pub declr_scopes : Option Kind → Declr → HeldScopes → Option HeldScopes
  declr_scopes kind (pointer star words d) s = declr_scopes kind d s
  declr_scopes kind (declr_name token name) s = at_name kind name s
  declr_scopes kind (declr_paren opening attrs d closing) s = declr_scopes kind d s
  declr_scopes kind (array d opening words size closing) s = behind (declr_scopes kind d s) (some_size_scopes size)
  declr_scopes kind (params d opening ps dots closing) s =
      behind (declr_scopes kind d s) (in_own_scope (params_scopes ps))
  declr_scopes kind (abs_pointer star words d) s = some_declr_scopes kind d s
  declr_scopes kind (abs_paren opening attrs d closing) s = declr_scopes kind d s
  declr_scopes kind (abs_array d opening words size closing) s =
      behind (some_declr_scopes kind d s) (some_size_scopes size)
  declr_scopes kind (abs_params d opening ps dots closing) s =
      behind (some_declr_scopes kind d s) (in_own_scope (params_scopes ps))
  declr_scopes kind (identifiers d opening names closing) s =
      behind (declr_scopes kind d s) (λ t. behind (where_true (is_wide t) t) (identifiers_scopes names))
  declr_scopes kind (base_name token) s = where_true (is_wide s && is_typedef kind) s

  -- behind a declarator that may be absent
  pub some_declr_scopes : Option Kind → SomeDeclr → HeldScopes → Option HeldScopes
  some_declr_scopes kind no_declr s = Some s
  some_declr_scopes kind (some_declr d) s = declr_scopes kind d s

  -- behind the size of an array, if any
  pub some_size_scopes : SomeSize → HeldScopes → Option HeldScopes
  some_size_scopes no_size s = Some s
  some_size_scopes (some_size size) s = array_size_scopes size s

  -- behind the size of an array: an expression or `*`
  pub array_size_scopes : ArraySize → HeldScopes → Option HeldScopes
  array_size_scopes (size_value e) s = expr_scopes e s
  array_size_scopes (size_star star) s = Some s

  -- a parameter is declared behind its declarator
  pub params_scopes : Params → HeldScopes → Option HeldScopes
  params_scopes no_params s = Some s
  params_scopes (more_params ws d attrs ps) s =
      behind (behind (behind (spec_words_scopes ws s) (λ t. where_true (some_shows_no_type t d) t))
      (some_declr_scopes (Some Value) d))
      (λ t. params_scopes ps (release Value t))

  -- behind an initialiser
  pub init_scopes : Init → HeldScopes → Option HeldScopes
  init_scopes (init_value e) s = expr_scopes e s
  init_scopes (init_braced list) s = init_list_scopes list s

  -- behind a braced list of initialisers
  pub init_list_scopes : InitList → HeldScopes → Option HeldScopes
  init_list_scopes (init_list opening items last closing) s = init_items_scopes items s

  -- behind the items of a braced list
  pub init_items_scopes : InitItems → HeldScopes → Option HeldScopes
  init_items_scopes no_init_items s = Some s
  init_items_scopes (more_init_items ds equal init items) s =
      behind (behind (desigs_scopes ds s) (init_scopes init)) (init_items_scopes items)

  -- behind the designators of an item, or the steps of an offset
  pub desigs_scopes : Desigs → HeldScopes → Option HeldScopes
  desigs_scopes no_desigs s = Some s
  desigs_scopes (more_desigs d ds) s = behind (desig_scopes d s) (desigs_scopes ds)

  -- behind a designator; a range and the old form `m:` stand in wider C alone
  pub desig_scopes : Desig → HeldScopes → Option HeldScopes
  desig_scopes (member_desig token name) s = Some s
  desig_scopes (index_desig opening e closing) s = expr_scopes e s
  desig_scopes (range_desig opening e dots e2 closing) s =
      behind (behind (expr_scopes e s) (λ t. where_true (is_wide t) t)) (expr_scopes e2)
  desig_scopes (old_desig name colon) s = where_true (is_wide s) s

  -- behind the initialiser of a declarator, if any
  pub some_init_scopes : SomeInit → HeldScopes → Option HeldScopes
  some_init_scopes no_init s = Some s
  some_init_scopes (some_init equal init) s = init_scopes init s

  -- a name is declared behind its declarator, before its initialiser
  pub init_declrs_scopes : Kind → InitDeclrs → HeldScopes → Option HeldScopes
  init_declrs_scopes kind no_init_declrs s = Some s
  init_declrs_scopes kind (more_init_declrs attrs d asm_label attrs2 init ds) s =
      behind (behind (declr_scopes (Some kind) d s) (λ t. some_init_scopes init (release kind t)))
      (init_declrs_scopes kind ds)

  -- a name of the type of its initialiser is declared behind that; a base word declares nothing
  pub auto_declrs_scopes : InitDeclrs → HeldScopes → Option HeldScopes
  auto_declrs_scopes no_init_declrs s = Some s
  auto_declrs_scopes (more_init_declrs attrs d asm_label attrs2 init ds) s =
      behind (behind (behind (if is_base d then Some s else declr_scopes (Some Value) d s) (some_init_scopes init))
      (λ t. Some (release Value t))) (auto_declrs_scopes ds)

  -- behind a declaration
  pub declaration_scopes : Declaration → HeldScopes → Option HeldScopes
  declaration_scopes (declaration exts ws ds semi) s =
      behind (spec_words_scopes ws s)
      (if has_auto ws then auto_declrs_scopes ds else init_declrs_scopes (declared_kind ws) ds)

  -- behind a declaration or a `_Static_assert`
  pub decl_scopes : Decl → HeldScopes → Option HeldScopes
  decl_scopes (decl_declaration d) s = declaration_scopes d s
  decl_scopes (decl_assert it) s = Some s

  -- behind the items of a block, in its scope
  pub block_items_scopes : BlockItems → HeldScopes → Option HeldScopes
  block_items_scopes no_block_items s = Some s
  block_items_scopes (more_block_items item items) s = behind (block_item_scopes item s) (block_items_scopes items)

  -- behind an item of a block
  pub block_item_scopes : BlockItem → HeldScopes → Option HeldScopes
  block_item_scopes (block_decl d) s = decl_scopes d s
  block_item_scopes (block_stmt t) s = stmt_scopes t s
  block_item_scopes (block_labels keyword names semi) s = Some s

  -- behind a statement, when the scopes of its own are left
  pub stmt_scopes : Stmt → HeldScopes → Option HeldScopes
  stmt_scopes (block opening items closing) s = in_own_scope (block_items_scopes items) s
  stmt_scopes (expr_stmt e semi) s = some_expr_scopes e s
  stmt_scopes (attr_stmt attrs semi) s = Some s
  stmt_scopes (label name colon attrs t) s = stmt_scopes t s
  stmt_scopes (case_stmt keyword e colon t) s = behind (expr_scopes e s) (stmt_scopes t)
  stmt_scopes (default_stmt keyword colon t) s = stmt_scopes t s
  stmt_scopes (if_stmt keyword opening e closing t other) s =
      in_own_scope (λ u. behind (behind (expr_scopes e u) (in_own_scope (stmt_scopes t))) (some_else_scopes other)) s
  stmt_scopes (switch_stmt keyword opening e closing t) s =
      in_own_scope (λ u. behind (expr_scopes e u) (in_own_scope (stmt_scopes t))) s
  stmt_scopes (while_stmt keyword opening e closing t) s =
      in_own_scope (λ u. behind (expr_scopes e u) (in_own_scope (stmt_scopes t))) s
  stmt_scopes (do_stmt keyword t keyword2 opening e closing semi) s =
      in_own_scope (λ u. behind (in_own_scope (stmt_scopes t) u) (expr_scopes e)) s
  stmt_scopes (for_stmt keyword opening start e semi e2 closing t) s =
      in_own_scope (λ u. behind (behind (behind (for_start_scopes start u) (some_expr_scopes e)) (some_expr_scopes e2))
      (in_own_scope (stmt_scopes t))) s
  stmt_scopes (goto_stmt keyword name semi) s = Some s
  stmt_scopes (continue_stmt keyword semi) s = Some s
  stmt_scopes (break_stmt keyword semi) s = Some s
  stmt_scopes (return_stmt keyword e semi) s = some_expr_scopes e s
  stmt_scopes (asm_stmt keyword words group semi) s = Some s
  stmt_scopes (case_range keyword e dots e2 colon t) s =
      behind (behind (behind (expr_scopes e s) (λ u. where_true (is_wide u) u)) (expr_scopes e2)) (stmt_scopes t)
  stmt_scopes (goto_value keyword star e semi) s = behind (where_true (is_wide s) s) (expr_scopes e)

  -- behind the `else` of an `if`, if any
  pub some_else_scopes : SomeElse → HeldScopes → Option HeldScopes
  some_else_scopes no_else s = Some s
  some_else_scopes (some_else keyword t) s = in_own_scope (stmt_scopes t) s

  -- behind the first clause of a `for`, in the scope of the statement
  pub for_start_scopes : ForStart → HeldScopes → Option HeldScopes
  for_start_scopes (start_declaration d) s = declaration_scopes d s
  for_start_scopes (start_value e semi) s = some_expr_scopes e s

-- behind what stands in the place of the name behind `__auto_type`
abbrev pub auto_name_scopes : Declr → HeldScopes → Option HeldScopes
auto_name_scopes d s = if is_base d then Some s else declr_scopes (Some Value) d s
