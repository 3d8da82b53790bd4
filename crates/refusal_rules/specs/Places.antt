-- The expressions, the specifiers and the declared names of a tree, in the order of its text, each with the scopes
-- at its place; none where a name before it has not the kind that its place wants. Declarators of members declare
-- nothing.
use Rattle.std.specs.Prelude.{ℕ, List, [], ◌∷◌, ◌++◌, Option, None, Some, if◌then◌else◌}
use Rattle.c_tree.specs.Tree.{Expr, operation, cast, prefix, sizeof_value, sizeof_type, extension, index, call, dot, arrow, post, compound, name_use, number_use, char_use, text_use, paren, statement_expr, va_arg, va_start, va_copy, offset, Operator, comma, assign, cond, binary, SomeExpr, no_expr, some_expr, Exprs, no_exprs, more_exprs, SpecWords, no_words, more_words, SpecWord, storage, thread, inline_word, noreturn, qualifier, basic, struct_type, enum_type, typedef_name, attribute, SomeBody, no_body, some_body, StructItems, no_struct_items, more_struct_items, StructItem, member, member_semi, member_assert, MemDeclrs, no_mem_declrs, more_mem_declrs, MemDeclr, named, unnamed, SomeValue, no_value, some_value, EnumType, enum_of, SomeEnumBody, no_enum_body, some_enum_body, Enumerators, no_enumerators, more_enumerators, Declr, pointer, declr_name, declr_paren, array, params, abs_pointer, abs_paren, abs_array, abs_params, SomeDeclr, no_declr, some_declr, SomeSize, no_size, some_size, ArraySize, size_value, size_star, Params, no_params, more_params, Init, init_value, init_braced, InitList, init_list, InitItems, no_init_items, more_init_items, Desigs, no_desigs, more_desigs, Desig, member_desig, index_desig, SomeInit, no_init, some_init, InitDeclrs, no_init_declrs, more_init_declrs, Declaration, declaration, Decl, decl_declaration, decl_assert, BlockItems, no_block_items, more_block_items, BlockItem, block_decl, block_stmt, Stmt, block, expr_stmt, attr_stmt, label, case_stmt, default_stmt, if_stmt, switch_stmt, while_stmt, do_stmt, for_stmt, goto_stmt, continue_stmt, break_stmt, return_stmt, asm_stmt, SomeElse, no_else, some_else, ForStart, start_declaration, start_value, typeof_value, typeof_type, align, auto_word, complex_part, label_use, compat, choose, generic, range_desig, old_desig, case_range, goto_value, block_labels, identifiers, base_name, Assocs, no_assocs, more_assocs, Assoc, typed_assoc, default_assoc}
use Rattle.c_tree.specs.Unit.{Item, function_item, decl_item, asm_item, semi_item, old_function_item}
use Rattle.typedef_scope.specs.declared.kind.Kind.{Kind}
use Rattle.typedef_scope.specs.declared.kind.Kind.TheVariants.{Value, Constant}
use Rattle.c_units.specs.HeldScopes.{HeldScopes, enter, innermost, leave, reopen, release, declare, hold}
use Rattle.c_units.specs.Scoping.{auto_name_scopes, behind, in_own_scope, where_true, declared_kind, some_shows_no_type, expr_scopes, operator_scopes, some_expr_scopes, spec_words_scopes, spec_word_scopes, struct_item_scopes, mem_declr_scopes, some_value_scopes, declr_scopes, some_declr_scopes, init_scopes, desigs_scopes, desig_scopes, some_init_scopes, block_item_scopes, stmt_scopes, for_start_scopes, assoc_scopes, declaration_scopes}
use Rattle.c_units.specs.Units.{own_params, own_scope, item_scopes, declarations_scopes}
use Rattle.c_tree.specs.WellFormed.{has_auto}

-- a part of a tree: an expression, all words of specifiers, or a token that declares a name of a kind
pub data Part : Type 0 where
  expression : Expr → Part
  specifiers : SpecWords → Part
  declared : ℕ → ℕ → Kind → Part

-- a part, with the scopes before it
abbrev pub Place : Type 0
Place = Part × Option HeldScopes

-- a scope inside the others
abbrev pub entered : Option HeldScopes → Option HeldScopes
entered s = behind s (λ scopes. Some (enter scopes))

-- what is declared of a kind is declared from here on
abbrev pub released : Kind → Option HeldScopes → Option HeldScopes
released kind s = behind s (λ scopes. Some (release kind scopes))

-- behind the name of a type
abbrev pub behind_type : SpecWords → SomeDeclr → Option HeldScopes → Option HeldScopes
behind_type ws d s = behind (behind s (spec_words_scopes ws)) (some_declr_scopes None d)

-- behind the words of a parameter
abbrev pub behind_words : SpecWords → SomeDeclr → Option HeldScopes → Option HeldScopes
behind_words ws d s = behind (behind s (spec_words_scopes ws)) (λ t. where_true (some_shows_no_type t d) t)

-- behind the name of an enumerator, which may be declared there
abbrev pub behind_name : ℕ → Option HeldScopes → Option HeldScopes
behind_name name s = behind s (λ t. behind (declare name Constant t) (λ _. Some t))

-- in the block of a function, with the scope of its own parameters
abbrev pub in_function : Declr → Option HeldScopes → Option HeldScopes
in_function d s =
    behind s (λ t. behind (declr_scopes (Some Value) d t) (λ u. behind (own_scope (own_params d) t)
    (λ w. Some (reopen (innermost w) (release Value u)))))

-- a part with the parts inside it
abbrev pub of_expr : Expr → (Option HeldScopes → List Place) → Option HeldScopes → List Place
of_expr e inside s = (expression e, s) ∷ inside s

-- specifiers, and the parts inside them
abbrev pub of_specs : SpecWords → (Option HeldScopes → List Place) → Option HeldScopes → List Place
of_specs ws inside s = (specifiers ws, s) ∷ inside s

-- a name, where a kind is wanted
abbrev pub of_name : Option Kind → ℕ → ℕ → Option HeldScopes → List Place
of_name None token name s = []
of_name (Some kind) token name s = (declared token name kind, s) ∷ []

abbrev mutual
  -- the parts inside an expression, itself aside
  pub expr_inside : Expr → Option HeldScopes → List Place
  expr_inside (operation e op token e2) s =
      of_expr e (expr_inside e) s ++ operator_inside op (behind s (expr_scopes e))
      ++ of_expr e2 (expr_inside e2) (behind (behind s (expr_scopes e)) (operator_scopes op))
  expr_inside (cast opening ws d closing e) s =
      of_specs ws (spec_words_inside ws) s ++ some_declr_inside None d (behind s (spec_words_scopes ws))
      ++ of_expr e (expr_inside e) (behind_type ws d s)
  expr_inside (prefix token p e) s = of_expr e (expr_inside e) s
  expr_inside (sizeof_value word e) s = of_expr e (expr_inside e) s
  expr_inside (sizeof_type word opening ws d closing) s =
      of_specs ws (spec_words_inside ws) s ++ some_declr_inside None d (behind s (spec_words_scopes ws))
  expr_inside (extension keyword e) s = of_expr e (expr_inside e) s
  expr_inside (index e opening e2 closing) s =
      of_expr e (expr_inside e) s ++ of_expr e2 (expr_inside e2) (behind s (expr_scopes e))
  expr_inside (call e opening es closing) s =
      of_expr e (expr_inside e) s ++ exprs_inside es (behind s (expr_scopes e))
  expr_inside (dot e token name) s = of_expr e (expr_inside e) s
  expr_inside (arrow e token name) s = of_expr e (expr_inside e) s
  expr_inside (post e token p) s = of_expr e (expr_inside e) s
  expr_inside (compound opening ws d closing list) s =
      of_specs ws (spec_words_inside ws) s ++ some_declr_inside None d (behind s (spec_words_scopes ws))
      ++ init_list_inside list (behind_type ws d s)
  expr_inside (name_use token name) s = []
  expr_inside (number_use token) s = []
  expr_inside (char_use token) s = []
  expr_inside (text_use texts) s = []
  expr_inside (paren opening e closing) s = of_expr e (expr_inside e) s
  expr_inside (statement_expr opening opening2 items closing closing2) s = block_items_inside items (entered s)
  expr_inside (va_arg keyword opening e separator ws d closing) s =
      of_expr e (expr_inside e) s ++ of_specs ws (spec_words_inside ws) (behind s (expr_scopes e))
      ++ some_declr_inside None d (behind (behind s (expr_scopes e)) (spec_words_scopes ws))
  expr_inside (va_start keyword opening e separator e2 closing) s =
      of_expr e (expr_inside e) s ++ of_expr e2 (expr_inside e2) (behind s (expr_scopes e))
  expr_inside (va_copy keyword opening e separator e2 closing) s =
      of_expr e (expr_inside e) s ++ of_expr e2 (expr_inside e2) (behind s (expr_scopes e))
  expr_inside (offset keyword opening ws d separator name steps closing) s =
      of_specs ws (spec_words_inside ws) s ++ some_declr_inside None d (behind s (spec_words_scopes ws))
      ++ desigs_inside steps (behind_type ws d s)
  expr_inside (complex_part keyword e) s = of_expr e (expr_inside e) s
  expr_inside (label_use token name) s = []
  expr_inside (compat keyword opening ws d separator ws2 d2 closing) s =
      of_specs ws (spec_words_inside ws) s ++ some_declr_inside None d (behind s (spec_words_scopes ws))
      ++ of_specs ws2 (spec_words_inside ws2) (behind_type ws d s)
      ++ some_declr_inside None d2 (behind (behind_type ws d s) (spec_words_scopes ws2))
  expr_inside (choose keyword opening e separator e2 separator2 e3 closing) s =
      of_expr e (expr_inside e) s ++ of_expr e2 (expr_inside e2) (behind s (expr_scopes e))
      ++ of_expr e3 (expr_inside e3) (behind (behind s (expr_scopes e)) (expr_scopes e2))
  expr_inside (generic keyword opening e xs closing) s =
      of_expr e (expr_inside e) s ++ assocs_inside xs (behind s (expr_scopes e))

  -- the parts of the associations of `_Generic`
  pub assocs_inside : Assocs → Option HeldScopes → List Place
  assocs_inside no_assocs s = []
  assocs_inside (more_assocs x xs) s = assoc_inside x s ++ assocs_inside xs (behind s (assoc_scopes x))

  -- the parts of an association
  pub assoc_inside : Assoc → Option HeldScopes → List Place
  assoc_inside (typed_assoc ws d colon e) s =
      of_specs ws (spec_words_inside ws) s ++ some_declr_inside None d (behind s (spec_words_scopes ws))
      ++ of_expr e (expr_inside e) (behind_type ws d s)
  assoc_inside (default_assoc keyword colon e) s = of_expr e (expr_inside e) s

  -- the parts of the middle of `?:`
  pub operator_inside : Operator → Option HeldScopes → List Place
  operator_inside comma s = []
  operator_inside (assign p) s = []
  operator_inside (cond e colon) s = some_expr_inside e s
  operator_inside (binary p) s = []

  -- an expression that may be left out, with the parts inside it
  pub some_expr_inside : SomeExpr → Option HeldScopes → List Place
  some_expr_inside no_expr s = []
  some_expr_inside (some_expr e) s = of_expr e (expr_inside e) s

  -- the arguments of a call, with the parts inside them
  pub exprs_inside : Exprs → Option HeldScopes → List Place
  exprs_inside no_exprs s = []
  exprs_inside (more_exprs e es) s = of_expr e (expr_inside e) s ++ exprs_inside es (behind s (expr_scopes e))

  -- the parts inside specifiers: in bodies, type names and expressions
  pub spec_words_inside : SpecWords → Option HeldScopes → List Place
  spec_words_inside no_words s = []
  spec_words_inside (more_words w ws) s = spec_word_inside w s ++ spec_words_inside ws (behind s (spec_word_scopes w))

  -- the parts inside one word of specifiers
  pub spec_word_inside : SpecWord → Option HeldScopes → List Place
  spec_word_inside (storage word) s = []
  spec_word_inside (thread keyword) s = []
  spec_word_inside (inline_word keyword) s = []
  spec_word_inside (noreturn keyword) s = []
  spec_word_inside (qualifier qual) s = []
  spec_word_inside (basic word) s = []
  spec_word_inside (struct_type word attrs tag body) s = some_body_inside body s
  spec_word_inside (enum_type enum) s = enum_type_inside enum s
  spec_word_inside (typedef_name name) s = []
  spec_word_inside (attribute attr) s = []
  spec_word_inside (typeof_value keyword opening e closing) s = of_expr e (expr_inside e) s
  spec_word_inside (typeof_type word opening ws d closing) s =
      of_specs ws (spec_words_inside ws) s ++ some_declr_inside None d (behind s (spec_words_scopes ws))
  spec_word_inside (align attr) s = []
  spec_word_inside (auto_word token) s = []

  -- the parts of the body of a struct or union, if any
  pub some_body_inside : SomeBody → Option HeldScopes → List Place
  some_body_inside no_body s = []
  some_body_inside (some_body opening items closing) s = struct_items_inside items s

  -- the parts of the members of a struct or union
  pub struct_items_inside : StructItems → Option HeldScopes → List Place
  struct_items_inside no_struct_items s = []
  struct_items_inside (more_struct_items item items) s =
      struct_item_inside item s ++ struct_items_inside items (behind s (struct_item_scopes item))

  -- the parts of a member's declaration
  pub struct_item_inside : StructItem → Option HeldScopes → List Place
  struct_item_inside (member exts ws ds semi) s =
      of_specs ws (spec_words_inside ws) s ++ mem_declrs_inside ds (behind s (spec_words_scopes ws))
  struct_item_inside (member_semi semi) s = []
  struct_item_inside (member_assert it) s = []

  -- the parts of the declarators of a member's declaration
  pub mem_declrs_inside : MemDeclrs → Option HeldScopes → List Place
  mem_declrs_inside no_mem_declrs s = []
  mem_declrs_inside (more_mem_declrs attrs d ds) s =
      mem_declr_inside d s ++ mem_declrs_inside ds (behind s (mem_declr_scopes d))

  -- the parts of a member's declarator and width
  pub mem_declr_inside : MemDeclr → Option HeldScopes → List Place
  mem_declr_inside (named d width attrs) s =
      declr_inside None d s ++ some_value_inside width (behind s (declr_scopes None d))
  mem_declr_inside (unnamed colon e attrs) s = of_expr e (expr_inside e) s

  -- a width or a value, with the parts inside it
  pub some_value_inside : SomeValue → Option HeldScopes → List Place
  some_value_inside no_value s = []
  some_value_inside (some_value token e) s = of_expr e (expr_inside e) s

  -- the parts of an enumeration type
  pub enum_type_inside : EnumType → Option HeldScopes → List Place
  enum_type_inside (enum_of keyword attrs tag body) s = some_enum_body_inside body s

  -- the parts of the body of an enumeration, if any
  pub some_enum_body_inside : SomeEnumBody → Option HeldScopes → List Place
  some_enum_body_inside no_enum_body s = []
  some_enum_body_inside (some_enum_body opening es last closing) s = enumerators_inside es s

  -- the enumerators, each before the parts of its value
  pub enumerators_inside : Enumerators → Option HeldScopes → List Place
  enumerators_inside no_enumerators s = []
  enumerators_inside (more_enumerators name attrs value es) s =
      (declared name.token name.name Constant, s) ∷ some_value_inside value (behind_name name.name s)
      ++ enumerators_inside es
      (behind (behind (behind_name name.name s) (some_value_scopes value)) (declare name.name Constant))

  -- the name of a declarator, where a kind is wanted, and the parts of its sizes and parameters
  pub declr_inside : Option Kind → Declr → Option HeldScopes → List Place
  declr_inside kind (pointer star words d) s = declr_inside kind d s
  declr_inside kind (declr_name token name) s = of_name kind token name s
  declr_inside kind (declr_paren opening attrs d closing) s = declr_inside kind d s
  declr_inside kind (array d opening words size closing) s =
      declr_inside kind d s ++ some_size_inside size (behind s (declr_scopes kind d))
  declr_inside kind (params d opening ps dots closing) s =
      declr_inside kind d s ++ params_inside ps (entered (behind s (declr_scopes kind d)))
  declr_inside kind (abs_pointer star words d) s = some_declr_inside kind d s
  declr_inside kind (abs_paren opening attrs d closing) s = declr_inside kind d s
  declr_inside kind (abs_array d opening words size closing) s =
      some_declr_inside kind d s ++ some_size_inside size (behind s (some_declr_scopes kind d))
  declr_inside kind (abs_params d opening ps dots closing) s =
      some_declr_inside kind d s ++ params_inside ps (entered (behind s (some_declr_scopes kind d)))
  declr_inside kind (identifiers d opening names closing) s = declr_inside kind d s
  declr_inside kind (base_name token) s = []

  -- the parts of a declarator that may be absent
  pub some_declr_inside : Option Kind → SomeDeclr → Option HeldScopes → List Place
  some_declr_inside kind no_declr s = []
  some_declr_inside kind (some_declr d) s = declr_inside kind d s

  -- the parts of the size of an array, if any
  pub some_size_inside : SomeSize → Option HeldScopes → List Place
  some_size_inside no_size s = []
  some_size_inside (some_size size) s = array_size_inside size s

  -- the parts of the size of an array
  pub array_size_inside : ArraySize → Option HeldScopes → List Place
  array_size_inside (size_value e) s = of_expr e (expr_inside e) s
  array_size_inside (size_star star) s = []

  -- the parts of the parameters of a function declarator
  pub params_inside : Params → Option HeldScopes → List Place
  params_inside no_params s = []
  params_inside (more_params ws d attrs ps) s =
      of_specs ws (spec_words_inside ws) s ++ some_declr_inside (Some Value) d (behind_words ws d s)
      ++ params_inside ps (released Value (behind (behind_words ws d s) (some_declr_scopes (Some Value) d)))

  -- the parts of an initialiser
  pub init_inside : Init → Option HeldScopes → List Place
  init_inside (init_value e) s = of_expr e (expr_inside e) s
  init_inside (init_braced list) s = init_list_inside list s

  -- the parts of a braced list
  pub init_list_inside : InitList → Option HeldScopes → List Place
  init_list_inside (init_list opening items last closing) s = init_items_inside items s

  -- the parts of the items of a list
  pub init_items_inside : InitItems → Option HeldScopes → List Place
  init_items_inside no_init_items s = []
  init_items_inside (more_init_items ds equal init items) s =
      desigs_inside ds s ++ init_inside init (behind s (desigs_scopes ds))
      ++ init_items_inside items (behind (behind s (desigs_scopes ds)) (init_scopes init))

  -- the parts of designators, or of the steps of an offset
  pub desigs_inside : Desigs → Option HeldScopes → List Place
  desigs_inside no_desigs s = []
  desigs_inside (more_desigs d ds) s = desig_inside d s ++ desigs_inside ds (behind s (desig_scopes d))

  -- the index or the bounds of a designator, with the parts inside them
  pub desig_inside : Desig → Option HeldScopes → List Place
  desig_inside (member_desig token name) s = []
  desig_inside (index_desig opening e closing) s = of_expr e (expr_inside e) s
  desig_inside (range_desig opening e dots e2 closing) s =
      of_expr e (expr_inside e) s ++ of_expr e2 (expr_inside e2) (behind s (expr_scopes e))
  desig_inside (old_desig name colon) s = []

  -- the parts of an initialiser that may be left out
  pub some_init_inside : SomeInit → Option HeldScopes → List Place
  some_init_inside no_init s = []
  some_init_inside (some_init equal init) s = init_inside init s

  -- the parts of the declarators of a declaration, whose names are of this kind
  pub init_declrs_inside : Kind → InitDeclrs → Option HeldScopes → List Place
  init_declrs_inside kind no_init_declrs s = []
  init_declrs_inside kind (more_init_declrs attrs d asm_label attrs2 init ds) s =
      declr_inside (Some kind) d s
      ++ some_init_inside init (released kind (behind s (declr_scopes (Some kind) d)))
      ++ init_declrs_inside kind ds
      (behind (released kind (behind s (declr_scopes (Some kind) d))) (some_init_scopes init))

  -- the parts of declarators behind `__auto_type`
  pub auto_declrs_inside : InitDeclrs → Option HeldScopes → List Place
  auto_declrs_inside no_init_declrs s = []
  auto_declrs_inside (more_init_declrs attrs d asm_label attrs2 init ds) s =
      declr_inside (Some Value) d s ++ some_init_inside init (behind s (auto_name_scopes d))
      ++ auto_declrs_inside ds (released Value (behind (behind s (auto_name_scopes d)) (some_init_scopes init)))

  -- the parts of a declaration
  pub declaration_inside : Declaration → Option HeldScopes → List Place
  declaration_inside (declaration exts ws ds semi) s =
      of_specs ws (spec_words_inside ws) s
      ++ (if has_auto ws then auto_declrs_inside ds (behind s (spec_words_scopes ws))
      else init_declrs_inside (declared_kind ws) ds (behind s (spec_words_scopes ws)))

  -- the parts of a declaration; an assertion has none
  pub decl_inside : Decl → Option HeldScopes → List Place
  decl_inside (decl_declaration d) s = declaration_inside d s
  decl_inside (decl_assert it) s = []

  -- the parts of the items of a block
  pub block_items_inside : BlockItems → Option HeldScopes → List Place
  block_items_inside no_block_items s = []
  block_items_inside (more_block_items item items) s =
      block_item_inside item s ++ block_items_inside items (behind s (block_item_scopes item))

  -- the parts of an item of a block
  pub block_item_inside : BlockItem → Option HeldScopes → List Place
  block_item_inside (block_decl d) s = decl_inside d s
  block_item_inside (block_stmt t) s = stmt_inside t s
  block_item_inside (block_labels keyword names semi) s = []

  -- the parts of a statement
  pub stmt_inside : Stmt → Option HeldScopes → List Place
  stmt_inside (block opening items closing) s = block_items_inside items (entered s)
  stmt_inside (expr_stmt e semi) s = some_expr_inside e s
  stmt_inside (attr_stmt attrs semi) s = []
  stmt_inside (label name colon attrs t) s = stmt_inside t s
  stmt_inside (case_stmt keyword e colon t) s = of_expr e (expr_inside e) s ++ stmt_inside t (behind s (expr_scopes e))
  stmt_inside (default_stmt keyword colon t) s = stmt_inside t s
  stmt_inside (if_stmt keyword opening e closing t other) s =
      of_expr e (expr_inside e) (entered s) ++ stmt_inside t (entered (behind (entered s) (expr_scopes e)))
      ++ some_else_inside other (behind (behind (entered s) (expr_scopes e)) (in_own_scope (stmt_scopes t)))
  stmt_inside (switch_stmt keyword opening e closing t) s =
      of_expr e (expr_inside e) (entered s) ++ stmt_inside t (entered (behind (entered s) (expr_scopes e)))
  stmt_inside (while_stmt keyword opening e closing t) s =
      of_expr e (expr_inside e) (entered s) ++ stmt_inside t (entered (behind (entered s) (expr_scopes e)))
  stmt_inside (do_stmt keyword t keyword2 opening e closing semi) s =
      stmt_inside t (entered (entered s))
      ++ of_expr e (expr_inside e) (behind (entered s) (in_own_scope (stmt_scopes t)))
  stmt_inside (for_stmt keyword opening start e semi e2 closing t) s =
      for_start_inside start (entered s) ++ some_expr_inside e (behind (entered s) (for_start_scopes start))
      ++ some_expr_inside e2 (behind (behind (entered s) (for_start_scopes start)) (some_expr_scopes e))
      ++ stmt_inside t
      (entered
      (behind (behind (behind (entered s) (for_start_scopes start)) (some_expr_scopes e)) (some_expr_scopes e2)))
  stmt_inside (goto_stmt keyword name semi) s = []
  stmt_inside (continue_stmt keyword semi) s = []
  stmt_inside (break_stmt keyword semi) s = []
  stmt_inside (return_stmt keyword e semi) s = some_expr_inside e s
  stmt_inside (asm_stmt keyword words group semi) s = []
  stmt_inside (case_range keyword e dots e2 colon t) s =
      of_expr e (expr_inside e) s ++ of_expr e2 (expr_inside e2) (behind s (expr_scopes e))
      ++ stmt_inside t (behind (behind s (expr_scopes e)) (expr_scopes e2))
  stmt_inside (goto_value keyword star e semi) s = of_expr e (expr_inside e) s

  -- the parts of the statement behind `else`, if any
  pub some_else_inside : SomeElse → Option HeldScopes → List Place
  some_else_inside no_else s = []
  some_else_inside (some_else keyword t) s = stmt_inside t (entered s)

  -- the parts of the first clause of a `for`
  pub for_start_inside : ForStart → Option HeldScopes → List Place
  for_start_inside (start_declaration d) s = declaration_inside d s
  for_start_inside (start_value e semi) s = some_expr_inside e s

-- in the declarations behind a list of identifiers
abbrev pub in_identifiers : Declr → Option HeldScopes → Option HeldScopes
in_identifiers d s = behind s (λ t. behind (declr_scopes (Some Value) d t) (λ u. Some (enter u)))

-- in the block of a function with a list of identifiers, with the scope of the declarations behind that
abbrev pub in_old_function : Declr → List Declaration → Option HeldScopes → Option HeldScopes
in_old_function d ds s =
    behind s (λ t. behind (declr_scopes (Some Value) d t) (λ u. behind (declarations_scopes ds (enter u))
    (λ w. Some (reopen (innermost w) (release Value (leave w))))))

-- the parts of the declarations behind a list of identifiers
abbrev pub declarations_inside : List Declaration → Option HeldScopes → List Place
declarations_inside [] s = []
declarations_inside (d ∷ ds) s = declaration_inside d s ++ declarations_inside ds (behind s (declaration_scopes d))

-- the parts of an item of a unit
abbrev pub item_inside : Item → Option HeldScopes → List Place
item_inside (function_item exts ws d attrs opening items closing) s =
    of_specs ws (spec_words_inside ws) s ++ declr_inside (Some Value) d (behind s (spec_words_scopes ws))
    ++ block_items_inside items (in_function d (behind s (spec_words_scopes ws)))
item_inside (old_function_item exts ws d attrs ds opening items closing) s =
    of_specs ws (spec_words_inside ws) s ++ declr_inside (Some Value) d (behind s (spec_words_scopes ws))
    ++ declarations_inside ds (in_identifiers d (behind s (spec_words_scopes ws)))
    ++ block_items_inside items (in_old_function d ds (behind s (spec_words_scopes ws)))
item_inside (decl_item d) s = decl_inside d s
item_inside (asm_item keyword group semi) s = []
item_inside (semi_item semi) s = []

-- the parts of a unit with these items
abbrev pub items_inside : List Item → Option HeldScopes → List Place
items_inside [] s = []
items_inside (item ∷ items) s = item_inside item s ++ items_inside items (behind s (item_scopes item))
