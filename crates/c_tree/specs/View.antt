-- The tree of a value of the program.
use Rattle.std.specs.Prelude.{option_map}
use Rattle.c_words.specs.declared.kinds.Punct.TheVariants as puncts
use Rattle.c_syntax.specs.declared.parts.Ellipsis.{Ellipsis}
use Rattle.c_syntax.specs.declared.declaration.Decl as rust_decl
use Rattle.c_syntax.specs.declared.declaration.Declaration as rust_declaration
use Rattle.c_syntax.specs.declared.declaration.InitDeclr as rust_init_declr
use Rattle.c_syntax.specs.declared.declarator.ArraySize as rust_array_size
use Rattle.c_syntax.specs.declared.declarator.Declr as rust_declr
use Rattle.c_syntax.specs.declared.expression.Assoc as rust_assoc
use Rattle.c_syntax.specs.declared.expression.Expr as rust_expr
use Rattle.c_syntax.specs.declared.initialiser.Desig as rust_desig
use Rattle.c_syntax.specs.declared.initialiser.Init as rust_init
use Rattle.c_syntax.specs.declared.initialiser.InitItem as rust_init_item
use Rattle.c_syntax.specs.declared.initialiser.InitList as rust_init_list
use Rattle.c_syntax.specs.declared.specifier.Enum as rust_enum
use Rattle.c_syntax.specs.declared.specifier.MemDeclr as rust_mem_declr
use Rattle.c_syntax.specs.declared.specifier.Member as rust_member
use Rattle.c_syntax.specs.declared.specifier.SpecWord as rust_spec_word
use Rattle.c_syntax.specs.declared.specifier.Specs as rust_specs
use Rattle.c_syntax.specs.declared.specifier.Struct as rust_struct
use Rattle.c_syntax.specs.declared.specifier.StructItem as rust_struct_item
use Rattle.c_syntax.specs.declared.statement.Block as rust_block
use Rattle.c_syntax.specs.declared.statement.BlockItem as rust_block_item
use Rattle.c_syntax.specs.declared.statement.ForStart as rust_for_start
use Rattle.c_syntax.specs.declared.statement.Stmt as rust_stmt
use Rattle.c_tree.specs.Tree.{Expr, operation, cast, prefix, sizeof_value, sizeof_type, extension, index, call, dot, arrow, post, compound, name_use, number_use, char_use, text_use, paren, statement_expr, va_arg, va_start, va_copy, offset, comma, assign, cond, binary, SomeExpr, no_expr, some_expr, Exprs, no_exprs, more_exprs, SpecWords, no_words, more_words, SpecWord, storage, thread, inline_word, noreturn, qualifier, basic, struct_type, enum_type, typedef_name, attribute, SomeBody, no_body, some_body, StructItems, no_struct_items, more_struct_items, StructItem, member, member_semi, member_assert, MemDeclrs, no_mem_declrs, more_mem_declrs, MemDeclr, named, unnamed, SomeValue, no_value, some_value, EnumType, enum_of, SomeEnumBody, no_enum_body, some_enum_body, Enumerators, no_enumerators, more_enumerators, Declr, pointer, declr_name, declr_paren, array, params, abs_pointer, abs_paren, abs_array, abs_params, SomeDeclr, no_declr, some_declr, SomeSize, no_size, some_size, ArraySize, size_value, size_star, Params, no_params, more_params, Init, init_value, init_braced, InitList, init_list, InitItems, no_init_items, more_init_items, Desigs, no_desigs, more_desigs, Desig, member_desig, index_desig, SomeInit, no_init, some_init, InitDeclrs, no_init_declrs, more_init_declrs, Declaration, declaration, Decl, decl_declaration, decl_assert, BlockItems, no_block_items, more_block_items, BlockItem, block_decl, block_stmt, Stmt, block, expr_stmt, attr_stmt, label, case_stmt, default_stmt, if_stmt, switch_stmt, while_stmt, do_stmt, for_stmt, goto_stmt, continue_stmt, break_stmt, return_stmt, asm_stmt, SomeElse, no_else, some_else, ForStart, start_declaration, start_value, Dots, complex_part, label_use, compat, choose, generic, Assocs, no_assocs, more_assocs, Assoc, typed_assoc, default_assoc, typeof_value, typeof_type, align, auto_word, identifiers, base_name, range_desig, old_desig, block_labels, case_range, goto_value}

-- the `...` of a list of parameters
abbrev pub dots_of : Ellipsis → Dots
dots_of e = record { comma = e.comma; quals = e.quals.items; dots = e.dots }

abbrev mutual
  -- an expression
  pub expr_of : rust_expr.Expr → Expr
  expr_of (rust_expr.Comma' _ a t _ b) = operation (expr_of a) comma t (expr_of b)
  expr_of (rust_expr.Assign' _ a t p _ b) = operation (expr_of a) (assign p) t (expr_of b)
  expr_of (rust_expr.Cond' _ a t m colon _ b) = operation (expr_of a) (cond (some_expr_of m) colon) t (expr_of b)
  expr_of (rust_expr.Or' _ a t _ b) = operation (expr_of a) (binary puncts.BarBar) t (expr_of b)
  expr_of (rust_expr.And' _ a t _ b) = operation (expr_of a) (binary puncts.AmpersandAmpersand) t (expr_of b)
  expr_of (rust_expr.BitOr' _ a t _ b) = operation (expr_of a) (binary puncts.Bar) t (expr_of b)
  expr_of (rust_expr.BitXor' _ a t _ b) = operation (expr_of a) (binary puncts.Caret) t (expr_of b)
  expr_of (rust_expr.BitAnd' _ a t _ b) = operation (expr_of a) (binary puncts.Ampersand) t (expr_of b)
  expr_of (rust_expr.Equal' _ a t _ b) = operation (expr_of a) (binary puncts.EqualEqual) t (expr_of b)
  expr_of (rust_expr.NotEqual' _ a t _ b) = operation (expr_of a) (binary puncts.BangEqual) t (expr_of b)
  expr_of (rust_expr.Less' _ a t _ b) = operation (expr_of a) (binary puncts.Less) t (expr_of b)
  expr_of (rust_expr.Greater' _ a t _ b) = operation (expr_of a) (binary puncts.Greater) t (expr_of b)
  expr_of (rust_expr.LessEqual' _ a t _ b) = operation (expr_of a) (binary puncts.LessEqual) t (expr_of b)
  expr_of (rust_expr.GreaterEqual' _ a t _ b) = operation (expr_of a) (binary puncts.GreaterEqual) t (expr_of b)
  expr_of (rust_expr.ShiftLeft' _ a t _ b) = operation (expr_of a) (binary puncts.ShiftLeft) t (expr_of b)
  expr_of (rust_expr.ShiftRight' _ a t _ b) = operation (expr_of a) (binary puncts.ShiftRight) t (expr_of b)
  expr_of (rust_expr.Plus' _ a t _ b) = operation (expr_of a) (binary puncts.Plus) t (expr_of b)
  expr_of (rust_expr.Minus' _ a t _ b) = operation (expr_of a) (binary puncts.Minus) t (expr_of b)
  expr_of (rust_expr.Times' _ a t _ b) = operation (expr_of a) (binary puncts.Star) t (expr_of b)
  expr_of (rust_expr.Divide' _ a t _ b) = operation (expr_of a) (binary puncts.Slash) t (expr_of b)
  expr_of (rust_expr.Remainder' _ a t _ b) = operation (expr_of a) (binary puncts.Percent) t (expr_of b)
  expr_of (rust_expr.Cast' opening _ ws d closing _ e) =
      cast opening (spec_words_of ws) (some_declr_of d) closing (expr_of e)
  expr_of (rust_expr.Prefix' token p _ e) = prefix token p (expr_of e)
  expr_of (rust_expr.Sizeof' word _ e) = sizeof_value word (expr_of e)
  expr_of (rust_expr.SizeofType' word opening _ ws d closing) =
      sizeof_type word opening (spec_words_of ws) (some_declr_of d) closing
  expr_of (rust_expr.Ext' keyword _ e) = extension keyword (expr_of e)
  expr_of (rust_expr.Index' _ e opening _ e2 closing) = index (expr_of e) opening (expr_of e2) closing
  expr_of (rust_expr.Call' _ e opening _ es closing) = call (expr_of e) opening (exprs_of es) closing
  expr_of (rust_expr.Dot' _ e token name) = dot (expr_of e) token name
  expr_of (rust_expr.Arrow' _ e token name) = arrow (expr_of e) token name
  expr_of (rust_expr.Post' _ e token p) = post (expr_of e) token p
  expr_of (rust_expr.Compound' opening _ ws d closing list) =
      compound opening (spec_words_of ws) (some_declr_of d) closing (init_list_of list)
  expr_of (rust_expr.NameUse token name) = name_use token name
  expr_of (rust_expr.NumberUse token) = number_use token
  expr_of (rust_expr.CharUse token) = char_use token
  expr_of (rust_expr.TextUse texts) = text_use texts.items
  expr_of (rust_expr.Paren' opening _ e closing) = paren opening (expr_of e) closing
  expr_of (rust_expr.StmtExpr' opening opening2 _ items closing closing2) =
      statement_expr opening opening2 (block_items_of items) closing closing2
  expr_of (rust_expr.VaArg' keyword opening _ e separator _ ws d closing) =
      va_arg keyword opening (expr_of e) separator (spec_words_of ws) (some_declr_of d) closing
  expr_of (rust_expr.VaStart' keyword opening _ e separator _ e2 closing) =
      va_start keyword opening (expr_of e) separator (expr_of e2) closing
  expr_of (rust_expr.VaCopy' keyword opening _ e separator _ e2 closing) =
      va_copy keyword opening (expr_of e) separator (expr_of e2) closing
  expr_of (rust_expr.Offset' keyword opening _ ws d separator name _ steps closing) =
      offset keyword opening (spec_words_of ws) (some_declr_of d) separator name (desigs_of steps) closing
  expr_of (rust_expr.Part' keyword _ e) = complex_part keyword (expr_of e)
  expr_of (rust_expr.LabelUse token name) = label_use token name
  expr_of (rust_expr.Compat' keyword opening _ ws d separator _ ws2 d2 closing) =
      compat keyword opening (spec_words_of ws) (some_declr_of d) separator (spec_words_of ws2)
      (some_declr_of d2) closing
  expr_of (rust_expr.Choose' keyword opening _ e separator _ e2 separator2 _ e3 closing) =
      choose keyword opening (expr_of e) separator (expr_of e2) separator2 (expr_of e3) closing
  expr_of (rust_expr.Generic' keyword opening _ e _ xs closing) =
      generic keyword opening (expr_of e) (assocs_of xs) closing

  -- the associations of a generic selection
  pub assocs_of : {m : _} → rust_expr.Row_of-Assoc m → Assocs
  assocs_of rust_expr.end_of-Assoc = no_assocs
  assocs_of (rust_expr.more_of-Assoc x xs) = more_assocs (assoc_of x) (assocs_of xs)

  -- one association of a generic selection
  pub assoc_of : rust_assoc.Assoc → Assoc
  assoc_of (rust_assoc.Typed' _ ws d colon _ e) = typed_assoc (spec_words_of ws) (some_declr_of d) colon (expr_of e)
  assoc_of (rust_assoc.Default' keyword colon _ e) = default_assoc keyword colon (expr_of e)

  -- an expression that may be left out
  pub some_expr_of : rust_expr.Held-Expr-Cond-2 → SomeExpr
  some_expr_of rust_expr.Expr-Cond-2-None' = no_expr
  some_expr_of (rust_expr.Expr-Cond-2-Some' _ e) = some_expr (expr_of e)

  -- the arguments of a call
  pub exprs_of : {m : _} → rust_expr.Row_of-Expr m → Exprs
  exprs_of rust_expr.end_of-Expr = no_exprs
  exprs_of (rust_expr.more_of-Expr e es) = more_exprs (expr_of e) (exprs_of es)

  -- the words of specifiers
  pub spec_words_of : {m : _} → rust_specs.Row_of-SpecWord m → SpecWords
  spec_words_of rust_specs.end_of-SpecWord = no_words
  spec_words_of (rust_specs.more_of-SpecWord w ws) = more_words (spec_word_of w) (spec_words_of ws)

  -- one word of specifiers
  pub spec_word_of : rust_spec_word.SpecWord → SpecWord
  spec_word_of (rust_spec_word.Storage word) = storage word
  spec_word_of (rust_spec_word.Thread keyword) = thread keyword
  spec_word_of (rust_spec_word.Inline keyword) = inline_word keyword
  spec_word_of (rust_spec_word.Noreturn keyword) = noreturn keyword
  spec_word_of (rust_spec_word.Qual qual) = qualifier qual
  spec_word_of (rust_spec_word.«Type» word) = basic word
  spec_word_of (rust_spec_word.Struct' _ word attrs tag body) = struct_type word attrs.items tag (some_body_of body)
  spec_word_of (rust_spec_word.Enum' _ it) = enum_type (enum_type_of it)
  spec_word_of (rust_spec_word.TypedefName name) = typedef_name name
  spec_word_of (rust_spec_word.Attr attr) = attribute attr
  spec_word_of (rust_spec_word.Typeof' keyword opening _ e closing) = typeof_value keyword opening (expr_of e) closing
  spec_word_of (rust_spec_word.TypeofType' word opening _ ws d closing) =
      typeof_type word opening (spec_words_of ws) (some_declr_of d) closing
  spec_word_of (rust_spec_word.Align attr) = align attr
  spec_word_of (rust_spec_word.Auto token) = auto_word token

  -- the body of a struct or union, where it has one
  pub some_body_of : rust_struct.Held-Struct-body → SomeBody
  some_body_of rust_struct.Struct-body-None' = no_body
  some_body_of (rust_struct.Struct-body-Some' opening _ items closing) =
      some_body opening (struct_items_of items) closing

  -- the members of a struct or union
  pub struct_items_of : {m : _} → rust_struct.Row_of-StructItem m → StructItems
  struct_items_of rust_struct.end_of-StructItem = no_struct_items
  struct_items_of (rust_struct.more_of-StructItem item items) =
      more_struct_items (struct_item_of item) (struct_items_of items)

  -- one member's declaration
  pub struct_item_of : rust_struct_item.StructItem → StructItem
  struct_item_of (rust_struct_item.Member' exts _ ws _ ds semi) =
      member exts.items (spec_words_of ws) (mem_declrs_of ds) semi
  struct_item_of (rust_struct_item.Semi semi) = member_semi semi
  struct_item_of (rust_struct_item.Assert it) = member_assert it

  -- the declarators of a member's declaration
  pub mem_declrs_of : {m : _} → rust_member.Row_of-Member-declrs-2 m → MemDeclrs
  mem_declrs_of rust_member.end_of-Member-declrs-2 = no_mem_declrs
  mem_declrs_of (rust_member.more_of-Member-declrs-2 attrs d ds) =
      more_mem_declrs attrs.items (mem_declr_of d) (mem_declrs_of ds)

  -- one declarator of a member, or the width of an unnamed bit-field
  pub mem_declr_of : rust_mem_declr.MemDeclr → MemDeclr
  mem_declr_of (rust_mem_declr.Named' _ d width attrs) = named (declr_of d) (some_value_of width) attrs.items
  mem_declr_of (rust_mem_declr.Unnamed' colon _ e attrs) = unnamed colon (expr_of e) attrs.items

  -- a width or a value, with the sign before it
  pub some_value_of : rust_mem_declr.Held-MemDeclr-Named-1 → SomeValue
  some_value_of rust_mem_declr.MemDeclr-Named-1-None' = no_value
  some_value_of (rust_mem_declr.MemDeclr-Named-1-Some' token _ e) = some_value token (expr_of e)

  -- an enumeration type
  pub enum_type_of : rust_enum.Enum → EnumType
  enum_type_of (rust_enum.Enum' keyword attrs tag body) = enum_of keyword attrs.items tag (some_enum_body_of body)

  -- the body of an enumeration, where it has one
  pub some_enum_body_of : rust_enum.Held-Enum-body → SomeEnumBody
  some_enum_body_of rust_enum.Enum-body-None' = no_enum_body
  some_enum_body_of (rust_enum.Enum-body-Some' opening _ es last closing) =
      some_enum_body opening (enumerators_of es) last closing

  -- the enumerators of an enumeration
  pub enumerators_of : {m : _} → rust_enum.Row_of-Enumerator m → Enumerators
  enumerators_of rust_enum.end_of-Enumerator = no_enumerators
  enumerators_of (rust_enum.more_of-Enumerator name attrs value es) =
      more_enumerators name attrs.items (some_value_of value) (enumerators_of es)

  -- a declarator
  pub declr_of : rust_declr.Declr → Declr
  declr_of (rust_declr.Pointer' star words _ d) = pointer star words.items (declr_of d)
  declr_of (rust_declr.DeclName token name) = declr_name token name
  declr_of (rust_declr.DeclParen' opening attrs _ d closing) = declr_paren opening attrs.items (declr_of d) closing
  declr_of (rust_declr.Array' _ d opening words size closing) =
      array (declr_of d) opening words.items (some_size_of size) closing
  declr_of (rust_declr.Params' _ d opening _ ps dots closing) =
      params (declr_of d) opening (params_of ps) (option_map dots_of dots) closing
  declr_of (rust_declr.AbsPointer' star words d) = abs_pointer star words.items (some_declr_of d)
  declr_of (rust_declr.AbsParen' opening attrs _ d closing) = abs_paren opening attrs.items (declr_of d) closing
  declr_of (rust_declr.AbsArray' d opening words size closing) =
      abs_array (some_declr_of d) opening words.items (some_size_of size) closing
  declr_of (rust_declr.AbsParams' d opening _ ps dots closing) =
      abs_params (some_declr_of d) opening (params_of ps) (option_map dots_of dots) closing
  declr_of (rust_declr.Identifiers' _ d opening names closing) = identifiers (declr_of d) opening names.items closing
  declr_of (rust_declr.BaseName token) = base_name token

  -- a declarator that may be absent
  pub some_declr_of : rust_declr.Held-Declr-AbsPointer-2 → SomeDeclr
  some_declr_of rust_declr.Declr-AbsPointer-2-None' = no_declr
  some_declr_of (rust_declr.Declr-AbsPointer-2-Some' _ d) = some_declr (declr_of d)

  -- the size of an array, where it stands
  pub some_size_of : rust_declr.Held-Declr-Array-3 → SomeSize
  some_size_of rust_declr.Declr-Array-3-None' = no_size
  some_size_of (rust_declr.Declr-Array-3-Some' size) = some_size (array_size_of size)

  -- the size of an array: an expression or `*`
  pub array_size_of : rust_array_size.ArraySize → ArraySize
  array_size_of (rust_array_size.Value' _ e) = size_value (expr_of e)
  array_size_of (rust_array_size.Star star) = size_star star

  -- the parameters of a function declarator
  pub params_of : {m : _} → rust_declr.Row_of-Param m → Params
  params_of rust_declr.end_of-Param = no_params
  params_of (rust_declr.more_of-Param _ ws d attrs ps) =
      more_params (spec_words_of ws) (some_declr_of d) attrs.items (params_of ps)

  -- an initialiser
  pub init_of : rust_init.Init → Init
  init_of (rust_init.Value' _ e) = init_value (expr_of e)
  init_of (rust_init.InitList list) = init_braced (init_list_of list)

  -- a braced list of initialisers
  pub init_list_of : rust_init_list.InitList → InitList
  init_list_of (rust_init_list.InitList' opening _ items last closing) =
      init_list opening (init_items_of items) last closing

  -- the items of a list of initialisers
  pub init_items_of : {m : _} → rust_init_list.Row_of-InitItem m → InitItems
  init_items_of rust_init_list.end_of-InitItem = no_init_items
  init_items_of (rust_init_list.more_of-InitItem _ ds equal init items) =
      more_init_items (desigs_of ds) equal (init_of init) (init_items_of items)

  -- designators, or the steps of an offset
  pub desigs_of : {m : _} → rust_init_item.Row_of-Desig m → Desigs
  desigs_of rust_init_item.end_of-Desig = no_desigs
  desigs_of (rust_init_item.more_of-Desig d ds) = more_desigs (desig_of d) (desigs_of ds)

  -- one designator
  pub desig_of : rust_desig.Desig → Desig
  desig_of (rust_desig.Member token name) = member_desig token name
  desig_of (rust_desig.Index' opening _ e closing) = index_desig opening (expr_of e) closing
  desig_of (rust_desig.Range' opening _ e dots _ e2 closing) = range_desig opening (expr_of e) dots (expr_of e2) closing
  desig_of (rust_desig.Old name colon) = old_desig name colon

  -- the initialiser of a declarator, where there is one
  pub some_init_of : rust_init_declr.Held-InitDeclr-init → SomeInit
  some_init_of rust_init_declr.InitDeclr-init-None' = no_init
  some_init_of (rust_init_declr.InitDeclr-init-Some' equal init) = some_init equal (init_of init)

  -- the declarators of a declaration
  pub init_declrs_of : {m : _} → rust_declaration.Row_of-Declaration-declrs-2 m → InitDeclrs
  init_declrs_of rust_declaration.end_of-Declaration-declrs-2 = no_init_declrs
  init_declrs_of (rust_declaration.more_of-Declaration-declrs-2 attrs _ d asm_label attrs2 init ds) =
      more_init_declrs attrs.items (declr_of d) asm_label attrs2.items (some_init_of init) (init_declrs_of ds)

  -- a declaration
  pub declaration_of : rust_declaration.Declaration → Declaration
  declaration_of (rust_declaration.Declaration' exts _ ws _ ds semi) =
      declaration exts.items (spec_words_of ws) (init_declrs_of ds) semi

  -- a declaration or a `_Static_assert`
  pub decl_of : rust_decl.Decl → Decl
  decl_of (rust_decl.Declaration' _ d) = decl_declaration (declaration_of d)
  decl_of (rust_decl.Assert it) = decl_assert it

  -- the items of a block
  pub block_items_of : {m : _} → rust_block.Row_of-BlockItem m → BlockItems
  block_items_of rust_block.end_of-BlockItem = no_block_items
  block_items_of (rust_block.more_of-BlockItem item items) =
      more_block_items (block_item_of item) (block_items_of items)

  -- one item of a block
  pub block_item_of : rust_block_item.BlockItem → BlockItem
  block_item_of (rust_block_item.Decl' _ d) = block_decl (decl_of d)
  block_item_of (rust_block_item.Stmt' _ s) = block_stmt (stmt_of s)
  block_item_of (rust_block_item.Labels keyword names semi) = block_labels keyword names.items semi

  -- a statement
  pub stmt_of : rust_stmt.Stmt → Stmt
  stmt_of (rust_stmt.Block' opening _ items closing) = block opening (block_items_of items) closing
  stmt_of (rust_stmt.ExprStmt' e semi) = expr_stmt (some_expr_of e) semi
  stmt_of (rust_stmt.AttrStmt attrs semi) = attr_stmt attrs.items semi
  stmt_of (rust_stmt.Label' name colon attrs _ s) = label name colon attrs.items (stmt_of s)
  stmt_of (rust_stmt.Case' keyword _ e colon _ s) = case_stmt keyword (expr_of e) colon (stmt_of s)
  stmt_of (rust_stmt.Default' keyword colon _ s) = default_stmt keyword colon (stmt_of s)
  stmt_of (rust_stmt.If' keyword opening _ e closing _ s other) =
      if_stmt keyword opening (expr_of e) closing (stmt_of s) (some_else_of other)
  stmt_of (rust_stmt.Switch' keyword opening _ e closing _ s) =
      switch_stmt keyword opening (expr_of e) closing (stmt_of s)
  stmt_of (rust_stmt.While' keyword opening _ e closing _ s) =
      while_stmt keyword opening (expr_of e) closing (stmt_of s)
  stmt_of (rust_stmt.Do' keyword _ s keyword2 opening _ e closing semi) =
      do_stmt keyword (stmt_of s) keyword2 opening (expr_of e) closing semi
  stmt_of (rust_stmt.For' keyword opening start e semi e2 closing _ s) =
      for_stmt keyword opening (for_start_of start) (some_expr_of e) semi (some_expr_of e2) closing (stmt_of s)
  stmt_of (rust_stmt.Goto keyword name semi) = goto_stmt keyword name semi
  stmt_of (rust_stmt.Continue keyword semi) = continue_stmt keyword semi
  stmt_of (rust_stmt.Break keyword semi) = break_stmt keyword semi
  stmt_of (rust_stmt.Return' keyword e semi) = return_stmt keyword (some_expr_of e) semi
  stmt_of (rust_stmt.Asm keyword words group semi) = asm_stmt keyword words.items group semi
  stmt_of (rust_stmt.CaseRange' keyword _ e dots _ e2 colon _ s) =
      case_range keyword (expr_of e) dots (expr_of e2) colon (stmt_of s)
  stmt_of (rust_stmt.GotoValue' keyword star _ e semi) = goto_value keyword star (expr_of e) semi

  -- the `else` of an `if`, where there is one
  pub some_else_of : rust_stmt.Held-Stmt-If-5 → SomeElse
  some_else_of rust_stmt.Stmt-If-5-None' = no_else
  some_else_of (rust_stmt.Stmt-If-5-Some' keyword _ s) = some_else keyword (stmt_of s)

  -- the first clause of a `for`
  pub for_start_of : rust_for_start.ForStart → ForStart
  for_start_of (rust_for_start.Declaration' _ d) = start_declaration (declaration_of d)
  for_start_of (rust_for_start.Value' e semi) = start_value (some_expr_of e) semi
