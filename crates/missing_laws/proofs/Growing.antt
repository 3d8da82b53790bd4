-- Along a tree what is known of names grows.
use Rattle.std.proofs.Common.{ℕ, suc, Bool, true, false, List, [], ◌∷◌, Option, None, Some, refl}
use Rattle.std.specs.Prelude.{if◌then◌else◌}
use Rattle.c_words.specs.declared.kinds.Keyword.{Keyword}
use Rattle.c_words.specs.declared.kinds.Keyword.TheVariants as keywords
use Rattle.c_syntax.specs.declared.parts.Identifier.{Identifier}
use Rattle.tape_ops.specs.declared.specifier.TagKind.{TagKind}
use Rattle.tape_ops.specs.declared.specifier.TagKind.TheVariants as tags
use Rattle.c_tree.specs.Tree.{Expr, operation, cast, prefix, sizeof_value, sizeof_type, extension, index, call, dot, arrow, post, compound, name_use, number_use, char_use, text_use, paren, statement_expr, va_arg, va_start, va_copy, offset, Operator, comma, assign, cond, binary, SomeExpr, no_expr, some_expr, Exprs, no_exprs, more_exprs, SpecWords, no_words, more_words, SpecWord, storage, thread, inline_word, noreturn, qualifier, basic, struct_type, enum_type, typedef_name, attribute, SomeBody, no_body, some_body, StructItems, no_struct_items, more_struct_items, StructItem, member, member_semi, member_assert, MemDeclrs, no_mem_declrs, more_mem_declrs, MemDeclr, named, unnamed, SomeValue, no_value, some_value, EnumType, enum_of, no_enum_body, some_enum_body, Enumerators, no_enumerators, more_enumerators, Declr, pointer, declr_name, declr_paren, array, params, abs_pointer, abs_paren, abs_array, abs_params, SomeDeclr, no_declr, some_declr, SomeSize, no_size, some_size, ArraySize, size_value, size_star, Params, no_params, more_params, Init, init_value, init_braced, InitList, init_list, InitItems, no_init_items, more_init_items, Desigs, no_desigs, more_desigs, Desig, member_desig, index_desig, SomeInit, no_init, some_init, InitDeclrs, no_init_declrs, more_init_declrs, Declaration, declaration, Decl, decl_declaration, decl_assert, BlockItems, no_block_items, more_block_items, BlockItem, block_decl, block_stmt, Stmt, block, expr_stmt, attr_stmt, label, case_stmt, default_stmt, if_stmt, switch_stmt, while_stmt, do_stmt, for_stmt, goto_stmt, continue_stmt, break_stmt, return_stmt, asm_stmt, SomeElse, no_else, some_else, ForStart, start_declaration, start_value, complex_part, label_use, compat, choose, generic, typeof_value, typeof_type, align, auto_word, range_desig, old_desig, case_range, goto_value, block_labels, identifiers, base_name, Assocs, no_assocs, more_assocs, Assoc, typed_assoc, default_assoc}
use Rattle.c_tree.specs.Unit.{Item, function_item, old_function_item, decl_item, asm_item, semi_item}
use Rattle.type_table.specs.Types.{Words, CType, base}
use Rattle.name_rules.specs.Identifiers.{OldParameter, Olds, identified, old_declared, old_declared_some, old_faults}
use Rattle.name_rules.specs.Declaring.{has_word}
use Rattle.name_rules.specs.Spellings.{Spelling, Place, place, Named}
use Rattle.name_rules.specs.Scopes.{enter, enumerator_role, Names}
use Rattle.name_rules.specs.Declaring.{tag_used, untagged, untagged_number, own_where}
use Rattle.type_rules.specs.Tokens.{are_auto, declared_name, some_declared_name, is_bare}
use Rattle.type_rules.specs.Naming.{assoc_named, assocs_named, auto_declrs_named, auto_named, identifiers_named, old_declaration_named, old_declarations_named, old_declr_named, old_declrs_named, old_function_by, typed_by, tag_kind, tag_named, body_begun, unnamed_by, unnamed_among, is_tag_alone, said_words, has_untagged, words_behind, expr_named, operator_named, some_expr_named, exprs_named, words_named, word_named, struct_named, struct_items_named, struct_item_named, unnamed_where, mem_declrs_named, mem_declr_named, some_value_named, enum_named, enumerators_named, declr_named, some_declr_named, some_size_named, array_size_named, params_named, init_named, init_list_named, init_items_named, desigs_named, desig_named, some_init_named, init_declrs_named, declaration_named, decl_named, block_items_named, block_item_named, stmt_named, some_else_named, for_start_named, function_by, item_named, items_named}
use Rattle.missing_laws.proofs.Growth.{faults_grow, grows_where, Grows, stays, joins, enter_grows, leave_grows, keep_grows, used_grows, sized_grows, type_grows, tag_grows, alike, body_grows, here_grows, thing_grows, some_grows, param_grows, member_grows, unnamed_grows, entered_grows, left_grows}

module _ (u : Spelling) where
  tag_named_grows : (alone : Bool) (kind : TagKind) (tag : Option Identifier) (t : CType) (s : Names) →
      Grows s (tag_named u alone kind tag t s).names
  tag_named_grows alone kind None t s = stays s
  tag_named_grows alone kind (Some tag) t s = tag_grows u alone kind tag.token tag.name s

  pub body_begun_grows : (kind : TagKind) (keyword : ℕ) (tag : Option Identifier) (s : Names) →
      Grows s (body_begun u kind keyword tag s).names
  body_begun_grows kind keyword None s = joins (alike s (untagged (place u keyword) kind s).names refl refl refl refl)
      (body_grows (place u keyword) kind None (untagged (place u keyword) kind s))
  body_begun_grows kind keyword (Some tag) s = joins (tag_grows u true kind tag.token tag.name s)
      (body_grows (place u tag.token) kind (Some (u.key tag.name)) (tag_used u true kind tag.token tag.name s))

  unnamed_by_grows : (word : SpecWord) (n : ℕ) (t : CType) (s : Names) → Grows s (unnamed_by u word n t s)
  unnamed_by_grows (struct_type word attrs None body) n t s = unnamed_grows (place u word.token) n t s
  unnamed_by_grows (struct_type word attrs (Some tag) body) n t s = stays s
  unnamed_by_grows (storage word) n t s = stays s
  unnamed_by_grows (thread token) n t s = stays s
  unnamed_by_grows (inline_word token) n t s = stays s
  unnamed_by_grows (noreturn token) n t s = stays s
  unnamed_by_grows (qualifier q) n t s = stays s
  unnamed_by_grows (basic word) n t s = stays s
  unnamed_by_grows (enum_type e) n t s = stays s
  unnamed_by_grows (typedef_name name) n t s = stays s
  unnamed_by_grows (attribute attr) n t s = stays s
  unnamed_by_grows (typeof_value keyword opening e closing) n t s = stays s
  unnamed_by_grows (typeof_type word opening ws d closing) n t s = stays s
  unnamed_by_grows (align attr) n t s = stays s
  unnamed_by_grows (auto_word token) n t s = stays s

  pub unnamed_among_grows : (ws : SpecWords) (n : ℕ) (t : CType) (s : Names) → Grows s (unnamed_among u ws n t s)
  unnamed_among_grows no_words n t s = stays s
  unnamed_among_grows (more_words word ws) n t s = joins (unnamed_by_grows word n t s) (unnamed_among_grows ws n t _)

  pub typed_by_grows : (token : ℕ) (o : Option CType) (s : Names) → Grows s (typed_by u token o s).names
  typed_by_grows token None s = faults_grow _ s
  typed_by_grows token (Some t) s = stays s

  mutual
    pub expr_grows : (c : Bool) (e : Expr) (s : Names) → Grows s (expr_named u c e s)
    expr_grows c (operation e op token e2) s =
        joins (expr_grows false e s) (joins (operator_grows op _) (expr_grows false e2 _))
    expr_grows c (cast opening ws d closing e) s = joins (words_grow false ws (base []) [] s)
        (joins (some_declr_grows d _) (joins (type_grows _ _ _) (expr_grows false e _)))
    expr_grows c (prefix token p e) s = expr_grows false e s
    expr_grows c (sizeof_value word e) s = expr_grows false e s
    expr_grows c (sizeof_type word opening ws d closing) s = joins (words_grow false ws (base []) [] s)
        (joins (some_declr_grows d _) (type_grows _ _ _))
    expr_grows c (extension keyword e) s = expr_grows false e s
    expr_grows c (index e opening e2 closing) s = joins (expr_grows false e s) (expr_grows false e2 _)
    expr_grows c (call e opening es closing) s = joins (expr_grows true e s) (exprs_grow es _)
    expr_grows c (dot e token name) s = expr_grows false e s
    expr_grows c (arrow e token name) s = expr_grows false e s
    expr_grows c (post e token p) s = expr_grows false e s
    expr_grows c (compound opening ws d closing list) s = joins (words_grow false ws (base []) [] s)
        (joins (some_declr_grows d _) (joins (type_grows _ _ _) (init_list_grows list _)))
    expr_grows c (name_use token name) s = used_grows u c token name s
    expr_grows c (number_use token) s = stays s
    expr_grows c (char_use token) s = stays s
    expr_grows c (text_use texts) s = stays s
    expr_grows c (paren opening e closing) s = expr_grows false e s
    expr_grows c (statement_expr opening opening2 items closing closing2) s =
        joins (enter_grows s) (joins (block_items_grow items _) (leave_grows _))
    expr_grows c (va_arg keyword opening e separator ws d closing) s = joins (expr_grows false e s)
        (joins (words_grow false ws (base []) [] _) (joins (some_declr_grows d _) (type_grows _ _ _)))
    expr_grows c (va_start keyword opening e separator e2 closing) s =
        joins (expr_grows false e s) (expr_grows false e2 _)
    expr_grows c (va_copy keyword opening e separator e2 closing) s =
        joins (expr_grows false e s) (expr_grows false e2 _)
    expr_grows c (offset keyword opening ws d separator name steps closing) s =
        joins (words_grow false ws (base []) [] s)
        (joins (some_declr_grows d _) (joins (type_grows _ _ _) (desigs_grow steps _)))
    expr_grows c (complex_part keyword e) s = expr_grows false e s
    expr_grows c (label_use token name) s = stays s
    expr_grows c (compat keyword opening ws d separator ws2 d2 closing) s = joins (words_grow false ws (base []) [] s)
        (joins (some_declr_grows d _) (joins (type_grows _ _ _) (joins (words_grow false ws2 (base []) [] _)
        (joins (some_declr_grows d2 _) (type_grows _ _ _)))))
    expr_grows c (choose keyword opening e separator e2 separator2 e3 closing) s =
        joins (expr_grows false e s) (joins (expr_grows false e2 _) (expr_grows false e3 _))
    expr_grows c (generic keyword opening e xs closing) s = joins (expr_grows false e s) (assocs_grow xs _)

    pub assocs_grow : (xs : Assocs) (s : Names) → Grows s (assocs_named u xs s)
    assocs_grow no_assocs s = stays s
    assocs_grow (more_assocs x xs) s = joins (assoc_grows x s) (assocs_grow xs _)

    pub assoc_grows : (x : Assoc) (s : Names) → Grows s (assoc_named u x s)
    assoc_grows (typed_assoc ws d colon e) s = joins (words_grow false ws (base []) [] s)
        (joins (some_declr_grows d _) (joins (type_grows _ _ _) (expr_grows false e _)))
    assoc_grows (default_assoc keyword colon e) s = expr_grows false e s

    pub operator_grows : (op : Operator) (s : Names) → Grows s (operator_named u op s)
    operator_grows comma s = stays s
    operator_grows (assign p) s = stays s
    operator_grows (cond e colon) s = some_expr_grows e s
    operator_grows (binary p) s = stays s

    pub some_expr_grows : (e : SomeExpr) (s : Names) → Grows s (some_expr_named u e s)
    some_expr_grows no_expr s = stays s
    some_expr_grows (some_expr e) s = expr_grows false e s

    pub exprs_grow : (es : Exprs) (s : Names) → Grows s (exprs_named u es s)
    exprs_grow no_exprs s = stays s
    exprs_grow (more_exprs e es) s = joins (expr_grows false e s) (exprs_grow es _)

    pub words_grow : (alone : Bool) (ws : SpecWords) (t : CType) (annotations : Words) (s : Names) →
        Grows s (words_named u alone ws t annotations s).names
    words_grow alone no_words t annotations s = stays s
    words_grow alone (more_words word words) t annotations s =
        joins (word_grows alone word t s) (words_grow alone words _ (words_behind u word annotations) _)

    pub word_grows : (alone : Bool) (word : SpecWord) (t : CType) (s : Names)
        → Grows s (word_named u alone word t s).names
    word_grows alone (storage word) t s = stays s
    word_grows alone (thread token) t s = stays s
    word_grows alone (inline_word token) t s = stays s
    word_grows alone (noreturn token) t s = stays s
    word_grows alone (qualifier q) t s = stays s
    word_grows alone (basic word) t s = stays s
    word_grows alone (struct_type word attrs tag body) t s =
        struct_grows alone (tag_kind word.keyword) word.token tag body t s
    word_grows alone (enum_type e) t s = enum_grows e s
    word_grows alone (typedef_name name) t s = stays s
    word_grows alone (attribute attr) t s = stays s
    word_grows alone (typeof_value keyword opening e closing) t s =
        joins (expr_grows false e s) (typed_by_grows closing _ _)
    word_grows alone (typeof_type word opening ws d closing) t s = joins (words_grow false ws (base []) [] s)
        (joins (some_declr_grows d _) (type_grows _ _ _))
    word_grows alone (align attr) t s = stays s
    word_grows alone (auto_word token) t s = stays s

    pub struct_grows : (alone : Bool) (kind : TagKind) (keyword : ℕ) (tag : Option Identifier)
        (body : SomeBody) (t : CType)
        (s : Names) → Grows s (struct_named u alone kind keyword tag body t s).names
    struct_grows alone kind keyword tag no_body t s = tag_named_grows alone kind tag t s
    struct_grows alone kind keyword tag (some_body opening items closing) t s =
        joins (body_begun_grows kind keyword tag s) (struct_items_grow _ items _)

    pub struct_items_grow : (n : ℕ) (items : StructItems) (s : Names) → Grows s (struct_items_named u n items s)
    struct_items_grow n no_struct_items s = stays s
    struct_items_grow n (more_struct_items item items) s =
        joins (struct_item_grows n item s) (struct_items_grow n items _)

    pub struct_item_grows : (n : ℕ) (item : StructItem) (s : Names) → Grows s (struct_item_named u n item s)
    struct_item_grows n (member exts ws ds semi) s = joins (words_grow false ws (base []) [] s)
        (joins (unnamed_where_grows ds ws n _ _) (mem_declrs_grow n _ ds _))
    struct_item_grows n (member_semi semi) s = stays s
    struct_item_grows n (member_assert it) s = stays s

    pub unnamed_where_grows : (ds : MemDeclrs) (ws : SpecWords) (n : ℕ) (t : CType) (s : Names) →
        Grows s (unnamed_where u ds ws n t s)
    unnamed_where_grows no_mem_declrs ws n t s = unnamed_among_grows ws n t s
    unnamed_where_grows (more_mem_declrs attrs d ds) ws n t s = stays s

    pub mem_declrs_grow : (n : ℕ) (t : CType) (ds : MemDeclrs) (s : Names) → Grows s (mem_declrs_named u n t ds s)
    mem_declrs_grow n t no_mem_declrs s = stays s
    mem_declrs_grow n t (more_mem_declrs attrs d ds) s = joins (mem_declr_grows n t d s) (mem_declrs_grow n t ds _)

    pub mem_declr_grows : (n : ℕ) (t : CType) (d : MemDeclr) (s : Names) → Grows s (mem_declr_named u n t d s)
    mem_declr_grows n t (named d width attrs) s = joins (declr_grows None d s)
        (joins (member_grows u (declared_name d) n _ _) (some_value_grows width _))
    mem_declr_grows n t (unnamed colon e attrs) s = expr_grows false e s

    pub some_value_grows : (it : SomeValue) (s : Names) → Grows s (some_value_named u it s)
    some_value_grows no_value s = stays s
    some_value_grows (some_value token e) s = expr_grows false e s

    pub enum_grows : (e : EnumType) (s : Names) → Grows s (enum_named u e s)
    enum_grows (enum_of keyword attrs tag no_enum_body) s = tag_named_grows false tags.Enum tag (base []) s
    enum_grows (enum_of keyword attrs tag (some_enum_body opening es last closing)) s =
        joins (body_begun_grows tags.Enum keyword tag s) (enumerators_grow es _)

    pub enumerators_grow : (es : Enumerators) (s : Names) → Grows s (enumerators_named u es s)
    enumerators_grow no_enumerators s = stays s
    enumerators_grow (more_enumerators name attrs value es) s = joins (some_value_grows value s)
        (joins (here_grows (place u name.token) (u.key name.name) enumerator_role (base []) None _)
        (enumerators_grow es _))

    pub declr_grows : (own : Option Place) (d : Declr) (s : Names) → Grows s (declr_named u own d s).names
    declr_grows own (pointer star words d) s = declr_grows own d s
    declr_grows own (declr_name token name) s = stays s
    declr_grows own (declr_paren opening attrs d closing) s = declr_grows own d s
    declr_grows own (array d opening words size closing) s = joins (declr_grows own d s) (some_size_grows size _)
    declr_grows own (params d opening ps dots closing) s = joins (declr_grows own d s) (joins (enter_grows _)
        (joins (params_grow 0 (own_where (is_bare d) own) ps _) (keep_grows (own_where (is_bare d) own) _)))
    declr_grows own (identifiers d opening names closing) s =
        joins (declr_grows own d s) (joins (enter_grows _) (leave_grows _))
    declr_grows own (base_name token) s = stays s
    declr_grows own (abs_pointer star words d) s = some_declr_grows d s
    declr_grows own (abs_paren opening attrs d closing) s = declr_grows own d s
    declr_grows own (abs_array d opening words size closing) s = joins (some_declr_grows d s) (some_size_grows size _)
    declr_grows own (abs_params d opening ps dots closing) s = joins (some_declr_grows d s) (joins (enter_grows _)
        (joins (params_grow 0 None ps _) (leave_grows _)))

    pub some_declr_grows : (d : SomeDeclr) (s : Names) → Grows s (some_declr_named u d s).names
    some_declr_grows no_declr s = stays s
    some_declr_grows (some_declr d) s = declr_grows None d s

    pub some_size_grows : (it : SomeSize) (s : Names) → Grows s (some_size_named u it s)
    some_size_grows no_size s = stays s
    some_size_grows (some_size size) s = array_size_grows size s

    pub array_size_grows : (it : ArraySize) (s : Names) → Grows s (array_size_named u it s)
    array_size_grows (size_value e) s = expr_grows false e s
    array_size_grows (size_star star) s = stays s

    pub params_grow : (i : ℕ) (own : Option Place) (ps : Params) (s : Names) → Grows s (params_named u i own ps s).names
    params_grow i own no_params s = stays s
    params_grow i own (more_params ws d attrs ps) s = joins (words_grow false ws (base []) [] s)
        (joins (some_declr_grows d _)
        (joins (param_grows u (some_declared_name d) i own _ _) (params_grow (suc i) own ps _)))

    pub init_grows : (it : Init) (s : Names) → Grows s (init_named u it s)
    init_grows (init_value e) s = expr_grows false e s
    init_grows (init_braced list) s = init_list_grows list s

    pub init_list_grows : (list : InitList) (s : Names) → Grows s (init_list_named u list s)
    init_list_grows (init_list opening items last closing) s = init_items_grow items s

    pub init_items_grow : (items : InitItems) (s : Names) → Grows s (init_items_named u items s)
    init_items_grow no_init_items s = stays s
    init_items_grow (more_init_items ds equal it items) s =
        joins (desigs_grow ds s) (joins (init_grows it _) (init_items_grow items _))

    pub desigs_grow : (ds : Desigs) (s : Names) → Grows s (desigs_named u ds s)
    desigs_grow no_desigs s = stays s
    desigs_grow (more_desigs d ds) s = joins (desig_grows d s) (desigs_grow ds _)

    pub desig_grows : (d : Desig) (s : Names) → Grows s (desig_named u d s)
    desig_grows (member_desig token name) s = stays s
    desig_grows (index_desig opening e closing) s = expr_grows false e s
    desig_grows (range_desig opening e dots e2 closing) s = joins (expr_grows false e s) (expr_grows false e2 _)
    desig_grows (old_desig name colon) s = stays s

    pub some_init_grows : (it : SomeInit) (s : Names) → Grows s (some_init_named u it s)
    some_init_grows no_init s = stays s
    some_init_grows (some_init equal it) s = init_grows it s

    pub init_declrs_grow : (words : List Keyword) (is_untagged : Bool) (t : CType) (ds : InitDeclrs) (s : Names) →
        Grows s (init_declrs_named u words is_untagged t ds s)
    init_declrs_grow words is_untagged t no_init_declrs s = stays s
    init_declrs_grow words is_untagged t (more_init_declrs attrs d asm_label attrs2 it ds) s =
        joins (declr_grows None d s)
        (joins (some_grows u (untagged_number is_untagged t) (declared_name d) words _ _)
        (joins (some_init_grows it _) (init_declrs_grow words false t ds _)))

    pub declaration_grows : (d : Declaration) (s : Names) → Grows s (declaration_named u d s)
    declaration_grows (declaration exts ws ds semi) s = joins (words_grow (is_tag_alone ws ds) ws (base []) [] s)
        (grows_where (are_auto ws ds) _ _ _ (auto_declrs_grow (said_words ws) (has_untagged ws) semi _ ds _)
        (init_declrs_grow (said_words ws) (has_untagged ws) _ ds _))

    pub auto_declrs_grow : (words : List Keyword) (is_untagged : Bool) (semi : ℕ) (t : CType) (ds : InitDeclrs)
        (s : Names) → Grows s (auto_declrs_named u words is_untagged semi t ds s)
    auto_declrs_grow words is_untagged semi t no_init_declrs s = stays s
    auto_declrs_grow words is_untagged semi t (more_init_declrs attrs d asm_label attrs2 it ds) s =
        joins (declr_grows None d s) (joins (auto_grows words is_untagged semi t (declared_name d) it _)
        (auto_declrs_grow words false semi t ds _))

    pub auto_grows : (words : List Keyword) (is_untagged : Bool) (semi : ℕ) (t : CType) (o : Option Named)
        (it : SomeInit)
        (s : Names) → Grows s (auto_named u words is_untagged semi t o it s)
    auto_grows words is_untagged semi t o no_init s = stays s
    auto_grows words is_untagged semi t o (some_init equal (init_braced list)) s = stays s
    auto_grows words is_untagged semi t o (some_init equal (init_value e)) s = joins (expr_grows false e s)
        (joins (typed_by_grows semi _ _) (some_grows u (untagged_number is_untagged t) o words _ _))

    pub decl_grows : (d : Decl) (s : Names) → Grows s (decl_named u d s)
    decl_grows (decl_declaration d) s = declaration_grows d s
    decl_grows (decl_assert it) s = stays s

    pub block_items_grow : (items : BlockItems) (s : Names) → Grows s (block_items_named u items s)
    block_items_grow no_block_items s = stays s
    block_items_grow (more_block_items item items) s = joins (block_item_grows item s) (block_items_grow items _)

    pub block_item_grows : (item : BlockItem) (s : Names) → Grows s (block_item_named u item s)
    block_item_grows (block_decl d) s = decl_grows d s
    block_item_grows (block_stmt t) s = stmt_grows t s
    block_item_grows (block_labels keyword names semi) s = stays s

    pub stmt_grows : (t : Stmt) (s : Names) → Grows s (stmt_named u t s)
    stmt_grows (block opening items closing) s =
        joins (enter_grows s) (joins (block_items_grow items _) (leave_grows _))
    stmt_grows (expr_stmt e semi) s = some_expr_grows e s
    stmt_grows (attr_stmt attrs semi) s = stays s
    stmt_grows (label name colon attrs t) s = stmt_grows t s
    stmt_grows (case_stmt keyword e colon t) s = joins (expr_grows false e s) (stmt_grows t _)
    stmt_grows (default_stmt keyword colon t) s = stmt_grows t s
    stmt_grows (if_stmt keyword opening e closing t other) s = joins (enter_grows s) (joins (expr_grows false e _)
        (joins (enter_grows _) (joins (stmt_grows t _) (joins (leave_grows _)
        (joins (some_else_grows other _) (leave_grows _))))))
    stmt_grows (switch_stmt keyword opening e closing t) s = joins (enter_grows s) (joins (expr_grows false e _)
        (joins (enter_grows _) (joins (stmt_grows t _) (joins (leave_grows _) (leave_grows _)))))
    stmt_grows (while_stmt keyword opening e closing t) s = joins (enter_grows s) (joins (expr_grows false e _)
        (joins (enter_grows _) (joins (stmt_grows t _) (joins (leave_grows _) (leave_grows _)))))
    stmt_grows (do_stmt keyword t keyword2 opening e closing semi) s = joins (enter_grows s) (joins (enter_grows _)
        (joins (stmt_grows t _) (joins (leave_grows _) (joins (expr_grows false e _) (leave_grows _)))))
    stmt_grows (for_stmt keyword opening start e semi e2 closing t) s = joins (enter_grows s)
        (joins (for_start_grows start _) (joins (some_expr_grows e _) (joins (some_expr_grows e2 _)
        (joins (enter_grows _) (joins (stmt_grows t _) (joins (leave_grows _) (leave_grows _)))))))
    stmt_grows (goto_stmt keyword name semi) s = stays s
    stmt_grows (continue_stmt keyword semi) s = stays s
    stmt_grows (break_stmt keyword semi) s = stays s
    stmt_grows (return_stmt keyword e semi) s = some_expr_grows e s
    stmt_grows (asm_stmt keyword words group semi) s = stays s
    stmt_grows (case_range keyword e dots e2 colon t) s =
        joins (expr_grows false e s) (joins (expr_grows false e2 _) (stmt_grows t _))
    stmt_grows (goto_value keyword star e semi) s = expr_grows false e s

    pub some_else_grows : (it : SomeElse) (s : Names) → Grows s (some_else_named u it s)
    some_else_grows no_else s = stays s
    some_else_grows (some_else keyword t) s = joins (enter_grows s) (joins (stmt_grows t _) (leave_grows _))

    pub for_start_grows : (start : ForStart) (s : Names) → Grows s (for_start_named u start s)
    for_start_grows (start_declaration d) s = declaration_grows d s
    for_start_grows (start_value e semi) s = some_expr_grows e s

  pub function_grows : (it : Option Named) (ws : SpecWords) (d : Declr) (items : BlockItems) (s : Names) →
      Grows s (function_by u it ws d items s)
  function_grows None ws d items s = stays s
  function_grows (Some it) ws d items s = joins (words_grow false ws (base []) [] s) (joins (declr_grows _ d _)
      (joins (sized_grows (place u it.token) _ _)
      (joins (thing_grows (said_words ws) (place u it.token) (u.key it.name) _ _)
      (joins (entered_grows (place u it.token) _ _ _ _) (joins (block_items_grow items _) (left_grows _))))))

  -- lists of identifiers, with the declarations behind them

  pub identified_grows : (token name : ℕ) (it : Olds) → Grows it.names (identified u token name it).names
  identified_grows token name it = faults_grow _ it.names

  pub identifiers_grow : (names : List Identifier) (it : Olds) → Grows it.names (identifiers_named u names it).names
  identifiers_grow [] it = stays it.names
  identifiers_grow (name ∷ names) it = joins (identified_grows name.token name.name it) (identifiers_grow names _)

  pub old_declared_grows : (own : Option Place) (it : Named) (t : CType) (o : Option ℕ) (olds : Olds) →
      Grows olds.names (old_declared u own it t o olds).names
  old_declared_grows own it t None olds = faults_grow _ olds.names
  old_declared_grows own it t (Some i) olds = joins (faults_grow _ olds.names) (param_grows u (Some it) i own t _)

  pub old_some_grows : (own : Option Place) (o : Option Named) (t : CType) (olds : Olds) →
      Grows olds.names (old_declared_some u own o t olds).names
  old_some_grows own None t olds = stays olds.names
  old_some_grows own (Some it) t olds = old_declared_grows own it t _ olds

  pub olds_where : (b : Bool) (s : Names) (it other : Olds) → Grows s it.names → Grows s other.names →
      Grows s (if b then it else other).names
  olds_where true s it other g h = g
  olds_where false s it other g h = h

  pub old_declrs_grow : (own : Option Place) (words : List Keyword) (is_untagged : Bool) (t : CType) (ds : InitDeclrs)
      (it : Olds) → Grows it.names (old_declrs_named u own words is_untagged t ds it).names
  old_declrs_grow own words is_untagged t no_init_declrs it = stays it.names
  old_declrs_grow own words is_untagged t (more_init_declrs attrs d asm_label attrs2 init ds) it =
      joins (declr_grows None d it.names) (joins
      (olds_where (has_word keywords.Typedef words) _ _ _
      (some_grows u (untagged_number is_untagged t) (declared_name d) words _ _)
      (old_some_grows own (declared_name d) _ _))
      (joins (some_init_grows init _) (old_declrs_grow own words false t ds _)))

  pub old_declaration_grows : (own : Option Place) (d : Declaration) (it : Olds) →
      Grows it.names (old_declaration_named u own d it).names
  old_declaration_grows own (declaration exts ws ds semi) it =
      joins (words_grow (is_tag_alone ws ds) ws (base []) [] it.names) (olds_where (are_auto ws ds) _ _ _
      (auto_declrs_grow (said_words ws) (has_untagged ws) semi _ ds _)
      (old_declrs_grow own (said_words ws) (has_untagged ws) _ ds _))

  pub old_declarations_grow : (own : Option Place) (ds : List Declaration) (it : Olds) →
      Grows it.names (old_declarations_named u own ds it).names
  old_declarations_grow own [] it = stays it.names
  old_declarations_grow own (d ∷ ds) it = joins (old_declaration_grows own d it) (old_declarations_grow own ds _)

  pub old_faults_grow : (list : List OldParameter) (s : Names) → Grows s (old_faults u list s)
  old_faults_grow [] s = stays s
  old_faults_grow (it ∷ others) s = joins (faults_grow _ s) (old_faults_grow others _)

  pub old_declr_grows : (own : Option Place) (ds : List Declaration) (d : Declr) (s : Names) →
      Grows s (old_declr_named u own ds d s).names
  old_declr_grows own ds (identifiers d opening names closing) s =
      let first : Olds = record { list = []; names = enter (declr_named u None d s).names } in
      let listed : Olds = identifiers_named u names first in
      let done : Olds = old_declarations_named u own ds listed in
      joins (declr_grows None d s) (joins (enter_grows _) (joins (identifiers_grow names first)
      (joins (old_declarations_grow own ds listed) (joins (old_faults_grow done.list done.names) (keep_grows own _)))))
  old_declr_grows own ds (pointer star words d) s = old_declr_grows own ds d s
  old_declr_grows own ds (declr_paren opening attrs d closing) s = old_declr_grows own ds d s
  old_declr_grows own ds (array d opening words size closing) s =
      joins (old_declr_grows own ds d s) (some_size_grows size _)
  old_declr_grows own ds (params d opening ps dots closing) s =
      joins (old_declr_grows own ds d s) (joins (enter_grows _)
      (joins (params_grow 0 None ps _) (leave_grows _)))
  old_declr_grows own ds (declr_name token name) s = declr_grows None (declr_name token name) s
  old_declr_grows own ds (base_name token) s = declr_grows None (base_name token) s
  old_declr_grows own ds (abs_pointer star words d) s = declr_grows None (abs_pointer star words d) s
  old_declr_grows own ds (abs_paren opening attrs d closing) s = declr_grows None (abs_paren opening attrs d closing) s
  old_declr_grows own ds (abs_array d opening words size closing) s =
      declr_grows None (abs_array d opening words size closing) s
  old_declr_grows own ds (abs_params d opening ps dots closing) s =
      declr_grows None (abs_params d opening ps dots closing) s

  pub old_function_grows : (it : Option Named) (ws : SpecWords) (d : Declr) (ds : List Declaration) (items : BlockItems)
      (s : Names) → Grows s (old_function_by u it ws d ds items s)
  old_function_grows None ws d ds items s = stays s
  old_function_grows (Some it) ws d ds items s = joins (words_grow false ws (base []) [] s)
      (joins (old_declr_grows _ ds d _) (joins (sized_grows (place u it.token) _ _)
      (joins (thing_grows (said_words ws) (place u it.token) (u.key it.name) _ _)
      (joins (entered_grows (place u it.token) _ _ _ _) (joins (block_items_grow items _) (left_grows _))))))

  pub item_grows : (item : Item) (s : Names) → Grows s (item_named u item s)
  item_grows (function_item exts ws d attrs opening items closing) s = function_grows (declared_name d) ws d items s
  item_grows (old_function_item exts ws d attrs ds opening items closing) s =
      old_function_grows (declared_name d) ws d ds items s
  item_grows (decl_item d) s = decl_grows d s
  item_grows (asm_item keyword group semi) s = stays s
  item_grows (semi_item semi) s = stays s

  pub items_grow : (items : List Item) (s : Names) → Grows s (items_named u items s)
  items_grow [] s = stays s
  items_grow (item ∷ items) s = joins (item_grows item s) (items_grow items _)
