-- The text of each node ends with what comes after it, and that of an expression with its last token before that.
use Rattle.std.proofs.Common.{◌≡◌, ℕ, ◌-◌, suc, List, [], ◌∷◌, ◌++◌, length, slice_get, Option, None, Some, refl, sym, ◌∙◌, ap, arith}
use Rattle.c_words.specs.declared.kinds.Punct.{Punct}
use Rattle.c_words.specs.declared.kinds.Punct.TheVariants.{CloseBrace, CloseBracket, CloseParen, Colon, Comma, Equal}
use Rattle.c_words.specs.declared.kinds.TokenKind.TheVariants as kinds
use Rattle.c_tree.specs.declared.lexeme.Lexeme.{Lexeme}
use Rattle.c_syntax.specs.declared.parts.Identifier.{Identifier}
use Rattle.c_syntax.specs.declared.parts.Word.{Word}
use Rattle.c_syntax.specs.declared.parts.Group.{Group}
use Rattle.c_syntax.specs.declared.parts.Attr.{Attr}
use Rattle.c_syntax.specs.declared.parts.AsmLabel.{AsmLabel}
use Rattle.c_syntax.specs.declared.parts.Assert.{Assert}
use Rattle.c_syntax.specs.declared.parts.Qual.{Qual}
use Rattle.c_syntax.specs.declared.parts.PointerWord.{PointerWord}
use Rattle.c_syntax.specs.declared.parts.ArrayWord.{ArrayWord}
use Rattle.c_syntax.specs.declared.parts.Qual.TheVariants as quals
use Rattle.c_syntax.specs.declared.parts.PointerWord.TheVariants as pointer_words
use Rattle.c_syntax.specs.declared.parts.ArrayWord.TheVariants as array_words
use Rattle.c_tree.specs.Tree.{Expr, operation, cast, prefix, sizeof_value, sizeof_type, extension, index, call, dot, arrow, post, compound, name_use, number_use, char_use, text_use, paren, statement_expr, va_arg, va_start, va_copy, offset, complex_part, label_use, compat, choose, generic, Assocs, no_assocs, more_assocs, Assoc, typed_assoc, default_assoc, Operator, comma, assign, cond, binary, SomeExpr, no_expr, some_expr, Exprs, no_exprs, more_exprs, SpecWords, no_words, more_words, SpecWord, storage, thread, inline_word, noreturn, qualifier, basic, struct_type, enum_type, typedef_name, attribute, typeof_value, typeof_type, align, auto_word, SomeBody, no_body, some_body, StructItems, no_struct_items, more_struct_items, StructItem, member, member_semi, member_assert, MemDeclrs, no_mem_declrs, more_mem_declrs, MemDeclr, named, unnamed, SomeValue, no_value, some_value, EnumType, enum_of, SomeEnumBody, no_enum_body, some_enum_body, Enumerators, no_enumerators, more_enumerators, Declr, pointer, declr_name, declr_paren, array, params, abs_pointer, abs_paren, abs_array, abs_params, identifiers, base_name, SomeDeclr, no_declr, some_declr, SomeSize, no_size, some_size, ArraySize, size_value, size_star, Params, no_params, more_params, Init, init_value, init_braced, InitList, init_list, InitItems, no_init_items, more_init_items, Desigs, no_desigs, more_desigs, Desig, member_desig, index_desig, range_desig, old_desig, SomeInit, no_init, some_init, InitDeclrs, no_init_declrs, more_init_declrs, Declaration, declaration, Decl, decl_declaration, decl_assert, BlockItems, no_block_items, more_block_items, BlockItem, block_decl, block_stmt, block_labels, Stmt, block, expr_stmt, attr_stmt, label, case_stmt, default_stmt, if_stmt, switch_stmt, while_stmt, do_stmt, for_stmt, goto_stmt, continue_stmt, break_stmt, return_stmt, asm_stmt, case_range, goto_value, SomeElse, no_else, some_else, ForStart, start_declaration, start_value, Dots}
use Rattle.c_tree.specs.Text.{sign_text, identifier_text, some_sign_text, tag_text, words_text, extensions_text, texts_text, names_text, other_names_text, tokens_between, group_text, attr_text, attrs_text, label_text, assert_text, qual_text, quals_text, pointer_words_text, array_words_text, dots_text, expr_text, assocs_text, assoc_text, operator_text, some_expr_text, exprs_text, other_exprs_text, spec_words_text, spec_word_text, some_body_text, struct_items_text, struct_item_text, mem_declrs_text, other_mem_declrs_text, mem_declr_text, some_value_text, enum_type_text, some_enum_body_text, enumerators_text, other_enumerators_text, declr_text, some_declr_text, some_size_text, array_size_text, params_text, other_params_text, init_text, init_list_text, init_items_text, other_init_items_text, desigs_text, desig_text, some_init_text, init_declrs_text, other_init_declrs_text, declaration_text, decl_text, block_items_text, block_item_text, stmt_text, some_else_text, for_start_text}
use Rattle.c_tree.specs.WellFormed.{IsExpr}
use Rattle.c_tree.specs.Ends.{or_zero, last_text, last_token, list_end, EndsAt}

data EndsWith : List Lexeme → List Lexeme → Type 0 where
  whole : {k : List Lexeme} → EndsWith k k
  later : {t : Lexeme} {o k : List Lexeme} → EndsWith o k → EndsWith o (t ∷ k)

appended : (front : List Lexeme) {o k : List Lexeme} → EndsWith o k → EndsWith o (front ++ k)
appended [] h = h
appended (t ∷ front) h = later (appended front h)

front_of : {o k : List Lexeme} → EndsWith o k → (front : List Lexeme) × (k ≡ front ++ o)
front_of whole = ([], refl)
front_of (later {t} h) = (t ∷ (front_of h).0, ap (λ k. t ∷ k) (front_of h).1)

some_sign_end : (p : Punct) (token : Option ℕ) {o k : List Lexeme} → EndsWith o k
    → EndsWith o (some_sign_text p token k)
some_sign_end p None h = h
some_sign_end p (Some token) h = later h

tag_end : (tag : Option Identifier) {o k : List Lexeme} → EndsWith o k → EndsWith o (tag_text tag k)
tag_end None h = h
tag_end (Some i) h = later h

words_end : (ws : List Word) {o k : List Lexeme} → EndsWith o k → EndsWith o (words_text ws k)
words_end [] h = h
words_end (w ∷ ws) h = later (words_end ws h)

extensions_end : (tokens : List ℕ) {o k : List Lexeme} → EndsWith o k → EndsWith o (extensions_text tokens k)
extensions_end [] h = h
extensions_end (token ∷ tokens) h = later (extensions_end tokens h)

texts_end : (tokens : List ℕ) {o k : List Lexeme} → EndsWith o k → EndsWith o (texts_text tokens k)
texts_end [] h = h
texts_end (token ∷ tokens) h = later (texts_end tokens h)

other_names_end : (names : List Identifier) {o k : List Lexeme} → EndsWith o k → EndsWith o (other_names_text names k)
other_names_end [] h = h
other_names_end (name ∷ names) h = later (later (other_names_end names h))

names_end : (names : List Identifier) {o k : List Lexeme} → EndsWith o k → EndsWith o (names_text names k)
names_end [] h = h
names_end (name ∷ names) h = later (other_names_end names h)

-- the last of several texts is the last of those behind the first
last_step : (token next : ℕ) (tokens : List ℕ) → last_text (next ∷ tokens) ≡ last_text (token ∷ next ∷ tokens)
last_step token next tokens =
    let here : suc (length tokens) - 1 ≡ length tokens = omega arith in
    let there : suc (suc (length tokens)) - 1 ≡ suc (length tokens) = omega arith in
    ap (λ (n : ℕ). or_zero (slice_get (next ∷ tokens) n)) here
    ∙ sym (ap (λ (n : ℕ). or_zero (slice_get (token ∷ next ∷ tokens) n)) there)

-- the last of texts, which are at least one
last_text_is : (token : ℕ) (tokens : List ℕ) (k : List Lexeme)
    → (t : Lexeme) × (t.at ≡ last_text (token ∷ tokens)) × EndsWith (t ∷ k) (texts_text (token ∷ tokens) k)
last_text_is token [] k = (record { kind = kinds.Text; at = token }, refl, whole)
last_text_is token (next ∷ tokens) k =
    let h = last_text_is next tokens k in
    (h.0, h.1 ∙ last_step token next tokens, later h.2)

module _ (all : List Lexeme) where
  group_end : (g : Group) {o k : List Lexeme} → EndsWith o k → EndsWith o (group_text all g k)
  group_end g h = appended (tokens_between all g.first g.last) h

  attr_end : (a : Attr) {o k : List Lexeme} → EndsWith o k → EndsWith o (attr_text all a k)
  attr_end a h = later (group_end a.group h)

  attrs_end : (attrs : List Attr) {o k : List Lexeme} → EndsWith o k → EndsWith o (attrs_text all attrs k)
  attrs_end [] h = h
  attrs_end (a ∷ attrs) h = attr_end a (attrs_end attrs h)

  label_end : (l : Option AsmLabel) {o k : List Lexeme} → EndsWith o k → EndsWith o (label_text all l k)
  label_end None h = h
  label_end (Some l) h = later (group_end l.group h)

  assert_end : (it : Assert) {o k : List Lexeme} → EndsWith o k → EndsWith o (assert_text all it k)
  assert_end it h = later (group_end it.group (later h))

  qual_end : (q : Qual) {o k : List Lexeme} → EndsWith o k → EndsWith o (qual_text all q k)
  qual_end (quals.Word w) h = later h
  qual_end (quals.Element token) h = appended (tokens_between all token token) h
  qual_end (quals.Index token) h = later h

  quals_end : (qs : List Qual) {o k : List Lexeme} → EndsWith o k → EndsWith o (quals_text all qs k)
  quals_end [] h = h
  quals_end (q ∷ qs) h = qual_end q (quals_end qs h)

  pointer_words_end : (ws : List PointerWord) {o k : List Lexeme} → EndsWith o k
      → EndsWith o (pointer_words_text all ws k)
  pointer_words_end [] h = h
  pointer_words_end (pointer_words.Qual q ∷ ws) h = qual_end q (pointer_words_end ws h)
  pointer_words_end (pointer_words.Attr a ∷ ws) h = attr_end a (pointer_words_end ws h)

  array_words_end : (ws : List ArrayWord) {o k : List Lexeme} → EndsWith o k → EndsWith o (array_words_text all ws k)
  array_words_end [] h = h
  array_words_end (array_words.Static token ∷ ws) h = later (array_words_end ws h)
  array_words_end (array_words.Qual q ∷ ws) h = qual_end q (array_words_end ws h)

  dots_end : (dots : Option Dots) {o k : List Lexeme} → EndsWith o k → EndsWith o (dots_text all dots k)
  dots_end None h = h
  dots_end (Some d) h = later (quals_end d.quals (later h))

  mutual
    expr_end : (x : Expr) {o k : List Lexeme} → EndsWith o k → EndsWith o (expr_text all x k)
    expr_end (operation e op token e2) h = expr_end e (operator_end op token (expr_end e2 h))
    expr_end (cast opening ws d closing e) h = later (spec_words_end ws (some_declr_end d (later (expr_end e h))))
    expr_end (prefix token p e) h = later (expr_end e h)
    expr_end (sizeof_value word e) h = later (expr_end e h)
    expr_end (sizeof_type word opening ws d closing) h = later (later (spec_words_end ws (some_declr_end d (later h))))
    expr_end (extension keyword e) h = later (expr_end e h)
    expr_end (index e opening e2 closing) h = expr_end e (later (expr_end e2 (later h)))
    expr_end (call e opening es closing) h = expr_end e (later (exprs_end es (later h)))
    expr_end (dot e token name) h = expr_end e (later (later h))
    expr_end (arrow e token name) h = expr_end e (later (later h))
    expr_end (post e token p) h = expr_end e (later h)
    expr_end (compound opening ws d closing list) h =
        later (spec_words_end ws (some_declr_end d (later (init_list_end list h))))
    expr_end (name_use token name) h = later h
    expr_end (number_use token) h = later h
    expr_end (char_use token) h = later h
    expr_end (text_use texts) h = texts_end texts h
    expr_end (paren opening e closing) h = later (expr_end e (later h))
    expr_end (statement_expr opening opening2 items closing closing2) h =
        later (later (block_items_end items (later (later h))))
    expr_end (va_arg keyword opening e separator ws d closing) h =
        later (later (expr_end e (later (spec_words_end ws (some_declr_end d (later h))))))
    expr_end (va_start keyword opening e separator e2 closing) h =
        later (later (expr_end e (later (expr_end e2 (later h)))))
    expr_end (va_copy keyword opening e separator e2 closing) h =
        later (later (expr_end e (later (expr_end e2 (later h)))))
    expr_end (offset keyword opening ws d separator name steps closing) h =
        later (later (spec_words_end ws (some_declr_end d (later (later (desigs_end steps (later h)))))))
    expr_end (complex_part keyword e) h = later (expr_end e h)
    expr_end (label_use token name) h = later (later h)
    expr_end (compat keyword opening ws d separator ws2 d2 closing) h =
        later (later (spec_words_end ws (some_declr_end d (later (spec_words_end ws2 (some_declr_end d2 (later h)))))))
    expr_end (choose keyword opening e separator e2 separator2 e3 closing) h =
        later (later (expr_end e (later (expr_end e2 (later (expr_end e3 (later h)))))))
    expr_end (generic keyword opening e xs closing) h = later (later (expr_end e (assocs_end xs (later h))))

    assocs_end : (x : Assocs) {o k : List Lexeme} → EndsWith o k → EndsWith o (assocs_text all x k)
    assocs_end no_assocs h = h
    assocs_end (more_assocs x xs) h = later (assoc_end x (assocs_end xs h))

    assoc_end : (x : Assoc) {o k : List Lexeme} → EndsWith o k → EndsWith o (assoc_text all x k)
    assoc_end (typed_assoc ws d colon e) h = spec_words_end ws (some_declr_end d (later (expr_end e h)))
    assoc_end (default_assoc keyword colon e) h = later (later (expr_end e h))

    operator_end : (x : Operator) (token : ℕ) {o k : List Lexeme} → EndsWith o k
        → EndsWith o (operator_text all x token k)
    operator_end comma token h = later h
    operator_end (assign p) token h = later h
    operator_end (cond e colon) token h = later (some_expr_end e (later h))
    operator_end (binary p) token h = later h

    some_expr_end : (x : SomeExpr) {o k : List Lexeme} → EndsWith o k → EndsWith o (some_expr_text all x k)
    some_expr_end no_expr h = h
    some_expr_end (some_expr e) h = expr_end e h

    exprs_end : (x : Exprs) {o k : List Lexeme} → EndsWith o k → EndsWith o (exprs_text all x k)
    exprs_end no_exprs h = h
    exprs_end (more_exprs e es) h = expr_end e (other_exprs_end es h)

    other_exprs_end : (x : Exprs) {o k : List Lexeme} → EndsWith o k → EndsWith o (other_exprs_text all x k)
    other_exprs_end no_exprs h = h
    other_exprs_end (more_exprs e es) h = later (expr_end e (other_exprs_end es h))

    spec_words_end : (x : SpecWords) {o k : List Lexeme} → EndsWith o k → EndsWith o (spec_words_text all x k)
    spec_words_end no_words h = h
    spec_words_end (more_words w ws) h = spec_word_end w (spec_words_end ws h)

    spec_word_end : (x : SpecWord) {o k : List Lexeme} → EndsWith o k → EndsWith o (spec_word_text all x k)
    spec_word_end (storage word) h = later h
    spec_word_end (thread keyword) h = later h
    spec_word_end (inline_word keyword) h = later h
    spec_word_end (noreturn keyword) h = later h
    spec_word_end (qualifier qual) h = qual_end qual h
    spec_word_end (basic word) h = later h
    spec_word_end (struct_type word attrs tag body) h = later (attrs_end attrs (tag_end tag (some_body_end body h)))
    spec_word_end (enum_type enum) h = enum_type_end enum h
    spec_word_end (typedef_name name) h = later h
    spec_word_end (attribute attr) h = attr_end attr h
    spec_word_end (typeof_value keyword opening e closing) h = later (later (expr_end e (later h)))
    spec_word_end (typeof_type word opening ws d closing) h =
        later (later (spec_words_end ws (some_declr_end d (later h))))
    spec_word_end (align attr) h = later (group_end attr.group h)
    spec_word_end (auto_word token) h = later h

    some_body_end : (x : SomeBody) {o k : List Lexeme} → EndsWith o k → EndsWith o (some_body_text all x k)
    some_body_end no_body h = h
    some_body_end (some_body opening items closing) h = later (struct_items_end items (later h))

    struct_items_end : (x : StructItems) {o k : List Lexeme} → EndsWith o k → EndsWith o (struct_items_text all x k)
    struct_items_end no_struct_items h = h
    struct_items_end (more_struct_items item items) h = struct_item_end item (struct_items_end items h)

    struct_item_end : (x : StructItem) {o k : List Lexeme} → EndsWith o k → EndsWith o (struct_item_text all x k)
    struct_item_end (member exts ws ds semi) h = extensions_end exts (spec_words_end ws (mem_declrs_end ds (later h)))
    struct_item_end (member_semi semi) h = later h
    struct_item_end (member_assert it) h = assert_end it h

    mem_declrs_end : (x : MemDeclrs) {o k : List Lexeme} → EndsWith o k → EndsWith o (mem_declrs_text all x k)
    mem_declrs_end no_mem_declrs h = h
    mem_declrs_end (more_mem_declrs attrs d ds) h = attrs_end attrs (mem_declr_end d (other_mem_declrs_end ds h))

    other_mem_declrs_end : (x : MemDeclrs) {o k : List Lexeme} → EndsWith o k
        → EndsWith o (other_mem_declrs_text all x k)
    other_mem_declrs_end no_mem_declrs h = h
    other_mem_declrs_end (more_mem_declrs attrs d ds) h =
        later (attrs_end attrs (mem_declr_end d (other_mem_declrs_end ds h)))

    mem_declr_end : (x : MemDeclr) {o k : List Lexeme} → EndsWith o k → EndsWith o (mem_declr_text all x k)
    mem_declr_end (named d width attrs) h = declr_end d (some_value_end Colon width (attrs_end attrs h))
    mem_declr_end (unnamed colon e attrs) h = later (expr_end e (attrs_end attrs h))

    some_value_end : (mark : Punct) (x : SomeValue) {o k : List Lexeme} → EndsWith o k
        → EndsWith o (some_value_text all mark x k)
    some_value_end mark no_value h = h
    some_value_end mark (some_value token e) h = later (expr_end e h)

    enum_type_end : (x : EnumType) {o k : List Lexeme} → EndsWith o k → EndsWith o (enum_type_text all x k)
    enum_type_end (enum_of keyword attrs tag body) h = later (attrs_end attrs (tag_end tag (some_enum_body_end body h)))

    some_enum_body_end : (x : SomeEnumBody) {o k : List Lexeme} → EndsWith o k
        → EndsWith o (some_enum_body_text all x k)
    some_enum_body_end no_enum_body h = h
    some_enum_body_end (some_enum_body opening es last closing) h =
        later (enumerators_end es (some_sign_end Comma last (later h)))

    enumerators_end : (x : Enumerators) {o k : List Lexeme} → EndsWith o k → EndsWith o (enumerators_text all x k)
    enumerators_end no_enumerators h = h
    enumerators_end (more_enumerators name attrs value es) h =
        later (attrs_end attrs (some_value_end Equal value (other_enumerators_end es h)))

    other_enumerators_end : (x : Enumerators) {o k : List Lexeme} → EndsWith o k
        → EndsWith o (other_enumerators_text all x k)
    other_enumerators_end no_enumerators h = h
    other_enumerators_end (more_enumerators name attrs value es) h =
        later (later (attrs_end attrs (some_value_end Equal value (other_enumerators_end es h))))

    declr_end : (x : Declr) {o k : List Lexeme} → EndsWith o k → EndsWith o (declr_text all x k)
    declr_end (pointer star words d) h = later (pointer_words_end words (declr_end d h))
    declr_end (declr_name token name) h = later h
    declr_end (declr_paren opening attrs d closing) h = later (attrs_end attrs (declr_end d (later h)))
    declr_end (array d opening words size closing) h =
        declr_end d (later (array_words_end words (some_size_end size (later h))))
    declr_end (params d opening ps dots closing) h = declr_end d (later (params_end ps (dots_end dots (later h))))
    declr_end (abs_pointer star words d) h = later (pointer_words_end words (some_declr_end d h))
    declr_end (abs_paren opening attrs d closing) h = later (attrs_end attrs (declr_end d (later h)))
    declr_end (abs_array d opening words size closing) h =
        some_declr_end d (later (array_words_end words (some_size_end size (later h))))
    declr_end (abs_params d opening ps dots closing) h =
        some_declr_end d (later (params_end ps (dots_end dots (later h))))
    declr_end (identifiers d opening names closing) h = declr_end d (later (names_end names (later h)))
    declr_end (base_name token) h = later h

    some_declr_end : (x : SomeDeclr) {o k : List Lexeme} → EndsWith o k → EndsWith o (some_declr_text all x k)
    some_declr_end no_declr h = h
    some_declr_end (some_declr d) h = declr_end d h

    some_size_end : (x : SomeSize) {o k : List Lexeme} → EndsWith o k → EndsWith o (some_size_text all x k)
    some_size_end no_size h = h
    some_size_end (some_size size) h = array_size_end size h

    array_size_end : (x : ArraySize) {o k : List Lexeme} → EndsWith o k → EndsWith o (array_size_text all x k)
    array_size_end (size_value e) h = expr_end e h
    array_size_end (size_star star) h = later h

    params_end : (x : Params) {o k : List Lexeme} → EndsWith o k → EndsWith o (params_text all x k)
    params_end no_params h = h
    params_end (more_params ws d attrs ps) h =
        spec_words_end ws (some_declr_end d (attrs_end attrs (other_params_end ps h)))

    other_params_end : (x : Params) {o k : List Lexeme} → EndsWith o k → EndsWith o (other_params_text all x k)
    other_params_end no_params h = h
    other_params_end (more_params ws d attrs ps) h =
        later (spec_words_end ws (some_declr_end d (attrs_end attrs (other_params_end ps h))))

    init_end : (x : Init) {o k : List Lexeme} → EndsWith o k → EndsWith o (init_text all x k)
    init_end (init_value e) h = expr_end e h
    init_end (init_braced list) h = init_list_end list h

    init_list_end : (x : InitList) {o k : List Lexeme} → EndsWith o k → EndsWith o (init_list_text all x k)
    init_list_end (init_list opening items last closing) h =
        later (init_items_end items (some_sign_end Comma last (later h)))

    init_items_end : (x : InitItems) {o k : List Lexeme} → EndsWith o k → EndsWith o (init_items_text all x k)
    init_items_end no_init_items h = h
    init_items_end (more_init_items ds equal init items) h =
        desigs_end ds (some_sign_end Equal equal (init_end init (other_init_items_end items h)))

    other_init_items_end : (x : InitItems) {o k : List Lexeme} → EndsWith o k
        → EndsWith o (other_init_items_text all x k)
    other_init_items_end no_init_items h = h
    other_init_items_end (more_init_items ds equal init items) h =
        later (desigs_end ds (some_sign_end Equal equal (init_end init (other_init_items_end items h))))

    desigs_end : (x : Desigs) {o k : List Lexeme} → EndsWith o k → EndsWith o (desigs_text all x k)
    desigs_end no_desigs h = h
    desigs_end (more_desigs d ds) h = desig_end d (desigs_end ds h)

    desig_end : (x : Desig) {o k : List Lexeme} → EndsWith o k → EndsWith o (desig_text all x k)
    desig_end (member_desig token name) h = later (later h)
    desig_end (index_desig opening e closing) h = later (expr_end e (later h))
    desig_end (range_desig opening e dots e2 closing) h = later (expr_end e (later (expr_end e2 (later h))))
    desig_end (old_desig name colon) h = later (later h)

    some_init_end : (x : SomeInit) {o k : List Lexeme} → EndsWith o k → EndsWith o (some_init_text all x k)
    some_init_end no_init h = h
    some_init_end (some_init equal init) h = later (init_end init h)

    init_declrs_end : (x : InitDeclrs) {o k : List Lexeme} → EndsWith o k → EndsWith o (init_declrs_text all x k)
    init_declrs_end no_init_declrs h = h
    init_declrs_end (more_init_declrs attrs d asm_label attrs2 init ds) h =
        attrs_end attrs
        (declr_end d (label_end asm_label (attrs_end attrs2 (some_init_end init (other_init_declrs_end ds h)))))

    other_init_declrs_end : (x : InitDeclrs) {o k : List Lexeme} → EndsWith o k
        → EndsWith o (other_init_declrs_text all x k)
    other_init_declrs_end no_init_declrs h = h
    other_init_declrs_end (more_init_declrs attrs d asm_label attrs2 init ds) h =
        later (attrs_end attrs
        (declr_end d (label_end asm_label (attrs_end attrs2 (some_init_end init (other_init_declrs_end ds h))))))

    declaration_end : (x : Declaration) {o k : List Lexeme} → EndsWith o k → EndsWith o (declaration_text all x k)
    declaration_end (declaration exts ws ds semi) h =
        extensions_end exts (spec_words_end ws (init_declrs_end ds (later h)))

    decl_end : (x : Decl) {o k : List Lexeme} → EndsWith o k → EndsWith o (decl_text all x k)
    decl_end (decl_declaration d) h = declaration_end d h
    decl_end (decl_assert it) h = assert_end it h

    block_items_end : (x : BlockItems) {o k : List Lexeme} → EndsWith o k → EndsWith o (block_items_text all x k)
    block_items_end no_block_items h = h
    block_items_end (more_block_items item items) h = block_item_end item (block_items_end items h)

    block_item_end : (x : BlockItem) {o k : List Lexeme} → EndsWith o k → EndsWith o (block_item_text all x k)
    block_item_end (block_decl d) h = decl_end d h
    block_item_end (block_stmt s) h = stmt_end s h
    block_item_end (block_labels keyword names semi) h = later (names_end names (later h))

    stmt_end : (x : Stmt) {o k : List Lexeme} → EndsWith o k → EndsWith o (stmt_text all x k)
    stmt_end (block opening items closing) h = later (block_items_end items (later h))
    stmt_end (expr_stmt e semi) h = some_expr_end e (later h)
    stmt_end (attr_stmt attrs semi) h = attrs_end attrs (later h)
    stmt_end (label name colon attrs s) h = later (later (attrs_end attrs (stmt_end s h)))
    stmt_end (case_stmt keyword e colon s) h = later (expr_end e (later (stmt_end s h)))
    stmt_end (default_stmt keyword colon s) h = later (later (stmt_end s h))
    stmt_end (if_stmt keyword opening e closing s other) h =
        later (later (expr_end e (later (stmt_end s (some_else_end other h)))))
    stmt_end (switch_stmt keyword opening e closing s) h = later (later (expr_end e (later (stmt_end s h))))
    stmt_end (while_stmt keyword opening e closing s) h = later (later (expr_end e (later (stmt_end s h))))
    stmt_end (do_stmt keyword s keyword2 opening e closing semi) h =
        later (stmt_end s (later (later (expr_end e (later (later h))))))
    stmt_end (for_stmt keyword opening start e semi e2 closing s) h =
        later (later (for_start_end start (some_expr_end e (later (some_expr_end e2 (later (stmt_end s h)))))))
    stmt_end (goto_stmt keyword name semi) h = later (later (later h))
    stmt_end (continue_stmt keyword semi) h = later (later h)
    stmt_end (break_stmt keyword semi) h = later (later h)
    stmt_end (return_stmt keyword e semi) h = later (some_expr_end e (later h))
    stmt_end (asm_stmt keyword words group semi) h = later (words_end words (group_end group (later h)))
    stmt_end (case_range keyword e dots e2 colon s) h = later (expr_end e (later (expr_end e2 (later (stmt_end s h)))))
    stmt_end (goto_value keyword star e semi) h = later (later (expr_end e (later h)))

    some_else_end : (x : SomeElse) {o k : List Lexeme} → EndsWith o k → EndsWith o (some_else_text all x k)
    some_else_end no_else h = h
    some_else_end (some_else keyword s) h = later (stmt_end s h)

    for_start_end : (x : ForStart) {o k : List Lexeme} → EndsWith o k → EndsWith o (for_start_text all x k)
    for_start_end (start_declaration d) h = declaration_end d h
    for_start_end (start_value e semi) h = some_expr_end e (later h)

  closing_is : (k : List Lexeme) (p : Punct) (closing : ℕ) {ts : List Lexeme} → EndsWith (sign_text p closing k) ts
      → (t : Lexeme) × (t.at ≡ closing) × EndsWith (t ∷ k) ts
  closing_is k p closing h = (record { kind = kinds.Punct p; at = closing }, refl, h)

  name_is : (k : List Lexeme) (name : Identifier) {ts : List Lexeme} → EndsWith (identifier_text name k) ts
      → (t : Lexeme) × (t.at ≡ name.token) × EndsWith (t ∷ k) ts
  name_is k name h = (record { kind = kinds.Name name.name; at = name.token }, refl, h)

  list_end_is : (list : InitList) (k : List Lexeme)
      → (t : Lexeme) × (t.at ≡ list_end list) × EndsWith (t ∷ k) (init_list_text all list k)
  list_end_is (init_list opening items last closing) k =
      closing_is k CloseBrace closing (later (init_items_end items (some_sign_end Comma last whole)))

  last_is : (e : Expr) (k : List Lexeme) → IsExpr all e
      → (t : Lexeme) × (t.at ≡ last_token e) × EndsWith (t ∷ k) (expr_text all e k)
  last_is (operation e op token e2) k h = let l = last_is e2 k h.1 in (l.0, l.1, expr_end e (operator_end op token l.2))
  last_is (cast opening ws d closing e) k h =
      let l = last_is e k h.3 in
      (l.0, l.1, later (spec_words_end ws (some_declr_end d (later l.2))))
  last_is (prefix token p e) k h = let l = last_is e k h.0 in (l.0, l.1, later l.2)
  last_is (sizeof_value word e) k h = let l = last_is e k h.0 in (l.0, l.1, later l.2)
  last_is (sizeof_type word opening ws d closing) k h =
      closing_is k CloseParen closing (later (later (spec_words_end ws (some_declr_end d whole))))
  last_is (extension keyword e) k h = let l = last_is e k h.0 in (l.0, l.1, later l.2)
  last_is (index e opening e2 closing) k h = closing_is k CloseBracket closing (expr_end e (later (expr_end e2 whole)))
  last_is (call e opening es closing) k h = closing_is k CloseParen closing (expr_end e (later (exprs_end es whole)))
  last_is (dot e token name) k h = name_is k name (expr_end e (later whole))
  last_is (arrow e token name) k h = name_is k name (expr_end e (later whole))
  last_is (post e token p) k h = closing_is k p token (expr_end e whole)
  last_is (compound opening ws d closing list) k h =
      let l = list_end_is list k in
      (l.0, l.1, later (spec_words_end ws (some_declr_end d (later l.2))))
  last_is (name_use token name) k h = (record { kind = kinds.Name name; at = token }, refl, whole)
  last_is (number_use token) k h = (record { kind = kinds.Number; at = token }, refl, whole)
  last_is (char_use token) k h = (record { kind = kinds.Char; at = token }, refl, whole)
  last_is (text_use []) k h = absurd (h refl)
  last_is (text_use (token ∷ tokens)) k h = last_text_is token tokens k
  last_is (paren opening e closing) k h = closing_is k CloseParen closing (later (expr_end e whole))
  last_is (statement_expr opening opening2 items closing closing2) k h =
      closing_is k CloseParen closing2 (later (later (block_items_end items (later whole))))
  last_is (va_arg keyword opening e separator ws d closing) k h =
      closing_is k CloseParen closing (later (later (expr_end e (later (spec_words_end ws (some_declr_end d whole))))))
  last_is (va_start keyword opening e separator e2 closing) k h =
      closing_is k CloseParen closing (later (later (expr_end e (later (expr_end e2 whole)))))
  last_is (va_copy keyword opening e separator e2 closing) k h =
      closing_is k CloseParen closing (later (later (expr_end e (later (expr_end e2 whole)))))
  last_is (offset keyword opening ws d separator name steps closing) k h =
      closing_is k CloseParen closing
      (later (later (spec_words_end ws (some_declr_end d (later (later (desigs_end steps whole)))))))
  last_is (complex_part keyword e) k h = let l = last_is e k h.0 in (l.0, l.1, later l.2)
  last_is (label_use token name) k h = name_is k name (later whole)
  last_is (compat keyword opening ws d separator ws2 d2 closing) k h =
      closing_is k CloseParen closing
      (later (later (spec_words_end ws (some_declr_end d (later (spec_words_end ws2 (some_declr_end d2 whole)))))))
  last_is (choose keyword opening e separator e2 separator2 e3 closing) k h =
      closing_is k CloseParen closing (later (later (expr_end e (later (expr_end e2 (later (expr_end e3 whole)))))))
  last_is (generic keyword opening e xs closing) k h =
      closing_is k CloseParen closing (later (later (expr_end e (assocs_end xs whole))))

  pub last_ends : (e : Expr) (k : List Lexeme) → IsExpr all e → EndsAt (expr_text all e k) (last_token e) k
  last_ends e k h =
      let l = last_is e k h in
      let f = front_of l.2 in
      record { front = f.0; last = l.0; spelled = f.1; is = l.1 }
