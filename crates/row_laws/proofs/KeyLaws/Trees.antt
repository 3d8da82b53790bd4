-- Each number is the key of no more ops of a tree's tape than there are tokens of it in the tree's text.
use Rattle.std.proofs.Common.{◌≢◌, All, Bool, true, false, List, [], ◌∷◌, ◌++◌, ℕ, Option, None, Some, refl}
use Rattle.std.proofs.lemmas.List.Elements.{All-head, All-tail}
use Rattle.std.specs.Prelude.{if◌then◌else◌}
use Rattle.c_words.specs.declared.kinds.Punct.{Punct}
use Rattle.c_words.specs.declared.kinds.Punct.TheVariants.{Colon, Comma, Equal}
use Rattle.c_syntax.specs.declared.parts.Identifier.{Identifier}
use Rattle.tape_ops.specs.declared.op.Op.{Op}
use Rattle.tape_ops.specs.declared.expression.ExprOp.TheVariants as exprs
use Rattle.tape_ops.specs.declared.specifier.TagKind.{TagKind}
use Rattle.tape_ops.specs.declared.specifier.TagKind.TheVariants as tags
use Rattle.c_tree.specs.declared.lexeme.Lexeme.{Lexeme}
use Rattle.c_tree.specs.Tree.{Expr, operation, cast, prefix, sizeof_value, sizeof_type, extension, index, call, dot, arrow, post, compound, name_use, number_use, char_use, text_use, paren, statement_expr, va_arg, va_start, va_copy, offset, Operator, comma, assign, cond, binary, SomeExpr, no_expr, some_expr, Exprs, no_exprs, more_exprs, SpecWords, no_words, more_words, SpecWord, storage, thread, inline_word, noreturn, qualifier, basic, struct_type, enum_type, typedef_name, attribute, SomeBody, no_body, some_body, StructItems, no_struct_items, more_struct_items, StructItem, member, member_semi, member_assert, MemDeclrs, no_mem_declrs, more_mem_declrs, MemDeclr, named, unnamed, SomeValue, no_value, some_value, EnumType, enum_of, SomeEnumBody, no_enum_body, some_enum_body, Enumerators, no_enumerators, more_enumerators, Declr, pointer, declr_name, declr_paren, array, params, abs_pointer, abs_paren, abs_array, abs_params, SomeDeclr, no_declr, some_declr, SomeSize, no_size, some_size, ArraySize, size_value, size_star, Params, no_params, more_params, Init, init_value, init_braced, InitList, init_list, InitItems, no_init_items, more_init_items, Desigs, no_desigs, more_desigs, Desig, member_desig, index_desig, SomeInit, no_init, some_init, InitDeclrs, no_init_declrs, more_init_declrs, Declaration, declaration, Decl, decl_declaration, decl_assert, BlockItems, no_block_items, more_block_items, BlockItem, block_decl, block_stmt, Stmt, block, expr_stmt, attr_stmt, label, case_stmt, default_stmt, if_stmt, switch_stmt, while_stmt, do_stmt, for_stmt, goto_stmt, continue_stmt, break_stmt, return_stmt, asm_stmt, SomeElse, no_else, some_else, ForStart, start_declaration, start_value, complex_part, label_use, compat, choose, generic, Assocs, no_assocs, more_assocs, Assoc, typed_assoc, default_assoc, typeof_value, typeof_type, align, auto_word, identifiers, base_name, range_desig, old_desig, block_labels, case_range, goto_value}
use Rattle.c_tree.specs.Text.{assocs_text, assoc_text, texts_text, expr_text, operator_text, some_expr_text, exprs_text, other_exprs_text, spec_words_text, spec_word_text, some_body_text, struct_items_text, struct_item_text, mem_declrs_text, other_mem_declrs_text, mem_declr_text, some_value_text, enum_type_text, some_enum_body_text, enumerators_text, other_enumerators_text, declr_text, some_declr_text, some_size_text, array_size_text, params_text, other_params_text, init_text, init_list_text, init_items_text, other_init_items_text, desigs_text, desig_text, some_init_text, init_declrs_text, other_init_declrs_text, declaration_text, decl_text, block_items_text, block_item_text, stmt_text, some_else_text, for_start_text}
use Rattle.c_tree.specs.WellFormed.{AreAssocs, IsAssoc, IsExpr, IsMiddle, IsSomeExpr, AreArguments, AreSteps, IsStep, AreDesigs, IsDesig, AreSpecWords, IsSpecWord, IsBody, AreStructItems, IsStructItem, AreMemDeclrs, IsMemDeclr, IsSomeValue, IsEnum, IsEnumBody, AreEnumerators, IsDeclr, IsSize, IsArraySize, AreParams, IsSomeDeclr, IsInit, IsInitList, AreInitItems, IsSomeInit, AreInitDeclrs, IsDeclaration, IsDecl, AreBlockItems, IsBlockItem, IsStmt, IsOther, IsStart}
use Rattle.c_tree.specs.Unit.{Item, function_item, old_function_item, decl_item, asm_item, semi_item, IsItem, declarations_text, item_text, items_text}
use Rattle.c_tree.specs.Ends.{first_token, last_token, first_text}
use Rattle.c_tree.specs.Firsts.{first_word}
use Rattle.c_tree.proofs.Weaker.{type_words_are, abstract_is, direct_is}
use Rattle.c_tape.specs.Tests.{are_auto, is_void, tag_kind, says_none}
use Rattle.c_tape.specs.Tape.{expr, tape_in, assocs_tape, assoc_tape, auto_declrs_tape, auto_init_tape, old_contents, old_declrs_tape, old_declaration_tape, old_declarations_tape, operator_tape, middle_tape, some_expr_tape, exprs_tape, dropped_tape, steps_tape, step_tape, words_tape, word_tape, unnamed_tape, unnamed_word_tape, specs_with, struct_tape, struct_items_tape, struct_item_tape, members_tape, mem_declrs_tape, mem_declr_tape, some_value_tape, enum_tape, enum_body_tape, enumerators_tape, some_declr_tape, contents, some_contents, some_size_tape, size_tape, params_tape, init_tape, list_tape, init_items_tape, indices_tape, index_tape, some_init_tape, declared_init_tape, init_declrs_tape, declaration_tape, decl_tape, block_items_tape, block_item_tape, stmt_tape, some_else_tape, for_start_tape, return_tape, item_tape, tape_of}
use Rattle.row_laws.proofs.KeyLaws.Counts.{mutes, Covers, CoversBoth, CoversBut, reached, unreached, but_mute, but_then, then_but, but_past, but_before, paid, text_only, nothing, join, skip, mute, own, then_mute, mute_then, keyed, between, behind, amid, mute_only, past, ends, alone, side_by_side, keyed_beside, one_by_one}
use Rattle.row_laws.proofs.KeyLaws.Parts.{identifiers_mute, prefix_covers, names_skip, pieces_mute, rule_list_mute, arguments_mute, tag_mute, body_mute, void_mute, quiet_covers, scope_covers, specs_cover, type_name_covers, params_cover, some_sign_skip, tag_skip, words_skip, extensions_skip, texts_skip, group_skip, attr_skip, attrs_skip, label_skip, assert_skip, qual_skip, pointer_words_skip, array_words_skip, dots_skip}

module _ {n : ℕ} (all : List Lexeme) where
  texts_cover : (texts : List ℕ) → texts ≢ [] → {k : List Lexeme} →
      Covers n (expr (exprs.Text (first_text texts))) (texts_text texts k) k
  texts_cover [] h = absurd (h refl)
  texts_cover (token ∷ tokens) h = keyed (texts_skip tokens nothing) (own refl)

  either : (b : Bool) {xs ys : List Op} {t k : List Lexeme} → Covers n xs t k → Covers n ys t k →
      Covers n (if b then xs else ys) t k
  either true p q = p
  either false p q = q

  mutual
    expr_covers : (e : Expr) → IsExpr all e → (called aims : Bool) → {k : List Lexeme} →
        Covers n (tape_in called aims e) (expr_text all e k) k
    expr_covers (operation e op token e2) h called aims =
        operator_covers op h.3 token (first_token e) (last_token e2) (expr_covers e h.0 false false)
        (expr_covers e2 h.1 false false)
    expr_covers (cast opening ws d closing e) h called aims =
        keyed (join
        (type_name_covers (first_word ws) (words_cover ws (type_words_are all ws h.1) false) (some_declr_covers d
        (abstract_is all d h.2)))
        (skip (expr_covers e h.3 false false))) (own refl)
    expr_covers (prefix token p e) h called aims =
        prefix_covers p e aims (expr_covers e h.0 false true) (expr_covers e h.0 false false)
    expr_covers (sizeof_value word e) h called aims =
        keyed (mute_then (mute refl) (expr_covers e h.0 false false)) (own refl)
    expr_covers (sizeof_type word opening ws d closing) h called aims =
        keyed (mute_then (mute refl)
        (skip (ends (type_name_covers (first_word ws) (words_cover ws (type_words_are all ws h.1) false)
        (some_declr_covers d (abstract_is all d h.2)))))) (own refl)
    expr_covers (extension keyword e) h called aims = keyed (expr_covers e h.0 false aims) (own refl)
    expr_covers (index e opening e2 closing) h called aims =
        amid (expr_covers e h.0 false false) (ends (expr_covers e2 h.1 false false)) (own refl)
    expr_covers (call e opening es closing) h called aims =
        between (expr_covers e h.0 true false) (exprs_cover es h.1) (skip (mute_only (arguments_mute es))) (own refl)
    expr_covers (dot e token name) h called aims = behind (expr_covers e h.0 false aims) (skip nothing) (own refl)
    expr_covers (arrow e token name) h called aims =
        behind (then_mute (expr_covers e h.0 false false) (mute refl)) (skip nothing) (own refl)
    expr_covers (post e token p) h called aims = behind (expr_covers e h.0 false false) nothing (own refl)
    expr_covers (compound opening ws d closing list) h called aims =
        then_mute (then_mute (keyed (join (then_mute (type_name_covers (first_word ws) (words_cover ws
        (type_words_are all ws h.1) false)
        (some_declr_covers d (abstract_is all d h.2))) (mute refl)) (skip (list_covers list h.3))) (own refl))
        (rule_list_mute list)) (mute refl)
    expr_covers (name_use token name) h called aims = keyed nothing (own refl)
    expr_covers (number_use token) h called aims = keyed nothing (own refl)
    expr_covers (char_use token) h called aims = keyed nothing (own refl)
    expr_covers (text_use texts) h called aims = texts_cover texts h
    expr_covers (paren opening e closing) h called aims = keyed (ends (expr_covers e h false aims)) (own refl)
    expr_covers (statement_expr opening opening2 items closing closing2) h called aims =
        keyed (scope_covers (skip (ends (ends (block_items_cover items h.0 true))))) (own refl)
    expr_covers (va_arg keyword opening e separator ws d closing) h called aims =
        keyed (skip (join (expr_covers e h.0 false false) (skip (ends (type_name_covers (first_word ws)
        (words_cover ws (type_words_are all ws h.2) false) (some_declr_covers d (abstract_is all d h.3))))))) (own refl)
    expr_covers (va_start keyword opening e separator e2 closing) h called aims =
        keyed (skip (ends (join (expr_covers e h.0 false false) (skip (expr_covers e2 h.1 false false))))) (own refl)
    expr_covers (va_copy keyword opening e separator e2 closing) h called aims =
        keyed (skip (ends (join (expr_covers e h.0 false false) (skip (expr_covers e2 h.1 false false))))) (own refl)
    expr_covers (offset keyword opening ws d separator name steps closing) h called aims =
        keyed (skip (ends (join (then_mute (ends (ends (mute_then (mute refl) (type_name_covers (first_word ws)
        (words_cover ws (type_words_are all ws h.1) false) (some_declr_covers d (abstract_is all d h.2))))))
        (mute refl))
        (steps_cover steps h.3)))) (own refl)
    expr_covers (complex_part keyword e) h called aims = keyed (expr_covers e h.0 false aims) (own refl)
    expr_covers (label_use token name) h called aims = keyed (skip nothing) (own refl)
    expr_covers (compat keyword opening ws d separator ws2 d2 closing) h called aims =
        keyed (skip (ends (join (mute_then (mute refl) (type_name_covers (first_word ws)
        (words_cover ws (type_words_are all ws h.1) false) (some_declr_covers d (abstract_is all d h.2))))
        (skip (type_name_covers (first_word ws2) (words_cover ws2 (type_words_are all ws2 h.4) false)
        (some_declr_covers d2 (abstract_is all d2 h.5))))))) (own refl)
    expr_covers (choose keyword opening e separator e2 separator2 e3 closing) h called aims =
        keyed (skip
        (ends (join (join (quiet_covers (expr_covers e h.0 false false)) (skip (expr_covers e2 h.1 false false)))
        (skip (expr_covers e3 h.2 false false))))) (own refl)
    expr_covers (generic keyword opening e xs closing) h called aims =
        keyed (skip (ends (join (then_mute (mute_then (mute refl) (expr_covers e h.0 false false)) (mute refl))
        (assocs_cover xs h.3)))) (own refl)

    assocs_cover : (xs : Assocs) → AreAssocs all xs → {k : List Lexeme}
        → Covers n (assocs_tape xs) (assocs_text all xs k) k
    assocs_cover no_assocs h = nothing
    assocs_cover (more_assocs x xs) h = skip (join (assoc_covers x h.0) (assocs_cover xs h.1))

    assoc_covers : (x : Assoc) → IsAssoc all x → {k : List Lexeme} → Covers n (assoc_tape x) (assoc_text all x k) k
    assoc_covers (typed_assoc ws d colon e) h =
        join (type_name_covers (first_word ws) (words_cover ws (type_words_are all ws h.1) false)
        (some_declr_covers d (abstract_is all d h.2))) (skip (expr_covers e h.3 false false))
    assoc_covers (default_assoc keyword colon e) h = skip (skip (mute_then (mute refl) (expr_covers e h.0 false false)))

    -- behind its first operand, before its second
    operator_covers : (op : Operator) → IsMiddle all op → (token first last : ℕ)
        → {xs ys : List Op} {t m k : List Lexeme} →
        Covers n xs t (operator_text all op token m) → Covers n ys m k →
        Covers n (xs ++ middle_tape op ++ ys ++ operator_tape op token first last) t k
    operator_covers comma h token first last p q = between p nothing q (own refl)
    operator_covers (assign sign) h token first last p q = between p nothing q (own refl)
    operator_covers (cond middle colon) h token first last p q =
        between p (some_expr_covers middle h) (skip q) (own refl)
    operator_covers (binary sign) h token first last p q = between p nothing q (own refl)

    some_expr_covers : (e : SomeExpr) → IsSomeExpr all e → {k : List Lexeme} →
        Covers n (some_expr_tape e) (some_expr_text all e k) k
    some_expr_covers no_expr h = nothing
    some_expr_covers (some_expr e) h = expr_covers e h false false

    exprs_cover : (es : Exprs) → AreArguments all es → {k : List Lexeme}
        → Covers n (exprs_tape es) (exprs_text all es k) k
    exprs_cover no_exprs h = nothing
    exprs_cover (more_exprs e es) h = join (expr_covers e h.0 false false) (other_exprs_cover es h.2)

    other_exprs_cover : (es : Exprs) → AreArguments all es → {k : List Lexeme} →
        Covers n (exprs_tape es) (other_exprs_text all es k) k
    other_exprs_cover no_exprs h = nothing
    other_exprs_cover (more_exprs e es) h = skip (join (expr_covers e h.0 false false) (other_exprs_cover es h.2))

    dropped_covers : (e : SomeExpr) → IsSomeExpr all e → {k : List Lexeme}
        → Covers n (dropped_tape e) (some_expr_text all e k) k
    dropped_covers no_expr h = nothing
    dropped_covers (some_expr e) h = then_mute (expr_covers e h false false) (mute refl)

    steps_cover : (ds : Desigs) → AreSteps all ds → {k : List Lexeme}
        → Covers n (steps_tape ds) (desigs_text all ds k) k
    steps_cover no_desigs h = nothing
    steps_cover (more_desigs d ds) h = join (step_covers d h.0) (steps_cover ds h.1)

    step_covers : (d : Desig) → IsStep all d → {k : List Lexeme} → Covers n (step_tape d) (desig_text all d k) k
    step_covers (member_desig before name) h = then_mute (skip (skip nothing)) (mute refl)
    step_covers (index_desig opening e closing) h = then_mute (skip (ends (expr_covers e h false false))) (mute refl)
    step_covers (range_desig opening e dots e2 closing) h = absurd h
    step_covers (old_desig name colon) h = absurd h

    -- specifiers

    -- with the unnamed members that the words may be
    words_cover : (ws : SpecWords) → AreSpecWords all ws → (is_alone : Bool) → {k : List Lexeme} →
        CoversBoth n (words_tape is_alone ws) (unnamed_tape ws) (spec_words_text all ws k) k
    words_cover no_words h is_alone = alone nothing
    words_cover (more_words word ws) h is_alone =
        side_by_side (word_covers word h.0 is_alone) (words_cover ws h.1 is_alone)

    word_covers : (word : SpecWord) → IsSpecWord all word → (is_alone : Bool) → {k : List Lexeme} →
        CoversBoth n (word_tape is_alone word) (unnamed_word_tape word) (spec_word_text all word k) k
    word_covers (storage word) h is_alone = alone (then_mute (skip nothing) (mute refl))
    word_covers (thread token) h is_alone = alone (skip nothing)
    word_covers (inline_word token) h is_alone = alone (then_mute (skip nothing) (mute refl))
    word_covers (noreturn token) h is_alone = alone (skip nothing)
    word_covers (qualifier q) h is_alone = alone (then_mute (qual_skip all q nothing) (mute refl))
    word_covers (basic word) h is_alone = alone (then_mute (skip nothing) (void_mute (is_void word.keyword)))
    word_covers (struct_type word attrs None body) h is_alone =
        keyed_beside
        (attrs_skip all attrs (struct_covers body h.3 is_alone (tag_kind word.keyword) word.token None)) (own refl)
    word_covers (struct_type word attrs (Some tag) body) h is_alone =
        alone (skip
        (attrs_skip all attrs (skip (struct_covers body h.3 is_alone (tag_kind word.keyword) word.token (Some tag)))))
    word_covers (enum_type e) h is_alone = alone (enum_covers e h)
    word_covers (typedef_name name) h is_alone = alone (then_mute (skip nothing) (mute refl))
    word_covers (attribute attr) h is_alone = alone (attr_skip all attr nothing)
    word_covers (typeof_value keyword opening e closing) h is_alone =
        alone (skip
        (skip (ends (then_mute (then_mute (mute_then (mutes (mute refl) (mute refl)) (expr_covers e h false false))
        (mute refl)) (mute refl)))))
    word_covers (typeof_type word opening ws d closing) h is_alone =
        alone (skip (skip (ends (then_mute (mute_then (mute refl) (type_name_covers (first_word ws)
        (words_cover ws (type_words_are all ws h.2) false) (some_declr_covers d (abstract_is all d h.3))))
        (mute refl)))))
    word_covers (align attr) h is_alone = alone (skip (group_skip all attr.group nothing))
    word_covers (auto_word token) h is_alone = alone (skip nothing)

    struct_covers : (body : SomeBody) → IsBody all body →
        (is_alone : Bool) (kind : TagKind) (keyword : ℕ) (tag : Option Identifier) →
        {k : List Lexeme} → Covers n (struct_tape is_alone kind keyword tag body) (some_body_text all body k) k
    struct_covers no_body h is_alone kind keyword tag = then_mute nothing (tag_mute is_alone kind tag)
    struct_covers (some_body opening items closing) h is_alone kind keyword tag =
        then_mute (mute_then (body_mute kind keyword tag) (skip (ends (struct_items_cover items h)))) (mute refl)

    struct_items_cover : (items : StructItems) → AreStructItems all items → {k : List Lexeme} →
        Covers n (struct_items_tape items) (struct_items_text all items k) k
    struct_items_cover no_struct_items h = nothing
    struct_items_cover (more_struct_items item items) h =
        join (struct_item_covers item h.0) (struct_items_cover items h.1)

    struct_item_covers : (item : StructItem) → IsStructItem all item → {k : List Lexeme} →
        Covers n (struct_item_tape item) (struct_item_text all item k) k
    struct_item_covers (member extensions ws ds semi) h =
        extensions_skip extensions (then_mute (ends (members_cover ds h.4 ws (words_cover ws h.1 false))) (mute refl))
    struct_item_covers (member_semi semi) h = skip nothing
    struct_item_covers (member_assert it) h = assert_skip all it nothing

    -- behind their specifiers
    members_cover : (ds : MemDeclrs) → AreMemDeclrs all ds → (ws : SpecWords) → {t k : List Lexeme} →
        CoversBoth n (words_tape false ws) (unnamed_tape ws) t (mem_declrs_text all ds k) →
        Covers n (specs_with (words_tape false ws) ++ members_tape ws ds) t k
    members_cover no_mem_declrs h ws p = one_by_one p (mute refl)
    members_cover (more_mem_declrs attrs d ds) h ws p =
        join (specs_cover p) (attrs_skip all attrs (join (mem_declr_covers d h.1) (other_mem_declrs_cover ds h.2)))

    other_mem_declrs_cover : (ds : MemDeclrs) → AreMemDeclrs all ds → {k : List Lexeme} →
        Covers n (mem_declrs_tape ds) (other_mem_declrs_text all ds k) k
    other_mem_declrs_cover no_mem_declrs h = nothing
    other_mem_declrs_cover (more_mem_declrs attrs d ds) h =
        skip (attrs_skip all attrs (join (mem_declr_covers d h.1) (other_mem_declrs_cover ds h.2)))

    mem_declr_covers : (d : MemDeclr) → IsMemDeclr all d → {k : List Lexeme} →
        Covers n (mem_declr_tape d) (mem_declr_text all d k) k
    mem_declr_covers (named d width attrs) h =
        past (join (then_mute (then_mute (contents_cover d h.0 false) (pieces_mute d)) (mute refl))
        (some_value_covers width h.2 Colon))
        (attrs_skip all attrs nothing)
    mem_declr_covers (unnamed colon e attrs) h =
        quiet_covers (skip (past (expr_covers e h.0 false false) (attrs_skip all attrs nothing)))

    some_value_covers : (value : SomeValue) → IsSomeValue all value → (sign : Punct) → {k : List Lexeme} →
        Covers n (some_value_tape value) (some_value_text all sign value k) k
    some_value_covers no_value h sign = nothing
    some_value_covers (some_value token e) h sign = quiet_covers (skip (expr_covers e h.0 false false))

    enum_covers : (e : EnumType) → IsEnum all e → {k : List Lexeme} → Covers n (enum_tape e) (enum_type_text all e k) k
    enum_covers (enum_of keyword attrs tag body) h =
        skip (attrs_skip all attrs (tag_skip tag (enum_body_covers body h.2 keyword tag)))

    enum_body_covers : (body : SomeEnumBody) → IsEnumBody all body → (keyword : ℕ) (tag : Option Identifier)
        → {k : List Lexeme} →
        Covers n (enum_body_tape keyword tag body) (some_enum_body_text all body k) k
    enum_body_covers no_enum_body h keyword tag = then_mute nothing (tag_mute false tags.Enum tag)
    enum_body_covers (some_enum_body opening es last closing) h keyword tag =
        then_mute (mute_then (body_mute tags.Enum keyword tag) (skip (past (enumerators_cover es h.1)
        (some_sign_skip Comma last (skip nothing))))) (mute refl)

    enumerators_cover : (es : Enumerators) → AreEnumerators all es → {k : List Lexeme} →
        Covers n (enumerators_tape es) (enumerators_text all es k) k
    enumerators_cover no_enumerators h = nothing
    enumerators_cover (more_enumerators name attrs value es) h =
        join (keyed (attrs_skip all attrs (some_value_covers value h.1 Equal)) (own refl))
        (other_enumerators_cover es h.2)

    other_enumerators_cover : (es : Enumerators) → AreEnumerators all es → {k : List Lexeme} →
        Covers n (enumerators_tape es) (other_enumerators_text all es k) k
    other_enumerators_cover no_enumerators h = nothing
    other_enumerators_cover (more_enumerators name attrs value es) h =
        skip (join (keyed (attrs_skip all attrs (some_value_covers value h.1 Equal)) (own refl))
        (other_enumerators_cover es h.2))

    -- declarators

    some_declr_covers : (d : SomeDeclr) → IsSomeDeclr all d → {k : List Lexeme} →
        Covers n (some_declr_tape d) (some_declr_text all d k) k
    some_declr_covers no_declr h = nothing
    some_declr_covers (some_declr d) h = then_mute (contents_cover d h false) (pieces_mute d)

    contents_cover : (d : Declr) → IsDeclr all d → (is_own : Bool) → {k : List Lexeme} →
        Covers n (contents is_own d) (declr_text all d k) k
    contents_cover (pointer star words d) h is_own = skip (pointer_words_skip all words (contents_cover d h.1 is_own))
    contents_cover (declr_name token name) h is_own = keyed nothing (own refl)
    contents_cover (declr_paren opening attrs d closing) h is_own =
        skip (attrs_skip all attrs (ends (contents_cover d h.1 is_own)))
    contents_cover (array d opening words size closing) h is_own =
        join (contents_cover d h.0 is_own) (skip (array_words_skip all words (ends (some_size_covers size h.4))))
    contents_cover (params d opening ps dots closing) h is_own =
        join (contents_cover d h.0 is_own) (skip (past (params_cover _ (says_none ps) (params_go ps h.3))
        (dots_skip all dots (skip nothing))))
    contents_cover (abs_pointer star words d) h is_own =
        skip (pointer_words_skip all words (some_contents_cover d (abstract_is all d h.1)))
    contents_cover (abs_paren opening attrs d closing) h is_own =
        skip (attrs_skip all attrs (ends (contents_cover d h.1 is_own)))
    contents_cover (abs_array d opening words size closing) h is_own =
        join (some_contents_cover d (direct_is all d h.0))
        (skip (array_words_skip all words (ends (some_size_covers size h.2))))
    contents_cover (abs_params d opening ps dots closing) h is_own =
        join (some_contents_cover d (direct_is all d h.0))
        (skip (past (params_cover false (says_none ps) (params_go ps h.1))
        (dots_skip all dots (skip nothing))))
    contents_cover (identifiers d opening names closing) h is_own =
        then_mute (then_mute (past (contents_cover d h.0 is_own) (skip (names_skip names (skip nothing))))
        (mute refl)) (mute refl)
    contents_cover (base_name token) h is_own = skip nothing

    some_contents_cover : (d : SomeDeclr) → IsSomeDeclr all d → {k : List Lexeme} →
        Covers n (some_contents d) (some_declr_text all d k) k
    some_contents_cover no_declr h = nothing
    some_contents_cover (some_declr d) h = contents_cover d h false

    some_size_covers : (size : SomeSize) → IsSize all size → {k : List Lexeme} →
        Covers n (some_size_tape size) (some_size_text all size k) k
    some_size_covers no_size h = nothing
    some_size_covers (some_size size) h = size_covers size h

    size_covers : (size : ArraySize) → IsArraySize all size → {k : List Lexeme} →
        Covers n (size_tape size) (array_size_text all size k) k
    size_covers (size_value e) h = quiet_covers (expr_covers e h.0 false false)
    size_covers (size_star token) h = skip nothing

    params_go : (ps : Params) → AreParams all ps → {k : List Lexeme}
        → Covers n (params_tape ps) (params_text all ps k) k
    params_go no_params h = nothing
    params_go (more_params ws d attrs ps) h =
        join (then_mute (join (specs_cover (words_cover ws h.1 false)) (past (some_declr_covers d h.3)
        (attrs_skip all attrs nothing)))
        (mute refl)) (other_params_go ps h.6)

    other_params_go : (ps : Params) → AreParams all ps → {k : List Lexeme} →
        Covers n (params_tape ps) (other_params_text all ps k) k
    other_params_go no_params h = nothing
    other_params_go (more_params ws d attrs ps) h =
        skip (join (then_mute (join (specs_cover (words_cover ws h.1 false)) (past (some_declr_covers d h.3)
        (attrs_skip all attrs nothing))) (mute refl)) (other_params_go ps h.6))

    -- initialisers

    init_covers : (i : Init) → IsInit all i → {k : List Lexeme} → Covers n (init_tape i) (init_text all i k) k
    init_covers (init_value e) h = expr_covers e h.0 false false
    init_covers (init_braced list) h = list_covers list h

    list_covers : (list : InitList) → IsInitList all list → {k : List Lexeme} →
        Covers n (list_tape list) (init_list_text all list k) k
    list_covers (init_list opening items last closing) h =
        skip (past (init_items_cover items h.0) (some_sign_skip Comma last (skip nothing)))

    init_items_cover : (items : InitItems) → AreInitItems all items → {k : List Lexeme} →
        Covers n (init_items_tape items) (init_items_text all items k) k
    init_items_cover no_init_items h = nothing
    init_items_cover (more_init_items ds equal i items) h =
        join (join (indices_cover ds h.0) (some_sign_skip Equal equal (init_covers i h.2)))
        (other_init_items_cover items h.3)

    other_init_items_cover : (items : InitItems) → AreInitItems all items → {k : List Lexeme} →
        Covers n (init_items_tape items) (other_init_items_text all items k) k
    other_init_items_cover no_init_items h = nothing
    other_init_items_cover (more_init_items ds equal i items) h =
        skip (join (join (indices_cover ds h.0) (some_sign_skip Equal equal (init_covers i h.2)))
        (other_init_items_cover items h.3))

    indices_cover : (ds : Desigs) → AreDesigs all ds → {k : List Lexeme}
        → Covers n (indices_tape ds) (desigs_text all ds k) k
    indices_cover no_desigs h = nothing
    indices_cover (more_desigs d ds) h = join (index_covers d h.0) (indices_cover ds h.1)

    index_covers : (d : Desig) → IsDesig all d → {k : List Lexeme} → Covers n (index_tape d) (desig_text all d k) k
    index_covers (member_desig before name) h = skip (skip nothing)
    index_covers (index_desig opening e closing) h = quiet_covers (skip (ends (expr_covers e h.0 false false)))
    index_covers (range_desig opening e dots e2 closing) h =
        join (quiet_covers (skip (expr_covers e h.0 false false)))
        (quiet_covers (skip (ends (expr_covers e2 h.2 false false))))
    index_covers (old_desig name colon) h = skip (skip nothing)

    some_init_covers : (i : SomeInit) → IsSomeInit all i → {k : List Lexeme} →
        Covers n (some_init_tape i) (some_init_text all i k) k
    some_init_covers no_init h = nothing
    some_init_covers (some_init equal i) h = skip (declared_init_covers i h)

    declared_init_covers : (i : Init) → IsInit all i → {k : List Lexeme}
        → Covers n (declared_init_tape i) (init_text all i k) k
    declared_init_covers (init_value e) h = then_mute (expr_covers e h.0 false false) (mute refl)
    declared_init_covers (init_braced list) h =
        then_mute (then_mute (then_mute (mute_then (mute refl) (list_covers list h)) (mute refl)) (rule_list_mute list))
        (mute refl)

    -- declarations and statements

    init_declrs_cover : (ds : InitDeclrs) → AreInitDeclrs all ds → {k : List Lexeme} →
        Covers n (init_declrs_tape ds) (init_declrs_text all ds k) k
    init_declrs_cover no_init_declrs h = nothing
    init_declrs_cover (more_init_declrs attrs d asm_label attrs2 i ds) h =
        attrs_skip all attrs
        (join (join (then_mute (then_mute (contents_cover d h.1 false) (pieces_mute d)) (mute refl))
        (label_skip all asm_label (attrs_skip all attrs2 (some_init_covers i h.5)))) (other_init_declrs_cover ds h.6))

    other_init_declrs_cover : (ds : InitDeclrs) → AreInitDeclrs all ds → {k : List Lexeme} →
        Covers n (init_declrs_tape ds) (other_init_declrs_text all ds k) k
    other_init_declrs_cover no_init_declrs h = nothing
    other_init_declrs_cover (more_init_declrs attrs d asm_label attrs2 i ds) h =
        skip (attrs_skip all attrs
        (join (join (then_mute (then_mute (contents_cover d h.1 false) (pieces_mute d)) (mute refl))
        (label_skip all asm_label (attrs_skip all attrs2 (some_init_covers i h.5)))) (other_init_declrs_cover ds h.6)))

    declaration_covers : (d : Declaration) → IsDeclaration all d → {k : List Lexeme} →
        Covers n (declaration_tape d) (declaration_text all d k) k
    declaration_covers (declaration extensions ws ds semi) h =
        extensions_skip extensions (then_mute (ends (join (specs_cover (words_cover ws h.1 _))
        (either (are_auto ws ds) (auto_declrs_cover ds h.3 semi) (init_declrs_cover ds h.3)))) (mute refl))

    -- declarators of names that have the types of their initialisers
    auto_declrs_cover : (ds : InitDeclrs) → AreInitDeclrs all ds → (semi : ℕ) → {k : List Lexeme} →
        Covers n (auto_declrs_tape semi ds) (init_declrs_text all ds k) k
    auto_declrs_cover no_init_declrs h semi = nothing
    auto_declrs_cover (more_init_declrs attrs d asm_label attrs2 i ds) h semi =
        attrs_skip all attrs (join (join (contents_cover d h.1 false)
        (label_skip all asm_label (attrs_skip all attrs2 (auto_init_covers i h.5 semi))))
        (other_auto_declrs_cover ds h.6 semi))

    other_auto_declrs_cover : (ds : InitDeclrs) → AreInitDeclrs all ds → (semi : ℕ) → {k : List Lexeme} →
        Covers n (auto_declrs_tape semi ds) (other_init_declrs_text all ds k) k
    other_auto_declrs_cover no_init_declrs h semi = nothing
    other_auto_declrs_cover (more_init_declrs attrs d asm_label attrs2 i ds) h semi =
        skip (attrs_skip all attrs (join (join (contents_cover d h.1 false)
        (label_skip all asm_label (attrs_skip all attrs2 (auto_init_covers i h.5 semi))))
        (other_auto_declrs_cover ds h.6 semi)))

    auto_init_covers : (i : SomeInit) → IsSomeInit all i → (semi : ℕ) → {k : List Lexeme} →
        Covers n (auto_init_tape semi i) (some_init_text all i k) k
    auto_init_covers no_init h semi = nothing
    auto_init_covers (some_init equal (init_value e)) h semi =
        skip (then_mute (then_mute (mute_then (mute refl) (expr_covers e h.0 false false)) (mute refl)) (mute refl))
    auto_init_covers (some_init equal (init_braced list)) h semi = skip (text_only (list_covers list h))

    decl_covers : (d : Decl) → IsDecl all d → {k : List Lexeme} → Covers n (decl_tape d) (decl_text all d k) k
    decl_covers (decl_declaration d) h = declaration_covers d h
    decl_covers (decl_assert it) h = assert_skip all it nothing

    block_items_cover : (items : BlockItems) → AreBlockItems all items → (kept : Bool) → {k : List Lexeme} →
        Covers n (block_items_tape kept items) (block_items_text all items k) k
    block_items_cover no_block_items h kept = nothing
    block_items_cover (more_block_items item items) h kept =
        join (block_item_covers item h.0 _) (block_items_cover items h.1 kept)

    block_item_covers : (item : BlockItem) → IsBlockItem all item → (kept : Bool) → {k : List Lexeme} →
        Covers n (block_item_tape kept item) (block_item_text all item k) k
    block_item_covers (block_decl d) h kept = decl_covers d h
    block_item_covers (block_stmt s) h kept = stmt_covers s h kept
    block_item_covers (block_labels keyword names semi) h kept = skip (names_skip names (skip nothing))

    stmt_covers : (s : Stmt) → IsStmt all s → (kept : Bool) → {k : List Lexeme} →
        Covers n (stmt_tape kept s) (stmt_text all s k) k
    stmt_covers (block opening items closing) h kept = scope_covers (skip (ends (block_items_cover items h.0 false)))
    stmt_covers (expr_stmt e semi) h kept = ends (either kept (some_expr_covers e h) (dropped_covers e h))
    stmt_covers (attr_stmt attrs semi) h kept = attrs_skip all attrs (skip nothing)
    stmt_covers (label name colon attrs s) h kept = skip (skip (attrs_skip all attrs (stmt_covers s h.1 false)))
    stmt_covers (case_stmt keyword e colon s) h kept =
        skip (join (quiet_covers (expr_covers e h.0 false false)) (skip (stmt_covers s h.2 false)))
    stmt_covers (default_stmt keyword colon s) h kept = skip (skip (stmt_covers s h false))
    stmt_covers (if_stmt keyword opening e closing s other) h kept =
        scope_covers (skip (skip (join (join (then_mute (expr_covers e h.0 false false) (mute refl))
        (skip (scope_covers (stmt_covers s h.1 false)))) (some_else_covers other s h.2))))
    stmt_covers (switch_stmt keyword opening e closing s) h kept =
        scope_covers (skip (skip (join (then_mute (expr_covers e h.0 false false) (mute refl)) (skip (scope_covers
        (stmt_covers s h.1 false))))))
    stmt_covers (while_stmt keyword opening e closing s) h kept =
        scope_covers (skip (skip (join (then_mute (expr_covers e h.0 false false) (mute refl)) (skip (scope_covers
        (stmt_covers s h.1 false))))))
    stmt_covers (do_stmt keyword s keyword2 opening e closing semi) h kept =
        scope_covers (then_mute (skip (join (scope_covers (stmt_covers s h.0 false)) (skip (skip (ends (ends
        (expr_covers e h.1 false false)))))))
        (mute refl))
    stmt_covers (for_stmt keyword opening start e semi e2 closing s) h kept =
        scope_covers (skip (skip (join (join (join (for_start_covers start h.0) (dropped_covers e h.1))
        (skip (dropped_covers e2 h.2))) (skip (scope_covers (stmt_covers s h.3 false))))))
    stmt_covers (goto_stmt keyword name semi) h kept = skip (skip (skip nothing))
    stmt_covers (continue_stmt keyword semi) h kept = skip (skip nothing)
    stmt_covers (break_stmt keyword semi) h kept = skip (skip nothing)
    stmt_covers (return_stmt keyword e semi) h kept = skip (return_covers e h keyword semi (skip nothing))
    stmt_covers (asm_stmt keyword words group semi) h kept =
        skip (words_skip words (group_skip all group (skip nothing)))
    stmt_covers (case_range keyword e dots e2 colon s) h kept =
        skip (join
        (join (quiet_covers (expr_covers e h.0 false false)) (skip (quiet_covers (expr_covers e2 h.2 false false))))
        (skip (stmt_covers s h.4 false)))
    stmt_covers (goto_value keyword star e semi) h kept =
        skip (skip (ends (then_mute (expr_covers e h false false) (mute refl))))

    some_else_covers : (other : SomeElse) (before : Stmt) → IsOther all before other → {k : List Lexeme} →
        Covers n (some_else_tape other) (some_else_text all other k) k
    some_else_covers no_else before h = nothing
    some_else_covers (some_else keyword s) before h = skip (scope_covers (stmt_covers s h.0 false))

    for_start_covers : (start : ForStart) → IsStart all start → {k : List Lexeme} →
        Covers n (for_start_tape start) (for_start_text all start k) k
    for_start_covers (start_declaration d) h = declaration_covers d h
    for_start_covers (start_value e semi) h = ends (dropped_covers e h)

    return_covers : (e : SomeExpr) → IsSomeExpr all e → (keyword semi : ℕ) → {m k : List Lexeme} → Covers n [] m k →
        Covers n (return_tape keyword e semi) (some_expr_text all e m) k
    return_covers no_expr h keyword semi p = p
    return_covers (some_expr e) h keyword semi p = then_mute (past (expr_covers e h false false) p) (mute refl)

  -- declarations behind a list of identifiers

  other_old_declrs_cover : (ds : InitDeclrs) → AreInitDeclrs all ds → {k : List Lexeme} →
      Covers n (old_declrs_tape ds) (other_init_declrs_text all ds k) k
  other_old_declrs_cover no_init_declrs h = nothing
  other_old_declrs_cover (more_init_declrs attrs d asm_label attrs2 i ds) h =
      skip (attrs_skip all attrs
      (join (join (then_mute (then_mute (contents_cover d h.1 false) (pieces_mute d)) (mute refl))
      (label_skip all asm_label (attrs_skip all attrs2 (some_init_covers i h.5)))) (other_old_declrs_cover ds h.6)))

  old_declrs_cover : (ds : InitDeclrs) → AreInitDeclrs all ds → {k : List Lexeme} →
      Covers n (old_declrs_tape ds) (init_declrs_text all ds k) k
  old_declrs_cover no_init_declrs h = nothing
  old_declrs_cover (more_init_declrs attrs d asm_label attrs2 i ds) h =
      attrs_skip all attrs (join (join (then_mute (then_mute (contents_cover d h.1 false) (pieces_mute d)) (mute refl))
      (label_skip all asm_label (attrs_skip all attrs2 (some_init_covers i h.5)))) (other_old_declrs_cover ds h.6))

  old_declaration_covers : (d : Declaration) → IsDeclaration all d → {k : List Lexeme} →
      Covers n (old_declaration_tape d) (declaration_text all d k) k
  old_declaration_covers (declaration extensions ws ds semi) h =
      extensions_skip extensions (then_mute (ends (join (specs_cover (words_cover ws h.1 _))
      (either (are_auto ws ds) (auto_declrs_cover ds h.3 semi) (old_declrs_cover ds h.3)))) (mute refl))

  old_declarations_cover : (ds : List Declaration) → All (IsDeclaration all) ds → {k : List Lexeme} →
      Covers n (old_declarations_tape ds) (declarations_text all ds k) k
  old_declarations_cover [] h = nothing
  old_declarations_cover (d ∷ ds) h =
      join (old_declaration_covers d (All-head (IsDeclaration all) d ds h))
      (old_declarations_cover ds (All-tail (IsDeclaration all) d ds h))

  -- a declarator with a list of identifiers; the tokens of the declarations behind it are not in its text
  old_contents_cover : (ds : List Declaration) (d : Declr) → IsDeclr all d → {k : List Lexeme} →
      CoversBut n (old_declarations_tape ds) (old_contents ds d) (declr_text all d k) k
  old_contents_cover ds (identifiers d opening names closing) h =
      but_past
      (but_mute (reached (old_declarations_tape ds) (then_mute (then_mute (contents_cover d h.0 false) (mute refl))
      (identifiers_mute names))) (mute refl)) (skip (names_skip names (skip nothing)))
  old_contents_cover ds (pointer star words d) h =
      but_before (skip (pointer_words_skip all words nothing)) (old_contents_cover ds d h.1)
  old_contents_cover ds (declr_paren opening attrs d closing) h =
      but_before (skip (attrs_skip all attrs nothing)) (but_past (old_contents_cover ds d h.1) (skip nothing))
  old_contents_cover ds (array d opening words size closing) h =
      but_then (old_contents_cover ds d h.0) (skip (array_words_skip all words (ends (some_size_covers size h.4))))
  old_contents_cover ds (params d opening ps dots closing) h =
      but_then (old_contents_cover ds d h.0) (skip (past (params_cover false (says_none ps) (params_go ps h.3))
      (dots_skip all dots (skip nothing))))
  old_contents_cover ds (declr_name token name) h = unreached (contents_cover (declr_name token name) h false)
  old_contents_cover ds (base_name token) h = unreached (contents_cover (base_name token) h false)
  old_contents_cover ds (abs_pointer star words d) h = unreached (contents_cover (abs_pointer star words d) h false)
  old_contents_cover ds (abs_paren opening attrs d closing) h =
      unreached (contents_cover (abs_paren opening attrs d closing) h false)
  old_contents_cover ds (abs_array d opening words size closing) h =
      unreached (contents_cover (abs_array d opening words size closing) h false)
  old_contents_cover ds (abs_params d opening ps dots closing) h =
      unreached (contents_cover (abs_params d opening ps dots closing) h false)

  item_covers : (item : Item) → IsItem all item → {k : List Lexeme} → Covers n (item_tape item) (item_text all item k) k
  item_covers (function_item extensions ws d attrs opening items closing) h =
      extensions_skip extensions (then_mute (then_mute (join (then_mute (then_mute (then_mute (join (specs_cover
      (words_cover ws h.1 false))
      (contents_cover d h.4 true)) (pieces_mute d)) (mute refl)) (mute refl))
      (attrs_skip all attrs (skip (ends (block_items_cover items h.7 false))))) (mute refl)) (mute refl))
  item_covers (old_function_item extensions ws d attrs ds opening items closing) h =
      extensions_skip extensions (then_mute (then_mute (join (paid (but_past (but_mute (but_mute (but_mute
      (then_but (specs_cover (words_cover ws h.1 false)) (old_contents_cover ds d h.4))
      (pieces_mute d)) (mute refl)) (mute refl)) (attrs_skip all attrs nothing)) (old_declarations_cover ds h.7))
      (skip (ends (block_items_cover items h.8 false)))) (mute refl)) (mute refl))
  item_covers (decl_item d) h = decl_covers d h
  item_covers (asm_item keyword group semi) h = skip (group_skip all group (skip nothing))
  item_covers (semi_item semi) h = skip nothing

  pub items_cover : (items : List Item) → All (IsItem all) items → (k : List Lexeme) →
      Covers n (tape_of items) (items_text all items k) k
  items_cover [] h k = nothing
  items_cover (item ∷ items) h k =
      join (item_covers item (All-head (IsItem all) item items h))
      (items_cover items (All-tail (IsItem all) item items h) k)
