-- A tree's tape has at most two ops for each token of the tree's text. That of an expression or of a word has one
-- fewer.
use Rattle.std.proofs.Common.{◌≢◌, ℕ, All, Bool, true, false, List, [], ◌∷◌, ◌++◌, Option, None, Some, refl, lit≤, length, arith}
use Rattle.std.proofs.lemmas.List.Elements.{All-head, All-tail}
use Rattle.c_words.specs.declared.kinds.Punct.{Punct}
use Rattle.c_words.specs.declared.kinds.Punct.TheVariants.{Colon, Comma, Equal}
use Rattle.c_syntax.specs.declared.parts.Identifier.{Identifier}
use Rattle.tape_ops.specs.declared.op.Op.{Op}
use Rattle.tape_ops.specs.declared.expression.ExprOp.TheVariants as exprs
use Rattle.tape_ops.specs.declared.specifier.TagKind.{TagKind}
use Rattle.tape_ops.specs.declared.specifier.TagKind.TheVariants as tags
use Rattle.c_tree.specs.declared.lexeme.Lexeme.{Lexeme}
use Rattle.c_tree.specs.Tree.{Expr, operation, cast, prefix, sizeof_value, sizeof_type, extension, index, call, dot, arrow, post, compound, name_use, number_use, char_use, text_use, paren, statement_expr, va_arg, va_start, va_copy, offset, Operator, comma, assign, cond, binary, SomeExpr, no_expr, some_expr, Exprs, no_exprs, more_exprs, SpecWords, no_words, more_words, SpecWord, storage, thread, inline_word, noreturn, qualifier, basic, struct_type, enum_type, typedef_name, attribute, SomeBody, no_body, some_body, StructItems, no_struct_items, more_struct_items, StructItem, member, member_semi, member_assert, MemDeclrs, no_mem_declrs, more_mem_declrs, MemDeclr, named, unnamed, SomeValue, no_value, some_value, EnumType, enum_of, SomeEnumBody, no_enum_body, some_enum_body, Enumerators, no_enumerators, more_enumerators, Declr, pointer, declr_name, declr_paren, array, params, abs_pointer, abs_paren, abs_array, abs_params, SomeDeclr, no_declr, some_declr, SomeSize, no_size, some_size, ArraySize, size_value, size_star, Params, no_params, more_params, Init, init_value, init_braced, InitList, init_list, InitItems, no_init_items, more_init_items, Desigs, no_desigs, more_desigs, Desig, member_desig, index_desig, SomeInit, no_init, some_init, InitDeclrs, no_init_declrs, more_init_declrs, Declaration, declaration, Decl, decl_declaration, decl_assert, BlockItems, no_block_items, more_block_items, BlockItem, block_decl, block_stmt, Stmt, block, expr_stmt, attr_stmt, label, case_stmt, default_stmt, if_stmt, switch_stmt, while_stmt, do_stmt, for_stmt, goto_stmt, continue_stmt, break_stmt, return_stmt, asm_stmt, SomeElse, no_else, some_else, ForStart, start_declaration, start_value, complex_part, label_use, compat, choose, generic, Assocs, no_assocs, more_assocs, Assoc, typed_assoc, default_assoc, typeof_value, typeof_type, align, auto_word, identifiers, base_name, range_desig, old_desig, block_labels, case_range, goto_value}
use Rattle.c_tree.specs.Text.{assocs_text, assoc_text, texts_text, expr_text, operator_text, some_expr_text, exprs_text, other_exprs_text, spec_words_text, spec_word_text, some_body_text, struct_items_text, struct_item_text, mem_declrs_text, other_mem_declrs_text, mem_declr_text, some_value_text, enum_type_text, some_enum_body_text, enumerators_text, other_enumerators_text, declr_text, some_declr_text, some_size_text, array_size_text, params_text, other_params_text, init_text, init_list_text, init_items_text, other_init_items_text, desigs_text, desig_text, some_init_text, init_declrs_text, other_init_declrs_text, declaration_text, decl_text, block_items_text, block_item_text, stmt_text, some_else_text, for_start_text}
use Rattle.c_tree.specs.Specifiers.{IsMix}
use Rattle.c_tree.specs.WellFormed.{AreAssocs, IsAssoc, IsExpr, IsMiddle, IsSomeExpr, AreArguments, AreSteps, IsStep, AreDesigs, IsDesig, AreTypeWords, AreSpecWords, IsSpecWord, IsBody, AreStructItems, IsStructItem, AreMemDeclrs, IsMemDeclr, IsSomeValue, IsEnum, IsEnumBody, AreEnumerators, IsDeclr, IsSomeAbstract, IsSize, IsArraySize, AreParams, IsSomeDeclr, IsInit, IsInitList, AreInitItems, IsSomeInit, AreInitDeclrs, IsDeclaration, IsDecl, AreBlockItems, IsBlockItem, IsStmt, IsOther, IsStart}
use Rattle.c_tree.specs.Unit.{Item, function_item, old_function_item, decl_item, asm_item, semi_item, IsItem, declarations_text, item_text, items_text}
use Rattle.c_tree.specs.Ends.{first_token, last_token, first_text}
use Rattle.c_tree.specs.Firsts.{first_word}
use Rattle.c_tree.proofs.Weaker.{abstract_is, direct_is}
use Rattle.c_tree.proofs.NoType.{no_mix_of_none}
use Rattle.c_tape.specs.Tests.{are_auto, is_void, tag_kind, says_none}
use Rattle.c_tape.specs.Tape.{expr, arguments, pieces, some_pieces, desig_tape, desigs_tape, rule, rule_of_list, rule_of_items, tape_in, assocs_tape, assoc_tape, auto_declrs_tape, auto_init_tape, old_contents, old_declrs_tape, old_declaration_tape, old_declarations_tape, operator_tape, middle_tape, some_expr_tape, exprs_tape, dropped_tape, steps_tape, step_tape, words_tape, word_tape, unnamed_tape, unnamed_word_tape, specs_with, struct_tape, struct_items_tape, struct_item_tape, members_tape, mem_declrs_tape, mem_declr_tape, some_value_tape, enum_tape, enum_body_tape, enumerators_tape, some_declr_tape, contents, some_contents, some_size_tape, size_tape, params_tape, init_tape, list_tape, init_items_tape, indices_tape, index_tape, some_init_tape, init_declrs_tape, declaration_tape, decl_tape, block_items_tape, block_item_tape, stmt_tape, some_else_tape, for_start_tape, return_tape, item_tape, tape_of}
use Rattle.length_laws.proofs.Lengths.{Fits, FitBoth, nothing, elsewhere, one, so, join, goes_on, makes_room, text_only, first_of, past, both_so, pair, crossed, side_by_side, inside_out, before, both_past, join_both, join_parted, skip, ends, both_skip, first_only, second_only, one_by_one, listed}
use Rattle.length_laws.proofs.Parts.{either, quiet_fits, scope_fits, prefix_fits, names_skip, names_fit, specs_fit, params_fit, type_name_fits, tag_fits, body_fits, some_sign_skip, words_skip, extensions_skip, texts_skip, group_skip, attrs_skip, label_skip, assert_skip, qual_fits, pointer_words_fit, array_words_fit, dots_fit}

module _ (all : List Lexeme) where
  texts_fit : (texts : List ℕ) → texts ≢ [] → {k : List Lexeme} →
      Fits 0 1 (expr (exprs.Text (first_text texts))) (texts_text texts k) k
  texts_fit [] h = absurd (h refl)
  texts_fit (token ∷ tokens) h = so (skip (texts_skip tokens one)) (lit≤ tt)

  mutual
    -- expressions

    expr_fits : (e : Expr) → IsExpr all e → (called aims : Bool) → {k : List Lexeme} →
        Fits 0 1 (tape_in called aims e) (expr_text all e k) k
    expr_fits (operation e op token e2) h called aims =
        operator_fits op h.3 token (first_token e) (last_token e2) (expr_fits e h.0 false false)
        (expr_fits e2 h.1 false false)
    expr_fits (cast opening ws d closing e) h called aims =
        so (skip (join (join (type_name_fits (first_word ws) (type_words_fit ws h.1) (abstract_fits d h.2))
        (skip (expr_fits e h.3 false false))) one)) (lit≤ tt)
    expr_fits (prefix token p e) h called aims =
        so (skip (prefix_fits token p e aims (expr_fits e h.0 false true) (expr_fits e h.0 false false))) (lit≤ tt)
    expr_fits (sizeof_value word e) h called aims =
        so (skip (join (join one (expr_fits e h.0 false false)) one)) (lit≤ tt)
    expr_fits (sizeof_type word opening ws d closing) h called aims =
        so (skip (skip (ends (join (join one
        (type_name_fits (first_word ws) (type_words_fit ws h.1) (abstract_fits d h.2))) one)))) (lit≤ tt)
    expr_fits (extension keyword e) h called aims = so (skip (join (expr_fits e h.0 false aims) one)) (lit≤ tt)
    expr_fits (index e opening e2 closing) h called aims =
        so (ends (join (join (expr_fits e h.0 false false) (skip (expr_fits e2 h.1 false false))) one)) (lit≤ tt)
    expr_fits (call e opening es closing) h called aims =
        so (ends (join (join_both (expr_fits e h.0 true false) (both_skip (exprs_fit es h.1))) one)) (lit≤ tt)
    expr_fits (dot e token name) h called aims = so (join (expr_fits e h.0 false aims) (skip (skip one))) (lit≤ tt)
    expr_fits (arrow e token name) h called aims =
        so (join (join (expr_fits e h.0 false false) (skip (skip one))) one) (lit≤ tt)
    expr_fits (post e token p) h called aims = so (join (expr_fits e h.0 false false) (skip one)) (lit≤ tt)
    expr_fits (compound opening ws d closing list) h called aims =
        so (skip
        (join (join_parted (join (type_name_fits (first_word ws) (type_words_fit ws h.1) (abstract_fits d h.2)) one)
        (both_skip (list_fits list h.3)) one) one)) (lit≤ tt)
    expr_fits (name_use token name) h called aims = so (skip one) (lit≤ tt)
    expr_fits (number_use token) h called aims = so (skip one) (lit≤ tt)
    expr_fits (char_use token) h called aims = so (skip one) (lit≤ tt)
    expr_fits (text_use texts) h called aims = texts_fit texts h
    expr_fits (paren opening e closing) h called aims = so (skip (ends (join (expr_fits e h false aims) one))) (lit≤ tt)
    expr_fits (statement_expr opening opening2 items closing closing2) h called aims =
        so (skip (skip (ends (ends (join (scope_fits (block_items_fit items h.0 true)) one))))) (lit≤ tt)
    expr_fits (va_arg keyword opening e separator ws d closing) h called aims =
        so (skip (skip (ends (join (join (expr_fits e h.0 false false)
        (skip (type_name_fits (first_word ws) (type_words_fit ws h.2) (abstract_fits d h.3)))) one)))) (lit≤ tt)
    expr_fits (va_start keyword opening e separator e2 closing) h called aims =
        so (skip
        (skip (ends (join (join (expr_fits e h.0 false false) (skip (expr_fits e2 h.1 false false))) one)))) (lit≤ tt)
    expr_fits (va_copy keyword opening e separator e2 closing) h called aims =
        so (skip
        (skip (ends (join (join (expr_fits e h.0 false false) (skip (expr_fits e2 h.1 false false))) one)))) (lit≤ tt)
    expr_fits (offset keyword opening ws d separator name steps closing) h called aims =
        so (skip (skip (ends (join (join (join (join one
        (type_name_fits (first_word ws) (type_words_fit ws h.1) (abstract_fits d h.2))) (skip (skip one)))
        (steps_fit steps h.3)) one)))) (lit≤ tt)
    expr_fits (complex_part keyword e) h called aims = so (skip (join (expr_fits e h.0 false aims) one)) (lit≤ tt)
    expr_fits (label_use token name) h called aims = so (skip (skip one)) (lit≤ tt)
    expr_fits (compat keyword opening ws d separator ws2 d2 closing) h called aims =
        so (skip (skip (ends (join (join (join one
        (type_name_fits (first_word ws) (type_words_fit ws h.1) (abstract_fits d h.2)))
        (skip (type_name_fits (first_word ws2) (type_words_fit ws2 h.4) (abstract_fits d2 h.5)))) one)))) (lit≤ tt)
    expr_fits (choose keyword opening e separator e2 separator2 e3 closing) h called aims =
        so (skip (skip (ends (join (join (join (quiet_fits (expr_fits e h.0 false false))
        (skip (expr_fits e2 h.1 false false))) (skip (expr_fits e3 h.2 false false))) one)))) (lit≤ tt)
    expr_fits (generic keyword opening e xs closing) h called aims =
        so
        (skip (skip (ends (join (join (join (join one (expr_fits e h.0 false false)) one) (assocs_fit xs h.3)) one))))
        (lit≤ tt)

    assocs_fit : (xs : Assocs) → AreAssocs all xs → {k : List Lexeme}
        → Fits 0 0 (assocs_tape xs) (assocs_text all xs k) k
    assocs_fit no_assocs h = nothing
    assocs_fit (more_assocs x xs) h = so (skip (join (assoc_fits x h.0) (assocs_fit xs h.1))) (lit≤ tt)

    assoc_fits : (x : Assoc) → IsAssoc all x → {k : List Lexeme} → Fits 0 0 (assoc_tape x) (assoc_text all x k) k
    assoc_fits (typed_assoc ws d colon e) h =
        so (join (type_name_fits (first_word ws) (type_words_fit ws h.1) (abstract_fits d h.2))
        (skip (expr_fits e h.3 false false))) (lit≤ tt)
    assoc_fits (default_assoc keyword colon e) h = so (skip (skip (join one (expr_fits e h.0 false false)))) (lit≤ tt)

    -- behind its first operand, before its second
    operator_fits : (op : Operator) → IsMiddle all op → (token first last : ℕ)
        → {xs ys : List Op} {t u k : List Lexeme} →
        Fits 0 1 xs t (operator_text all op token u) → Fits 0 1 ys u k →
        Fits 0 1 (xs ++ middle_tape op ++ ys ++ operator_tape op token first last) t k
    operator_fits comma h token first last p q = so (join (join (join p (skip nothing)) q) one) (lit≤ tt)
    operator_fits (assign sign) h token first last p q = so (join (join (join p (skip nothing)) q) one) (lit≤ tt)
    operator_fits (cond middle colon) h token first last p q =
        so (join (join (join p (skip (ends (some_expr_fits middle h)))) q) one) (lit≤ tt)
    operator_fits (binary sign) h token first last p q = so (join (join (join p (skip nothing)) q) one) (lit≤ tt)

    some_expr_fits : (e : SomeExpr) → IsSomeExpr all e → {k : List Lexeme} →
        Fits 0 0 (some_expr_tape e) (some_expr_text all e k) k
    some_expr_fits no_expr h = nothing
    some_expr_fits (some_expr e) h = so (expr_fits e h false false) (lit≤ tt)

    -- arguments, with what follows their values
    exprs_fit : (es : Exprs) → AreArguments all es → {k : List Lexeme} →
        FitBoth 0 0 (exprs_tape es) (arguments es) (exprs_text all es k) k
    exprs_fit no_exprs h = first_only nothing
    exprs_fit (more_exprs e es) h =
        both_so (side_by_side (pair (expr_fits e h.0 false false) one) (other_exprs_fit es h.2)) (lit≤ tt)

    other_exprs_fit : (es : Exprs) → AreArguments all es → {k : List Lexeme} →
        FitBoth 0 0 (exprs_tape es) (arguments es) (other_exprs_text all es k) k
    other_exprs_fit no_exprs h = first_only nothing
    other_exprs_fit (more_exprs e es) h =
        both_so (both_skip (side_by_side (pair (expr_fits e h.0 false false) one) (other_exprs_fit es h.2))) (lit≤ tt)

    dropped_fits : (e : SomeExpr) → IsSomeExpr all e → {k : List Lexeme}
        → Fits 0 0 (dropped_tape e) (some_expr_text all e k) k
    dropped_fits no_expr h = nothing
    dropped_fits (some_expr e) h = so (join (expr_fits e h false false) one) (lit≤ tt)

    steps_fit : (ds : Desigs) → AreSteps all ds → {k : List Lexeme} → Fits 0 0 (steps_tape ds) (desigs_text all ds k) k
    steps_fit no_desigs h = nothing
    steps_fit (more_desigs d ds) h = so (join (step_fits d h.0) (steps_fit ds h.1)) (lit≤ tt)

    step_fits : (d : Desig) → IsStep all d → {k : List Lexeme} → Fits 0 0 (step_tape d) (desig_text all d k) k
    step_fits (member_desig sign name) h = so (skip (skip one)) (lit≤ tt)
    step_fits (index_desig opening e closing) h = so (skip (ends (join (expr_fits e h false false) one))) (lit≤ tt)
    step_fits (range_desig opening e dots e2 closing) h = absurd h
    step_fits (old_desig name colon) h = absurd h

    -- specifiers

    -- with the unnamed members that the words may be
    words_fit : (ws : SpecWords) → AreSpecWords all ws → (is_alone : Bool) → {k : List Lexeme} →
        FitBoth 0 0 (words_tape is_alone ws) (unnamed_tape ws) (spec_words_text all ws k) k
    words_fit no_words h is_alone = first_only nothing
    words_fit (more_words word ws) h is_alone =
        both_so (side_by_side (word_fits word h.0 is_alone) (words_fit ws h.1 is_alone)) (lit≤ tt)

    -- of the name of a type
    type_words_fit : (ws : SpecWords) → AreTypeWords all ws → {k : List Lexeme} →
        FitBoth 0 0 (words_tape false ws) (unnamed_tape ws) (spec_words_text all ws k) k
    type_words_fit no_words h = first_only nothing
    type_words_fit (more_words word ws) h =
        both_so (side_by_side (word_fits word h.0 false) (type_words_fit ws h.2)) (lit≤ tt)

    -- specifiers have a word at least
    mix_fits : (ws : SpecWords) → IsMix ws → AreSpecWords all ws → (is_alone : Bool) → {k : List Lexeme} →
        FitBoth 0 1 (words_tape is_alone ws) (unnamed_tape ws) (spec_words_text all ws k) k
    mix_fits no_words mix h is_alone = absurd (no_mix_of_none mix)
    mix_fits (more_words word ws) mix h is_alone =
        both_so (side_by_side (word_fits word h.0 is_alone) (words_fit ws h.1 is_alone)) (lit≤ tt)

    word_fits : (word : SpecWord) → IsSpecWord all word → (is_alone : Bool) → {k : List Lexeme} →
        FitBoth 0 1 (word_tape is_alone word) (unnamed_word_tape word) (spec_word_text all word k) k
    word_fits (storage word) h is_alone = both_so (first_only (skip one)) (lit≤ tt)
    word_fits (thread token) h is_alone = both_so (first_only (skip nothing)) (lit≤ tt)
    word_fits (inline_word token) h is_alone = both_so (first_only (skip one)) (lit≤ tt)
    word_fits (noreturn token) h is_alone = both_so (first_only (skip nothing)) (lit≤ tt)
    word_fits (qualifier q) h is_alone = first_only (qual_fits all q h.0)
    word_fits (basic word) h is_alone =
        both_so (first_only (skip (either (is_void word.keyword) one (so nothing (lit≤ tt))))) (lit≤ tt)
    word_fits (struct_type word attrs None no_body) h is_alone = absurd h.2
    word_fits (struct_type word attrs None (some_body opening items closing)) h is_alone =
        both_so (both_skip
        (pair (attrs_skip all attrs (ends (join (join (body_fits (tag_kind word.keyword) word.token None)
        (skip (struct_items_fit items h.3))) one))) one)) (lit≤ tt)
    word_fits (struct_type word attrs (Some tag) body) h is_alone =
        both_so (first_only (skip (attrs_skip all attrs (skip
        (struct_fits body h.3 is_alone (tag_kind word.keyword) word.token (Some tag)))))) (lit≤ tt)
    word_fits (enum_type e) h is_alone = first_only (enum_fits e h)
    word_fits (typedef_name name) h is_alone = both_so (first_only (skip one)) (lit≤ tt)
    word_fits (attribute attr) h is_alone = both_so (first_only (skip (group_skip all attr.group nothing))) (lit≤ tt)
    word_fits (typeof_value keyword opening e closing) h is_alone =
        both_so
        (first_only (skip (skip (ends (join (join (join (join one one) (expr_fits e h false false)) one) one)))))
        (lit≤ tt)
    word_fits (typeof_type word opening ws d closing) h is_alone =
        both_so (first_only (skip (skip (ends (join (join one
        (type_name_fits (first_word ws) (type_words_fit ws h.2) (abstract_fits d h.3))) one))))) (lit≤ tt)
    word_fits (align attr) h is_alone = both_so (first_only (skip (group_skip all attr.group nothing))) (lit≤ tt)
    word_fits (auto_word token) h is_alone = both_so (first_only (skip nothing)) (lit≤ tt)

    struct_fits : (body : SomeBody) → IsBody all body →
        (is_alone : Bool) (kind : TagKind) (keyword : ℕ) (tag : Option Identifier) →
        {k : List Lexeme} → Fits 1 0 (struct_tape is_alone kind keyword tag body) (some_body_text all body k) k
    struct_fits no_body h is_alone kind keyword tag = tag_fits is_alone kind tag
    struct_fits (some_body opening items closing) h is_alone kind keyword tag =
        so (ends (join (join (body_fits kind keyword tag) (skip (struct_items_fit items h))) one)) (lit≤ tt)

    struct_items_fit : (items : StructItems) → AreStructItems all items → {k : List Lexeme} →
        Fits 0 0 (struct_items_tape items) (struct_items_text all items k) k
    struct_items_fit no_struct_items h = nothing
    struct_items_fit (more_struct_items item items) h =
        so (join (struct_item_fits item h.0) (struct_items_fit items h.1)) (lit≤ tt)

    struct_item_fits : (item : StructItem) → IsStructItem all item → {k : List Lexeme} →
        Fits 0 0 (struct_item_tape item) (struct_item_text all item k) k
    struct_item_fits (member extensions ws ds semi) h =
        extensions_skip extensions (so (ends (join (members_fit ds h.4 ws (mix_fits ws h.0 h.1 false)) one)) (lit≤ tt))
    struct_item_fits (member_semi semi) h = so (skip nothing) (lit≤ tt)
    struct_item_fits (member_assert it) h = assert_skip all it nothing

    -- behind their specifiers
    members_fit : (ds : MemDeclrs) → AreMemDeclrs all ds → (ws : SpecWords) → {t k : List Lexeme} →
        FitBoth 0 1 (words_tape false ws) (unnamed_tape ws) t (mem_declrs_text all ds k) →
        Fits 1 0 (specs_with (words_tape false ws) ++ members_tape ws ds) t k
    members_fit no_mem_declrs h ws p = so (join_parted nothing p one) (lit≤ tt)
    members_fit (more_mem_declrs attrs d ds) h ws p =
        so (join (specs_fit p)
        (attrs_skip all attrs (join (mem_declr_fits d h.1) (other_mem_declrs_fit ds h.2)))) (lit≤ tt)

    other_mem_declrs_fit : (ds : MemDeclrs) → AreMemDeclrs all ds → {k : List Lexeme} →
        Fits 0 0 (mem_declrs_tape ds) (other_mem_declrs_text all ds k) k
    other_mem_declrs_fit no_mem_declrs h = nothing
    other_mem_declrs_fit (more_mem_declrs attrs d ds) h =
        so (skip (attrs_skip all attrs (join (mem_declr_fits d h.1) (other_mem_declrs_fit ds h.2)))) (lit≤ tt)

    mem_declr_fits : (d : MemDeclr) → IsMemDeclr all d → {k : List Lexeme} →
        Fits 1 0 (mem_declr_tape d) (mem_declr_text all d k) k
    mem_declr_fits (named d width attrs) h =
        so (past (join (join (one_by_one (declr_fits d h.0 false)) one) (some_value_fits width h.2 Colon))
        (attrs_skip all attrs nothing)) (lit≤ tt)
    mem_declr_fits (unnamed colon e attrs) h =
        so (skip (past (quiet_fits (expr_fits e h.0 false false)) (attrs_skip all attrs nothing))) (lit≤ tt)

    some_value_fits : (value : SomeValue) → IsSomeValue all value → (sign : Punct) → {k : List Lexeme} →
        Fits 0 0 (some_value_tape value) (some_value_text all sign value k) k
    some_value_fits no_value h sign = nothing
    some_value_fits (some_value token e) h sign = so (skip (quiet_fits (expr_fits e h.0 false false))) (lit≤ tt)

    enum_fits : (e : EnumType) → IsEnum all e → {k : List Lexeme} → Fits 0 1 (enum_tape e) (enum_type_text all e k) k
    enum_fits (enum_of keyword attrs None body) h =
        so (skip (attrs_skip all attrs (enum_body_fits body h.2 keyword None))) (lit≤ tt)
    enum_fits (enum_of keyword attrs (Some tag) body) h =
        so (skip (attrs_skip all attrs (skip (enum_body_fits body h.2 keyword (Some tag))))) (lit≤ tt)

    enum_body_fits : (body : SomeEnumBody) → IsEnumBody all body → (keyword : ℕ) (tag : Option Identifier)
        → {k : List Lexeme} →
        Fits 1 0 (enum_body_tape keyword tag body) (some_enum_body_text all body k) k
    enum_body_fits no_enum_body h keyword tag = tag_fits false tags.Enum tag
    enum_body_fits (some_enum_body opening es last closing) h keyword tag =
        so (past (join (join (body_fits tags.Enum keyword tag) (skip (enumerators_fit es h.1)))
        one) (some_sign_skip Comma last (skip nothing))) (lit≤ tt)

    enumerators_fit : (es : Enumerators) → AreEnumerators all es → {k : List Lexeme} →
        Fits 0 0 (enumerators_tape es) (enumerators_text all es k) k
    enumerators_fit no_enumerators h = nothing
    enumerators_fit (more_enumerators name attrs value es) h =
        so (skip (attrs_skip all attrs
        (join (join (some_value_fits value h.1 Equal) one) (other_enumerators_fit es h.2)))) (lit≤ tt)

    other_enumerators_fit : (es : Enumerators) → AreEnumerators all es → {k : List Lexeme} →
        Fits 0 0 (enumerators_tape es) (other_enumerators_text all es k) k
    other_enumerators_fit no_enumerators h = nothing
    other_enumerators_fit (more_enumerators name attrs value es) h =
        so (skip (skip
        (attrs_skip all attrs (join (join (some_value_fits value h.1 Equal) one) (other_enumerators_fit es h.2)))))
        (lit≤ tt)

    -- declarators

    some_declr_fits : (d : SomeDeclr) → IsSomeDeclr all d → {k : List Lexeme} →
        Fits 0 0 (some_declr_tape d) (some_declr_text all d k) k
    some_declr_fits no_declr h = nothing
    some_declr_fits (some_declr d) h = one_by_one (declr_fits d h false)

    abstract_fits : (d : SomeDeclr) → IsSomeAbstract all d → {k : List Lexeme} →
        Fits 0 0 (some_declr_tape d) (some_declr_text all d k) k
    abstract_fits no_declr h = nothing
    abstract_fits (some_declr d) h = one_by_one (declr_fits d h.0 false)

    declr_fits : (d : Declr) → IsDeclr all d → (is_own : Bool) → {k : List Lexeme} →
        FitBoth 0 0 (contents is_own d) (pieces d) (declr_text all d k) k
    declr_fits (pointer star words d) h is_own =
        both_so (before (skip (join (pointer_words_fit all words h.0) one)) (declr_fits d h.1 is_own)) (lit≤ tt)
    declr_fits (declr_name token name) h is_own = both_so (first_only (skip one)) (lit≤ tt)
    declr_fits (declr_paren opening attrs d closing) h is_own =
        both_so
        (both_past (before (skip (attrs_skip all attrs nothing)) (declr_fits d h.1 is_own)) (skip nothing)) (lit≤ tt)
    declr_fits (array d opening words size closing) h is_own =
        both_so (inside_out (declr_fits d h.0 is_own)
        (crossed (skip (join (array_words_fit all words h.3) one)) (ends (some_size_fits size h.4)))) (lit≤ tt)
    declr_fits (params d opening ps dots closing) h is_own =
        both_so (inside_out (declr_fits d h.0 is_own)
        (pair (params_fit _ (says_none ps) (params_fits ps h.3)) (ends (join (dots_fit all ps dots h.4) one))))
        (lit≤ tt)
    declr_fits (abs_pointer star words d) h is_own =
        both_so
        (before (skip (join (pointer_words_fit all words h.0) one)) (parts_fit d (abstract_is all d h.1))) (lit≤ tt)
    declr_fits (abs_paren opening attrs d closing) h is_own =
        both_so
        (both_past (before (skip (attrs_skip all attrs nothing)) (declr_fits d h.1 is_own)) (skip nothing)) (lit≤ tt)
    declr_fits (abs_array d opening words size closing) h is_own =
        both_so (inside_out (parts_fit d (direct_is all d h.0))
        (crossed (skip (join (array_words_fit all words h.1) one)) (ends (some_size_fits size h.2)))) (lit≤ tt)
    declr_fits (abs_params d opening ps dots closing) h is_own =
        both_so (inside_out (parts_fit d (direct_is all d h.0))
        (pair (params_fit false (says_none ps) (params_fits ps h.1)) (ends (join (dots_fit all ps dots h.2) one))))
        (lit≤ tt)
    declr_fits (identifiers d opening names closing) h is_own =
        both_so
        (goes_on (goes_on (before one (declr_fits d h.0 is_own)) one) (skip (names_skip names (skip one)))) (lit≤ tt)
    declr_fits (base_name token) h is_own = both_so (first_only (skip nothing)) (lit≤ tt)

    parts_fit : (d : SomeDeclr) → IsSomeDeclr all d → {k : List Lexeme} →
        FitBoth 0 0 (some_contents d) (some_pieces d) (some_declr_text all d k) k
    parts_fit no_declr h = first_only nothing
    parts_fit (some_declr d) h = declr_fits d h false

    some_size_fits : (size : SomeSize) → IsSize all size → {k : List Lexeme} →
        Fits 1 0 (some_size_tape size) (some_size_text all size k) k
    some_size_fits no_size h = so nothing (lit≤ tt)
    some_size_fits (some_size size) h = size_fits size h

    size_fits : (size : ArraySize) → IsArraySize all size → {k : List Lexeme} →
        Fits 1 0 (size_tape size) (array_size_text all size k) k
    size_fits (size_value e) h = so (quiet_fits (expr_fits e h.0 false false)) (lit≤ tt)
    size_fits (size_star token) h = so (skip nothing) (lit≤ tt)

    -- behind the parenthesis
    params_fits : (ps : Params) → AreParams all ps → {opening : Lexeme} {k : List Lexeme} →
        Fits 0 1 (params_tape ps) (opening ∷ params_text all ps k) k
    params_fits no_params h = so (skip nothing) (lit≤ tt)
    params_fits (more_params ws d attrs ps) h =
        so (skip (join (join (join (specs_fit (mix_fits ws h.0 h.1 false)) (some_declr_fits d h.3)) one)
        (attrs_skip all attrs (other_params_fit ps h.6)))) (lit≤ tt)

    other_params_fit : (ps : Params) → AreParams all ps → {k : List Lexeme} →
        Fits 0 0 (params_tape ps) (other_params_text all ps k) k
    other_params_fit no_params h = nothing
    other_params_fit (more_params ws d attrs ps) h =
        so (skip (join (join (join (specs_fit (mix_fits ws h.0 h.1 false)) (some_declr_fits d h.3)) one)
        (attrs_skip all attrs (other_params_fit ps h.6)))) (lit≤ tt)

    -- initialisers, with the targets of their values

    init_fits : (i : Init) → IsInit all i → {k : List Lexeme} → FitBoth 0 0 (init_tape i) (rule i) (init_text all i k) k
    init_fits (init_value e) h = both_so (pair (expr_fits e h.0 false false) one) (lit≤ tt)
    init_fits (init_braced list) h = both_so (list_fits list h) (lit≤ tt)

    list_fits : (list : InitList) → IsInitList all list → {k : List Lexeme} →
        FitBoth 0 2 (list_tape list) (rule_of_list list) (init_list_text all list k) k
    list_fits (init_list opening items last closing) h =
        both_so (both_skip
        (both_past (listed one (init_items_fit items h.0) one) (some_sign_skip Comma last (skip nothing)))) (lit≤ tt)

    init_items_fit : (items : InitItems) → AreInitItems all items → {k : List Lexeme} →
        FitBoth 0 0 (init_items_tape items) (rule_of_items items) (init_items_text all items k) k
    init_items_fit no_init_items h = first_only nothing
    init_items_fit (more_init_items ds equal i items) h =
        both_so (side_by_side
        (side_by_side (desigs_fit ds h.0) (before (some_sign_skip Equal equal nothing) (init_fits i h.2)))
        (other_init_items_fit items h.3)) (lit≤ tt)

    other_init_items_fit : (items : InitItems) → AreInitItems all items → {k : List Lexeme} →
        FitBoth 0 0 (init_items_tape items) (rule_of_items items) (other_init_items_text all items k) k
    other_init_items_fit no_init_items h = first_only nothing
    other_init_items_fit (more_init_items ds equal i items) h =
        both_so (both_skip (side_by_side (side_by_side (desigs_fit ds h.0)
        (before (some_sign_skip Equal equal nothing) (init_fits i h.2))) (other_init_items_fit items h.3))) (lit≤ tt)

    desigs_fit : (ds : Desigs) → AreDesigs all ds → {k : List Lexeme} →
        FitBoth 0 0 (indices_tape ds) (desigs_tape ds) (desigs_text all ds k) k
    desigs_fit no_desigs h = first_only nothing
    desigs_fit (more_desigs d ds) h = both_so (side_by_side (desig_fits d h.0) (desigs_fit ds h.1)) (lit≤ tt)

    desig_fits : (d : Desig) → IsDesig all d → {k : List Lexeme} →
        FitBoth 0 0 (index_tape d) (desig_tape d) (desig_text all d k) k
    desig_fits (member_desig sign name) h = both_so (second_only (skip (skip one))) (lit≤ tt)
    desig_fits (index_desig opening e closing) h =
        both_so (pair (skip (quiet_fits (expr_fits e h.0 false false))) (skip one)) (lit≤ tt)
    desig_fits (range_desig opening e dots e2 closing) h =
        both_so (pair
        (skip (join (quiet_fits (expr_fits e h.0 false false)) (skip (quiet_fits (expr_fits e2 h.2 false false)))))
        (skip one)) (lit≤ tt)
    desig_fits (old_desig name colon) h = both_so (second_only (skip (skip one))) (lit≤ tt)

    some_init_fits : (i : SomeInit) → IsSomeInit all i → {k : List Lexeme} →
        Fits 0 0 (some_init_tape i) (some_init_text all i k) k
    some_init_fits no_init h = nothing
    some_init_fits (some_init equal (init_value e)) h = so (skip (join (expr_fits e h.0 false false) one)) (lit≤ tt)
    some_init_fits (some_init equal (init_braced list)) h =
        so (skip (join (join_parted one (list_fits list h) one) one)) (lit≤ tt)

    -- declarations

    init_declrs_fit : (ds : InitDeclrs) → AreInitDeclrs all ds → {k : List Lexeme} →
        Fits 1 0 (init_declrs_tape ds) (init_declrs_text all ds k) k
    init_declrs_fit no_init_declrs h = so nothing (lit≤ tt)
    init_declrs_fit (more_init_declrs attrs d asm_label attrs2 i ds) h =
        attrs_skip all attrs (so (join (join (join (one_by_one (declr_fits d h.1 false)) one)
        (label_skip all asm_label (attrs_skip all attrs2 (some_init_fits i h.5))))
        (other_init_declrs_fit ds h.6)) (lit≤ tt))

    other_init_declrs_fit : (ds : InitDeclrs) → AreInitDeclrs all ds → {k : List Lexeme} →
        Fits 0 0 (init_declrs_tape ds) (other_init_declrs_text all ds k) k
    other_init_declrs_fit no_init_declrs h = nothing
    other_init_declrs_fit (more_init_declrs attrs d asm_label attrs2 i ds) h =
        so (skip (attrs_skip all attrs (join (join (join (one_by_one (declr_fits d h.1 false)) one)
        (label_skip all asm_label (attrs_skip all attrs2 (some_init_fits i h.5)))) (other_init_declrs_fit ds h.6))))
        (lit≤ tt)

    declaration_fits : (d : Declaration) → IsDeclaration all d → {k : List Lexeme} →
        Fits 0 0 (declaration_tape d) (declaration_text all d k) k
    declaration_fits (declaration extensions ws ds semi) h =
        extensions_skip extensions (so (ends (join (join (specs_fit (mix_fits ws h.0 h.1 _))
        (either (are_auto ws ds) (auto_declrs_fit ds h.3 semi) (init_declrs_fit ds h.3))) one)) (lit≤ tt))

    -- declarators of names that have the types of their initialisers
    auto_declrs_fit : (ds : InitDeclrs) → AreInitDeclrs all ds → (semi : ℕ) → {k : List Lexeme} →
        Fits 1 0 (auto_declrs_tape semi ds) (init_declrs_text all ds k) k
    auto_declrs_fit no_init_declrs h semi = so nothing (lit≤ tt)
    auto_declrs_fit (more_init_declrs attrs d asm_label attrs2 i ds) h semi =
        attrs_skip all attrs (so (join (join (first_of (declr_fits d h.1 false))
        (label_skip all asm_label (attrs_skip all attrs2 (auto_init_fits i h.5 semi))))
        (other_auto_declrs_fit ds h.6 semi))
        (lit≤ tt))

    other_auto_declrs_fit : (ds : InitDeclrs) → AreInitDeclrs all ds → (semi : ℕ) → {k : List Lexeme} →
        Fits 0 0 (auto_declrs_tape semi ds) (other_init_declrs_text all ds k) k
    other_auto_declrs_fit no_init_declrs h semi = nothing
    other_auto_declrs_fit (more_init_declrs attrs d asm_label attrs2 i ds) h semi =
        so (skip (attrs_skip all attrs (join (join (first_of (declr_fits d h.1 false))
        (label_skip all asm_label (attrs_skip all attrs2 (auto_init_fits i h.5 semi))))
        (other_auto_declrs_fit ds h.6 semi))))
        (lit≤ tt)

    auto_init_fits : (i : SomeInit) → IsSomeInit all i → (semi : ℕ) → {k : List Lexeme} →
        Fits 0 0 (auto_init_tape semi i) (some_init_text all i k) k
    auto_init_fits no_init h semi = nothing
    auto_init_fits (some_init equal (init_value e)) h semi =
        so (skip (join (join (join one (expr_fits e h.0 false false)) one) one)) (lit≤ tt)
    auto_init_fits (some_init equal (init_braced list)) h semi =
        so (skip (text_only (first_of (list_fits list h)))) (lit≤ tt)

    decl_fits : (d : Decl) → IsDecl all d → {k : List Lexeme} → Fits 0 0 (decl_tape d) (decl_text all d k) k
    decl_fits (decl_declaration d) h = declaration_fits d h
    decl_fits (decl_assert it) h = assert_skip all it nothing

    -- statements

    block_items_fit : (items : BlockItems) → AreBlockItems all items → (kept : Bool) → {k : List Lexeme} →
        Fits 0 0 (block_items_tape kept items) (block_items_text all items k) k
    block_items_fit no_block_items h kept = nothing
    block_items_fit (more_block_items item items) h kept =
        so (join (block_item_fits item h.0 _) (block_items_fit items h.1 kept)) (lit≤ tt)

    block_item_fits : (item : BlockItem) → IsBlockItem all item → (kept : Bool) → {k : List Lexeme} →
        Fits 0 0 (block_item_tape kept item) (block_item_text all item k) k
    block_item_fits (block_decl d) h kept = decl_fits d h
    block_item_fits (block_stmt s) h kept = stmt_fits s h kept
    block_item_fits (block_labels keyword names semi) h kept = so (skip (names_skip names (skip nothing))) (lit≤ tt)

    stmt_fits : (s : Stmt) → IsStmt all s → (kept : Bool) → {k : List Lexeme}
        → Fits 0 0 (stmt_tape kept s) (stmt_text all s k) k
    stmt_fits (block opening items closing) h kept =
        so (skip (ends (scope_fits (block_items_fit items h.0 false)))) (lit≤ tt)
    stmt_fits (expr_stmt e semi) h kept = so (ends (either kept (some_expr_fits e h) (dropped_fits e h))) (lit≤ tt)
    stmt_fits (attr_stmt attrs semi) h kept = attrs_skip all attrs (so (skip nothing) (lit≤ tt))
    stmt_fits (label name colon attrs s) h kept =
        so (skip (skip (attrs_skip all attrs (stmt_fits s h.1 false)))) (lit≤ tt)
    stmt_fits (case_stmt keyword e colon s) h kept =
        so (skip (join (quiet_fits (expr_fits e h.0 false false)) (skip (stmt_fits s h.2 false)))) (lit≤ tt)
    stmt_fits (default_stmt keyword colon s) h kept = so (skip (skip (stmt_fits s h false))) (lit≤ tt)
    stmt_fits (if_stmt keyword opening e closing s other) h kept =
        so (skip (skip
        (scope_fits (join (join (join (expr_fits e h.0 false false) one) (skip (scope_fits (stmt_fits s h.1 false))))
        (some_else_fits other s h.2))))) (lit≤ tt)
    stmt_fits (switch_stmt keyword opening e closing s) h kept =
        so (skip
        (skip (scope_fits (join (join (expr_fits e h.0 false false) one) (skip (scope_fits (stmt_fits s h.1 false)))))))
        (lit≤ tt)
    stmt_fits (while_stmt keyword opening e closing s) h kept =
        so (skip
        (skip (scope_fits (join (join (expr_fits e h.0 false false) one) (skip (scope_fits (stmt_fits s h.1 false)))))))
        (lit≤ tt)
    stmt_fits (do_stmt keyword s keyword2 opening e closing semi) h kept =
        so (skip (ends (ends (scope_fits
        (join (join (scope_fits (stmt_fits s h.0 false)) (skip (skip (expr_fits e h.1 false false)))) one))))) (lit≤ tt)
    stmt_fits (for_stmt keyword opening start e semi e2 closing s) h kept =
        so (skip (skip
        (scope_fits (join (join (join (for_start_fits start h.0) (dropped_fits e h.1)) (skip (dropped_fits e2 h.2)))
        (skip (scope_fits (stmt_fits s h.3 false))))))) (lit≤ tt)
    stmt_fits (goto_stmt keyword name semi) h kept = so (skip (skip (skip nothing))) (lit≤ tt)
    stmt_fits (continue_stmt keyword semi) h kept = so (skip (skip nothing)) (lit≤ tt)
    stmt_fits (break_stmt keyword semi) h kept = so (skip (skip nothing)) (lit≤ tt)
    stmt_fits (return_stmt keyword e semi) h kept = so (skip (ends (return_fits e h keyword semi))) (lit≤ tt)
    stmt_fits (asm_stmt keyword words group semi) h kept =
        so (skip (words_skip words (group_skip all group (skip nothing)))) (lit≤ tt)
    stmt_fits (case_range keyword e dots e2 colon s) h kept =
        so (skip
        (join (join (quiet_fits (expr_fits e h.0 false false)) (skip (quiet_fits (expr_fits e2 h.2 false false))))
        (skip (stmt_fits s h.4 false)))) (lit≤ tt)
    stmt_fits (goto_value keyword star e semi) h kept =
        so (skip (skip (ends (join (expr_fits e h false false) one)))) (lit≤ tt)

    some_else_fits : (other : SomeElse) (earlier : Stmt) → IsOther all earlier other → {k : List Lexeme} →
        Fits 0 0 (some_else_tape other) (some_else_text all other k) k
    some_else_fits no_else earlier h = nothing
    some_else_fits (some_else keyword s) earlier h = so (skip (scope_fits (stmt_fits s h.0 false))) (lit≤ tt)

    for_start_fits : (start : ForStart) → IsStart all start → {k : List Lexeme} →
        Fits 0 0 (for_start_tape start) (for_start_text all start k) k
    for_start_fits (start_declaration d) h = declaration_fits d h
    for_start_fits (start_value e semi) h = so (ends (dropped_fits e h)) (lit≤ tt)

    return_fits : (e : SomeExpr) → IsSomeExpr all e → (keyword semi : ℕ) → {k : List Lexeme} →
        Fits 0 0 (return_tape keyword e semi) (some_expr_text all e k) k
    return_fits no_expr h keyword semi = nothing
    return_fits (some_expr e) h keyword semi = so (join (expr_fits e h false false) one) (lit≤ tt)

  -- declarations behind a list of identifiers

  other_old_declrs_fit : (ds : InitDeclrs) → AreInitDeclrs all ds → {k : List Lexeme} →
      Fits 0 0 (old_declrs_tape ds) (other_init_declrs_text all ds k) k
  other_old_declrs_fit no_init_declrs h = nothing
  other_old_declrs_fit (more_init_declrs attrs d asm_label attrs2 i ds) h =
      so (skip (attrs_skip all attrs (join (join (join (one_by_one (declr_fits d h.1 false)) one)
      (label_skip all asm_label (attrs_skip all attrs2 (some_init_fits i h.5)))) (other_old_declrs_fit ds h.6))))
      (lit≤ tt)

  old_declrs_fit : (ds : InitDeclrs) → AreInitDeclrs all ds → {k : List Lexeme} →
      Fits 1 0 (old_declrs_tape ds) (init_declrs_text all ds k) k
  old_declrs_fit no_init_declrs h = so nothing (lit≤ tt)
  old_declrs_fit (more_init_declrs attrs d asm_label attrs2 i ds) h =
      attrs_skip all attrs (so (join (join (join (one_by_one (declr_fits d h.1 false)) one)
      (label_skip all asm_label (attrs_skip all attrs2 (some_init_fits i h.5))))
      (other_old_declrs_fit ds h.6)) (lit≤ tt))

  old_declaration_fits : (d : Declaration) → IsDeclaration all d → {k : List Lexeme} →
      Fits 0 0 (old_declaration_tape d) (declaration_text all d k) k
  old_declaration_fits (declaration extensions ws ds semi) h =
      extensions_skip extensions (so (ends (join (join (specs_fit (mix_fits ws h.0 h.1 _))
      (either (are_auto ws ds) (auto_declrs_fit ds h.3 semi) (old_declrs_fit ds h.3))) one)) (lit≤ tt))

  old_declarations_fit : (ds : List Declaration) → All (IsDeclaration all) ds → {k : List Lexeme} →
      Fits 0 0 (old_declarations_tape ds) (declarations_text all ds k) k
  old_declarations_fit [] h = nothing
  old_declarations_fit (d ∷ ds) h =
      so (join (old_declaration_fits d (All-head (IsDeclaration all) d ds h))
      (old_declarations_fit ds (All-tail (IsDeclaration all) d ds h))) (lit≤ tt)

  -- a declarator with a list of identifiers, with the declarations behind it, whose tokens stand elsewhere
  old_declr_fits : (ds : List Declaration) (d : Declr) → IsDeclr all d → {k : List Lexeme} →
      FitBoth (length (old_declarations_tape ds)) 0 (old_contents ds d) (pieces d) (declr_text all d k) k
  old_declr_fits ds (identifiers d opening names closing) h =
      both_so (goes_on (goes_on (goes_on (goes_on (before one (declr_fits d h.0 false)) one) (skip (names_fit names)))
      (elsewhere (old_declarations_tape ds))) (skip one)) (omega arith)
  old_declr_fits ds (pointer star words d) h =
      both_so (before (skip (join (pointer_words_fit all words h.0) one)) (old_declr_fits ds d h.1)) (omega arith)
  old_declr_fits ds (declr_paren opening attrs d closing) h =
      both_so
      (both_past (before (skip (attrs_skip all attrs nothing)) (old_declr_fits ds d h.1)) (skip nothing)) (omega arith)
  old_declr_fits ds (array d opening words size closing) h =
      both_so (inside_out (old_declr_fits ds d h.0)
      (crossed (skip (join (array_words_fit all words h.3) one)) (ends (some_size_fits size h.4)))) (omega arith)
  old_declr_fits ds (params d opening ps dots closing) h =
      both_so (inside_out (old_declr_fits ds d h.0)
      (pair (params_fit false (says_none ps) (params_fits ps h.3)) (ends (join (dots_fit all ps dots h.4) one))))
      (omega arith)
  old_declr_fits ds (declr_name token name) h = both_so (declr_fits (declr_name token name) h false) (omega arith)
  old_declr_fits ds (base_name token) h = both_so (declr_fits (base_name token) h false) (omega arith)
  old_declr_fits ds (abs_pointer star words d) h = both_so (declr_fits (abs_pointer star words d) h false) (omega arith)
  old_declr_fits ds (abs_paren opening attrs d closing) h =
      both_so (declr_fits (abs_paren opening attrs d closing) h false) (omega arith)
  old_declr_fits ds (abs_array d opening words size closing) h =
      both_so (declr_fits (abs_array d opening words size closing) h false) (omega arith)
  old_declr_fits ds (abs_params d opening ps dots closing) h =
      both_so (declr_fits (abs_params d opening ps dots closing) h false) (omega arith)

  item_fits : (item : Item) → IsItem all item → {k : List Lexeme} → Fits 0 0 (item_tape item) (item_text all item k) k
  item_fits (function_item extensions ws d attrs opening items closing) h =
      extensions_skip extensions
      (so (ends (join (join (join (join (join (join_both (specs_fit (mix_fits ws h.0 h.1 false))
      (declr_fits d h.4 true)) one) one)
      (attrs_skip all attrs (skip (block_items_fit items h.7 false)))) one) one)) (lit≤ tt))
  item_fits (old_function_item extensions ws d attrs ds opening items closing) h =
      extensions_skip extensions
      (so (ends (join (join (join (join (join (join_both (specs_fit (mix_fits ws h.0 h.1 false))
      (old_declr_fits ds d h.4)) one) one)
      (attrs_skip all attrs (makes_room (old_declarations_fit ds h.7) (skip (block_items_fit items h.8 false))))) one)
      one))
      (omega arith))
  item_fits (decl_item d) h = decl_fits d h
  item_fits (asm_item keyword group semi) h = so (skip (group_skip all group (skip nothing))) (lit≤ tt)
  item_fits (semi_item semi) h = so (skip nothing) (lit≤ tt)

  pub items_fit : (items : List Item) → All (IsItem all) items → (k : List Lexeme) →
      Fits 0 0 (tape_of items) (items_text all items k) k
  items_fit [] h k = nothing
  items_fit (item ∷ items) h k =
      so (join (item_fits item (All-head (IsItem all) item items h))
      (items_fit items (All-tail (IsItem all) item items h) k))
      (lit≤ tt)
