-- What obeys all rules is a tree of the grammar: the lines of the grammar ask no more than the rules.
use Rattle.std.specs.Prelude.{All, Option, None, Some, is_some}
use Rattle.std.proofs.Common.{arith, ◌≡◌, ◌≢◌, ◌≤◌, ◌⊎◌, ℕ, suc, true, false, List, [], ◌∷◌, inl, inr, refl, sym, ap, subst}
use Rattle.c_words.specs.declared.kinds.Keyword.{Keyword}
use Rattle.c_words.specs.declared.kinds.Keyword.TheVariants.{Void, Char, Short, Int, Long, Float, Double, Signed, Unsigned, Bool as BoolWord, Complex, AnyComplex, BaseWord, Int128}
use Rattle.c_tree.specs.declared.lexeme.Lexeme.{Lexeme}
use Rattle.c_tree.specs.Tree.{Expr, operation, cast, prefix, sizeof_value, sizeof_type, extension, index, call, dot, arrow, post, compound, name_use, number_use, char_use, text_use, paren, statement_expr, va_arg, va_start, va_copy, offset, Operator, comma, assign, cond, binary, SomeExpr, no_expr, some_expr, Exprs, no_exprs, more_exprs, SpecWords, no_words, more_words, SpecWord, storage, thread, inline_word, noreturn, qualifier, basic, struct_type, enum_type, typedef_name, attribute, SomeBody, no_body, some_body, StructItems, no_struct_items, more_struct_items, StructItem, member, member_semi, member_assert, MemDeclrs, no_mem_declrs, more_mem_declrs, MemDeclr, named, unnamed, SomeValue, no_value, some_value, EnumType, enum_of, SomeEnumBody, no_enum_body, some_enum_body, Enumerators, no_enumerators, more_enumerators, Declr, pointer, declr_name, declr_paren, array, params, abs_pointer, abs_paren, abs_array, abs_params, SomeDeclr, no_declr, some_declr, SomeSize, no_size, some_size, ArraySize, size_value, size_star, Params, no_params, more_params, Init, init_value, init_braced, InitList, init_list, InitItems, no_init_items, more_init_items, Desigs, no_desigs, more_desigs, Desig, member_desig, index_desig, SomeInit, no_init, some_init, InitDeclrs, no_init_declrs, more_init_declrs, Declaration, declaration, Decl, decl_declaration, decl_assert, BlockItems, no_block_items, more_block_items, BlockItem, block_decl, block_stmt, Stmt, block, expr_stmt, attr_stmt, label, case_stmt, default_stmt, if_stmt, switch_stmt, while_stmt, do_stmt, for_stmt, goto_stmt, continue_stmt, break_stmt, return_stmt, asm_stmt, SomeElse, no_else, some_else, ForStart, start_declaration, start_value, complex_part, label_use, compat, choose, generic, Assocs, no_assocs, more_assocs, Assoc, typed_assoc, default_assoc, typeof_value, typeof_type, align, auto_word, identifiers, base_name, range_desig, old_desig, block_labels, case_range, goto_value}
use Rattle.c_tree.specs.Levels.{IsOperator, left_level, right_level}
use Rattle.c_tree.specs.Specifiers.{IsMix}
use Rattle.c_tree.specs.WellFormed.{AreAssocs, IsAssoc, IsExpr, IsMiddle, IsSomeExpr, AreArguments, AreSteps, IsStep, AreDesigs, IsDesig, AreTypeWords, AreSpecWords, IsSpecWord, IsBody, AreStructItems, IsStructItem, AreMemDeclrs, IsMemDeclr, IsSomeValue, IsEnum, IsEnumBody, AreEnumerators, IsDeclr, IsSomeAbstract, IsSomeDirect, IsSize, IsArraySize, AreParams, IsSomeDeclr, IsInit, IsInitList, AreInitItems, IsSomeInit, AreInitDeclrs, IsDeclaration, IsDecl, AreBlockItems, IsBlockItem, is_named, IsStmt, IsOther, IsStart}
use Rattle.c_tree.specs.Unit.{declares_function, Item, function_item, old_function_item, decl_item, asm_item, semi_item, IsItem}
use Rattle.c_tree.proofs.NamedDeclarators.{lister_is_named, round_is_named}
use Rattle.c_specs.specs.declared.basic.Part.{Part}
use Rattle.c_specs.specs.declared.basic.Part.TheVariants as word_parts
use Rattle.c_specs.specs.declared.mix.Mix.{Mix}
use Rattle.c_specs.specs.declared.mix.Types.{Types}
use Rattle.c_specs.specs.declared.mix.Types.TheVariants.{Words, Named}
use Rattle.c_specs.specs.declared.mix.Class.TheVariants as classes
use Rattle.c_specs.specs.Basic.{part_of}
use Rattle.c_specs.specs.Mix.{class_of, goes_on, is_whole_mix, mix_of, with_part, with_types, then_class}
use Rattle.c_specs.specs.Reading.{append_words, pushed}
use Rattle.c_specs.specs.Laws.{WholeAreMixes, MixesGoOn}
use Rattle.refusal_rules.specs.Grammar.{is_basic_word, left_line, right_line, DerivesAssocs, DerivesAssoc, DeriveDeclarations, DerivesExpr, DerivesMiddle, DerivesSomeExpr, DerivesArguments, DerivesSteps, DerivesStep, DerivesDesigs, DerivesDesig, DerivesTypeWords, DerivesSpecWords, DerivesSpecWord, DerivesBody, DerivesStructItems, DerivesStructItem, DerivesMemDeclrs, DerivesMemDeclr, DerivesSomeValue, DerivesEnum, DerivesEnumBody, DerivesEnumerators, DerivesDeclr, DerivesSomeAbstract, DerivesSomeDirect, DerivesSize, DerivesArraySize, DerivesParams, DerivesSomeDeclr, DerivesInit, DerivesInitList, DerivesInitItems, DerivesSomeInit, DerivesInitDeclrs, DerivesDeclaration, DerivesDecl, DerivesBlockItems, DerivesBlockItem, DerivesStmt, DerivesOther, DerivesStart, DerivesItem}

-- of a word that no basic type has, no part of a mix is made
type_or_other : (k : Keyword) → (is_basic_word k ≡ true) ⊎ (part_of k ≡ word_parts.Other)
type_or_other Void = inl refl
type_or_other Char = inl refl
type_or_other Short = inl refl
type_or_other Int = inl refl
type_or_other Long = inl refl
type_or_other Float = inl refl
type_or_other Double = inl refl
type_or_other Signed = inl refl
type_or_other Unsigned = inl refl
type_or_other BoolWord = inl refl
type_or_other Complex = inl refl
type_or_other AnyComplex = inl refl
type_or_other BaseWord = inl refl
type_or_other Int128 = inl refl
type_or_other k = inr refl

other_is_none : (types : Types) → with_part types word_parts.Other ≡ None
other_is_none Named = refl
other_is_none (Words base mark) = refl

-- a keyword with which a mix goes on is a basic type word
spells_type : (before : Option Mix) (k : Keyword) → is_some (then_class before (classes.Spells k)) ≡ true
    → is_basic_word k ≡ true
spells_type None k e = absurd cc
spells_type (Some mix) k e = on (type_or_other k)
  where
    on : (is_basic_word k ≡ true) ⊎ (part_of k ≡ word_parts.Other) → is_basic_word k ≡ true
    on (inl is) = is
    on (inr other) =
        let f : is_some (with_types mix (with_part mix.types word_parts.Other)) ≡ true =
        subst (λ (p : Part). is_some (with_types mix (with_part mix.types p)) ≡ true) other e in
        let g : is_some (with_types mix None) ≡ true =
        subst (λ (o : Option Types). is_some (with_types mix o) ≡ true) (other_is_none mix.types) f in
        absurd cc

append_pushed : (front : SpecWords) (w : SpecWord) (ws : SpecWords)
    → append_words (pushed front w) ws ≡ append_words front (more_words w ws)
append_pushed no_words w ws = refl
append_pushed (more_words x front) w ws = ap (more_words x) (append_pushed front w ws)

-- the grammar asks of the operands of an operator no more than the precedence table
left_asks_less : (op : Operator) (n : ℕ) → IsOperator op → left_level op ≤ n → left_line op ≤ n
left_asks_less comma n is low = low
left_asks_less (assign p) n is low = low
left_asks_less (cond middle colon) n is low = low
left_asks_less (binary p) n is low = omega arith

-- the grammar asks of the right operand of an operator no more than the precedence table does
right_asks_less : (op : Operator) (n : ℕ) → IsOperator op → right_level op ≤ n → right_line op ≤ n
right_asks_less comma n is low = low
right_asks_less (assign p) n is low = low
right_asks_less (cond middle colon) n is low = low
right_asks_less (binary p) n is low = omega arith

pub function_is_named : (d : Declr) → declares_function d ≡ true → is_named d ≡ true
function_is_named d is = round_is_named d false is

module _ (whole_are : WholeAreMixes) (goes : MixesGoOn) (all : List Lexeme) where
  mix_has_words : (ws : SpecWords) → IsMix ws → ws ≢ no_words
  mix_has_words no_words mix is = let e : is_whole_mix no_words ≡ true = (whole_are no_words).1 mix in absurd cc
  mix_has_words (more_words w ws) mix is = absurd cc

  mutual
    expr_derives : (e : Expr) → IsExpr all e → DerivesExpr all e
    expr_derives (operation e op token e2) h = (
      expr_derives e h.0,
      expr_derives e2 h.1,
      h.2,
      middle_derives op h.3,
      left_asks_less op _ h.2 h.4,
      right_asks_less op _ h.2 h.5,
    )
    expr_derives (cast opening ws d closing e) h =
        (mix_has_words ws h.0, type_words_derive no_words ws h.0 h.1, abstract_derives d h.2, expr_derives e h.3, h.4)
    expr_derives (prefix token p e) h = (expr_derives e h.0, h.1)
    expr_derives (sizeof_value word e) h = (expr_derives e h.0, h.1, h.2)
    expr_derives (sizeof_type word opening ws d closing) h =
        (mix_has_words ws h.0, type_words_derive no_words ws h.0 h.1, abstract_derives d h.2, h.3)
    expr_derives (extension keyword e) h = (expr_derives e h.0, h.1)
    expr_derives (index e opening e2 closing) h = (expr_derives e h.0, expr_derives e2 h.1, h.2)
    expr_derives (call e opening es closing) h = (expr_derives e h.0, arguments_derive es h.1, h.2)
    expr_derives (dot e token name) h = (expr_derives e h.0, h.1)
    expr_derives (arrow e token name) h = (expr_derives e h.0, h.1)
    expr_derives (post e token p) h = (expr_derives e h.0, h.1, h.2)
    expr_derives (compound opening ws d closing list) h = (
      mix_has_words ws h.0,
      type_words_derive no_words ws h.0 h.1,
      abstract_derives d h.2,
      init_list_derives list h.3,
    )
    expr_derives (name_use token name) h = tt
    expr_derives (number_use token) h = tt
    expr_derives (char_use token) h = tt
    expr_derives (text_use texts) h = h
    expr_derives (paren opening e closing) h = expr_derives e h
    expr_derives (statement_expr opening opening2 items closing closing2) h = (block_items_derive items h.0, h.1)
    expr_derives (va_arg keyword opening e separator ws d closing) h =
        (expr_derives e h.0, mix_has_words ws h.1, type_words_derive no_words ws h.1 h.2, abstract_derives d h.3, h.4)
    expr_derives (va_start keyword opening e separator e2 closing) h =
        (expr_derives e h.0, expr_derives e2 h.1, h.2, h.3)
    expr_derives (va_copy keyword opening e separator e2 closing) h =
        (expr_derives e h.0, expr_derives e2 h.1, h.2, h.3)
    expr_derives (offset keyword opening ws d separator name steps closing) h =
        (mix_has_words ws h.0, type_words_derive no_words ws h.0 h.1, abstract_derives d h.2, steps_derive steps h.3)
    expr_derives (complex_part keyword e) h = (expr_derives e h.0, h.1)
    expr_derives (label_use token name) h = tt
    expr_derives (compat keyword opening ws d separator ws2 d2 closing) h = (
      mix_has_words ws h.0,
      type_words_derive no_words ws h.0 h.1,
      abstract_derives d h.2,
      mix_has_words ws2 h.3,
      type_words_derive no_words ws2 h.3 h.4,
      abstract_derives d2 h.5,
    )
    expr_derives (choose keyword opening e separator e2 separator2 e3 closing) h =
        (expr_derives e h.0, expr_derives e2 h.1, expr_derives e3 h.2, h.3, h.4, h.5)
    expr_derives (generic keyword opening e xs closing) h = (expr_derives e h.0, h.1, h.2, assocs_derive xs h.3)

    assocs_derive : (xs : Assocs) → AreAssocs all xs → DerivesAssocs all xs
    assocs_derive no_assocs h = tt
    assocs_derive (more_assocs x xs) h = (assoc_derives x h.0, assocs_derive xs h.1)

    assoc_derives : (x : Assoc) → IsAssoc all x → DerivesAssoc all x
    assoc_derives (typed_assoc ws d colon e) h =
        (mix_has_words ws h.0, type_words_derive no_words ws h.0 h.1, abstract_derives d h.2, expr_derives e h.3, h.4)
    assoc_derives (default_assoc keyword colon e) h = (expr_derives e h.0, h.1)

    middle_derives : (op : Operator) → IsMiddle all op → DerivesMiddle all op
    middle_derives comma h = tt
    middle_derives (assign p) h = tt
    middle_derives (cond e colon) h = some_expr_derives e h
    middle_derives (binary p) h = tt

    some_expr_derives : (e : SomeExpr) → IsSomeExpr all e → DerivesSomeExpr all e
    some_expr_derives no_expr h = tt
    some_expr_derives (some_expr e) h = expr_derives e h

    arguments_derive : (es : Exprs) → AreArguments all es → DerivesArguments all es
    arguments_derive no_exprs h = tt
    arguments_derive (more_exprs e es) h = (expr_derives e h.0, h.1, arguments_derive es h.2)

    steps_derive : (ds : Desigs) → AreSteps all ds → DerivesSteps all ds
    steps_derive no_desigs h = tt
    steps_derive (more_desigs d ds) h = (step_derives d h.0, steps_derive ds h.1)

    step_derives : (d : Desig) → IsStep all d → DerivesStep all d
    step_derives (member_desig token name) h = tt
    step_derives (index_desig opening e closing) h = expr_derives e h
    step_derives (range_desig opening e dots e2 closing) h = absurd h
    step_derives (old_desig name colon) h = absurd h

    desigs_derive : (ds : Desigs) → AreDesigs all ds → DerivesDesigs all ds
    desigs_derive no_desigs h = tt
    desigs_derive (more_desigs d ds) h = (desig_derives d h.0, desigs_derive ds h.1)

    desig_derives : (d : Desig) → IsDesig all d → DerivesDesig all d
    desig_derives (member_desig token name) h = tt
    desig_derives (index_desig opening e closing) h = (expr_derives e h.0, h.1)
    desig_derives (range_desig opening e dots e2 closing) h = (expr_derives e h.0, h.1, expr_derives e2 h.2, h.3)
    desig_derives (old_desig name colon) h = tt

    type_words_derive : (front ws : SpecWords) → IsMix (append_words front ws) → AreTypeWords all ws
        → DerivesTypeWords all ws
    type_words_derive front no_words mix h = tt
    type_words_derive front (more_words w ws) mix h = (
      word_derives front w (goes front w ws mix) h.0,
      h.1,
      type_words_derive (pushed front w) ws (subst IsMix (sym (append_pushed front w ws)) mix) h.2,
    )

    words_derive : (front ws : SpecWords) → IsMix (append_words front ws) → AreSpecWords all ws
        → DerivesSpecWords all ws
    words_derive front no_words mix h = tt
    words_derive front (more_words w ws) mix h = (
      word_derives front w (goes front w ws mix) h.0,
      words_derive (pushed front w) ws (subst IsMix (sym (append_pushed front w ws)) mix) h.1,
    )

    word_derives : (front : SpecWords) (w : SpecWord) → goes_on front (class_of w) ≡ true → IsSpecWord all w
        → DerivesSpecWord all w
    word_derives front (storage word) on h = h
    word_derives front (thread keyword) on h = tt
    word_derives front (inline_word keyword) on h = tt
    word_derives front (noreturn keyword) on h = tt
    word_derives front (qualifier qual) on h = h
    word_derives front (basic word) on h = spells_type (mix_of front) word.keyword on
    word_derives front (struct_type word attrs tag body) on h = (h.0, h.1, h.2, body_derives body h.3)
    word_derives front (enum_type enum) on h = enum_derives enum h
    word_derives front (typedef_name name) on h = tt
    word_derives front (attribute attr) on h = h
    word_derives front (typeof_value keyword opening e closing) on h = expr_derives e h
    word_derives front (typeof_type word opening ws d closing) on h =
        (h.0, mix_has_words ws h.1, type_words_derive no_words ws h.1 h.2, abstract_derives d h.3)
    word_derives front (align attr) on h = h
    word_derives front (auto_word token) on h = tt

    body_derives : (body : SomeBody) → IsBody all body → DerivesBody all body
    body_derives no_body h = tt
    body_derives (some_body opening items closing) h = struct_items_derive items h

    struct_items_derive : (items : StructItems) → AreStructItems all items → DerivesStructItems all items
    struct_items_derive no_struct_items h = tt
    struct_items_derive (more_struct_items item items) h = (struct_item_derives item h.0, struct_items_derive items h.1)

    struct_item_derives : (item : StructItem) → IsStructItem all item → DerivesStructItem all item
    struct_item_derives (member exts ws ds semi) h =
        (mix_has_words ws h.0, words_derive no_words ws h.0 h.1, h.2, h.3, mem_declrs_derive ds h.4)
    struct_item_derives (member_semi semi) h = tt
    struct_item_derives (member_assert it) h = h

    mem_declrs_derive : (ds : MemDeclrs) → AreMemDeclrs all ds → DerivesMemDeclrs all ds
    mem_declrs_derive no_mem_declrs h = tt
    mem_declrs_derive (more_mem_declrs attrs d ds) h = (h.0, mem_declr_derives d h.1, mem_declrs_derive ds h.2)

    mem_declr_derives : (d : MemDeclr) → IsMemDeclr all d → DerivesMemDeclr all d
    mem_declr_derives (named d width attrs) h = (declr_derives d h.0, h.1, some_value_derives width h.2, h.3)
    mem_declr_derives (unnamed colon e attrs) h = (expr_derives e h.0, h.1, h.2)

    some_value_derives : (value : SomeValue) → IsSomeValue all value → DerivesSomeValue all value
    some_value_derives no_value h = tt
    some_value_derives (some_value token e) h = (expr_derives e h.0, h.1)

    enum_derives : (enum : EnumType) → IsEnum all enum → DerivesEnum all enum
    enum_derives (enum_of keyword attrs tag body) h = (h.0, h.1, enum_body_derives body h.2)

    enum_body_derives : (body : SomeEnumBody) → IsEnumBody all body → DerivesEnumBody all body
    enum_body_derives no_enum_body h = tt
    enum_body_derives (some_enum_body opening es last closing) h = (h.0, enumerators_derive es h.1)

    enumerators_derive : (es : Enumerators) → AreEnumerators all es → DerivesEnumerators all es
    enumerators_derive no_enumerators h = tt
    enumerators_derive (more_enumerators name attrs value es) h =
        (h.0, some_value_derives value h.1, enumerators_derive es h.2)

    declr_derives : (d : Declr) → IsDeclr all d → DerivesDeclr all d
    declr_derives (pointer star words d) h = (h.0, declr_derives d h.1, h.2)
    declr_derives (declr_name token name) h = tt
    declr_derives (declr_paren opening attrs d closing) h = (h.0, declr_derives d h.1, h.2)
    declr_derives (array d opening words size closing) h = (declr_derives d h.0, h.1, h.2, h.3, size_derives size h.4)
    declr_derives (params d opening ps dots closing) h = (declr_derives d h.0, h.1, h.2, params_derive ps h.3, h.4)
    declr_derives (identifiers d opening names closing) h = (declr_derives d h.0, h.1, h.2)
    declr_derives (base_name token) h = tt
    declr_derives (abs_pointer star words d) h = (h.0, abstract_derives d h.1)
    declr_derives (abs_paren opening attrs d closing) h = (h.0, declr_derives d h.1, h.2)
    declr_derives (abs_array d opening words size closing) h = (direct_derives d h.0, h.1, size_derives size h.2)
    declr_derives (abs_params d opening ps dots closing) h = (direct_derives d h.0, params_derive ps h.1, h.2)

    abstract_derives : (d : SomeDeclr) → IsSomeAbstract all d → DerivesSomeAbstract all d
    abstract_derives no_declr h = tt
    abstract_derives (some_declr d) h = (declr_derives d h.0, h.1)

    direct_derives : (d : SomeDeclr) → IsSomeDirect all d → DerivesSomeDirect all d
    direct_derives no_declr h = tt
    direct_derives (some_declr d) h = (declr_derives d h.0, h.1, h.2)

    size_derives : (size : SomeSize) → IsSize all size → DerivesSize all size
    size_derives no_size h = tt
    size_derives (some_size size) h = array_size_derives size h

    array_size_derives : (size : ArraySize) → IsArraySize all size → DerivesArraySize all size
    array_size_derives (size_value e) h = (expr_derives e h.0, h.1)
    array_size_derives (size_star star) h = tt

    params_derive : (ps : Params) → AreParams all ps → DerivesParams all ps
    params_derive no_params h = tt
    params_derive (more_params ws d attrs ps) h = (
      mix_has_words ws h.0,
      words_derive no_words ws h.0 h.1,
      h.2,
      some_declr_derives d h.3,
      h.4,
      params_derive ps h.6,
    )

    some_declr_derives : (d : SomeDeclr) → IsSomeDeclr all d → DerivesSomeDeclr all d
    some_declr_derives no_declr h = tt
    some_declr_derives (some_declr d) h = declr_derives d h

    init_derives : (init : Init) → IsInit all init → DerivesInit all init
    init_derives (init_value e) h = (expr_derives e h.0, h.1)
    init_derives (init_braced list) h = init_list_derives list h

    init_list_derives : (list : InitList) → IsInitList all list → DerivesInitList all list
    init_list_derives (init_list opening items last closing) h = (init_items_derive items h.0, h.1)

    init_items_derive : (items : InitItems) → AreInitItems all items → DerivesInitItems all items
    init_items_derive no_init_items h = tt
    init_items_derive (more_init_items ds equal init items) h =
        (desigs_derive ds h.0, h.1, init_derives init h.2, init_items_derive items h.3)

    some_init_derives : (init : SomeInit) → IsSomeInit all init → DerivesSomeInit all init
    some_init_derives no_init h = tt
    some_init_derives (some_init equal init) h = init_derives init h

    init_declrs_derive : (ds : InitDeclrs) → AreInitDeclrs all ds → DerivesInitDeclrs all ds
    init_declrs_derive no_init_declrs h = tt
    init_declrs_derive (more_init_declrs attrs d asm_label attrs2 init ds) h =
        (h.0, declr_derives d h.1, h.2, h.3, h.4, some_init_derives init h.5, init_declrs_derive ds h.6)

    declaration_derives : (d : Declaration) → IsDeclaration all d → DerivesDeclaration all d
    declaration_derives (declaration exts ws ds semi) h =
        (mix_has_words ws h.0, words_derive no_words ws h.0 h.1, h.2, init_declrs_derive ds h.3, h.4)

    decl_derives : (d : Decl) → IsDecl all d → DerivesDecl all d
    decl_derives (decl_declaration d) h = declaration_derives d h
    decl_derives (decl_assert it) h = h

    block_items_derive : (items : BlockItems) → AreBlockItems all items → DerivesBlockItems all items
    block_items_derive no_block_items h = tt
    block_items_derive (more_block_items item items) h = (block_item_derives item h.0, block_items_derive items h.1)

    block_item_derives : (item : BlockItem) → IsBlockItem all item → DerivesBlockItem all item
    block_item_derives (block_decl d) h = decl_derives d h
    block_item_derives (block_stmt s) h = stmt_derives s h
    block_item_derives (block_labels keyword names semi) h = h

    stmt_derives : (s : Stmt) → IsStmt all s → DerivesStmt all s
    stmt_derives (block opening items closing) h = (block_items_derive items h.0, h.1)
    stmt_derives (expr_stmt e semi) h = some_expr_derives e h
    stmt_derives (attr_stmt attrs semi) h = h
    stmt_derives (label name colon attrs s) h = (h.0, stmt_derives s h.1)
    stmt_derives (case_stmt keyword e colon s) h = (expr_derives e h.0, h.1, stmt_derives s h.2)
    stmt_derives (default_stmt keyword colon s) h = stmt_derives s h
    stmt_derives (if_stmt keyword opening e closing s other) h =
        (expr_derives e h.0, stmt_derives s h.1, other_derives s other h.2)
    stmt_derives (switch_stmt keyword opening e closing s) h = (expr_derives e h.0, stmt_derives s h.1)
    stmt_derives (while_stmt keyword opening e closing s) h = (expr_derives e h.0, stmt_derives s h.1)
    stmt_derives (do_stmt keyword s keyword2 opening e closing semi) h = (stmt_derives s h.0, expr_derives e h.1)
    stmt_derives (for_stmt keyword opening start e semi e2 closing s) h =
        (start_derives start h.0, some_expr_derives e h.1, some_expr_derives e2 h.2, stmt_derives s h.3)
    stmt_derives (goto_stmt keyword name semi) h = tt
    stmt_derives (continue_stmt keyword semi) h = tt
    stmt_derives (break_stmt keyword semi) h = tt
    stmt_derives (return_stmt keyword e semi) h = some_expr_derives e h
    stmt_derives (asm_stmt keyword words group semi) h = h
    stmt_derives (case_range keyword e dots e2 colon s) h =
        (expr_derives e h.0, h.1, expr_derives e2 h.2, h.3, stmt_derives s h.4)
    stmt_derives (goto_value keyword star e semi) h = expr_derives e h

    other_derives : (before : Stmt) (other : SomeElse) → IsOther all before other → DerivesOther all other
    other_derives before no_else h = tt
    other_derives before (some_else keyword s) h = stmt_derives s h.0

    start_derives : (start : ForStart) → IsStart all start → DerivesStart all start
    start_derives (start_declaration d) h = declaration_derives d h
    start_derives (start_value e semi) h = some_expr_derives e h

  declarations_derive : (ds : List Declaration) → All (IsDeclaration all) ds → DeriveDeclarations all ds
  declarations_derive [] h = tt
  declarations_derive (d ∷ ds) h = (
    declaration_derives d (h 0 d (omega arith)),
    declarations_derive ds (λ k e below. h (suc k) e (omega (arith, below))),
  )

  pub item_derives : (item : Item) → IsItem all item → DerivesItem all item
  item_derives (function_item exts ws d attrs opening items closing) h = (
    mix_has_words ws h.0,
    words_derive no_words ws h.0 h.1,
    h.2,
    declr_derives d h.4,
    function_is_named d h.5,
    h.6,
    block_items_derive items h.7,
    h.8,
  )
  item_derives (old_function_item exts ws d attrs ds opening items closing) h = (
    mix_has_words ws h.0,
    words_derive no_words ws h.0 h.1,
    h.2,
    declr_derives d h.4,
    lister_is_named d h.5,
    h.6,
    declarations_derive ds h.7,
    block_items_derive items h.8,
    h.9,
  )
  item_derives (decl_item d) h = decl_derives d h
  item_derives (asm_item keyword group semi) h = h
  item_derives (semi_item semi) h = tt
