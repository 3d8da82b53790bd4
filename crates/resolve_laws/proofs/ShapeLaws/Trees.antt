-- What the tape of each part of a tree does: by cases on the tree.
use Rattle.std.proofs.Common.{◌≡◌, ℕ, Bool, true, false, List, [], ◌∷◌, ◌++◌, Option, None, refl, sym, ap, append_assoc}
use Rattle.std.specs.Prelude.{◌&&◌, not}
use Rattle.qual_base.proofs.Tests.{and_second, and_first}
use Rattle.c_syntax.specs.declared.parts.Identifier.{Identifier}
use Rattle.tape_ops.specs.declared.op.Op.{Op}
use Rattle.tape_ops.specs.declared.specifier.TagKind.{TagKind}
use Rattle.tape_ops.specs.declared.specifier.TagKind.TheVariants as tags
use Rattle.tape_ops.specs.declared.statement.StmtOp.TheVariants as stmts
use Rattle.c_tree.specs.Tree.{Expr, operation, cast, prefix, sizeof_value, sizeof_type, extension, index, call, dot, arrow, post, compound, name_use, number_use, char_use, text_use, paren, statement_expr, va_arg, va_start, va_copy, offset, Operator, comma, assign, cond, binary, SomeExpr, no_expr, some_expr, Exprs, no_exprs, more_exprs, SpecWords, no_words, more_words, SpecWord, storage, thread, inline_word, noreturn, qualifier, basic, struct_type, enum_type, typedef_name, attribute, SomeBody, no_body, some_body, StructItems, no_struct_items, more_struct_items, StructItem, member, member_semi, member_assert, MemDeclrs, no_mem_declrs, more_mem_declrs, MemDeclr, named, unnamed, SomeValue, no_value, some_value, EnumType, enum_of, no_enum_body, some_enum_body, Enumerators, no_enumerators, more_enumerators, Declr, pointer, declr_name, declr_paren, array, params, abs_pointer, abs_paren, abs_array, abs_params, SomeDeclr, no_declr, some_declr, SomeSize, no_size, some_size, ArraySize, size_value, size_star, Params, no_params, more_params, Init, init_value, init_braced, InitList, init_list, InitItems, no_init_items, more_init_items, Desigs, no_desigs, more_desigs, Desig, member_desig, index_desig, SomeInit, no_init, some_init, InitDeclrs, no_init_declrs, more_init_declrs, Declaration, declaration, Decl, decl_declaration, decl_assert, BlockItems, no_block_items, more_block_items, BlockItem, block_decl, block_stmt, Stmt, block, expr_stmt, attr_stmt, label, case_stmt, default_stmt, if_stmt, switch_stmt, while_stmt, do_stmt, for_stmt, goto_stmt, continue_stmt, break_stmt, return_stmt, asm_stmt, SomeElse, no_else, some_else, ForStart, start_declaration, start_value, complex_part, label_use, compat, choose, generic, Assocs, no_assocs, more_assocs, Assoc, typed_assoc, default_assoc, typeof_value, typeof_type, align, auto_word, identifiers, base_name, range_desig, old_desig, block_labels, case_range, goto_value}
use Rattle.c_tree.specs.WellFormed.{has_auto}
use Rattle.c_tape.specs.Tests.{is_void, tag_kind, declares_tag, has_value, have_values, are_auto, is_name, is_end}
use Rattle.c_tape.specs.Tape.{stmt, in_scope, tape_in, assocs_tape, assoc_tape, auto_declrs_tape, auto_init_tape, old_contents, old_declrs_tape, old_declaration_tape, old_declarations_tape, middle_tape, some_expr_tape, exprs_tape, dropped_tape, steps_tape, step_tape, words_tape, word_tape, struct_tape, struct_items_tape, struct_item_tape, members_tape, mem_declrs_tape, mem_declr_tape, some_value_tape, enum_tape, enumerators_tape, some_declr_tape, contents, some_contents, some_size_tape, size_tape, params_tape, init_tape, list_tape, init_items_tape, indices_tape, index_tape, some_init_tape, init_declrs_tape, declaration_tape, decl_tape, block_items_tape, block_item_tape, stmt_tape, some_else_tape, for_start_tape}
use Rattle.type_table.specs.Types.{CType}
use Rattle.name_rules.specs.Spellings.{place}
use Rattle.name_rules.specs.Faults.{Fault, not_pointer, not_place, fault_where}
use Rattle.name_rules.specs.Values.{value, some_target, member_type, is_no_pointer, no_target}
use Rattle.name_rules.specs.Checks.{member_faults, index_faults_at}
use Rattle.type_rules.specs.Shapes.{shape_of}
use Rattle.type_rules.specs.Judging.{assocs_faults, assoc_faults, declarations_faults, old_declr_faults, desig_type, desigs_type, declared_type, operator_faults, list_faults, expr_faults, middle_faults, some_expr_faults, exprs_faults, desigs_faults, desig_faults, indices_faults, index_faults, init_faults, untargeted_faults, untargeted_items_faults, words_faults, word_faults, some_body_faults, struct_items_faults, struct_item_faults, mem_declrs_faults, mem_declr_faults, some_value_faults, enum_faults, enumerators_faults, declr_faults, some_declr_faults, some_size_faults, array_size_faults, params_faults, init_declrs_faults, some_init_faults, declaration_faults, decl_faults, block_items_faults, block_item_faults, stmt_faults, some_else_faults, for_start_faults}
use Rattle.type_rules.specs.Tokens.{declared_name}
use Rattle.name_rules.specs.ShapeSteps.State.{Operand}
use Rattle.name_rules.specs.ShapeSteps.Steps.{type_of_name}
use Rattle.resolve_laws.proofs.ShapeLaws.Goes.{Over, total, total_group, total_last_first, total_group_three, total_operation, Goes, as_is, nowhere, one, join, from, next, same, reaching, without, swapped}
use Rattle.resolve_laws.proofs.ShapeLaws.Stacks.{with_expr, with_some_expr, with_middle, with_arguments, with_assoc, with_assocs, with_value, type_at_words, leaves, leaves_in, leaves_of, with_leaves, with_stmt, with_block_item, with_items, no_stmt_kept, none_kept, value_kept, declaring, token_in, token_in_some, declared_in, target_named}
use Rattle.resolve_laws.proofs.ShapeLaws.Idle.{identifiers_idle, either, pieces_idle, unnamed_idle, tag_idle, body_idle, arguments_idle}
use Rattle.resolve_laws.proofs.ShapeLaws.Parts.{prefix_goes, generic_goes, operator_goes, call_goes, arrow_goes, arrow_member_goes, offset_goes, type_name_goes, literal_goes, braced_goes, params_with_go, quietly_goes}

module _ (k : Over) where
  -- statements

  scoped : {tape : List Op} {fs : List Fault} → Goes k tape as_is as_is fs → Goes k (in_scope tape) as_is as_is fs
  scoped p = without (join (one [] (λ st. refl)) p) (one [] (λ st. refl))

  unkept : (s : Stmt) → Goes k (stmt_tape false s) as_is (with_stmt k false s) (stmt_faults k.spelling k.names s) →
      Goes k (stmt_tape false s) as_is as_is (stmt_faults k.spelling k.names s)
  unkept s p = reaching as_is p (no_stmt_kept k s)

  condition : {tape : List Op} {fs : List Fault} (e : Expr) → Goes k tape as_is (with_expr k e) fs →
      Goes k (tape ++ stmt stmts.Pop) as_is as_is fs
  condition e p = without p (one [] (λ st. refl))

  mutual
    pub expr_goes : (e : Expr) → (called aims : Bool) →
        Goes k (tape_in called aims e) as_is (with_expr k e) (expr_faults k.spelling k.names e)
    expr_goes (operation e op token e2) called aims =
        same (join (next (next (expr_goes e false false) (middle_goes op)) (expr_goes e2 false false))
        (operator_goes k e op token e2 _ _))
        (total_operation k.weight (expr_faults k.spelling k.names e) (middle_faults k.spelling k.names op)
        (expr_faults k.spelling k.names e2)
        (operator_faults k.spelling k.names op token (shape_of k.spelling k.names e)))
    expr_goes (cast opening ws d closing e) called aims =
        same (without (next (type_name_goes k ws (token_in_some d) (words_go ws false) (some_declr_goes d None))
        (expr_goes e false false)) (one [] (λ st. refl)))
        (total_group k.weight (words_faults k.spelling k.names ws) (some_declr_faults k.spelling k.names d)
        (expr_faults k.spelling k.names e))
    expr_goes (prefix token p e) called aims =
        prefix_goes k token p e aims (expr_goes e false true) (expr_goes e false false)
    expr_goes (sizeof_value word e) called aims =
        without (join (one [] (λ st. refl)) (expr_goes e false false)) (one [] (λ st. refl))
    expr_goes (sizeof_type word opening ws d closing) called aims =
        without (join (one [] (λ st. refl))
        (type_name_goes k ws (token_in_some d) (words_go ws false) (some_declr_goes d None))) (one [] (λ st. refl))
    expr_goes (extension keyword e) called aims = without (expr_goes e false aims) (one [] (λ st. refl))
    expr_goes (index e opening e2 closing) called aims =
        swapped (next (expr_goes e false false) (expr_goes e2 false false))
        (one (index_faults_at k.spelling.wide (place k.spelling opening) (shape_of k.spelling k.names e)
        (shape_of k.spelling k.names e2)) (λ st. refl))
    expr_goes (call e opening es closing) called aims =
        swapped (without (next (expr_goes e true false) (exprs_go es)) (from _ (arguments_idle k es)))
        (call_goes k e opening es closing)
    expr_goes (dot e token name) called aims =
        swapped (expr_goes e false aims)
        (one (member_faults k.spelling k.names (value (shape_of k.spelling k.names e)) name.token name.name)
        (λ st. refl))
    expr_goes (arrow e token name) called aims =
        same
        (join (join (expr_goes e false false) (arrow_goes k e token _ _ aims name)) (arrow_member_goes k e token name))
        (total_last_first k.weight (expr_faults k.spelling k.names e)
        (fault_where (is_no_pointer (value (shape_of k.spelling k.names e))) (place k.spelling token) not_pointer)
        (member_faults k.spelling k.names (some_target (value (shape_of k.spelling k.names e))) name.token name.name))
    expr_goes (post e token p) called aims =
        swapped (expr_goes e false false)
        (one (fault_where (not (shape_of k.spelling k.names e).is_place) (place k.spelling token) not_place)
        (λ st. refl))
    expr_goes (compound opening ws d closing list) called aims =
        same (literal_goes k (type_at_words k ws) opening list
        (type_name_goes k ws (token_in_some d) (words_go ws false) (some_declr_goes d None)) (list_goes list))
        (total_group k.weight (words_faults k.spelling k.names ws) (some_declr_faults k.spelling k.names d)
        (list_faults k.spelling k.names (type_at_words k ws) list))
    expr_goes (name_use token name) called aims = one [] (λ st. refl)
    expr_goes (number_use token) called aims = one [] (λ st. refl)
    expr_goes (char_use token) called aims = one [] (λ st. refl)
    expr_goes (text_use texts) called aims = one [] (λ st. refl)
    expr_goes (paren opening e closing) called aims = without (expr_goes e false aims) (one [] (λ st. refl))
    expr_goes (statement_expr opening opening2 items closing closing2) called aims =
        reaching _ (without (without (join (one [] (λ st. refl)) (block_items_go items true)) (one [] (λ st. refl)))
        (one [] (λ st. refl))) (value_kept k items)
    expr_goes (va_arg keyword opening e separator ws d closing) called aims =
        without (next (expr_goes e false false)
        (type_name_goes k ws (token_in_some d) (words_go ws false) (some_declr_goes d None))) (one [] (λ st. refl))
    expr_goes (va_start keyword opening e separator e2 closing) called aims =
        without (next (expr_goes e false false) (expr_goes e2 false false)) (one [] (λ st. refl))
    expr_goes (va_copy keyword opening e separator e2 closing) called aims =
        without (next (expr_goes e false false) (expr_goes e2 false false)) (one [] (λ st. refl))
    expr_goes (offset keyword opening ws d separator name steps closing) called aims =
        same (offset_goes k (type_at_words k ws) name
        (desigs_type k.spelling k.names (member_type k.names.aggregates (type_at_words k ws) (k.spelling.key name.name))
        steps) keyword (type_name_goes k ws (token_in_some d) (words_go ws false) (some_declr_goes d None))
        (steps_go steps (member_type k.names.aggregates (type_at_words k ws) (k.spelling.key name.name))))
        (total_group k.weight (words_faults k.spelling k.names ws) (some_declr_faults k.spelling k.names d)
        (member_faults k.spelling k.names (type_at_words k ws) name.token name.name ++ desigs_faults k.spelling k.names
        (member_type k.names.aggregates (type_at_words k ws) (k.spelling.key name.name)) steps))
    expr_goes (complex_part keyword e) called aims = without (expr_goes e false aims) (one [] (λ st. refl))
    expr_goes (label_use token name) called aims = one [] (λ st. refl)
    expr_goes (compat keyword opening ws d separator ws2 d2 closing) called aims =
        same (without (next (join (one [] (λ st. refl))
        (type_name_goes k ws (token_in_some d) (words_go ws false) (some_declr_goes d None)))
        (type_name_goes k ws2 (token_in_some d2) (words_go ws2 false) (some_declr_goes d2 None))) (one [] (λ st. refl)))
        (total_group k.weight (words_faults k.spelling k.names ws) (some_declr_faults k.spelling k.names d)
        (words_faults k.spelling k.names ws2 ++ some_declr_faults k.spelling k.names d2))
    expr_goes (choose keyword opening e separator e2 separator2 e3 closing) called aims =
        same (without (next (next (quietly_goes k e (expr_goes e false false)) (expr_goes e2 false false))
        (expr_goes e3 false false)) (one [] (λ st. refl)))
        (total_group k.weight (expr_faults k.spelling k.names e) (expr_faults k.spelling k.names e2)
        (expr_faults k.spelling k.names e3))
    expr_goes (generic keyword opening e xs closing) called aims =
        without
        (next (without (join (one [] (λ st. refl)) (expr_goes e false false)) (one [] (λ st. refl))) (assocs_go xs))
        (generic_goes k keyword opening e xs closing)

    assocs_go : (xs : Assocs) → Goes k (assocs_tape xs) as_is (with_assocs k xs) (assocs_faults k.spelling k.names xs)
    assocs_go no_assocs = nowhere
    assocs_go (more_assocs x xs) = next (assoc_goes x) (assocs_go xs)

    assoc_goes : (x : Assoc) → Goes k (assoc_tape x) as_is (with_assoc k x) (assoc_faults k.spelling k.names x)
    assoc_goes (typed_assoc ws d colon e) =
        same (next (type_name_goes k ws (token_in_some d) (words_go ws false) (some_declr_goes d None))
        (expr_goes e false false))
        (total_group k.weight (words_faults k.spelling k.names ws) (some_declr_faults k.spelling k.names d)
        (expr_faults k.spelling k.names e))
    assoc_goes (default_assoc keyword colon e) = next (one [] (λ st. refl)) (expr_goes e false false)

    middle_goes : (op : Operator) →
        Goes k (middle_tape op) as_is (with_middle k op) (middle_faults k.spelling k.names op)
    middle_goes comma = nowhere
    middle_goes (assign p) = nowhere
    middle_goes (cond middle colon) = some_expr_goes middle
    middle_goes (binary p) = nowhere

    some_expr_goes : (e : SomeExpr) →
        Goes k (some_expr_tape e) as_is (with_some_expr k e) (some_expr_faults k.spelling k.names e)
    some_expr_goes no_expr = nowhere
    some_expr_goes (some_expr e) = expr_goes e false false

    exprs_go : (es : Exprs) → Goes k (exprs_tape es) as_is (with_arguments k es) (exprs_faults k.spelling k.names es)
    exprs_go no_exprs = nowhere
    exprs_go (more_exprs e es) = next (expr_goes e false false) (exprs_go es)

    dropped_goes : (e : SomeExpr) → Goes k (dropped_tape e) as_is as_is (some_expr_faults k.spelling k.names e)
    dropped_goes no_expr = nowhere
    dropped_goes (some_expr e) = condition e (expr_goes e false false)

    steps_go : (ds : Desigs) → (t : Option CType) →
        Goes k (steps_tape ds) (with_value t) (with_value (desigs_type k.spelling k.names t ds))
        (desigs_faults k.spelling k.names t ds)
    steps_go no_desigs t = nowhere
    steps_go (more_desigs d ds) t = join (step_goes d t) (steps_go ds (desig_type k.spelling k.names t d))

    step_goes : (d : Desig) → (t : Option CType) →
        Goes k (step_tape d) (with_value t) (with_value (desig_type k.spelling k.names t d))
        (desig_faults k.spelling k.names t d)
    step_goes (member_desig before name) t = one _ (λ st. refl)
    step_goes (index_desig opening e closing) t =
        swapped (from (with_value t) (expr_goes e false false))
        (one (fault_where (is_no_pointer t) (place k.spelling opening) not_pointer) (λ st. refl))
    step_goes (range_desig opening e dots e2 closing) t =
        swapped (from (with_value t) (next (expr_goes e false false) (quietly_goes k e2 (expr_goes e2 false false))))
        (one (fault_where (is_no_pointer t) (place k.spelling opening) not_pointer) (λ st. refl))
    step_goes (old_desig name colon) t = one _ (λ st. refl)

    -- specifiers

    pub words_go : (ws : SpecWords) → (alone : Bool) →
        Goes k (words_tape alone ws) as_is as_is (words_faults k.spelling k.names ws)
    words_go no_words alone = nowhere
    words_go (more_words word ws) alone = next (word_goes word alone) (words_go ws alone)

    word_goes : (word : SpecWord) → (alone : Bool) →
        Goes k (word_tape alone word) as_is as_is (word_faults k.spelling k.names word)
    word_goes (storage word) alone = one [] (λ st. refl)
    word_goes (thread token) alone = nowhere
    word_goes (inline_word token) alone = one [] (λ st. refl)
    word_goes (noreturn token) alone = nowhere
    word_goes (qualifier q) alone = one [] (λ st. refl)
    word_goes (basic word) alone = either k (is_void word.keyword) (λ e. one [] (λ st. refl)) (λ e. nowhere)
    word_goes (struct_type word attrs tag body) alone = struct_goes body alone (tag_kind word.keyword) word.token tag
    word_goes (enum_type e) alone = enum_goes e
    word_goes (typedef_name name) alone = one [] (λ st. refl)
    word_goes (attribute attr) alone = nowhere
    word_goes (typeof_value keyword opening e closing) alone =
        without (without (join (join (one [] (λ st. refl)) (one [] (λ st. refl))) (expr_goes e false false))
        (one [] (λ st. refl))) (one [] (λ st. refl))
    word_goes (typeof_type word opening ws d closing) alone =
        without (join (one [] (λ st. refl))
        (type_name_goes k ws (token_in_some d) (words_go ws false) (some_declr_goes d None))) (one [] (λ st. refl))
    word_goes (align attr) alone = nowhere
    word_goes (auto_word token) alone = nowhere

    struct_goes : (body : SomeBody) → (alone : Bool) (kind : TagKind) (keyword : ℕ) (tag : Option Identifier) →
        Goes k (struct_tape alone kind keyword tag body) as_is as_is (some_body_faults k.spelling k.names body)
    struct_goes no_body alone kind keyword tag = tag_idle k alone kind tag
    struct_goes (some_body opening items closing) alone kind keyword tag =
        without (join (body_idle k kind keyword tag) (struct_items_go items)) (one [] (λ st. refl))

    struct_items_go : (items : StructItems) →
        Goes k (struct_items_tape items) as_is as_is (struct_items_faults k.spelling k.names items)
    struct_items_go no_struct_items = nowhere
    struct_items_go (more_struct_items item items) = next (struct_item_goes item) (struct_items_go items)

    struct_item_goes : (item : StructItem) →
        Goes k (struct_item_tape item) as_is as_is (struct_item_faults k.spelling k.names item)
    struct_item_goes (member exts ws ds semi) =
        without (join (without (words_go ws false) (one [] (λ st. refl))) (members_go ds ws)) (one [] (λ st. refl))
    struct_item_goes (member_semi semi) = nowhere
    struct_item_goes (member_assert it) = nowhere

    members_go : (ds : MemDeclrs) → (ws : SpecWords) →
        Goes k (members_tape ws ds) (declaring None None) (declaring None None)
        (mem_declrs_faults k.spelling k.names ds)
    members_go no_mem_declrs ws = from (declaring None None) (unnamed_idle k ws)
    members_go (more_mem_declrs attrs d ds) ws = join (mem_declr_goes d) (mem_declrs_go ds)

    mem_declrs_go : (ds : MemDeclrs) →
        Goes k (mem_declrs_tape ds) (declaring None None) (declaring None None)
        (mem_declrs_faults k.spelling k.names ds)
    mem_declrs_go no_mem_declrs = nowhere
    mem_declrs_go (more_mem_declrs attrs d ds) = join (mem_declr_goes d) (mem_declrs_go ds)

    mem_declr_goes : (d : MemDeclr) →
        Goes k (mem_declr_tape d) (declaring None None) (declaring None None) (mem_declr_faults k.spelling k.names d)
    mem_declr_goes (named d width attrs) =
        next (without (without (contents_go d false None) (from _ (pieces_idle k d))) (one [] (λ st. refl)))
        (some_value_goes width)
    mem_declr_goes (unnamed colon e attrs) = from (declaring None None) (quietly_goes k e (expr_goes e false false))

    some_value_goes : (it : SomeValue) →
        Goes k (some_value_tape it) as_is as_is (some_value_faults k.spelling k.names it)
    some_value_goes no_value = nowhere
    some_value_goes (some_value token e) = quietly_goes k e (expr_goes e false false)

    enum_goes : (e : EnumType) → Goes k (enum_tape e) as_is as_is (enum_faults k.spelling k.names e)
    enum_goes (enum_of keyword attrs tag no_enum_body) = tag_idle k false tags.Enum tag
    enum_goes (enum_of keyword attrs tag (some_enum_body opening es last closing)) =
        without (join (body_idle k tags.Enum keyword tag) (enumerators_go es)) (one [] (λ st. refl))

    enumerators_go : (es : Enumerators) →
        Goes k (enumerators_tape es) as_is as_is (enumerators_faults k.spelling k.names es)
    enumerators_go no_enumerators = nowhere
    enumerators_go (more_enumerators name attrs value es) =
        next (without (some_value_goes value) (one [] (λ st. refl))) (enumerators_go es)

    -- declarators

    pub contents_go : (d : Declr) → (own : Bool) (declared : Option ℕ) →
        Goes k (contents own d) (declaring None declared) (declaring (token_in d) declared)
        (declr_faults k.spelling k.names d)
    contents_go (pointer star words d) own declared = contents_go d own declared
    contents_go (declr_name token it) own declared = one [] (λ st. refl)
    contents_go (declr_paren opening attrs d closing) own declared = contents_go d own declared
    contents_go (array d opening words size closing) own declared =
        next (contents_go d own declared) (some_size_goes size)
    contents_go (params d opening ps dots closing) own declared =
        next (contents_go d own declared) (params_with_go k (own && is_name d) ps (params_go ps))
    contents_go (abs_pointer star words d) own declared = some_contents_go d declared
    contents_go (abs_paren opening attrs d closing) own declared = contents_go d own declared
    contents_go (abs_array d opening words size closing) own declared =
        next (some_contents_go d declared) (some_size_goes size)
    contents_go (abs_params d opening ps dots closing) own declared =
        next (some_contents_go d declared) (params_with_go k false ps (params_go ps))
    contents_go (identifiers d opening names closing) own declared =
        without (without (contents_go d own declared) (one [] (λ st. refl))) (one [] (λ st. refl))
    contents_go (base_name token) own declared = nowhere

    some_contents_go : (d : SomeDeclr) → (declared : Option ℕ) →
        Goes k (some_contents d) (declaring None declared) (declaring (token_in_some d) declared)
        (some_declr_faults k.spelling k.names d)
    some_contents_go no_declr declared = nowhere
    some_contents_go (some_declr d) declared = contents_go d false declared

    some_declr_goes : (d : SomeDeclr) → (declared : Option ℕ) →
        Goes k (some_declr_tape d) (declaring None declared) (declaring (token_in_some d) declared)
        (some_declr_faults k.spelling k.names d)
    some_declr_goes no_declr declared = nowhere
    some_declr_goes (some_declr d) declared = without (contents_go d false declared) (from _ (pieces_idle k d))

    some_size_goes : (size : SomeSize) →
        Goes k (some_size_tape size) as_is as_is (some_size_faults k.spelling k.names size)
    some_size_goes no_size = nowhere
    some_size_goes (some_size size) = size_goes size

    size_goes : (size : ArraySize) → Goes k (size_tape size) as_is as_is (array_size_faults k.spelling k.names size)
    size_goes (size_value e) = quietly_goes k e (expr_goes e false false)
    size_goes (size_star token) = nowhere

    params_go : (ps : Params) → Goes k (params_tape ps) as_is as_is (params_faults k.spelling k.names ps)
    params_go no_params = nowhere
    params_go (more_params ws d attrs ps) =
        same (next (without (join (without (words_go ws false) (one [] (λ st. refl))) (some_declr_goes d None))
        (one [] (λ st. refl))) (params_go ps))
        (total_group k.weight (words_faults k.spelling k.names ws) (some_declr_faults k.spelling k.names d)
        (params_faults k.spelling k.names ps))

    -- initialisers

    init_goes : (i : Init) →
        Goes k (init_tape i) as_is (with_leaves (leaves k i)) (init_faults k.spelling k.names no_target i)
    init_goes (init_value e) = expr_goes e false false
    init_goes (init_braced list) = list_goes list

    list_goes : (list : InitList) →
        Goes k (list_tape list) as_is (with_leaves (leaves_in k list)) (untargeted_faults k.spelling k.names list)
    list_goes (init_list opening items last closing) = init_items_go items

    init_items_go : (items : InitItems) →
        Goes k (init_items_tape items) as_is (with_leaves (leaves_of k items))
        (untargeted_items_faults k.spelling k.names items)
    init_items_go no_init_items = nowhere
    init_items_go (more_init_items ds equal i items) =
        reaching _ (same (next (next (indices_go ds) (init_goes i)) (init_items_go items))
        (total_group k.weight (indices_faults k.spelling k.names ds) (init_faults k.spelling k.names no_target i)
        (untargeted_items_faults k.spelling k.names items)))
        (λ st. ap (λ (operands : List Operand). record st { operands = operands })
        (sym (append_assoc (leaves_of k items) (leaves k i) st.operands)))

    indices_go : (ds : Desigs) → Goes k (indices_tape ds) as_is as_is (indices_faults k.spelling k.names ds)
    indices_go no_desigs = nowhere
    indices_go (more_desigs d ds) = next (index_goes d) (indices_go ds)

    index_goes : (d : Desig) → Goes k (index_tape d) as_is as_is (index_faults k.spelling k.names d)
    index_goes (member_desig before name) = nowhere
    index_goes (index_desig opening e closing) = quietly_goes k e (expr_goes e false false)
    index_goes (range_desig opening e dots e2 closing) =
        next (quietly_goes k e (expr_goes e false false)) (quietly_goes k e2 (expr_goes e2 false false))
    index_goes (old_desig name colon) = nowhere

    pub some_init_goes : (i : SomeInit) → (declared : Option ℕ) →
        Goes k (some_init_tape i) (declaring None declared) (declaring None declared)
        (some_init_faults k.spelling k.names (type_of_name k.spelling k.names declared) i)
    some_init_goes no_init declared = nowhere
    some_init_goes (some_init equal (init_value e)) declared =
        without (from (declaring None declared) (expr_goes e false false)) (one [] (λ st. refl))
    some_init_goes (some_init equal (init_braced list)) declared = braced_goes k declared list (list_goes list)

    -- declarations

    init_declrs_go : (ds : InitDeclrs) → (declared : Option ℕ) →
        Goes k (init_declrs_tape ds) (declaring None declared) (declaring None (declared_in ds declared))
        (init_declrs_faults k.spelling k.names ds)
    init_declrs_go no_init_declrs declared = nowhere
    init_declrs_go (more_init_declrs attrs d asm_label attrs2 i ds) declared =
        same (join (join (without (without (contents_go d false declared) (from _ (pieces_idle k d)))
        (one [] (λ st. refl)))
        (same (some_init_goes i (token_in d))
        (ap (λ (t : Option CType). total k.weight (some_init_faults k.spelling k.names t i))
        (target_named k (declared_name d))))) (init_declrs_go ds (token_in d)))
        (total_group k.weight (declr_faults k.spelling k.names d)
        (some_init_faults k.spelling k.names (declared_type k.spelling k.names (declared_name d)) i)
        (init_declrs_faults k.spelling k.names ds))

    declaration_goes : (d : Declaration) →
        Goes k (declaration_tape d) as_is as_is (declaration_faults k.spelling k.names d)
    declaration_goes (declaration exts ws ds semi) =
        without (join (without (words_go ws (declares_tag ws ds)) (one [] (λ st. refl)))
        (either k (are_auto ws ds) (λ e. auto_declrs_go ds None semi (and_second (has_auto ws) (have_values ds) e))
        (λ e. init_declrs_go ds None))) (one [] (λ st. refl))

    -- declarators of names that have the types of their initialisers
    pub auto_declrs_go : (ds : InitDeclrs) → (declared : Option ℕ) (semi : ℕ) → have_values ds ≡ true →
        Goes k (auto_declrs_tape semi ds) (declaring None declared) (declaring None (declared_in ds declared))
        (init_declrs_faults k.spelling k.names ds)
    auto_declrs_go no_init_declrs declared semi h = nowhere
    auto_declrs_go (more_init_declrs attrs d asm_label attrs2 i ds) declared semi h =
        same (join (join (contents_go d false declared)
        (auto_init_goes i (token_in d) declared semi (declared_type k.spelling k.names (declared_name d))
        (and_first (has_value i) (have_values ds) h)))
        (auto_declrs_go ds (token_in d) semi (and_second (has_value i) (have_values ds) h)))
        (total_group k.weight (declr_faults k.spelling k.names d)
        (some_init_faults k.spelling k.names (declared_type k.spelling k.names (declared_name d)) i)
        (init_declrs_faults k.spelling k.names ds))

    auto_init_goes : (i : SomeInit) → (name declared : Option ℕ) (semi : ℕ) (t : Option CType) → has_value i ≡ true →
        Goes k (auto_init_tape semi i) (declaring name declared) (declaring None name)
        (some_init_faults k.spelling k.names t i)
    auto_init_goes no_init name declared semi t h = absurd cc
    auto_init_goes (some_init equal (init_value e)) name declared semi t h =
        without (without (join (one [] (λ st. refl)) (from (declaring name declared) (expr_goes e false false)))
        (one [] (λ st. refl))) (one [] (λ st. refl))
    auto_init_goes (some_init equal (init_braced list)) name declared semi t h = absurd cc

    pub decl_goes : (d : Decl) → Goes k (decl_tape d) as_is as_is (decl_faults k.spelling k.names d)
    decl_goes (decl_declaration d) = declaration_goes d
    decl_goes (decl_assert it) = nowhere

    -- statements

    pub block_items_go : (items : BlockItems) → (kept : Bool) →
        Goes k (block_items_tape kept items) as_is (with_items k kept items)
        (block_items_faults k.spelling k.names items)
    block_items_go no_block_items kept = nowhere
    block_items_go (more_block_items item items) kept =
        next (block_item_goes item (kept && is_end items)) (block_items_go items kept)

    block_item_goes : (item : BlockItem) → (kept : Bool) →
        Goes k (block_item_tape kept item) as_is (with_block_item k kept item)
        (block_item_faults k.spelling k.names item)
    block_item_goes (block_decl d) kept = decl_goes d
    block_item_goes (block_stmt s) kept = stmt_goes s kept
    block_item_goes (block_labels keyword names semi) kept = nowhere

    stmt_goes : (s : Stmt) → (kept : Bool) →
        Goes k (stmt_tape kept s) as_is (with_stmt k kept s) (stmt_faults k.spelling k.names s)
    stmt_goes (block opening items closing) kept =
        scoped (reaching as_is (block_items_go items false) (none_kept k items))
    stmt_goes (expr_stmt e semi) true = some_expr_goes e
    stmt_goes (expr_stmt e semi) false = dropped_goes e
    stmt_goes (attr_stmt attrs semi) kept = nowhere
    stmt_goes (label name colon attrs s) kept = unkept s (stmt_goes s false)
    stmt_goes (case_stmt keyword e colon s) kept =
        next (quietly_goes k e (expr_goes e false false)) (unkept s (stmt_goes s false))
    stmt_goes (default_stmt keyword colon s) kept = unkept s (stmt_goes s false)
    stmt_goes (if_stmt keyword opening e closing s other) kept =
        same (scoped (next (next (condition e (expr_goes e false false)) (scoped (unkept s (stmt_goes s false))))
        (some_else_goes other)))
        (total_group k.weight (expr_faults k.spelling k.names e) (stmt_faults k.spelling k.names s)
        (some_else_faults k.spelling k.names other))
    stmt_goes (switch_stmt keyword opening e closing s) kept =
        scoped (next (condition e (expr_goes e false false)) (scoped (unkept s (stmt_goes s false))))
    stmt_goes (while_stmt keyword opening e closing s) kept =
        scoped (next (condition e (expr_goes e false false)) (scoped (unkept s (stmt_goes s false))))
    stmt_goes (do_stmt keyword s keyword2 opening e closing semi) kept =
        scoped (without (next (scoped (unkept s (stmt_goes s false))) (expr_goes e false false)) (one [] (λ st. refl)))
    stmt_goes (for_stmt keyword opening start e semi e2 closing s) kept =
        same (scoped (next (next (next (for_start_goes start) (dropped_goes e)) (dropped_goes e2))
        (scoped (unkept s (stmt_goes s false)))))
        (total_group_three k.weight (for_start_faults k.spelling k.names start) (some_expr_faults k.spelling k.names e)
        (some_expr_faults k.spelling k.names e2) (stmt_faults k.spelling k.names s))
    stmt_goes (goto_stmt keyword name semi) kept = nowhere
    stmt_goes (continue_stmt keyword semi) kept = nowhere
    stmt_goes (break_stmt keyword semi) kept = nowhere
    stmt_goes (return_stmt keyword no_expr semi) kept = nowhere
    stmt_goes (return_stmt keyword (some_expr e) semi) kept = without (expr_goes e false false) (one [] (λ st. refl))
    stmt_goes (asm_stmt keyword words group semi) kept = nowhere
    stmt_goes (case_range keyword e dots e2 colon s) kept =
        same (next (next (quietly_goes k e (expr_goes e false false)) (quietly_goes k e2 (expr_goes e2 false false)))
        (unkept s (stmt_goes s false)))
        (total_group k.weight (expr_faults k.spelling k.names e) (expr_faults k.spelling k.names e2)
        (stmt_faults k.spelling k.names s))
    stmt_goes (goto_value keyword star e semi) kept = condition e (expr_goes e false false)

    some_else_goes : (other : SomeElse) →
        Goes k (some_else_tape other) as_is as_is (some_else_faults k.spelling k.names other)
    some_else_goes no_else = nowhere
    some_else_goes (some_else keyword s) = scoped (unkept s (stmt_goes s false))

    for_start_goes : (start : ForStart) →
        Goes k (for_start_tape start) as_is as_is (for_start_faults k.spelling k.names start)
    for_start_goes (start_declaration d) = declaration_goes d
    for_start_goes (start_value e semi) = dropped_goes e

  -- declarations behind a list of identifiers

  old_declrs_go : (ds : InitDeclrs) → (declared : Option ℕ) →
      Goes k (old_declrs_tape ds) (declaring None declared) (declaring None (declared_in ds declared))
      (init_declrs_faults k.spelling k.names ds)
  old_declrs_go no_init_declrs declared = nowhere
  old_declrs_go (more_init_declrs attrs d asm_label attrs2 i ds) declared =
      same (join (join (without (without (contents_go d false declared) (from _ (pieces_idle k d)))
      (one [] (λ st. refl)))
      (same (some_init_goes i (token_in d))
      (ap (λ (t : Option CType). total k.weight (some_init_faults k.spelling k.names t i))
      (target_named k (declared_name d))))) (old_declrs_go ds (token_in d)))
      (total_group k.weight (declr_faults k.spelling k.names d)
      (some_init_faults k.spelling k.names (declared_type k.spelling k.names (declared_name d)) i)
      (init_declrs_faults k.spelling k.names ds))

  old_declaration_goes : (d : Declaration) →
      Goes k (old_declaration_tape d) as_is as_is (declaration_faults k.spelling k.names d)
  old_declaration_goes (declaration exts ws ds semi) =
      without (join (without (words_go ws (declares_tag ws ds)) (one [] (λ st. refl)))
      (either k (are_auto ws ds) (λ e. auto_declrs_go ds None semi (and_second (has_auto ws) (have_values ds) e))
      (λ e. old_declrs_go ds None))) (one [] (λ st. refl))

  old_declarations_go : (ds : List Declaration) →
      Goes k (old_declarations_tape ds) as_is as_is (declarations_faults k.spelling k.names ds)
  old_declarations_go [] = nowhere
  old_declarations_go (d ∷ ds) = next (old_declaration_goes d) (old_declarations_go ds)

  pub old_contents_go : (ds : List Declaration) (d : Declr) → (declared : Option ℕ) →
      Goes k (old_contents ds d) (declaring None declared) (declaring (token_in d) declared)
      (old_declr_faults k.spelling k.names ds d)
  old_contents_go ds (identifiers d opening names closing) declared =
      without (next
      (without (without (contents_go d false declared) (one [] (λ st. refl))) (from _ (identifiers_idle k names)))
      (old_declarations_go ds)) (one [] (λ st. refl))
  old_contents_go ds (pointer star words d) declared = old_contents_go ds d declared
  old_contents_go ds (declr_paren opening attrs d closing) declared = old_contents_go ds d declared
  old_contents_go ds (array d opening words size closing) declared =
      next (old_contents_go ds d declared) (some_size_goes size)
  old_contents_go ds (params d opening ps dots closing) declared =
      next (old_contents_go ds d declared) (params_with_go k false ps (params_go ps))
  old_contents_go ds (declr_name token name) declared = contents_go (declr_name token name) false declared
  old_contents_go ds (base_name token) declared = contents_go (base_name token) false declared
  old_contents_go ds (abs_pointer star words d) declared = contents_go (abs_pointer star words d) false declared
  old_contents_go ds (abs_paren opening attrs d closing) declared =
      contents_go (abs_paren opening attrs d closing) false declared
  old_contents_go ds (abs_array d opening words size closing) declared =
      contents_go (abs_array d opening words size closing) false declared
  old_contents_go ds (abs_params d opening ps dots closing) declared =
      contents_go (abs_params d opening ps dots closing) false declared
