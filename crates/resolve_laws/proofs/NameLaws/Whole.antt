-- The tape of each part of a unit says of names what the part says, by induction on the tree.
use Rattle.std.proofs.Common.{◌≡◌, ℕ, Bool, true, false, if◌then◌else◌, List, [], None, refl, sym, ap, subst}
use Rattle.qual_base.proofs.Tests.{and_first}
use Rattle.c_tree.specs.Tree.{Expr, operation, cast, prefix, sizeof_value, sizeof_type, extension, index, call, dot, arrow, post, compound, name_use, number_use, char_use, text_use, paren, statement_expr, va_arg, va_start, va_copy, offset, Operator, comma, assign, cond, binary, SomeExpr, no_expr, some_expr, Exprs, no_exprs, more_exprs, SpecWords, no_words, more_words, SpecWord, storage, thread, inline_word, noreturn, qualifier, basic, struct_type, enum_type, typedef_name, attribute, SomeBody, no_body, some_body, StructItems, no_struct_items, more_struct_items, StructItem, member, member_semi, member_assert, MemDeclrs, no_mem_declrs, more_mem_declrs, MemDeclr, named, unnamed, SomeValue, no_value, some_value, EnumType, enum_of, no_enum_body, some_enum_body, Enumerators, no_enumerators, more_enumerators, Declr, pointer, declr_name, declr_paren, array, params, abs_pointer, abs_paren, abs_array, abs_params, SomeDeclr, no_declr, some_declr, SomeSize, no_size, some_size, ArraySize, size_value, size_star, Params, no_params, more_params, Init, init_value, init_braced, InitList, init_list, InitItems, no_init_items, more_init_items, Desigs, no_desigs, more_desigs, Desig, member_desig, index_desig, SomeInit, no_init, some_init, InitDeclrs, no_init_declrs, more_init_declrs, Declaration, declaration, Decl, decl_declaration, decl_assert, BlockItems, no_block_items, more_block_items, BlockItem, block_decl, block_stmt, Stmt, block, expr_stmt, attr_stmt, label, case_stmt, default_stmt, if_stmt, switch_stmt, while_stmt, do_stmt, for_stmt, goto_stmt, continue_stmt, break_stmt, return_stmt, asm_stmt, SomeElse, no_else, some_else, ForStart, start_declaration, start_value, typeof_value, typeof_type, align, auto_word, complex_part, label_use, compat, choose, generic, Assocs, no_assocs, more_assocs, Assoc, typed_assoc, default_assoc, range_desig, old_desig, case_range, goto_value, block_labels, identifiers, base_name}
use Rattle.c_words.specs.declared.kinds.Keyword.TheVariants as keywords
use Rattle.c_words.specs.declared.kinds.Punct.{Punct}
use Rattle.c_words.specs.declared.kinds.Punct.TheVariants as signs
use Rattle.c_tree.specs.declared.lexeme.Lexeme.{Lexeme}
use Rattle.c_tree.specs.WellFormed.{IsExpr, IsMiddle, IsSomeExpr, AreArguments, AreAssocs, IsAssoc, AreSteps, IsStep, AreDesigs, IsDesig, AreTypeWords, AreSpecWords, IsSpecWord, IsBody, AreStructItems, IsStructItem, AreMemDeclrs, IsMemDeclr, IsSomeValue, IsEnum, AreEnumerators, IsDeclr, IsSomeAbstract, IsSomeDirect, IsSomeDeclr, IsSize, IsArraySize, AreParams, IsInit, IsInitList, AreInitItems, IsSomeInit, AreInitDeclrs, IsDeclaration, IsDecl, AreBlockItems, IsBlockItem, IsStmt, IsOther, IsStart, has_auto, IsAutoDeclr, IsAutoWhere}
use Rattle.tape_ops.specs.declared.op.Op.{Op}
use Rattle.tape_ops.specs.declared.op.Op.TheVariants as ops
use Rattle.tape_ops.specs.declared.expression.ExprOp.TheVariants as exprs
use Rattle.tape_ops.specs.declared.form.FormOp.TheVariants as forms
use Rattle.tape_ops.specs.declared.initialiser.InitOp.TheVariants as inits
use Rattle.tape_ops.specs.declared.statement.StmtOp.TheVariants as stmts
use Rattle.tape_ops.specs.declared.specifier.SpecOp.TheVariants as specs
use Rattle.tape_ops.specs.declared.declarator.DeclrOp.TheVariants as declrs
use Rattle.c_words.specs.declared.kinds.Keyword.{Keyword}
use Rattle.c_tape.specs.Tests as tests
use Rattle.type_table.specs.Types.{CType, base}
use Rattle.name_rules.specs.Spellings.{Spelling}
use Rattle.name_rules.specs.Scopes.{Names}
use Rattle.name_rules.specs.NameSteps.State.{State}
use Rattle.resolve_laws.specs.ShapeLaws.Laws.{ShapesAreLeft}
use Rattle.type_rules.specs.Tokens.{are_auto}
use Rattle.type_rules.specs.Naming.{assocs_named, assoc_named, init_declrs_named, auto_declrs_named, expr_named, operator_named, some_expr_named, exprs_named, enumerators_named, some_value_named, some_size_named, array_size_named, init_named, init_list_named, init_items_named, desigs_named, desig_named, some_init_named, declaration_named, decl_named, block_items_named, block_item_named, stmt_named, some_else_named, for_start_named, is_tag_alone}
use Rattle.c_tape.specs.Tape.{tape_in, prefix_tape, assocs_tape, assoc_tape, init_declrs_tape, auto_declrs_tape, middle_tape, operator_tape, some_expr_tape, exprs_tape, dropped_tape, arguments, steps_tape, step_tape, enumerators_tape, some_value_tape, some_size_tape, size_tape, init_tape, list_tape, init_items_tape, indices_tape, index_tape, rule, rule_of_list, rule_of_items, desigs_tape, desig_tape, some_init_tape, declared_init_tape, declaration_tape, decl_tape, block_items_tape, block_item_tape, stmt_tape, some_else_tape, for_start_tape, return_tape}
use Rattle.resolve_laws.proofs.NameLaws.Running.{declaring, Goes, ◌▸◌, one, stays}
use Rattle.resolve_laws.proofs.NameLaws.Saying.{Says, ◌>>◌, nothing, form_says, init_says, expr_says, name_says, stmt_says, in_scope_says, quietly_says}
use Rattle.resolve_laws.proofs.NameLaws.Agreeing.{same_alone, same_auto}
use Rattle.resolve_laws.proofs.NameLaws.Pieces.{qual_goes}
use Rattle.resolve_laws.proofs.NameLaws.Storage.{same_said, same_untagged}
use Rattle.resolve_laws.proofs.NameLaws.Typing.{AutoLaw, word_typeof, word_typeof_type, auto_base, auto_one}
use Rattle.resolve_laws.proofs.NameLaws.Forms.{untagged_left, declr_identifiers, declr_base_name, storage_behind, untagged_behind, WordLaw, SpecsLaw, StructLaw, ItemsLaw, ItemLaw, MembersLaw, MemberLaw, EnumLaw, DeclrLaw, SomeDeclrLaw, ParamsLaw, DeclrsLaw, specs_none, specs_more, struct_none, struct_some, word_struct, word_basic, enumerator_says, enum_none, enum_some, type_name_says, declr_params, declr_abs_params, declr_pointer, declr_array, declr_abs_pointer, declr_abs_array, declr_of_name, params_none, params_more, members_none, members_more, member_named, member_unnamed, item_member, declrs_none, declrs_more}

module _ (u : Spelling) where
  -- what says nothing of names

  operator_says : (op : Operator) (token first last : ℕ) → Says u (operator_tape op token first last) (λ s. s)
  operator_says comma token first last = expr_says u (exprs.Comma token) (λ st. refl)
  operator_says (assign p) token first last = expr_says u (exprs.Assign p token first last) (λ st. refl)
  operator_says (cond middle colon) token first last = expr_says u _ (λ st. refl)
  operator_says (binary p) token first last = expr_says u (exprs.Binary p token first last) (λ st. refl)

  arguments_say : (es : Exprs) → Says u (arguments es) (λ s. s)
  arguments_say no_exprs = nothing u
  arguments_say (more_exprs e es) = expr_says u (exprs.Arg _ _ _) (λ st. refl) >> arguments_say es

  desig_says : (d : Desig) → Says u (desig_tape d) (λ s. s)
  desig_says (member_desig before name) = init_says u _
  desig_says (index_desig opening e closing) = init_says u _
  desig_says (range_desig opening e dots e2 closing) = init_says u _
  desig_says (old_desig name colon) = init_says u _

  desigs_say : (ds : Desigs) → Says u (desigs_tape ds) (λ s. s)
  desigs_say no_desigs = nothing u
  desigs_say (more_desigs d ds) = desig_says d >> desigs_say ds

  mutual
    rule_says : (i : Init) → Says u (rule i) (λ s. s)
    rule_says (init_value e) = init_says u _
    rule_says (init_braced list) = rule_list_says list

    rule_list_says : (list : InitList) → Says u (rule_of_list list) (λ s. s)
    rule_list_says (init_list opening items last closing) =
        init_says u inits.ListBegin >> rule_items_say items >> init_says u inits.ListEnd

    rule_items_say : (items : InitItems) → Says u (rule_of_items items) (λ s. s)
    rule_items_say no_init_items = nothing u
    rule_items_say (more_init_items ds equal i items) = desigs_say ds >> rule_says i >> rule_items_say items

  kept_says : (kept : Bool) (e : SomeExpr) → Says u (some_expr_tape e) (some_expr_named u e)
      → Says u (dropped_tape e) (some_expr_named u e)
      → Says u (if kept then some_expr_tape e else dropped_tape e) (some_expr_named u e)
  kept_says true e p q = p
  kept_says false e p q = q

  prefix_says : (token : ℕ) (p : Punct) (e : Expr) (aims : Bool) {addressed taken : List Op} {f : Names → Names}
      → Says u addressed f → Says u taken f → Says u (prefix_tape token p e aims addressed taken) f
  prefix_says token signs.Ampersand e aims p q = p >> expr_says u _ (λ st. refl)
  prefix_says token sign e aims p q = q >> expr_says u _ (λ st. refl)

  pub auto_is : (ws : SpecWords) (ds : InitDeclrs) → are_auto ws ds ≡ true → IsAutoWhere (has_auto ws) ws ds
      → IsAutoDeclr ws ds
  auto_is ws ds is where_auto =
      let has : IsAutoWhere true ws ds =
      subst (λ (b : Bool). IsAutoWhere b ws ds) (and_first (has_auto ws) _ is) where_auto in has

  -- behind specifiers, by one test or by the other one
  behind_specs : (ws : SpecWords) (ds : InitDeclrs) (semi : ℕ) → DeclrsLaw u ds
      → (are_auto ws ds ≡ true → AutoLaw u semi ds)
      → (st : State) (t : CType) (k : List Keyword) (b : Bool) (finished : List (List CType)) (s : Names)
      → Goes u (if tests.are_auto ws ds then auto_declrs_tape semi ds else init_declrs_tape ds)
      (declaring st t k b None t finished s)
      (declaring st t k (if are_auto ws ds then false else untagged_left ds b) None t finished
      (if are_auto ws ds then auto_declrs_named u k b semi t ds s else init_declrs_named u k b t ds s))
  behind_specs ws ds semi q r st t k b finished s =
      subst (λ (tape : List Op). Goes u tape (declaring st t k b None t finished s)
      (declaring st t k (if are_auto ws ds then false else untagged_left ds b) None t finished
      (if are_auto ws ds then auto_declrs_named u k b semi t ds s else init_declrs_named u k b t ds s)))
      (ap (λ (is : Bool). if is then auto_declrs_tape semi ds else init_declrs_tape ds) (sym (same_auto ws ds)))
      (by_auto (are_auto ws ds) refl)
    where
      by_auto : (is : Bool) → are_auto ws ds ≡ is
          → Goes u (if is then auto_declrs_tape semi ds else init_declrs_tape ds)
          (declaring st t k b None t finished s)
          (declaring st t k (if is then false else untagged_left ds b) None t finished
          (if is then auto_declrs_named u k b semi t ds s else init_declrs_named u k b t ds s))
      by_auto true is = r is st t k b finished s
      by_auto false is = q st t k b finished s

  declaration_says : (exts : List ℕ) (ws : SpecWords) (ds : InitDeclrs) (semi : ℕ) → SpecsLaw u (is_tag_alone ws ds) ws
      → DeclrsLaw u ds → (are_auto ws ds ≡ true → AutoLaw u semi ds)
      → Says u (declaration_tape (declaration exts ws ds semi)) (declaration_named u (declaration exts ws ds semi))
  declaration_says exts ws ds semi p q r =
      record {
        goes = λ st s. rw (same_alone ws ds, same_said ws, same_untagged ws)
            (p st (base []) [] [] false s
            ▸ behind_specs ws ds semi q r st _ (storage_behind ws []) (untagged_behind ws false) st.finished _
            ▸ one u (ops.Declr declrs.DeclarationEnd) _ (λ passed. refl));
      }

-- The trees are well formed: without that, a declarator behind `__auto_type` could have lists of parameters.
module _ (u : Spelling) (left : ShapesAreLeft) (all : List Lexeme) where
  mutual
    pub expr_law : (called aims : Bool) (e : Expr) → IsExpr all e
        → Says u (tape_in called aims e) (expr_named u called e)
    expr_law called aims (operation a op token b) h =
        expr_law false false a h.0 >> middle_law op h.3 >> expr_law false false b h.1 >> operator_says u op token _ _
    expr_law called aims (cast opening ws d closing e) h =
        type_name_says u ws d (type_words_law ws h.1) (abstract_law d h.2) >> expr_law false false e h.3 >> form_says u
        (forms.Cast opening _)
    expr_law called aims (prefix token p e) h =
        prefix_says u token p e aims (expr_law false true e h.0) (expr_law false false e h.0)
    expr_law called aims (sizeof_value word e) h =
        stmt_says u stmts.Quiet (λ st. refl) >> expr_law false false e h.0 >> form_says u (forms.Sizeof word.token)
    expr_law called aims (sizeof_type word opening ws d closing) h =
        stmt_says u stmts.Quiet (λ st. refl) >> type_name_says u ws d (type_words_law ws h.1)
        (abstract_law d h.2) >> form_says u (forms.Sizeof word.token)
    expr_law called aims (extension keyword e) h =
        expr_law false aims e h.0 >> expr_says u (exprs.Ext keyword) (λ st. refl)
    expr_law called aims (index a opening b closing) h =
        expr_law false false a h.0 >> expr_law false false b h.1
        >> expr_says u (exprs.Index opening _ closing aims) (λ st. refl)
    expr_law called aims (call f opening es closing) h =
        expr_law true false f h.0 >> exprs_law es h.1 >> arguments_say u es
        >> expr_says u (exprs.Call opening _) (λ st. refl)
    expr_law called aims (dot e token name) h =
        expr_law false aims e h.0 >> expr_says u (exprs.Dot token name.token name.name) (λ st. refl)
    expr_law called aims (arrow e token name) h =
        expr_law false false e h.0 >> expr_says u (exprs.Arrow token _ name.token aims) (λ st. refl)
        >> expr_says u (exprs.Dot token name.token name.name) (λ st. refl)
    expr_law called aims (post e token p) h =
        expr_law false false e h.0 >> expr_says u (exprs.Post p token _) (λ st. refl)
    expr_law called aims (compound opening ws d closing list) h =
        type_name_says u ws d (type_words_law ws h.1)
        (abstract_law d h.2) >> init_says u inits.Begin >> list_law list h.3
        >> init_says u (inits.Literal opening) >> rule_list_says u list >> init_says u inits.LiteralEnd
    expr_law called aims (name_use token name) h = name_says u called token name
    expr_law called aims (number_use token) h = expr_says u (exprs.Number token) (λ st. refl)
    expr_law called aims (char_use token) h = expr_says u (exprs.Char token) (λ st. refl)
    expr_law called aims (text_use texts) h = expr_says u (exprs.Text _) (λ st. refl)
    expr_law called aims (paren opening e closing) h =
        expr_law false aims e h >> expr_says u (exprs.Paren opening) (λ st. refl)
    expr_law called aims (statement_expr opening opening2 items closing closing2) h =
        in_scope_says (block_items_law true items h.0) >> form_says u (forms.StmtExpr _ opening)
    expr_law called aims (va_arg keyword opening e separator ws d closing) h =
        expr_law false false e h.0 >> type_name_says u ws d (type_words_law ws h.2) (abstract_law d h.3) >> form_says u
        (forms.VaArg keyword closing)
    expr_law called aims (va_start keyword opening a separator b closing) h =
        expr_law false false a h.0 >> expr_law false false b h.1 >> form_says u (forms.VaStart keyword closing)
    expr_law called aims (va_copy keyword opening a separator b closing) h =
        expr_law false false a h.0 >> expr_law false false b h.1 >> form_says u (forms.VaCopy keyword closing)
    expr_law called aims (offset keyword opening ws d separator name steps closing) h =
        stmt_says u stmts.Quiet (λ st. refl) >> type_name_says u ws d (type_words_law ws h.1) (abstract_law d h.2)
        >> form_says u (forms.OffsetMember name.token name.name)
        >> steps_law steps h.3 >> form_says u (forms.Offset keyword)
    expr_law called aims (complex_part keyword e) h =
        expr_law false aims e h.0 >> expr_says u (exprs.Ext keyword) (λ st. refl)
    expr_law called aims (label_use token name) h = expr_says u (exprs.Label token) (λ st. refl)
    expr_law called aims (compat keyword opening ws d separator ws2 d2 closing) h =
        stmt_says u stmts.Quiet (λ st. refl) >> type_name_says u ws d (type_words_law ws h.1)
        (abstract_law d h.2) >> type_name_says u ws2 d2 (type_words_law ws2 h.4) (abstract_law d2 h.5)
        >> form_says u (forms.Compat keyword)
    expr_law called aims (choose keyword opening e separator a separator2 b closing) h =
        quietly_says (expr_law false false e h.0) >> expr_law false false a h.1 >> expr_law false false b h.2
        >> form_says u (forms.Choose keyword)
    expr_law called aims (generic keyword opening e xs closing) h =
        stmt_says u stmts.Quiet (λ st. refl) >> expr_law false false e h.0 >> form_says u forms.Control
        >> assocs_law xs h.3 >> form_says u (forms.Generic keyword _)

    -- the words and the declarator of a type's name
    type_words_law : (ws : SpecWords) → AreTypeWords all ws → SpecsLaw u false ws
    type_words_law no_words h = specs_none u false
    type_words_law (more_words word ws) h = specs_more u false word ws (word_law false word h.0) (type_words_law ws h.2)

    abstract_law : (d : SomeDeclr) → IsSomeAbstract all d → SomeDeclrLaw u d
    abstract_law no_declr h = λ st t k b finished s. stays u _
    abstract_law (some_declr d) h = declr_law false d h.0

    direct_law : (d : SomeDeclr) → IsSomeDirect all d → SomeDeclrLaw u d
    direct_law no_declr h = λ st t k b finished s. stays u _
    direct_law (some_declr d) h = declr_law false d h.0

    assocs_law : (xs : Assocs) → AreAssocs all xs → Says u (assocs_tape xs) (assocs_named u xs)
    assocs_law no_assocs h = nothing u
    assocs_law (more_assocs x xs) h = assoc_law x h.0 >> assocs_law xs h.1

    assoc_law : (x : Assoc) → IsAssoc all x → Says u (assoc_tape x) (assoc_named u x)
    assoc_law (typed_assoc ws d colon e) h =
        type_name_says u ws d (type_words_law ws h.1) (abstract_law d h.2) >> expr_law false false e h.3
    assoc_law (default_assoc keyword colon e) h = form_says u forms.NoType >> expr_law false false e h.0

    middle_law : (op : Operator) → IsMiddle all op → Says u (middle_tape op) (operator_named u op)
    middle_law comma h = nothing u
    middle_law (assign p) h = nothing u
    middle_law (cond middle colon) h = some_expr_law middle h
    middle_law (binary p) h = nothing u

    some_expr_law : (e : SomeExpr) → IsSomeExpr all e → Says u (some_expr_tape e) (some_expr_named u e)
    some_expr_law no_expr h = nothing u
    some_expr_law (some_expr e) h = expr_law false false e h

    dropped_law : (e : SomeExpr) → IsSomeExpr all e → Says u (dropped_tape e) (some_expr_named u e)
    dropped_law no_expr h = nothing u
    dropped_law (some_expr e) h = expr_law false false e h >> stmt_says u stmts.Pop (λ st. refl)

    exprs_law : (es : Exprs) → AreArguments all es → Says u (exprs_tape es) (exprs_named u es)
    exprs_law no_exprs h = nothing u
    exprs_law (more_exprs e es) h = expr_law false false e h.0 >> exprs_law es h.2

    steps_law : (ds : Desigs) → AreSteps all ds → Says u (steps_tape ds) (desigs_named u ds)
    steps_law no_desigs h = nothing u
    steps_law (more_desigs d ds) h = step_law d h.0 >> steps_law ds h.1

    step_law : (d : Desig) → IsStep all d → Says u (step_tape d) (desig_named u d)
    step_law (member_desig before name) h = form_says u _
    step_law (index_desig opening e closing) h = expr_law false false e h >> form_says u (forms.OffsetIndex opening)
    step_law (range_desig opening e dots e2 closing) h = absurd h
    step_law (old_desig name colon) h = absurd h

    pub specs_law : (alone : Bool) (ws : SpecWords) → AreSpecWords all ws → SpecsLaw u alone ws
    specs_law alone no_words h = specs_none u alone
    specs_law alone (more_words word ws) h =
        specs_more u alone word ws (word_law alone word h.0) (specs_law alone ws h.1)

    word_law : (alone : Bool) (word : SpecWord) → IsSpecWord all word → WordLaw u alone word
    word_law alone (storage word) h = λ st t w k b s. one u (ops.Spec (specs.Storage word.keyword)) _ (λ passed. refl)
    word_law alone (thread token) h = λ st t w k b s. stays u _
    word_law alone (inline_word token) h =
        λ st t w k b s. one u (ops.Spec (specs.Storage keywords.Inline)) _ (λ passed. refl)
    word_law alone (noreturn token) h = λ st t w k b s. stays u _
    word_law alone (qualifier q) h = λ st t w k b s. qual_goes u q st t w k b s
    word_law alone (basic word) h = word_basic u alone word
    word_law alone (struct_type word attrs tag body) h =
        word_struct u alone word attrs tag body (struct_law alone body h.3)
    word_law alone (enum_type e) h = enum_law e h
    word_law alone (typedef_name name) h =
        λ st t w k b s. one u (ops.Spec (specs.Typedef name.token name.name)) _ (λ passed. refl)
    word_law alone (attribute attr) h = λ st t w k b s. stays u _
    word_law alone (typeof_value keyword opening e closing) h =
        word_typeof u left alone keyword opening e closing (expr_law false false e h)
    word_law alone (typeof_type word opening ws d closing) h =
        word_typeof_type u alone word opening ws d closing (type_words_law ws h.2) (abstract_law d h.3)
    word_law alone (align attr) h = λ st t w k b s. stays u _
    word_law alone (auto_word token) h = λ st t w k b s. stays u _

    struct_law : (alone : Bool) (body : SomeBody) → IsBody all body → StructLaw u alone body
    struct_law alone no_body h = struct_none u alone
    struct_law alone (some_body opening items closing) h =
        struct_some u alone opening items closing (struct_items_law items h)

    struct_items_law : (items : StructItems) → AreStructItems all items → ItemsLaw u items
    struct_items_law no_struct_items h = λ st s. stays u _
    struct_items_law (more_struct_items item items) h =
        λ st s. struct_item_law item h.0 st s ▸ struct_items_law items h.1 st _

    struct_item_law : (item : StructItem) → IsStructItem all item → ItemLaw u item
    struct_item_law (member exts ws ds semi) h =
        item_member u exts ws ds semi (specs_law false ws h.1) (mem_declrs_law ds h.4)
    struct_item_law (member_semi semi) h = λ st s. stays u _
    struct_item_law (member_assert it) h = λ st s. stays u _

    mem_declrs_law : (ds : MemDeclrs) → AreMemDeclrs all ds → MembersLaw u ds
    mem_declrs_law no_mem_declrs h = members_none u
    mem_declrs_law (more_mem_declrs attrs d ds) h =
        members_more u attrs d ds (mem_declr_law d h.1) (mem_declrs_law ds h.2)

    mem_declr_law : (d : MemDeclr) → IsMemDeclr all d → MemberLaw u d
    mem_declr_law (named d width attrs) h =
        member_named u d width attrs (declr_law false d h.0) (some_value_law width h.2)
    mem_declr_law (unnamed colon e attrs) h = member_unnamed u colon e attrs (expr_law false false e h.0)

    some_value_law : (value : SomeValue) → IsSomeValue all value
        → Says u (some_value_tape value) (some_value_named u value)
    some_value_law no_value h = nothing u
    some_value_law (some_value token e) h = quietly_says (expr_law false false e h.0)

    enum_law : (e : EnumType) → IsEnum all e → EnumLaw u e
    enum_law (enum_of keyword attrs tag no_enum_body) h = enum_none u keyword attrs tag
    enum_law (enum_of keyword attrs tag (some_enum_body opening es last closing)) h =
        enum_some u keyword attrs tag opening es last closing (enumerators_law es h.2.1)

    enumerators_law : (es : Enumerators) → AreEnumerators all es → Says u (enumerators_tape es) (enumerators_named u es)
    enumerators_law no_enumerators h = nothing u
    enumerators_law (more_enumerators name attrs value es) h =
        some_value_law value h.1 >> enumerator_says u name.token name.name >> enumerators_law es h.2

    pub declr_law : (own : Bool) (d : Declr) → IsDeclr all d → DeclrLaw u own d
    declr_law own (pointer star words d) h = declr_pointer u own star words d (declr_law own d h.1)
    declr_law own (declr_name token name) h = declr_of_name u own token name
    declr_law own (declr_paren opening attrs d closing) h = declr_law own d h.1
    declr_law own (array d opening words size closing) h =
        declr_array u own d opening words size closing (declr_law own d h.0) (some_size_law size h.4)
    declr_law own (params d opening ps dots closing) h =
        declr_params u own d opening ps dots closing (declr_law own d h.0) (params_law ps h.3)
    declr_law own (abs_pointer star words d) h = declr_abs_pointer u own star words d (abstract_law d h.1)
    declr_law own (abs_paren opening attrs d closing) h = declr_law own d h.1
    declr_law own (abs_array d opening words size closing) h =
        declr_abs_array u own d opening words size closing (direct_law d h.0) (some_size_law size h.2)
    declr_law own (abs_params d opening ps dots closing) h =
        declr_abs_params u own d opening ps dots closing (direct_law d h.0) (params_law ps h.1)
    declr_law own (identifiers d opening names closing) h =
        declr_identifiers u own d opening names closing (declr_law own d h.0)
    declr_law own (base_name token) h = declr_base_name u own token

    some_declr_law : (d : SomeDeclr) → IsSomeDeclr all d → SomeDeclrLaw u d
    some_declr_law no_declr h = λ st t k b finished s. stays u _
    some_declr_law (some_declr d) h = declr_law false d h

    pub some_size_law : (size : SomeSize) → IsSize all size → Says u (some_size_tape size) (some_size_named u size)
    some_size_law no_size h = nothing u
    some_size_law (some_size size) h = array_size_law size h

    array_size_law : (size : ArraySize) → IsArraySize all size → Says u (size_tape size) (array_size_named u size)
    array_size_law (size_value e) h = quietly_says (expr_law false false e h.0)
    array_size_law (size_star token) h = nothing u

    pub params_law : (ps : Params) → AreParams all ps → ParamsLaw u ps
    params_law no_params h = params_none u
    params_law (more_params ws d attrs ps) h =
        params_more u ws d attrs ps (specs_law false ws h.1) (some_declr_law d h.3) (params_law ps h.6)

    init_law : (i : Init) → IsInit all i → Says u (init_tape i) (init_named u i)
    init_law (init_value e) h = expr_law false false e h.0
    init_law (init_braced list) h = list_law list h

    list_law : (list : InitList) → IsInitList all list → Says u (list_tape list) (init_list_named u list)
    list_law (init_list opening items last closing) h = init_items_law items h.0

    init_items_law : (items : InitItems) → AreInitItems all items
        → Says u (init_items_tape items) (init_items_named u items)
    init_items_law no_init_items h = nothing u
    init_items_law (more_init_items ds equal i items) h =
        indices_law ds h.0 >> init_law i h.2 >> init_items_law items h.3

    indices_law : (ds : Desigs) → AreDesigs all ds → Says u (indices_tape ds) (desigs_named u ds)
    indices_law no_desigs h = nothing u
    indices_law (more_desigs d ds) h = index_law d h.0 >> indices_law ds h.1

    index_law : (d : Desig) → IsDesig all d → Says u (index_tape d) (desig_named u d)
    index_law (member_desig before name) h = nothing u
    index_law (index_desig opening e closing) h = quietly_says (expr_law false false e h.0)
    index_law (range_desig opening e dots e2 closing) h =
        quietly_says (expr_law false false e h.0) >> quietly_says (expr_law false false e2 h.2)
    index_law (old_desig name colon) h = nothing u

    pub some_init_law : (i : SomeInit) → IsSomeInit all i → Says u (some_init_tape i) (some_init_named u i)
    some_init_law no_init h = nothing u
    some_init_law (some_init equal i) h = declared_init_law i h

    declared_init_law : (i : Init) → IsInit all i → Says u (declared_init_tape i) (init_named u i)
    declared_init_law (init_value e) h = expr_law false false e h.0 >> init_says u (inits.Value _ _)
    declared_init_law (init_braced list) h =
        init_says u inits.Begin >> list_law list h >> init_says u inits.Rule >> rule_list_says u list
        >> init_says u inits.End

    init_declrs_law : (ds : InitDeclrs) → AreInitDeclrs all ds → DeclrsLaw u ds
    init_declrs_law no_init_declrs h = declrs_none u
    init_declrs_law (more_init_declrs attrs d asm_label attrs2 i ds) h =
        declrs_more u attrs d asm_label attrs2 i ds (declr_law false d h.1) (some_init_law i h.5)
        (init_declrs_law ds h.6)

    pub auto_law : (semi : ℕ) (ws : SpecWords) (ds : InitDeclrs) → IsAutoDeclr ws ds → AreInitDeclrs all ds
        → AutoLaw u semi ds
    auto_law semi ws (more_init_declrs attrs (declr_name token name) None attrs2
        (some_init equal (init_value e)) no_init_declrs) is h =
        auto_one u left attrs attrs2 token name equal semi e (expr_law false false e h.5.0)
    auto_law semi ws
        (more_init_declrs attrs (base_name token) None attrs2 (some_init equal (init_value e)) no_init_declrs) is h =
        auto_base u left attrs attrs2 token equal semi e (expr_law false false e h.5.0)
    auto_law semi ws _ is h = absurd is

    declaration_law : (d : Declaration) → IsDeclaration all d → Says u (declaration_tape d) (declaration_named u d)
    declaration_law (declaration exts ws ds semi) h =
        declaration_says u exts ws ds semi (specs_law (is_tag_alone ws ds) ws h.1) (init_declrs_law ds h.3)
        (λ is. auto_law semi ws ds (auto_is u ws ds is h.4) h.3)

    pub decl_law : (d : Decl) → IsDecl all d → Says u (decl_tape d) (decl_named u d)
    decl_law (decl_declaration d) h = declaration_law d h
    decl_law (decl_assert it) h = nothing u

    pub block_items_law : (kept : Bool) (items : BlockItems) → AreBlockItems all items
        → Says u (block_items_tape kept items) (block_items_named u items)
    block_items_law kept no_block_items h = nothing u
    block_items_law kept (more_block_items item items) h = block_item_law _ item h.0 >> block_items_law kept items h.1

    block_item_law : (kept : Bool) (item : BlockItem) → IsBlockItem all item
        → Says u (block_item_tape kept item) (block_item_named u item)
    block_item_law kept (block_decl d) h = decl_law d h
    block_item_law kept (block_stmt t) h = stmt_law kept t h
    block_item_law kept (block_labels keyword names semi) h = nothing u

    stmt_law : (kept : Bool) (t : Stmt) → IsStmt all t → Says u (stmt_tape kept t) (stmt_named u t)
    stmt_law kept (block opening items closing) h = in_scope_says (block_items_law false items h.0)
    stmt_law kept (expr_stmt e semi) h = kept_says u kept e (some_expr_law e h) (dropped_law e h)
    stmt_law kept (attr_stmt attrs semi) h = nothing u
    stmt_law kept (label name colon attrs t) h = stmt_law false t h.1
    stmt_law kept (case_stmt keyword e colon t) h = quietly_says (expr_law false false e h.0) >> stmt_law false t h.2
    stmt_law kept (default_stmt keyword colon t) h = stmt_law false t h
    stmt_law kept (if_stmt keyword opening e closing t other) h =
        in_scope_says
        (expr_law false false e h.0 >> stmt_says u stmts.Pop (λ st. refl) >> in_scope_says (stmt_law false t h.1)
        >> some_else_law t other h.2)
    stmt_law kept (switch_stmt keyword opening e closing t) h =
        in_scope_says
        (expr_law false false e h.0 >> stmt_says u stmts.Pop (λ st. refl) >> in_scope_says (stmt_law false t h.1))
    stmt_law kept (while_stmt keyword opening e closing t) h =
        in_scope_says
        (expr_law false false e h.0 >> stmt_says u stmts.Pop (λ st. refl) >> in_scope_says (stmt_law false t h.1))
    stmt_law kept (do_stmt keyword t keyword2 opening e closing semi) h =
        in_scope_says
        (in_scope_says (stmt_law false t h.0) >> expr_law false false e h.1 >> stmt_says u stmts.Pop (λ st. refl))
    stmt_law kept (for_stmt keyword opening start e semi e2 closing t) h =
        in_scope_says
        (for_start_law start h.0 >> dropped_law e h.1 >> dropped_law e2 h.2 >> in_scope_says (stmt_law false t h.3))
    stmt_law kept (goto_stmt keyword name semi) h = nothing u
    stmt_law kept (continue_stmt keyword semi) h = nothing u
    stmt_law kept (break_stmt keyword semi) h = nothing u
    stmt_law kept (return_stmt keyword e semi) h = return_law keyword e semi h
    stmt_law kept (asm_stmt keyword words group semi) h = nothing u
    stmt_law kept (case_range keyword e dots e2 colon t) h =
        quietly_says (expr_law false false e h.0) >> quietly_says (expr_law false false e2 h.2) >> stmt_law false t h.4
    stmt_law kept (goto_value keyword star e semi) h = expr_law false false e h >> stmt_says u stmts.Pop (λ st. refl)

    some_else_law : (before : Stmt) (other : SomeElse) → IsOther all before other
        → Says u (some_else_tape other) (some_else_named u other)
    some_else_law before no_else h = nothing u
    some_else_law before (some_else keyword t) h = in_scope_says (stmt_law false t h.0)

    for_start_law : (start : ForStart) → IsStart all start → Says u (for_start_tape start) (for_start_named u start)
    for_start_law (start_declaration d) h = declaration_law d h
    for_start_law (start_value e semi) h = dropped_law e h

    return_law : (keyword : ℕ) (e : SomeExpr) (semi : ℕ) → IsSomeExpr all e
        → Says u (return_tape keyword e semi) (some_expr_named u e)
    return_law keyword no_expr semi h = nothing u
    return_law keyword (some_expr e) semi h =
        expr_law false false e h >> stmt_says u (stmts.Return keyword semi) (λ st. refl)
