-- Each expression of an item without faults, whose names are known, has a type.
use Rattle.std.proofs.Common.{◌≡◌, ℕ, Bool, true, false, List, [], ◌∷◌, Option}
use Rattle.c_tree.specs.Tree.{Expr, operation, cast, prefix, sizeof_value, sizeof_type, extension, index, call, dot, arrow, post, compound, name_use, number_use, char_use, text_use, paren, statement_expr, va_arg, va_start, va_copy, offset, Operator, comma, assign, cond, binary, SomeExpr, no_expr, some_expr, Exprs, no_exprs, more_exprs, Init, init_value, init_braced, InitList, init_list, InitItems, no_init_items, more_init_items, SomeInit, no_init, some_init, InitDeclrs, no_init_declrs, more_init_declrs, Declaration, declaration, Decl, decl_declaration, decl_assert, BlockItems, no_block_items, more_block_items, BlockItem, block_decl, block_stmt, Stmt, block, expr_stmt, attr_stmt, label, case_stmt, default_stmt, if_stmt, switch_stmt, while_stmt, do_stmt, for_stmt, goto_stmt, continue_stmt, break_stmt, return_stmt, asm_stmt, SomeElse, no_else, some_else, ForStart, start_declaration, start_value, complex_part, label_use, compat, choose, generic, typeof_value, typeof_type, align, auto_word, range_desig, old_desig, case_range, goto_value, block_labels, identifiers, base_name, Assocs, no_assocs, more_assocs, Assoc, typed_assoc, default_assoc, Declr, pointer, declr_name, declr_paren, array, params, abs_pointer, abs_paren, abs_array, abs_params}
use Rattle.c_tree.specs.Unit.{Item, function_item, old_function_item, decl_item, asm_item, semi_item}
use Rattle.type_table.specs.Types.{CType}
use Rattle.name_rules.specs.Spellings.{Spelling, place}
use Rattle.name_rules.specs.Faults.{not_pointer, fault_where}
use Rattle.name_rules.specs.Scopes.{Names}
use Rattle.name_rules.specs.Values.{Target, no_target, to, value, some_target, is_no_pointer}
use Rattle.name_rules.specs.Uses.{type_named_at}
use Rattle.name_rules.specs.Checks.{call_faults, index_faults_at, member_faults, prefix_faults}
use Rattle.c_tree.specs.Firsts.{first_word}
use Rattle.type_rules.specs.Tokens.{declared_name}
use Rattle.type_rules.specs.Shapes.{shape_of}
use Rattle.type_rules.specs.Judging.{assocs_faults, assoc_faults, declarations_faults, old_declr_faults, count, next_behind, item_target, declared_type, expr_faults, operator_faults, middle_faults, some_expr_faults, exprs_faults, desigs_faults, indices_faults, init_faults, untargeted_faults, untargeted_items_faults, list_faults, items_faults, words_faults, declr_faults, some_declr_faults, init_declrs_faults, some_init_faults, declaration_faults, decl_faults, block_items_faults, block_item_faults, stmt_faults, some_else_faults, for_start_faults, item_faults, items_faults_of}
use Rattle.missing_laws.specs.Everywhere.{AssocsHave, AssocHas, DeclarationsHave, OldDeclrHas, ExprHas, OperatorHas, SomeExprHas, ExprsHave, InitHas, InitListHas, InitItemsHave, SomeInitHas, InitDeclrsHave, DeclarationHas, DeclHas, BlockItemsHave, BlockItemHas, StmtHas, SomeElseHas, ForStartHas, ItemHas, ItemsHave}
use Rattle.row_rules.specs.Worlds.{World}
use Rattle.missing_laws.specs.Finding.{IsSettled, HasType}
use Rattle.missing_laws.proofs.Types.{first_none, last_none, typed}

module _ (w : World) (U V W : ℕ → Type 0) where
  abbrev u : Spelling
  u = w.spelling

  abbrev s : Names
  s = w.names

  abbrev K : Expr → Type 0
  K e = IsSettled w e

  abbrev T : Expr → Type 0
  T e = HasType w e

  is_typed : (e : Expr) → ExprHas K U V W e → expr_faults u s e ≡ [] → HasType w e
  is_typed e k h = typed w U V W e k h

  mutual
    pub expr_typed : (e : Expr) → ExprHas K U V W e → expr_faults u s e ≡ [] → ExprHas T U V W e
    expr_typed (operation e op token e2) k h =
        let behind = last_none (operator_faults u s op token (shape_of u s e)) _ h in
        let last = last_none (expr_faults u s e) _ behind in (
          is_typed (operation e op token e2) k h,
          (
            expr_typed e k.1.0 (first_none (expr_faults u s e) _ behind),
            (
              operator_typed op k.1.1.0 (first_none (middle_faults u s op) _ last),
              expr_typed e2 k.1.1.1 (last_none (middle_faults u s op) _ last),
            ),
          ),
        )
    expr_typed (cast opening ws d closing e) k h = (
      is_typed (cast opening ws d closing e) k h,
      (
        k.1.0,
        (
          k.1.1.0,
          expr_typed e k.1.1.1 (last_none (some_declr_faults u s d) _ (last_none (words_faults u s ws) _ h)),
        ),
      ),
    )
    expr_typed (prefix token p e) k h = (
      is_typed (prefix token p e) k h,
      expr_typed e k.1 (last_none (prefix_faults (place u token) p (shape_of u s e)) _ h),
    )
    expr_typed (sizeof_value word e) k h = is_typed (sizeof_value word e) k h
    expr_typed (sizeof_type word opening ws d closing) k h = is_typed (sizeof_type word opening ws d closing) k h
    expr_typed (extension keyword e) k h = (is_typed (extension keyword e) k h, expr_typed e k.1 h)
    expr_typed (index e opening e2 closing) k h =
        let behind = last_none (index_faults_at u.wide (place u opening) (shape_of u s e) (shape_of u s e2)) _ h in (
          is_typed (index e opening e2 closing) k h,
          (
            expr_typed e k.1.0 (first_none (expr_faults u s e) _ behind),
            expr_typed e2 k.1.1 (last_none (expr_faults u s e) _ behind),
          ),
        )
    expr_typed (call e opening es closing) k h =
        let behind = last_none (call_faults (place u opening) (value (shape_of u s e)) (count es)) _ h in (
          is_typed (call e opening es closing) k h,
          (
            expr_typed e k.1.0 (first_none (expr_faults u s e) _ behind),
            exprs_typed es k.1.1 (last_none (expr_faults u s e) _ behind),
          ),
        )
    expr_typed (dot e token name) k h = (
      is_typed (dot e token name) k h,
      expr_typed e k.1 (last_none (member_faults u s (value (shape_of u s e)) name.token name.name) _ h),
    )
    expr_typed (arrow e token name) k h = (
      is_typed (arrow e token name) k h,
      expr_typed e k.1
          (last_none (member_faults u s (some_target (value (shape_of u s e))) name.token name.name) _
          (last_none (fault_where (is_no_pointer (value (shape_of u s e))) (place u token) not_pointer) _ h)),
    )
    expr_typed (post e token p) k h =
        (is_typed (post e token p) k h, expr_typed e k.1 (last_none _ (expr_faults u s e) h))
    expr_typed (compound opening ws d closing list) k h = (
      is_typed (compound opening ws d closing list) k h,
      (
        k.1.0,
        (
          k.1.1.0,
          list_typed (type_named_at s.type_names (place u (first_word ws))) list k.1.1.1
              (last_none (some_declr_faults u s d) _ (last_none (words_faults u s ws) _ h)),
        ),
      ),
    )
    expr_typed (name_use token name) k h = is_typed (name_use token name) k h
    expr_typed (number_use token) k h = is_typed (number_use token) k h
    expr_typed (char_use token) k h = is_typed (char_use token) k h
    expr_typed (text_use texts) k h = is_typed (text_use texts) k h
    expr_typed (paren opening e closing) k h = (is_typed (paren opening e closing) k h, expr_typed e k.1 h)
    expr_typed (statement_expr opening opening2 items closing closing2) k h =
        (is_typed (statement_expr opening opening2 items closing closing2) k h, block_items_typed items k.1 h)
    expr_typed (va_arg keyword opening e separator ws d closing) k h = (
      is_typed (va_arg keyword opening e separator ws d closing) k h,
      (expr_typed e k.1.0 (first_none (expr_faults u s e) _ h), k.1.1),
    )
    expr_typed (va_start keyword opening e separator e2 closing) k h = (
      is_typed (va_start keyword opening e separator e2 closing) k h,
      (
        expr_typed e k.1.0 (first_none (expr_faults u s e) _ h),
        expr_typed e2 k.1.1 (last_none (expr_faults u s e) _ h),
      ),
    )
    expr_typed (va_copy keyword opening e separator e2 closing) k h = (
      is_typed (va_copy keyword opening e separator e2 closing) k h,
      (
        expr_typed e k.1.0 (first_none (expr_faults u s e) _ h),
        expr_typed e2 k.1.1 (last_none (expr_faults u s e) _ h),
      ),
    )
    expr_typed (offset keyword opening ws d separator name steps closing) k h =
        is_typed (offset keyword opening ws d separator name steps closing) k h
    expr_typed (complex_part keyword e) k h = (is_typed (complex_part keyword e) k h, expr_typed e k.1 h)
    expr_typed (label_use token name) k h = is_typed (label_use token name) k h
    expr_typed (compat keyword opening ws d separator ws2 d2 closing) k h =
        is_typed (compat keyword opening ws d separator ws2 d2 closing) k h
    expr_typed (choose keyword opening e separator e2 separator2 e3 closing) k h =
        let behind = last_none (expr_faults u s e) _ h in (
          is_typed (choose keyword opening e separator e2 separator2 e3 closing) k h,
          (
            expr_typed e2 k.1.0 (first_none (expr_faults u s e2) _ behind),
            expr_typed e3 k.1.1 (last_none (expr_faults u s e2) _ behind),
          ),
        )
    expr_typed (generic keyword opening e xs closing) k h = (
      is_typed (generic keyword opening e xs closing) k h,
      assocs_typed xs k.1 (last_none (expr_faults u s e) _ h),
    )

    assocs_typed : (xs : Assocs) → AssocsHave K U V W xs → assocs_faults u s xs ≡ [] → AssocsHave T U V W xs
    assocs_typed no_assocs k h = tt
    assocs_typed (more_assocs x xs) k h = (
      assoc_typed x k.0 (first_none (assoc_faults u s x) _ h),
      assocs_typed xs k.1 (last_none (assoc_faults u s x) _ h),
    )

    assoc_typed : (x : Assoc) → AssocHas K U V W x → assoc_faults u s x ≡ [] → AssocHas T U V W x
    assoc_typed (typed_assoc ws d colon e) k h = (
      k.0,
      (k.1.0, expr_typed e k.1.1 (last_none (some_declr_faults u s d) _ (last_none (words_faults u s ws) _ h))),
    )
    assoc_typed (default_assoc keyword colon e) k h = expr_typed e k h

    operator_typed : (op : Operator) → OperatorHas K U V W op → middle_faults u s op ≡ [] → OperatorHas T U V W op
    operator_typed comma k h = tt
    operator_typed (assign p) k h = tt
    operator_typed (cond middle colon) k h = some_expr_typed middle k h
    operator_typed (binary p) k h = tt

    some_expr_typed : (e : SomeExpr) → SomeExprHas K U V W e → some_expr_faults u s e ≡ [] → SomeExprHas T U V W e
    some_expr_typed no_expr k h = tt
    some_expr_typed (some_expr e) k h = expr_typed e k h

    exprs_typed : (es : Exprs) → ExprsHave K U V W es → exprs_faults u s es ≡ [] → ExprsHave T U V W es
    exprs_typed no_exprs k h = tt
    exprs_typed (more_exprs e es) k h = (
      expr_typed e k.0 (first_none (expr_faults u s e) _ h),
      exprs_typed es k.1 (last_none (expr_faults u s e) _ h),
    )

    init_typed : (t : Target) (it : Init) → InitHas K U V W it → init_faults u s t it ≡ [] → InitHas T U V W it
    init_typed t (init_value e) k h = expr_typed e k h
    init_typed no_target (init_braced list) k h = untargeted_typed list k h
    init_typed (to t) (init_braced list) k h = list_typed t list k h

    untargeted_typed : (list : InitList) → InitListHas K U V W list → untargeted_faults u s list ≡ [] →
        InitListHas T U V W list
    untargeted_typed (init_list opening items last closing) k h = untargeted_items_typed items k h

    untargeted_items_typed : (items : InitItems) → InitItemsHave K U V W items
        → untargeted_items_faults u s items ≡ [] →
        InitItemsHave T U V W items
    untargeted_items_typed no_init_items k h = tt
    untargeted_items_typed (more_init_items ds equal it items) k h =
        let behind = last_none (indices_faults u s ds) _ h in (
          init_typed no_target it k.0 (first_none (init_faults u s no_target it) _ behind),
          untargeted_items_typed items k.1 (last_none (init_faults u s no_target it) _ behind),
        )

    list_typed : (t : Option CType) (list : InitList) → InitListHas K U V W list → list_faults u s t list ≡ [] →
        InitListHas T U V W list
    list_typed t (init_list opening items last closing) k h = items_typed t true 0 items k h

    items_typed : (t : Option CType) (is_first : Bool) (next : ℕ) (items : InitItems) → InitItemsHave K U V W items →
        items_faults u s t is_first next items ≡ [] → InitItemsHave T U V W items
    items_typed t is_first next no_init_items k h = tt
    items_typed t is_first next (more_init_items ds equal it items) k h =
        let behind = last_none (desigs_faults u s t ds) _ h in
        let target = item_target u s t is_first next ds in (
          init_typed target it k.0 (first_none (init_faults u s target it) _ behind),
          items_typed t false (next_behind u s t ds next) items k.1 (last_none (init_faults u s target it) _ behind),
        )

    some_init_typed : (t : Option CType) (it : SomeInit) → SomeInitHas K U V W it → some_init_faults u s t it ≡ [] →
        SomeInitHas T U V W it
    some_init_typed t no_init k h = tt
    some_init_typed t (some_init equal it) k h = init_typed (to t) it k h

    init_declrs_typed : (ds : InitDeclrs) → InitDeclrsHave K U V W ds → init_declrs_faults u s ds ≡ [] →
        InitDeclrsHave T U V W ds
    init_declrs_typed no_init_declrs k h = tt
    init_declrs_typed (more_init_declrs attrs d asm_label attrs2 it ds) k h =
        let behind = last_none (declr_faults u s d) _ h in
        let type = declared_type u s (declared_name d) in (
          k.0,
          (
            k.1.0,
            (
              some_init_typed type it k.1.1.0 (first_none (some_init_faults u s type it) _ behind),
              init_declrs_typed ds k.1.1.1 (last_none (some_init_faults u s type it) _ behind),
            ),
          ),
        )

    declaration_typed : (d : Declaration) → DeclarationHas K U V W d → declaration_faults u s d ≡ []
        → DeclarationHas T U V W d
    declaration_typed (declaration exts ws ds semi) k h =
        (k.0, init_declrs_typed ds k.1 (last_none (words_faults u s ws) _ h))

    decl_typed : (d : Decl) → DeclHas K U V W d → decl_faults u s d ≡ [] → DeclHas T U V W d
    decl_typed (decl_declaration d) k h = declaration_typed d k h
    decl_typed (decl_assert it) k h = tt

    block_items_typed : (items : BlockItems) → BlockItemsHave K U V W items → block_items_faults u s items ≡ [] →
        BlockItemsHave T U V W items
    block_items_typed no_block_items k h = tt
    block_items_typed (more_block_items item items) k h = (
      block_item_typed item k.0 (first_none (block_item_faults u s item) _ h),
      block_items_typed items k.1 (last_none (block_item_faults u s item) _ h),
    )

    block_item_typed : (item : BlockItem) → BlockItemHas K U V W item → block_item_faults u s item ≡ []
        → BlockItemHas T U V W item
    block_item_typed (block_decl d) k h = decl_typed d k h
    block_item_typed (block_stmt t) k h = stmt_typed t k h
    block_item_typed (block_labels keyword names semi) k h = tt

    stmt_typed : (t : Stmt) → StmtHas K U V W t → stmt_faults u s t ≡ [] → StmtHas T U V W t
    stmt_typed (block opening items closing) k h = block_items_typed items k h
    stmt_typed (expr_stmt e semi) k h = some_expr_typed e k h
    stmt_typed (attr_stmt attrs semi) k h = tt
    stmt_typed (label name colon attrs t) k h = stmt_typed t k h
    stmt_typed (case_stmt keyword e colon t) k h = stmt_typed t k (last_none (expr_faults u s e) _ h)
    stmt_typed (default_stmt keyword colon t) k h = stmt_typed t k h
    stmt_typed (if_stmt keyword opening e closing t other) k h =
        let behind = last_none (expr_faults u s e) _ h in (
          expr_typed e k.0 (first_none (expr_faults u s e) _ h),
          (
            stmt_typed t k.1.0 (first_none (stmt_faults u s t) _ behind),
            some_else_typed other k.1.1 (last_none (stmt_faults u s t) _ behind),
          ),
        )
    stmt_typed (switch_stmt keyword opening e closing t) k h =
        (expr_typed e k.0 (first_none (expr_faults u s e) _ h), stmt_typed t k.1 (last_none (expr_faults u s e) _ h))
    stmt_typed (while_stmt keyword opening e closing t) k h =
        (expr_typed e k.0 (first_none (expr_faults u s e) _ h), stmt_typed t k.1 (last_none (expr_faults u s e) _ h))
    stmt_typed (do_stmt keyword t keyword2 opening e closing semi) k h =
        (stmt_typed t k.0 (first_none (stmt_faults u s t) _ h), expr_typed e k.1 (last_none (stmt_faults u s t) _ h))
    stmt_typed (for_stmt keyword opening start e semi e2 closing t) k h =
        let behind = last_none (for_start_faults u s start) _ h in
        let last = last_none (some_expr_faults u s e) _ behind in (
          for_start_typed start k.0 (first_none (for_start_faults u s start) _ h),
          (
            some_expr_typed e k.1.0 (first_none (some_expr_faults u s e) _ behind),
            (
              some_expr_typed e2 k.1.1.0 (first_none (some_expr_faults u s e2) _ last),
              stmt_typed t k.1.1.1 (last_none (some_expr_faults u s e2) _ last),
            ),
          ),
        )
    stmt_typed (goto_stmt keyword name semi) k h = tt
    stmt_typed (continue_stmt keyword semi) k h = tt
    stmt_typed (break_stmt keyword semi) k h = tt
    stmt_typed (return_stmt keyword e semi) k h = some_expr_typed e k h
    stmt_typed (asm_stmt keyword words group semi) k h = tt
    stmt_typed (case_range keyword e dots e2 colon t) k h =
        stmt_typed t k (last_none (expr_faults u s e2) _ (last_none (expr_faults u s e) _ h))
    stmt_typed (goto_value keyword star e semi) k h = expr_typed e k h

    some_else_typed : (it : SomeElse) → SomeElseHas K U V W it → some_else_faults u s it ≡ [] → SomeElseHas T U V W it
    some_else_typed no_else k h = tt
    some_else_typed (some_else keyword t) k h = stmt_typed t k h

    for_start_typed : (start : ForStart) → ForStartHas K U V W start → for_start_faults u s start ≡ []
        → ForStartHas T U V W start
    for_start_typed (start_declaration d) k h = declaration_typed d k h
    for_start_typed (start_value e semi) k h = some_expr_typed e k h

  declarations_typed : (ds : List Declaration) → DeclarationsHave K U V W ds → declarations_faults u s ds ≡ [] →
      DeclarationsHave T U V W ds
  declarations_typed [] k h = tt
  declarations_typed (d ∷ ds) k h = (
    declaration_typed d k.0 (first_none (declaration_faults u s d) _ h),
    declarations_typed ds k.1 (last_none (declaration_faults u s d) _ h),
  )

  old_typed : (ds : List Declaration) (d : Declr) → OldDeclrHas K U V W ds d → old_declr_faults u s ds d ≡ [] →
      OldDeclrHas T U V W ds d
  old_typed ds (identifiers d opening names closing) k h =
      (k.0, declarations_typed ds k.1 (last_none (declr_faults u s d) _ h))
  old_typed ds (pointer star words d) k h = old_typed ds d k h
  old_typed ds (declr_paren opening attrs d closing) k h = old_typed ds d k h
  old_typed ds (array d opening words size closing) k h = old_typed ds d k (first_none (old_declr_faults u s ds d) _ h)
  old_typed ds (params d opening ps dots closing) k h =
      (old_typed ds d k.0 (first_none (old_declr_faults u s ds d) _ h), k.1)
  old_typed ds (declr_name token name) k h = k
  old_typed ds (base_name token) k h = k
  old_typed ds (abs_pointer star words d) k h = k
  old_typed ds (abs_paren opening attrs d closing) k h = k
  old_typed ds (abs_array d opening words size closing) k h = k
  old_typed ds (abs_params d opening ps dots closing) k h = k

  pub item_typed : (item : Item) → ItemHas K U V W item → item_faults u s item ≡ [] → ItemHas T U V W item
  item_typed (function_item exts ws d attrs opening items closing) k h = (
    k.0,
    (
      k.1.0,
      (
        k.1.1.0,
        (
          k.1.1.1.0,
          block_items_typed items k.1.1.1.1 (last_none (declr_faults u s d) _ (last_none (words_faults u s ws) _ h)),
        ),
      ),
    ),
  )
  item_typed (old_function_item exts ws d attrs ds opening items closing) k h =
      let behind = last_none (words_faults u s ws) _ h in (
        k.0,
        (
          k.1.0,
          (
            k.1.1.0,
            (
              old_typed ds d k.1.1.1.0 (first_none (old_declr_faults u s ds d) _ behind),
              block_items_typed items k.1.1.1.1 (last_none (old_declr_faults u s ds d) _ behind),
            ),
          ),
        ),
      )
  item_typed (decl_item d) k h = decl_typed d k h
  item_typed (asm_item keyword group semi) k h = tt
  item_typed (semi_item semi) k h = tt

  pub items_typed_of : (items : List Item) → ItemsHave K U V W items → items_faults_of u s items ≡ []
      → ItemsHave T U V W items
  items_typed_of [] k h = tt
  items_typed_of (item ∷ items) k h = (
    item_typed item k.0 (first_none (item_faults u s item) _ h),
    items_typed_of items k.1 (last_none (item_faults u s item) _ h),
  )
