-- Each expression of an item has its skeleton, where each has a type.
use Rattle.std.proofs.Common.{◌≡◌, ℕ, List, [], ◌∷◌, Option, None, Some, subst}
use Rattle.c_tree.specs.Tree.{Expr, operation, cast, prefix, sizeof_value, sizeof_type, extension, index, call, dot, arrow, post, compound, name_use, number_use, char_use, text_use, paren, statement_expr, va_arg, va_start, va_copy, offset, comma, assign, cond, binary, SomeExpr, no_expr, some_expr, Exprs, no_exprs, more_exprs, Init, init_value, init_braced, InitList, init_list, InitItems, no_init_items, more_init_items, SomeInit, no_init, some_init, InitDeclrs, no_init_declrs, more_init_declrs, Declaration, declaration, Decl, decl_declaration, decl_assert, BlockItems, no_block_items, more_block_items, BlockItem, block_decl, block_stmt, Stmt, block, expr_stmt, attr_stmt, label, case_stmt, default_stmt, if_stmt, switch_stmt, while_stmt, do_stmt, for_stmt, goto_stmt, continue_stmt, break_stmt, return_stmt, asm_stmt, SomeElse, no_else, some_else, ForStart, start_declaration, start_value, complex_part, label_use, compat, choose, generic, typeof_value, typeof_type, align, auto_word, range_desig, old_desig, case_range, goto_value, block_labels, identifiers, base_name, Assocs, no_assocs, more_assocs, Assoc, typed_assoc, default_assoc, Declr, declr_name, declr_paren, array, params, abs_pointer, abs_paren, abs_array, abs_params}
use Rattle.c_tree.specs.Tree as trees
use Rattle.c_tree.specs.Unit.{Item, function_item, old_function_item, decl_item, asm_item, semi_item}
use Rattle.type_table.specs.Types.{CType}
use Rattle.name_rules.specs.Spellings.{Place}
use Rattle.type_rules.specs.Tokens.{declared_name}
use Rattle.type_rules.specs.Shapes.{shape_of}
use Rattle.row_rules.specs.Annotations.{has_access}
use Rattle.row_rules.specs.Starting.{quiet, Around, declared_function, of_function, with_skeleton, without_skeleton}
use Rattle.row_rules.specs.Worlds.{World}
use Rattle.constraint_rules.specs.Starts.{assoc_starts, assocs_starts, old_declaration_starts, old_declarations_starts, old_declr_starts, old_declrs_starts, expr_starts, some_expr_starts, exprs_starts, words_starts, declr_starts, some_declr_starts, init_starts, init_list_starts, init_items_starts, desigs_starts, some_init_starts, init_declrs_starts, declaration_starts, decl_starts, block_items_starts, block_item_starts, stmt_starts, some_else_starts, for_start_starts, item_starts, items_starts}
use Rattle.constraint_rules.specs.Values.{val}
use Rattle.missing_laws.specs.Everywhere.{AssocsHave, AssocHas, DeclarationsHave, OldDeclrHas, ExprHas, SomeExprHas, ExprsHave, InitHas, InitListHas, InitItemsHave, SomeInitHas, InitDeclrsHave, DeclarationHas, DeclHas, BlockItemsHave, BlockItemHas, StmtHas, SomeElseHas, ForStartHas, ItemHas, ItemsHave}
use Rattle.missing_laws.specs.Finding.{AreFound, FirstIsMet, HasType, HasItsSkeleton, IsSettled, MembersBegin, RoleHasSkeleton, TokenBegins, loud, of_type}
use Rattle.missing_laws.specs.Laws.{HasOne}
use Rattle.missing_laws.proofs.Found.{front, back}
use Rattle.missing_laws.proofs.Values.{agrees}
use Rattle.missing_laws.proofs.Items.{more_none}

-- an expression of a type has the skeleton of this type, where the names in it are settled and what begins is found
pub has_its : (w : World) (U V W : ℕ → Type 0) (f : Option Place) (e : Expr) (t : CType) → MembersBegin w →
    ExprHas (IsSettled w) U V W e → AreFound w (expr_starts (loud w f) e) →
    (shape_of w.spelling w.names e).type ≡ Some t → HasItsSkeleton w e t
has_its w U V W f e t members s h is =
    let one = agrees w U V W f members e s h t is in (
      one.0,
      subst (λ (it : World). val it e ≡ of_type (shape_of w.spelling w.names e) t one.0) (more_none w)
          (one.1 ([], [], w.own)),
    )

module _ (w : World) (members : MembersBegin w) where
  abbrev U : ℕ → Type 0
  U token = TokenBegins w token

  abbrev V : ℕ → Type 0
  V token = FirstIsMet w token

  abbrev W : ℕ → Type 0
  W token = RoleHasSkeleton w token

  abbrev S : Expr → Type 0
  S e = IsSettled w e

  abbrev T : Expr → Type 0
  T e = HasType w e

  abbrev H : Expr → Type 0
  H e = HasOne w e

  module _ (f : Option Place) where
    abbrev b : Around
    b = loud w f

    it_has : (e : Expr) → T e → ExprHas S U V W e → AreFound w (expr_starts b e) → H e
    it_has e t s h = (t.0, t.1, has_its w U V W f e t.0 members s h t.1)

    mutual
      pub expr_has : (e : Expr) → ExprHas S U V W e → ExprHas T U V W e → AreFound w (expr_starts b e)
          → ExprHas H U V W e
      expr_has (operation e comma token e2) s t h = (
        it_has (operation e comma token e2) t.0 s h,
        (
          expr_has e s.1.0 t.1.0 (front w (expr_starts b e) _ h),
          (tt, expr_has e2 s.1.1.1 t.1.1.1 (back w (expr_starts b e) _ h)),
        ),
      )
      expr_has (operation e (assign p) token e2) s t h = (
        it_has (operation e (assign p) token e2) t.0 s h,
        (
          expr_has e s.1.0 t.1.0 (front w (expr_starts b e) _ h),
          (tt, expr_has e2 s.1.1.1 t.1.1.1 (back w (expr_starts b e) _ h)),
        ),
      )
      expr_has (operation e (cond no_expr colon) token e2) s t h =
          let behind = back w (expr_starts b e) _ h in (
            it_has (operation e (cond no_expr colon) token e2) t.0 s h,
            (
              expr_has e s.1.0 t.1.0 (front w (expr_starts b e) _ h),
              (tt, expr_has e2 s.1.1.1 t.1.1.1 (front w (expr_starts b e2) _ behind)),
            ),
          )
      expr_has (operation e (cond (some_expr m) colon) token e2) s t h =
          let behind = back w (expr_starts b e) _ h in
          let last = back w (expr_starts b m) _ behind in (
            it_has (operation e (cond (some_expr m) colon) token e2) t.0 s h,
            (
              expr_has e s.1.0 t.1.0 (front w (expr_starts b e) _ h),
              (
                expr_has m s.1.1.0 t.1.1.0 (front w (expr_starts b m) _ behind),
                expr_has e2 s.1.1.1 t.1.1.1 (front w (expr_starts b e2) _ last),
              ),
            ),
          )
      expr_has (operation e (binary p) token e2) s t h =
          let behind = back w (expr_starts b e) _ h in (
            it_has (operation e (binary p) token e2) t.0 s h,
            (
              expr_has e s.1.0 t.1.0 (front w (expr_starts b e) _ h),
              (tt, expr_has e2 s.1.1.1 t.1.1.1 (front w (expr_starts b e2) _ behind)),
            ),
          )
      expr_has (cast opening ws d closing e) s t h =
          let he = back w (some_declr_starts b with_skeleton d) _ (back w (words_starts b ws) _ h) in (
            it_has (cast opening ws d closing e) t.0 s h,
            (
              s.1.0,
              (
                s.1.1.0,
                expr_has e s.1.1.1 t.1.1.1 (front w (expr_starts b e) _ he),
              ),
            ),
          )
      expr_has (prefix token p e) s t h =
          (it_has (prefix token p e) t.0 s h, expr_has e s.1 t.1 (front w (expr_starts b e) _ h))
      expr_has (sizeof_value word e) s t h = it_has (sizeof_value word e) t s h
      expr_has (sizeof_type word opening ws d closing) s t h = it_has (sizeof_type word opening ws d closing) t s h
      expr_has (extension keyword e) s t h = (it_has (extension keyword e) t.0 s h, expr_has e s.1 t.1 h)
      expr_has (index e opening e2 closing) s t h = (
        it_has (index e opening e2 closing) t.0 s h,
        (
          expr_has e s.1.0 t.1.0 (front w (expr_starts b e) _ h),
          expr_has e2 s.1.1 t.1.1 (back w (expr_starts b e) _ h),
        ),
      )
      expr_has (call e opening es closing) s t h = (
        it_has (call e opening es closing) t.0 s h,
        (
          expr_has e s.1.0 t.1.0 (front w (expr_starts b e) _ h),
          exprs_have es s.1.1 t.1.1 (back w (expr_starts b e) _ h),
        ),
      )
      expr_has (dot e token name) s t h = (it_has (dot e token name) t.0 s h, expr_has e s.1 t.1 h)
      expr_has (arrow e token name) s t h = (it_has (arrow e token name) t.0 s h, expr_has e s.1 t.1 h)
      expr_has (post e token p) s t h = (it_has (post e token p) t.0 s h, expr_has e s.1 t.1 h)
      expr_has (compound opening ws d closing list) s t h =
          let hl = back w (some_declr_starts b with_skeleton d) _ (back w (words_starts b ws) _ h) in (
            it_has (compound opening ws d closing list) t.0 s h,
            (
              s.1.0,
              (
                s.1.1.0,
                list_has list s.1.1.1 t.1.1.1 (front w (init_list_starts b list) _ hl),
              ),
            ),
          )
      expr_has (name_use token name) s t h = it_has (name_use token name) t s h
      expr_has (number_use token) s t h = it_has (number_use token) t s h
      expr_has (char_use token) s t h = it_has (char_use token) t s h
      expr_has (text_use texts) s t h = it_has (text_use texts) t s h
      expr_has (paren opening e closing) s t h = (it_has (paren opening e closing) t.0 s h, expr_has e s.1 t.1 h)
      expr_has (statement_expr opening opening2 items closing closing2) s t h = (
        it_has (statement_expr opening opening2 items closing closing2) t.0 s h,
        block_items_have items s.1 t.1 (front w (block_items_starts b items) _ h),
      )
      expr_has (va_arg keyword opening e separator ws d closing) s t h = (
        it_has (va_arg keyword opening e separator ws d closing) t.0 s h,
        (expr_has e s.1.0 t.1.0 (front w (expr_starts b e) _ h), s.1.1),
      )
      expr_has (va_start keyword opening e separator e2 closing) s t h = (
        it_has (va_start keyword opening e separator e2 closing) t.0 s h,
        (
          expr_has e s.1.0 t.1.0 (front w (expr_starts b e) _ h),
          expr_has e2 s.1.1 t.1.1 (front w (expr_starts b e2) _ (back w (expr_starts b e) _ h)),
        ),
      )
      expr_has (va_copy keyword opening e separator e2 closing) s t h = (
        it_has (va_copy keyword opening e separator e2 closing) t.0 s h,
        (
          expr_has e s.1.0 t.1.0 (front w (expr_starts b e) _ h),
          expr_has e2 s.1.1 t.1.1 (front w (expr_starts b e2) _ (back w (expr_starts b e) _ h)),
        ),
      )
      expr_has (offset keyword opening ws d separator name steps closing) s t h =
          it_has (offset keyword opening ws d separator name steps closing) t s h
      expr_has (complex_part keyword e) s t h = (it_has (complex_part keyword e) t.0 s h, expr_has e s.1 t.1 h)
      expr_has (label_use token name) s t h = it_has (label_use token name) t s h
      expr_has (compat keyword opening ws d separator ws2 d2 closing) s t h =
          it_has (compat keyword opening ws d separator ws2 d2 closing) t s h
      expr_has (choose keyword opening e separator e2 separator2 e3 closing) s t h =
          let behind = back w (expr_starts (quiet b) e) _ h in (
            it_has (choose keyword opening e separator e2 separator2 e3 closing) t.0 s h,
            (
              expr_has e2 s.1.0 t.1.0 (front w (expr_starts b e2) _ behind),
              expr_has e3 s.1.1 t.1.1 (front w (expr_starts b e3) _ (back w (expr_starts b e2) _ behind)),
            ),
          )
      expr_has (generic keyword opening e xs closing) s t h = (
        it_has (generic keyword opening e xs closing) t.0 s h,
        assocs_have xs s.1 t.1 (front w (assocs_starts b xs) _ (back w (expr_starts (quiet b) e) _ h)),
      )

      assocs_have : (xs : Assocs) → AssocsHave S U V W xs → AssocsHave T U V W xs → AreFound w (assocs_starts b xs) →
          AssocsHave H U V W xs
      assocs_have no_assocs s t h = tt
      assocs_have (more_assocs x xs) s t h = (
        assoc_has x s.0 t.0 (front w (assoc_starts b x) _ h),
        assocs_have xs s.1 t.1 (back w (assoc_starts b x) _ h),
      )

      assoc_has : (x : Assoc) → AssocHas S U V W x → AssocHas T U V W x → AreFound w (assoc_starts b x)
          → AssocHas H U V W x
      assoc_has (typed_assoc ws d colon e) s t h = (
        s.0,
        (
          s.1.0,
          expr_has e s.1.1 t.1.1 (back w (some_declr_starts b with_skeleton d) _ (back w (words_starts b ws) _ h)),
        ),
      )
      assoc_has (default_assoc keyword colon e) s t h = expr_has e s t h

      some_expr_has : (e : SomeExpr) → SomeExprHas S U V W e → SomeExprHas T U V W e
          → AreFound w (some_expr_starts b e) →
          SomeExprHas H U V W e
      some_expr_has no_expr s t h = tt
      some_expr_has (some_expr e) s t h = expr_has e s t h

      exprs_have : (es : Exprs) → ExprsHave S U V W es → ExprsHave T U V W es → AreFound w (exprs_starts b es)
          → ExprsHave H U V W es
      exprs_have no_exprs s t h = tt
      exprs_have (more_exprs e es) s t h = (
        expr_has e s.0 t.0 (front w (expr_starts b e) _ h),
        exprs_have es s.1 t.1 (back w (expr_starts b e) _ h),
      )

      init_has : (it : Init) → InitHas S U V W it → InitHas T U V W it → AreFound w (init_starts b it)
          → InitHas H U V W it
      init_has (init_value e) s t h = expr_has e s t h
      init_has (init_braced list) s t h = list_has list s t h

      list_has : (list : InitList) → InitListHas S U V W list → InitListHas T U V W list
          → AreFound w (init_list_starts b list) →
          InitListHas H U V W list
      list_has (init_list opening items last closing) s t h = init_items_have items s t h

      init_items_have : (items : InitItems) → InitItemsHave S U V W items → InitItemsHave T U V W items →
          AreFound w (init_items_starts b items) → InitItemsHave H U V W items
      init_items_have no_init_items s t h = tt
      init_items_have (more_init_items ds equal it items) s t h =
          let behind = back w (desigs_starts b ds) _ h in (
            init_has it s.0 t.0 (front w (init_starts b it) _ behind),
            init_items_have items s.1 t.1 (back w (init_starts b it) _ behind),
          )

      some_init_has : (it : SomeInit) → SomeInitHas S U V W it → SomeInitHas T U V W it
          → AreFound w (some_init_starts b it) →
          SomeInitHas H U V W it
      some_init_has no_init s t h = tt
      some_init_has (some_init equal it) s t h = init_has it s t h

      init_declrs_have : (ds : InitDeclrs) → InitDeclrsHave S U V W ds → InitDeclrsHave T U V W ds →
          AreFound w (init_declrs_starts b ds) → InitDeclrsHave H U V W ds
      init_declrs_have no_init_declrs s t h = tt
      init_declrs_have (more_init_declrs attrs d asm_label attrs2 it ds) s t h =
          let behind = back w (declr_starts b with_skeleton without_skeleton d) _ h in (
            s.0,
            (
              s.1.0,
              (
                some_init_has it s.1.1.0 t.1.1.0 (front w (some_init_starts b it) _ behind),
                init_declrs_have ds s.1.1.1 t.1.1.1 (back w (some_init_starts b it) _ behind),
              ),
            ),
          )

      declaration_has : (d : Declaration) → DeclarationHas S U V W d → DeclarationHas T U V W d →
          AreFound w (declaration_starts b d) → DeclarationHas H U V W d
      declaration_has (declaration exts ws ds semi) s t h =
          (s.0, init_declrs_have ds s.1 t.1 (back w (words_starts b ws) _ h))

      pub decl_has : (d : Decl) → DeclHas S U V W d → DeclHas T U V W d → AreFound w (decl_starts b d)
          → DeclHas H U V W d
      decl_has (decl_declaration d) s t h = declaration_has d s t h
      decl_has (decl_assert it) s t h = tt

      pub block_items_have : (items : BlockItems) → BlockItemsHave S U V W items → BlockItemsHave T U V W items →
          AreFound w (block_items_starts b items) → BlockItemsHave H U V W items
      block_items_have no_block_items s t h = tt
      block_items_have (more_block_items item items) s t h = (
        block_item_has item s.0 t.0 (front w (block_item_starts b item) _ h),
        block_items_have items s.1 t.1 (back w (block_item_starts b item) _ h),
      )

      block_item_has : (item : BlockItem) → BlockItemHas S U V W item → BlockItemHas T U V W item →
          AreFound w (block_item_starts b item) → BlockItemHas H U V W item
      block_item_has (block_decl d) s t h = decl_has d s t h
      block_item_has (block_stmt it) s t h = stmt_has it s t h
      block_item_has (block_labels keyword names semi) s t h = tt

      stmt_has : (it : Stmt) → StmtHas S U V W it → StmtHas T U V W it → AreFound w (stmt_starts b it)
          → StmtHas H U V W it
      stmt_has (block opening items closing) s t h = block_items_have items s t h
      stmt_has (expr_stmt e semi) s t h = some_expr_has e s t h
      stmt_has (attr_stmt attrs semi) s t h = tt
      stmt_has (label name colon attrs it) s t h = stmt_has it s t h
      stmt_has (case_stmt keyword e colon it) s t h = stmt_has it s t (back w (expr_starts _ e) _ h)
      stmt_has (default_stmt keyword colon it) s t h = stmt_has it s t h
      stmt_has (if_stmt keyword opening e closing it other) s t h =
          let behind = back w (expr_starts b e) _ h in (
            expr_has e s.0 t.0 (front w (expr_starts b e) _ h),
            (
              stmt_has it s.1.0 t.1.0 (front w (stmt_starts b it) _ behind),
              some_else_has other s.1.1 t.1.1 (back w (stmt_starts b it) _ behind),
            ),
          )
      stmt_has (switch_stmt keyword opening e closing it) s t h = (
        expr_has e s.0 t.0 (front w (expr_starts b e) _ h),
        stmt_has it s.1 t.1 (back w (expr_starts b e) _ h),
      )
      stmt_has (while_stmt keyword opening e closing it) s t h = (
        expr_has e s.0 t.0 (front w (expr_starts b e) _ h),
        stmt_has it s.1 t.1 (back w (expr_starts b e) _ h),
      )
      stmt_has (do_stmt keyword it keyword2 opening e closing semi) s t h =
          (stmt_has it s.0 t.0 (front w (stmt_starts b it) _ h), expr_has e s.1 t.1 (back w (stmt_starts b it) _ h))
      stmt_has (for_stmt keyword opening start e semi e2 closing it) s t h =
          let behind = back w (for_start_starts b start) _ h in
          let last = back w (some_expr_starts b e) _ behind in (
            for_start_has start s.0 t.0 (front w (for_start_starts b start) _ h),
            (
              some_expr_has e s.1.0 t.1.0 (front w (some_expr_starts b e) _ behind),
              (
                some_expr_has e2 s.1.1.0 t.1.1.0 (front w (some_expr_starts b e2) _ last),
                stmt_has it s.1.1.1 t.1.1.1 (back w (some_expr_starts b e2) _ last),
              ),
            ),
          )
      stmt_has (goto_stmt keyword name semi) s t h = tt
      stmt_has (continue_stmt keyword semi) s t h = tt
      stmt_has (break_stmt keyword semi) s t h = tt
      stmt_has (return_stmt keyword e semi) s t h = some_expr_has e s t h
      stmt_has (asm_stmt keyword words group semi) s t h = tt
      stmt_has (case_range keyword e dots e2 colon it) s t h =
          stmt_has it s t (back w (expr_starts _ e2) _ (back w (expr_starts _ e) _ h))
      stmt_has (goto_value keyword star e semi) s t h = expr_has e s t h

      some_else_has : (it : SomeElse) → SomeElseHas S U V W it → SomeElseHas T U V W it
          → AreFound w (some_else_starts b it) →
          SomeElseHas H U V W it
      some_else_has no_else s t h = tt
      some_else_has (some_else keyword it) s t h = stmt_has it s t h

      for_start_has : (start : ForStart) → ForStartHas S U V W start → ForStartHas T U V W start →
          AreFound w (for_start_starts b start) → ForStartHas H U V W start
      for_start_has (start_declaration d) s t h = declaration_has d s t h
      for_start_has (start_value e semi) s t h = some_expr_has e s t h

    -- the declarations behind a list of identifiers
    old_declrs_have : (g : Option Place) (ds : InitDeclrs) → InitDeclrsHave S U V W ds → InitDeclrsHave T U V W ds →
        AreFound w (old_declrs_starts b (of_function g) ds) → InitDeclrsHave H U V W ds
    old_declrs_have g no_init_declrs s t h = tt
    old_declrs_have g (more_init_declrs attrs d asm_label attrs2 it ds) s t h =
        let behind = back w (declr_starts b (of_function g) without_skeleton d) _ h in (
          s.0,
          (
            s.1.0,
            (
              some_init_has it s.1.1.0 t.1.1.0 (front w (some_init_starts b it) _ behind),
              old_declrs_have g ds s.1.1.1 t.1.1.1 (back w (some_init_starts b it) _ behind),
            ),
          ),
        )

    old_declaration_has : (g : Option Place) (d : Declaration) → DeclarationHas S U V W d → DeclarationHas T U V W d →
        AreFound w (old_declaration_starts b (of_function g) d) → DeclarationHas H U V W d
    old_declaration_has g (declaration exts ws ds semi) s t h =
        (s.0, old_declrs_have g ds s.1 t.1 (back w (words_starts b ws) _ h))

    old_declarations_have : (g : Option Place) (ds : List Declaration) → DeclarationsHave S U V W ds →
        DeclarationsHave T U V W ds → AreFound w (old_declarations_starts b (of_function g) ds)
        → DeclarationsHave H U V W ds
    old_declarations_have g [] s t h = tt
    old_declarations_have g (d ∷ ds) s t h = (
      old_declaration_has g d s.0 t.0 (front w (old_declaration_starts b (of_function g) d) _ h),
      old_declarations_have g ds s.1 t.1 (back w (old_declaration_starts b (of_function g) d) _ h),
    )

    old_has : (g : Option Place) (ds : List Declaration) (d : Declr) → OldDeclrHas S U V W ds d
        → OldDeclrHas T U V W ds d →
        AreFound w (old_declr_starts b (of_function g) ds d) → OldDeclrHas H U V W ds d
    old_has g ds (identifiers d opening names closing) s t h =
        (s.0, old_declarations_have g ds s.1 t.1 (back w (declr_starts b with_skeleton without_skeleton d) _ h))
    old_has g ds (trees.pointer star words d) s t h = old_has g ds d s t h
    old_has g ds (declr_paren opening attrs d closing) s t h = old_has g ds d s t h
    old_has g ds (array d opening words size closing) s t h =
        old_has g ds d s t (front w (old_declr_starts b (of_function g) ds d) _ h)
    old_has g ds (params d opening ps dots closing) s t h =
        (old_has g ds d s.0 t.0 (front w (old_declr_starts b (of_function g) ds d) _ h), s.1)
    old_has g ds (declr_name token name) s t h = s
    old_has g ds (base_name token) s t h = s
    old_has g ds (abs_pointer star words d) s t h = s
    old_has g ds (abs_paren opening attrs d closing) s t h = s
    old_has g ds (abs_array d opening words size closing) s t h = s
    old_has g ds (abs_params d opening ps dots closing) s t h = s

  item_has : (item : Item) → ItemHas S U V W item → ItemHas T U V W item
      → AreFound w (item_starts (has_access w.lattices) w.spelling w.names item) →
      ItemHas H U V W item
  item_has (function_item exts ws d attrs opening items closing) s t h =
      let f = declared_function w.spelling w.names (declared_name d) in
      let hd = back w (words_starts (loud w None) ws) _ h in (
        s.0,
        (
          s.1.0,
          (
            s.1.1.0,
            (
              s.1.1.1.0,
              block_items_have f items s.1.1.1.1 t.1.1.1.1
                  (back w (declr_starts (loud w None) with_skeleton (of_function f) d) _ hd),
            ),
          ),
        ),
      )
  item_has (old_function_item exts ws d attrs ds opening items closing) s t h =
      let f = declared_function w.spelling w.names (declared_name d) in
      let hd = back w (words_starts (loud w None) ws) _ h in (
        s.0,
        (
          s.1.0,
          (
            s.1.1.0,
            (
              old_has None f ds d s.1.1.1.0 t.1.1.1.0
                  (front w (old_declr_starts (loud w None) (of_function f) ds d) _ hd),
              block_items_have f items s.1.1.1.1 t.1.1.1.1
                  (back w (old_declr_starts (loud w None) (of_function f) ds d) _ hd),
            ),
          ),
        ),
      )
  item_has (decl_item d) s t h = decl_has None d s t h
  item_has (asm_item keyword group semi) s t h = tt
  item_has (semi_item semi) s t h = tt

  pub items_have : (items : List Item) → ItemsHave S U V W items → ItemsHave T U V W items →
      AreFound w (items_starts (has_access w.lattices) w.spelling w.names items) → ItemsHave H U V W items
  items_have [] s t h = tt
  items_have (item ∷ items) s t h = (
    item_has item s.0 t.0 (front w (item_starts (has_access w.lattices) w.spelling w.names item) _ h),
    items_have items s.1 t.1 (back w (item_starts (has_access w.lattices) w.spelling w.names item) _ h),
  )
