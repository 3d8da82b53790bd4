-- The constraints of each form are the same whatever stands behind the skeletons and call sites of a world.
use Rattle.std.proofs.Common.{◌≡◌, ℕ, suc, Bool, true, false, List, [], ◌∷◌, Option, None, Some, refl, subst, sym, ap, ◌∙◌}
use Rattle.std.specs.Prelude.{◌&&◌, nat_lt, if◌then◌else◌}
use Rattle.qual_base.specs.declared.places.Span.{Span}
use Rattle.c_words.specs.declared.kinds.Punct.{Punct}
use Rattle.c_words.specs.declared.kinds.Punct.TheVariants as signs
use Rattle.c_tree.specs.Tree.{SpecWords, Expr, operation, cast, prefix, sizeof_value, sizeof_type, extension, index, call, dot, arrow, post, compound, name_use, number_use, char_use, text_use, paren, statement_expr, va_arg, va_start, va_copy, offset, comma, assign, cond, binary, SomeExpr, no_expr, some_expr, Exprs, no_exprs, more_exprs, Init, init_value, init_braced, InitList, init_list, InitItems, no_init_items, more_init_items, SomeInit, no_init, some_init, InitDeclrs, no_init_declrs, more_init_declrs, Declaration, declaration, Decl, decl_declaration, decl_assert, BlockItems, no_block_items, more_block_items, BlockItem, block_decl, block_stmt, Stmt, block, expr_stmt, attr_stmt, label, case_stmt, default_stmt, if_stmt, switch_stmt, while_stmt, do_stmt, for_stmt, goto_stmt, continue_stmt, break_stmt, return_stmt, asm_stmt, SomeElse, no_else, some_else, ForStart, start_declaration, start_value, SomeDeclr, complex_part, label_use, compat, choose, generic, typeof_value, typeof_type, align, auto_word, range_desig, old_desig, case_range, goto_value, block_labels, identifiers, base_name, Assocs, no_assocs, more_assocs, Assoc, typed_assoc, default_assoc, Declr, declr_name, declr_paren, array, params, abs_pointer, abs_paren, abs_array, abs_params}
use Rattle.c_tree.specs.Tree as trees
use Rattle.c_tree.specs.Addresses.{comes_by_pointer}
use Rattle.c_tree.specs.Ends.{first_token, last_token, first_text}
use Rattle.type_table.specs.Types.{CType, base, void, pointer}
use Rattle.qual_types.specs.Skel.{Skel, root, param_at}
use Rattle.name_rules.specs.Spellings.{Place, Named}
use Rattle.name_rules.specs.Scopes.{Role, typedef_role, object_role, function_role, parameter_role, field_role, enumerator_role, Declared, declared_at}
use Rattle.name_rules.specs.Values.{Association, Candidate, has_of_type, is_fresh_pick, left_of, pick_shape, selected, selected_shape}
use Rattle.name_rules.specs.Values as shapes
use Rattle.name_rules.specs.Uses.{text_type, use_at}
use Rattle.type_rules.specs.Shapes.{associations_of, is_zero, shape_of}
use Rattle.type_rules.specs.Tokens.{declared_name, some_declared_name}
use Rattle.row_rules.specs.Annotations.{has_access, write_bounds, further, parameters}
use Rattle.row_rules.specs.Starting.{of_function, quiet, selected_by, Around, is_some_pointer, with_skeleton, without_skeleton}
use Rattle.row_rules.specs.Rows.{RowKind, no_row, row_of_param, identified_by, identified_kind, index_demand, numbered_row, picked, initialised, returned, assigned, dereferenced, flowing, passed, row_of_name, started, taken}
use Rattle.row_rules.specs.Vals.{Val, contents, is_ref, own, value}
use Rattle.row_rules.specs.Vals as vals
use Rattle.row_rules.specs.Worlds.{World, all_lattices, at, span}
use Rattle.constraint_rules.specs.Starts.{assoc_starts, assocs_starts, old_declaration_starts, old_declarations_starts, old_declr_starts, old_declrs_starts, pick_starts, expr_starts, words_starts, some_declr_starts, exprs_starts, init_starts, init_list_starts, init_items_starts, desigs_starts, block_items_starts, some_expr_starts, some_init_starts, init_declrs_starts, declaration_starts, decl_starts, block_item_starts, stmt_starts, some_else_starts, for_start_starts, declr_starts, some_declr_starts}
use Rattle.constraint_rules.specs.Values.{pointer_to, val}
use Rattle.constraint_rules.specs.Values as skels
use Rattle.constraint_rules.specs.Demands.{assoc_demand, assocs_demand, declr_demand, demand_in, old_declarations_demand, old_declr_demand, old_declrs_demand, some_declr_demand, arguments, exprs_demand, init_demand, init_items_demand, init_list_demand, item_skel, items_rule, list_rule, next_behind, rule, some_expr_demand, type_of_name, words_demand, some_init_demand, init_declrs_demand, declaration_demand, decl_demand, block_items_demand, block_item_demand, stmt_demand, some_else_demand, for_start_demand}
use Rattle.first_laws.specs.Firsts.{has_skeleton}
use Rattle.missing_laws.specs.Everywhere.{AssocsHave, AssocHas, DeclrHas, DeclarationsHave, OldDeclrHas, NamedHas, WordsHave, SomeDeclrHas, ExprHas, ExprsHave, SomeExprHas, InitHas, InitListHas, InitItemsHave, SomeInitHas, InitDeclrsHave, DeclarationHas, DeclHas, BlockItemsHave, BlockItemHas, StmtHas, SomeElseHas, ForStartHas}
use Rattle.missing_laws.specs.Finding.{AreFound, HasType, FirstIsMet, IsSettled, LinksAreMet, MembersBegin, RoleHasSkeleton, TokenBegins, loud}
use Rattle.missing_laws.proofs.Found.{Further, world, front, back}
use Rattle.missing_laws.proofs.Marks.{ap2, joined}
use Rattle.missing_laws.proofs.Rows.{chosen_same}
use Rattle.missing_laws.proofs.Types.{Is}
use Rattle.missing_laws.proofs.Picks.{AreOf, as_many, left_are, selected_is}
use Rattle.missing_laws.proofs.Values.{agrees, assocs_agree, flags_from, two, two_are}
use Rattle.missing_laws.proofs.Declaring.{RowFits, RowMet, params_is, declr_is, some_declr_is, words_is}
use Rattle.missing_laws.proofs.Parts.{addressed_is, picked_is, v_is, x_is, ref_is, own_is_same, some_own_is, place_own_is, there, formed_is, computed_is, cast_is, prefixed_is, here_is, placing_is, typing_is, use_is, item_is, behind_is, initialised_is, name_found}

module _ (w : World) (members : MembersBegin w) (links : LinksAreMet w) (k l : Further) (same_own : k.2 ≡ l.2)
    (f : Option Place) where
  abbrev u : World
  u = world w k

  abbrev v : World
  v = world w l

  abbrev b : Around
  b = loud w f

  abbrev U : ℕ → Type 0
  U token = TokenBegins w token

  abbrev pub V : ℕ → Type 0
  V token = FirstIsMet w token

  abbrev pub W : ℕ → Type 0
  W token = RoleHasSkeleton w token

  abbrev pub Fits : Expr → Type 0
  Fits e = IsSettled w e

  abbrev pub Typed : Expr → Type 0
  Typed e = HasType w e

  specs_is : (ws : SpecWords) → WordsHave U V W ws → AreFound w (words_starts b ws)
      → words_demand u ws ≡ words_demand v ws
  specs_is ws h found = words_is w members links k l false f ws h found

  type_is : (d : SomeDeclr) → some_declared_name d ≡ None → SomeDeclrHas U V W d
      → AreFound w (some_declr_starts b with_skeleton d) →
      some_declr_demand u row_of_name d ≡ some_declr_demand v row_of_name d
  type_is d none h found = some_declr_is w members links k l false f row_of_name with_skeleton d tt
      (subst (λ (it : Option Named). NamedHas V it) (sym none) tt) h found

  passed_is : (z : Bool) (x y c d : Skel) (i : ℕ) (where_ : Span) → x ≡ y → c ≡ d →
      passed u z x (param_at (parameters c) i) (further c) where_
      ≡ passed v z y (param_at (parameters d) i) (further d) where_
  passed_is z x y c d i where_ p q =
      ap2 (λ (m n : Skel). passed u z m (param_at (parameters n) i) (further n) where_) x y c d p q

  v_of : (e : Expr) → ExprHas Fits U V W e → ExprHas Typed U V W e → AreFound w (expr_starts b e) → val u e ≡ val v e
  v_of e s t h = v_is w members k l same_own f e s t h

  x_of : (e : Expr) → ExprHas Fits U V W e → ExprHas Typed U V W e → AreFound w (expr_starts b e) →
      value (val u e) ≡ value (val v e)
  x_of e s t h = x_is w members k l same_own f e s t h

  -- the pointer by which a place was come to
  pointer_is : (e : Expr) → ExprHas Fits U V W e → ExprHas Typed U V W e → AreFound w (expr_starts b e) →
      pointer_to u e ≡ pointer_to v e
  pointer_is (operation e op token e2) s t h = refl
  pointer_is (cast opening ws d closing e) s t h = refl
  pointer_is (prefix token p e) s t h = x_of e s.1 t.1 (front w (expr_starts b e) _ h)
  pointer_is (sizeof_value word e) s t h = refl
  pointer_is (sizeof_type word opening ws d closing) s t h = refl
  pointer_is (extension keyword e) s t h = pointer_is e s.1 t.1 h
  pointer_is (index e opening e2 closing) s t h =
      ap2 (λ (x y : Skel). if is_ref x then x else y) _ _ _ _ (x_of e s.1.0 t.1.0 (front w (expr_starts b e) _ h))
      (x_of e2 s.1.1 t.1.1 (back w (expr_starts b e) _ h))
  pointer_is (call e opening es closing) s t h = refl
  pointer_is (dot e token name) s t h = pointer_is e s.1 t.1 h
  pointer_is (arrow e token name) s t h = x_of e s.1 t.1 h
  pointer_is (post e token p) s t h = refl
  pointer_is (compound opening ws d closing list) s t h = refl
  pointer_is (name_use token name) s t h = refl
  pointer_is (number_use token) s t h = refl
  pointer_is (char_use token) s t h = refl
  pointer_is (text_use texts) s t h = refl
  pointer_is (paren opening e closing) s t h = pointer_is e s.1 t.1 h
  pointer_is (statement_expr opening opening2 items closing closing2) s t h = refl
  pointer_is (va_arg keyword opening e separator ws d closing) s t h = refl
  pointer_is (va_start keyword opening e separator e2 closing) s t h = refl
  pointer_is (va_copy keyword opening e separator e2 closing) s t h = refl
  pointer_is (offset keyword opening ws d separator name steps closing) s t h = refl
  pointer_is (complex_part keyword e) s t h = pointer_is e s.1 t.1 h
  pointer_is (label_use token name) s t h = refl
  pointer_is (compat keyword opening ws d separator ws2 d2 closing) s t h = refl
  pointer_is (choose keyword opening e separator e2 separator2 e3 closing) s t h = refl
  pointer_is (generic keyword opening e xs closing) s t h = refl

  -- an operator before its operand, by the constraints of that
  prefix_demand_is : (aims : Bool) (token : ℕ) (p : Punct) (e : Expr) → ExprHas Fits U V W (prefix token p e) →
      ExprHas Typed U V W (prefix token p e) → AreFound w (expr_starts b (prefix token p e))
      → AreFound w (expr_starts b e) →
      demand_in u true e ≡ demand_in v true e → demand_in u false e ≡ demand_in v false e →
      demand_in u aims (prefix token p e) ≡ demand_in v aims (prefix token p e)
  prefix_demand_is aims token signs.Ampersand e s t h he addressed taken = joined _ _ _ _ addressed
      (addressed_is w members k l same_own f (comes_by_pointer false e && has_access w.lattices)
      (is_zero w.spelling w.names e) _ _ _ _ _ _ (span w token token) (span w token (last_token e)) (v_of e s.1 t.1 he)
      (λ is. pointer_is e s.1 t.1 he)
      (λ is. some_own_is w members k l same_own f token _ t.0
      (there w members k l same_own f _ _ (back w (expr_starts b e) _ h) is)))
  prefix_demand_is aims token signs.Plus e s t h he addressed taken = joined _ _ _ _ taken
      (prefixed_is w members k l same_own f signs.Plus (is_zero w.spelling w.names e) (val u e) (val v e)
      (own u token) (own v token) aims
      (span w token (last_token e)) (v_of e s.1 t.1 he)
      (λ is. own_is_same w members k l same_own f token (base []) (back w (expr_starts b e) _ h)))
  prefix_demand_is aims token signs.Minus e s t h he addressed taken = joined _ _ _ _ taken
      (prefixed_is w members k l same_own f signs.Minus (is_zero w.spelling w.names e) (val u e) (val v e)
      (own u token) (own v token) aims
      (span w token (last_token e)) (v_of e s.1 t.1 he)
      (λ is. own_is_same w members k l same_own f token (base []) (back w (expr_starts b e) _ h)))
  prefix_demand_is aims token signs.Tilde e s t h he addressed taken = joined _ _ _ _ taken
      (prefixed_is w members k l same_own f signs.Tilde (is_zero w.spelling w.names e) (val u e) (val v e)
      (own u token) (own v token) aims
      (span w token (last_token e)) (v_of e s.1 t.1 he)
      (λ is. own_is_same w members k l same_own f token (base []) (back w (expr_starts b e) _ h)))
  prefix_demand_is aims token signs.Bang e s t h he addressed taken = joined _ _ _ _ taken
      (prefixed_is w members k l same_own f signs.Bang (is_zero w.spelling w.names e) (val u e) (val v e)
      (own u token) (own v token) aims
      (span w token (last_token e)) (v_of e s.1 t.1 he)
      (λ is. own_is_same w members k l same_own f token (base []) (back w (expr_starts b e) _ h)))
  prefix_demand_is aims token signs.Star e s t h he addressed taken = joined _ _ _ _ taken
      (prefixed_is w members k l same_own f signs.Star (is_zero w.spelling w.names e) (val u e) (val v e)
      (own u token) (own v token) aims
      (span w token (last_token e)) (v_of e s.1 t.1 he)
      (λ is. absurd cc))
  prefix_demand_is aims token signs.PlusPlus e s t h he addressed taken = joined _ _ _ _ taken
      (prefixed_is w members k l same_own f signs.PlusPlus (is_zero w.spelling w.names e) (val u e) (val v e)
      (own u token) (own v token) aims
      (span w token (last_token e)) (v_of e s.1 t.1 he)
      (λ is. absurd cc))
  prefix_demand_is aims token signs.MinusMinus e s t h he addressed taken = joined _ _ _ _ taken
      (prefixed_is w members k l same_own f signs.MinusMinus (is_zero w.spelling w.names e) (val u e) (val v e)
      (own u token) (own v token) aims
      (span w token (last_token e)) (v_of e s.1 t.1 he)
      (λ is. absurd cc))
  prefix_demand_is aims token p e s t h he addressed taken = absurd cc

  -- picks

  -- the candidates of a selection
  candidates_are : (token i : ℕ) (xs : Assocs) → AssocsHave Fits U V W xs → AssocsHave Typed U V W xs →
      AreFound w (assocs_starts b xs) → skels.candidates_of u token i xs ≡ skels.candidates_of v token i xs
  candidates_are token i no_assocs s t h = refl
  candidates_are token i (more_assocs (typed_assoc ws d colon e) xs) s t h =
      let one = front w (assoc_starts b (typed_assoc ws d colon e)) _ h in
      ap2 (λ (x : Val) (cs : List vals.Candidate). if w.candidate (at w token) i
      then record { val = x; is_zero = is_zero w.spelling w.names e } ∷ cs else cs) _ _ _ _
      (v_of e s.0.1.1 t.0.1.1 (back w (some_declr_starts b with_skeleton d) _ (back w (words_starts b ws) _ one)))
      (candidates_are token (suc i) xs s.1 t.1 (back w (assoc_starts b (typed_assoc ws d colon e)) _ h))
  candidates_are token i (more_assocs (default_assoc keyword colon e) xs) s t h =
      ap2 (λ (x : Val) (cs : List vals.Candidate). if w.candidate (at w token) i
      then record { val = x; is_zero = is_zero w.spelling w.names e } ∷ cs else cs) _ _ _ _
      (v_of e s.0 t.0 (front w (assoc_starts b (default_assoc keyword colon e)) _ h))
      (candidates_are token (suc i) xs s.1 t.1 (back w (assoc_starts b (default_assoc keyword colon e)) _ h))

  -- what is picked of candidates that are the same
  pick_is : (token : ℕ) (cs : List Candidate) (fs : Further → List vals.Candidate) → AreOf cs fs → fs k ≡ fs l →
      Is (pick_shape cs).type → AreFound w (pick_starts b token cs) →
      picked u (vals.left_of (fs k)) (own u token) (span w token token)
      ≡ picked v (vals.left_of (fs l)) (own v token) (span w token token)
  pick_is token cs fs are e is found =
      ap (λ xs. picked u (vals.left_of xs) (own u token) (span w token token)) e
      ∙ picked_is w members k l same_own f (vals.left_of (fs l)) (own u token) (own v token) (span w token token)
      (λ many.
      some_own_is w members k l same_own f token _ is (there w members k l same_own f (is_fresh_pick cs) _ found
      (sym (ap (λ n. nat_lt 1 n) (as_many (left_of cs) (λ j. vals.left_of (fs j)) (left_are cs fs are) l)) ∙ many)))

  selection_is : (token : ℕ) (o : Option CType) (all : List Association) (fs : Further → List vals.Candidate) →
      ((c : CType) → o ≡ Some c → AreOf (selected c all) fs) → fs k ≡ fs l → Is (selected_shape o all).type →
      AreFound w (pick_starts b token (selected_by o all)) →
      picked u (vals.left_of (fs k)) (own u token) (span w token token)
      ≡ picked v (vals.left_of (fs l)) (own v token) (span w token token)
  selection_is token None all fs are e is found = absurd cc
  selection_is token (Some c) all fs are e is found = pick_is token (selected c all) fs (are c refl) e is found

  mutual
    pub demand_is : (aims : Bool) (e : Expr) → ExprHas Fits U V W e → ExprHas Typed U V W e
        → AreFound w (expr_starts b e) →
        demand_in u aims e ≡ demand_in v aims e
    demand_is aims (operation e comma token e2) s t h = joined _ _ _ _
        (demand_is false e s.1.0 t.1.0 (front w (expr_starts b e) _ h))
        (demand_is false e2 s.1.1.1 t.1.1.1 (back w (expr_starts b e) _ h))
    demand_is aims (operation e (assign p) token e2) s t h =
        let he = front w (expr_starts b e) _ h in
        let h2 = back w (expr_starts b e) _ h in
        joined _ _ _ _ (demand_is false e s.1.0 t.1.0 he) (joined _ _ _ _ (demand_is false e2 s.1.1.1 t.1.1.1 h2)
        (ap2 (λ (x : Val) (y : Skel). assigned u p (is_zero w.spelling w.names e2) x.skel y
        (span w (first_token e) (last_token e2))) _ _ _ _
        (v_of e s.1.0 t.1.0 he) (x_of e2 s.1.1.1 t.1.1.1 h2)))
    demand_is aims (operation e (cond no_expr colon) token e2) s t h =
        let he = front w (expr_starts b e) _ h in
        let behind = back w (expr_starts b e) _ h in
        let h2 = front w (expr_starts b e2) _ behind in
        joined _ _ _ _ (demand_is false e s.1.0 t.1.0 he) (joined _ _ _ _ (demand_is false e2 s.1.1.1 t.1.1.1 h2)
        (chosen_same w members k l (is_zero w.spelling w.names e) (is_zero w.spelling w.names e2) _ _ _ _ _ _
        (span w (first_token e) (last_token e2))
        (x_of e s.1.0 t.1.0 he) (x_of e2 s.1.1.1 t.1.1.1 h2)
        (λ is. some_own_is w members k l same_own f token _ t.0
        (there w members k l same_own f _ _ (back w (expr_starts b e2) _ behind) is))))
    demand_is aims (operation e (cond (some_expr m) colon) token e2) s t h =
        let he = front w (expr_starts b e) _ h in
        let behind = back w (expr_starts b e) _ h in
        let hm = front w (expr_starts b m) _ behind in
        let last = back w (expr_starts b m) _ behind in
        let h2 = front w (expr_starts b e2) _ last in
        joined _ _ _ _ (demand_is false e s.1.0 t.1.0 he) (joined _ _ _ _ (demand_is false m s.1.1.0 t.1.1.0 hm)
        (joined _ _ _ _ (demand_is false e2 s.1.1.1 t.1.1.1 h2)
        (chosen_same w members k l (is_zero w.spelling w.names m) (is_zero w.spelling w.names e2) _ _ _ _ _ _
        (span w (first_token e) (last_token e2))
        (x_of m s.1.1.0 t.1.1.0 hm) (x_of e2 s.1.1.1 t.1.1.1 h2)
        (λ is. some_own_is w members k l same_own f token _ t.0
        (there w members k l same_own f _ _ (back w (expr_starts b e2) _ last) is)))))
    demand_is aims (operation e (binary p) token e2) s t h =
        let he = front w (expr_starts b e) _ h in
        let behind = back w (expr_starts b e) _ h in
        let h2 = front w (expr_starts b e2) _ behind in
        joined _ _ _ _ (demand_is false e s.1.0 t.1.0 he) (joined _ _ _ _ (demand_is false e2 s.1.1.1 t.1.1.1 h2)
        (computed_is w members k l same_own f p (is_zero w.spelling w.names e) (is_zero w.spelling w.names e2)
        (is_some_pointer (shapes.value (shape_of w.spelling w.names e)))
        (is_some_pointer (shapes.value (shape_of w.spelling w.names e2))) _ _ _ _ _ _
        (span w (first_token e) (last_token e2))
        (x_of e s.1.0 t.1.0 he) (x_of e2 s.1.1.1 t.1.1.1 h2)
        (ref_is w members k l same_own f e s.1.0 t.1.0 he)
        (ref_is w members k l same_own f e2 s.1.1.1 t.1.1.1 h2)
        (λ is. own_is_same w members k l same_own f token (base [])
        (there w members k l same_own f _ _ (back w (expr_starts b e2) _ behind) is))))
    demand_is aims (cast opening ws d closing e) s t h =
        let hd = back w (words_starts b ws) _ h in
        let he = back w (some_declr_starts b with_skeleton d) _ hd in
        joined _ _ _ _ (specs_is ws s.1.0 (front w (words_starts b ws) _ h)) (joined _ _ _ _
        (type_is d s.0.1 s.1.1.0 (front w (some_declr_starts b with_skeleton d) _ hd)) (joined _ _ _ _
        (demand_is false e s.1.1.1 t.1.1.1 (front w (expr_starts b e) _ he))
        (cast_is w members k l same_own f (type_of_name u ws) (is_zero w.spelling w.names e) _ _ _ _
        (span w opening (last_token e))
        (x_of e s.1.1.1 t.1.1.1 (front w (expr_starts b e) _ he))
        (some_own_is w members k l same_own f opening _ t.0 (back w (expr_starts b e) _ he)))))
    demand_is aims (prefix token p e) s t h =
        prefix_demand_is aims token p e s t h (front w (expr_starts b e) _ h)
        (demand_is true e s.1 t.1 (front w (expr_starts b e) _ h))
        (demand_is false e s.1 t.1 (front w (expr_starts b e) _ h))
    demand_is aims (sizeof_value word e) s t h = refl
    demand_is aims (sizeof_type word opening ws d closing) s t h = refl
    demand_is aims (extension keyword e) s t h = demand_is aims e s.1 t.1 h
    demand_is aims (index e opening e2 closing) s t h =
        let he = front w (expr_starts b e) _ h in
        let h2 = back w (expr_starts b e) _ h in
        joined _ _ _ _ (demand_is false e s.1.0 t.1.0 he) (joined _ _ _ _ (demand_is false e2 s.1.1 t.1.1 h2)
        (ap2 (λ (x y : Skel). index_demand u x y aims (span w (first_token e) closing)) _ _ _ _
        (x_of e s.1.0 t.1.0 he) (x_of e2 s.1.1 t.1.1 h2)))
    demand_is aims (call e opening es closing) s t h =
        let he = front w (expr_starts b e) _ h in
        let hs = back w (expr_starts b e) _ h in
        joined _ _ _ _ (demand_is false e s.1.0 t.1.0 he) (joined _ _ _ _ (exprs_is es s.1.1 t.1.1 hs)
        (arguments_is es s.1.1 t.1.1 hs _ _ 0 (ap contents (x_of e s.1.0 t.1.0 he))))
    demand_is aims (dot e token name) s t h = demand_is aims e s.1 t.1 h
    demand_is aims (arrow e token name) s t h = joined _ _ _ _ (demand_is false e s.1 t.1 h)
        (ap (λ x. dereferenced u x aims (span w (first_token e) name.token)) (x_of e s.1 t.1 h))
    demand_is aims (post e token p) s t h = joined _ _ _ _ (demand_is false e s.1 t.1 h)
        (ap (λ (it : Val). write_bounds u (root it.skel) (span w (first_token e) token)) (v_of e s.1 t.1 h))
    demand_is aims (compound opening ws d closing list) s t h =
        let hd = back w (words_starts b ws) _ h in
        let hl = back w (some_declr_starts b with_skeleton d) _ hd in
        let here = place_own_is w members k l same_own f opening _ t.0 (back w (init_list_starts b list) _ hl) in
        joined _ _ _ _ (specs_is ws s.1.0 (front w (words_starts b ws) _ h)) (joined _ _ _ _
        (type_is d s.0.1 s.1.1.0 (front w (some_declr_starts b with_skeleton d) _ hd)) (joined _ _ _ _
        (init_list_is list s.1.1.1 t.1.1.1 (front w (init_list_starts b list) _ hl)) (joined _ _ _ _
        (joined _ _ _ _ (here_is w members k l same_own f opening here)
        (placing_is w members k l same_own f (type_of_name u ws) _ _ here))
        (ap (λ x. list_rule u (contents x) list) here
        ∙ list_rule_is (contents (own v opening)) list s.1.1.1 t.1.1.1 (front w (init_list_starts b list) _ hl)))))
    demand_is aims (name_use token name) s t h =
        use_is w members k l same_own f token (use_at w.names.uses (at w token)) refl s.1 h
    demand_is aims (number_use token) s t h = refl
    demand_is aims (char_use token) s t h = refl
    demand_is aims (text_use texts) s t h = here_is w members k l same_own f (first_text texts)
        (own_is_same w members k l same_own f (first_text texts) (pointer [] text_type) h)
    demand_is aims (paren opening e closing) s t h = demand_is aims e s.1 t.1 h
    demand_is aims (statement_expr opening opening2 items closing closing2) s t h =
        block_items_is items s.1 t.1 (front w (block_items_starts b items) _ h)
    demand_is aims (va_arg keyword opening e separator ws d closing) s t h =
        let he = front w (expr_starts b e) _ h in
        let hw = back w (expr_starts b e) _ h in
        let hd = back w (words_starts b ws) _ hw in
        let here = some_own_is w members k l same_own f keyword _ t.0
        (back w (some_declr_starts b with_skeleton d) _ hd) in
        joined _ _ _ _ (demand_is false e s.1.0 t.1.0 he)
        (joined _ _ _ _ (specs_is ws s.1.1.0 (front w (words_starts b ws) _ hw))
        (joined _ _ _ _ (type_is d s.0.1 s.1.1.1 (front w (some_declr_starts b with_skeleton d) _ hd)) (joined _ _ _ _
        (formed_is w members k l same_own f (span w keyword closing) _ _ here) (joined _ _ _ _
        (typing_is w members k l same_own f (type_of_name u ws) _ _ here)
        (ap2 (λ (x y : Skel). taken u x y (span w keyword closing)) _ _ _ _ (x_of e s.1.0 t.1.0 he) here)))))
    demand_is aims (va_start keyword opening e separator e2 closing) s t h =
        let he = front w (expr_starts b e) _ h in
        joined _ _ _ _ (demand_is false e s.1.0 t.1.0 he) (joined _ _ _ _
        (demand_is false e2 s.1.1 t.1.1 (front w (expr_starts b e2) _ (back w (expr_starts b e) _ h)))
        (ap2 (λ (o : Option Skel) (x : Skel). started u o x (span w keyword closing)) _ _ _ _ same_own
        (x_of e s.1.0 t.1.0 he)))
    demand_is aims (va_copy keyword opening e separator e2 closing) s t h =
        let he = front w (expr_starts b e) _ h in
        let h2 = front w (expr_starts b e2) _ (back w (expr_starts b e) _ h) in
        joined _ _ _ _ (demand_is false e s.1.0 t.1.0 he) (joined _ _ _ _ (demand_is false e2 s.1.1 t.1.1 h2)
        (ap2
        (λ (x y : Skel). flowing (is_zero w.spelling w.names e2) x y (all_lattices w) (span w keyword closing)) _ _ _ _
        (x_of e2 s.1.1 t.1.1 h2) (x_of e s.1.0 t.1.0 he)))
    demand_is aims (offset keyword opening ws d separator name steps closing) s t h = refl
    demand_is aims (complex_part keyword e) s t h = demand_is aims e s.1 t.1 h
    demand_is aims (label_use token name) s t h = here_is w members k l same_own f token
        (own_is_same w members k l same_own f token (pointer [] (void [])) h)
    demand_is aims (compat keyword opening ws d separator ws2 d2 closing) s t h = refl
    demand_is aims (choose keyword opening e separator e2 separator2 e3 closing) s t h =
        let behind = back w (expr_starts (quiet b) e) _ h in
        let h2 = front w (expr_starts b e2) _ behind in
        let last = back w (expr_starts b e2) _ behind in
        let h3 = front w (expr_starts b e3) _ last in
        joined _ _ _ _ (demand_is false e2 s.1.0 t.1.0 h2) (joined _ _ _ _ (demand_is false e3 s.1.1 t.1.1 h3)
        (pick_is keyword (two w U V W f members e2 e3)
        (λ j. skels.candidate_of (world w j) e2 ∷ (skels.candidate_of (world w j) e3 ∷ []))
        (two_are w U V W f members e2 e3 (agrees w U V W f members e2 s.1.0 h2) (agrees w U V W f members e3 s.1.1 h3))
        (ap2 (λ (x y : Val). record { val = x; is_zero = is_zero w.spelling w.names e2 }
        ∷ (record { val = y; is_zero = is_zero w.spelling w.names e3 } ∷ [])) _ _ _ _
        (v_of e2 s.1.0 t.1.0 h2) (v_of e3 s.1.1 t.1.1 h3)) t.0 (back w (expr_starts b e3) _ last)))
    demand_is aims (generic keyword opening e xs closing) s t h =
        let behind = back w (expr_starts (quiet b) e) _ h in
        let hx = front w (assocs_starts b xs) _ behind in
        joined _ _ _ _ (assocs_is xs s.1 t.1 hx)
        (selection_is keyword (shapes.value (shape_of w.spelling w.names e)) (associations_of w.spelling w.names xs)
        (λ j. skels.candidates_of (world w j) keyword 0 xs)
        (λ c is. subst (λ cs. AreOf cs (λ (j : Further). skels.candidates_of (world w j) keyword 0 xs))
        (sym (selected_is c (associations_of w.spelling w.names xs)))
        (assocs_agree w U V W f members keyword 0 c
        (has_of_type (Some c) (associations_of w.spelling w.names xs)) xs s.1 hx
        (flags_from w U V W f members keyword c (shapes.value (shape_of w.spelling w.names e))
        (associations_of w.spelling w.names xs) is s.0.1.1)))
        (candidates_are keyword 0 xs s.1 t.1 hx) t.0 (back w (assocs_starts b xs) _ behind))

    assocs_is : (xs : Assocs) → AssocsHave Fits U V W xs → AssocsHave Typed U V W xs → AreFound w (assocs_starts b xs) →
        assocs_demand u xs ≡ assocs_demand v xs
    assocs_is no_assocs s t h = refl
    assocs_is (more_assocs x xs) s t h = joined _ _ _ _ (assoc_is x s.0 t.0 (front w (assoc_starts b x) _ h))
        (assocs_is xs s.1 t.1 (back w (assoc_starts b x) _ h))

    assoc_is : (x : Assoc) → AssocHas Fits U V W x → AssocHas Typed U V W x → AreFound w (assoc_starts b x) →
        assoc_demand u x ≡ assoc_demand v x
    assoc_is (typed_assoc ws d colon e) s t h =
        let hd = back w (words_starts b ws) _ h in
        joined _ _ _ _ (specs_is ws s.0 (front w (words_starts b ws) _ h)) (joined _ _ _ _
        (type_is d s.1.0.0 s.1.0.1 (front w (some_declr_starts b with_skeleton d) _ hd))
        (demand_is false e s.1.1 t.1.1 (back w (some_declr_starts b with_skeleton d) _ hd)))
    assoc_is (default_assoc keyword colon e) s t h = demand_is false e s t h

    some_expr_is : (e : SomeExpr) → SomeExprHas Fits U V W e → SomeExprHas Typed U V W e
        → AreFound w (some_expr_starts b e) →
        some_expr_demand u e ≡ some_expr_demand v e
    some_expr_is no_expr s t h = refl
    some_expr_is (some_expr e) s t h = demand_is false e s t h

    exprs_is : (es : Exprs) → ExprsHave Fits U V W es → ExprsHave Typed U V W es → AreFound w (exprs_starts b es) →
        exprs_demand u es ≡ exprs_demand v es
    exprs_is no_exprs s t h = refl
    exprs_is (more_exprs e es) s t h = joined _ _ _ _ (demand_is false e s.0 t.0 (front w (expr_starts b e) _ h))
        (exprs_is es s.1 t.1 (back w (expr_starts b e) _ h))

    arguments_is : (es : Exprs) → ExprsHave Fits U V W es → ExprsHave Typed U V W es → AreFound w (exprs_starts b es) →
        (c d : Skel) (i : ℕ) → c ≡ d → arguments u c i es ≡ arguments v d i es
    arguments_is no_exprs s t h c d i p = refl
    arguments_is (more_exprs e es) s t h c d i p = joined _ _ _ _
        (passed_is (is_zero w.spelling w.names e) _ _ c d i (span w (first_token e) (last_token e))
        (x_of e s.0 t.0 (front w (expr_starts b e) _ h)) p)
        (arguments_is es s.1 t.1 (back w (expr_starts b e) _ h) c d (suc i) p)

    init_is : (it : Init) → InitHas Fits U V W it → InitHas Typed U V W it → AreFound w (init_starts b it) →
        init_demand u it ≡ init_demand v it
    init_is (init_value e) s t h = demand_is false e s t h
    init_is (init_braced list) s t h = init_list_is list s t h

    init_list_is : (list : InitList) → InitListHas Fits U V W list → InitListHas Typed U V W list →
        AreFound w (init_list_starts b list) → init_list_demand u list ≡ init_list_demand v list
    init_list_is (init_list opening items last closing) s t h = init_items_is items s t h

    init_items_is : (items : InitItems) → InitItemsHave Fits U V W items → InitItemsHave Typed U V W items →
        AreFound w (init_items_starts b items) → init_items_demand u items ≡ init_items_demand v items
    init_items_is no_init_items s t h = refl
    init_items_is (more_init_items ds equal it items) s t h =
        let behind = back w (desigs_starts b ds) _ h in
        joined _ _ _ _ (init_is it s.0 t.0 (front w (init_starts b it) _ behind))
        (init_items_is items s.1 t.1 (back w (init_starts b it) _ behind))

    rule_is : (o : Option Skel) (it : Init) → InitHas Fits U V W it → InitHas Typed U V W it
        → AreFound w (init_starts b it) →
        rule u o it ≡ rule v o it
    rule_is None it s t h = refl
    rule_is (Some c) (init_value e) s t h =
        ap (λ x. flowing (is_zero w.spelling w.names e) x c (all_lattices w) (span w (first_token e) (last_token e)))
        (x_of e s t h)
    rule_is (Some c) (init_braced list) s t h = list_rule_is c list s t h

    list_rule_is : (c : Skel) (list : InitList) → InitListHas Fits U V W list → InitListHas Typed U V W list →
        AreFound w (init_list_starts b list) → list_rule u c list ≡ list_rule v c list
    list_rule_is c (init_list opening items last closing) s t h = items_rule_is c true 0 items s t h

    items_rule_is : (c : Skel) (first : Bool) (next : ℕ) (items : InitItems) → InitItemsHave Fits U V W items →
        InitItemsHave Typed U V W items → AreFound w (init_items_starts b items) →
        items_rule u c first next items ≡ items_rule v c first next items
    items_rule_is c first next no_init_items s t h = refl
    items_rule_is c first next (more_init_items ds equal it items) s t h =
        let behind = back w (desigs_starts b ds) _ h in
        joined _ _ _ _ (ap (λ o. rule u o it) (item_is w members k l same_own f c first next ds)
        ∙ rule_is (item_skel v c first next ds) it s.0 t.0 (front w (init_starts b it) _ behind))
        (ap (λ n. items_rule u c false n items) (behind_is w members k l same_own f c ds next)
        ∙ items_rule_is c false (next_behind v c ds next) items s.1 t.1 (back w (init_starts b it) _ behind))

    some_init_is : (o : Option Named) (it : SomeInit) → initialised u o ≡ initialised v o → SomeInitHas Fits U V W it →
        SomeInitHas Typed U V W it → AreFound w (some_init_starts b it) →
        some_init_demand u o it ≡ some_init_demand v o it
    some_init_is o no_init p s t h = refl
    some_init_is o (some_init equal it) p s t h = joined _ _ _ _ (init_is it s t h)
        (ap (λ x. rule u x it) p ∙ rule_is (initialised v o) it s t h)

    init_declrs_is : (ds : InitDeclrs) → InitDeclrsHave Fits U V W ds → InitDeclrsHave Typed U V W ds →
        AreFound w (init_declrs_starts b ds) → init_declrs_demand u ds ≡ init_declrs_demand v ds
    init_declrs_is no_init_declrs s t h = refl
    init_declrs_is (more_init_declrs attrs d asm_label attrs2 it ds) s t h =
        let hd = front w (declr_starts b with_skeleton without_skeleton d) _ h in
        let behind = back w (declr_starts b with_skeleton without_skeleton d) _ h in
        joined _ _ _ _ (declr_is w members links k l false f row_of_name None with_skeleton without_skeleton d tt tt
        s.0 s.1.0 hd) (joined _ _ _ _
        (some_init_is (declared_name d) it (initialised_is w members k l same_own f (declared_name d) s.0
        (λ name e. name_found w b with_skeleton without_skeleton d name e hd)) s.1.1.0 t.1.1.0
        (front w (some_init_starts b it) _ behind))
        (init_declrs_is ds s.1.1.1 t.1.1.1 (back w (some_init_starts b it) _ behind)))

    pub declaration_is : (d : Declaration) → DeclarationHas Fits U V W d → DeclarationHas Typed U V W d →
        AreFound w (declaration_starts b d) → declaration_demand u d ≡ declaration_demand v d
    declaration_is (declaration exts ws ds semi) s t h = joined _ _ _ _
        (specs_is ws s.0 (front w (words_starts b ws) _ h)) (init_declrs_is ds s.1 t.1 (back w (words_starts b ws) _ h))

    pub decl_is : (d : Decl) → DeclHas Fits U V W d → DeclHas Typed U V W d → AreFound w (decl_starts b d) →
        decl_demand u d ≡ decl_demand v d
    decl_is (decl_declaration d) s t h = declaration_is d s t h
    decl_is (decl_assert it) s t h = refl

    pub block_items_is : (items : BlockItems) → BlockItemsHave Fits U V W items → BlockItemsHave Typed U V W items →
        AreFound w (block_items_starts b items) → block_items_demand u items ≡ block_items_demand v items
    block_items_is no_block_items s t h = refl
    block_items_is (more_block_items item items) s t h = joined _ _ _ _
        (block_item_is item s.0 t.0 (front w (block_item_starts b item) _ h))
        (block_items_is items s.1 t.1 (back w (block_item_starts b item) _ h))

    block_item_is : (item : BlockItem) → BlockItemHas Fits U V W item → BlockItemHas Typed U V W item →
        AreFound w (block_item_starts b item) → block_item_demand u item ≡ block_item_demand v item
    block_item_is (block_decl d) s t h = decl_is d s t h
    block_item_is (block_stmt it) s t h = stmt_is it s t h
    block_item_is (block_labels keyword names semi) s t h = refl

    stmt_is : (it : Stmt) → StmtHas Fits U V W it → StmtHas Typed U V W it → AreFound w (stmt_starts b it) →
        stmt_demand u it ≡ stmt_demand v it
    stmt_is (block opening items closing) s t h = block_items_is items s t h
    stmt_is (expr_stmt e semi) s t h = some_expr_is e s t h
    stmt_is (attr_stmt attrs semi) s t h = refl
    stmt_is (label name colon attrs it) s t h = stmt_is it s t h
    stmt_is (case_stmt keyword e colon it) s t h = stmt_is it s t (back w (expr_starts _ e) _ h)
    stmt_is (default_stmt keyword colon it) s t h = stmt_is it s t h
    stmt_is (if_stmt keyword opening e closing it other) s t h =
        let behind = back w (expr_starts b e) _ h in
        joined _ _ _ _ (demand_is false e s.0 t.0 (front w (expr_starts b e) _ h)) (joined _ _ _ _
        (stmt_is it s.1.0 t.1.0 (front w (stmt_starts b it) _ behind))
        (some_else_is other s.1.1 t.1.1 (back w (stmt_starts b it) _ behind)))
    stmt_is (switch_stmt keyword opening e closing it) s t h = joined _ _ _ _
        (demand_is false e s.0 t.0 (front w (expr_starts b e) _ h)) (stmt_is it s.1 t.1 (back w (expr_starts b e) _ h))
    stmt_is (while_stmt keyword opening e closing it) s t h = joined _ _ _ _
        (demand_is false e s.0 t.0 (front w (expr_starts b e) _ h)) (stmt_is it s.1 t.1 (back w (expr_starts b e) _ h))
    stmt_is (do_stmt keyword it keyword2 opening e closing semi) s t h = joined _ _ _ _
        (stmt_is it s.0 t.0 (front w (stmt_starts b it) _ h))
        (demand_is false e s.1 t.1 (back w (stmt_starts b it) _ h))
    stmt_is (for_stmt keyword opening start e semi e2 closing it) s t h =
        let behind = back w (for_start_starts b start) _ h in
        let last = back w (some_expr_starts b e) _ behind in
        joined _ _ _ _ (for_start_is start s.0 t.0 (front w (for_start_starts b start) _ h)) (joined _ _ _ _
        (some_expr_is e s.1.0 t.1.0 (front w (some_expr_starts b e) _ behind)) (joined _ _ _ _
        (some_expr_is e2 s.1.1.0 t.1.1.0 (front w (some_expr_starts b e2) _ last))
        (stmt_is it s.1.1.1 t.1.1.1 (back w (some_expr_starts b e2) _ last))))
    stmt_is (goto_stmt keyword name semi) s t h = refl
    stmt_is (continue_stmt keyword semi) s t h = refl
    stmt_is (break_stmt keyword semi) s t h = refl
    stmt_is (return_stmt keyword no_expr semi) s t h = refl
    stmt_is (return_stmt keyword (some_expr e) semi) s t h = joined _ _ _ _ (demand_is false e s t h)
        (ap2 (λ (o : Option Skel) (x : Skel). returned u o (is_zero w.spelling w.names e) x
        (span w keyword semi)) _ _ _ _ same_own (x_of e s t h))
    stmt_is (asm_stmt keyword words group semi) s t h = refl
    stmt_is (case_range keyword e dots e2 colon it) s t h =
        stmt_is it s t (back w (expr_starts _ e2) _ (back w (expr_starts _ e) _ h))
    stmt_is (goto_value keyword star e semi) s t h = demand_is false e s t h

    some_else_is : (it : SomeElse) → SomeElseHas Fits U V W it → SomeElseHas Typed U V W it
        → AreFound w (some_else_starts b it) →
        some_else_demand u it ≡ some_else_demand v it
    some_else_is no_else s t h = refl
    some_else_is (some_else keyword it) s t h = stmt_is it s t h

    for_start_is : (start : ForStart) → ForStartHas Fits U V W start → ForStartHas Typed U V W start →
        AreFound w (for_start_starts b start) → for_start_demand u start ≡ for_start_demand v start
    for_start_is (start_declaration d) s t h = declaration_is d s t h
    for_start_is (start_value e semi) s t h = some_expr_is e s t h

  -- the declarations behind a list of identifiers

  row_fits : (row : RowKind) (g : Option Place) → RowFits row (of_function g)
  row_fits no_row g = tt
  row_fits row_of_name g = tt
  row_fits (row_of_param own i) g = tt

  role_met : (own : Option Skel) (it : Named) (d : Declared) (r : Role) →
      declared_at w.names.declared (at w it.token) ≡ Some d → d.role ≡ r →
      RowMet w members links k l false f (numbered_row own r) (Some it)
  role_met own it d typedef_role e is = tt
  role_met own it d object_role e is = tt
  role_met own it d function_role e is = tt
  role_met None it d (parameter_role i) e is = tt
  role_met (Some s) it d (parameter_role i) e is = λ other h.
      let same : d ≡ other = cc in
      subst (λ (c : Declared). has_skeleton c.role ≡ true) same
      (subst (λ (r : Role). has_skeleton r ≡ true) (sym is) refl)
  role_met own it d (field_role n i) e is = tt
  role_met own it d enumerator_role e is = tt

  identified_met : (own : Option Skel) (o : Option Named)
      → RowMet w members links k l false f (identified_kind v own o) o
  identified_met own None = tt
  identified_met own (Some it) = by (declared_at w.names.declared (at w it.token)) refl
    where
      by : (o : Option Declared) → declared_at w.names.declared (at w it.token) ≡ o →
          RowMet w members links k l false f (identified_by own o) (Some it)
      by None e = tt
      by (Some d) e = role_met own it d d.role e refl

  old_declrs_is : (g : Option Place) (c e : Option Skel) → c ≡ e → (ds : InitDeclrs) → InitDeclrsHave Fits U V W ds →
      InitDeclrsHave Typed U V W ds → AreFound w (old_declrs_starts b (of_function g) ds) →
      old_declrs_demand u c ds ≡ old_declrs_demand v e ds
  old_declrs_is g c e p no_init_declrs s t h = refl
  old_declrs_is g c e p (more_init_declrs attrs d asm_label attrs2 it ds) s t h =
      let hd = front w (declr_starts b (of_function g) without_skeleton d) _ h in
      let behind = back w (declr_starts b (of_function g) without_skeleton d) _ h in
      joined _ _ _ _ (ap (λ own. declr_demand u (identified_kind u own (declared_name d)) None d) p
      ∙ declr_is w members links k l false f (identified_kind v e (declared_name d)) None
      (of_function g) without_skeleton d
      (row_fits (identified_kind v e (declared_name d)) g) tt (identified_met e (declared_name d)) s.1.0 hd)
      (joined _ _ _ _
      (some_init_is (declared_name d) it (initialised_is w members k l same_own g (declared_name d) s.0
      (λ name is. name_found w b (of_function g) without_skeleton d name is hd)) s.1.1.0 t.1.1.0
      (front w (some_init_starts b it) _ behind))
      (old_declrs_is g c e p ds s.1.1.1 t.1.1.1 (back w (some_init_starts b it) _ behind)))

  old_declarations_are : (g : Option Place) (c e : Option Skel) → c ≡ e → (ds : List Declaration) →
      DeclarationsHave Fits U V W ds → DeclarationsHave Typed U V W ds →
      AreFound w (old_declarations_starts b (of_function g) ds)
      → old_declarations_demand u c ds ≡ old_declarations_demand v e ds
  old_declarations_are g c e p [] s t h = refl
  old_declarations_are g c e p (declaration exts ws ds semi ∷ others) s t h =
      let one = front w (old_declaration_starts b (of_function g) (declaration exts ws ds semi)) _ h in
      joined _ _ _ _ (joined _ _ _ _ (specs_is ws s.0.0 (front w (words_starts b ws) _ one))
      (old_declrs_is g c e p ds s.0.1 t.0.1 (back w (words_starts b ws) _ one)))
      (old_declarations_are g c e p others s.1 t.1
      (back w (old_declaration_starts b (of_function g) (declaration exts ws ds semi)) _ h))

  plain_is : (d : Declr) → NamedHas V (declared_name d) → DeclrHas U V W d →
      AreFound w (declr_starts b with_skeleton without_skeleton d)
      → declr_demand u row_of_name None d ≡ declr_demand v row_of_name None d
  plain_is d met has found =
      declr_is w members links k l false f row_of_name None with_skeleton without_skeleton d tt tt met has found

  pub old_declr_is : (g : Option Place) (c e : Option Skel) → c ≡ e → (ds : List Declaration) (d : Declr) →
      NamedHas V (declared_name d) → OldDeclrHas Fits U V W ds d → OldDeclrHas Typed U V W ds d →
      AreFound w (old_declr_starts b (of_function g) ds d) → old_declr_demand u c ds d ≡ old_declr_demand v e ds d
  old_declr_is g c e p ds (identifiers d opening names closing) met s t h = joined _ _ _ _
      (plain_is d met s.0 (front w (declr_starts b with_skeleton without_skeleton d) _ h))
      (old_declarations_are g c e p ds s.1 t.1 (back w (declr_starts b with_skeleton without_skeleton d) _ h))
  old_declr_is g c e p ds (trees.pointer star words d) met s t h = old_declr_is g c e p ds d met s t h
  old_declr_is g c e p ds (declr_paren opening attrs d closing) met s t h = old_declr_is g c e p ds d met s t h
  old_declr_is g c e p ds (array d opening words size closing) met s t h =
      old_declr_is g c e p ds d met s t (front w (old_declr_starts b (of_function g) ds d) _ h)
  old_declr_is g c e p ds (params d opening ps dots closing) met s t h = joined _ _ _ _
      (old_declr_is g c e p ds d met s.0 t.0 (front w (old_declr_starts b (of_function g) ds d) _ h))
      (params_is w members links k l false f None false without_skeleton 0 ps (λ i. tt) s.1
      (back w (old_declr_starts b (of_function g) ds d) _ h))
  old_declr_is g c e p ds (declr_name token name) met s t h = plain_is (declr_name token name) met s h
  old_declr_is g c e p ds (base_name token) met s t h = refl
  old_declr_is g c e p ds (abs_pointer star words d) met s t h = plain_is (abs_pointer star words d) met s h
  old_declr_is g c e p ds (abs_paren opening attrs d closing) met s t h =
      plain_is (abs_paren opening attrs d closing) met s h
  old_declr_is g c e p ds (abs_array d opening words size closing) met s t h =
      plain_is (abs_array d opening words size closing) met s h
  old_declr_is g c e p ds (abs_params d opening ps dots closing) met s t h =
      plain_is (abs_params d opening ps dots closing) met s h
