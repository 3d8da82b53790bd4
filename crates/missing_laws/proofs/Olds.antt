-- Functions with lists of identifiers: names stay good, and what is declared behind the list is settled.
use Rattle.std.specs.Prelude.{◌&&◌, if◌then◌else◌}
use Rattle.std.proofs.Common.{◌≡◌, inr, ℕ, Bool, true, false, All, List, [], ◌∷◌, ◌++◌, Option, None, Some, refl, sym, ◌∙◌}
use Rattle.std.proofs.lemmas.List.Elements.{All-head, All-tail}
use Rattle.c_words.specs.declared.kinds.Keyword.{Keyword}
use Rattle.c_words.specs.declared.kinds.Keyword.TheVariants as keywords
use Rattle.c_syntax.specs.declared.parts.Identifier.{Identifier}
use Rattle.c_tree.specs.declared.lexeme.Lexeme.{Lexeme}
use Rattle.c_tree.specs.Tree.{Expr, operation, cast, prefix, sizeof_value, sizeof_type, extension, index, call, dot, arrow, post, compound, name_use, number_use, char_use, text_use, paren, statement_expr, va_arg, va_start, va_copy, offset, comma, assign, cond, binary, SomeExpr, no_expr, some_expr, Exprs, no_exprs, more_exprs, SpecWords, no_words, more_words, SpecWord, storage, thread, inline_word, noreturn, qualifier, basic, struct_type, enum_type, typedef_name, attribute, SomeBody, no_body, some_body, StructItems, no_struct_items, more_struct_items, StructItem, member, member_semi, member_assert, MemDeclrs, no_mem_declrs, more_mem_declrs, MemDeclr, named, unnamed, SomeValue, no_value, some_value, EnumType, enum_of, no_enum_body, some_enum_body, Enumerators, no_enumerators, more_enumerators, Declr, pointer, declr_name, declr_paren, array, params, abs_pointer, abs_paren, abs_array, abs_params, SomeDeclr, no_declr, some_declr, SomeSize, no_size, some_size, size_value, size_star, Params, no_params, more_params, Init, init_value, init_braced, InitList, init_list, InitItems, no_init_items, more_init_items, Desigs, no_desigs, more_desigs, member_desig, index_desig, SomeInit, no_init, some_init, InitDeclrs, no_init_declrs, more_init_declrs, Declaration, declaration, Decl, decl_declaration, decl_assert, BlockItems, no_block_items, more_block_items, BlockItem, block_decl, block_stmt, Stmt, block, expr_stmt, attr_stmt, label, case_stmt, default_stmt, if_stmt, switch_stmt, while_stmt, do_stmt, for_stmt, goto_stmt, continue_stmt, break_stmt, return_stmt, asm_stmt, SomeElse, no_else, some_else, ForStart, start_declaration, start_value, complex_part, label_use, compat, choose, generic, typeof_value, typeof_type, align, auto_word, range_desig, old_desig, case_range, goto_value, block_labels, identifiers, base_name, Assocs, no_assocs, more_assocs, Assoc, typed_assoc, default_assoc}
use Rattle.c_tree.specs.WellFormed.{AreInitDeclrs, IsDeclaration, IsDeclr, has_auto}
use Rattle.type_table.specs.Types.{CType, base}
use Rattle.name_rules.specs.Spellings.{Named, Place, Spelling, place}
use Rattle.name_rules.specs.Faults.{fault_where, undeclared}
use Rattle.name_rules.specs.Identifiers.{OldParameter, Olds, identified, number_of_identifier, old_declared, old_declared_some, old_faults}
use Rattle.name_rules.specs.Pieces.{applied, decayed}
use Rattle.name_rules.specs.Scopes.{Names, enter, with_faults}
use Rattle.name_rules.specs.Declaring.{declared_some, has_word, untagged_number}
use Rattle.type_rules.specs.Tokens.{are_auto, declared_name, have_values}
use Rattle.type_rules.specs.Naming.{auto_declrs_named, declr_named, has_untagged, identifiers_named, is_tag_alone, old_declaration_named, old_declarations_named, old_declr_named, old_declrs_named, said_words, some_init_named}
use Rattle.row_rules.specs.Starting.{Around, Having, name_start, of_function, with_skeleton, without_skeleton}
use Rattle.row_rules.specs.Worlds.{World}
use Rattle.constraint_rules.specs.Selections.{declr_selections, expr_selections, old_declaration_selections, old_declarations_selections, old_declr_selections, old_declrs_selections, some_init_selections, words_selections}
use Rattle.constraint_rules.specs.Starts.{declr_starts, expr_starts, old_declaration_starts, old_declarations_starts, old_declr_starts, old_declrs_starts, some_init_starts, words_starts}
use Rattle.missing_laws.specs.Everywhere.{DeclarationHas, DeclarationsHave, InitDeclrsHave, NamedHas, OldDeclrHas}
use Rattle.missing_laws.specs.Finding.{AreFound, FirstIsMet, IsSettled, RoleHasSkeleton, TokenBegins}
use Rattle.missing_laws.proofs.Chosen.{AreChosen, first_chosen, last_chosen}
use Rattle.missing_laws.proofs.Found.{front, back}
use Rattle.missing_laws.proofs.Growing.{auto_declrs_grow, expr_grows, identifiers_grow, old_declaration_grows, old_declarations_grow, old_declr_grows, old_declrs_grow, old_faults_grow, old_some_grows, olds_where, params_grow, some_init_grows, some_size_grows, typed_by_grows}
use Rattle.missing_laws.proofs.Growth.{Grows, enter_grows, joins, keep_grows, leave_grows, some_grows}
use Rattle.missing_laws.proofs.Meant.{AllTrue, AreWell, Good, good_enter, good_faults, good_keep, good_leave, old_param_good, some_good}
use Rattle.missing_laws.proofs.Parts.{name_found}
use Rattle.missing_laws.proofs.Rows.{around}
use Rattle.missing_laws.proofs.Settling.{declr_ok, expr_ok, fault_false, params_ok, some_init_ok, some_size_ok, typed_good, values_behind, words_ok}
use Rattle.missing_laws.proofs.Types.{first_none, last_none}
use Rattle.missing_laws.proofs.Uses.{UsesDiffer}

module _ (w : World) (well : AreWell w.names.declared) (uses_differ : UsesDiffer w.names.uses)
    (clean : w.names.faults ≡ []) (all : List Lexeme) (own : Place) (f : Option Place) where
  abbrev u : Spelling
  u = w.spelling

  abbrev S : Names
  S = w.names

  abbrev U : ℕ → Type 0
  U token = TokenBegins w token

  abbrev V : ℕ → Type 0
  V token = FirstIsMet w token

  abbrev W : ℕ → Type 0
  W token = RoleHasSkeleton w token

  abbrev P : Expr → Type 0
  P e = IsSettled w e

  abbrev G : List Bool → Names → Type 0
  G bs s = Good w well bs s

  abbrev a : Around
  a = around w false None

  -- of two walks the one that is taken
  either_olds : (b : Bool) (bs : List Bool) (x y : Olds) (R : Type 0) → Grows (if b then x else y).names S →
      (b ≡ true → Grows x.names S → G bs x.names × R) → (b ≡ false → Grows y.names S → G bs y.names × R) →
      G bs (if b then x else y).names × R
  either_olds true bs x y R g left right = left refl g
  either_olds false bs x y R g left right = right refl g

  -- a fault where there are none
  no_fault_here : (token : ℕ) (s : Names) → Grows (with_faults (fault_where true (place u token) undeclared) s) S → ⊥
  no_fault_here token s g =
      let none : true ≡ false = fault_false w well uses_differ clean all true (place u token)
      (last_none s.faults _ (first_none (s.faults ++ fault_where true (place u token) undeclared) g.faults.0
      (sym g.faults.1 ∙ clean))) in
      cc

  declared_ok : (bs : List Bool) (it : Named) (t : CType) (o : Option ℕ) (olds : Olds) →
      Grows (old_declared u (Some own) it t o olds).names S → AreFound w (name_start (around w false f) it.token) →
      G (true ∷ bs) olds.names → G (true ∷ bs) (old_declared u (Some own) it t o olds).names × FirstIsMet w it.token
  declared_ok bs it t None olds g found h = absurd (no_fault_here it.token olds.names g)
  declared_ok bs it t (Some i) olds g found h =
      old_param_good w well false f bs it i (Some own) t _ g found (good_faults w well (true ∷ bs) _ olds.names h)

  old_some_ok : (bs : List Bool) (o : Option Named) (t : CType) (olds : Olds) →
      Grows (old_declared_some u (Some own) o t olds).names S →
      ((name : Named) → o ≡ Some name → AreFound w (name_start (around w false f) name.token))
      → G (true ∷ bs) olds.names →
      G (true ∷ bs) (old_declared_some u (Some own) o t olds).names × NamedHas V o
  old_some_ok bs None t olds g found h = (h, tt)
  old_some_ok bs (Some it) t olds g found h =
      declared_ok bs it t (number_of_identifier (u.key it.name) olds.list) olds g (found it refl) h

  old_declrs_ok : (words : List Keyword) (is_untagged : Bool) (t : CType) (ds : InitDeclrs)
      (bs : List Bool) (it : Olds) →
      AllTrue w well bs → AreInitDeclrs all ds → AreChosen w (old_declrs_selections u S ds) →
      AreFound w (old_declrs_starts a (of_function f) ds) →
      Grows (old_declrs_named u (Some own) words is_untagged t ds it).names S → G (true ∷ bs) it.names →
      G (true ∷ bs) (old_declrs_named u (Some own) words is_untagged t ds it).names × InitDeclrsHave P U V W ds
  old_declrs_ok words is_untagged t no_init_declrs bs it l wf ch found g h = (h, tt)
  old_declrs_ok words is_untagged t (more_init_declrs attrs d asm_label attrs2 init ds) bs it l wf ch found g h =
      let fd = front w (declr_starts a (of_function f) without_skeleton d) _ found in
      let behind = back w (declr_starts a (of_function f) without_skeleton d) _ found in
      let those = last_chosen w (declr_selections u S d) _ ch in
      let n : Names = (declr_named u None d it.names).names in
      let c : CType = applied (declr_named u None d it.names).pieces t in
      let olds : Olds = record it { names = n } in
      let x : Olds =
      record olds { names = declared_some u (untagged_number is_untagged t) (declared_name d) words c n } in
      let y : Olds = old_declared_some u (Some own) (declared_name d) (decayed c) olds in
      let after : Olds = if has_word keywords.Typedef words then x else y in
      let last : Olds = record after { names = some_init_named u init after.names } in
      let gr : Grows last.names S = joins (old_declrs_grow u (Some own) words false t ds last) g in
      let gi : Grows after.names S = joins (some_init_grows u init after.names) gr in
      let gn : Grows n after.names = olds_where u (has_word keywords.Typedef words) n x y
      (some_grows u (untagged_number is_untagged t) (declared_name d) words c n)
      (old_some_grows u (Some own) (declared_name d) (decayed c) olds) in
      let one = declr_ok w well uses_differ clean all None false None
      (of_function f) without_skeleton d true bs it.names tt wf.1 fd (joins gn gi) h in
      let two = either_olds (has_word keywords.Typedef words) (true ∷ bs) x y (NamedHas V (declared_name d)) gi
      (λ is gx. some_good w well false f bs (untagged_number is_untagged t) (declared_name d) words c n gx
      (λ name e. name_found w a (of_function f) without_skeleton d name e fd) one.0)
      (λ is gy. old_some_ok bs (declared_name d) (decayed c) olds gy
      (λ name e. name_found w a (of_function f) without_skeleton d name e fd) one.0) in
      let three =
      some_init_ok w well uses_differ clean all None false false init true bs after.names (λ is. (refl, l)) wf.5
      (λ is. first_chosen w (some_init_selections u S init) _ those)
      (front w (some_init_starts a init) _ behind) gr two.0 in
      let four = old_declrs_ok words false t ds bs last l wf.6 (last_chosen w (some_init_selections u S init) _ those)
      (back w (some_init_starts a init) _ behind) g three.0 in
      (four.0, (two.1, (one.1, (three.1 refl, four.1))))

  never_true : false ≡ true → ⊥
  never_true e = cc

  old_auto_ok : (words : List Keyword) (is_untagged : Bool) (semi : ℕ) (t : CType) (ds : InitDeclrs) (bs : List Bool)
      (s : Names) → AllTrue w well bs → have_values ds ≡ true → AreInitDeclrs all ds →
      AreChosen w (old_declrs_selections u S ds) → AreFound w (old_declrs_starts a (of_function f) ds) →
      Grows (auto_declrs_named u words is_untagged semi t ds s) S → G (true ∷ bs) s →
      G (true ∷ bs) (auto_declrs_named u words is_untagged semi t ds s) × InitDeclrsHave P U V W ds
  old_auto_ok words is_untagged semi t no_init_declrs bs s l v wf ch found g h = (h, tt)
  old_auto_ok words is_untagged semi t (more_init_declrs attrs d asm_label attrs2 no_init ds) bs s l v wf ch found g h =
      absurd (never_true v)
  old_auto_ok words is_untagged semi t
      (more_init_declrs attrs d asm_label attrs2 (some_init equal (init_braced list)) ds) bs s
      l v wf ch found g h = absurd (never_true v)
  old_auto_ok words is_untagged semi t
      (more_init_declrs attrs d asm_label attrs2 (some_init equal (init_value e)) ds) bs s
      l v wf ch found g h =
      let fd = front w (declr_starts a (of_function f) without_skeleton d) _ found in
      let behind = back w (declr_starts a (of_function f) without_skeleton d) _ found in
      let those = last_chosen w (declr_selections u S d) _ ch in
      let gr = joins (auto_declrs_grow u words false semi t ds _) g in
      let gt = joins (some_grows u (untagged_number is_untagged t) (declared_name d) words _ _) gr in
      let gv = joins (typed_by_grows u semi _ _) gt in
      let one =
      declr_ok w well uses_differ clean all None false None (of_function f) without_skeleton d true bs s tt wf.1 fd
      (joins (expr_grows u false e _) gv) h in
      let two = expr_ok w well uses_differ clean all None false false false e true bs _ (λ is. (refl, l)) wf.5.0
      (λ is. first_chosen w (expr_selections u S e) _ those) (front w (expr_starts a e) _ behind) gv one.0 in
      let three = some_good w well false f bs (untagged_number is_untagged t) (declared_name d) words _ _ gr
      (λ name e. name_found w a (of_function f) without_skeleton d name e fd)
      (typed_good w well uses_differ clean all (true ∷ bs) semi _ _ two.0) in
      let four = old_auto_ok words false semi t ds bs _ l v wf.6 (last_chosen w (expr_selections u S e) _ those)
      (back w (expr_starts a e) _ behind) g three.0 in
      (four.0, (three.1, (one.1, (two.1 refl, four.1))))

  old_declaration_ok : (d : Declaration) (bs : List Bool) (it : Olds) → AllTrue w well bs → IsDeclaration all d →
      AreChosen w (old_declaration_selections u S d) → AreFound w (old_declaration_starts a (of_function f) d) →
      Grows (old_declaration_named u (Some own) d it).names S → G (true ∷ bs) it.names →
      G (true ∷ bs) (old_declaration_named u (Some own) d it).names × DeclarationHas P U V W d
  old_declaration_ok (declaration exts ws ds semi) bs it l wf ch found g h =
      let behind = back w (words_starts a ws) _ found in
      let those = last_chosen w (words_selections u S ws) _ ch in
      let one =
      words_ok w well uses_differ clean all None false (is_tag_alone ws ds) ws (base []) [] true bs it.names wf.1
      (front w (words_starts a ws) _ found) (joins (olds_where u (are_auto ws ds) _ _ _
      (auto_declrs_grow u (said_words ws) (has_untagged ws) semi _ ds _)
      (old_declrs_grow u (Some own) (said_words ws) (has_untagged ws) _ ds _)) g) h in
      let two = either_olds (are_auto ws ds) (true ∷ bs) _ _ (InitDeclrsHave P U V W ds) g
      (λ is gx. old_auto_ok (said_words ws) (has_untagged ws) semi _ ds bs _ l
      (values_behind w well uses_differ clean all (has_auto ws) (have_values ds) is) wf.3 those behind gx one.0)
      (λ is gy. old_declrs_ok (said_words ws) (has_untagged ws) _ ds bs _ l wf.3 those behind gy one.0) in
      (two.0, (one.1, two.1))

  old_declarations_ok : (ds : List Declaration) (bs : List Bool) (it : Olds) → AllTrue w well bs →
      All (IsDeclaration all) ds → AreChosen w (old_declarations_selections u S ds) →
      AreFound w (old_declarations_starts a (of_function f) ds) →
      Grows (old_declarations_named u (Some own) ds it).names S → G (true ∷ bs) it.names →
      G (true ∷ bs) (old_declarations_named u (Some own) ds it).names × DeclarationsHave P U V W ds
  old_declarations_ok [] bs it l wf ch found g h = (h, tt)
  old_declarations_ok (d ∷ ds) bs it l wf ch found g h =
      let one = old_declaration_ok d bs it l (All-head (IsDeclaration all) d ds wf)
      (first_chosen w (old_declaration_selections u S d) _ ch)
      (front w (old_declaration_starts a (of_function f) d) _ found)
      (joins (old_declarations_grow u (Some own) ds (old_declaration_named u (Some own) d it)) g) h in
      let two = old_declarations_ok ds bs (old_declaration_named u (Some own) d it) l
      (All-tail (IsDeclaration all) d ds wf) (last_chosen w (old_declaration_selections u S d) _ ch)
      (back w (old_declaration_starts a (of_function f) d) _ found) g one.0 in
      (two.0, (one.1, two.1))

  identifiers_ok : (names : List Identifier) (bs : List Bool) (it : Olds) → G bs it.names →
      G bs (identifiers_named u names it).names
  identifiers_ok [] bs it h = h
  identifiers_ok (name ∷ names) bs it h =
      identifiers_ok names bs (identified u name.token name.name it) (good_faults w well bs _ it.names h)

  old_faults_ok : (list : List OldParameter) (bs : List Bool) (s : Names) → G bs s → G bs (old_faults u list s)
  old_faults_ok [] bs s h = h
  old_faults_ok (it ∷ others) bs s h = old_faults_ok others bs _ (good_faults w well bs _ s h)

  pub old_declr_ok : (ds : List Declaration) (d : Declr) (b : Bool) (bs : List Bool) (s : Names)
      → AllTrue w well (b ∷ bs) →
      All (IsDeclaration all) ds → IsDeclr all d → AreChosen w (old_declr_selections u S ds d) →
      AreFound w (old_declr_starts a (of_function f) ds d) → Grows (old_declr_named u (Some own) ds d s).names S →
      G (b ∷ bs) s → G (b ∷ bs) (old_declr_named u (Some own) ds d s).names × OldDeclrHas P U V W ds d
  old_declr_ok ds (identifiers d opening names closing) b bs s l wfs wf ch found g h =
      let n : Names = (declr_named u None d s).names in
      let first : Olds = record { list = []; names = enter n } in
      let listed : Olds = identifiers_named u names first in
      let done : Olds = old_declarations_named u (Some own) ds listed in
      let gf : Grows done.names S =
      joins (old_faults_grow u done.list done.names) (joins (keep_grows (Some own) _) g) in
      let gd : Grows listed.names S = joins (old_declarations_grow u (Some own) ds listed) gf in
      let one = declr_ok w well uses_differ clean all None false None with_skeleton without_skeleton d b bs s tt wf.0
      (front w (declr_starts a with_skeleton without_skeleton d) _ found)
      (joins (enter_grows n) (joins (identifiers_grow u names first) gd)) h in
      let two = identifiers_ok names (true ∷ b ∷ bs) first (good_enter w well true (b ∷ bs) n one.0) in
      let three = old_declarations_ok ds (b ∷ bs) listed l wfs (last_chosen w (declr_selections u S d) _ ch)
      (back w (declr_starts a with_skeleton without_skeleton d) _ found) gf two in (
        good_keep w well true (b ∷ bs) (Some own) _ (inr refl)
            (old_faults_ok done.list (true ∷ b ∷ bs) done.names three.0),
        (one.1, three.1),
      )
  old_declr_ok ds (pointer star words d) b bs s l wfs wf ch found g h = old_declr_ok ds d b bs s l wfs wf.1 ch found g h
  old_declr_ok ds (declr_paren opening attrs d closing) b bs s l wfs wf ch found g h =
      old_declr_ok ds d b bs s l wfs wf.1 ch found g h
  old_declr_ok ds (array d opening words size closing) b bs s l wfs wf ch found g h =
      let one = old_declr_ok ds d b bs s l wfs wf.0 (first_chosen w (old_declr_selections u S ds d) _ ch)
      (front w (old_declr_starts a (of_function f) ds d) _ found) (joins (some_size_grows u size _) g) h in (
        some_size_ok w well uses_differ clean all None false size b bs _ wf.4
            (back w (old_declr_starts a (of_function f) ds d) _ found) g one.0,
        one.1,
      )
  old_declr_ok ds (params d opening ps dots closing) b bs s l wfs wf ch found g h =
      let gp = joins (leave_grows _) g in
      let one = old_declr_ok ds d b bs s l wfs wf.0 (first_chosen w (old_declr_selections u S ds d) _ ch)
      (front w (old_declr_starts a (of_function f) ds d) _ found)
      (joins (enter_grows _) (joins (params_grow u 0 None ps _) gp)) h in
      let two = params_ok w well uses_differ clean all None false 0 None without_skeleton ps false (b ∷ bs) _
      (λ e. absurd cc) wf.3 (back w (old_declr_starts a (of_function f) ds d) _ found) gp
      (good_enter w well false (b ∷ bs) _ one.0) in
      (good_leave w well false (b ∷ bs) _ two.0, (one.1, two.1))
  old_declr_ok ds (base_name token) b bs s l wfs wf ch found g h = (h, tt)
  old_declr_ok ds (declr_name token name) b bs s l wfs wf ch found g h =
      declr_ok w well uses_differ clean all None false None with_skeleton without_skeleton
      (declr_name token name) b bs s tt wf found g h
  old_declr_ok ds (abs_pointer star words d) b bs s l wfs wf ch found g h =
      declr_ok w well uses_differ clean all None false None with_skeleton without_skeleton
      (abs_pointer star words d) b bs s tt wf found g h
  old_declr_ok ds (abs_paren opening attrs d closing) b bs s l wfs wf ch found g h =
      declr_ok w well uses_differ clean all None false None with_skeleton without_skeleton
      (abs_paren opening attrs d closing) b bs s tt wf found g h
  old_declr_ok ds (abs_array d opening words size closing) b bs s l wfs wf ch found g h =
      declr_ok w well uses_differ clean all None false None with_skeleton without_skeleton
      (abs_array d opening words size closing) b bs s tt wf found g h
  old_declr_ok ds (abs_params d opening ps dots closing) b bs s l wfs wf ch found g h =
      declr_ok w well uses_differ clean all None false None with_skeleton without_skeleton
      (abs_params d opening ps dots closing) b bs s tt wf found g h
