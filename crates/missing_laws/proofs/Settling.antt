-- Along a tree names stay good, and where its constraints count each expression is settled.
use Rattle.std.specs.Prelude.{◌&&◌, if◌then◌else◌}
use Rattle.std.proofs.Common.{◌≡◌, ℕ, suc, Bool, true, false, List, [], ◌∷◌, ◌++◌, Option, None, Some, refl, sym, ap, subst, ◌∙◌, append_assoc}
use Rattle.std.proofs.lemmas.Option.{same_Some}
use Rattle.c_words.specs.declared.kinds.Keyword.{Keyword}
use Rattle.c_syntax.specs.declared.parts.Identifier.{Identifier}
use Rattle.tape_ops.specs.declared.specifier.TagKind.{TagKind}
use Rattle.tape_ops.specs.declared.specifier.TagKind.TheVariants as tags
use Rattle.c_tree.specs.Tree.{Expr, operation, cast, prefix, sizeof_value, sizeof_type, extension, index, call, dot, arrow, post, compound, name_use, number_use, char_use, text_use, paren, statement_expr, va_arg, va_start, va_copy, offset, comma, assign, cond, binary, SomeExpr, no_expr, some_expr, Exprs, no_exprs, more_exprs, SpecWords, no_words, more_words, SpecWord, storage, thread, inline_word, noreturn, qualifier, basic, struct_type, enum_type, typedef_name, attribute, SomeBody, no_body, some_body, StructItems, no_struct_items, more_struct_items, StructItem, member, member_semi, member_assert, MemDeclrs, no_mem_declrs, more_mem_declrs, MemDeclr, named, unnamed, SomeValue, no_value, some_value, EnumType, enum_of, no_enum_body, some_enum_body, Enumerators, no_enumerators, more_enumerators, Declr, pointer, declr_name, declr_paren, array, params, abs_pointer, abs_paren, abs_array, abs_params, SomeDeclr, no_declr, some_declr, SomeSize, no_size, some_size, size_value, size_star, Params, no_params, more_params, Init, init_value, init_braced, InitList, init_list, InitItems, no_init_items, more_init_items, Desigs, no_desigs, more_desigs, member_desig, index_desig, SomeInit, no_init, some_init, InitDeclrs, no_init_declrs, more_init_declrs, Declaration, declaration, Decl, decl_declaration, decl_assert, BlockItems, no_block_items, more_block_items, BlockItem, block_decl, block_stmt, Stmt, block, expr_stmt, attr_stmt, label, case_stmt, default_stmt, if_stmt, switch_stmt, while_stmt, do_stmt, for_stmt, goto_stmt, continue_stmt, break_stmt, return_stmt, asm_stmt, SomeElse, no_else, some_else, ForStart, start_declaration, start_value, complex_part, label_use, compat, choose, generic, typeof_value, typeof_type, align, auto_word, range_desig, old_desig, case_range, goto_value, block_labels, identifiers, base_name, Assocs, no_assocs, more_assocs, Assoc, typed_assoc, default_assoc}
use Rattle.type_table.specs.Types.{Words, CType, base, words_of}
use Rattle.name_rules.specs.Spellings.{Spelling, Place, place, Named}
use Rattle.name_rules.specs.Scopes.{enumerator_role, Names, meaning}
use Rattle.name_rules.specs.Declaring.{used, type_named, untagged_number, own_where, declared_some}
use Rattle.c_tree.specs.Firsts.{first_word}
use Rattle.type_rules.specs.Tokens.{declared_name, some_declared_name, is_bare, are_auto, have_values}
use Rattle.type_rules.specs.Naming.{tag_kind, tag_named, body_begun, unnamed_by, unnamed_among, is_tag_alone, said_words, has_untagged, words_behind, expr_named, some_expr_named, exprs_named, words_named, word_named, struct_named, struct_items_named, struct_item_named, unnamed_where, mem_declrs_named, mem_declr_named, some_value_named, enum_named, enumerators_named, declr_named, some_declr_named, some_size_named, params_named, init_named, init_list_named, init_items_named, desigs_named, some_init_named, init_declrs_named, declaration_named, decl_named, block_items_named, block_item_named, stmt_named, some_else_named, for_start_named, assoc_named, assocs_named, auto_declrs_named, typed_by, with_typed, with_pieced}
use Rattle.c_tree.specs.declared.lexeme.Lexeme.{Lexeme}
use Rattle.c_tree.specs.WellFormed.{IsExpr, IsSomeExpr, AreArguments, IsInit, IsInitList, AreInitItems, IsSomeInit, AreInitDeclrs, IsDeclaration, IsDecl, AreBlockItems, IsBlockItem, IsStmt, IsOther, IsStart, AreAssocs, AreEnumerators, AreMemDeclrs, AreParams, AreSpecWords, AreStructItems, IsAssoc, IsBody, IsDeclr, IsEnum, IsMemDeclr, IsSize, IsSomeDeclr, IsSomeValue, IsSpecWord, IsStructItem, has_auto, AreTypeWords, IsSomeAbstract}
use Rattle.c_tree.proofs.Weaker.{type_words_are, abstract_is, direct_is}
use Rattle.type_table.specs.Types.{pointer}
use Rattle.name_rules.specs.Faults.{undeclared, fault_where}
use Rattle.name_rules.specs.Scopes.{Declared, Meaning, NameUse, Role, TypeNamed, Use, called, declared_at, means, means_thing, means_type}
use Rattle.name_rules.specs.Scopes as scopes
use Rattle.name_rules.specs.Declaring.{is_missing, use_by}
use Rattle.name_rules.specs.Uses.{declared_shape, some_declared_shape, type_named_at, use_at, use_shape}
use Rattle.row_rules.specs.Starting.{Around, Having, had_name, having_where, name_start, of_function, with_skeleton, without_skeleton, Selection}
use Rattle.row_rules.specs.Worlds.{World, at}
use Rattle.constraint_rules.specs.Starts.{expr_starts, some_expr_starts, exprs_starts, words_starts, word_starts, some_body_starts, struct_items_starts, struct_item_starts, members_starts, mem_declrs_starts, mem_declr_starts, some_value_starts, enum_starts, enumerators_starts, unnamed_start, unnamed_starts, declr_starts, some_declr_starts, some_size_starts, params_starts, init_starts, init_list_starts, init_items_starts, desigs_starts, some_init_starts, init_declrs_starts, declaration_starts, decl_starts, block_items_starts, block_item_starts, stmt_starts, some_else_starts, for_start_starts, assoc_starts, assocs_starts, desig_starts}
use Rattle.missing_laws.specs.Everywhere.{UnnamedHas, UnnamedHave, WordsHave, WordHas, SomeBodyHas, StructItemsHave, StructItemHas, MembersHave, MemDeclrsHave, MemDeclrHas, DeclrHas, SomeDeclrHas, ParamsHave, ExprHas, SomeExprHas, ExprsHave, InitHas, InitListHas, InitItemsHave, SomeInitHas, InitDeclrsHave, DeclarationHas, DeclHas, BlockItemsHave, BlockItemHas, StmtHas, SomeElseHas, ForStartHas, AssocHas, AssocsHave, NamedHas}
use Rattle.missing_laws.specs.Finding.{AreFound, FirstIsMet, IsSettled, NameBegins, RoleHasSkeleton, TokenBegins, TypeIsKnown, UseBegins, UseIsKnown}
use Rattle.constraint_rules.specs.Selections.{assoc_selections, assocs_selections, block_item_selections, block_items_selections, decl_selections, declaration_selections, declr_selections, desigs_selections, expr_selections, exprs_selections, for_start_selections, init_declrs_selections, init_items_selections, init_list_selections, init_selections, some_declr_selections, some_else_selections, some_expr_selections, some_init_selections, stmt_selections, words_selections}
use Rattle.missing_laws.proofs.Chosen.{AreChosen, first_chosen, last_chosen}
use Rattle.missing_laws.proofs.Forms.{IndicesAre, desigs_are, steps_are}
use Rattle.name_rules.specs.Pieces.{applied, with_words}
use Rattle.name_rules.specs.Values.{value}
use Rattle.type_rules.specs.Shapes.{shape_of}
use Rattle.missing_laws.proofs.Found.{front, back}
use Rattle.missing_laws.proofs.Rows.{around}
use Rattle.missing_laws.proofs.Types.{first_none, last_none, typed}
use Rattle.missing_laws.proofs.Parts.{name_found, some_name_found}
use Rattle.missing_laws.proofs.Growth.{Grows, joins, enter_grows, leave_grows, keep_grows, type_grows, here_grows, some_grows, param_grows, member_grows, grows_where}
use Rattle.missing_laws.proofs.Growing.{unnamed_among_grows, expr_grows, some_expr_grows, exprs_grow, words_grow, struct_items_grow, unnamed_where_grows, mem_declrs_grow, some_value_grows, enumerators_grow, some_declr_grows, some_size_grows, params_grow, init_grows, init_list_grows, init_items_grow, desigs_grow, some_init_grows, init_declrs_grow, block_items_grow, stmt_grows, some_else_grows, assoc_grows, assocs_grow, auto_declrs_grow, typed_by_grows}
use Rattle.missing_laws.proofs.Meant.{AreWell, Good, Meant, SomeMeaning, AllTrue, through, good_enter, good_leave, good_used, good_type, good_found, good_untagged, good_body, good_keep, enumerator_good, param_good, param_has, some_good, member_good, unnamed_good, good_faults}
use Rattle.missing_laws.proofs.Uses.{UsesDiffer, use_there, type_there, some_nameless, Has, OwnOk, is_own, own_has, keeps, where_ok, prefix_is}

module _ (w : World) (well : AreWell w.names.declared) (uses_differ : UsesDiffer w.names.uses)
    (clean : w.names.faults ≡ []) (all : List Lexeme) where
  abbrev u : Spelling
  u = w.spelling

  abbrev S : Names
  S = w.names

  abbrev U : ℕ → Type 0
  U token = TokenBegins w token

  abbrev V : ℕ → Type 0
  V token = FirstIsMet w token

  abbrev W : ℕ → Type 0
  W token = RoleHasSkeleton w token

  abbrev P : Expr → Type 0
  P e = IsSettled w e

  abbrev G : List Bool → Names → Type 0
  G bs s = Good w well bs s

  abbrev Loud : Bool → List Bool → Type 0
  Loud r bs = r ≡ false → AllTrue w well bs

  chf : {r : Bool} (xs ys : List Selection) → (r ≡ false → AreChosen w (xs ++ ys)) → r ≡ false → AreChosen w xs
  chf xs ys h is = first_chosen w xs ys (h is)

  chb : {r : Bool} (xs ys : List Selection) → (r ≡ false → AreChosen w (xs ++ ys)) → r ≡ false → AreChosen w ys
  chb xs ys h is = last_chosen w xs ys (h is)

  -- of two walks the one that is taken
  either_ok : (b : Bool) (bs : List Bool) (x y : Names) (R : Type 0) → Grows (if b then x else y) S →
      (b ≡ true → Grows x S → G bs x × R) → (b ≡ false → Grows y S → G bs y × R) → G bs (if b then x else y) × R
  either_ok true bs x y R g left right = left refl g
  either_ok false bs x y R g left right = right refl g

  pub typed_good : (bs : List Bool) (token : ℕ) (o : Option CType) (s : Names) → G bs s
      → G bs (typed_by u token o s).names
  typed_good bs token None s h = good_faults w well bs _ s h
  typed_good bs token (Some t) s h = h

  pub values_behind : (x y : Bool) → (x && y) ≡ true → y ≡ true
  values_behind true y e = e
  values_behind false y e = absurd cc

  -- types' names

  abbrev type_name_named : SpecWords → SomeDeclr → Names → Names
  type_name_named ws d s =
      with_typed (words_named u false ws (base []) [] s)
      (λ t s. with_pieced (some_declr_named u d s) (λ ps s. type_named (place u (first_word ws)) (applied ps t) s))

  type_name_grows : (ws : SpecWords) (d : SomeDeclr) (s : Names) → Grows s (type_name_named ws d s)
  type_name_grows ws d s = joins (words_grow u false ws (base []) [] s)
      (joins (some_declr_grows u d (words_named u false ws (base []) [] s).names) (type_grows _ _ _))

  type_known : (ws : SpecWords) (t : CType) (s : Names) → Grows (type_named (place u (first_word ws)) t s) S →
      TypeIsKnown w ws
  type_known ws t s g =
      let entry : TypeNamed = record { at = place u (first_word ws); type = t } in
      let whole : S.type_names ≡ s.type_names ++ entry ∷ g.types.0 =
      g.types.1 ∙ append_assoc s.type_names (entry ∷ []) g.types.0 in
      subst (λ (types : List TypeNamed). (t : CType)
      × (type_named_at types (place u (first_word ws)) ≡ Some t)) (sym whole)
      (type_there s.type_names g.types.0 entry)

  -- names

  shape_is_known : (d : Declared) (role : Role) → (t : CType) × ((declared_shape role d.type).type ≡ Some t)
  shape_is_known d scopes.typedef_role = (_, refl)
  shape_is_known d scopes.object_role = (_, refl)
  shape_is_known d scopes.function_role = (_, refl)
  shape_is_known d (scopes.parameter_role i) = (_, refl)
  shape_is_known d (scopes.field_role n i) = (_, refl)
  shape_is_known d scopes.enumerator_role = (_, refl)

  same_place : (p q : Place) → means p ≡ means q → p ≡ q
  same_place p q e = cc

  meant_use : (token : ℕ) (p : Place) → use_at S.uses (at w token) ≡ means p → Meant w well p →
      UseIsKnown w token × UseBegins w token
  meant_use token p there h = (
    subst (λ (it : Use). (t : CType) × ((use_shape S it).type ≡ Some t)) (sym there)
        (subst (λ (o : Option Declared). (t : CType) × ((some_declared_shape o).type ≡ Some t)) (sym h.1)
        (shape_is_known h.0 h.0.role)),
    λ q d e f.
        let same : p ≡ q = same_place p q (sym there ∙ e) in
        let found : h.0 ≡ d = same_Some h.0 d
        (sym h.1 ∙ (ap (λ (r : Place). declared_at S.declared r) same ∙ f)) in
        subst (λ (it : Declared). NameBegins w it it.role) found h.2,
  )

  called_use : (token : ℕ) → use_at S.uses (at w token) ≡ called → UseIsKnown w token × UseBegins w token
  called_use token there = (
    subst (λ (it : Use). (t : CType) × ((use_shape S it).type ≡ Some t)) (sym there) (_, refl),
    λ q d e f. absurd (never q (sym there ∙ e)),
  )
    where
      never : (q : Place) → called ≡ means q → ⊥
      never q e = absurd cc

  by_meaning : (token : ℕ) (c : Bool) (o : Option Meaning) → SomeMeaning w well o →
      use_at S.uses (at w token) ≡ use_by o c → is_missing (use_by o c) ≡ false → UseIsKnown w token × UseBegins w token
  by_meaning token c (Some (means_thing p)) h there e = meant_use token p there h
  by_meaning token c (Some (means_type t)) h there e = absurd cc
  by_meaning token true None h there e = called_use token there
  by_meaning token false None h there e = absurd cc

  pub fault_false : (b : Bool) (at : Place) → fault_where b at undeclared ≡ [] → b ≡ false
  fault_false true at h = absurd cc
  fault_false false at h = refl

  pub use_out : (c : Bool) (token name : ℕ) (bs : List Bool) (s : Names) → AllTrue w well bs →
      Grows (used u c token name s) S → G bs s → UseIsKnown w token × UseBegins w token
  use_out c token name bs s trues g h =
      let it = use_by (meaning s (u.key name)) c in
      let entry : NameUse = record { at = at w token; use_of = it } in
      let whole : S.uses ≡ s.uses ++ entry ∷ g.uses.0 =
      g.uses.1 ∙ append_assoc s.uses (entry ∷ []) g.uses.0 in
      let there : use_at S.uses (at w token) ≡ it =
      ap (λ (its : List NameUse). use_at its (at w token)) whole
      ∙ use_there s.uses g.uses.0 entry (subst UsesDiffer whole uses_differ) in
      by_meaning token c (meaning s (u.key name))
      (through w well bs s.scopes s.round (u.key name) trues h.scopes h.round) there
      (fault_false (is_missing it) (at w token)
      (last_none s.faults _ (first_none (s.faults ++ fault_where (is_missing it) (at w token) undeclared) g.faults.0
      (sym g.faults.1 ∙ clean))))

  -- tags

  tag_good : (b : Bool) (bs : List Bool) (alone : Bool) (kind : TagKind) (tag : Option Identifier)
      (t : CType) (s : Names) →
      G (b ∷ bs) s → G (b ∷ bs) (tag_named u alone kind tag t s).names
  tag_good b bs alone kind None t s h = h
  tag_good b bs alone kind (Some tag) t s h = good_found w well b bs _ u kind tag.token tag.name s h

  begun_good : (b : Bool) (bs : List Bool) (kind : TagKind) (keyword : ℕ) (tag : Option Identifier) (s : Names) →
      G (b ∷ bs) s → G (b ∷ bs) (body_begun u kind keyword tag s).names
  begun_good b bs kind keyword None s h = good_body w well (b ∷ bs) (place u keyword) kind None _
      (good_untagged w well (b ∷ bs) (place u keyword) kind s h)
  begun_good b bs kind keyword (Some tag) s h = good_body w well (b ∷ bs) (place u tag.token) kind
      (Some (u.key tag.name)) _
      (good_found w well b bs _ u kind tag.token tag.name s h)

  module _ (f : Option Place) where
    abbrev a : Bool → Around
    a q = around w q f

    -- the name of an own parameter
    own_name : (q : Bool) (h : Having) (token : ℕ) → Has h → AreFound w (had_name h (a q) token) →
        (g : Option Place) × AreFound w (name_start (around w q g) token)
    own_name q with_skeleton token has found = (f, found)
    own_name q (of_function g) token has found = (g, found)
    own_name q without_skeleton token has found = absurd has

    unnamed_is : (q : Bool) (bs : List Bool) (word : SpecWord) (n : ℕ) (t : CType) (s : Names) →
        Grows (unnamed_by u word n t s) S → AreFound w (unnamed_start (a q) word) → G bs s →
        G bs (unnamed_by u word n t s) × UnnamedHas U V W word
    unnamed_is q bs (struct_type word attrs None body) n t s g found h =
        unnamed_good w well q f bs word.token n t s g found h
    unnamed_is q bs (struct_type word attrs (Some tag) body) n t s g found h = (h, tt)
    unnamed_is q bs (storage word) n t s g found h = (h, tt)
    unnamed_is q bs (thread token) n t s g found h = (h, tt)
    unnamed_is q bs (inline_word token) n t s g found h = (h, tt)
    unnamed_is q bs (noreturn token) n t s g found h = (h, tt)
    unnamed_is q bs (qualifier it) n t s g found h = (h, tt)
    unnamed_is q bs (basic word) n t s g found h = (h, tt)
    unnamed_is q bs (enum_type e) n t s g found h = (h, tt)
    unnamed_is q bs (typedef_name name) n t s g found h = (h, tt)
    unnamed_is q bs (attribute attr) n t s g found h = (h, tt)
    unnamed_is q bs (typeof_value keyword opening e closing) n t s g found h = (h, tt)
    unnamed_is q bs (typeof_type word opening ws d closing) n t s g found h = (h, tt)
    unnamed_is q bs (align attr) n t s g found h = (h, tt)
    unnamed_is q bs (auto_word token) n t s g found h = (h, tt)

    all_unnamed : (q : Bool) (bs : List Bool) (ws : SpecWords) (n : ℕ) (t : CType) (s : Names) →
        Grows (unnamed_among u ws n t s) S → AreFound w (unnamed_starts (a q) ws) → G bs s →
        G bs (unnamed_among u ws n t s) × UnnamedHave U V W ws
    all_unnamed q bs no_words n t s g found h = (h, tt)
    all_unnamed q bs (more_words word ws) n t s g found h =
        let one = unnamed_is q bs word n t s (joins (unnamed_among_grows u ws n t (unnamed_by u word n t s)) g)
        (front w (unnamed_start (a q) word) _ found) h in
        let rest =
        all_unnamed q bs ws n t (unnamed_by u word n t s) g (back w (unnamed_start (a q) word) _ found) one.0 in
        (rest.0, (one.1, rest.1))

    -- a name that has the type of its initialiser is declared behind that

    abbrev auto_state : List Keyword → Bool → ℕ → CType → Option Named → Expr → Names → Names
    auto_state words is_untagged semi t o e n =
        with_typed (typed_by u semi (value (shape_of u n e)) n)
        (λ bare s. declared_some u (untagged_number is_untagged t) o words (with_words (words_of t) bare) s)

    auto_state_grows : (words : List Keyword) (is_untagged : Bool) (semi : ℕ) (t : CType) (o : Option Named) (e : Expr)
        (n : Names) → Grows n (auto_state words is_untagged semi t o e n)
    auto_state_grows words is_untagged semi t o e n = joins (typed_by_grows u semi (value (shape_of u n e)) n)
        (some_grows u (untagged_number is_untagged t) o words _ _)

    auto_good : (q : Bool) (bs : List Bool) (words : List Keyword) (is_untagged : Bool) (semi : ℕ) (t : CType)
        (o : Option Named) (e : Expr) (n : Names) → Grows (auto_state words is_untagged semi t o e n) S →
        ((name : Named) → o ≡ Some name → AreFound w (name_start (a q) name.token)) → G (true ∷ bs) n →
        G (true ∷ bs) (auto_state words is_untagged semi t o e n) × NamedHas V o
    auto_good q bs words is_untagged semi t o e n g found h =
        some_good w well q f bs (untagged_number is_untagged t) o words _ _ g found
        (typed_good (true ∷ bs) semi (value (shape_of u n e)) n h)

    -- the name of a type, by what is said of its words and its declarator
    type_by : (ws : SpecWords) (d : SomeDeclr) (b : Bool) (bs : List Bool) (s : Names) →
        (Grows (words_named u false ws (base []) [] s).names S →
        G (b ∷ bs) (words_named u false ws (base []) [] s).names × WordsHave U V W ws) →
        (Grows (some_declr_named u d (words_named u false ws (base []) [] s).names).names S →
        G (b ∷ bs) (words_named u false ws (base []) [] s).names →
        G (b ∷ bs) (some_declr_named u d (words_named u false ws (base []) [] s).names).names × SomeDeclrHas U V W d) →
        Grows (type_name_named ws d s) S →
        G (b ∷ bs) (type_name_named ws d s) × (WordsHave U V W ws × (SomeDeclrHas U V W d × TypeIsKnown w ws))
    type_by ws d b bs s start behind g =
        let n : Names = (words_named u false ws (base []) [] s).names in
        let m : Names = (some_declr_named u d n).names in
        let c : CType = applied (some_declr_named u d n).pieces (words_named u false ws (base []) [] s).type in
        let gd : Grows m S = joins (type_grows (place u (first_word ws)) c m) g in
        let one = start (joins (some_declr_grows u d n) gd) in
        let two = behind gd one.0 in
        (good_type w well (b ∷ bs) (place u (first_word ws)) c m two.0, (one.1, (two.1, type_known ws c m g)))

    mutual
      pub expr_ok : (q r c : Bool) (e : Expr) (b : Bool) (bs : List Bool) (s : Names) → Loud r (b ∷ bs) →
          IsExpr all e → (r ≡ false → AreChosen w (expr_selections u S e)) → AreFound w (expr_starts (a q) e)
          → Grows (expr_named u c e s) S → G (b ∷ bs) s →
          G (b ∷ bs) (expr_named u c e s) × (r ≡ false → ExprHas P U V W e)
      expr_ok q r c (operation e comma token e2) b bs s l wf ch found g h =
          let one =
          expr_ok q r false e b bs s l wf.0 (chf (expr_selections u S e) _ ch) (front w (expr_starts (a q) e) _ found)
          (joins (expr_grows u false e2 _) g) h in
          let two = expr_ok q r false e2 b bs _ l wf.1 (chb (expr_selections u S e) _ ch)
          (back w (expr_starts (a q) e) _ found) g one.0 in
          (two.0, λ is. (tt, (one.1 is, (tt, two.1 is))))
      expr_ok q r c (operation e (assign p) token e2) b bs s l wf ch found g h =
          let one =
          expr_ok q r false e b bs s l wf.0 (chf (expr_selections u S e) _ ch) (front w (expr_starts (a q) e) _ found)
          (joins (expr_grows u false e2 _) g) h in
          let two = expr_ok q r false e2 b bs _ l wf.1 (chb (expr_selections u S e) _ ch)
          (back w (expr_starts (a q) e) _ found) g one.0 in
          (two.0, λ is. (tt, (one.1 is, (tt, two.1 is))))
      expr_ok q r c (operation e (cond no_expr colon) token e2) b bs s l wf ch found g h =
          let behind = back w (expr_starts (a q) e) _ found in
          let one =
          expr_ok q r false e b bs s l wf.0 (chf (expr_selections u S e) _ ch) (front w (expr_starts (a q) e) _ found)
          (joins (expr_grows u false e2 _) g) h in
          let two = expr_ok q r false e2 b bs _ l wf.1 (chb (expr_selections u S e) _ ch)
          (front w (expr_starts (a q) e2) _ behind) g one.0 in
          (two.0, λ is. (tt, (one.1 is, (tt, two.1 is))))
      expr_ok q r c (operation e (cond (some_expr m) colon) token e2) b bs s l wf ch found g h =
          let behind = back w (expr_starts (a q) e) _ found in
          let last = back w (expr_starts (a q) m) _ behind in
          let gm = joins (expr_grows u false e2 _) g in
          let one =
          expr_ok q r false e b bs s l wf.0 (chf (expr_selections u S e) _ ch) (front w (expr_starts (a q) e) _ found)
          (joins (expr_grows u false m _) gm) h in
          let mid = expr_ok q r false m b bs _ l wf.3 (chf (expr_selections u S m) _ (chb (expr_selections u S e) _ ch))
          (front w (expr_starts (a q) m) _ behind) gm one.0 in
          let two =
          expr_ok q r false e2 b bs _ l wf.1 (chb (expr_selections u S m) _ (chb (expr_selections u S e) _ ch))
          (front w (expr_starts (a q) e2) _ last) g mid.0 in
          (two.0, λ is. (tt, (one.1 is, (mid.1 is, two.1 is))))
      expr_ok q r c (operation e (binary p) token e2) b bs s l wf ch found g h =
          let behind = back w (expr_starts (a q) e) _ found in
          let one =
          expr_ok q r false e b bs s l wf.0 (chf (expr_selections u S e) _ ch) (front w (expr_starts (a q) e) _ found)
          (joins (expr_grows u false e2 _) g) h in
          let two = expr_ok q r false e2 b bs _ l wf.1 (chb (expr_selections u S e) _ ch)
          (front w (expr_starts (a q) e2) _ behind) g one.0 in
          (two.0, λ is. (tt, (one.1 is, (tt, two.1 is))))
      expr_ok q r c (cast opening ws d closing e) b bs s l wf ch found g h =
          let hd = back w (words_starts (a q) ws) _ found in
          let n : Names = type_name_named ws d s in
          let one = type_by ws d b bs s
          (λ gx. words_ok q false ws (base []) [] b bs s (type_words_are all ws wf.1)
          (front w (words_starts (a q) ws) _ found) gx h)
          (λ gx hx. some_declr_ok q with_skeleton d b bs _ (abstract_is all d wf.2)
          (front w (some_declr_starts (a q) with_skeleton d) _ hd) gx hx) (joins (expr_grows u false e n) g) in
          let two =
          expr_ok q r false e b bs n l wf.3 (chb (some_declr_selections u S d) _ (chb (words_selections u S ws) _ ch))
          (front w (expr_starts (a q) e) _ (back w (some_declr_starts (a q) with_skeleton d) _ hd)) g one.0 in
          (two.0, λ is. ((one.1.1.1, some_nameless all d wf.2), (one.1.0, (one.1.1.0, two.1 is))))
      expr_ok q r c (prefix token p e) b bs s l wf ch found g h =
          let one = expr_ok q r false e b bs s l wf.0 ch (front w (expr_starts (a q) e) _ found) g h in
          (one.0, λ is. (prefix_is p e wf.1, one.1 is))
      expr_ok q r c (sizeof_value word e) b bs s l wf ch found g h =
          let one = expr_ok true true false e b bs s (λ is. absurd cc) wf.0 (λ is. absurd cc)
          (front w (expr_starts (a true) e) _ found) g h in
          (one.0, λ is. tt)
      expr_ok q r c (sizeof_type word opening ws d closing) b bs s l wf ch found g h =
          let hd = back w (words_starts (a true) ws) _ found in
          let one = type_by ws d b bs s
          (λ gx. words_ok true false ws (base []) [] b bs s (type_words_are all ws wf.1)
          (front w (words_starts (a true) ws) _ found) gx h)
          (λ gx hx. some_declr_ok true with_skeleton d b bs _ (abstract_is all d wf.2)
          (front w (some_declr_starts (a true) with_skeleton d) _ hd) gx hx) g in
          (one.0, λ is. tt)
      expr_ok q r c (extension keyword e) b bs s l wf ch found g h =
          let one = expr_ok q r false e b bs s l wf.0 ch found g h in (one.0, λ is. (tt, one.1 is))
      expr_ok q r c (index e opening e2 closing) b bs s l wf ch found g h =
          let one =
          expr_ok q r false e b bs s l wf.0 (chf (expr_selections u S e) _ ch) (front w (expr_starts (a q) e) _ found)
          (joins (expr_grows u false e2 _) g) h in
          let two = expr_ok q r false e2 b bs _ l wf.1 (chb (expr_selections u S e) _ ch)
          (back w (expr_starts (a q) e) _ found) g one.0 in
          (two.0, λ is. (tt, (one.1 is, two.1 is)))
      expr_ok q r c (call e opening es closing) b bs s l wf ch found g h =
          let one =
          expr_ok q r true e b bs s l wf.0 (chf (expr_selections u S e) _ ch) (front w (expr_starts (a q) e) _ found)
          (joins (exprs_grow u es _) g) h in
          let two = exprs_ok q r es b bs _ l wf.1 (chb (expr_selections u S e) _ ch)
          (back w (expr_starts (a q) e) _ found) g one.0 in
          (two.0, λ is. (tt, (one.1 is, two.1 is)))
      expr_ok q r c (dot e token name) b bs s l wf ch found g h =
          let one = expr_ok q r false e b bs s l wf.0 ch found g h in (one.0, λ is. (tt, one.1 is))
      expr_ok q r c (arrow e token name) b bs s l wf ch found g h =
          let one = expr_ok q r false e b bs s l wf.0 ch found g h in (one.0, λ is. (tt, one.1 is))
      expr_ok q r c (post e token p) b bs s l wf ch found g h =
          let one = expr_ok q r false e b bs s l wf.0 ch found g h in (one.0, λ is. (tt, one.1 is))
      expr_ok q r c (compound opening ws d closing list) b bs s l wf ch found g h =
          let hd = back w (words_starts (a q) ws) _ found in
          let n : Names = type_name_named ws d s in
          let one = type_by ws d b bs s
          (λ gx. words_ok q false ws (base []) [] b bs s (type_words_are all ws wf.1)
          (front w (words_starts (a q) ws) _ found) gx h)
          (λ gx hx. some_declr_ok q with_skeleton d b bs _ (abstract_is all d wf.2)
          (front w (some_declr_starts (a q) with_skeleton d) _ hd) gx hx) (joins (init_list_grows u list n) g) in
          let two =
          list_ok q r list b bs n l wf.3 (chb (some_declr_selections u S d) _ (chb (words_selections u S ws) _ ch))
          (front w (init_list_starts (a q) list) _ (back w (some_declr_starts (a q) with_skeleton d) _ hd)) g one.0 in
          (two.0, λ is. ((one.1.1.1, some_nameless all d wf.2), (one.1.0, (one.1.1.0, two.1 is))))
      expr_ok q r c (name_use token name) b bs s l wf ch found g h =
          (good_used w well (b ∷ bs) u c token name s h, λ is. use_out c token name (b ∷ bs) s (l is) g h)
      expr_ok q r c (number_use token) b bs s l wf ch found g h = (h, λ is. tt)
      expr_ok q r c (char_use token) b bs s l wf ch found g h = (h, λ is. tt)
      expr_ok q r c (text_use texts) b bs s l wf ch found g h = (h, λ is. tt)
      expr_ok q r c (paren opening e closing) b bs s l wf ch found g h =
          let one = expr_ok q r false e b bs s l wf ch found g h in (one.0, λ is. (tt, one.1 is))
      expr_ok q r c (statement_expr opening opening2 items closing closing2) b bs s l wf ch found g h =
          let one = block_items_ok q r items (b ∷ bs) _ l wf.0 ch (front w (block_items_starts (a q) items) _ found)
          (joins (leave_grows _) g) (good_enter w well true (b ∷ bs) s h) in
          (good_leave w well true (b ∷ bs) _ one.0, λ is. (tt, one.1 is))
      expr_ok q r c (va_arg keyword opening e separator ws d closing) b bs s l wf ch found g h =
          let hw = back w (expr_starts (a q) e) _ found in
          let n : Names = expr_named u false e s in
          let zero =
          expr_ok q r false e b bs s l wf.0 (chf (expr_selections u S e) _ ch) (front w (expr_starts (a q) e) _ found)
          (joins (type_name_grows ws d n) g) h in
          let one = type_by ws d b bs n
          (λ gx. words_ok q false ws (base []) [] b bs n (type_words_are all ws wf.2)
          (front w (words_starts (a q) ws) _ hw) gx zero.0)
          (λ gx hx. some_declr_ok q with_skeleton d b bs _ (abstract_is all d wf.3)
          (front w (some_declr_starts (a q) with_skeleton d) _ (back w (words_starts (a q) ws) _ hw)) gx hx) g in
          (one.0, λ is. ((one.1.1.1, some_nameless all d wf.3), (zero.1 is, (one.1.0, one.1.1.0))))
      expr_ok q r c (va_start keyword opening e separator e2 closing) b bs s l wf ch found g h =
          let one =
          expr_ok q r false e b bs s l wf.0 (chf (expr_selections u S e) _ ch) (front w (expr_starts (a q) e) _ found)
          (joins (expr_grows u false e2 _) g) h in
          let two = expr_ok q r false e2 b bs _ l wf.1 (chb (expr_selections u S e) _ ch)
          (front w (expr_starts (a q) e2) _ (back w (expr_starts (a q) e) _ found)) g one.0 in
          (two.0, λ is. (tt, (one.1 is, two.1 is)))
      expr_ok q r c (va_copy keyword opening e separator e2 closing) b bs s l wf ch found g h =
          let one =
          expr_ok q r false e b bs s l wf.0 (chf (expr_selections u S e) _ ch) (front w (expr_starts (a q) e) _ found)
          (joins (expr_grows u false e2 _) g) h in
          let two = expr_ok q r false e2 b bs _ l wf.1 (chb (expr_selections u S e) _ ch)
          (front w (expr_starts (a q) e2) _ (back w (expr_starts (a q) e) _ found)) g one.0 in
          (two.0, λ is. (tt, (one.1 is, two.1 is)))
      expr_ok q r c (offset keyword opening ws d separator name steps closing) b bs s l wf ch found g h =
          let hd = back w (words_starts (a true) ws) _ found in
          let hs = back w (some_declr_starts (a true) with_skeleton d) _ hd in
          let n : Names = type_name_named ws d s in
          let one = type_by ws d b bs s
          (λ gx. words_ok true false ws (base []) [] b bs s (type_words_are all ws wf.1)
          (front w (words_starts (a true) ws) _ found) gx h)
          (λ gx hx. some_declr_ok true with_skeleton d b bs _ (abstract_is all d wf.2)
          (front w (some_declr_starts (a true) with_skeleton d) _ hd) gx hx) (joins (desigs_grow u steps n) g) in (
            desigs_ok q steps b bs n (steps_are all steps wf.3) (front w (desigs_starts (a q) steps) _ hs) g one.0,
            λ is. tt,
          )
      expr_ok q r c (complex_part keyword e) b bs s l wf ch found g h =
          let one = expr_ok q r false e b bs s l wf.0 ch found g h in (one.0, λ is. (tt, one.1 is))
      expr_ok q r c (label_use token name) b bs s l wf ch found g h = (h, λ is. tt)
      expr_ok q r c (compat keyword opening ws d separator ws2 d2 closing) b bs s l wf ch found g h =
          let hd = back w (words_starts (a true) ws) _ found in
          let hw = back w (some_declr_starts (a true) with_skeleton d) _ hd in
          let n : Names = type_name_named ws d s in
          let one = type_by ws d b bs s
          (λ gx. words_ok true false ws (base []) [] b bs s (type_words_are all ws wf.1)
          (front w (words_starts (a true) ws) _ found) gx h)
          (λ gx hx. some_declr_ok true with_skeleton d b bs _ (abstract_is all d wf.2)
          (front w (some_declr_starts (a true) with_skeleton d) _ hd) gx hx) (joins (type_name_grows ws2 d2 n) g) in
          let two = type_by ws2 d2 b bs n
          (λ gx. words_ok true false ws2 (base []) [] b bs n (type_words_are all ws2 wf.4)
          (front w (words_starts (a true) ws2) _ hw) gx one.0)
          (λ gx hx. some_declr_ok true with_skeleton d2 b bs _ (abstract_is all d2 wf.5) (front w
          (some_declr_starts (a true) with_skeleton d2) _ (back w (words_starts (a true) ws2) _ hw)) gx hx) g in
          (two.0, λ is. tt)
      expr_ok q r c (choose keyword opening e separator e2 separator2 e3 closing) b bs s l wf ch found g h =
          let behind = back w (expr_starts (a true) e) _ found in
          let g2 = joins (expr_grows u false e3 _) g in
          let one = expr_ok true true false e b bs s (λ is. absurd cc) wf.0 (λ is. absurd cc)
          (front w (expr_starts (a true) e) _ found) (joins (expr_grows u false e2 _) g2) h in
          let two =
          expr_ok q r false e2 b bs _ l wf.1 (chf (expr_selections u S e2) _ (chb (expr_selections u S e) _ ch))
          (front w (expr_starts (a q) e2) _ behind) g2 one.0 in
          let three =
          expr_ok q r false e3 b bs _ l wf.2 (chb (expr_selections u S e2) _ (chb (expr_selections u S e) _ ch))
          (front w (expr_starts (a q) e3) _ (back w (expr_starts (a q) e2) _ behind)) g two.0 in
          (three.0, λ is. (tt, (two.1 is, three.1 is)))
      expr_ok q r c (generic keyword opening e xs closing) b bs s l wf ch found g h =
          let behind = back w (expr_starts (a true) e) _ found in
          let of_them = chb (expr_selections u S e) _ ch in
          let one = expr_ok true r false e b bs s l wf.0 (chf (expr_selections u S e) _ ch)
          (front w (expr_starts (a true) e) _ found) (joins (assocs_grow u xs _) g) h in
          let two = assocs_ok q r xs b bs _ l wf.3 (chf (assocs_selections u S xs) _ of_them)
          (front w (assocs_starts (a q) xs) _ behind) g one.0 in (
            two.0,
            λ is. (
              (wf.2, (typed w U V W e (one.1 is), (chb (assocs_selections u S xs) _ of_them is).0)),
              two.1 is,
            ),
          )

      assocs_ok : (q r : Bool) (xs : Assocs) (b : Bool) (bs : List Bool) (s : Names) → Loud r (b ∷ bs) →
          AreAssocs all xs → (r ≡ false → AreChosen w (assocs_selections u S xs))
          → AreFound w (assocs_starts (a q) xs) →
          Grows (assocs_named u xs s) S → G (b ∷ bs) s →
          G (b ∷ bs) (assocs_named u xs s) × (r ≡ false → AssocsHave P U V W xs)
      assocs_ok q r no_assocs b bs s l wf ch found g h = (h, λ is. tt)
      assocs_ok q r (more_assocs x xs) b bs s l wf ch found g h =
          let one =
          assoc_ok q r x b bs s l wf.0 (chf (assoc_selections u S x) _ ch) (front w (assoc_starts (a q) x) _ found)
          (joins (assocs_grow u xs _) g) h in
          let two = assocs_ok q r xs b bs _ l wf.1 (chb (assoc_selections u S x) _ ch)
          (back w (assoc_starts (a q) x) _ found) g one.0 in
          (two.0, λ is. (one.1 is, two.1 is))

      assoc_ok : (q r : Bool) (x : Assoc) (b : Bool) (bs : List Bool) (s : Names) → Loud r (b ∷ bs) →
          IsAssoc all x → (r ≡ false → AreChosen w (assoc_selections u S x)) → AreFound w (assoc_starts (a q) x) →
          Grows (assoc_named u x s) S → G (b ∷ bs) s →
          G (b ∷ bs) (assoc_named u x s) × (r ≡ false → AssocHas P U V W x)
      assoc_ok q r (typed_assoc ws d colon e) b bs s l wf ch found g h =
          let hd = back w (words_starts (a q) ws) _ found in
          let n : Names = type_name_named ws d s in
          let one = type_by ws d b bs s
          (λ gx. words_ok q false ws (base []) [] b bs s (type_words_are all ws wf.1)
          (front w (words_starts (a q) ws) _ found) gx h)
          (λ gx hx. some_declr_ok q with_skeleton d b bs _ (abstract_is all d wf.2)
          (front w (some_declr_starts (a q) with_skeleton d) _ hd) gx hx) (joins (expr_grows u false e n) g) in
          let two =
          expr_ok q r false e b bs n l wf.3 (chb (some_declr_selections u S d) _ (chb (words_selections u S ws) _ ch))
          (back w (some_declr_starts (a q) with_skeleton d) _ hd) g one.0 in
          (two.0, λ is. (one.1.0, ((some_nameless all d wf.2, one.1.1.0), two.1 is)))
      assoc_ok q r (default_assoc keyword colon e) b bs s l wf ch found g h =
          expr_ok q r false e b bs s l wf.0 ch found g h

      some_expr_ok : (q r : Bool) (e : SomeExpr) (b : Bool) (bs : List Bool) (s : Names) → Loud r (b ∷ bs) →
          IsSomeExpr all e → (r ≡ false → AreChosen w (some_expr_selections u S e))
          → AreFound w (some_expr_starts (a q) e) → Grows (some_expr_named u e s) S →
          G (b ∷ bs) s → G (b ∷ bs) (some_expr_named u e s) × (r ≡ false → SomeExprHas P U V W e)
      some_expr_ok q r no_expr b bs s l wf ch found g h = (h, λ is. tt)
      some_expr_ok q r (some_expr e) b bs s l wf ch found g h = expr_ok q r false e b bs s l wf ch found g h

      exprs_ok : (q r : Bool) (es : Exprs) (b : Bool) (bs : List Bool) (s : Names) → Loud r (b ∷ bs) →
          AreArguments all es → (r ≡ false → AreChosen w (exprs_selections u S es)) → AreFound w (exprs_starts (a q) es)
          → Grows (exprs_named u es s) S →
          G (b ∷ bs) s → G (b ∷ bs) (exprs_named u es s) × (r ≡ false → ExprsHave P U V W es)
      exprs_ok q r no_exprs b bs s l wf ch found g h = (h, λ is. tt)
      exprs_ok q r (more_exprs e es) b bs s l wf ch found g h =
          let one =
          expr_ok q r false e b bs s l wf.0 (chf (expr_selections u S e) _ ch) (front w (expr_starts (a q) e) _ found)
          (joins (exprs_grow u es _) g) h in
          let two = exprs_ok q r es b bs _ l wf.2 (chb (expr_selections u S e) _ ch)
          (back w (expr_starts (a q) e) _ found) g one.0 in
          (two.0, λ is. (one.1 is, two.1 is))

      pub words_ok : (q alone : Bool) (ws : SpecWords) (t : CType) (annotations : Words) (b : Bool) (bs : List Bool)
          (s : Names) → AreSpecWords all ws → AreFound w (words_starts (a q) ws)
          → Grows (words_named u alone ws t annotations s).names S →
          G (b ∷ bs) s → G (b ∷ bs) (words_named u alone ws t annotations s).names × WordsHave U V W ws
      words_ok q alone no_words t annotations b bs s wf found g h = (h, tt)
      words_ok q alone (more_words word ws) t annotations b bs s wf found g h =
          let one = word_ok q alone word t b bs s wf.0 (front w (word_starts (a q) word) _ found)
          (joins (words_grow u alone ws _ (words_behind u word annotations) _) g) h in
          let two = words_ok q alone ws _ (words_behind u word annotations) b bs _ wf.1
          (back w (word_starts (a q) word) _ found) g one.0 in
          (two.0, (one.1, two.1))

      word_ok : (q alone : Bool) (word : SpecWord) (t : CType) (b : Bool) (bs : List Bool) (s : Names) →
          IsSpecWord all word → AreFound w (word_starts (a q) word) → Grows (word_named u alone word t s).names S
          → G (b ∷ bs) s →
          G (b ∷ bs) (word_named u alone word t s).names × WordHas U V W word
      word_ok q alone (storage word) t b bs s wf found g h = (h, tt)
      word_ok q alone (thread token) t b bs s wf found g h = (h, tt)
      word_ok q alone (inline_word token) t b bs s wf found g h = (h, tt)
      word_ok q alone (noreturn token) t b bs s wf found g h = (h, tt)
      word_ok q alone (qualifier it) t b bs s wf found g h = (h, tt)
      word_ok q alone (basic word) t b bs s wf found g h = (h, tt)
      word_ok q alone (struct_type word attrs tag body) t b bs s wf found g h =
          struct_ok q alone (tag_kind word.keyword) word.token tag body t b bs s wf.3 found g h
      word_ok q alone (enum_type e) t b bs s wf found g h = (enum_ok q e b bs s wf found g h, tt)
      word_ok q alone (typedef_name name) t b bs s wf found g h = (h, tt)
      word_ok q alone (attribute attr) t b bs s wf found g h = (h, tt)
      word_ok q alone (typeof_value keyword opening e closing) t b bs s wf found g h =
          let one = expr_ok true true false e b bs s (λ is. absurd cc) wf (λ is. absurd cc) found
          (joins (typed_by_grows u closing _ _) g) h in
          (typed_good (b ∷ bs) closing _ _ one.0, tt)
      word_ok q alone (typeof_type word opening ws d closing) t b bs s wf found g h =
          let one = type_by ws d b bs s
          (λ gx. words_ok q false ws (base []) [] b bs s (type_words_are all ws wf.2)
          (front w (words_starts (a q) ws) _ found) gx h)
          (λ gx hx. some_declr_ok q with_skeleton d b bs _ (abstract_is all d wf.3)
          (back w (words_starts (a q) ws) _ found) gx hx) g in
          (one.0, (some_nameless all d wf.3, (one.1.0, one.1.1.0)))
      word_ok q alone (align attr) t b bs s wf found g h = (h, tt)
      word_ok q alone (auto_word token) t b bs s wf found g h = (h, tt)

      struct_ok : (q alone : Bool) (kind : TagKind) (keyword : ℕ) (tag : Option Identifier)
          (body : SomeBody) (t : CType)
          (b : Bool) (bs : List Bool) (s : Names) → IsBody all body → AreFound w (some_body_starts (a q) body) →
          Grows (struct_named u alone kind keyword tag body t s).names S → G (b ∷ bs) s →
          G (b ∷ bs) (struct_named u alone kind keyword tag body t s).names × SomeBodyHas U V W body
      struct_ok q alone kind keyword tag no_body t b bs s wf found g h = (tag_good b bs alone kind tag t s h, tt)
      struct_ok q alone kind keyword tag (some_body opening items closing) t b bs s wf found g h =
          struct_items_ok q _ items b bs _ wf found g (begun_good b bs kind keyword tag s h)

      struct_items_ok : (q : Bool) (n : ℕ) (items : StructItems) (b : Bool) (bs : List Bool) (s : Names) →
          AreStructItems all items → AreFound w (struct_items_starts (a q) items)
          → Grows (struct_items_named u n items s) S → G (b ∷ bs) s →
          G (b ∷ bs) (struct_items_named u n items s) × StructItemsHave U V W items
      struct_items_ok q n no_struct_items b bs s wf found g h = (h, tt)
      struct_items_ok q n (more_struct_items item items) b bs s wf found g h =
          let one = struct_item_ok q n item b bs s wf.0 (front w (struct_item_starts (a q) item) _ found)
          (joins (struct_items_grow u n items _) g) h in
          let two = struct_items_ok q n items b bs _ wf.1 (back w (struct_item_starts (a q) item) _ found) g one.0 in
          (two.0, (one.1, two.1))

      struct_item_ok : (q : Bool) (n : ℕ) (item : StructItem) (b : Bool) (bs : List Bool) (s : Names) →
          IsStructItem all item → AreFound w (struct_item_starts (a q) item) → Grows (struct_item_named u n item s) S
          → G (b ∷ bs) s →
          G (b ∷ bs) (struct_item_named u n item s) × StructItemHas U V W item
      struct_item_ok q n (member exts ws ds semi) b bs s wf found g h =
          let t = (words_named u false ws (base []) [] s).type in
          let one = words_ok q false ws (base []) [] b bs s wf.1 (front w (words_starts (a q) ws) _ found)
          (joins (unnamed_where_grows u ds ws n t _) (joins (mem_declrs_grow u n t ds _) g)) h in
          let two = members_ok q n t ws ds b bs _ wf.4 (back w (words_starts (a q) ws) _ found) g one.0 in
          (two.0, (one.1, two.1))
      struct_item_ok q n (member_semi semi) b bs s wf found g h = (h, tt)
      struct_item_ok q n (member_assert it) b bs s wf found g h = (h, tt)

      members_ok : (q : Bool) (n : ℕ) (t : CType) (ws : SpecWords) (ds : MemDeclrs) (b : Bool) (bs : List Bool)
          (s : Names) → AreMemDeclrs all ds → AreFound w (members_starts (a q) ws ds) →
          Grows (mem_declrs_named u n t ds (unnamed_where u ds ws n t s)) S → G (b ∷ bs) s →
          G (b ∷ bs) (mem_declrs_named u n t ds (unnamed_where u ds ws n t s)) × MembersHave U V W ws ds
      members_ok q n t ws no_mem_declrs b bs s wf found g h = all_unnamed q (b ∷ bs) ws n t s g found h
      members_ok q n t ws (more_mem_declrs attrs d ds) b bs s wf found g h =
          let one = mem_declr_ok q n t d b bs s wf.1 (front w (mem_declr_starts (a q) d) _ found)
          (joins (mem_declrs_grow u n t ds _) g) h in
          let two = mem_declrs_ok q n t ds b bs _ wf.2 (back w (mem_declr_starts (a q) d) _ found) g one.0 in
          (two.0, (one.1, two.1))

      mem_declrs_ok : (q : Bool) (n : ℕ) (t : CType) (ds : MemDeclrs) (b : Bool) (bs : List Bool) (s : Names) →
          AreMemDeclrs all ds → AreFound w (mem_declrs_starts (a q) ds) → Grows (mem_declrs_named u n t ds s) S
          → G (b ∷ bs) s →
          G (b ∷ bs) (mem_declrs_named u n t ds s) × MemDeclrsHave U V W ds
      mem_declrs_ok q n t no_mem_declrs b bs s wf found g h = (h, tt)
      mem_declrs_ok q n t (more_mem_declrs attrs d ds) b bs s wf found g h =
          let one = mem_declr_ok q n t d b bs s wf.1 (front w (mem_declr_starts (a q) d) _ found)
          (joins (mem_declrs_grow u n t ds _) g) h in
          let two = mem_declrs_ok q n t ds b bs _ wf.2 (back w (mem_declr_starts (a q) d) _ found) g one.0 in
          (two.0, (one.1, two.1))

      mem_declr_ok : (q : Bool) (n : ℕ) (t : CType) (d : MemDeclr) (b : Bool) (bs : List Bool) (s : Names) →
          IsMemDeclr all d → AreFound w (mem_declr_starts (a q) d) → Grows (mem_declr_named u n t d s) S
          → G (b ∷ bs) s →
          G (b ∷ bs) (mem_declr_named u n t d s) × MemDeclrHas U V W d
      mem_declr_ok q n t (named d width attrs) b bs s wf found g h =
          let fd = front w (declr_starts (a q) with_skeleton without_skeleton d) _ found in
          let gv = joins (some_value_grows u width _) g in
          let one = declr_ok q None with_skeleton without_skeleton d b bs s tt wf.0 fd
          (joins (member_grows u (declared_name d) n _ _) gv) h in
          let two = member_good w well q f (b ∷ bs) (declared_name d) n _ _ gv
          (λ it e. name_found w (a q) with_skeleton without_skeleton d it e fd) one.0 in (
            some_value_ok q width b bs _ wf.2
                (back w (declr_starts (a q) with_skeleton without_skeleton d) _ found) g two.0,
            (two.1, one.1),
          )
      mem_declr_ok q n t (unnamed colon e attrs) b bs s wf found g h =
          ((expr_ok true true false e b bs s (λ is. absurd cc) wf.0 (λ is. absurd cc) found g h).0, tt)

      some_value_ok : (q : Bool) (it : SomeValue) (b : Bool) (bs : List Bool) (s : Names) →
          IsSomeValue all it → AreFound w (some_value_starts (a q) it) → Grows (some_value_named u it s) S
          → G (b ∷ bs) s →
          G (b ∷ bs) (some_value_named u it s)
      some_value_ok q no_value b bs s wf found g h = h
      some_value_ok q (some_value token e) b bs s wf found g h =
          (expr_ok true true false e b bs s (λ is. absurd cc) wf.0 (λ is. absurd cc) found g h).0

      enum_ok : (q : Bool) (e : EnumType) (b : Bool) (bs : List Bool) (s : Names) → IsEnum all e
          → AreFound w (enum_starts (a q) e) →
          Grows (enum_named u e s) S → G (b ∷ bs) s → G (b ∷ bs) (enum_named u e s)
      enum_ok q (enum_of keyword attrs tag no_enum_body) b bs s wf found g h =
          tag_good b bs false tags.Enum tag (base []) s h
      enum_ok q (enum_of keyword attrs tag (some_enum_body opening es last closing)) b bs s wf found g h =
          enumerators_ok q es b bs _ wf.2.1 found g (begun_good b bs tags.Enum keyword tag s h)

      enumerators_ok : (q : Bool) (es : Enumerators) (b : Bool) (bs : List Bool) (s : Names) →
          AreEnumerators all es → AreFound w (enumerators_starts (a q) es) → Grows (enumerators_named u es s) S
          → G (b ∷ bs) s →
          G (b ∷ bs) (enumerators_named u es s)
      enumerators_ok q no_enumerators b bs s wf found g h = h
      enumerators_ok q (more_enumerators name attrs value es) b bs s wf found g h =
          let ge = joins (enumerators_grow u es _) g in
          let one = some_value_ok q value b bs s wf.1 (front w (some_value_starts (a q) value) _ found)
          (joins (here_grows (place u name.token) (u.key name.name) enumerator_role (base []) None _) ge) h in
          enumerators_ok q es b bs _ wf.2 (back w (some_value_starts (a q) value) _ found) g
          (enumerator_good w well b bs name.token (u.key name.name) (base []) None _ ge one)

      pub declr_ok : (q : Bool) (own : Option Place) (hv gv : Having) (d : Declr) (b : Bool)
          (bs : List Bool) (s : Names) →
          OwnOk own gv → IsDeclr all d → AreFound w (declr_starts (a q) hv gv d) → Grows (declr_named u own d s).names S
          → G (b ∷ bs) s →
          G (b ∷ bs) (declr_named u own d s).names × DeclrHas U V W d
      declr_ok q own hv gv (pointer star words d) b bs s ok wf found g h =
          declr_ok q own hv gv d b bs s ok wf.1 found g h
      declr_ok q own hv gv (declr_name token name) b bs s ok wf found g h = (h, tt)
      declr_ok q own hv gv (declr_paren opening attrs d closing) b bs s ok wf found g h =
          declr_ok q own hv gv d b bs s ok wf.1 found g h
      declr_ok q own hv gv (array d opening words size closing) b bs s ok wf found g h =
          let one = declr_ok q own hv gv d b bs s ok wf.0 (front w (declr_starts (a q) hv gv d) _ found)
          (joins (some_size_grows u size _) g) h in
          (some_size_ok q size b bs _ wf.4 (back w (declr_starts (a q) hv gv d) _ found) g one.0, one.1)
      declr_ok q own hv gv (params d opening ps dots closing) b bs s ok wf found g h =
          let o = own_where (is_bare d) own in
          let hp = having_where (is_bare d) gv in
          let fit = where_ok (is_bare d) own gv ok in
          let gp = joins (keep_grows o _) g in
          let one = declr_ok q own hv gv d b bs s ok wf.0 (front w (declr_starts (a q) hv gv d) _ found)
          (joins (enter_grows _) (joins (params_grow u 0 o ps _) gp)) h in
          let two = params_ok q 0 o hp ps (is_own o) (b ∷ bs) _ (λ e. own_has o hp fit e) wf.3
          (back w (declr_starts (a q) hv gv d) _ found) gp (good_enter w well (is_own o) (b ∷ bs) _ one.0) in
          (good_keep w well (is_own o) (b ∷ bs) o _ (keeps o) two.0, (one.1, two.1))
      declr_ok q own hv gv (identifiers d opening names closing) b bs s ok wf found g h =
          let one = declr_ok q own hv gv d b bs s ok wf.0 found (joins (enter_grows _) (joins (leave_grows _) g)) h in
          (good_leave w well true (b ∷ bs) _ (good_enter w well true (b ∷ bs) _ one.0), one.1)
      declr_ok q own hv gv (base_name token) b bs s ok wf found g h = (h, tt)
      declr_ok q own hv gv (abs_pointer star words d) b bs s ok wf found g h =
          some_declr_ok q hv d b bs s (abstract_is all d wf.1) found g h
      declr_ok q own hv gv (abs_paren opening attrs d closing) b bs s ok wf found g h =
          declr_ok q own hv gv d b bs s ok wf.1 found g h
      declr_ok q own hv gv (abs_array d opening words size closing) b bs s ok wf found g h =
          let one = some_declr_ok q hv d b bs s (direct_is all d wf.0) (front w (some_declr_starts (a q) hv d) _ found)
          (joins (some_size_grows u size _) g) h in
          (some_size_ok q size b bs _ wf.2 (back w (some_declr_starts (a q) hv d) _ found) g one.0, one.1)
      declr_ok q own hv gv (abs_params d opening ps dots closing) b bs s ok wf found g h =
          let gp = joins (leave_grows _) g in
          let one = some_declr_ok q hv d b bs s (direct_is all d wf.0) (front w (some_declr_starts (a q) hv d) _ found)
          (joins (enter_grows _) (joins (params_grow u 0 None ps _) gp)) h in
          let two = params_ok q 0 None without_skeleton ps false (b ∷ bs) _ (λ e. absurd cc) wf.1
          (back w (some_declr_starts (a q) hv d) _ found) gp (good_enter w well false (b ∷ bs) _ one.0) in
          (good_leave w well false (b ∷ bs) _ two.0, (one.1, two.1))

      some_declr_ok : (q : Bool) (hv : Having) (d : SomeDeclr) (b : Bool) (bs : List Bool) (s : Names) →
          IsSomeDeclr all d → AreFound w (some_declr_starts (a q) hv d) → Grows (some_declr_named u d s).names S
          → G (b ∷ bs) s →
          G (b ∷ bs) (some_declr_named u d s).names × SomeDeclrHas U V W d
      some_declr_ok q hv no_declr b bs s wf found g h = (h, tt)
      some_declr_ok q hv (some_declr d) b bs s wf found g h =
          declr_ok q None hv without_skeleton d b bs s tt wf found g h

      pub some_size_ok : (q : Bool) (it : SomeSize) (b : Bool) (bs : List Bool) (s : Names) →
          IsSize all it → AreFound w (some_size_starts (a q) it) → Grows (some_size_named u it s) S → G (b ∷ bs) s →
          G (b ∷ bs) (some_size_named u it s)
      some_size_ok q no_size b bs s wf found g h = h
      some_size_ok q (some_size (size_value e)) b bs s wf found g h =
          (expr_ok true true false e b bs s (λ is. absurd cc) wf.0 (λ is. absurd cc) found g h).0
      some_size_ok q (some_size (size_star star)) b bs s wf found g h = h

      pub params_ok : (q : Bool) (i : ℕ) (own : Option Place) (hv : Having) (ps : Params) (c : Bool) (bs : List Bool)
          (s : Names) → (c ≡ true → Has hv) → AreParams all ps → AreFound w (params_starts (a q) hv ps) →
          Grows (params_named u i own ps s).names S → G (c ∷ bs) s →
          G (c ∷ bs) (params_named u i own ps s).names × ParamsHave U V W ps
      params_ok q i own hv no_params c bs s has wf found g h = (h, tt)
      params_ok q i own hv (more_params ws d attrs ps) c bs s has wf found g h =
          let behind = back w (words_starts (a q) ws) _ found in
          let fd = front w (some_declr_starts (a q) hv d) _ behind in
          let gr = joins (params_grow u (suc i) own ps _) g in
          let gd = joins (param_grows u (some_declared_name d) i own _ _) gr in
          let one = words_ok q false ws (base []) [] c bs s wf.1 (front w (words_starts (a q) ws) _ found)
          (joins (some_declr_grows u d _) gd) h in
          let two = some_declr_ok q hv d c bs _ wf.3 fd gd one.0 in
          let three = param_good w well q f c bs (some_declared_name d) i own _ _ gr
          (λ it e is. own_name q hv it.token (has is) (some_name_found w (a q) hv d it e fd)) two.0 in
          let four =
          params_ok q (suc i) own hv ps c bs _ has wf.6 (back w (some_declr_starts (a q) hv d) _ behind) g three in
          (four.0, (param_has w well (some_declared_name d) i own _ _ gr, (one.1, (two.1, four.1))))

      init_ok : (q r : Bool) (it : Init) (b : Bool) (bs : List Bool) (s : Names) → Loud r (b ∷ bs) →
          IsInit all it → (r ≡ false → AreChosen w (init_selections u S it)) → AreFound w (init_starts (a q) it)
          → Grows (init_named u it s) S → G (b ∷ bs) s →
          G (b ∷ bs) (init_named u it s) × (r ≡ false → InitHas P U V W it)
      init_ok q r (init_value e) b bs s l wf ch found g h = expr_ok q r false e b bs s l wf.0 ch found g h
      init_ok q r (init_braced list) b bs s l wf ch found g h = list_ok q r list b bs s l wf ch found g h

      list_ok : (q r : Bool) (list : InitList) (b : Bool) (bs : List Bool) (s : Names) → Loud r (b ∷ bs) →
          IsInitList all list → (r ≡ false → AreChosen w (init_list_selections u S list))
          → AreFound w (init_list_starts (a q) list) → Grows (init_list_named u list s) S →
          G (b ∷ bs) s → G (b ∷ bs) (init_list_named u list s) × (r ≡ false → InitListHas P U V W list)
      list_ok q r (init_list opening items last closing) b bs s l wf ch found g h =
          init_items_ok q r items b bs s l wf.0 ch found g h

      init_items_ok : (q r : Bool) (items : InitItems) (b : Bool) (bs : List Bool) (s : Names) → Loud r (b ∷ bs) →
          AreInitItems all items → (r ≡ false → AreChosen w (init_items_selections u S items))
          → AreFound w (init_items_starts (a q) items) →
          Grows (init_items_named u items s) S → G (b ∷ bs) s →
          G (b ∷ bs) (init_items_named u items s) × (r ≡ false → InitItemsHave P U V W items)
      init_items_ok q r no_init_items b bs s l wf ch found g h = (h, λ is. tt)
      init_items_ok q r (more_init_items ds equal it items) b bs s l wf ch found g h =
          let behind = back w (desigs_starts (a q) ds) _ found in
          let gi = joins (init_items_grow u items _) g in
          let one = desigs_ok q ds b bs s (desigs_are all ds wf.0) (front w (desigs_starts (a q) ds) _ found)
          (joins (init_grows u it _) gi) h in
          let two = init_ok q r it b bs _ l wf.2 (chf (init_selections u S it) _ (chb (desigs_selections u S ds) _ ch))
          (front w (init_starts (a q) it) _ behind) gi one in
          let three =
          init_items_ok q r items b bs _ l wf.3 (chb (init_selections u S it) _ (chb (desigs_selections u S ds) _ ch))
          (back w (init_starts (a q) it) _ behind) g two.0 in
          (three.0, λ is. (two.1 is, three.1 is))

      desigs_ok : (q : Bool) (ds : Desigs) (b : Bool) (bs : List Bool) (s : Names) →
          IndicesAre all ds → AreFound w (desigs_starts (a q) ds) → Grows (desigs_named u ds s) S → G (b ∷ bs) s →
          G (b ∷ bs) (desigs_named u ds s)
      desigs_ok q no_desigs b bs s wf found g h = h
      desigs_ok q (more_desigs (member_desig token name) ds) b bs s wf found g h = desigs_ok q ds b bs s wf found g h
      desigs_ok q (more_desigs (index_desig opening e closing) ds) b bs s wf found g h =
          desigs_ok q ds b bs _ wf.1 (back w (expr_starts (a true) e) _ found) g
          ((expr_ok true true false e b bs s (λ is. absurd cc) wf.0 (λ is. absurd cc)
          (front w (expr_starts (a true) e) _ found)
          (joins (desigs_grow u ds _) g) h).0)
      desigs_ok q (more_desigs (range_desig opening e dots e2 closing) ds) b bs s wf found g h =
          let here = front w (desig_starts (a q) (range_desig opening e dots e2 closing)) _ found in
          let g2 = joins (desigs_grow u ds _) g in
          let one = expr_ok true true false e b bs s (λ is. absurd cc) wf.0 (λ is. absurd cc)
          (front w (expr_starts (a true) e) _ here) (joins (expr_grows u false e2 _) g2) h in
          let two = expr_ok true true false e2 b bs _ (λ is. absurd cc) wf.1.0 (λ is. absurd cc)
          (back w (expr_starts (a true) e) _ here) g2 one.0 in
          desigs_ok q ds b bs _ wf.1.1
          (back w (desig_starts (a q) (range_desig opening e dots e2 closing)) _ found) g two.0
      desigs_ok q (more_desigs (old_desig name colon) ds) b bs s wf found g h = desigs_ok q ds b bs s wf found g h

      pub some_init_ok : (q r : Bool) (it : SomeInit) (b : Bool) (bs : List Bool) (s : Names) → Loud r (b ∷ bs) →
          IsSomeInit all it → (r ≡ false → AreChosen w (some_init_selections u S it))
          → AreFound w (some_init_starts (a q) it) → Grows (some_init_named u it s) S →
          G (b ∷ bs) s → G (b ∷ bs) (some_init_named u it s) × (r ≡ false → SomeInitHas P U V W it)
      some_init_ok q r no_init b bs s l wf ch found g h = (h, λ is. tt)
      some_init_ok q r (some_init equal it) b bs s l wf ch found g h = init_ok q r it b bs s l wf ch found g h

      init_declrs_ok : (q r : Bool) (words : List Keyword) (is_untagged : Bool) (t : CType) (ds : InitDeclrs)
          (bs : List Bool) (s : Names) → Loud r bs → AreInitDeclrs all ds
          → (r ≡ false → AreChosen w (init_declrs_selections u S ds)) →
          AreFound w (init_declrs_starts (a q) ds) → Grows (init_declrs_named u words is_untagged t ds s) S →
          G (true ∷ bs) s →
          G (true ∷ bs) (init_declrs_named u words is_untagged t ds s) × (r ≡ false → InitDeclrsHave P U V W ds)
      init_declrs_ok q r words is_untagged t no_init_declrs bs s l wf ch found g h = (h, λ is. tt)
      init_declrs_ok q r words is_untagged t (more_init_declrs attrs d asm_label attrs2 it ds) bs s l wf ch found g h =
          let fd = front w (declr_starts (a q) with_skeleton without_skeleton d) _ found in
          let behind = back w (declr_starts (a q) with_skeleton without_skeleton d) _ found in
          let gr = joins (init_declrs_grow u words false t ds _) g in
          let gi = joins (some_init_grows u it _) gr in
          let one = declr_ok q None with_skeleton without_skeleton d true bs s tt wf.1 fd
          (joins (some_grows u (untagged_number is_untagged t) (declared_name d) words _ _) gi) h in
          let two = some_good w well q f bs (untagged_number is_untagged t) (declared_name d) words _ _ gi
          (λ name e. name_found w (a q) with_skeleton without_skeleton d name e fd) one.0 in
          let three = some_init_ok q r it true bs _ (λ is. (refl, l is)) wf.5
          (chf (some_init_selections u S it) _ (chb (declr_selections u S d) _ ch))
          (front w (some_init_starts (a q) it) _ behind) gr two.0 in
          let four = init_declrs_ok q r words false t ds bs _ l wf.6 (chb (some_init_selections u S it) _
          (chb (declr_selections u S d) _ ch)) (back w (some_init_starts (a q) it) _ behind) g three.0 in
          (four.0, λ is. (two.1, (one.1, (three.1 is, four.1 is))))

      declaration_ok : (q r : Bool) (d : Declaration) (bs : List Bool) (s : Names) → Loud r bs →
          IsDeclaration all d → (r ≡ false → AreChosen w (declaration_selections u S d))
          → AreFound w (declaration_starts (a q) d) →
          Grows (declaration_named u d s) S → G (true ∷ bs) s →
          G (true ∷ bs) (declaration_named u d s) × (r ≡ false → DeclarationHas P U V W d)
      declaration_ok q r (declaration exts ws ds semi) bs s l wf ch found g h =
          let behind = back w (words_starts (a q) ws) _ found in
          let n : Names = (words_named u (is_tag_alone ws ds) ws (base []) [] s).names in
          let c : CType = (words_named u (is_tag_alone ws ds) ws (base []) [] s).type in
          let x : Names = auto_declrs_named u (said_words ws) (has_untagged ws) semi c ds n in
          let y : Names = init_declrs_named u (said_words ws) (has_untagged ws) c ds n in
          let one =
          words_ok q (is_tag_alone ws ds) ws (base []) [] true bs s wf.1 (front w (words_starts (a q) ws) _ found)
          (joins (grows_where (are_auto ws ds) n x y (auto_declrs_grow u (said_words ws) (has_untagged ws) semi c ds n)
          (init_declrs_grow u (said_words ws) (has_untagged ws) c ds n)) g) h in
          let two = either_ok (are_auto ws ds) (true ∷ bs) x y (r ≡ false → InitDeclrsHave P U V W ds) g
          (λ is gx. auto_declrs_ok q r (said_words ws) (has_untagged ws) semi c ds bs n l
          (values_behind (has_auto ws) (have_values ds) is) wf.3 (chb (words_selections u S ws) _ ch) behind gx one.0)
          (λ is gy. init_declrs_ok q r (said_words ws) (has_untagged ws) c ds bs n l wf.3
          (chb (words_selections u S ws) _ ch) behind gy one.0) in
          (two.0, λ is. (one.1, two.1 is))

      -- names that have the types of their initialisers are declared behind those
      auto_declrs_ok : (q r : Bool) (words : List Keyword) (is_untagged : Bool) (semi : ℕ) (t : CType) (ds : InitDeclrs)
          (bs : List Bool) (s : Names) → Loud r bs → have_values ds ≡ true → AreInitDeclrs all ds →
          (r ≡ false → AreChosen w (init_declrs_selections u S ds)) →
          AreFound w (init_declrs_starts (a q) ds) → Grows (auto_declrs_named u words is_untagged semi t ds s) S →
          G (true ∷ bs) s →
          G (true ∷ bs) (auto_declrs_named u words is_untagged semi t ds s) × (r ≡ false → InitDeclrsHave P U V W ds)
      auto_declrs_ok q r words is_untagged semi t no_init_declrs bs s l v wf ch found g h = (h, λ is. tt)
      auto_declrs_ok q r words is_untagged semi t
          (more_init_declrs attrs d asm_label attrs2 no_init ds) bs s l v wf ch found g h =
          absurd (no_value v)
        where
          no_value : false ≡ true → ⊥
          no_value e = cc
      auto_declrs_ok q r words is_untagged semi t
          (more_init_declrs attrs d asm_label attrs2 (some_init equal (init_braced list)) ds)
          bs s l v wf ch found g h = absurd (no_value v)
        where
          no_value : false ≡ true → ⊥
          no_value e = cc
      auto_declrs_ok q r words is_untagged semi t
          (more_init_declrs attrs d asm_label attrs2 (some_init equal (init_value e)) ds)
          bs s l v wf ch found g h =
          let fd = front w (declr_starts (a q) with_skeleton without_skeleton d) _ found in
          let behind = back w (declr_starts (a q) with_skeleton without_skeleton d) _ found in
          let those = chb (declr_selections u S d) _ ch in
          let n : Names = (declr_named u None d s).names in
          let v2 : Names = expr_named u false e n in
          let last : Names = auto_state words is_untagged semi t (declared_name d) e v2 in
          let gr : Grows last S = joins (auto_declrs_grow u words false semi t ds last) g in
          let gv : Grows v2 S = joins (auto_state_grows words is_untagged semi t (declared_name d) e v2) gr in
          let one =
          declr_ok q None with_skeleton without_skeleton d true bs s tt wf.1 fd (joins (expr_grows u false e n) gv) h in
          let two = expr_ok q r false e true bs n (λ is. (refl, l is)) wf.5.0 (chf (expr_selections u S e) _ those)
          (front w (expr_starts (a q) e) _ behind) gv one.0 in
          let three = auto_good q bs words is_untagged semi t (declared_name d) e v2 gr
          (λ name e. name_found w (a q) with_skeleton without_skeleton d name e fd) two.0 in
          let four = auto_declrs_ok q r words false semi t ds bs last l v wf.6 (chb (expr_selections u S e) _ those)
          (back w (expr_starts (a q) e) _ behind) g three.0 in
          (four.0, λ is. (three.1, (one.1, (two.1 is, four.1 is))))

      pub decl_ok : (q r : Bool) (d : Decl) (bs : List Bool) (s : Names) → Loud r bs → IsDecl all d
          → (r ≡ false → AreChosen w (decl_selections u S d)) →
          AreFound w (decl_starts (a q) d) → Grows (decl_named u d s) S → G (true ∷ bs) s →
          G (true ∷ bs) (decl_named u d s) × (r ≡ false → DeclHas P U V W d)
      decl_ok q r (decl_declaration d) bs s l wf ch found g h = declaration_ok q r d bs s l wf ch found g h
      decl_ok q r (decl_assert it) bs s l wf ch found g h = (h, λ is. tt)

      pub block_items_ok : (q r : Bool) (items : BlockItems) (bs : List Bool) (s : Names) → Loud r bs →
          AreBlockItems all items → (r ≡ false → AreChosen w (block_items_selections u S items))
          → AreFound w (block_items_starts (a q) items) →
          Grows (block_items_named u items s) S → G (true ∷ bs) s →
          G (true ∷ bs) (block_items_named u items s) × (r ≡ false → BlockItemsHave P U V W items)
      block_items_ok q r no_block_items bs s l wf ch found g h = (h, λ is. tt)
      block_items_ok q r (more_block_items item items) bs s l wf ch found g h =
          let one = block_item_ok q r item bs s l wf.0 (chf (block_item_selections u S item) _ ch)
          (front w (block_item_starts (a q) item) _ found)
          (joins (block_items_grow u items _) g) h in
          let two = block_items_ok q r items bs _ l wf.1 (chb (block_item_selections u S item) _ ch)
          (back w (block_item_starts (a q) item) _ found) g one.0 in
          (two.0, λ is. (one.1 is, two.1 is))

      block_item_ok : (q r : Bool) (item : BlockItem) (bs : List Bool) (s : Names) → Loud r bs →
          IsBlockItem all item → (r ≡ false → AreChosen w (block_item_selections u S item))
          → AreFound w (block_item_starts (a q) item) →
          Grows (block_item_named u item s) S → G (true ∷ bs) s →
          G (true ∷ bs) (block_item_named u item s) × (r ≡ false → BlockItemHas P U V W item)
      block_item_ok q r (block_decl d) bs s l wf ch found g h = decl_ok q r d bs s l wf ch found g h
      block_item_ok q r (block_stmt t) bs s l wf ch found g h = stmt_ok q r t bs s l wf ch found g h
      block_item_ok q r (block_labels keyword names semi) bs s l wf ch found g h = (h, λ is. tt)

      stmt_ok : (q r : Bool) (t : Stmt) (bs : List Bool) (s : Names) → Loud r bs → IsStmt all t
          → (r ≡ false → AreChosen w (stmt_selections u S t)) →
          AreFound w (stmt_starts (a q) t) → Grows (stmt_named u t s) S → G (true ∷ bs) s →
          G (true ∷ bs) (stmt_named u t s) × (r ≡ false → StmtHas P U V W t)
      stmt_ok q r (block opening items closing) bs s l wf ch found g h =
          let one = block_items_ok q r items (true ∷ bs) _ (λ is. (refl, l is)) wf.0 ch found (joins (leave_grows _) g)
          (good_enter w well true (true ∷ bs) s h) in
          (good_leave w well true (true ∷ bs) _ one.0, one.1)
      stmt_ok q r (expr_stmt e semi) bs s l wf ch found g h =
          some_expr_ok q r e true bs s (λ is. (refl, l is)) wf ch found g h
      stmt_ok q r (attr_stmt attrs semi) bs s l wf ch found g h = (h, λ is. tt)
      stmt_ok q r (label name colon attrs t) bs s l wf ch found g h = stmt_ok q r t bs s l wf.1 ch found g h
      stmt_ok q r (case_stmt keyword e colon t) bs s l wf ch found g h =
          stmt_ok q r t bs _ l wf.2 (chb (expr_selections u S e) _ ch) (back w (expr_starts (a true) e) _ found) g
          ((expr_ok true true false e true bs s (λ is. absurd cc) wf.0 (λ is. absurd cc)
          (front w (expr_starts (a true) e) _ found)
          (joins (stmt_grows u t _) g) h).0)
      stmt_ok q r (default_stmt keyword colon t) bs s l wf ch found g h = stmt_ok q r t bs s l wf ch found g h
      stmt_ok q r (if_stmt keyword opening e closing t other) bs s l wf ch found g h =
          let behind = back w (expr_starts (a q) e) _ found in
          let loud : Loud r (true ∷ bs) = λ is. (refl, l is) in
          let go = joins (leave_grows _) g in
          let gl = joins (some_else_grows u other _) go in
          let gs = joins (leave_grows _) gl in
          let one =
          expr_ok q r false e true (true ∷ bs) _ (λ is. (refl, loud is)) wf.0 (chf (expr_selections u S e) _ ch)
          (front w (expr_starts (a q) e) _ found)
          (joins (enter_grows _) (joins (stmt_grows u t _) gs)) (good_enter w well true (true ∷ bs) s h) in
          let two = stmt_ok q r t (true ∷ true ∷ bs) _ (λ is. (refl, loud is)) wf.1
          (chf (stmt_selections u S t) _ (chb (expr_selections u S e) _ ch))
          (front w (stmt_starts (a q) t) _ behind) gs (good_enter w well true (true ∷ true ∷ bs) _ one.0) in
          let three = some_else_ok q r other t (true ∷ bs) _ loud wf.2
          (chb (stmt_selections u S t) _ (chb (expr_selections u S e) _ ch)) (back w (stmt_starts (a q) t) _ behind) go
          (good_leave w well true (true ∷ true ∷ bs) _ two.0) in
          (good_leave w well true (true ∷ bs) _ three.0, λ is. (one.1 is, (two.1 is, three.1 is)))
      stmt_ok q r (switch_stmt keyword opening e closing t) bs s l wf ch found g h =
          let loud : Loud r (true ∷ bs) = λ is. (refl, l is) in
          let gs = joins (leave_grows _) (joins (leave_grows _) g) in
          let one =
          expr_ok q r false e true (true ∷ bs) _ (λ is. (refl, loud is)) wf.0 (chf (expr_selections u S e) _ ch)
          (front w (expr_starts (a q) e) _ found) (joins (enter_grows _) (joins (stmt_grows u t _) gs))
          (good_enter w well true (true ∷ bs) s h) in
          let two = stmt_ok q r t (true ∷ true ∷ bs) _ (λ is. (refl, loud is)) wf.1 (chb (expr_selections u S e) _ ch)
          (back w (expr_starts (a q) e) _ found) gs (good_enter w well true (true ∷ true ∷ bs) _ one.0) in (
            good_leave w well true (true ∷ bs) _ (good_leave w well true (true ∷ true ∷ bs) _ two.0),
            λ is. (one.1 is, two.1 is),
          )
      stmt_ok q r (while_stmt keyword opening e closing t) bs s l wf ch found g h =
          let loud : Loud r (true ∷ bs) = λ is. (refl, l is) in
          let gs = joins (leave_grows _) (joins (leave_grows _) g) in
          let one =
          expr_ok q r false e true (true ∷ bs) _ (λ is. (refl, loud is)) wf.0 (chf (expr_selections u S e) _ ch)
          (front w (expr_starts (a q) e) _ found) (joins (enter_grows _) (joins (stmt_grows u t _) gs))
          (good_enter w well true (true ∷ bs) s h) in
          let two = stmt_ok q r t (true ∷ true ∷ bs) _ (λ is. (refl, loud is)) wf.1 (chb (expr_selections u S e) _ ch)
          (back w (expr_starts (a q) e) _ found) gs (good_enter w well true (true ∷ true ∷ bs) _ one.0) in (
            good_leave w well true (true ∷ bs) _ (good_leave w well true (true ∷ true ∷ bs) _ two.0),
            λ is. (one.1 is, two.1 is),
          )
      stmt_ok q r (do_stmt keyword t keyword2 opening e closing semi) bs s l wf ch found g h =
          let loud : Loud r (true ∷ bs) = λ is. (refl, l is) in
          let ge = joins (leave_grows _) g in
          let gl = joins (expr_grows u false e _) ge in
          let one = stmt_ok q r t (true ∷ true ∷ bs) _ (λ is. (refl, loud is)) wf.0 (chf (stmt_selections u S t) _ ch)
          (front w (stmt_starts (a q) t) _ found) (joins (leave_grows _) gl)
          (good_enter w well true (true ∷ true ∷ bs) _ (good_enter w well true (true ∷ bs) s h)) in
          let two =
          expr_ok q r false e true (true ∷ bs) _ (λ is. (refl, loud is)) wf.1 (chb (stmt_selections u S t) _ ch)
          (back w (stmt_starts (a q) t) _ found) ge (good_leave w well true (true ∷ true ∷ bs) _ one.0) in
          (good_leave w well true (true ∷ bs) _ two.0, λ is. (one.1 is, two.1 is))
      stmt_ok q r (for_stmt keyword opening start e semi e2 closing t) bs s l wf ch found g h =
          let behind = back w (for_start_starts (a q) start) _ found in
          let last = back w (some_expr_starts (a q) e) _ behind in
          let loud : Loud r (true ∷ bs) = λ is. (refl, l is) in
          let gs = joins (leave_grows _) (joins (leave_grows _) g) in
          let g2 = joins (enter_grows _) (joins (stmt_grows u t _) gs) in
          let g1 = joins (some_expr_grows u e2 _) g2 in
          let one = for_start_ok q r start (true ∷ bs) _ loud wf.0 (chf (for_start_selections u S start) _ ch)
          (front w (for_start_starts (a q) start) _ found) (joins (some_expr_grows u e _) g1)
          (good_enter w well true (true ∷ bs) s h) in
          let two = some_expr_ok q r e true (true ∷ bs) _ (λ is. (refl, loud is)) wf.1
          (chf (some_expr_selections u S e) _ (chb (for_start_selections u S start) _ ch))
          (front w (some_expr_starts (a q) e) _ behind) g1 one.0 in
          let three =
          some_expr_ok q r e2 true (true ∷ bs) _ (λ is. (refl, loud is)) wf.2 (chf (some_expr_selections u S e2) _
          (chb (some_expr_selections u S e) _ (chb (for_start_selections u S start) _ ch)))
          (front w (some_expr_starts (a q) e2) _ last) g2 two.0 in
          let four = stmt_ok q r t (true ∷ true ∷ bs) _ (λ is. (refl, loud is)) wf.3 (chb (some_expr_selections u S e2)
          _ (chb (some_expr_selections u S e) _ (chb (for_start_selections u S start) _ ch)))
          (back w (some_expr_starts (a q) e2) _ last) gs (good_enter w well true (true ∷ true ∷ bs) _ three.0) in (
            good_leave w well true (true ∷ bs) _ (good_leave w well true (true ∷ true ∷ bs) _ four.0),
            λ is. (one.1 is, (two.1 is, (three.1 is, four.1 is))),
          )
      stmt_ok q r (goto_stmt keyword name semi) bs s l wf ch found g h = (h, λ is. tt)
      stmt_ok q r (continue_stmt keyword semi) bs s l wf ch found g h = (h, λ is. tt)
      stmt_ok q r (break_stmt keyword semi) bs s l wf ch found g h = (h, λ is. tt)
      stmt_ok q r (return_stmt keyword e semi) bs s l wf ch found g h =
          some_expr_ok q r e true bs s (λ is. (refl, l is)) wf ch found g h
      stmt_ok q r (asm_stmt keyword words group semi) bs s l wf ch found g h = (h, λ is. tt)
      stmt_ok q r (case_range keyword e dots e2 colon t) bs s l wf ch found g h =
          let behind = back w (expr_starts (a true) e) _ found in
          let gt = joins (stmt_grows u t _) g in
          let one = expr_ok true true false e true bs s (λ is. absurd cc) wf.0 (λ is. absurd cc)
          (front w (expr_starts (a true) e) _ found) (joins (expr_grows u false e2 _) gt) h in
          let two = expr_ok true true false e2 true bs _ (λ is. absurd cc) wf.2 (λ is. absurd cc)
          (front w (expr_starts (a true) e2) _ behind) gt one.0 in
          stmt_ok q r t bs _ l wf.4 (chb (expr_selections u S e2) _ (chb (expr_selections u S e) _ ch))
          (back w (expr_starts (a true) e2) _ behind) g two.0
      stmt_ok q r (goto_value keyword star e semi) bs s l wf ch found g h =
          expr_ok q r false e true bs s (λ is. (refl, l is)) wf ch found g h

      some_else_ok : (q r : Bool) (it : SomeElse) (before : Stmt) (bs : List Bool) (s : Names) → Loud r bs →
          IsOther all before it → (r ≡ false → AreChosen w (some_else_selections u S it))
          → AreFound w (some_else_starts (a q) it) → Grows (some_else_named u it s) S →
          G (true ∷ bs) s → G (true ∷ bs) (some_else_named u it s) × (r ≡ false → SomeElseHas P U V W it)
      some_else_ok q r no_else before bs s l wf ch found g h = (h, λ is. tt)
      some_else_ok q r (some_else keyword t) before bs s l wf ch found g h =
          let one = stmt_ok q r t (true ∷ bs) _ (λ is. (refl, l is)) wf.0 ch found (joins (leave_grows _) g)
          (good_enter w well true (true ∷ bs) s h) in
          (good_leave w well true (true ∷ bs) _ one.0, one.1)

      for_start_ok : (q r : Bool) (start : ForStart) (bs : List Bool) (s : Names) → Loud r bs →
          IsStart all start → (r ≡ false → AreChosen w (for_start_selections u S start))
          → AreFound w (for_start_starts (a q) start) →
          Grows (for_start_named u start s) S → G (true ∷ bs) s →
          G (true ∷ bs) (for_start_named u start s) × (r ≡ false → ForStartHas P U V W start)
      for_start_ok q r (start_declaration d) bs s l wf ch found g h = declaration_ok q r d bs s l wf ch found g h
      for_start_ok q r (start_value e semi) bs s l wf ch found g h =
          some_expr_ok q r e true bs s (λ is. (refl, l is)) wf ch found g h
