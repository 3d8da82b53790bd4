-- Scopes of names fit those of the grammar through each part of a tree.
use Rattle.std.proofs.Common.{◌≡◌, ℕ, suc, Bool, true, false, List, [], ◌∷◌, Option, None, Some, refl}
use Rattle.std.specs.Prelude.{◌&&◌, not, if◌then◌else◌}
use Rattle.c_words.specs.declared.kinds.Keyword.{Keyword}
use Rattle.c_words.specs.declared.kinds.Punct.{Punct}
use Rattle.c_words.specs.declared.kinds.Punct.TheVariants.{Colon, Comma, Equal}
use Rattle.c_syntax.specs.declared.parts.Identifier.{Identifier}
use Rattle.c_syntax.specs.declared.parts.Word.{Word}
use Rattle.c_syntax.specs.declared.parts.Group.{Group}
use Rattle.c_syntax.specs.declared.parts.Attr.{Attr}
use Rattle.c_syntax.specs.declared.parts.AsmLabel.{AsmLabel}
use Rattle.c_syntax.specs.declared.parts.Assert.{Assert}
use Rattle.c_syntax.specs.declared.parts.Qual.{Qual}
use Rattle.c_syntax.specs.declared.parts.Qual.TheVariants as quals
use Rattle.c_syntax.specs.declared.parts.PointerWord.{PointerWord}
use Rattle.c_syntax.specs.declared.parts.PointerWord.TheVariants as pointer_words
use Rattle.c_syntax.specs.declared.parts.ArrayWord.{ArrayWord}
use Rattle.c_syntax.specs.declared.parts.ArrayWord.TheVariants as array_words
use Rattle.c_tree.specs.declared.lexeme.Lexeme.{Lexeme}
use Rattle.c_tree.specs.Tree.{Expr, operation, cast, prefix, sizeof_value, sizeof_type, extension, index, call, dot, arrow, post, compound, name_use, number_use, char_use, text_use, paren, statement_expr, va_arg, va_start, va_copy, offset, Operator, comma, assign, cond, binary, SomeExpr, no_expr, some_expr, Exprs, no_exprs, more_exprs, SpecWords, no_words, more_words, SpecWord, storage, thread, inline_word, noreturn, qualifier, basic, struct_type, enum_type, typedef_name, attribute, SomeBody, no_body, some_body, StructItems, no_struct_items, more_struct_items, StructItem, member, member_semi, member_assert, MemDeclrs, no_mem_declrs, more_mem_declrs, MemDeclr, named, unnamed, SomeValue, no_value, some_value, EnumType, enum_of, no_enum_body, some_enum_body, Enumerators, no_enumerators, more_enumerators, Declr, pointer, declr_name, declr_paren, array, params, abs_pointer, abs_paren, abs_array, abs_params, SomeDeclr, no_declr, some_declr, SomeSize, no_size, some_size, ArraySize, size_value, size_star, Params, no_params, more_params, Init, init_value, init_braced, InitList, init_list, InitItems, no_init_items, more_init_items, Desigs, no_desigs, more_desigs, Desig, member_desig, index_desig, SomeInit, no_init, some_init, InitDeclrs, no_init_declrs, more_init_declrs, Declaration, declaration, Decl, decl_declaration, decl_assert, BlockItems, no_block_items, more_block_items, BlockItem, block_decl, block_stmt, Stmt, block, expr_stmt, attr_stmt, label, case_stmt, default_stmt, if_stmt, switch_stmt, while_stmt, do_stmt, for_stmt, goto_stmt, continue_stmt, break_stmt, return_stmt, asm_stmt, SomeElse, no_else, some_else, ForStart, start_declaration, start_value, identifiers, base_name, complex_part, label_use, compat, choose, generic, Assocs, no_assocs, more_assocs, Assoc, typed_assoc, default_assoc, typeof_value, typeof_type, align, auto_word, range_desig, old_desig, block_labels, case_range, goto_value}
use Rattle.c_tree.specs.Tree.{Dots}
use Rattle.c_tree.specs.Text.{some_sign_text, tag_text, words_text, extensions_text, texts_text, group_text, tokens_between, attr_text, attrs_text, label_text, assert_text, qual_text, quals_text, pointer_words_text, array_words_text, dots_text, expr_text, operator_text, some_expr_text, exprs_text, other_exprs_text, spec_words_text, spec_word_text, some_body_text, struct_items_text, struct_item_text, mem_declrs_text, other_mem_declrs_text, mem_declr_text, some_value_text, enum_type_text, enumerators_text, other_enumerators_text, declr_text, some_declr_text, some_size_text, array_size_text, params_text, other_params_text, init_text, init_list_text, init_items_text, other_init_items_text, desigs_text, desig_text, some_init_text, init_declrs_text, other_init_declrs_text, declaration_text, decl_text, block_items_text, block_item_text, stmt_text, some_else_text, for_start_text, names_text, other_names_text, assocs_text, assoc_text}
use Rattle.c_tree.specs.Specifiers.{storage_words}
use Rattle.c_tree.specs.WellFormed.{has_auto}
use Rattle.tape_ops.specs.declared.specifier.TagKind.{TagKind}
use Rattle.tape_ops.specs.declared.specifier.TagKind.TheVariants as tags
use Rattle.type_table.specs.Types.{Words, CType, base}
use Rattle.typedef_scope.specs.declared.kind.Kind.{Kind}
use Rattle.typedef_scope.specs.declared.kind.Kind.TheVariants.{Typedef, Value, Constant}
use Rattle.typedef_scope.specs.Scopes.{is_same}
use Rattle.c_units.specs.HeldScopes.{HeldScope, HeldScopes, is_typedef, is_wide, release}
use Rattle.c_units.specs.HeldScopes as held
use Rattle.c_units.specs.Scoping.{is_base, behind, declared_kind, has_typedef_word, expr_scopes, operator_scopes, some_expr_scopes, exprs_scopes, spec_words_scopes, spec_word_scopes, some_body_scopes, struct_items_scopes, struct_item_scopes, mem_declrs_scopes, mem_declr_scopes, some_value_scopes, enum_type_scopes, enumerators_scopes, declr_scopes, some_declr_scopes, some_size_scopes, array_size_scopes, params_scopes, init_scopes, init_list_scopes, init_items_scopes, desigs_scopes, desig_scopes, some_init_scopes, init_declrs_scopes, declaration_scopes, decl_scopes, block_items_scopes, block_item_scopes, stmt_scopes, some_else_scopes, for_start_scopes, assocs_scopes, assoc_scopes, auto_declrs_scopes, identifiers_scopes}
use Rattle.name_rules.specs.Spellings.{Spelling, Place, place, Named}
use Rattle.name_rules.specs.Scopes.{Names}
use Rattle.name_rules.specs.Declaring.{keep, own_where, tag_used, untagged}
use Rattle.type_rules.specs.Tokens.{declared_name, some_declared_name, is_bare, have_values}
use Rattle.type_rules.specs.Naming.{body_begun, tag_named, tag_kind, unnamed_among, unnamed_by, expr_named, operator_named, some_expr_named, exprs_named, words_named, word_named, struct_named, struct_items_named, struct_item_named, unnamed_where, mem_declrs_named, mem_declr_named, some_value_named, enum_named, enumerators_named, declr_named, some_declr_named, some_size_named, array_size_named, params_named, init_named, init_list_named, init_items_named, desigs_named, desig_named, some_init_named, init_declrs_named, declaration_named, decl_named, block_items_named, block_item_named, stmt_named, some_else_named, for_start_named, assocs_named, assoc_named, auto_declrs_named, auto_named}
use Rattle.first_laws.proofs.Growing.{init_list_grows}
use Rattle.first_laws.proofs.Fitting.{Level, plain, Fine, Fit, also, checked, done, eat, eats, ends, entered, own, step, tested, step_two}
use Rattle.first_laws.proofs.Changes.{body_fits, enumerator_fits, found_fits, hold_fits, holding, member_fits, param_fits, some_fits, type_fits, unnamed_fits, untagged_fits, used_fits, dropped, let_go, typed_by_fits, alike}

-- parts without scopes

module _ {u : Spelling} {N : ℕ → Type 0} {q : Option ℕ} {qs : List Level} {k : Option HeldScope} {h : HeldScopes}
    {s : Names} where
  some_sign_past : (p : Punct) (o : Option ℕ) {ts : List Lexeme} → Fit u N q qs k h s (some_sign_text p o ts) →
      Fit u N q qs k h s ts
  some_sign_past p None f = f
  some_sign_past p (Some token) f = eat f

  tag_past : (tag : Option Identifier) {ts : List Lexeme} → Fit u N q qs k h s (tag_text tag ts) → Fit u N q qs k h s ts
  tag_past None f = f
  tag_past (Some tag) f = eat f

  pub words_past : (ws : List Word) {ts : List Lexeme} → Fit u N q qs k h s (words_text ws ts) → Fit u N q qs k h s ts
  words_past [] f = f
  words_past (w ∷ ws) f = words_past ws (eat f)

  pub extensions_past : (tokens : List ℕ) {ts : List Lexeme} → Fit u N q qs k h s (extensions_text tokens ts) →
      Fit u N q qs k h s ts
  extensions_past [] f = f
  extensions_past (token ∷ tokens) f = extensions_past tokens (eat f)

  texts_past : (tokens : List ℕ) {ts : List Lexeme} → Fit u N q qs k h s (texts_text tokens ts) → Fit u N q qs k h s ts
  texts_past [] f = f
  texts_past (token ∷ tokens) f = texts_past tokens (eat f)

  other_names_past : (names : List Identifier) {ts : List Lexeme} → Fit u N q qs k h s (other_names_text names ts) →
      Fit u N q qs k h s ts
  other_names_past [] f = f
  other_names_past (name ∷ names) f = other_names_past names (eat (eat f))

  pub names_past : (names : List Identifier) {ts : List Lexeme} → Fit u N q qs k h s (names_text names ts) →
      Fit u N q qs k h s ts
  names_past [] f = f
  names_past (name ∷ names) f = other_names_past names (eat f)

  module _ (all : List Lexeme) where
    pub group_past : (g : Group) {ts : List Lexeme} → Fit u N q qs k h s (group_text all g ts) → Fit u N q qs k h s ts
    group_past g f = eats (tokens_between all g.first g.last) f

    attr_past : (a : Attr) {ts : List Lexeme} → Fit u N q qs k h s (attr_text all a ts) → Fit u N q qs k h s ts
    attr_past a f = group_past a.group (eat f)

    pub attrs_past : (attrs : List Attr) {ts : List Lexeme} → Fit u N q qs k h s (attrs_text all attrs ts) →
        Fit u N q qs k h s ts
    attrs_past [] f = f
    attrs_past (a ∷ attrs) f = attrs_past attrs (attr_past a f)

    pub label_past : (l : Option AsmLabel) {ts : List Lexeme} → Fit u N q qs k h s (label_text all l ts)
        → Fit u N q qs k h s ts
    label_past None f = f
    label_past (Some l) f = group_past l.group (eat f)

    assert_past : (it : Assert) {ts : List Lexeme} → Fit u N q qs k h s (assert_text all it ts) → Fit u N q qs k h s ts
    assert_past it f = eat (group_past it.group (eat f))

    qual_past : (qual : Qual) {ts : List Lexeme} → Fit u N q qs k h s (qual_text all qual ts) → Fit u N q qs k h s ts
    qual_past (quals.Word w) f = eat f
    qual_past (quals.Element token) f = eats (tokens_between all token token) f
    qual_past (quals.Index token) f = eat f

    quals_past : (qs2 : List Qual) {ts : List Lexeme} → Fit u N q qs k h s (quals_text all qs2 ts)
        → Fit u N q qs k h s ts
    quals_past [] f = f
    quals_past (qual ∷ qs2) f = quals_past qs2 (qual_past qual f)

    pub pointer_words_past : (ws : List PointerWord) {ts : List Lexeme}
        → Fit u N q qs k h s (pointer_words_text all ws ts) →
        Fit u N q qs k h s ts
    pointer_words_past [] f = f
    pointer_words_past (pointer_words.Qual qual ∷ ws) f = pointer_words_past ws (qual_past qual f)
    pointer_words_past (pointer_words.Attr a ∷ ws) f = pointer_words_past ws (attr_past a f)

    pub array_words_past : (ws : List ArrayWord) {ts : List Lexeme} → Fit u N q qs k h s (array_words_text all ws ts) →
        Fit u N q qs k h s ts
    array_words_past [] f = f
    array_words_past (array_words.Static token ∷ ws) f = array_words_past ws (eat f)
    array_words_past (array_words.Qual qual ∷ ws) f = array_words_past ws (qual_past qual f)

    pub dots_past : (dots : Option Dots) {ts : List Lexeme} → Fit u N q qs k h s (dots_text all dots ts)
        → Fit u N q qs k h s ts
    dots_past None f = f
    dots_past (Some dots) f = eat (quals_past dots.quals (eat f))

-- a declarator whose name is declared with a kind, which is no enumerator's
abbrev pub IsWanted : Option Kind → Type 0
IsWanted None = Unit {0}
IsWanted (Some kind) = is_same Constant kind ≡ false

-- the name that is held behind a declarator
abbrev pub held_then : Option Kind → Option Named → Option ℕ → Option ℕ
held_then None it q = q
held_then (Some kind) it q = holding it q

pub no_enumerator : (b : Bool) → is_same Constant (if b then Typedef else Value) ≡ false
no_enumerator true = refl
no_enumerator false = refl

none_owns : (b : Bool) → own_where b None ≡ None
none_owns true = refl
none_owns false = refl

module _ {u : Spelling} {N : ℕ → Type 0} where
  pub kept_by_none : {q : Option ℕ} {qs : List Level} {k : Option HeldScope} {o : Option HeldScopes} {t : Names}
      {ts : List Lexeme} (owner : Option Place) → owner ≡ None → Fine u N None (plain q ∷ qs) k o t ts →
      Fine u N q qs k (behind o (λ inner. Some (held.leave inner))) (keep owner t) ts
  kept_by_none None e f = own f
  kept_by_none (Some p) e f = absurd cc

  -- names of the types of their initialisers, where all have one, and others
  pub chosen : {q : Option ℕ} {qs : List Level} {k : Option HeldScope} {h : HeldScopes} {s t : Names} {ts : List Lexeme}
      (b c : Bool) (f g : HeldScopes → Option HeldScopes) → Fine u N q qs k (f h) s ts → Fine u N q qs k (f h) t ts →
      Fine u N q qs k (g h) t ts → Fine u N q qs k ((if b then f else g) h) (if b && c then s else t) ts
  chosen true true f g one two three = one
  chosen true false f g one two three = two
  chosen false c f g one two three = three

  -- identifiers of a list are no typedef names
  pub identifiers_tested : {q : Option ℕ} {qs : List Level} {k : Option HeldScope} {s : Names} {ts : List Lexeme}
      (names : List Identifier) (h : HeldScopes) → Fit u N q qs k h s ts
      → Fine u N q qs k (identifiers_scopes names h) s ts
  identifiers_tested [] h f = done f
  identifiers_tested (it ∷ names) h f =
      step (tested (not (held.names_type h it.name)) f) (λ h g. identifiers_tested names h g)

module _ (u : Spelling) (N : ℕ → Type 0) (keys : (m n : ℕ) → N m → N n → u.key m ≡ u.key n → m ≡ n)
    (all : List Lexeme) where
  abbrev F : Option ℕ → List Level → Option HeldScope → HeldScopes → Names → List Lexeme → Type 0
  F q qs k h s ts = Fit u N q qs k h s ts

  tag_fits : {q : Option ℕ} {qs : List Level} {k : Option HeldScope} {h : HeldScopes} {s : Names} {ts : List Lexeme}
      (alone : Bool) (kind : TagKind) (tag : Option Identifier) (t : CType) → F q qs k h s ts →
      F q qs k h (tag_named u alone kind tag t s).names ts
  tag_fits alone kind None t f = f
  tag_fits alone kind (Some tag) t f = found_fits u N keys _ kind tag.token tag.name f

  begun_fits : {q : Option ℕ} {qs : List Level} {k : Option HeldScope} {h : HeldScopes} {s : Names} {ts : List Lexeme}
      (kind : TagKind) (keyword : ℕ) (tag : Option Identifier) → F q qs k h s ts →
      F q qs k h (body_begun u kind keyword tag s).names ts
  begun_fits {s = s} kind keyword None f =
      body_fits u N keys _ kind None (untagged (place u keyword) kind s) (untagged_fits u N keys _ kind f)
  begun_fits {s = s} kind keyword (Some tag) f =
      body_fits u N keys _ kind _ (tag_used u true kind tag.token tag.name s)
      (found_fits u N keys _ kind tag.token tag.name f)

  unnamed_by_fits : {q : Option ℕ} {qs : List Level} {k : Option HeldScope} {h : HeldScopes} {s : Names}
      {ts : List Lexeme} (word : SpecWord) (n : ℕ) (t : CType) → F q qs k h s ts →
      F q qs k h (unnamed_by u word n t s) ts
  unnamed_by_fits (struct_type word attrs None body) n t f = unnamed_fits u N keys _ n t f
  unnamed_by_fits (struct_type word attrs (Some tag) body) n t f = f
  unnamed_by_fits (storage word) n t f = f
  unnamed_by_fits (thread token) n t f = f
  unnamed_by_fits (inline_word token) n t f = f
  unnamed_by_fits (noreturn token) n t f = f
  unnamed_by_fits (qualifier qual) n t f = f
  unnamed_by_fits (basic word) n t f = f
  unnamed_by_fits (enum_type e) n t f = f
  unnamed_by_fits (typedef_name name) n t f = f
  unnamed_by_fits (attribute attr) n t f = f
  unnamed_by_fits (typeof_value keyword opening e closing) n t f = f
  unnamed_by_fits (typeof_type other opening ws d closing) n t f = f
  unnamed_by_fits (align attr) n t f = f
  unnamed_by_fits (auto_word token) n t f = f

  unnamed_among_fits : (ws : SpecWords) (n : ℕ) (t : CType) {q : Option ℕ} {qs : List Level} {k : Option HeldScope}
      {h : HeldScopes}
      {s : Names} {ts : List Lexeme} → F q qs k h s ts → F q qs k h (unnamed_among u ws n t s) ts
  unnamed_among_fits no_words n t f = f
  unnamed_among_fits (more_words word ws) n t f = unnamed_among_fits ws n t (unnamed_by_fits word n t f)

  unnamed_where_fits : {q : Option ℕ} {qs : List Level} {k : Option HeldScope} {h : HeldScopes} {s : Names}
      {ts : List Lexeme} (ds : MemDeclrs) (ws : SpecWords) (n : ℕ) (t : CType) → F q qs k h s ts →
      F q qs k h (unnamed_where u ds ws n t s) ts
  unnamed_where_fits no_mem_declrs ws n t f = unnamed_among_fits ws n t f
  unnamed_where_fits (more_mem_declrs attrs d ds) ws n t f = f

  -- names behind a list of initialisers that they were not gone through in
  listed : {q : Option ℕ} {qs : List Level} {k : Option HeldScope} {s t : Names} {vs ts : List Lexeme} (list : InitList)
      (h : HeldScopes) → F q qs k h s vs → Fine u N q qs k (init_list_scopes list h) t ts →
      Fine u N None qs k (behind (init_list_scopes list h) (λ t. Some (release Value t))) s ts
  listed {q} {qs} {k} {s} {t} {vs} {ts} list h f g = by (init_list_scopes list h) refl g
    where
      by : (o : Option HeldScopes) → init_list_scopes list h ≡ o → Fine u N q qs k o t ts →
          Fine u N None qs k (behind o (λ t. Some (release Value t))) s ts
      by None e g = record { fits = λ h is. absurd cc }
      by (Some mid) e g = done (let_go u N keys Value
          ((init_list_grows list h).grows mid e)
          (g.fits mid refl).names f)

  -- what stands in the place of the name behind `__auto_type`: a base word declares nothing
  pub base_or : (d : Declr) {qs : List Level} {k : Option HeldScope} {s : Names} {ts : List Lexeme} (h : HeldScopes)
      → F None qs k h s (declr_text all d ts) →
      Fine u N (held_then (Some Value) (declared_name d) None) qs k (declr_scopes (Some Value) d h)
      (declr_named u None d s).names ts →
      Fine u N (held_then (Some Value) (declared_name d) None) qs k
      (if is_base d then Some h else declr_scopes (Some Value) d h) (declr_named u None d s).names ts
  base_or (base_name token) h f g = done (eat f)
  base_or (declr_name token name) h f g = g
  base_or (array d opening words size closing) h f g = g
  base_or (params d opening ps dots closing) h f g = g
  base_or (identifiers d opening names closing) h f g = g
  base_or (pointer star words d) h f g = g
  base_or (declr_paren opening attrs d closing) h f g = g
  base_or (abs_pointer star words d) h f g = g
  base_or (abs_paren opening attrs d closing) h f g = g
  base_or (abs_array d opening words size closing) h f g = g
  base_or (abs_params d opening ps dots closing) h f g = g

  mutual
    pub expr_fits : (e : Expr) (c : Bool)
        {q : Option ℕ} {qs : List Level} {k : Option HeldScope} {s : Names} {ts : List Lexeme} (h : HeldScopes) →
        F q qs k h s (expr_text all e ts) →
        Fine u N q qs k (expr_scopes e h) (expr_named u c e s) ts
    expr_fits (operation e op token e2) c h f =
        step (step (expr_fits e false h f) (operator_fits op token)) (expr_fits e2 false)
    expr_fits (cast opening ws d closing e) c h f =
        step (step (words_fit ws false _ _ h (eat f)) (some_declr_fits None d tt))
        (λ h g. expr_fits e false h (type_fits u N keys _ _ (eat g)))
    expr_fits (prefix token p e) c h f = expr_fits e false h (eat f)
    expr_fits (sizeof_value word e) c h f = expr_fits e false h (eat f)
    expr_fits (sizeof_type word opening ws d closing) c h f =
        also (step (words_fit ws false _ _ h (eat (eat f))) (some_declr_fits None d tt))
        (λ h g. type_fits u N keys _ _ (eat g))
    expr_fits (extension keyword e) c h f = expr_fits e false h (eat f)
    expr_fits (index e opening e2 closing) c h f =
        step (expr_fits e false h f) (λ h g. ends (expr_fits e2 false h (eat g)))
    expr_fits (call e opening es closing) c h f = step (expr_fits e true h f) (λ h g. ends (exprs_fit es h (eat g)))
    expr_fits (dot e token name) c h f = also (expr_fits e false h f) (λ h g. eat (eat g))
    expr_fits (arrow e token name) c h f = also (expr_fits e false h f) (λ h g. eat (eat g))
    expr_fits (post e token p) c h f = ends (expr_fits e false h f)
    expr_fits (compound opening ws d closing list) c h f =
        step (step (words_fit ws false _ _ h (eat f)) (some_declr_fits None d tt))
        (λ h g. init_list_fits list h (type_fits u N keys _ _ (eat g)))
    expr_fits (name_use token name) c h f =
        tested (not (held.names_type h name)) (used_fits u N keys c token name (eat f))
    expr_fits (number_use token) c h f = done (eat f)
    expr_fits (char_use token) c h f = done (eat f)
    expr_fits (text_use texts) c h f = done (texts_past texts f)
    expr_fits (paren opening e closing) c h f = ends (expr_fits e false h (eat f))
    expr_fits (statement_expr opening opening2 items closing closing2) c h f =
        own (ends (ends (block_items_fit items _ (entered (eat (eat f))))))
    expr_fits (va_arg keyword opening e separator ws d closing) c h f =
        also (step (step (expr_fits e false h (eat (eat f))) (λ h g. words_fit ws false _ _ h (eat g)))
        (some_declr_fits None d tt)) (λ h g. type_fits u N keys _ _ (eat g))
    expr_fits (va_start keyword opening e separator e2 closing) c h f =
        step (expr_fits e false h (eat (eat f))) (λ h g. ends (expr_fits e2 false h (eat g)))
    expr_fits (va_copy keyword opening e separator e2 closing) c h f =
        step (expr_fits e false h (eat (eat f))) (λ h g. ends (expr_fits e2 false h (eat g)))
    expr_fits (offset keyword opening ws d separator name steps closing) c h f =
        step (step (words_fit ws false _ _ h (eat (eat f))) (some_declr_fits None d tt))
        (λ h g. ends (desigs_fit steps h (type_fits u N keys _ _ (eat (eat g)))))
    expr_fits (complex_part keyword e) c h f = expr_fits e false h (eat f)
    expr_fits (label_use token name) c h f = tested (is_wide h) (eat (eat f))
    expr_fits (compat keyword opening ws d separator ws2 d2 closing) c h f =
        also (step (step (step (words_fit ws false _ _ h (eat (eat f))) (some_declr_fits None d tt))
        (λ h g. words_fit ws2 false _ _ h (type_fits u N keys _ _ (eat g)))) (some_declr_fits None d2 tt))
        (λ h g. type_fits u N keys _ _ (eat g))
    expr_fits (choose keyword opening e separator e2 separator2 e3 closing) c h f =
        step (step (expr_fits e false h (eat (eat f))) (λ h g. expr_fits e2 false h (eat g)))
        (λ h g. ends (expr_fits e3 false h (eat g)))
    expr_fits (generic keyword opening e xs closing) c h f =
        step (expr_fits e false h (eat (eat f))) (λ h g. ends (assocs_fit xs h g))

    pub assocs_fit : (xs : Assocs)
        {q : Option ℕ} {qs : List Level} {k : Option HeldScope} {s : Names} {ts : List Lexeme} (h : HeldScopes) →
        F q qs k h s (assocs_text all xs ts) →
        Fine u N q qs k (assocs_scopes xs h) (assocs_named u xs s) ts
    assocs_fit no_assocs h f = done f
    assocs_fit (more_assocs x xs) h f = step (assoc_fits x h (eat f)) (assocs_fit xs)

    pub assoc_fits : (x : Assoc)
        {q : Option ℕ} {qs : List Level} {k : Option HeldScope} {s : Names} {ts : List Lexeme} (h : HeldScopes) →
        F q qs k h s (assoc_text all x ts) →
        Fine u N q qs k (assoc_scopes x h) (assoc_named u x s) ts
    assoc_fits (typed_assoc ws d colon e) h f =
        step (step (words_fit ws false _ _ h f) (some_declr_fits None d tt))
        (λ h g. expr_fits e false h (type_fits u N keys _ _ (eat g)))
    assoc_fits (default_assoc keyword colon e) h f = expr_fits e false h (eat (eat f))

    pub operator_fits : (op : Operator) (token : ℕ)
        {q : Option ℕ} {qs : List Level} {k : Option HeldScope} {s : Names} {ts : List Lexeme} (h : HeldScopes) →
        F q qs k h s (operator_text all op token ts) →
        Fine u N q qs k (operator_scopes op h) (operator_named u op s) ts
    operator_fits comma token h f = done (eat f)
    operator_fits (assign p) token h f = done (eat f)
    operator_fits (cond e colon) token h f = ends (some_expr_fits e h (eat f))
    operator_fits (binary p) token h f = done (eat f)

    pub some_expr_fits : (e : SomeExpr)
        {q : Option ℕ} {qs : List Level} {k : Option HeldScope} {s : Names} {ts : List Lexeme} (h : HeldScopes) →
        F q qs k h s (some_expr_text all e ts) →
        Fine u N q qs k (some_expr_scopes e h) (some_expr_named u e s) ts
    some_expr_fits no_expr h f = done f
    some_expr_fits (some_expr e) h f = expr_fits e false h f

    pub exprs_fit : (es : Exprs)
        {q : Option ℕ} {qs : List Level} {k : Option HeldScope} {s : Names} {ts : List Lexeme} (h : HeldScopes) →
        F q qs k h s (exprs_text all es ts) →
        Fine u N q qs k (exprs_scopes es h) (exprs_named u es s) ts
    exprs_fit no_exprs h f = done f
    exprs_fit (more_exprs e es) h f = step (expr_fits e false h f) (other_exprs_fit es)

    pub other_exprs_fit : (es : Exprs)
        {q : Option ℕ} {qs : List Level} {k : Option HeldScope} {s : Names} {ts : List Lexeme} (h : HeldScopes) →
        F q qs k h s (other_exprs_text all es ts) →
        Fine u N q qs k (exprs_scopes es h) (exprs_named u es s) ts
    other_exprs_fit no_exprs h f = done f
    other_exprs_fit (more_exprs e es) h f = step (expr_fits e false h (eat f)) (other_exprs_fit es)

    pub words_fit : (ws : SpecWords) (alone : Bool) (t : CType) (words : Words)
        {q : Option ℕ} {qs : List Level} {k : Option HeldScope} {s : Names} {ts : List Lexeme} (h : HeldScopes) →
        F q qs k h s (spec_words_text all ws ts) →
        Fine u N q qs k (spec_words_scopes ws h) ((words_named u alone ws t words s).names) ts
    words_fit no_words alone t words h f = done f
    words_fit (more_words word ws) alone t words h f = step (word_fits word alone t h f) (words_fit ws alone _ _)

    pub word_fits : (word : SpecWord) (alone : Bool) (t : CType)
        {q : Option ℕ} {qs : List Level} {k : Option HeldScope} {s : Names} {ts : List Lexeme} (h : HeldScopes) →
        F q qs k h s (spec_word_text all word ts) →
        Fine u N q qs k (spec_word_scopes word h) ((word_named u alone word t s).names) ts
    word_fits (storage word) alone t h f = done (eat f)
    word_fits (thread keyword) alone t h f = done (eat f)
    word_fits (inline_word keyword) alone t h f = done (eat f)
    word_fits (noreturn keyword) alone t h f = done (eat f)
    word_fits (qualifier qual) alone t h f = done (qual_past all qual f)
    word_fits (basic word) alone t h f = done (eat f)
    word_fits (struct_type word attrs tag body) alone t h f =
        body_of_fits body alone (tag_kind word.keyword) word.token tag t h (tag_past tag (attrs_past all attrs (eat f)))
    word_fits (enum_type enum) alone t h f = enum_fits enum h f
    word_fits (typedef_name name) alone t h f = tested (held.names_type h name.name) (eat f)
    word_fits (attribute attr) alone t h f = done (attr_past all attr f)
    word_fits (typeof_value keyword opening e closing) alone t h f =
        also (expr_fits e false h (eat (eat f))) (λ h g. typed_by_fits u N keys closing _ (eat g))
    word_fits (typeof_type word opening ws d closing) alone t h f =
        also (step (words_fit ws false _ _ h (eat (eat f))) (some_declr_fits None d tt))
        (λ h g. type_fits u N keys _ _ (eat g))
    word_fits (align attr) alone t h f = done (group_past all attr.group (eat f))
    word_fits (auto_word token) alone t h f = done (eat f)

    pub body_of_fits : (body : SomeBody) (alone : Bool) (kind : TagKind) (keyword : ℕ)
        (tag : Option Identifier) (t : CType)
        {q : Option ℕ} {qs : List Level} {k : Option HeldScope} {s : Names} {ts : List Lexeme} (h : HeldScopes) →
        F q qs k h s (some_body_text all body ts) →
        Fine u N q qs k (some_body_scopes body h) ((struct_named u alone kind keyword tag body t s).names) ts
    body_of_fits no_body alone kind keyword tag t h f = done (tag_fits alone kind tag t f)
    body_of_fits (some_body opening items closing) alone kind keyword tag t h f =
        ends (struct_items_fit items _ h (begun_fits kind keyword tag (eat f)))

    pub struct_items_fit : (items : StructItems) (n : ℕ)
        {q : Option ℕ} {qs : List Level} {k : Option HeldScope} {s : Names} {ts : List Lexeme} (h : HeldScopes) →
        F q qs k h s (struct_items_text all items ts) →
        Fine u N q qs k (struct_items_scopes items h) (struct_items_named u n items s) ts
    struct_items_fit no_struct_items n h f = done f
    struct_items_fit (more_struct_items item items) n h f =
        step (struct_item_fits item n h f) (struct_items_fit items n)

    pub struct_item_fits : (item : StructItem) (n : ℕ)
        {q : Option ℕ} {qs : List Level} {k : Option HeldScope} {s : Names} {ts : List Lexeme} (h : HeldScopes) →
        F q qs k h s (struct_item_text all item ts) →
        Fine u N q qs k (struct_item_scopes item h) (struct_item_named u n item s) ts
    struct_item_fits (member exts ws ds semi) n h f =
        step (words_fit ws false _ _ h (extensions_past exts f))
        (λ h g. ends (mem_declrs_fit ds n _ h (unnamed_where_fits ds ws n _ g)))
    struct_item_fits (member_semi semi) n h f = done (eat f)
    struct_item_fits (member_assert it) n h f = done (assert_past all it f)

    pub mem_declrs_fit : (ds : MemDeclrs) (n : ℕ) (t : CType)
        {q : Option ℕ} {qs : List Level} {k : Option HeldScope} {s : Names} {ts : List Lexeme} (h : HeldScopes) →
        F q qs k h s (mem_declrs_text all ds ts) →
        Fine u N q qs k (mem_declrs_scopes ds h) (mem_declrs_named u n t ds s) ts
    mem_declrs_fit no_mem_declrs n t h f = done f
    mem_declrs_fit (more_mem_declrs attrs d ds) n t h f =
        step (mem_declr_fits d n t h (attrs_past all attrs f)) (other_mem_declrs_fit ds n t)

    pub other_mem_declrs_fit : (ds : MemDeclrs) (n : ℕ) (t : CType)
        {q : Option ℕ} {qs : List Level} {k : Option HeldScope} {s : Names} {ts : List Lexeme} (h : HeldScopes) →
        F q qs k h s (other_mem_declrs_text all ds ts) →
        Fine u N q qs k (mem_declrs_scopes ds h) (mem_declrs_named u n t ds s) ts
    other_mem_declrs_fit no_mem_declrs n t h f = done f
    other_mem_declrs_fit (more_mem_declrs attrs d ds) n t h f =
        step (mem_declr_fits d n t h (attrs_past all attrs (eat f))) (other_mem_declrs_fit ds n t)

    pub mem_declr_fits : (d : MemDeclr) (n : ℕ) (t : CType)
        {q : Option ℕ} {qs : List Level} {k : Option HeldScope} {s : Names} {ts : List Lexeme} (h : HeldScopes) →
        F q qs k h s (mem_declr_text all d ts) →
        Fine u N q qs k (mem_declr_scopes d h) (mem_declr_named u n t d s) ts
    mem_declr_fits (named d width attrs) n t h f =
        also (step (declr_fits None d tt h f)
        (λ h g. some_value_fits Colon width h (member_fits u N keys (declared_name d) n _ g)))
        (λ h g. attrs_past all attrs g)
    mem_declr_fits (unnamed colon e attrs) n t h f =
        also (expr_fits e false h (eat f)) (λ h g. attrs_past all attrs g)

    pub some_value_fits : (mark : Punct) (v : SomeValue)
        {q : Option ℕ} {qs : List Level} {k : Option HeldScope} {s : Names} {ts : List Lexeme} (h : HeldScopes) →
        F q qs k h s (some_value_text all mark v ts) →
        Fine u N q qs k (some_value_scopes v h) (some_value_named u v s) ts
    some_value_fits mark no_value h f = done f
    some_value_fits mark (some_value token e) h f = expr_fits e false h (eat f)

    pub enum_fits : (enum : EnumType)
        {q : Option ℕ} {qs : List Level} {k : Option HeldScope} {s : Names} {ts : List Lexeme} (h : HeldScopes) →
        F q qs k h s (enum_type_text all enum ts) →
        Fine u N q qs k (enum_type_scopes enum h) (enum_named u enum s) ts
    enum_fits (enum_of keyword attrs tag no_enum_body) h f =
        done (tag_fits false tags.Enum tag (base []) (tag_past tag (attrs_past all attrs (eat f))))
    enum_fits (enum_of keyword attrs tag (some_enum_body opening es last closing)) h f =
        also
        (enumerators_fit es h (begun_fits tags.Enum keyword tag (eat (tag_past tag (attrs_past all attrs (eat f))))))
        (λ h g. eat (some_sign_past Comma last g))

    pub enumerators_fit : (es : Enumerators)
        {q : Option ℕ} {qs : List Level} {k : Option HeldScope} {s : Names} {ts : List Lexeme} (h : HeldScopes) →
        F q qs k h s (enumerators_text all es ts) →
        Fine u N q qs k (enumerators_scopes es h) (enumerators_named u es s) ts
    enumerators_fit no_enumerators h f = done f
    enumerators_fit (more_enumerators name attrs value es) h f =
        checked (held.declare name.name Constant h)
        (step (step (some_value_fits Equal value h (attrs_past all attrs (eat f)))
        (λ h g. enumerator_fits u N keys name.name _ _ None f.names.0 g)) (other_enumerators_fit es))

    pub other_enumerators_fit : (es : Enumerators)
        {q : Option ℕ} {qs : List Level} {k : Option HeldScope} {s : Names} {ts : List Lexeme} (h : HeldScopes) →
        F q qs k h s (other_enumerators_text all es ts) →
        Fine u N q qs k (enumerators_scopes es h) (enumerators_named u es s) ts
    other_enumerators_fit no_enumerators h f = done f
    other_enumerators_fit (more_enumerators name attrs value es) h f =
        checked (held.declare name.name Constant h)
        (step (step (some_value_fits Equal value h (attrs_past all attrs (eat (eat f))))
        (λ h g. enumerator_fits u N keys name.name _ _ None f.names.1.0 g)) (other_enumerators_fit es))

    pub declr_fits : (kind : Option Kind) (d : Declr) → IsWanted kind →
        {q : Option ℕ} {qs : List Level} {k : Option HeldScope} {s : Names} {ts : List Lexeme} (h : HeldScopes) →
        F q qs k h s (declr_text all d ts) →
        Fine u N (held_then kind (declared_name d) q) qs k (declr_scopes kind d h) ((declr_named u None d s).names) ts
    declr_fits kind (pointer star words d) want h f = declr_fits kind d want h (pointer_words_past all words (eat f))
    declr_fits None (declr_name token name) want h f = done (eat f)
    declr_fits (Some kind) (declr_name token name) want h f =
        hold_fits u N keys name kind want f.names.0 (eat f)
    declr_fits kind (declr_paren opening attrs d closing) want h f =
        ends (declr_fits kind d want h (attrs_past all attrs (eat f)))
    declr_fits kind (array d opening words size closing) want h f =
        step (declr_fits kind d want h f) (λ h g. ends (some_size_fits size h (array_words_past all words (eat g))))
    declr_fits kind (params d opening ps dots closing) want h f =
        step (declr_fits kind d want h f) (λ h g. kept_by_none (own_where (is_bare d) None) (none_owns (is_bare d))
        (also (params_fit ps 0 (own_where (is_bare d) None) _ (entered (eat g))) (λ h g. eat (dots_past all dots g))))
    declr_fits kind (abs_pointer star words d) want h f =
        some_declr_fits kind d want h (pointer_words_past all words (eat f))
    declr_fits kind (abs_paren opening attrs d closing) want h f =
        ends (declr_fits kind d want h (attrs_past all attrs (eat f)))
    declr_fits kind (abs_array d opening words size closing) want h f =
        step (some_declr_fits kind d want h f)
        (λ h g. ends (some_size_fits size h (array_words_past all words (eat g))))
    declr_fits kind (abs_params d opening ps dots closing) want h f =
        step (some_declr_fits kind d want h f)
        (λ h g. own (also (params_fit ps 0 None _ (entered (eat g))) (λ h g. eat (dots_past all dots g))))
    declr_fits kind (identifiers d opening names closing) want h f =
        step (declr_fits kind d want h f) (λ h g. also (step (tested (is_wide h) (eat (names_past names (eat g))))
        (λ h g. identifiers_tested names h g)) (λ h g. alike u N keys refl refl refl refl g))
    declr_fits None (base_name token) want h f = tested (is_wide h && is_typedef None) (eat f)
    declr_fits (Some kind) (base_name token) want h f = tested (is_wide h && is_typedef (Some kind)) (eat f)

    pub some_declr_fits : (kind : Option Kind) (d : SomeDeclr) → IsWanted kind →
        {q : Option ℕ} {qs : List Level} {k : Option HeldScope} {s : Names} {ts : List Lexeme} (h : HeldScopes) →
        F q qs k h s (some_declr_text all d ts) →
        Fine u N (held_then kind (some_declared_name d) q) qs k (some_declr_scopes kind d h)
        ((some_declr_named u d s).names) ts
    some_declr_fits None no_declr want h f = done f
    some_declr_fits (Some kind) no_declr want h f = done f
    some_declr_fits kind (some_declr d) want h f = declr_fits kind d want h f

    pub some_size_fits : (size : SomeSize)
        {q : Option ℕ} {qs : List Level} {k : Option HeldScope} {s : Names} {ts : List Lexeme} (h : HeldScopes) →
        F q qs k h s (some_size_text all size ts) →
        Fine u N q qs k (some_size_scopes size h) (some_size_named u size s) ts
    some_size_fits no_size h f = done f
    some_size_fits (some_size size) h f = array_size_fits size h f

    pub array_size_fits : (size : ArraySize)
        {q : Option ℕ} {qs : List Level} {k : Option HeldScope} {s : Names} {ts : List Lexeme} (h : HeldScopes) →
        F q qs k h s (array_size_text all size ts) →
        Fine u N q qs k (array_size_scopes size h) (array_size_named u size s) ts
    array_size_fits (size_value e) h f = expr_fits e false h f
    array_size_fits (size_star star) h f = done (eat f)

    pub params_fit : (ps : Params) (i : ℕ) (owner : Option Place)
        {qs : List Level} {k : Option HeldScope} {s : Names} {ts : List Lexeme} (h : HeldScopes) →
        F None qs k h s (params_text all ps ts) →
        Fine u N None qs k (params_scopes ps h) ((params_named u i owner ps s).names) ts
    params_fit no_params i owner h f = done f
    params_fit (more_params ws d attrs ps) i owner h f =
        step (step (step (words_fit ws false _ _ h f) (λ h g. tested _ g)) (some_declr_fits (Some Value) d refl))
        (λ h g. other_params_fit ps (suc i) owner _
        (param_fits u N keys (some_declared_name d) i owner _ (attrs_past all attrs g)))

    pub other_params_fit : (ps : Params) (i : ℕ) (owner : Option Place)
        {qs : List Level} {k : Option HeldScope} {s : Names} {ts : List Lexeme} (h : HeldScopes) →
        F None qs k h s (other_params_text all ps ts) →
        Fine u N None qs k (params_scopes ps h) ((params_named u i owner ps s).names) ts
    other_params_fit no_params i owner h f = done f
    other_params_fit (more_params ws d attrs ps) i owner h f =
        step (step (step (words_fit ws false _ _ h (eat f)) (λ h g. tested _ g)) (some_declr_fits (Some Value) d refl))
        (λ h g. other_params_fit ps (suc i) owner _
        (param_fits u N keys (some_declared_name d) i owner _ (attrs_past all attrs g)))

    pub init_fits : (init : Init)
        {q : Option ℕ} {qs : List Level} {k : Option HeldScope} {s : Names} {ts : List Lexeme} (h : HeldScopes) →
        F q qs k h s (init_text all init ts) →
        Fine u N q qs k (init_scopes init h) (init_named u init s) ts
    init_fits (init_value e) h f = expr_fits e false h f
    init_fits (init_braced list) h f = init_list_fits list h f

    pub init_list_fits : (list : InitList)
        {q : Option ℕ} {qs : List Level} {k : Option HeldScope} {s : Names} {ts : List Lexeme} (h : HeldScopes) →
        F q qs k h s (init_list_text all list ts) →
        Fine u N q qs k (init_list_scopes list h) (init_list_named u list s) ts
    init_list_fits (init_list opening items last closing) h f =
        also (init_items_fit items h (eat f)) (λ h g. eat (some_sign_past Comma last g))

    pub init_items_fit : (items : InitItems)
        {q : Option ℕ} {qs : List Level} {k : Option HeldScope} {s : Names} {ts : List Lexeme} (h : HeldScopes) →
        F q qs k h s (init_items_text all items ts) →
        Fine u N q qs k (init_items_scopes items h) (init_items_named u items s) ts
    init_items_fit no_init_items h f = done f
    init_items_fit (more_init_items ds equal init items) h f =
        step (step (desigs_fit ds h f) (λ h g. init_fits init h (some_sign_past Equal equal g)))
        (other_init_items_fit items)

    pub other_init_items_fit : (items : InitItems)
        {q : Option ℕ} {qs : List Level} {k : Option HeldScope} {s : Names} {ts : List Lexeme} (h : HeldScopes) →
        F q qs k h s (other_init_items_text all items ts) →
        Fine u N q qs k (init_items_scopes items h) (init_items_named u items s) ts
    other_init_items_fit no_init_items h f = done f
    other_init_items_fit (more_init_items ds equal init items) h f =
        step (step (desigs_fit ds h (eat f)) (λ h g. init_fits init h (some_sign_past Equal equal g)))
        (other_init_items_fit items)

    pub desigs_fit : (ds : Desigs)
        {q : Option ℕ} {qs : List Level} {k : Option HeldScope} {s : Names} {ts : List Lexeme} (h : HeldScopes) →
        F q qs k h s (desigs_text all ds ts) →
        Fine u N q qs k (desigs_scopes ds h) (desigs_named u ds s) ts
    desigs_fit no_desigs h f = done f
    desigs_fit (more_desigs d ds) h f = step (desig_fits d h f) (desigs_fit ds)

    pub desig_fits : (d : Desig)
        {q : Option ℕ} {qs : List Level} {k : Option HeldScope} {s : Names} {ts : List Lexeme} (h : HeldScopes) →
        F q qs k h s (desig_text all d ts) →
        Fine u N q qs k (desig_scopes d h) (desig_named u d s) ts
    desig_fits (member_desig token name) h f = done (eat (eat f))
    desig_fits (index_desig opening e closing) h f = ends (expr_fits e false h (eat f))
    desig_fits (range_desig opening e dots e2 closing) h f =
        step (step (expr_fits e false h (eat f)) (λ h g. tested (is_wide h) (eat g)))
        (λ h g. ends (expr_fits e2 false h g))
    desig_fits (old_desig name colon) h f = tested (is_wide h) (eat (eat f))

    pub some_init_fits : (init : SomeInit)
        {q : Option ℕ} {qs : List Level} {k : Option HeldScope} {s : Names} {ts : List Lexeme} (h : HeldScopes) →
        F q qs k h s (some_init_text all init ts) →
        Fine u N q qs k (some_init_scopes init h) (some_init_named u init s) ts
    some_init_fits no_init h f = done f
    some_init_fits (some_init equal init) h f = init_fits init h (eat f)

    pub init_declrs_fit : (kind : Kind) (ds : InitDeclrs) (words : List Keyword) (is_untagged : Bool) (t : CType) →
        is_same Constant kind ≡ false →
        {qs : List Level} {k : Option HeldScope} {s : Names} {ts : List Lexeme} (h : HeldScopes) →
        F None qs k h s (init_declrs_text all ds ts) →
        Fine u N None qs k (init_declrs_scopes kind ds h) (init_declrs_named u words is_untagged t ds s) ts
    init_declrs_fit kind no_init_declrs words is_untagged t want h f = done f
    init_declrs_fit kind (more_init_declrs attrs d asm_label attrs2 init ds) words is_untagged t want h f =
        step (step (declr_fits (Some kind) d want h (attrs_past all attrs f)) (λ h g. some_init_fits init _
        (some_fits u N keys true kind _ (declared_name d) words _
        (attrs_past all attrs2 (label_past all asm_label g)))))
        (other_init_declrs_fit kind ds words false t want)

    pub other_init_declrs_fit : (kind : Kind) (ds : InitDeclrs) (words : List Keyword)
        (is_untagged : Bool) (t : CType) →
        is_same Constant kind ≡ false →
        {qs : List Level} {k : Option HeldScope} {s : Names} {ts : List Lexeme} (h : HeldScopes) →
        F None qs k h s (other_init_declrs_text all ds ts) →
        Fine u N None qs k (init_declrs_scopes kind ds h) (init_declrs_named u words is_untagged t ds s) ts
    other_init_declrs_fit kind no_init_declrs words is_untagged t want h f = done f
    other_init_declrs_fit kind (more_init_declrs attrs d asm_label attrs2 init ds) words is_untagged t want h f =
        step (step (declr_fits (Some kind) d want h (attrs_past all attrs (eat f))) (λ h g. some_init_fits init _
        (some_fits u N keys true kind _ (declared_name d) words _
        (attrs_past all attrs2 (label_past all asm_label g)))))
        (other_init_declrs_fit kind ds words false t want)

    -- a name of the type of its initialiser; lists of initialisers, which names are not gone through in, declare
    -- nothing of it
    pub auto_fits : (init : SomeInit) (it : Option Named) (words : List Keyword) (is_untagged : Bool)
        (semi : ℕ) (t : CType)
        {qs : List Level} {k : Option HeldScope} {s : Names} {ts : List Lexeme} (h : HeldScopes) →
        F (holding it None) qs k h s (some_init_text all init ts) →
        Fine u N None qs k (behind (some_init_scopes init h) (λ t. Some (release Value t)))
        (auto_named u words is_untagged semi t it init s) ts
    auto_fits no_init it words is_untagged semi t h f = done (dropped u N keys Value f)
    auto_fits (some_init equal (init_value e)) it words is_untagged semi t h f =
        step (expr_fits e false h (eat f))
        (λ h g. done (some_fits u N keys true Value _ it words _ (typed_by_fits u N keys semi _ g)))
    auto_fits (some_init equal (init_braced list)) it words is_untagged semi t h f =
        listed list h f (init_list_fits list h (eat f))

    pub auto_declrs_fit : (ds : InitDeclrs) (words : List Keyword) (is_untagged : Bool) (semi : ℕ) (t : CType)
        {qs : List Level} {k : Option HeldScope} {s : Names} {ts : List Lexeme} (h : HeldScopes) →
        F None qs k h s (init_declrs_text all ds ts) →
        Fine u N None qs k (auto_declrs_scopes ds h) (auto_declrs_named u words is_untagged semi t ds s) ts
    auto_declrs_fit no_init_declrs words is_untagged semi t h f = done f
    auto_declrs_fit (more_init_declrs attrs d asm_label attrs2 init ds) words is_untagged semi t h f =
        step (step_two (some_init_scopes init) (λ t. Some (release Value t))
        (base_or d h (attrs_past all attrs f) (declr_fits (Some Value) d refl h (attrs_past all attrs f)))
        (λ h g. auto_fits init (declared_name d) words is_untagged semi t h
        (attrs_past all attrs2 (label_past all asm_label g))))
        (other_auto_declrs_fit ds words false semi t)

    pub other_auto_declrs_fit : (ds : InitDeclrs) (words : List Keyword) (is_untagged : Bool) (semi : ℕ) (t : CType)
        {qs : List Level} {k : Option HeldScope} {s : Names} {ts : List Lexeme} (h : HeldScopes) →
        F None qs k h s (other_init_declrs_text all ds ts) →
        Fine u N None qs k (auto_declrs_scopes ds h) (auto_declrs_named u words is_untagged semi t ds s) ts
    other_auto_declrs_fit no_init_declrs words is_untagged semi t h f = done f
    other_auto_declrs_fit (more_init_declrs attrs d asm_label attrs2 init ds) words is_untagged semi t h f =
        step (step_two (some_init_scopes init) (λ t. Some (release Value t))
        (base_or d h (attrs_past all attrs (eat f)) (declr_fits (Some Value) d refl h (attrs_past all attrs (eat f))))
        (λ h g. auto_fits init (declared_name d) words is_untagged semi t h
        (attrs_past all attrs2 (label_past all asm_label g))))
        (other_auto_declrs_fit ds words false semi t)

    -- names that wait for their initialisers in the grammar alone, as in no well-formed unit
    pub late_declrs_fit : (ds : InitDeclrs) (words : List Keyword) (is_untagged : Bool) (t : CType)
        {qs : List Level} {k : Option HeldScope} {s : Names} {ts : List Lexeme} (h : HeldScopes) →
        F None qs k h s (init_declrs_text all ds ts) →
        Fine u N None qs k (auto_declrs_scopes ds h) (init_declrs_named u words is_untagged t ds s) ts
    late_declrs_fit no_init_declrs words is_untagged t h f = done f
    late_declrs_fit (more_init_declrs attrs d asm_label attrs2 init ds) words is_untagged t h f =
        step (step (step (base_or d h (attrs_past all attrs f)
        (declr_fits (Some Value) d refl h (attrs_past all attrs f))) (λ h g. some_init_fits init h
        (some_fits u N keys false Value _ (declared_name d) words _
        (attrs_past all attrs2 (label_past all asm_label g)))))
        (λ h g. done (dropped u N keys Value g))) (other_late_declrs_fit ds words false t)

    pub other_late_declrs_fit : (ds : InitDeclrs) (words : List Keyword) (is_untagged : Bool) (t : CType)
        {qs : List Level} {k : Option HeldScope} {s : Names} {ts : List Lexeme} (h : HeldScopes) →
        F None qs k h s (other_init_declrs_text all ds ts) →
        Fine u N None qs k (auto_declrs_scopes ds h) (init_declrs_named u words is_untagged t ds s) ts
    other_late_declrs_fit no_init_declrs words is_untagged t h f = done f
    other_late_declrs_fit (more_init_declrs attrs d asm_label attrs2 init ds) words is_untagged t h f =
        step (step (step (base_or d h (attrs_past all attrs (eat f))
        (declr_fits (Some Value) d refl h (attrs_past all attrs (eat f)))) (λ h g. some_init_fits init h
        (some_fits u N keys false Value _ (declared_name d) words _
        (attrs_past all attrs2 (label_past all asm_label g)))))
        (λ h g. done (dropped u N keys Value g))) (other_late_declrs_fit ds words false t)

    pub declaration_fits : (d : Declaration)
        {qs : List Level} {k : Option HeldScope} {s : Names} {ts : List Lexeme} (h : HeldScopes) →
        F None qs k h s (declaration_text all d ts) →
        Fine u N None qs k (declaration_scopes d h) (declaration_named u d s) ts
    declaration_fits (declaration exts ws ds semi) h f =
        step (words_fit ws _ _ _ h (extensions_past exts f)) (λ h g. ends (chosen (has_auto ws) (have_values ds)
        (auto_declrs_scopes ds) (init_declrs_scopes (declared_kind ws) ds) (auto_declrs_fit ds _ _ _ _ h g)
        (late_declrs_fit ds _ _ _ h g)
        (init_declrs_fit (declared_kind ws) ds _ _ _ (no_enumerator (has_typedef_word (storage_words ws))) h g)))

    pub decl_fits : (d : Decl)
        {qs : List Level} {k : Option HeldScope} {s : Names} {ts : List Lexeme} (h : HeldScopes) →
        F None qs k h s (decl_text all d ts) →
        Fine u N None qs k (decl_scopes d h) (decl_named u d s) ts
    decl_fits (decl_declaration d) h f = declaration_fits d h f
    decl_fits (decl_assert it) h f = done (assert_past all it f)

    pub block_items_fit : (items : BlockItems)
        {qs : List Level} {k : Option HeldScope} {s : Names} {ts : List Lexeme} (h : HeldScopes) →
        F None qs k h s (block_items_text all items ts) →
        Fine u N None qs k (block_items_scopes items h) (block_items_named u items s) ts
    block_items_fit no_block_items h f = done f
    block_items_fit (more_block_items item items) h f = step (block_item_fits item h f) (block_items_fit items)

    pub block_item_fits : (item : BlockItem)
        {qs : List Level} {k : Option HeldScope} {s : Names} {ts : List Lexeme} (h : HeldScopes) →
        F None qs k h s (block_item_text all item ts) →
        Fine u N None qs k (block_item_scopes item h) (block_item_named u item s) ts
    block_item_fits (block_decl d) h f = decl_fits d h f
    block_item_fits (block_stmt t) h f = stmt_fits t h f
    block_item_fits (block_labels keyword names semi) h f = done (eat (names_past names (eat f)))

    pub stmt_fits : (t : Stmt)
        {qs : List Level} {k : Option HeldScope} {s : Names} {ts : List Lexeme} (h : HeldScopes) →
        F None qs k h s (stmt_text all t ts) →
        Fine u N None qs k (stmt_scopes t h) (stmt_named u t s) ts
    stmt_fits (block opening items closing) h f = own (ends (block_items_fit items _ (entered (eat f))))
    stmt_fits (expr_stmt e semi) h f = ends (some_expr_fits e h f)
    stmt_fits (attr_stmt attrs semi) h f = done (eat (attrs_past all attrs f))
    stmt_fits (label name colon attrs t) h f = stmt_fits t h (attrs_past all attrs (eat (eat f)))
    stmt_fits (case_stmt keyword e colon t) h f = step (expr_fits e false h (eat f)) (λ h g. stmt_fits t h (eat g))
    stmt_fits (default_stmt keyword colon t) h f = stmt_fits t h (eat (eat f))
    stmt_fits (if_stmt keyword opening e closing t other) h f =
        own (step (step (expr_fits e false _ (entered (eat (eat f)))) (λ h g. own (stmt_fits t _ (entered (eat g)))))
        (some_else_fits other))
    stmt_fits (switch_stmt keyword opening e closing t) h f =
        own (step (expr_fits e false _ (entered (eat (eat f)))) (λ h g. own (stmt_fits t _ (entered (eat g)))))
    stmt_fits (while_stmt keyword opening e closing t) h f =
        own (step (expr_fits e false _ (entered (eat (eat f)))) (λ h g. own (stmt_fits t _ (entered (eat g)))))
    stmt_fits (do_stmt keyword t keyword2 opening e closing semi) h f =
        own (step (own (stmt_fits t _ (entered (entered (eat f)))))
        (λ h g. ends (ends (expr_fits e false h (eat (eat g))))))
    stmt_fits (for_stmt keyword opening start e semi e2 closing t) h f =
        own (step (step (step (for_start_fits start _ (entered (eat (eat f)))) (some_expr_fits e))
        (λ h g. some_expr_fits e2 h (eat g))) (λ h g. own (stmt_fits t _ (entered (eat g)))))
    stmt_fits (goto_stmt keyword name semi) h f = done (eat (eat (eat f)))
    stmt_fits (continue_stmt keyword semi) h f = done (eat (eat f))
    stmt_fits (break_stmt keyword semi) h f = done (eat (eat f))
    stmt_fits (return_stmt keyword e semi) h f = ends (some_expr_fits e h (eat f))
    stmt_fits (asm_stmt keyword words group semi) h f = done (eat (group_past all group (words_past words (eat f))))
    stmt_fits (case_range keyword e dots e2 colon t) h f =
        step (step (step (expr_fits e false h (eat f)) (λ h g. tested (is_wide h) (eat g))) (expr_fits e2 false))
        (λ h g. stmt_fits t h (eat g))
    stmt_fits (goto_value keyword star e semi) h f =
        step (tested (is_wide h) (eat (eat f))) (λ h g. ends (expr_fits e false h g))

    pub some_else_fits : (e : SomeElse)
        {qs : List Level} {k : Option HeldScope} {s : Names} {ts : List Lexeme} (h : HeldScopes) →
        F None qs k h s (some_else_text all e ts) →
        Fine u N None qs k (some_else_scopes e h) (some_else_named u e s) ts
    some_else_fits no_else h f = done f
    some_else_fits (some_else keyword t) h f = own (stmt_fits t _ (entered (eat f)))

    pub for_start_fits : (start : ForStart)
        {qs : List Level} {k : Option HeldScope} {s : Names} {ts : List Lexeme} (h : HeldScopes) →
        F None qs k h s (for_start_text all start ts) →
        Fine u N None qs k (for_start_scopes start h) (for_start_named u start s) ts
    for_start_fits (start_declaration d) h f = declaration_fits d h f
    for_start_fits (start_value e semi) h f = ends (some_expr_fits e h f)
