-- Scopes of names fit those of the grammar through functions, units and sources, and so what was declared first has a
-- skeleton.
use Rattle.std.proofs.Common.{◌≡◌, ℕ, Bool, true, false, List, [], ◌∷◌, Option, None, Some, refl, sym, ◌∙◌, ap, subst}
use Rattle.std.specs.Prelude.{All, not, if◌then◌else◌, ◌&&◌}
use Rattle.std.proofs.lemmas.List.Elements.{All-head, All-tail}
use Rattle.c_words.specs.declared.kinds.Keyword.{Keyword}
use Rattle.c_words.specs.declared.kinds.Keyword.TheVariants as keywords
use Rattle.c_words.specs.declared.kinds.TokenKind.TheVariants as kinds
use Rattle.c_syntax.specs.declared.parts.Attr.{Attr}
use Rattle.c_syntax.specs.declared.parts.Identifier.{Identifier}
use Rattle.c_tree.specs.declared.lexeme.Lexeme.{Lexeme}
use Rattle.c_tree.specs.Tree.{SpecWords, BlockItems, Declr, pointer, declr_name, declr_paren, array, params, abs_pointer, abs_paren, abs_array, abs_params, identifiers, base_name, Declaration, declaration, InitDeclrs, no_init_declrs, more_init_declrs, no_params}
use Rattle.c_tree.specs.WellFormed.{IsDeclr, has_auto}
use Rattle.c_tree.specs.WellFormed as grammar
use Rattle.c_tree.specs.Specifiers.{storage_words}
use Rattle.c_tree.specs.Text.{attrs_text, block_items_text, declr_text, dots_text, params_text, sign_text, spec_words_text, names_text, declaration_text, init_declrs_text, other_init_declrs_text}
use Rattle.c_words.specs.declared.kinds.Punct.TheVariants.{OpenBrace, CloseBrace, OpenParen, CloseParen, Semicolon}
use Rattle.c_tree.specs.Unit.{Item, function_item, decl_item, asm_item, semi_item, item_text, items_text, old_function_item, IsItem, declarations_text, is_round_name, declares_function}
use Rattle.type_table.specs.Types.{CType, base}
use Rattle.typedef_scope.specs.declared.kind.Kind.{Kind}
use Rattle.typedef_scope.specs.Scopes.{is_same}
use Rattle.typedef_scope.specs.declared.kind.Kind.TheVariants.{Value, Constant}
use Rattle.c_units.specs.HeldScopes.{HeldScope, HeldScopes, file_scope, hold, innermost, release, reopen, is_wide, new_scope, may_declare}
use Rattle.c_units.specs.HeldScopes as held
use Rattle.c_units.specs.Scoping.{behind, block_items_scopes, declr_scopes, params_scopes, spec_words_scopes, auto_declrs_scopes, declaration_scopes, declared_kind, has_typedef_word, identifiers_scopes, init_declrs_scopes, where_true, in_own_scope, some_size_scopes}
use Rattle.c_units.specs.Units.{OwnParams, bare_name, function_scopes, item_scopes, items_scopes, or_those_of, own_params, own_scope, declarations_scopes, old_function_scopes}
use Rattle.name_rules.specs.Spellings.{Named, Place, Spelling, place}
use Rattle.name_rules.specs.Scopes.{Declared, Names, declared_at, is_place, enter}
use Rattle.name_rules.specs.Pieces.{applied, decayed}
use Rattle.name_rules.specs.Identifiers.{Olds, old_declared_some, old_faults}
use Rattle.name_rules.specs.Declaring.{keep, linked, own_where, declared_some, has_word, untagged_number}
use Rattle.name_rules.specs.Units.{no_names, unit_begun}
use Rattle.type_rules.specs.Tokens.{declared_name, is_bare, have_values}
use Rattle.type_rules.specs.Naming.{Pieced, declr_named, function_by, item_named, items_named, said_words, words_named, Typed, auto_declrs_named, has_untagged, identifiers_named, is_tag_alone, old_declaration_named, old_declarations_named, old_declr_named, old_declrs_named, old_function_by}
use Rattle.type_rules.specs.Program.{Source, names_of, sources_named}
use Rattle.name_rules.specs.MeaningLaws.Meanings.{Differ, ThingsAre}
use Rattle.type_rules.proofs.Named.{listing_name}
use Rattle.first_laws.specs.Firsts.{FirstsOfScopedHaveSkeletons, HasSkeletonAt, IsScoped, has_name, has_skeleton}
use Rattle.first_laws.proofs.Words.{AreOf, of_each}
use Rattle.first_laws.proofs.Growing as grow
use Rattle.first_laws.proofs.Growing.{Grew, declarations_grow, grew_on, params_grows, same_grew, some_size_grows}
use Rattle.first_laws.proofs.Fitting.{Level, plain, Fine, FirstsAre, Fit, also, done, eat, ends, entered, own, step}
use Rattle.first_laws.proofs.Changes.{alike, body_entered_fits, holding, kept_fits, sized_fits, thing_fits, identifiers_fit, old_faults_fit, old_fits, some_fits, beside_entered, beside_kept, dropped, held_behind, scopes_behind}
use Rattle.first_laws.proofs.Walk.{attrs_past, block_items_fit, decl_fits, declr_fits, dots_past, extensions_past, group_past, array_words_past, kept_by_none, params_fit, pointer_words_past, some_size_fits, words_fit, auto_declrs_fit, base_or, label_past, names_past, no_enumerator, some_init_fits}

-- a declarator that is its name alone

-- a declarator that is no bare name is not bare
not_bare : (d : Declr) → bare_name d ≡ None → is_bare d ≡ false
not_bare (declr_name token name) e = absurd cc
not_bare (declr_paren opening attrs d closing) e = not_bare d e
not_bare (pointer star words d) e = refl
not_bare (array d opening words size closing) e = refl
not_bare (params d opening ps dots closing) e = refl
not_bare (abs_pointer star words d) e = refl
not_bare (abs_paren opening attrs d closing) e = refl
not_bare (abs_array d opening words size closing) e = refl
not_bare (abs_params d opening ps dots closing) e = refl
not_bare (identifiers d opening names closing) e = refl
not_bare (base_name token) e = refl

-- a declarator that is a bare name is bare
is_bare_name : (d : Declr) (name : ℕ) → bare_name d ≡ Some name → is_bare d ≡ true
is_bare_name (declr_name token other) name e = refl
is_bare_name (declr_paren opening attrs d closing) name e = is_bare_name d name e
is_bare_name (pointer star words d) name e = absurd cc
is_bare_name (array d opening words size closing) name e = absurd cc
is_bare_name (params d opening ps dots closing) name e = absurd cc
is_bare_name (abs_pointer star words d) name e = absurd cc
is_bare_name (abs_paren opening attrs d closing) name e = absurd cc
is_bare_name (abs_array d opening words size closing) name e = absurd cc
is_bare_name (abs_params d opening ps dots closing) name e = absurd cc
is_bare_name (identifiers d opening names closing) name e = absurd cc
is_bare_name (base_name token) name e = absurd cc

-- the scopes behind a bare name are those that hold this name as a value
bare_scopes : (d : Declr) (name : ℕ) (h : HeldScopes) → bare_name d ≡ Some name →
    declr_scopes (Some Value) d h ≡ hold name Value h
bare_scopes (declr_name token other) name h e =
    let same : other ≡ name = cc in ap (λ (n : ℕ). hold n Value h) same
bare_scopes (declr_paren opening attrs d closing) name h e = bare_scopes d name h e
bare_scopes (pointer star words d) name h e = absurd cc
bare_scopes (array d opening words size closing) name h e = absurd cc
bare_scopes (params d opening ps dots closing) name h e = absurd cc
bare_scopes (abs_pointer star words d) name h e = absurd cc
bare_scopes (abs_paren opening attrs d closing) name h e = absurd cc
bare_scopes (abs_array d opening words size closing) name h e = absurd cc
bare_scopes (abs_params d opening ps dots closing) name h e = absurd cc
bare_scopes (identifiers d opening names closing) name h e = absurd cc
bare_scopes (base_name token) name h e = absurd cc

-- a bare name declares the same with an owner of its parameters or without
bare_named : (u : Spelling) (d : Declr) (name : ℕ) (owner : Option Place) (s : Names) → bare_name d ≡ Some name →
    declr_named u None d s ≡ declr_named u owner d s
bare_named u (declr_name token other) name owner s e = refl
bare_named u (declr_paren opening attrs d closing) name owner s e = bare_named u d name owner s e
bare_named u (pointer star words d) name owner s e = absurd cc
bare_named u (array d opening words size closing) name owner s e = absurd cc
bare_named u (params d opening ps dots closing) name owner s e = absurd cc
bare_named u (abs_pointer star words d) name owner s e = absurd cc
bare_named u (abs_paren opening attrs d closing) name owner s e = absurd cc
bare_named u (abs_array d opening words size closing) name owner s e = absurd cc
bare_named u (abs_params d opening ps dots closing) name owner s e = absurd cc
bare_named u (identifiers d opening names closing) name owner s e = absurd cc
bare_named u (base_name token) name owner s e = absurd cc

-- without a name there are no own parameters

-- a declarator that declares no name is no bare name
bare_is_named : (d : Declr) → declared_name d ≡ None → bare_name d ≡ None
bare_is_named (declr_name token name) e = absurd cc
bare_is_named (declr_paren opening attrs d closing) e = bare_is_named d e
bare_is_named (pointer star words d) e = refl
bare_is_named (array d opening words size closing) e = refl
bare_is_named (params d opening ps dots closing) e = refl
bare_is_named (abs_pointer star words d) e = refl
bare_is_named (abs_paren opening attrs d closing) e = refl
bare_is_named (abs_array d opening words size closing) e = refl
bare_is_named (abs_params d opening ps dots closing) e = refl
bare_is_named (identifiers d opening names closing) e = refl
bare_is_named (base_name token) e = refl

-- a declarator that declares no name has no parameters of its own
none_own : (d : Declr) → declared_name d ≡ None → own_params d ≡ None
none_own (declr_name token name) e = refl
none_own (declr_paren opening attrs d closing) e = none_own d e
none_own (pointer star words d) e = none_own d e
none_own (array d opening words size closing) e = none_own d e
none_own (params d opening ps dots closing) e =
    ap (λ (name : Option ℕ). or_those_of name ps (own_params d)) (bare_is_named d e) ∙ none_own d e
none_own (abs_pointer star words d) e = refl
none_own (abs_paren opening attrs d closing) e = refl
none_own (abs_array d opening words size closing) e = refl
none_own (abs_params d opening ps dots closing) e = refl
none_own (identifiers d opening names closing) e =
    ap (λ (name : Option ℕ). or_those_of name no_params (own_params d)) (bare_is_named d e) ∙ none_own d e
none_own (base_name token) e = refl

-- a declarator that the grammar calls a name alone has that name
its_bare_name : (d : Declr) → grammar.is_bare_name d ≡ true → (name : ℕ) × (bare_name d ≡ Some name)
its_bare_name (declr_name token name) e = (name, refl)
its_bare_name (declr_paren opening attrs d closing) e = its_bare_name d e
its_bare_name (pointer star words d) e = absurd cc
its_bare_name (array d opening words size closing) e = absurd cc
its_bare_name (params d opening ps dots closing) e = absurd cc
its_bare_name (abs_pointer star words d) e = absurd cc
its_bare_name (abs_paren opening attrs d closing) e = absurd cc
its_bare_name (abs_array d opening words size closing) e = absurd cc
its_bare_name (abs_params d opening ps dots closing) e = absurd cc
its_bare_name (identifiers d opening names closing) e = absurd cc
its_bare_name (base_name token) e = absurd cc

-- parts that have scopes behind them

behind_some : (o : Option HeldScopes) (next : HeldScopes → Option HeldScopes) (v : HeldScopes)
    → behind o next ≡ Some v →
    (t : HeldScopes) × (o ≡ Some t) × (next t ≡ Some v)
behind_some None next v e = absurd cc
behind_some (Some t) next v e = (t, refl, e)

-- identifiers change no scopes
same_where : (b : Bool) (t v : HeldScopes) → where_true b t ≡ Some v → t ≡ v
same_where true t v e = cc
same_where false t v e = absurd cc

-- identifiers in a list leave the scopes as they were
same_identified : (names : List Identifier) (t v : HeldScopes) → identifiers_scopes names t ≡ Some v → t ≡ v
same_identified [] t v e = cc
same_identified (it ∷ names) t v e =
    let one = behind_some (where_true (not (held.names_type t it.name)) t) (identifiers_scopes names) v e in
    same_where (not (held.names_type t it.name)) t one.0 one.1 ∙ same_identified names one.0 v one.2

-- behind a name that is held as a value there is an innermost scope, over the same outer ones
held_cons : (name : ℕ) (h v : HeldScopes) → hold name Value h ≡ Some v
    → (scope : HeldScope) × (v ≡ scope ∷ held.leave h)
held_cons name h v e = by (may_declare (innermost h) name Value) e
  where
    by : (b : Bool) → (if b then Some (record (innermost h) { held = Some name } ∷ held.leave h) else None) ≡ Some v →
        (scope : HeldScope) × (v ≡ scope ∷ held.leave h)
    by true e = (record (innermost h) { held = Some name }, cc)
    by false e = absurd cc

none_behind : (o : Option HeldScopes) (next : HeldScopes → Option HeldScopes) → ((h : HeldScopes) → next h ≡ None) →
    behind o next ≡ None
none_behind None next g = refl
none_behind (Some h) next g = g h

module _ {u : Spelling} {N : ℕ → Type 0} where
  none_fine : {q : Option ℕ} {qs : List Level} {k : Option HeldScope} {o : Option HeldScopes} {s : Names}
      {ts : List Lexeme} → o ≡ None → Fine u N q qs k o s ts
  none_fine e = record { fits = λ h is. absurd cc }

  -- a step that knows the scopes before it
  step_from : {q r : Option ℕ} {qs rs : List Level} {k l : Option HeldScope} {o : Option HeldScopes}
      {next : HeldScopes → Option HeldScopes} {s t : Names} {ts vs : List Lexeme} → Fine u N q qs k o s ts →
      ((h : HeldScopes) → o ≡ Some h → Fit u N q qs k h s ts → Fine u N r rs l (next h) t vs) →
      Fine u N r rs l (behind o next) t vs
  step_from {o = None} f g = record { fits = λ h e. absurd cc }
  step_from {o = Some before} f g = g before refl (f.fits before refl)

module _ (u : Spelling) (N : ℕ → Type 0) (keys : (m n : ℕ) → N m → N n → u.key m ≡ u.key n → m ≡ n)
    (all : List Lexeme) where
  abbrev F : Option ℕ → List Level → Option HeldScope → HeldScopes → Names → List Lexeme → Type 0
  F q qs k h s ts = Fit u N q qs k h s ts

  -- a function's declarator, which keeps the scope of its own parameters
  own_declr_fits : (d : Declr) (above : Bool) (owner : Place) {q : Option ℕ} {qs : List Level} {s : Names}
      {ts : List Lexeme}
      (h w : HeldScopes) → is_round_name d above ≡ true → own_scope (own_params d) h ≡ Some w
      → F q qs None h s (declr_text all d ts) →
      Fine u N (holding (declared_name d) q) qs (Some (innermost w)) (declr_scopes (Some Value) d h)
      (declr_named u (Some owner) d s).names ts
  own_declr_fits (declr_name token name) above owner h w round e f = absurd cc
  own_declr_fits (declr_paren opening attrs d closing) above owner h w round e f =
      ends (own_declr_fits d above owner h w round e (attrs_past all attrs (eat f)))
  own_declr_fits (pointer star words d) above owner h w round e f =
      own_declr_fits d false owner h w round e (pointer_words_past all words (eat f))
  own_declr_fits (array d opening words size closing) above owner h w round e f =
      step (own_declr_fits d false owner h w round e f)
      (λ h g. ends (some_size_fits u N keys all size h (array_words_past all words (eat g))))
  own_declr_fits (params d opening ps dots closing) above owner {q} {qs} {s} {ts} h w round e f =
      by (bare_name d) refl e (λ e. own_declr_fits d true owner h w round e f)
    where
      -- the parameters are not the function's own
      other : is_bare d ≡ false → Fine u N (holding (declared_name d) q) qs (Some (innermost w))
          (declr_scopes (Some Value) d h) (declr_named u (Some owner) d s).names
          (sign_text OpenParen opening (params_text all ps (dots_text all dots (sign_text CloseParen closing ts)))) →
          Fine u N (holding (declared_name d) q) qs (Some (innermost w))
          (declr_scopes (Some Value) (params d opening ps dots closing) h)
          (declr_named u (Some owner) (params d opening ps dots closing) s).names ts
      other bare inner =
          step inner (λ h g. kept_by_none (own_where (is_bare d) (Some owner))
          (ap (λ (b : Bool). own_where b (Some owner)) bare)
          (also (params_fit u N keys all ps 0 (own_where (is_bare d) (Some owner)) _ (entered (eat g)))
          (λ h g. eat (dots_past all dots g))))

      -- they are, and their scope is kept
      kept : (o : Option HeldScopes) (own : Option Place) {t : Names} → own ≡ Some owner → o ≡ Some w →
          Fine u N None (plain (holding (declared_name d) q) ∷ qs) None o t ts →
          Fine u N (holding (declared_name d) q) qs (Some (innermost w)) (behind o (λ inner. Some (held.leave inner)))
          (keep own t) ts
      kept None own is e g = absurd cc
      kept (Some now) None is e g = absurd cc
      kept (Some now) (Some p) {t} is e g =
          let same : now ≡ w = cc in
          subst (λ (v : HeldScopes). Fine u N (holding (declared_name d) q) qs (Some (innermost v))
          (Some (held.leave now)) (keep (Some p) t) ts) same (done (kept_fits u N keys p (g.fits now refl)))

      its : (name : ℕ) → bare_name d ≡ Some name →
          behind (hold name Value h) (λ t. params_scopes ps (held.enter t)) ≡ Some w →
          Fine u N (holding (declared_name d) q) qs (Some (innermost w))
          (declr_scopes (Some Value) (params d opening ps dots closing) h)
          (declr_named u (Some owner) (params d opening ps dots closing) s).names ts
      its name is e =
          step_from (subst
          (λ (it : Pieced). Fine u N (holding (declared_name d) q) qs None (declr_scopes (Some Value) d h) it.names
          (sign_text OpenParen opening (params_text all ps (dots_text all dots (sign_text CloseParen closing ts)))))
          (bare_named u d name (Some owner) s is) (declr_fits u N keys all (Some Value) d refl h f))
          (λ v now g. kept (params_scopes ps (held.enter v)) (own_where (is_bare d) (Some owner))
          (ap (λ (b : Bool). own_where b (Some owner)) (is_bare_name d name is))
          (sym (ap (λ (o : Option HeldScopes). behind o (λ t. params_scopes ps (held.enter t)))
          (sym (bare_scopes d name h is) ∙ now)) ∙ e) (also (params_fit u N keys all ps 0
          (own_where (is_bare d) (Some owner)) _ (entered (eat g))) (λ h g. eat (dots_past all dots g))))

      by : (o : Option ℕ) → bare_name d ≡ o → own_scope (or_those_of o ps (own_params d)) h ≡ Some w →
          (own_scope (own_params d) h ≡ Some w → Fine u N (holding (declared_name d) q) qs (Some (innermost w))
          (declr_scopes (Some Value) d h) (declr_named u (Some owner) d s).names
          (sign_text OpenParen opening (params_text all ps (dots_text all dots (sign_text CloseParen closing ts))))) →
          Fine u N (holding (declared_name d) q) qs (Some (innermost w))
          (declr_scopes (Some Value) (params d opening ps dots closing) h)
          (declr_named u (Some owner) (params d opening ps dots closing) s).names ts
      by None is e rest = other (not_bare d is) (rest e)
      by (Some name) is e rest = its name is e
  own_declr_fits (abs_pointer star words d) above owner h w round e f = absurd cc
  own_declr_fits (abs_paren opening attrs d closing) above owner h w round e f = absurd cc
  own_declr_fits (abs_array d opening words size closing) above owner h w round e f = absurd cc
  own_declr_fits (abs_params d opening ps dots closing) above owner h w round e f = absurd cc
  own_declr_fits (base_name token) above owner h w round e f = absurd cc
  own_declr_fits (identifiers d opening names closing) above owner h w round e f = absurd cc

  -- a function, whose body goes on in the scope of its own parameters
  named_fits : (ws : SpecWords) (d : Declr) (attrs : List Attr) (opening closing : ℕ) (items : BlockItems) (it : Named)
      {s : Names} {ts : List Lexeme} (h : HeldScopes) → declares_function d ≡ true → declared_name d ≡ Some it →
      F None [] None h s (spec_words_text all ws (declr_text all d (attrs_text all attrs (sign_text OpenBrace opening
      (block_items_text all items (sign_text CloseBrace closing ts)))))) →
      Fine u N None [] None (function_scopes ws d items h) (function_by u (Some it) ws d items s) ts
  named_fits ws d attrs opening closing items it {s} {ts} h round e f =
      step (words_fit u N keys all ws false _ _ h f) (λ t g. owned t (own_scope (own_params d) t) refl g)
    where
      behind_words : Names
      behind_words = (words_named u false ws (base []) [] s).names

      owner : Place
      owner = linked (u.key it.name) (place u it.token) behind_words

      owned : (t : HeldScopes) (o : Option HeldScopes) → own_scope (own_params d) t ≡ o →
          F None [] None t behind_words (declr_text all d (attrs_text all attrs (sign_text OpenBrace opening
          (block_items_text all items (sign_text CloseBrace closing ts))))) →
          Fine u N None [] None (behind (declr_scopes (Some Value) d t) (λ v. behind o
          (λ w. behind (block_items_scopes items (reopen (innermost w) (release Value v)))
          (λ inner. Some (held.leave inner)))))
          (function_by u (Some it) ws d items s) ts
      owned t None is g = none_fine (none_behind (declr_scopes (Some Value) d t) (λ v. None) (λ v. refl))
      owned t (Some w) is g =
          step (own_declr_fits d false owner t w round is g) (λ v g.
          let begun : F (Some it.name) [] (Some (innermost w)) v _ _ =
          subst (λ (o : Option Named). F (holding o None) [] (Some (innermost w)) v
          (declr_named u (Some owner) d behind_words).names
          (block_items_text all items (sign_text CloseBrace closing ts))) e (eat (attrs_past all attrs g)) in
          also (own (ends (block_items_fit u N keys all items _ (body_entered_fits u N keys _ _ _ _
          (thing_fits u N keys true it.name Value (said_words ws) _ _ (sized_fits u N keys _ _ begun))))))
          (λ h g. alike u N keys refl refl refl refl g))

  function_fits : (ws : SpecWords) (d : Declr) (attrs : List Attr) (opening closing : ℕ) (items : BlockItems)
      (o : Option Named) {s : Names} {ts : List Lexeme} (h : HeldScopes) → declares_function d ≡ true
      → declared_name d ≡ o →
      F None [] None h s (spec_words_text all ws (declr_text all d (attrs_text all attrs (sign_text OpenBrace opening
      (block_items_text all items (sign_text CloseBrace closing ts)))))) →
      Fine u N None [] None (function_scopes ws d items h) (function_by u o ws d items s) ts
  function_fits ws d attrs opening closing items (Some it) h round e f =
      named_fits ws d attrs opening closing items it h round e f
  function_fits ws d attrs opening closing items None h round e f =
      none_fine (none_behind (spec_words_scopes ws h) _ (λ t. none_behind (declr_scopes (Some Value) d t) _ (λ v.
      ap (λ (o : Option HeldScopes).
      behind o (λ w. behind (block_items_scopes items (reopen (innermost w) (release Value v)))
      (λ inner. Some (held.leave inner)))) (ap (λ (it : Option OwnParams). own_scope it t) (none_own d e)))))

  -- functions with lists of identifiers

  -- declarations behind a list, which declare its parameters

  old_one_fits : (lets : Bool) (kind : Kind) (own : Option Place) (words : List Keyword)
      (untagged : Option ℕ) (t : CType)
      (it : Option Named) {qs : List Level} {k : Option HeldScope} {h : HeldScopes} {ts : List Lexeme} (olds : Olds) →
      F (holding it None) qs k h olds.names ts → (b : Bool) →
      F (held_behind lets (holding it None)) qs k (scopes_behind lets kind h)
      (if b then record olds { names = declared_some u untagged it words t olds.names }
      else old_declared_some u own it (decayed t) olds).names ts
  old_one_fits lets kind own words untagged t it olds f true = some_fits u N keys lets kind untagged it words t f
  old_one_fits lets kind own words untagged t it olds f false = old_fits u N keys lets kind own it (decayed t) olds f

  other_old_declrs_fit : (kind : Kind) (ds : InitDeclrs) (own : Option Place) (words : List Keyword)
      (is_untagged : Bool)
      (t : CType) → is_same Constant kind ≡ false → (it : Olds)
      {qs : List Level} {k : Option HeldScope} {ts : List Lexeme} (h : HeldScopes) →
      F None qs k h it.names (other_init_declrs_text all ds ts) →
      Fine u N None qs k (init_declrs_scopes kind ds h) (old_declrs_named u own words is_untagged t ds it).names ts
  other_old_declrs_fit kind no_init_declrs own words is_untagged t want it h f = done f
  other_old_declrs_fit kind (more_init_declrs attrs d asm_label attrs2 init ds) own words is_untagged t want it h f =
      step (step (declr_fits u N keys all (Some kind) d want h (attrs_past all attrs (eat f)))
      (λ h g. some_init_fits u N keys all init _ (old_one_fits true kind own words (untagged_number is_untagged t)
      (applied (declr_named u None d it.names).pieces t) (declared_name d)
      (record it { names = (declr_named u None d it.names).names })
      (attrs_past all attrs2 (label_past all asm_label g)) (has_word keywords.Typedef words))))
      (λ h g. other_old_declrs_fit kind ds own words false t want _ h g)

  old_declrs_fit : (kind : Kind) (ds : InitDeclrs) (own : Option Place) (words : List Keyword)
      (is_untagged : Bool) (t : CType) →
      is_same Constant kind ≡ false → (it : Olds)
      {qs : List Level} {k : Option HeldScope} {ts : List Lexeme} (h : HeldScopes) →
      F None qs k h it.names (init_declrs_text all ds ts) →
      Fine u N None qs k (init_declrs_scopes kind ds h) (old_declrs_named u own words is_untagged t ds it).names ts
  old_declrs_fit kind no_init_declrs own words is_untagged t want it h f = done f
  old_declrs_fit kind (more_init_declrs attrs d asm_label attrs2 init ds) own words is_untagged t want it h f =
      step (step (declr_fits u N keys all (Some kind) d want h (attrs_past all attrs f))
      (λ h g. some_init_fits u N keys all init _ (old_one_fits true kind own words (untagged_number is_untagged t)
      (applied (declr_named u None d it.names).pieces t) (declared_name d)
      (record it { names = (declr_named u None d it.names).names })
      (attrs_past all attrs2 (label_past all asm_label g)) (has_word keywords.Typedef words))))
      (λ h g. other_old_declrs_fit kind ds own words false t want _ h g)

  -- so, where the grammar alone waits for initialisers, as in no well-formed unit

  other_late_old_fit : (ds : InitDeclrs) (own : Option Place) (words : List Keyword) (is_untagged : Bool)
      (t : CType) (it : Olds)
      {qs : List Level} {k : Option HeldScope} {ts : List Lexeme} (h : HeldScopes) →
      F None qs k h it.names (other_init_declrs_text all ds ts) →
      Fine u N None qs k (auto_declrs_scopes ds h) (old_declrs_named u own words is_untagged t ds it).names ts
  other_late_old_fit no_init_declrs own words is_untagged t it h f = done f
  other_late_old_fit (more_init_declrs attrs d asm_label attrs2 init ds) own words is_untagged t it h f =
      step (step (step (base_or u N keys all d h (attrs_past all attrs (eat f))
      (declr_fits u N keys all (Some Value) d refl h (attrs_past all attrs (eat f))))
      (λ h g. some_init_fits u N keys all init h (old_one_fits false Value own words (untagged_number is_untagged t)
      (applied (declr_named u None d it.names).pieces t) (declared_name d)
      (record it { names = (declr_named u None d it.names).names })
      (attrs_past all attrs2 (label_past all asm_label g)) (has_word keywords.Typedef words))))
      (λ h g. done (dropped u N keys Value g))) (λ h g. other_late_old_fit ds own words false t _ h g)

  late_old_fit : (ds : InitDeclrs) (own : Option Place) (words : List Keyword) (is_untagged : Bool)
      (t : CType) (it : Olds)
      {qs : List Level} {k : Option HeldScope} {ts : List Lexeme} (h : HeldScopes) →
      F None qs k h it.names (init_declrs_text all ds ts) →
      Fine u N None qs k (auto_declrs_scopes ds h) (old_declrs_named u own words is_untagged t ds it).names ts
  late_old_fit no_init_declrs own words is_untagged t it h f = done f
  late_old_fit (more_init_declrs attrs d asm_label attrs2 init ds) own words is_untagged t it h f =
      step (step (step (base_or u N keys all d h (attrs_past all attrs f)
      (declr_fits u N keys all (Some Value) d refl h (attrs_past all attrs f)))
      (λ h g. some_init_fits u N keys all init h (old_one_fits false Value own words (untagged_number is_untagged t)
      (applied (declr_named u None d it.names).pieces t) (declared_name d)
      (record it { names = (declr_named u None d it.names).names })
      (attrs_past all attrs2 (label_past all asm_label g)) (has_word keywords.Typedef words))))
      (λ h g. done (dropped u N keys Value g))) (λ h g. other_late_old_fit ds own words false t _ h g)

  old_declaration_fits : (d : Declaration) (own : Option Place) (it : Olds)
      {qs : List Level} {k : Option HeldScope} {ts : List Lexeme} (h : HeldScopes) →
      F None qs k h it.names (declaration_text all d ts) →
      Fine u N None qs k (declaration_scopes d h) (old_declaration_named u own d it).names ts
  old_declaration_fits (declaration exts ws ds semi) own it {qs} {k} {ts} h f =
      step (words_fit u N keys all ws _ _ _ h (extensions_past exts f))
      (λ h g. ends (by (has_auto ws) (have_values ds) h g))
    where
      found : Typed
      found = words_named u (is_tag_alone ws ds) ws (base []) [] it.names

      by : (b c : Bool) (h : HeldScopes)
          → F None qs k h found.names (init_declrs_text all ds (sign_text Semicolon semi ts)) →
          Fine u N None qs k ((if b then auto_declrs_scopes ds else init_declrs_scopes (declared_kind ws) ds) h)
          (if b && c
          then record it
          { names = auto_declrs_named u (said_words ws) (has_untagged ws) semi found.type ds found.names }
          else old_declrs_named u own (said_words ws) (has_untagged ws) found.type ds
          (record it { names = found.names })).names
          (sign_text Semicolon semi ts)
      by true true h g = auto_declrs_fit u N keys all ds (said_words ws) (has_untagged ws) semi found.type h g
      by true false h g =
          late_old_fit ds own (said_words ws) (has_untagged ws) found.type (record it { names = found.names }) h g
      by false c h g =
          old_declrs_fit (declared_kind ws) ds own (said_words ws) (has_untagged ws) found.type
          (no_enumerator (has_typedef_word (storage_words ws)))
          (record it { names = found.names }) h g

  old_declarations_fit : (ds : List Declaration) (own : Option Place) (it : Olds)
      {qs : List Level} {k : Option HeldScope} {ts : List Lexeme} (h : HeldScopes) →
      F None qs k h it.names (declarations_text all ds ts) →
      Fine u N None qs k (declarations_scopes ds h) (old_declarations_named u own ds it).names ts
  old_declarations_fit [] own it h f = done f
  old_declarations_fit (d ∷ ds) own it h f =
      step (old_declaration_fits d own it h f) (λ h g. old_declarations_fit ds own _ h g)

  -- A function's declarator with a list of identifiers, whose parameters are declared behind the whole declarator: they
  -- stand round the scopes there. What stands behind the declarations is known too.

  -- names behind the declarations of a list, in the parameters' scope
  abbrev ended : List Declaration → Place → List Identifier → Names → Olds
  ended ds owner names inner =
      old_declarations_named u (Some owner) ds (identifiers_named u names (record { list = []; names = enter inner }))

  abbrev kept_after : List Declaration → Place → List Identifier → Names → Names
  kept_after ds owner names inner =
      keep (Some owner) (old_faults u (ended ds owner names inner).list (ended ds owner names inner).names)

  -- the list itself, directly around the name
  listed_fits : (vs : List Lexeme) (opening closing : ℕ) (names : List Identifier) (ds : List Declaration)
      (owner : Place)
      {q : Option ℕ} {qs : List Level} {inner : Names} {ts : List Lexeme} (scope : HeldScope) (outer t w : HeldScopes) →
      Grew true (scope ∷ outer) t → declarations_scopes ds (held.enter t) ≡ Some w
      → AreOf N (declarations_text all ds vs) →
      F q qs None (scope ∷ outer) inner
      (sign_text OpenParen opening (names_text names (sign_text CloseParen closing ts))) →
      F q qs (Some (innermost w)) (scope ∷ outer) (kept_after ds owner names inner) ts × AreOf N vs
  listed_fits vs opening closing names ds owner {q} {qs} {inner} {ts} scope outer t w grew e past f = (
    beside_kept u N keys owner scope outer t w grew left (eat (names_past names (eat f))).names
        (old_faults_fit u N keys (ended ds owner names inner).list (ended ds owner names inner).names walked),
    walked.names,
  )
    where
      walked : F None ((q, Some scope) ∷ qs) None w (ended ds owner names inner).names vs
      walked =
          (old_declarations_fit ds (Some owner) _ (held.enter t)
          (identifiers_fit u N keys names (record { list = []; names = enter inner })
          (beside_entered u N keys scope outer t grew past f))).fits w e

      left : held.leave w ≡ t
      left = ap held.leave ((declarations_grow ds (held.enter t)).grows w e (new_scope (is_wide t)) t refl).are

  old_declr_fits : (vs : List Lexeme) (d : Declr) (ds : List Declaration) (owner : Place) {q : Option ℕ}
      {qs : List Level}
      {s : Names} {ts : List Lexeme} (h v t w : HeldScopes) → IsDeclr all d → grammar.lists_identifiers d ≡ true →
      declr_scopes (Some Value) d h ≡ Some v → Grew true v t → declarations_scopes ds (held.enter t) ≡ Some w →
      AreOf N (declarations_text all ds vs) → F q qs None h s (declr_text all d ts) →
      F (holding (declared_name d) q) qs (Some (innermost w)) v
      (old_declr_named u (Some owner) ds d s).names ts × AreOf N vs
  old_declr_fits vs (declr_name token name) ds owner h v t w formed lists now grew e past f = absurd cc
  old_declr_fits vs (declr_paren opening attrs d closing) ds owner h v t w formed lists now grew e past f =
      let it = old_declr_fits vs d ds owner h v t w formed.1 lists now grew e past (attrs_past all attrs (eat f)) in
      (eat it.0, it.1)
  old_declr_fits vs (pointer star words d) ds owner h v t w formed lists now grew e past f =
      old_declr_fits vs d ds owner h v t w formed.1 lists now grew e past (pointer_words_past all words (eat f))
  old_declr_fits vs (array d opening words size closing) ds owner h v t w formed lists now grew e past f =
      let parts = behind_some (declr_scopes (Some Value) d h) (some_size_scopes size) v now in
      let it = old_declr_fits vs d ds owner h parts.0 t w formed.0 lists parts.1
      (grew_on ((some_size_grows size parts.0).grows v parts.2) grew) e past f in (
        eat ((some_size_fits u N keys all size parts.0 (array_words_past all words (eat it.0))).fits v parts.2),
        it.1,
      )
  old_declr_fits vs (params d opening ps dots closing) ds owner h v t w formed lists now grew e past f =
      let parts = behind_some (declr_scopes (Some Value) d h) (in_own_scope (params_scopes ps)) v now in
      let it = old_declr_fits vs d ds owner h parts.0 t w formed.0 lists parts.1
      (grew_on ((grow.own (params_grows ps (held.enter parts.0))).grows v parts.2) grew) e past f in (
        (own (also (params_fit u N keys all ps 0 None (held.enter parts.0) (entered (eat it.0)))
            (λ h g. eat (dots_past all dots g)))).fits v parts.2,
        it.1,
      )
  old_declr_fits vs
      (identifiers d opening names closing) ds owner {q} {qs} {s} {ts} h v t w formed lists now grew e past f =
      let name = its_bare_name d formed.1 in
      let parts = behind_some (declr_scopes (Some Value) d h)
      (λ t. behind (where_true (is_wide t) t) (identifiers_scopes names)) v now in
      let rest = behind_some (where_true (is_wide parts.0) parts.0) (identifiers_scopes names) v parts.2 in
      let same : parts.0 ≡ v =
      same_where (is_wide parts.0) parts.0 rest.0 rest.1 ∙ same_identified names rest.0 v rest.2 in
      let cons = held_cons name.0 h parts.0 (sym (bare_scopes d name.0 h name.1) ∙ parts.1) in
      let it = listed_fits vs opening closing names ds owner {inner = (declr_named u None d s).names} {ts = ts} cons.0
      (held.leave h) t w (subst (λ (now : HeldScopes). Grew true now t) (sym same ∙ cons.1) grew) e past
      (subst (λ (now : HeldScopes). F (holding (declared_name d) q) qs None now (declr_named u None d s).names
      (sign_text OpenParen opening (names_text names (sign_text CloseParen closing ts)))) cons.1
      ((declr_fits u N keys all (Some Value) d refl h f).fits parts.0 parts.1)) in (
        subst (λ (now : HeldScopes). F (holding (declared_name d) q) qs (Some (innermost w)) now
            (kept_after ds owner names (declr_named u None d s).names) ts) (sym cons.1 ∙ same) it.0,
        it.1,
      )
  old_declr_fits vs (base_name token) ds owner h v t w formed lists now grew e past f = absurd cc
  old_declr_fits vs (abs_pointer star words d) ds owner h v t w formed lists now grew e past f = absurd cc
  old_declr_fits vs (abs_paren opening attrs d closing) ds owner h v t w formed lists now grew e past f = absurd cc
  old_declr_fits vs (abs_array d opening words size closing) ds owner h v t w formed lists now grew e past f = absurd cc
  old_declr_fits vs (abs_params d opening ps dots closing) ds owner h v t w formed lists now grew e past f = absurd cc

  -- such a function, whose body goes on in the scope of these declarations
  old_named_fits : (ws : SpecWords) (d : Declr) (attrs : List Attr) (ds : List Declaration) (opening closing : ℕ)
      (items : BlockItems) (it : Named) {s : Names} {ts : List Lexeme} (h : HeldScopes) → IsDeclr all d →
      grammar.lists_identifiers d ≡ true → declared_name d ≡ Some it →
      F None [] None h s (spec_words_text all ws (declr_text all d (attrs_text all attrs (declarations_text all ds
      (sign_text OpenBrace opening (block_items_text all items (sign_text CloseBrace closing ts))))))) →
      Fine u N None [] None (old_function_scopes ws d ds items h) (old_function_by u (Some it) ws d ds items s) ts
  old_named_fits ws d attrs ds opening closing items it {s} {ts} h formed lists e f =
      step (words_fit u N keys all ws false _ _ h f) (λ before g.
      step_from (declr_fits u N keys all (Some Value) d refl before g)
      (λ v now behind_it. declared before v now g (attrs_past all attrs behind_it).names
      (declarations_scopes ds (held.enter v)) refl))
    where
      behind_words : Names
      behind_words = (words_named u false ws (base []) [] s).names

      owner : Place
      owner = linked (u.key it.name) (place u it.token) behind_words

      body : List Lexeme
      body = sign_text OpenBrace opening (block_items_text all items (sign_text CloseBrace closing ts))

      declared : (before v : HeldScopes) → declr_scopes (Some Value) d before ≡ Some v →
          F None [] None before behind_words (declr_text all d (attrs_text all attrs (declarations_text all ds
          (sign_text OpenBrace opening (block_items_text all items (sign_text CloseBrace closing ts)))))) →
          AreOf N (declarations_text all ds body) →
          (o : Option HeldScopes) → declarations_scopes ds (held.enter v) ≡ o →
          Fine u N None [] None (behind o (λ w. behind (block_items_scopes items
          (reopen (innermost w) (release Value (held.leave w)))) (λ inner. Some (held.leave inner))))
          (old_function_by u (Some it) ws d ds items s) ts
      declared before v now g past None e' = none_fine refl
      declared before v now g past (Some w) e' =
          let both = old_declr_fits body d ds owner before v v w formed lists now (same_grew v) e' past g in
          let left : held.leave w ≡ v =
          ap held.leave ((declarations_grow ds (held.enter v)).grows w e' (new_scope (is_wide v)) v refl).are in
          let begun : F (Some it.name) [] (Some (innermost w)) (held.leave w)
          (old_declr_named u (Some owner) ds d behind_words).names
          (block_items_text all items (sign_text CloseBrace closing ts)) =
          subst (λ (o : Option Named). F (holding o None) [] (Some (innermost w)) (held.leave w)
          (old_declr_named u (Some owner) ds d behind_words).names
          (block_items_text all items (sign_text CloseBrace closing ts))) e
          (subst (λ (now : HeldScopes). F (holding (declared_name d) None) [] (Some (innermost w)) now
          (old_declr_named u (Some owner) ds d behind_words).names
          (block_items_text all items (sign_text CloseBrace closing ts))) (sym left)
          (record { names = both.1.1; agree = both.0.agree })) in
          also (own (ends (block_items_fit u N keys all items _ (body_entered_fits u N keys _ _ _ _
          (thing_fits u N keys true it.name Value (said_words ws) _ _ (sized_fits u N keys _ _ begun))))))
          (λ h g. alike u N keys refl refl refl refl g)

  old_function_fits : (ws : SpecWords) (d : Declr) (attrs : List Attr) (ds : List Declaration) (opening closing : ℕ)
      (items : BlockItems) (o : Option Named) {s : Names} {ts : List Lexeme} (h : HeldScopes) → IsDeclr all d →
      grammar.lists_identifiers d ≡ true → declared_name d ≡ o →
      F None [] None h s (spec_words_text all ws (declr_text all d (attrs_text all attrs (declarations_text all ds
      (sign_text OpenBrace opening (block_items_text all items (sign_text CloseBrace closing ts))))))) →
      Fine u N None [] None (old_function_scopes ws d ds items h) (old_function_by u o ws d ds items s) ts
  old_function_fits ws d attrs ds opening closing items (Some it) h formed lists e f =
      old_named_fits ws d attrs ds opening closing items it h formed lists e f
  old_function_fits ws d attrs ds opening closing items None h formed lists e f =
      let named = listing_name all d formed lists in let none : None ≡ Some named.0 = sym e ∙ named.1 in absurd cc

  item_fits : (item : Item) {s : Names} {ts : List Lexeme} (h : HeldScopes) → IsItem all item →
      F None [] None h s (item_text all item ts) → Fine u N None [] None (item_scopes item h) (item_named u item s) ts
  item_fits (function_item exts ws d attrs opening items closing) h formed f =
      function_fits ws d attrs opening closing items (declared_name d) h formed.5 refl (extensions_past exts f)
  item_fits (old_function_item exts ws d attrs ds opening items closing) h formed f =
      old_function_fits ws d attrs ds opening closing items (declared_name d) h formed.4 formed.5 refl
      (extensions_past exts f)
  item_fits (decl_item d) h formed f = decl_fits u N keys all d h f
  item_fits (asm_item keyword group semi) h formed f = done (eat (group_past all group (eat f)))
  item_fits (semi_item semi) h formed f = done (eat f)

  items_fit : (items : List Item) {s : Names} {ts : List Lexeme} (h : HeldScopes) → All (IsItem all) items →
      F None [] None h s (items_text all items ts)
      → Fine u N None [] None (items_scopes items h) (items_named u items s) ts
  items_fit [] h formed f = done f
  items_fit (item ∷ items) h formed f =
      step (item_fits item h (All-head (IsItem all) item items formed) f)
      (λ h g. items_fit items h (All-tail (IsItem all) item items formed) g)

-- sources

-- what is known of declarations behind units
pub record Known (s : Names) : Type 0 where
  pub things : ThingsAre (HasSkeletonAt s.declared) s.things
  pub firsts : FirstsAre s.declared s.declared

-- where what is known before a unit fits, what is known behind it does, if declarations are at different places
unit_known : (it : Source) (s : Names) → IsScoped it → (Differ s.declared → Known s) →
    Differ (items_named it.spelling it.items (unit_begun it.spelling.unit s)).declared →
    Known (items_named it.spelling it.items (unit_begun it.spelling.unit s))
unit_known it s scoped old differ =
    let last = (fine.fits scoped.formed.scopes scoped.formed.named).agree differ in
    record { things = last.things; firsts = last.firsts }
  where
    N : ℕ → Type 0
    N m = has_name scoped.all m ≡ true

    begun : Fit it.spelling N None [] None (file_scope it.spelling.wide) (unit_begun it.spelling.unit s)
        (items_text scoped.all it.items (record { kind = kinds.End; at = scoped.formed.tokens.last } ∷ []))
    begun = record {
      names = subst (AreOf N) scoped.formed.tokens.spelled (of_each N scoped.all (λ m e. e));
      agree = λ differ. let known = old differ in record {
        scopes = (((refl, λ m n. tt), tt), tt);
        kept = tt;
        things = known.things;
        firsts = known.firsts;
      };
    }

    fine : Fine it.spelling N None [] None (items_scopes it.items (file_scope it.spelling.wide))
        (items_named it.spelling it.items (unit_begun it.spelling.unit s))
        (record { kind = kinds.End; at = scoped.formed.tokens.last } ∷ [])
    fine =
        items_fit it.spelling N scoped.names scoped.all it.items
        (file_scope it.spelling.wide) scoped.formed.rules.parts begun

-- where what is known before sources fits, what is known behind all of them does, if declarations are at different
-- places
sources_known : (sources : List Source) (s : Names) → All IsScoped sources → (Differ s.declared → Known s) →
    Differ (sources_named sources s).declared → Known (sources_named sources s)
sources_known [] s scoped old differ = old differ
sources_known (it ∷ sources) s scoped old differ =
    sources_known sources (items_named it.spelling it.items (unit_begun it.spelling.unit s))
    (All-tail IsScoped it sources scoped) (unit_known it s (All-head IsScoped it sources scoped) old) differ

-- the first declaration at a place, where it has a skeleton, is of what was first declared with one
first_at : (ds more : List Declared) (p : Place) (d : Declared) → FirstsAre ds more → declared_at more p ≡ Some d →
    has_skeleton d.role ≡ true → HasSkeletonAt ds d.first
first_at ds [] p d h e is = absurd cc
first_at ds (x ∷ more) p d h e is = by (is_place x.at p) e (λ e. first_at ds more p d h.1 e is)
  where
    by : (b : Bool) → (if b then Some x else declared_at more p) ≡ Some d →
        (declared_at more p ≡ Some d → HasSkeletonAt ds d.first) → HasSkeletonAt ds d.first
    by true e next =
        let same : x ≡ d = cc in
        subst (λ (it : Declared). has_skeleton it.role ≡ true → HasSkeletonAt ds it.first) same h.0 is
    by false e next = next e

-- in scoped sources what has a skeleton was first declared as what has one
pub firsts_have_skeletons : FirstsOfScopedHaveSkeletons
firsts_have_skeletons sources scoped differ p d e is =
    first_at (names_of sources).declared (names_of sources).declared p d
    (sources_known sources no_names scoped (λ differ. record { things = tt; firsts = tt }) differ).firsts e is
