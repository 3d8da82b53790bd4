-- What the reader of items takes is spelled so and well formed.
use Rattle.std.proofs.Common.{◌≡◌, ℕ, suc, ◌≤◌, true, false, if◌then◌else◌, List, [], ◌∷◌, Option, Some, None, inr, refl, sym, ◌∙◌, ap, subst, arith}
use Rattle.std.specs.Prelude.{◌+◌, ◌-◌, max, not, All, option_map}
use Rattle.std.proofs.lemmas.List.Elements.{All-nil, All-cons}
use Rattle.std.proofs.lemmas.Bool.{not-false}
use Rattle.c_words.specs.declared.kinds.TokenKind.TheVariants as kinds
use Rattle.c_words.specs.declared.kinds.Punct.TheVariants as puncts
use Rattle.c_words.specs.declared.kinds.Keyword.TheVariants as keywords
use Rattle.c_tree.specs.declared.lexeme.Lexeme.{Lexeme}
use Rattle.c_syntax.specs.declared.parts.Attr.{Attr}
use Rattle.c_tree.specs.Tree.{SpecWords, Declr, pointer, declr_name, declr_paren, array, params, abs_pointer, abs_paren, abs_array, abs_params, identifiers, base_name, attribute, Params, SomeDeclr, some_declr, Declaration, declaration, decl_declaration, decl_assert, BlockItems, more_words, no_words}
use Rattle.c_tree.specs.Text.{declaration_text, keyword_text, group_text, attrs_text, declr_text, extensions_text, spec_words_text}
use Rattle.c_tree.specs.Height.{attrs_height, declaration_height, declr_height, specs_height, block_height, some_init_height}
use Rattle.c_tree.specs.Specifiers.{IsMix, storage_words}
use Rattle.c_tree.specs.WellFormed.{AreSpecWords, AreAttrs, IsDeclr, IsDeclaration, is_named, has_auto, lists_identifiers}
use Rattle.c_tree.specs.Unit.{Item, is_round_name, declares_function, declarations_text, declarations_height, begins_attribute}
use Rattle.typedef_scope.specs.declared.kind.Kind.{Kind}
use Rattle.typedef_scope.specs.declared.kind.Kind.TheVariants.{Value}
use Rattle.c_units.specs.HeldScopes.{HeldScopes, HeldScope, enter, innermost, reopen, release, leave}
use Rattle.c_units.specs.Scoping.{behind, has_typedef_word, declaration_scopes, declared_kind, spec_words_scopes, declr_scopes, init_declrs_scopes, some_init_scopes, block_items_scopes}
use Rattle.c_units.specs.Units.{declarations_scopes, OwnParams, own_params, bare_name, or_those_of, own_scope}
use Rattle.c_reading.specs.declared.kinds.Mode.TheVariants.{Named}
use Rattle.c_reading.specs.Reading.{Found, Read, Reader, kind_at, IsNumbered, IsTail}
use Rattle.c_reading.specs.Tokens.{is_semicolon, is_asm, is_attribute, is_open_brace, is_static_assert, is_base_word}
use Rattle.c_specs.specs.declared.mix.Class.TheVariants as classes
use Rattle.c_specs.specs.Mix.{goes_on}
use Rattle.c_specs.specs.Laws.{MixesGoOn}
use Rattle.c_reading.specs.declared.kinds.Role.TheVariants.{Declaring}
use Rattle.c_reading.specs.Parts.{Inner, Declared, DeclrItem}
use Rattle.c_reading.specs.Stating.{declr_behind, declrs_with}
use Rattle.c_reading.specs.Items.{as_decl, goes_on_declared, function_with, attrs_behind, function_or_not, behind_function, behind_declr, old_declaration, old_function_with, first_declr, declared_item, asm_item_with, item_with}
use Rattle.c_reading.proofs.Binding.{found, done, ok_is, bind_ok, fits_ok, if_ok}
use Rattle.c_reading.proofs.Forms.{Takes, IsSound, at_end, behind_is, behind_same, through, took, took_token}
use Rattle.c_reading.proofs.KindFacts.{semicolon_kind, asm_kind, open_brace_kind}
use Rattle.c_reading.proofs.Aims.{declr_item_form, declaration_form, item_form, closed_of, declr_room, TakesDeclr, TokenLaws, Laws, least_with}
use Rattle.c_reading.proofs.Shared.{specs_here_sound, specs_here_stops, present_ok}
use Rattle.c_reading.proofs.Rows.{AllFit, row_text, row_scopes, row_height, repeated_sound}
use Rattle.c_reading.proofs.Ended.{repeated_stops}
use Rattle.c_reading.proofs.BaseWords.{no_typedef}
use Rattle.c_reading.proofs.ItemsFalls.{old_declaration_shrinks}
use Rattle.c_reading.proofs.DeclLists.{attrs_room}
use Rattle.c_reading.proofs.DeclSound.{no_attrs, declr_behind_sound, some_init_sound, behind_first, TookDeclrs, declrs_sound, TookBehind, no_auto, plain_scopes, bare_sound, behind_sound, assembled}
use Rattle.c_reading.proofs.StmtSound.{some_scopes, four_up, attrs_end, block_body_sound}
use Rattle.c_reading.proofs.SpecsSoundBodies.{declr_high}
use Rattle.c_reading.proofs.DeclrSoundParams.{specs_high}

-- own parameters are directly around the name
round_more : (d : Declr) → is_round_name d false ≡ true → is_round_name d true ≡ true
round_more (declr_name token name) h = refl
round_more (declr_paren opening attrs d closing) h = round_more d h
round_more (pointer star words d) h = h
round_more (array d opening words size closing) h = h
round_more (params d opening ps dots closing) h = h
round_more (abs_pointer star words d) h = absurd cc
round_more (abs_paren opening attrs d closing) h = absurd cc
round_more (abs_array d opening words size closing) h = absurd cc
round_more (abs_params d opening ps dots closing) h = absurd cc
round_more (identifiers d opening names closing) h = absurd cc
round_more (base_name token) h = absurd cc

-- a declarator that is a bare name is one that parameters may stand around
bare_round : (d : Declr) (name : ℕ) → bare_name d ≡ Some name → is_round_name d true ≡ true
bare_round (declr_name token n) name h = refl
bare_round (declr_paren opening attrs d closing) name h = bare_round d name h
bare_round (pointer star words d) name h = absurd cc
bare_round (array d opening words size closing) name h = absurd cc
bare_round (params d opening ps dots closing) name h = absurd cc
bare_round (abs_pointer star words d) name h = absurd cc
bare_round (abs_paren opening attrs d closing) name h = absurd cc
bare_round (abs_array d opening words size closing) name h = absurd cc
bare_round (abs_params d opening ps dots closing) name h = absurd cc
bare_round (identifiers d opening names closing) name h = absurd cc
bare_round (base_name token) name h = absurd cc

-- a declarator without a list of identifiers that has parameters around its name declares a function
pub own_round : (d : Declr) (p : OwnParams) → lists_identifiers d ≡ false → own_params d ≡ Some p
    → declares_function d ≡ true
own_round (declr_name token n) p plain h = absurd cc
own_round (declr_paren opening attrs d closing) p plain h = own_round d p plain h
own_round (pointer star words d) p plain h = own_round d p plain h
own_round (array d opening words size closing) p plain h = own_round d p plain h
own_round (identifiers d opening names closing) p plain h = absurd cc
own_round (base_name token) p plain h = absurd cc
own_round (params d opening ps dots closing) p plain h =
    by_bare (bare_name d) refl h (λ h. round_more d (own_round d p plain h))
  where
    by_bare : (o : Option ℕ) → bare_name d ≡ o → or_those_of o ps (own_params d) ≡ Some p
        → (own_params d ≡ Some p → is_round_name d true ≡ true) → is_round_name d true ≡ true
    by_bare None is h inside = inside h
    by_bare (Some name) is h inside = bare_round d name is
own_round (abs_pointer star words d) p plain h = absurd cc
own_round (abs_paren opening attrs d closing) p plain h = absurd cc
own_round (abs_array d opening words size closing) p plain h = absurd cc
own_round (abs_params d opening ps dots closing) p plain h = absurd cc

-- the scope of the own parameters
record Closes (d : Declr) (s : HeldScopes) (closed : HeldScope) : Type 0 where
  inside : HeldScopes
  is : own_scope (own_params d) s ≡ Some inside
  same : innermost inside ≡ closed
  round : declares_function d ≡ true

-- the scope that such a declarator closes is that of its own parameters, and it declares a function
closes : (d : Declr) (s : HeldScopes) (closed : HeldScope) → lists_identifiers d ≡ false
    → Some closed ≡ option_map innermost (own_scope (own_params d) s) → Closes d s closed
closes d s closed plain h = by_own (own_params d) refl h
  where
    by_scopes : (p : OwnParams) (o : Option HeldScopes) → own_params d ≡ Some p → own_scope (Some p) s ≡ o
        → Some closed ≡ option_map innermost o → Closes d s closed
    by_scopes p None is at h = absurd cc
    by_scopes p (Some w) is at h = record {
      inside = w;
      is = ap (λ (own : Option OwnParams). own_scope own s) is ∙ at;
      same = sym cc;
      round = own_round d p plain is;
    }

    by_own : (o : Option OwnParams) → own_params d ≡ o → Some closed ≡ option_map innermost (own_scope o s)
        → Closes d s closed
    by_own None is h = absurd cc
    by_own (Some p) is h = by_scopes p (own_scope (Some p) s) is refl h

two_inside : (h room : ℕ) → 1 ≤ h → h + 1 ≤ room → 2 ≤ room
two_inside h room a b = omega (arith, a, b)

one_inside : (h room : ℕ) → h + 1 ≤ room → h ≤ room - 1
one_inside h room a = omega (arith, a)

last_two : (h room : ℕ) → h ≤ room - 2 → h ≤ (room - 1) - 1
last_two h room a = omega (arith, a)

asked : (h room : ℕ) → 2 + h ≤ room → h ≤ (room - 1) - 1
asked h room a = omega (arith, a)

own_room : (h room : ℕ) → 2 ≤ room → h ≤ suc (room - 2) → h ≤ room - 1
own_room h room a b = omega (arith, a, b)

old_room : (closed : Option HeldScope) (h room : ℕ) → 2 ≤ room → h ≤ declr_room true closed (room - 2) → h ≤ room - 1
old_room None h room a b = omega (arith, a, b)
old_room (Some scope) h room a b = own_room h room a b

some_inside : (room : ℕ) → 2 ≤ room → 1 ≤ room - 1
some_inside room a = omega (arith, a)

one_of_two : (room : ℕ) → 2 ≤ room → 1 ≤ room
one_of_two room a = omega (arith, a)

bare_item_low : (d b i room : ℕ) → 1 ≤ d → d ≤ (room - 1) - 1 → b ≤ (room - 1) - 1 → i ≤ (room - 1) - 1
    → max 0 (max d (max 0 (max b i))) + 1 ≤ room - 1
bare_item_low d b i room o p q r = omega (arith, o, p, q, r)

module _ (all : List Lexeme) (numbered : IsNumbered all) (tokens : TokenLaws all) (n : ℕ) (inner : Inner)
    (laws : Laws all n inner) (goes : MixesGoOn) where
  as_decl_sound : (r : Read Declaration) (room : ℕ) (s : HeldScopes) (ts : List Lexeme) (x : Found Item)
      → ((d : Found Declaration) → r ≡ done d → Takes all (declaration_form all) room s ts d) → as_decl r ≡ done x →
      Takes all (item_form all) room s ts x
  as_decl_sound r room s ts x sound e =
      let a = bind_ok e in
      let h = sound a.0 a.1 in
      at_end (Takes all (item_form all) room s ts) a.2
      (record { spelled = h.spelled; fits = h.fits; named = h.named; low = h.low; left = h.left })

  -- what stands before the first declarator
  record Words (exts : List ℕ) (words : SpecWords) (room : ℕ) (s₀ s : HeldScopes) (ts₀ ts : List Lexeme) : Type 0 where
    spelled : ts₀ ≡ extensions_text exts (spec_words_text all words ts)
    mix : IsMix words
    fits : AreSpecWords all words
    named : spec_words_scopes words s₀ ≡ Some s
    low : specs_height words ≤ room - 1
    two : 2 ≤ room
    bare : has_typedef_word (storage_words words) ≡ false
    plain : has_auto words ≡ false
    stops : is_base_word (kind_at ts) ≡ true → goes_on words (classes.Spells keywords.BaseWord) ≡ false

  -- the first declarator, with its name
  record First (d : Declr) (s u : HeldScopes) (ts us : List Lexeme) : Type 0 where
    spelled : ts ≡ declr_text all d us
    fits : IsDeclr all d
    is_name : is_named d ≡ true
    plain : lists_identifiers d ≡ false
    named : declr_scopes (Some Value) d s ≡ Some u
    left : IsTail all us

  -- a declaration, of which the first declarator was read
  declaration_first : (exts : List ℕ) (words : SpecWords) (room : ℕ) (first : Reader DeclrItem) (s₀ s : HeldScopes)
      (ts₀ ts : List Lexeme) (s₁ : HeldScopes) (ts₁ : List Lexeme) (x : Found Declaration)
      → Words exts words room s₀ s ts₀ ts →
      ((a : Found DeclrItem) → first s₁ ts₁ ≡ done a → Takes all (declr_item_form all Value) (room - 1) s ts a)
      → ((a : Found DeclrItem) → first s₁ ts₁ ≡ done a → a.tree.before ≡ []) →
      declrs_with inner exts words Value room first s₁ ts₁ ≡ done x → Takes all (declaration_form all) room s₀ ts₀ x
  declaration_first exts words room first s₀ s ts₀ ts s₁ ts₁ x w sound starts e =
      assembled all numbered tokens n inner laws goes exts words room s₀ s ts₀ ts x w.spelled w.mix w.fits
      w.stops w.named w.low
      (of_declrs
      (declrs_sound all numbered tokens n inner laws exts words Value room first s ts s₁ ts₁ x sound starts e))
    where
      value_kind : has_typedef_word (storage_words words) ≡ false → declared_kind words ≡ Value
      value_kind h = rw h refl

      of_declrs : TookDeclrs all numbered tokens n inner laws exts words Value room s ts x
          → TookBehind all numbered tokens n inner laws exts words room s ts x
      of_declrs t = record {
        declrs = t.declrs;
        semi = t.semi;
        is = t.is;
        spelled = t.spelled;
        fits = t.fits;
        starts = t.starts;
        named = plain_scopes all numbered tokens n inner laws words t.declrs s x.scopes w.plain (subst
            (λ (kind : Kind). init_declrs_scopes kind t.declrs s ≡ Some x.scopes) (sym (value_kind w.bare)) t.named);
        auto = no_auto all numbered tokens n inner laws words t.declrs w.plain;
        low = t.low;
        words_low = inr t.two;
        some = one_of_two room w.two;
        left = t.left;
      }

  -- behind a declarator, with a label
  declr_behind_first : (d : Declr) (room : ℕ) (s u : HeldScopes) (ts us : List Lexeme) (a : Found DeclrItem)
      → First d s u ts us → declr_height d ≤ (room - 1) - 1
      → declr_behind inner [] d (room - 1) (release Value u) us ≡ done a →
      Takes all (declr_item_form all Value) (room - 1) s ts a
  declr_behind_first d room s u ts us a f low e =
      rw f.spelled (declr_behind_sound all numbered tokens n inner laws [] d Value (room - 1) s u us a (no_attrs all)
      (omega arith) f.fits f.is_name f.plain f.named low f.left e)

  -- behind a declarator and attributes
  attrs_behind_first : (d : Declr) (attrs : List Attr) (room : ℕ) (s u v : HeldScopes) (ts us vs : List Lexeme)
      (a : Found DeclrItem)
      → First d s u ts us → us ≡ attrs_text all attrs vs → AreAttrs all attrs → attrs_height attrs ≤ (room - 1) - 1 →
      v ≡ release Value u → IsTail all vs → declr_height d ≤ (room - 1) - 1
      → attrs_behind inner d attrs (room - 1) v vs ≡ done a → Takes all (declr_item_form all Value) (room - 1) s ts a
  unfolding attrs_behind
  attrs_behind_first d attrs room s u v ts us vs a f spelled attrs_fit attrs_low same tail low e =
      let b = bind_ok e in
      let i = some_init_sound all numbered tokens n inner laws (room - 1) v vs b.0 tail b.1 in
      at_end (Takes all (declr_item_form all Value) (room - 1) s ts) b.2 (record {
        spelled = f.spelled ∙ ap (declr_text all d) (spelled ∙ ap (attrs_text all attrs) i.spelled);
        fits = (no_attrs all, f.fits, f.is_name, tt, attrs_fit, i.fits, f.plain);
        named = behind_is (λ t. some_init_scopes b.0.tree (release Value t)) f.named
            (through (some_init_scopes b.0.tree) same i.named refl);
        low = bare_item_low (declr_height d) (attrs_height attrs) (some_init_height b.0.tree) room
            (declr_high d) low attrs_low i.low;
        left = i.left;
      })

  attrs_behind_bare : (d : Declr) (attrs : List Attr) (room : ℕ) (s : HeldScopes) (ts : List Lexeme)
      (a : Found DeclrItem)
      → attrs_behind inner d attrs room s ts ≡ done a → a.tree.before ≡ []
  unfolding attrs_behind
  attrs_behind_bare d attrs room s ts a e =
      let b = bind_ok e in
      ap (λ (x : Found DeclrItem). x.tree.before) (sym (ok_is b.2))

  function_sound : (exts : List ℕ) (words : SpecWords) (d : Declr) (attrs : List Attr) (closed : HeldScope) (room : ℕ)
      (s₀ s u v : HeldScopes) (ts₀ ts us vs : List Lexeme) (x : Found Item)
      → Words exts words room s₀ s ts₀ ts → First d s u ts us →
      Closes d s closed → declr_height d ≤ room - 1 → us ≡ attrs_text all attrs vs → AreAttrs all attrs
      → attrs_height attrs ≤ room - 1 → v ≡ release Value u → IsTail all vs
      → kind_at vs ≡ kinds.Punct puncts.OpenBrace →
      function_with inner exts words d attrs closed room v vs ≡ done x → Takes all (item_form all) room s₀ ts₀ x
  unfolding function_with
  function_sound exts words d attrs closed room s₀ s u v ts₀ ts us vs x w f c low spelled attrs_fit attrs_low same tail
      is e =
      let a = bind_ok e in
      let i = block_body_sound all numbered tokens n inner laws goes (room - 1) (reopen closed v) vs a.0
      (some_inside room w.two) tail is a.1 in
      let inside : block_items_scopes a.0.tree.items (reopen (innermost c.inside) (release Value u)) ≡ Some a.0.scopes =
      ap (λ (scope : HeldScope). block_items_scopes a.0.tree.items (reopen scope (release Value u))) c.same
      ∙ ap (λ (t : HeldScopes). block_items_scopes a.0.tree.items (reopen closed t)) (sym same) ∙ i.named in
      at_end (Takes all (item_form all) room s₀ ts₀) a.2 (record {
        spelled = w.spelled ∙ ap (λ (k : List Lexeme). extensions_text exts (spec_words_text all words k))
            (f.spelled ∙ ap (declr_text all d) (spelled ∙ ap (attrs_text all attrs) i.spelled));
        fits = (
          w.mix,
          w.fits,
          w.plain,
          no_typedef (storage_words words) w.bare,
          f.fits,
          c.round,
          attrs_fit,
          i.fits,
          i.first,
        );
        named = behind_is (λ t. behind (declr_scopes (Some Value) d t) (λ u. behind (own_scope (own_params d) t)
            (λ w. behind (block_items_scopes a.0.tree.items (reopen (innermost w) (release Value u)))
            (λ inner. Some (leave inner))))) w.named
            (behind_is (λ u. behind (own_scope (own_params d) s) (λ w. behind (block_items_scopes a.0.tree.items
            (reopen (innermost w) (release Value u))) (λ inner. Some (leave inner)))) f.named
            (behind_is (λ w. behind (block_items_scopes a.0.tree.items (reopen (innermost w) (release Value u)))
            (λ inner. Some (leave inner))) c.is
            (behind_is (λ inner. Some (leave inner)) inside refl)));
        low = four_up (specs_height words) (declr_height d) (attrs_height attrs)
            (block_height a.0.tree.items) room w.two w.low low attrs_low i.low;
        left = i.left;
      })

  function_or_not_sound : (exts : List ℕ) (words : SpecWords) (d : Declr) (attrs : List Attr) (closed : HeldScope)
      (room : ℕ) (s₀ s u v : HeldScopes) (ts₀ ts us vs : List Lexeme) (x : Found Item)
      → Words exts words room s₀ s ts₀ ts → First d s u ts us →
      Closes d s closed → declr_height d ≤ room - 1 → us ≡ attrs_text all attrs vs → AreAttrs all attrs
      → least_with attrs ≤ room → v ≡ release Value u → IsTail all vs →
      function_or_not inner exts words d attrs closed room v vs ≡ done x → Takes all (item_form all) room s₀ ts₀ x
  unfolding function_or_not
  function_or_not_sound exts words d attrs closed room s₀ s u v ts₀ ts us vs x w f c low spelled attrs_fit attrs_low
      same tail e =
      if_ok (is_open_brace (kind_at vs)) e (λ is e.
      function_sound exts words d attrs closed room s₀ s u v ts₀ ts us vs x w f c low spelled attrs_fit
      (attrs_room attrs room attrs_low) same tail (open_brace_kind (kind_at vs) is) e) (λ is e.
      if_ok (goes_on_declared (kind_at vs)) e (λ on e.
      let r = fits_ok _ _ _ e in
      let high = asked (declr_height d) room r.0 in
      as_decl_sound (declrs_with inner exts words Value room (attrs_behind inner d attrs (room - 1)) v vs) room s₀ ts₀ x
      (λ a e. declaration_first exts words room (attrs_behind inner d attrs (room - 1)) s₀ s ts₀ ts v vs a w
      (λ b e. attrs_behind_first d attrs room s u v ts us vs b f spelled attrs_fit
      (attrs_least attrs room (declr_height d) (declr_high d) r.0 attrs_low) same tail high e)
      (λ b e. attrs_behind_bare d attrs (room - 1) v vs b e) e) r.1) (λ on e. absurd cc))
    where
      attrs_least : (attrs : List Attr) (room d : ℕ) → 1 ≤ d → 2 + d ≤ room → least_with attrs ≤ room
          → attrs_height attrs ≤ (room - 1) - 1
      attrs_least [] room d a b c = omega arith
      attrs_least (x ∷ attrs) room d a b c = omega (arith, a, b)

  behind_function_sound : (exts : List ℕ) (words : SpecWords) (d : Declr) (closed : HeldScope) (room : ℕ)
      (s₀ s u : HeldScopes) (ts₀ ts us : List Lexeme) (x : Found Item)
      → Words exts words room s₀ s ts₀ ts → First d s u ts us →
      Closes d s closed → declr_height d ≤ room - 1
      → behind_function inner exts words d closed room (release Value u) us ≡ done x
      → Takes all (item_form all) room s₀ ts₀ x
  unfolding behind_function
  behind_function_sound exts words d closed room s₀ s u ts₀ ts us x w f c low e =
      if_ok (is_asm (kind_at us)) e (λ is e.
      let r = fits_ok _ _ _ e in
      as_decl_sound
      (declrs_with inner exts words Value room (declr_behind inner [] d (room - 1)) (release Value u) us) room s₀ ts₀ x
      (λ a e. declaration_first exts words room (declr_behind inner [] d (room - 1)) s₀ s ts₀ ts
      (release Value u) us a w
      (λ b e. declr_behind_first d room s u ts us b f (asked (declr_height d) room r.0) e)
      (λ b e. behind_first all numbered tokens n inner laws [] d (room - 1) (release Value u) us b e) e) r.1) (λ is e.
      let a = bind_ok e in
      let i = tokens.attrs_sound room (release Value u) us a.0 f.left a.1 in
      function_or_not_sound exts words d a.0.tree closed room s₀ s u a.0.scopes ts₀ ts us a.0.rest x w f c low i.spelled
      i.fits i.low (some_scopes (release Value u) a.0.scopes i.named) i.left a.2)

  behind_declr_sound : (exts : List ℕ) (words : SpecWords) (d : Declr) (closed : Option HeldScope) (room : ℕ)
      (s₀ s u : HeldScopes) (ts₀ ts us : List Lexeme) (x : Found Item)
      → Words exts words room s₀ s ts₀ ts → First d s u ts us →
      closed ≡ option_map innermost (own_scope (own_params d) s) → declr_height d ≤ declr_room true closed (room - 2)
      → behind_declr inner exts words d closed room (release Value u) us ≡ done x
      → Takes all (item_form all) room s₀ ts₀ x
  behind_declr_sound exts words d None room s₀ s u ts₀ ts us x w f is low e =
      as_decl_sound
      (declrs_with inner exts words Value room (declr_behind inner [] d (room - 1)) (release Value u) us) room s₀ ts₀ x
      (λ a e. declaration_first exts words room (declr_behind inner [] d (room - 1)) s₀ s ts₀ ts
      (release Value u) us a w
      (λ b e. declr_behind_first d room s u ts us b f (last_two (declr_height d) room low) e)
      (λ b e. behind_first all numbered tokens n inner laws [] d (room - 1) (release Value u) us b e) e) e
  behind_declr_sound exts words d (Some closed) room s₀ s u ts₀ ts us x w f is low e =
      behind_function_sound exts words d closed room s₀ s u ts₀ ts us x w f (closes d s closed f.plain is)
      (own_room (declr_height d) room w.two low) e

  -- Functions with a list of identifiers.

  pub rows_text : (ds : List Declaration) (k : List Lexeme)
      → row_text (declaration_form all) ds k ≡ declarations_text all ds k
  rows_text [] k = refl
  rows_text (d ∷ ds) k = ap (declaration_text all d) (rows_text ds k)

  pub rows_scopes : (ds : List Declaration) (s : HeldScopes)
      → row_scopes (declaration_form all) ds s ≡ declarations_scopes ds s
  rows_scopes [] s = refl
  rows_scopes (d ∷ ds) s = behind_same (declaration_scopes d s) _ _ (rows_scopes ds)

  pub rows_height : (ds : List Declaration) → row_height (declaration_form all) ds ≡ declarations_height ds
  rows_height [] = refl
  rows_height (d ∷ ds) = ap (max (declaration_height d)) (rows_height ds)

  rows_fit : (ds : List Declaration) → AllFit (declaration_form all) ds → All (IsDeclaration all) ds
  rows_fit [] h = All-nil (IsDeclaration all)
  rows_fit (d ∷ ds) h = All-cons (IsDeclaration all) d ds h.0 (rows_fit ds h.1)

  old_declaration_sound : (room : ℕ) → IsSound all (declaration_form all) room (old_declaration inner room)
  unfolding old_declaration
  old_declaration_sound room s ts x tail e =
      let a = bind_ok e in
      let b = bind_ok a.2 in
      let i = tokens.exts_sound room s ts a.0 tail a.1 in
      let j = specs_here_sound all n inner laws Declaring room a.0.scopes a.0.rest b.0 i.left b.1 in
      let same = some_scopes s a.0.scopes i.named in
      let named : spec_words_scopes b.0.tree s ≡ Some b.0.scopes =
      subst (λ (t : HeldScopes). spec_words_scopes b.0.tree t ≡ Some b.0.scopes) same j.named in
      assembled all numbered tokens n inner laws goes a.0.tree b.0.tree room s b.0.scopes ts b.0.rest x
      (i.spelled ∙ ap (extensions_text a.0.tree) j.spelled) j.fits.0 j.fits.1
      (specs_here_stops all n inner laws Declaring room a.0.scopes a.0.rest b.0 i.left b.1) named
      (one_inside (specs_height b.0.tree) room j.low)
      (behind_sound all numbered tokens n inner laws a.0.tree b.0.tree room b.0.scopes b.0.rest x j.left b.2)

  -- attributes before the first declaration are the function's
  no_attribute_first : (ds : List Declaration) (k : List Lexeme)
      → is_attribute (kind_at (declarations_text all ds k)) ≡ false → begins_attribute ds ≡ false
  no_attribute_first [] k none = refl
  no_attribute_first (declaration [] no_words ds semi ∷ rest) k none = refl
  no_attribute_first (declaration [] (more_words (attribute a) ws) ds semi ∷ rest) k none = absurd cc
  no_attribute_first (declaration [] (more_words w ws) ds semi ∷ rest) k none = refl
  no_attribute_first (declaration (x ∷ exts) ws ds semi ∷ rest) k none = refl

  five_up : (w d a ds b room : ℕ) → 2 ≤ room → w ≤ room - 1 → d ≤ room - 1 → a ≤ room - 1 → ds ≤ room - 1 → b ≤ room - 1
      → max w (max d (max a (max ds b))) + 1 ≤ room
  five_up w d a ds b room o p q r s t = omega (arith, o, p, q, r, s, t)

  old_function_sound : (exts : List ℕ) (words : SpecWords) (d : Declr) (room : ℕ) (s₀ s u : HeldScopes)
      (ts₀ ts us : List Lexeme) (x : Found Item)
      → Words exts words room s₀ s ts₀ ts → ts ≡ declr_text all d us → IsDeclr all d →
      lists_identifiers d ≡ true → declr_scopes (Some Value) d s ≡ Some u → declr_height d ≤ room - 1 → IsTail all us
      → old_function_with inner exts words d room u us ≡ done x → Takes all (item_form all) room s₀ ts₀ x
  unfolding old_function_with
  old_function_sound exts words d room s₀ s u ts₀ ts us x w spelled fit lists named low tail e =
      let a = bind_ok e in
      let b = bind_ok a.2 in
      let c = bind_ok b.2 in
      let i = tokens.attrs_sound room u us a.0 tail a.1 in
      let same = some_scopes u a.0.scopes i.named in
      let j = repeated_sound (λ kind. not (is_open_brace kind)) (old_declaration inner (room - 1)) all
      (declaration_form all) (room - 1) (old_declaration_sound (room - 1)) (enter a.0.scopes) a.0.rest b.0 i.left b.1 in
      let brace : is_open_brace (kind_at b.0.rest) ≡ true = not-false (is_open_brace (kind_at b.0.rest))
      (repeated_stops (λ kind. not (is_open_brace kind)) (old_declaration inner (room - 1))
      (old_declaration_shrinks all tokens n inner laws (room - 1)) (enter a.0.scopes) a.0.rest b.0 b.1) in
      let l = block_body_sound all numbered tokens n inner laws goes (room - 1)
      (reopen (innermost b.0.scopes) (release Value (leave b.0.scopes))) b.0.rest c.0 (some_inside room w.two) j.left
      (open_brace_kind (kind_at b.0.rest) brace) c.1 in
      let after : a.0.rest ≡ declarations_text all b.0.tree b.0.rest = j.spelled ∙ rows_text b.0.tree b.0.rest in
      let inside : declarations_scopes b.0.tree (enter u) ≡ Some b.0.scopes =
      ap (λ (t : HeldScopes). declarations_scopes b.0.tree (enter t)) (sym same)
      ∙ sym (rows_scopes b.0.tree (enter a.0.scopes)) ∙ j.named in
      at_end (Takes all (item_form all) room s₀ ts₀) c.2 (record {
        spelled = w.spelled ∙ ap (λ (k : List Lexeme). extensions_text exts (spec_words_text all words k))
            (spelled ∙ ap (declr_text all d) (i.spelled
            ∙ ap (attrs_text all a.0.tree) (after ∙ ap (declarations_text all b.0.tree) l.spelled)));
        fits = (
          w.mix,
          w.fits,
          w.plain,
          no_typedef (storage_words words) w.bare,
          fit,
          lists,
          i.fits,
          rows_fit b.0.tree j.fits,
          l.fits,
          l.first,
          no_attribute_first b.0.tree b.0.rest (ap (λ (k : List Lexeme). is_attribute (kind_at k)) (sym after)
              ∙ attrs_end all numbered tokens n inner laws goes room u us a.0 a.1),
        );
        named =
            behind_is (λ t. behind (declr_scopes (Some Value) d t) (λ u. behind (declarations_scopes b.0.tree (enter u))
            (λ w. behind (block_items_scopes c.0.tree.items (reopen (innermost w) (release Value (leave w))))
            (λ inner. Some (leave inner))))) w.named
            (behind_is (λ u. behind (declarations_scopes b.0.tree (enter u)) (λ w. behind (block_items_scopes
            c.0.tree.items (reopen (innermost w) (release Value (leave w)))) (λ inner. Some (leave inner)))) named
            (behind_is (λ w. behind (block_items_scopes c.0.tree.items (reopen (innermost w) (release Value (leave w))))
            (λ inner. Some (leave inner))) inside
            (behind_is (λ inner. Some (leave inner)) l.named refl)));
        low = five_up (specs_height words) (declr_height d) (attrs_height a.0.tree) (declarations_height b.0.tree)
            (block_height c.0.tree.items) room w.two w.low low (attrs_room a.0.tree room i.low)
            (subst (λ (h : ℕ). h ≤ room - 1) (rows_height b.0.tree) j.low) l.low;
        left = l.left;
      })

  first_declr_sound : (exts : List ℕ) (words : SpecWords) (room : ℕ) (s₀ s : HeldScopes) (ts₀ ts : List Lexeme)
      (x : Found Item)
      → Words exts words room s₀ s ts₀ ts → IsTail all ts → first_declr inner exts words room s ts ≡ done x →
      Takes all (item_form all) room s₀ ts₀ x
  unfolding first_declr
  first_declr_sound exts words room s₀ s ts₀ ts x w tail e =
      let a = bind_ok e in
      let b = bind_ok a.2 in
      of_declr a.0 b.0 (laws.declrs.sound Named (Some Value) true (room - 2) s ts a.0 tail a.1)
      (present_ok a.0.tree.declr a.0.scopes a.0.rest b.0 b.1) b.2
    where
      of_found : (d : Declr) (declared : Found Declared)
          → TakesDeclr all Named (Some Value) true (room - 2) s ts declared → declared.tree.declr ≡ some_declr d →
          (if lists_identifiers d then old_function_with inner exts words d room declared.scopes declared.rest
          else behind_declr inner exts words d declared.tree.closed room (release Value declared.scopes) declared.rest)
          ≡ done x → Takes all (item_form all) room s₀ ts₀ x
      of_found d a t is e =
          if_ok (lists_identifiers d) e (λ lists e.
          old_function_sound exts words d room s₀ s a.scopes ts₀ ts a.rest x w (rw is at t.spelled)
          (rw is at t.fits).0 lists (rw is at t.named)
          (old_room a.tree.closed (declr_height d) room w.two (rw is at t.low)) t.left e) (λ plain e.
          behind_declr_sound exts words d a.tree.closed room s₀ s a.scopes ts₀ ts a.rest x w
          (record {
            spelled = rw is at t.spelled;
            fits = (rw is at t.fits).0;
            is_name = (rw is at t.fits).1;
            plain = plain;
            named = rw is at t.named;
            left = t.left;
          })
          (rw is at t.closed) (rw is at t.low) e)

      of_declr : (a : Found Declared) (b : Found Declr) → TakesDeclr all Named (Some Value) true (room - 2) s ts a
          → (a.tree.declr ≡ some_declr b.tree) × (found b.tree a.scopes a.rest ≡ b) →
          (if lists_identifiers b.tree then old_function_with inner exts words b.tree room b.scopes b.rest
          else behind_declr inner exts words b.tree a.tree.closed room (release Value b.scopes) b.rest) ≡ done x
          → Takes all (item_form all) room s₀ ts₀ x
      of_declr a b t p e =
          of_found b.tree a t p.0 (subst (λ (b' : Found Declr).
          (if lists_identifiers b.tree then old_function_with inner exts words b.tree room b'.scopes b'.rest
          else behind_declr inner exts words b.tree a.tree.closed room (release Value b'.scopes) b'.rest)
          ≡ done x) (sym p.1) e)

  declared_item_sound : (room : ℕ) → IsSound all (item_form all) room (declared_item inner room)
  unfolding declared_item
  declared_item_sound room s ts x tail e =
      let a = bind_ok e in
      let b = bind_ok a.2 in
      let i = tokens.exts_sound room s ts a.0 tail a.1 in
      let j = specs_here_sound all n inner laws Declaring room a.0.scopes a.0.rest b.0 i.left b.1 in
      let stops = specs_here_stops all n inner laws Declaring room a.0.scopes a.0.rest b.0 i.left b.1 in
      let same = some_scopes s a.0.scopes i.named in
      let named : spec_words_scopes b.0.tree s ≡ Some b.0.scopes =
      subst (λ (t : HeldScopes). spec_words_scopes b.0.tree t ≡ Some b.0.scopes) same j.named in
      let spelled = i.spelled ∙ ap (extensions_text a.0.tree) j.spelled in
      let low = one_inside (specs_height b.0.tree) room j.low in
      if_ok (has_auto b.0.tree) b.2 (λ auto e.
      as_decl_sound _ room s ts x (λ d e. assembled all numbered tokens n inner laws goes a.0.tree b.0.tree room s
      b.0.scopes ts b.0.rest d spelled j.fits.0 j.fits.1 stops named low
      (behind_sound all numbered tokens n inner laws a.0.tree b.0.tree room b.0.scopes b.0.rest d j.left e)) e)
      (λ plain e.
      if_ok (is_semicolon (kind_at b.0.rest)) e (λ is e.
      as_decl_sound _ room s ts x (λ d e. assembled all numbered tokens n inner laws goes a.0.tree b.0.tree room s
      b.0.scopes ts b.0.rest d spelled j.fits.0 j.fits.1 stops named low
      (bare_sound all numbered tokens n inner laws a.0.tree b.0.tree room b.0.scopes b.0.rest d plain j.left
      (semicolon_kind (kind_at b.0.rest) is) e)) e) (λ is e.
      if_ok (has_typedef_word (storage_words b.0.tree)) e (λ is e.
      as_decl_sound _ room s ts x (λ d e. assembled all numbered tokens n inner laws goes a.0.tree b.0.tree room s
      b.0.scopes ts b.0.rest d spelled j.fits.0 j.fits.1 stops named low
      (behind_sound all numbered tokens n inner laws a.0.tree b.0.tree room b.0.scopes b.0.rest d j.left e)) e) (λ is e.
      first_declr_sound a.0.tree b.0.tree room s b.0.scopes ts b.0.rest x
      (record {
        spelled = spelled;
        mix = j.fits.0;
        fits = j.fits.1;
        named = named;
        low = low;
        two = two_inside (specs_height b.0.tree) room (specs_high b.0.tree) j.low;
        bare = is;
        plain = plain;
        stops = stops;
      }) j.left e)))

  pub item_sound : (room : ℕ) → IsSound all (item_form all) room (item_with inner room)
  unfolding item_with asm_item_with
  item_sound room s ts x tail e =
      if_ok (is_semicolon (kind_at ts)) e (λ is e.
      let r = fits_ok _ _ _ e in
      let a = bind_ok r.1 in
      let o = took all (kinds.Punct puncts.Semicolon) s ts a.0 tail (semicolon_kind (kind_at ts) is) a.1 in
      at_end (Takes all (item_form all) room s ts) a.2
      (record { spelled = o.spelled; fits = tt; named = ap Some (sym o.same); low = r.0; left = o.left })) (λ is e.
      if_ok (is_asm (kind_at ts)) e (λ is e.
      let r = fits_ok _ _ _ e in
      let a = bind_ok r.1 in
      let b = bind_ok a.2 in
      let c = bind_ok b.2 in
      let o = took all (kinds.Keyword keywords.Asm) s ts a.0 tail (asm_kind (kind_at ts) is) a.1 in
      let i = tokens.group_sound 0 a.0.scopes a.0.rest b.0 o.left b.1 in
      let q =
      took_token all is_semicolon (kinds.Punct puncts.Semicolon) semicolon_kind b.0.scopes b.0.rest c.0 i.left c.1 in
      at_end (Takes all (item_form all) room s ts) c.2 (record {
        spelled =
            o.spelled ∙ ap (keyword_text keywords.Asm a.0.tree) (i.spelled ∙ ap (group_text all b.0.tree) q.spelled);
        fits = i.fits;
        named = ap Some (sym (q.same ∙ some_scopes a.0.scopes b.0.scopes i.named ∙ o.same));
        low = r.0;
        left = q.left;
      })) (λ is e.
      if_ok (is_static_assert (kind_at ts)) e (λ is e.
      let r = fits_ok _ _ _ e in
      let a = bind_ok r.1 in
      let i = tokens.assert_sound room s ts a.0 tail a.1 in
      at_end (Takes all (item_form all) room s ts) a.2
      (record { spelled = i.spelled; fits = i.fits; named = i.named; low = r.0; left = i.left })) (λ is e.
      declared_item_sound room s ts x tail e)))
