-- The constraints of specifiers and declarators are the same whatever stands behind the skeletons of a world.
use Rattle.std.proofs.Common.{◌≡◌, ℕ, suc, Bool, true, false, Option, None, Some, refl, sym, subst}
use Rattle.c_tree.specs.Tree.{SpecWords, no_words, more_words, SpecWord, storage, thread, inline_word, noreturn, qualifier, basic, struct_type, enum_type, typedef_name, attribute, SomeBody, no_body, some_body, StructItems, no_struct_items, more_struct_items, StructItem, member, member_semi, member_assert, MemDeclrs, no_mem_declrs, more_mem_declrs, MemDeclr, named, unnamed, Declr, pointer, declr_name, declr_paren, array, params, abs_pointer, abs_paren, abs_array, abs_params, SomeDeclr, no_declr, some_declr, Params, no_params, more_params, complex_part, label_use, compat, choose, generic, typeof_value, typeof_type, align, auto_word, range_desig, old_desig, case_range, goto_value, block_labels, identifiers, base_name, Assocs, no_assocs, more_assocs, Assoc, typed_assoc, default_assoc}
use Rattle.qual_types.specs.Skel.{Skel}
use Rattle.name_rules.specs.Spellings.{Place, Named}
use Rattle.type_rules.specs.Tokens.{declared_name, is_bare, some_declared_name}
use Rattle.row_rules.specs.Rows.{RowKind, no_row, row_of_name, row_of_param, row_at, param_kind}
use Rattle.row_rules.specs.Starting.{Around, Having, had_name, having_where, with_skeleton, of_function, without_skeleton}
use Rattle.row_rules.specs.Worlds.{World, at, span}
use Rattle.constraint_rules.specs.Starts.{words_starts, word_starts, some_body_starts, struct_items_starts, struct_item_starts, members_starts, mem_declrs_starts, mem_declr_starts, declr_starts, some_declr_starts, params_starts}
use Rattle.constraint_rules.specs.Demands.{unnamed_word_demand, unnamed_demand, words_demand, word_demand, some_body_demand, struct_items_demand, struct_item_demand, members_demand, mem_declrs_demand, mem_declr_demand, declr_demand, some_declr_demand, params_demand}
use Rattle.missing_laws.specs.Everywhere.{NamedHas, UnnamedHas, UnnamedHave, WordsHave, WordHas, SomeBodyHas, StructItemsHave, StructItemHas, MembersHave, MemDeclrsHave, MemDeclrHas, DeclrHas, SomeDeclrHas, ParamsHave}
use Rattle.missing_laws.specs.Finding.{AreFound, FirstIsMet, LinksAreMet, MembersBegin, RoleHasSkeleton, TokenBegins}
use Rattle.missing_laws.proofs.Found.{Further, world, front, back}
use Rattle.missing_laws.proofs.Marks.{joined}
use Rattle.missing_laws.proofs.Rows.{around, formed_same, found_same, param_same, row_same}

-- names of declarators have skeletons
abbrev Has : Having → Type 0
Has with_skeleton = Unit {0}
Has (of_function f) = Unit {0}
Has without_skeleton = ⊥

-- a row needs the skeleton of the name
abbrev pub RowFits : RowKind → Having → Type 0
RowFits no_row h = Unit {0}
RowFits row_of_name h = Has h
RowFits (row_of_param own i) h = Has h

abbrev pub OwnFits : Option Skel → Having → Type 0
OwnFits None h = Unit {0}
OwnFits (Some own) h = Has h

-- a parameter's row has the skeleton that it needs, where the function's own name has one
param_fits : (own : Option Skel) (bare : Bool) (h : Having) (i : ℕ) → OwnFits own h →
    RowFits (param_kind own bare i) (having_where bare h)
param_fits None bare h i fits = tt
param_fits (Some own) true h i fits = fits
param_fits (Some own) false h i fits = tt

module _ (w : World) (members : MembersBegin w) (links : LinksAreMet w) (k l : Further) (q : Bool)
    (f : Option Place) where
  abbrev wk : World
  wk = world w k

  abbrev wl : World
  wl = world w l

  abbrev a : Around
  a = around w q f

  abbrev U : ℕ → Type 0
  U token = TokenBegins w token

  abbrev V : ℕ → Type 0
  V token = FirstIsMet w token

  abbrev W : ℕ → Type 0
  W token = RoleHasSkeleton w token

  -- a name has a row of names where the first declaration of what it declares is met, and one of parameters where it
  -- has a skeleton
  abbrev pub RowMet : RowKind → Option Named → Type 0
  RowMet row_of_name it = NamedHas V it
  RowMet no_row it = Unit {0}
  RowMet (row_of_param own i) it = NamedHas W it

  params_met : (own : Option Skel) (bare : Bool) (i : ℕ) (it : Option Named) → NamedHas W it →
      RowMet (param_kind own bare i) it
  params_met None bare i it h = tt
  params_met (Some own) true i it h = h
  params_met (Some own) false i it h = tt

  name_row_is : (row : RowKind) (h : Having) (token name : ℕ) → RowFits row h →
      RowMet row (Some (record { token = token; name = name })) → AreFound w (had_name h a token) →
      row_at wk row token ≡ row_at wl row token
  name_row_is no_row h token name fits met found = refl
  name_row_is row_of_name with_skeleton token name fits met found = row_same w members k l links q f token met found
  name_row_is row_of_name (of_function g) token name fits met found = row_same w members k l links q g token met found
  name_row_is row_of_name without_skeleton token name fits met found = absurd fits
  name_row_is (row_of_param own i) with_skeleton token name fits met found =
      param_same w members k l q f own i token met found
  name_row_is (row_of_param own i) (of_function g) token name fits met found =
      param_same w members k l q g own i token met found
  name_row_is (row_of_param own i) without_skeleton token name fits met found = absurd fits

  unnamed_is : (word : SpecWord) → UnnamedHas U V W word → unnamed_word_demand wk word ≡ unnamed_word_demand wl word
  unnamed_is (struct_type word attrs None body) h = formed_same w members k l
      (span w word.token word.token) _ _ (found_same w members k l (at w word.token) h.0 h.1)
  unnamed_is (struct_type word attrs (Some tag) body) h = refl
  unnamed_is (storage word) h = refl
  unnamed_is (thread token) h = refl
  unnamed_is (inline_word token) h = refl
  unnamed_is (noreturn token) h = refl
  unnamed_is (qualifier it) h = refl
  unnamed_is (basic word) h = refl
  unnamed_is (enum_type e) h = refl
  unnamed_is (typedef_name name) h = refl
  unnamed_is (attribute attr) h = refl
  unnamed_is (typeof_value keyword opening e closing) h = refl
  unnamed_is (typeof_type word opening ws d closing) h = refl
  unnamed_is (align attr) h = refl
  unnamed_is (auto_word token) h = refl

  all_unnamed_is : (ws : SpecWords) → UnnamedHave U V W ws → unnamed_demand wk ws ≡ unnamed_demand wl ws
  all_unnamed_is no_words h = refl
  all_unnamed_is (more_words word ws) h = joined _ _ _ _ (unnamed_is word h.0) (all_unnamed_is ws h.1)

  mutual
    pub words_is : (ws : SpecWords) → WordsHave U V W ws → AreFound w (words_starts a ws) →
        words_demand wk ws ≡ words_demand wl ws
    words_is no_words h found = refl
    words_is (more_words word ws) h found = joined _ _ _ _ (word_is word h.0 (front w (word_starts a word) _ found))
        (words_is ws h.1 (back w (word_starts a word) _ found))

    word_is : (word : SpecWord) → WordHas U V W word → AreFound w (word_starts a word) →
        word_demand wk word ≡ word_demand wl word
    word_is (struct_type word attrs tag body) h found = body_is body h found
    word_is (storage word) h found = refl
    word_is (thread token) h found = refl
    word_is (inline_word token) h found = refl
    word_is (noreturn token) h found = refl
    word_is (qualifier it) h found = refl
    word_is (basic word) h found = refl
    word_is (enum_type e) h found = refl
    word_is (typedef_name name) h found = refl
    word_is (attribute attr) h found = refl
    word_is (typeof_value keyword opening e closing) h found = refl
    word_is (typeof_type word opening ws d closing) h found = joined _ _ _ _
        (words_is ws h.1.0 (front w (words_starts a ws) _ found))
        (some_declr_is row_of_name with_skeleton d tt (subst (λ (it : Option Named). NamedHas V it) (sym h.0) tt) h.1.1
        (back w (words_starts a ws) _ found))
    word_is (align attr) h found = refl
    word_is (auto_word token) h found = refl

    body_is : (body : SomeBody) → SomeBodyHas U V W body → AreFound w (some_body_starts a body) →
        some_body_demand wk body ≡ some_body_demand wl body
    body_is no_body h found = refl
    body_is (some_body opening items closing) h found = struct_items_is items h found

    struct_items_is : (items : StructItems) → StructItemsHave U V W items → AreFound w (struct_items_starts a items) →
        struct_items_demand wk items ≡ struct_items_demand wl items
    struct_items_is no_struct_items h found = refl
    struct_items_is (more_struct_items item items) h found = joined _ _ _ _
        (struct_item_is item h.0 (front w (struct_item_starts a item) _ found))
        (struct_items_is items h.1 (back w (struct_item_starts a item) _ found))

    struct_item_is : (item : StructItem) → StructItemHas U V W item → AreFound w (struct_item_starts a item) →
        struct_item_demand wk item ≡ struct_item_demand wl item
    struct_item_is (member exts ws ds semi) h found =
        joined _ _ _ _ (words_is ws h.0 (front w (words_starts a ws) _ found))
        (members_is ws ds h.1 (back w (words_starts a ws) _ found))
    struct_item_is (member_semi semi) h found = refl
    struct_item_is (member_assert it) h found = refl

    members_is : (ws : SpecWords) (ds : MemDeclrs) → MembersHave U V W ws ds → AreFound w (members_starts a ws ds) →
        members_demand wk ws ds ≡ members_demand wl ws ds
    members_is ws no_mem_declrs h found = all_unnamed_is ws h
    members_is ws (more_mem_declrs attrs d ds) h found = joined _ _ _ _
        (mem_declr_is d h.0 (front w (mem_declr_starts a d) _ found))
        (mem_declrs_is ds h.1 (back w (mem_declr_starts a d) _ found))

    mem_declrs_is : (ds : MemDeclrs) → MemDeclrsHave U V W ds → AreFound w (mem_declrs_starts a ds) →
        mem_declrs_demand wk ds ≡ mem_declrs_demand wl ds
    mem_declrs_is no_mem_declrs h found = refl
    mem_declrs_is (more_mem_declrs attrs d ds) h found = joined _ _ _ _
        (mem_declr_is d h.0 (front w (mem_declr_starts a d) _ found))
        (mem_declrs_is ds h.1 (back w (mem_declr_starts a d) _ found))

    mem_declr_is : (d : MemDeclr) → MemDeclrHas U V W d → AreFound w (mem_declr_starts a d) →
        mem_declr_demand wk d ≡ mem_declr_demand wl d
    mem_declr_is (named d width attrs) h found =
        declr_is row_of_name None with_skeleton without_skeleton d tt tt h.0 h.1
        (front w (declr_starts a _ _ d) _ found)
    mem_declr_is (unnamed colon e attrs) h found = refl

    pub declr_is : (row : RowKind) (own : Option Skel) (h own_has : Having) (d : Declr) → RowFits row h →
        OwnFits own own_has → RowMet row (declared_name d) → DeclrHas U V W d
        → AreFound w (declr_starts a h own_has d) →
        declr_demand wk row own d ≡ declr_demand wl row own d
    declr_is row own h g (pointer star words d) fits its met has found = declr_is row own h g d fits its met has found
    declr_is row own h g (declr_name token name) fits its met has found = name_row_is row h token name fits met found
    declr_is row own h g (declr_paren opening attrs d closing) fits its met has found =
        declr_is row own h g d fits its met has found
    declr_is row own h g (array d opening words size closing) fits its met has found =
        declr_is row own h g d fits its met has (front w (declr_starts a h g d) _ found)
    declr_is row own h g (params d opening ps dots closing) fits its met has found = joined _ _ _ _
        (declr_is row own h g d fits its met has.0 (front w (declr_starts a h g d) _ found))
        (params_is own (is_bare d) (having_where (is_bare d) g) 0 ps (λ i. param_fits own (is_bare d) g i its) has.1
        (back w (declr_starts a h g d) _ found))
    declr_is row own h g (identifiers d opening names closing) fits its met has found =
        declr_is row own h g d fits its met has found
    declr_is row own h g (base_name token) fits its met has found = refl
    declr_is row own h g (abs_pointer star words d) fits its met has found = some_declr_is row h d fits met has found
    declr_is row own h g (abs_paren opening attrs d closing) fits its met has found =
        declr_is row own h g d fits its met has found
    declr_is row own h g (abs_array d opening words size closing) fits its met has found =
        some_declr_is row h d fits met has (front w (some_declr_starts a h d) _ found)
    declr_is row own h g (abs_params d opening ps dots closing) fits its met has found = joined _ _ _ _
        (some_declr_is row h d fits met has.0 (front w (some_declr_starts a h d) _ found))
        (params_is None false without_skeleton 0 ps (λ i. tt) has.1
        (back w (some_declr_starts a h d) _ found))

    pub some_declr_is : (row : RowKind) (h : Having) (d : SomeDeclr) → RowFits row h
        → RowMet row (some_declared_name d) →
        SomeDeclrHas U V W d →
        AreFound w (some_declr_starts a h d) → some_declr_demand wk row d ≡ some_declr_demand wl row d
    some_declr_is row h no_declr fits met has found = refl
    some_declr_is row h (some_declr d) fits met has found = declr_is row None h without_skeleton d fits tt met has found

    pub params_is : (own : Option Skel) (bare : Bool) (h : Having) (i : ℕ) (ps : Params) →
        ((i : ℕ) → RowFits (param_kind own bare i) h) → ParamsHave U V W ps → AreFound w (params_starts a h ps) →
        params_demand wk own bare i ps ≡ params_demand wl own bare i ps
    params_is own bare h i no_params fits has found = refl
    params_is own bare h i (more_params ws d attrs ps) fits has found =
        let behind = back w (words_starts a ws) _ found in
        joined _ _ _ _ (words_is ws has.1.0 (front w (words_starts a ws) _ found)) (joined _ _ _ _
        (some_declr_is (param_kind own bare i) h d (fits i)
        (params_met own bare i (some_declared_name d) has.0) has.1.1.0
        (front w (some_declr_starts a h d) _ behind))
        (params_is own bare h (suc i) ps fits has.1.1.1 (back w (some_declr_starts a h d) _ behind)))
