-- What each unit of an accepted program looks up is there.
use Rattle.std.proofs.Common.{◌≡◌, ℕ, true, false, All, List, [], ◌∷◌, ◌++◌, Option, None, Some, refl, sym, subst, ◌∙◌, append_assoc}
use Rattle.std.proofs.lemmas.List.Elements.{All-head, All-tail}
use Rattle.c_tree.specs.declared.lexeme.Lexeme.{Lexeme}
use Rattle.c_tree.specs.Tree.{Expr, SpecWords, Declr, BlockItems, complex_part, label_use, compat, choose, generic, typeof_value, typeof_type, align, auto_word, range_desig, old_desig, case_range, goto_value, block_labels, identifiers, base_name, Assocs, no_assocs, more_assocs, Assoc, typed_assoc, default_assoc, Declaration, declr_name, declr_paren, array, params, abs_pointer, abs_paren, abs_array, abs_params}
use Rattle.c_tree.specs.Tree as trees
use Rattle.c_tree.specs.Unit.{IsItem, Item, function_item, decl_item, asm_item, semi_item, old_function_item}
use Rattle.type_table.specs.Types.{base}
use Rattle.name_rules.specs.Spellings.{Named, Place, Spelling, place}
use Rattle.name_rules.specs.Scopes.{Names}
use Rattle.name_rules.specs.Linking.{body_faults}
use Rattle.name_rules.specs.Units.{no_names, unit_begun}
use Rattle.type_rules.specs.Tokens.{declared_name}
use Rattle.type_rules.specs.Naming.{said_words, function_by, item_named, items_named, old_function_by, words_named}
use Rattle.type_rules.specs.Judging.{items_faults_of}
use Rattle.type_rules.specs.Program.{HasNoFault, Source, judged, names_of, sources_named}
use Rattle.c_tree.specs.WellFormed.{AreBlockItems, AreSpecWords, IsDeclr, IsDeclaration, lists_identifiers}
use Rattle.row_rules.specs.Annotations.{has_access}
use Rattle.row_rules.specs.Starting.{Selection, Start, declared_function, of_function, with_skeleton, name_start, without_skeleton}
use Rattle.row_rules.specs.Worlds.{World}
use Rattle.constraint_rules.specs.Starts.{block_items_starts, declr_starts, item_starts, items_starts, words_starts, old_declr_starts}
use Rattle.constraint_rules.specs.Selections.{block_items_selections, declr_selections, item_selections, items_selections, words_selections, old_declr_selections}
use Rattle.constraint_rules.specs.Systems.{Program, selections_among, starts_among, starts_of, world_of}
use Rattle.first_laws.specs.Firsts.{FirstsHaveSkeletons}
use Rattle.missing_laws.specs.Everywhere.{BlockItemsHave, DeclrHas, ItemHas, ItemsHave, NamedHas, WordsHave, OldDeclrHas}
use Rattle.missing_laws.specs.Finding.{AreFound, FirstIsMet, IsSettled, RoleHasSkeleton, TokenBegins, loud}
use Rattle.missing_laws.specs.Programs.{AreFormed, EachHasSkeletons, EachMissesNothing, EachSettled, IsAccepted, PlacesDiffer}
use Rattle.missing_laws.proofs.Chosen.{AreChosen, first_chosen, last_chosen}
use Rattle.name_rules.specs.Declaring.{linked}
use Rattle.type_rules.proofs.Named.{listing_name, round_name}
use Rattle.missing_laws.proofs.Olds.{old_declr_ok}
use Rattle.missing_laws.proofs.Found.{front, back}
use Rattle.missing_laws.proofs.Types.{first_none, last_none}
use Rattle.missing_laws.proofs.Typing.{items_typed_of}
use Rattle.missing_laws.proofs.Items.{missing_nothing}
use Rattle.missing_laws.proofs.Having.{items_have}
use Rattle.missing_laws.proofs.Parts.{name_found}
use Rattle.missing_laws.proofs.Growth.{Grows, stays, joins, sized_grows, thing_grows, entered_grows, left_grows, unit_grows}
use Rattle.missing_laws.proofs.Growing.{block_items_grow, declr_grows, items_grow, old_declr_grows}
use Rattle.missing_laws.proofs.Meant.{AreWell, Good, good_entered, good_left, good_none, good_sized, good_unit, members_begin, thing_good}
use Rattle.missing_laws.proofs.Links.{links_met}
use Rattle.missing_laws.proofs.Uses.{UsesDiffer}
use Rattle.missing_laws.proofs.Settling.{block_items_ok, decl_ok, declr_ok, words_ok}
use Rattle.missing_laws.proofs.Places.{all_chosen, all_found, declared_differ, uses_differ}

some_named : (it name : Named) → Some it ≡ Some name → it ≡ name
some_named it name e = cc

module _ (w : World) (well : AreWell w.names.declared) (uses : UsesDiffer w.names.uses)
    (clean : w.names.faults ≡ []) (all : List Lexeme) where
  abbrev u : Spelling
  u = w.spelling

  abbrev U : ℕ → Type 0
  U token = TokenBegins w token

  abbrev V : ℕ → Type 0
  V token = FirstIsMet w token

  abbrev W : ℕ → Type 0
  W token = RoleHasSkeleton w token

  abbrev P : Expr → Type 0
  P e = IsSettled w e

  abbrev G : Names → Type 0
  G s = Good w well (true ∷ []) s

  function_ok : (ws : SpecWords) (d : Declr) (items : BlockItems) (f : Option Place) (o : Option Named) (s : Names) →
      declared_name d ≡ o → ((it : Named) × (declared_name d ≡ Some it)) → AreBlockItems all items →
      AreFound w (words_starts (loud w None) ws)
      → AreFound w (declr_starts (loud w None) with_skeleton (of_function f) d) →
      AreChosen w (block_items_selections u w.names items) → IsDeclr all d → AreSpecWords all ws →
      AreFound w (block_items_starts (loud w f) items) → Grows (function_by u o ws d items s) w.names → G s →
      G (function_by u o ws d items s)
      × (NamedHas U o × (NamedHas V o × (WordsHave U V W ws × (DeclrHas U V W d × BlockItemsHave P U V W items))))
  function_ok ws d items f None s e some wf fw fd ch df wfw fi g h = absurd (never (sym e ∙ some.1))
    where
      never : None ≡ Some some.0 → ⊥
      never e = absurd cc
  function_ok ws d items f (Some it) s e some wf fw fd ch df wfw fi g h =
      let gl = joins (left_grows _) g in
      let gt = joins (entered_grows (place u it.token) _ _ _ _) (joins (block_items_grow u items _) gl) in
      let gd = joins (sized_grows (place u it.token) _ _)
      (joins (thing_grows (said_words ws) (place u it.token) (u.key it.name) _ _) gt) in
      let one = words_ok w well uses clean all None false false ws (base []) [] true [] s wfw fw
      (joins (declr_grows u _ d _) gd) h in
      let two =
      declr_ok w well uses clean all None false _ with_skeleton (of_function f) d true [] _ tt df fd gd one.0 in
      let three = thing_good w well false None true [] (said_words ws) it.token (u.key it.name) _ _ gt
      (name_found w (loud w None) with_skeleton (of_function f) d it e fd)
      (good_sized w well (true ∷ []) (place u it.token) _ _ two.0) in
      let four =
      block_items_ok w well uses clean all f false false items (true ∷ []) _ (λ is. (refl, tt)) wf (λ is. ch) fi gl
      (good_entered w well (place u it.token) _ _ _ _ three.0) in
      (good_left w well true (true ∷ []) _ four.0, (three.1.1, (three.1.0, (one.1, (two.1, four.1 refl)))))

  abbrev named_or : Option Named → ℕ
  named_or None = 0
  named_or (Some it) = it.token

  -- the name of a function with a list of identifiers has a skeleton
  old_name_found : (f : Option Place) (ds : List Declaration) (d : Declr)
      → ((it : Named) × (declared_name d ≡ Some it)) →
      IsDeclr all d → lists_identifiers d ≡ true → AreFound w (old_declr_starts (loud w None) (of_function f) ds d) →
      AreFound w (name_start (loud w None) (named_or (declared_name d)))
  old_name_found f ds (identifiers d opening names closing) some wf e found =
      subst (λ (o : Option Named). AreFound w (name_start (loud w None) (named_or o))) (sym some.1)
      (name_found w (loud w None) with_skeleton without_skeleton d some.0 some.1
      (front w (declr_starts (loud w None) with_skeleton without_skeleton d) _ found))
  old_name_found f ds (trees.pointer star words d) some wf e found = old_name_found f ds d some wf.1 e found
  old_name_found f ds (declr_paren opening attrs d closing) some wf e found = old_name_found f ds d some wf.1 e found
  old_name_found f ds (array d opening words size closing) some wf e found =
      old_name_found f ds d some wf.0 e (front w (old_declr_starts (loud w None) (of_function f) ds d) _ found)
  old_name_found f ds (params d opening ps dots closing) some wf e found =
      old_name_found f ds d some wf.0 e (front w (old_declr_starts (loud w None) (of_function f) ds d) _ found)
  old_name_found f ds (declr_name token name) some wf e found = absurd cc
  old_name_found f ds (base_name token) some wf e found = absurd cc
  old_name_found f ds (abs_pointer star words d) some wf e found = absurd cc
  old_name_found f ds (abs_paren opening attrs d closing) some wf e found = absurd cc
  old_name_found f ds (abs_array d opening words size closing) some wf e found = absurd cc
  old_name_found f ds (abs_params d opening ps dots closing) some wf e found = absurd cc

  old_function_ok : (ws : SpecWords) (d : Declr) (ds : List Declaration) (items : BlockItems) (f : Option Place)
      (o : Option Named) (s : Names) → declared_name d ≡ o → ((it : Named) × (declared_name d ≡ Some it)) →
      AreSpecWords all ws → IsDeclr all d → All (IsDeclaration all) ds → AreBlockItems all items →
      AreChosen w (old_declr_selections u w.names ds d) → AreChosen w (block_items_selections u w.names items) →
      AreFound w (words_starts (loud w None) ws) → AreFound w (old_declr_starts (loud w None) (of_function f) ds d) →
      AreFound w (block_items_starts (loud w f) items)
      → AreFound w (name_start (loud w None) (named_or (declared_name d))) →
      Grows (old_function_by u o ws d ds items s) w.names → G s →
      G (old_function_by u o ws d ds items s)
      × (NamedHas U o
      × (NamedHas V o × (WordsHave U V W ws × (OldDeclrHas P U V W ds d × BlockItemsHave P U V W items))))
  old_function_ok ws d ds items f None s e some wfw wfd wfs wfi chd chi fw fd fi fn g h =
      absurd (never (sym e ∙ some.1))
    where
      never : None ≡ Some some.0 → ⊥
      never e = absurd cc
  old_function_ok ws d ds items f (Some it) s e some wfw wfd wfs wfi chd chi fw fd fi fn g h =
      let own = linked (u.key it.name) (place u it.token) (words_named u false ws (base []) [] s).names in
      let gl = joins (left_grows _) g in
      let gt = joins (entered_grows (place u it.token) _ _ _ _) (joins (block_items_grow u items _) gl) in
      let gd = joins (sized_grows (place u it.token) _ _)
      (joins (thing_grows (said_words ws) (place u it.token) (u.key it.name) _ _) gt) in
      let one = words_ok w well uses clean all None false false ws (base []) [] true [] s wfw fw
      (joins (old_declr_grows u (Some own) ds d _) gd) h in
      let two = old_declr_ok w well uses clean all own f ds d true [] _ (refl, tt) wfs wfd chd fd gd one.0 in
      let three = thing_good w well false None true [] (said_words ws) it.token (u.key it.name) _ _ gt
      (subst (λ (o : Option Named). AreFound w (name_start (loud w None) (named_or o))) e fn)
      (good_sized w well (true ∷ []) (place u it.token) _ _ two.0) in
      let four =
      block_items_ok w well uses clean all f false false items (true ∷ []) _ (λ is. (refl, tt)) wfi (λ is. chi) fi gl
      (good_entered w well (place u it.token) _ _ _ _ three.0) in
      (good_left w well true (true ∷ []) _ four.0, (three.1.1, (three.1.0, (one.1, (two.1, four.1 refl)))))

  item_ok : (item : Item) (s : Names) → IsItem all item → AreChosen w (item_selections u w.names item)
      → AreFound w (item_starts (has_access w.lattices) u w.names item) →
      Grows (item_named u item s) w.names → G s → G (item_named u item s) × ItemHas P U V W item
  item_ok (function_item exts ws d attrs opening items closing) s wf ch found g h =
      let f = declared_function u w.names (declared_name d) in
      let behind = back w (words_starts (loud w None) ws) _ found in
      function_ok ws d items f (declared_name d) s refl (round_name d false wf.5) wf.7
      (front w (words_starts (loud w None) ws) _ found)
      (front w (declr_starts (loud w None) with_skeleton (of_function f) d) _ behind)
      (last_chosen w (declr_selections u w.names d) _ (last_chosen w (words_selections u w.names ws) _ ch)) wf.4 wf.1
      (back w (declr_starts (loud w None) with_skeleton (of_function f) d) _ behind) g h
  item_ok (old_function_item exts ws d attrs ds opening items closing) s wf ch found g h =
      let f = declared_function u w.names (declared_name d) in
      let behind = back w (words_starts (loud w None) ws) _ found in
      let those = last_chosen w (words_selections u w.names ws) _ ch in
      let fd = front w (old_declr_starts (loud w None) (of_function f) ds d) _ behind in
      old_function_ok ws d ds items f (declared_name d) s refl (listing_name all d wf.4 wf.5) wf.1 wf.4 wf.7 wf.8
      (first_chosen w (old_declr_selections u w.names ds d) _ those)
      (last_chosen w (old_declr_selections u w.names ds d) _ those)
      (front w (words_starts (loud w None) ws) _ found) fd
      (back w (old_declr_starts (loud w None) (of_function f) ds d) _ behind)
      (old_name_found f ds d (listing_name all d wf.4 wf.5) wf.4 wf.5 fd) g h
  item_ok (decl_item d) s wf ch found g h =
      let one = decl_ok w well uses clean all None false false d [] s (λ is. tt) wf (λ is. ch) found g h in
      (one.0, one.1 refl)
  item_ok (asm_item keyword group semi) s wf ch found g h = (h, tt)
  item_ok (semi_item semi) s wf ch found g h = (h, tt)

  pub items_ok : (items : List Item) (s : Names) → All (IsItem all) items →
      AreChosen w (items_selections u w.names items)
      → AreFound w (items_starts (has_access w.lattices) u w.names items) →
      Grows (items_named u items s) w.names → G s → G (items_named u items s) × ItemsHave P U V W items
  items_ok [] s wf ch found g h = (h, tt)
  items_ok (item ∷ items) s wf ch found g h =
      let one = item_ok item s (All-head (IsItem all) item items wf)
      (first_chosen w (item_selections u w.names item) _ ch)
      (front w (item_starts (has_access w.lattices) u w.names item) _ found)
      (joins (items_grow u items _) g) h in
      let two =
      items_ok items _ (All-tail (IsItem all) item items wf) (last_chosen w (item_selections u w.names item) _ ch)
      (back w (item_starts (has_access w.lattices) u w.names item) _ found) g one.0 in
      (two.0, (one.1, two.1))

-- the names of sources are added to those before
sources_grow : (sources : List Source) (s : Names) → Grows s (sources_named sources s)
sources_grow [] s = stays s
sources_grow (it ∷ sources) s =
    joins (unit_grows it.spelling.unit s) (joins (items_grow it.spelling it.items _) (sources_grow sources _))

module _ (p : Program) (formed : AreFormed p.sources) (no_fault : HasNoFault p.sources)
    (places : PlacesDiffer p.sources) (firsts : FirstsHaveSkeletons (names_of p.sources).declared) where
  abbrev S : Names
  S = names_of p.sources

  well : AreWell S.declared
  well = record { differ = declared_differ S.declared places.declared; firsts = firsts }

  uses : UsesDiffer S.uses
  uses = uses_differ S.uses places.uses

  clean : S.faults ≡ []
  clean = first_none S.faults (body_faults S ++ judged p.sources S) no_fault

  -- names are good for each unit alike
  abbrev GoodFor : Source → Names → Type 0
  GoodFor it s = Good (world_of p it) well (true ∷ []) s

  moved : (it other : Source) (s : Names) → GoodFor it s → GoodFor other s
  moved it other s h = record {
    scopes = h.scopes;
    things = h.things;
    round = h.round;
    kept = h.kept;
    members = h.members;
  }

  found_of : (xs : List Start) (it : Source) (sources : List Source) →
      starts_of (has_access p.lattices) p.sources
      ≡ xs ++ (items_starts (has_access p.lattices) it.spelling S it.items
      ++ starts_among (has_access p.lattices) S sources) →
      AreFound (world_of p it) (items_starts (has_access p.lattices) it.spelling S it.items)
  found_of xs it sources e = all_found (world_of p it) (starts_of (has_access p.lattices) p.sources) refl refl
      (places.starts (has_access p.lattices)) xs
      (items_starts (has_access p.lattices) it.spelling S it.items) (starts_among (has_access p.lattices) S sources) e

  chosen_of : (xs : List Selection) (it : Source) (sources : List Source) →
      selections_among S p.sources ≡ xs ++ (items_selections it.spelling S it.items ++ selections_among S sources) →
      AreChosen (world_of p it) (items_selections it.spelling S it.items)
  chosen_of xs it sources e =
      all_chosen (world_of p it) (selections_among S p.sources) (λ at n. refl) places.selections xs
      (items_selections it.spelling S it.items) (selections_among S sources) e

  -- each unit's items, and good names behind all
  abbrev EachHas : List Source → Type 0
  EachHas [] = Unit {0}
  EachHas (it ∷ sources) =
      ItemsHave (IsSettled (world_of p it)) (TokenBegins (world_of p it)) (FirstIsMet (world_of p it))
      (RoleHasSkeleton (world_of p it)) it.items
      × EachHas sources

  run : (sources : List Source) (last : Source) (xs : List Start) (ys : List Selection) (s : Names)
      → AreFormed sources →
      starts_of (has_access p.lattices) p.sources ≡ xs ++ starts_among (has_access p.lattices) S sources →
      selections_among S p.sources ≡ ys ++ selections_among S sources → sources_named sources s ≡ S → GoodFor last s →
      GoodFor last S × EachHas sources
  run [] last xs ys s wf e e2 is h = (subst (GoodFor last) is h, tt)
  run (it ∷ sources) last xs ys s wf e e2 is h =
      let w = world_of p it in
      let next = items_named it.spelling it.items (unit_begun it.spelling.unit s) in
      let grown = subst (Grows next) is (sources_grow sources next) in
      let one = items_ok w well uses clean wf.0.0 it.items (unit_begun it.spelling.unit s) wf.0.1.parts
      (chosen_of ys it sources e2) (found_of xs it sources e) grown
      (good_unit w well it.spelling.unit s (moved last it s h)) in
      let two = run sources last (xs ++ items_starts (has_access p.lattices) it.spelling S it.items)
      (ys ++ items_selections it.spelling S it.items) next wf.1
      (e ∙ sym (append_assoc xs (items_starts (has_access p.lattices) it.spelling S it.items)
      (starts_among (has_access p.lattices) S sources)))
      (e2 ∙ sym (append_assoc ys (items_selections it.spelling S it.items) (selections_among S sources))) is
      (moved it last next one.0) in
      (two.0, (one.1, two.1))

  settle : (last : Source) (sources : List Source) (xs : List Start) →
      starts_of (has_access p.lattices) p.sources ≡ xs ++ starts_among (has_access p.lattices) S sources
      → judged sources S ≡ [] → EachHas sources → GoodFor last S →
      EachSettled p sources
  settle last [] xs e none has h = tt
  settle last (it ∷ sources) xs e none has h = (
    record {
      clean = first_none (items_faults_of it.spelling S it.items) _ none;
      settled = has.0;
      starts = found_of xs it sources e;
      members = members_begin (world_of p it) well (moved last it S h).members;
      links = links_met (world_of p it) well (moved last it S h).things (moved last it S h).members;
    },
    settle last sources (xs ++ items_starts (has_access p.lattices) it.spelling S it.items)
        (e ∙ sym (append_assoc xs (items_starts (has_access p.lattices) it.spelling S it.items)
        (starts_among (has_access p.lattices) S sources)))
        (last_none (items_faults_of it.spelling S it.items) _ none) has.1 h,
  )

  whole : (sources : List Source) → p.sources ≡ sources → EachSettled p p.sources
  whole [] e = subst (EachSettled p) (sym e) tt
  whole (it ∷ sources) e =
      let done = run p.sources it [] [] no_names formed refl refl refl (good_none (world_of p it) well) in
      settle it p.sources [] refl (last_none (body_faults S) (judged p.sources S)
      (last_none S.faults (body_faults S ++ judged p.sources S) no_fault)) done.1 done.0

pub programs_are_settled : (p : Program) → IsAccepted p → EachSettled p p.sources
programs_are_settled p h = whole p h.0 h.1 h.2 h.3 p.sources refl

-- where each source of a program is settled, each expression of them has its skeleton
each_has : (p : Program) (sources : List Source) → EachSettled p sources → EachHasSkeletons p sources
each_has p [] h = tt
each_has p (it ∷ sources) h =
    let w = world_of p it in (
      items_have w h.0.members it.items h.0.settled
          (items_typed_of w (TokenBegins w) (FirstIsMet w)
          (RoleHasSkeleton w) it.items h.0.settled h.0.clean) h.0.starts,
      each_has p sources h.1,
    )

pub programs_have_skeletons : (p : Program) → IsAccepted p → EachHasSkeletons p p.sources
programs_have_skeletons p h = each_has p p.sources (programs_are_settled p h)

-- where each source of a program is settled, no constraint of them stands on what is missing
each_misses : (p : Program) (sources : List Source) → EachSettled p sources → EachMissesNothing p sources
each_misses p [] h = tt
each_misses p (it ∷ sources) h =
    let w = world_of p it in (
      missing_nothing w it.items h.0.members h.0.links h.0.settled
          (items_typed_of w (TokenBegins w) (FirstIsMet w)
          (RoleHasSkeleton w) it.items h.0.settled h.0.clean) h.0.starts,
      each_misses p sources h.1,
    )

pub programs_miss_nothing : (p : Program) → IsAccepted p → EachMissesNothing p p.sources
programs_miss_nothing p h = each_misses p p.sources (programs_are_settled p h)
