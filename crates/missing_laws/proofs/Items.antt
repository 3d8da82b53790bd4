-- The constraints of items are the same whatever stands behind the skeletons and call sites of a world.
use Rattle.std.proofs.Common.{◌≡◌, ℕ, false, List, [], ◌∷◌, ◌++◌, Option, None, Some, refl, ap, ◌∙◌}
use Rattle.std.proofs.lemmas.List.{append-nil}
use Rattle.c_tree.specs.Tree.{Expr, SpecWords, Declr, BlockItems, complex_part, label_use, compat, choose, generic, typeof_value, typeof_type, align, auto_word, range_desig, old_desig, case_range, goto_value, block_labels, identifiers, base_name, Assocs, no_assocs, more_assocs, Assoc, typed_assoc, default_assoc}
use Rattle.c_tree.specs.Unit.{Item, function_item, old_function_item, decl_item, asm_item, semi_item}
use Rattle.qual_types.specs.Skel.{Skel}
use Rattle.name_rules.specs.Spellings.{Place, Named}
use Rattle.type_rules.specs.Tokens.{declared_name}
use Rattle.row_rules.specs.Annotations.{has_access}
use Rattle.row_rules.specs.Rows.{own_skeleton, row_of_name}
use Rattle.row_rules.specs.Starting.{declared_function, of_function, with_skeleton}
use Rattle.row_rules.specs.Vals.{contents}
use Rattle.row_rules.specs.Worlds.{World, Numbered, at}
use Rattle.constraint_rules.specs.Starts.{old_declr_starts, words_starts, declr_starts, item_starts, items_starts}
use Rattle.constraint_rules.specs.Demands.{block_items_demand, declr_demand, item_demand, items_demand, words_demand}
use Rattle.missing_laws.specs.Everywhere.{NamedHas, ItemHas, ItemsHave}
use Rattle.missing_laws.specs.Finding.{AreFound, HasType, FirstIsMet, IsSettled, LinksAreMet, MembersBegin, RoleHasSkeleton, TokenBegins, loud, more}
use Rattle.missing_laws.proofs.Found.{Further, world, front, back}
use Rattle.missing_laws.proofs.Marks.{ap2, joined}
use Rattle.missing_laws.proofs.Rows.{found_same}
use Rattle.missing_laws.proofs.Declaring.{OwnFits, declr_is, words_is}
use Rattle.missing_laws.proofs.Demands.{old_declr_is, block_items_is, decl_is}

module _ (w : World) (members : MembersBegin w) (links : LinksAreMet w) (k l : Further) (same_own : k.2 ≡ l.2) where
  abbrev U : ℕ → Type 0
  U token = TokenBegins w token

  abbrev pub V : ℕ → Type 0
  V token = FirstIsMet w token

  abbrev pub W : ℕ → Type 0
  W token = RoleHasSkeleton w token

  abbrev P : Expr → Type 0
  P e = IsSettled w e

  abbrev T : Expr → Type 0
  T e = HasType w e

  own_is : (o : Option Named) → NamedHas U o → own_skeleton (world w k) o ≡ own_skeleton (world w l) o
  own_is None h = refl
  own_is (Some it) h = ap (λ s. Some (contents s)) (found_same w members k l (at w it.token) h.0 h.1)

  own_fits : (o : Option Skel) (f : Option Place) → OwnFits o (of_function f)
  own_fits None f = tt
  own_fits (Some s) f = tt

  function_is : (ws : SpecWords) (d : Declr) (items : BlockItems) (f : Option Place) (c e : Option Skel) → c ≡ e →
      words_demand (world w k) ws ≡ words_demand (world w l) ws →
      declr_demand (world w k) row_of_name c d ≡ declr_demand (world w l) row_of_name c d →
      block_items_demand (record (world w k) { own = c }) items
      ≡ block_items_demand (record (world w l) { own = e }) items →
      words_demand (world w k) ws ++ (declr_demand (world w k) row_of_name c d
      ++ block_items_demand (record (world w k) { own = c }) items)
      ≡ words_demand (world w l) ws ++ (declr_demand (world w l) row_of_name e d
      ++ block_items_demand (record (world w l) { own = e }) items)
  function_is ws d items f c e same p q r = joined _ _ _ _ p (joined _ _ _ _
      (q ∙ ap (λ o. declr_demand (world w l) row_of_name o d) same) r)

  item_is : (item : Item) → ItemHas P U V W item → ItemHas T U V W item
      → AreFound w (item_starts (has_access w.lattices) w.spelling w.names item) →
      item_demand (world w k) item ≡ item_demand (world w l) item
  item_is (function_item exts ws d attrs opening items closing) s t h =
      let f = declared_function w.spelling w.names (declared_name d) in
      let hd = back w (words_starts (loud w None) ws) _ h in
      let same = own_is (declared_name d) s.0 in
      let c = own_skeleton (world w k) (declared_name d) in
      let e = own_skeleton (world w l) (declared_name d) in
      function_is ws d items f c e same
      (words_is w members links k l false None ws s.1.1.0 (front w (words_starts (loud w None) ws) _ h))
      (declr_is w members links k l false None row_of_name c with_skeleton (of_function f) d tt (own_fits c f)
      s.1.0 s.1.1.1.0 (front w (declr_starts (loud w None) with_skeleton (of_function f) d) _ hd))
      (block_items_is w members links (k.0, k.1, c) (l.0, l.1, e) same f items s.1.1.1.1 t.1.1.1.1
      (back w (declr_starts (loud w None) with_skeleton (of_function f) d) _ hd))
  item_is (old_function_item exts ws d attrs ds opening items closing) s t h =
      let f = declared_function w.spelling w.names (declared_name d) in
      let hd = back w (words_starts (loud w None) ws) _ h in
      let same = own_is (declared_name d) s.0 in
      let c = own_skeleton (world w k) (declared_name d) in
      let e = own_skeleton (world w l) (declared_name d) in
      joined _ _ _ _ (words_is w members links k l false None ws s.1.1.0 (front w (words_starts (loud w None) ws) _ h))
      (joined _ _ _ _ (old_declr_is w members links k l same_own None f c e same ds d s.1.0 s.1.1.1.0 t.1.1.1.0
      (front w (old_declr_starts (loud w None) (of_function f) ds d) _ hd))
      (block_items_is w members links (k.0, k.1, c) (l.0, l.1, e) same f items s.1.1.1.1 t.1.1.1.1
      (back w (old_declr_starts (loud w None) (of_function f) ds d) _ hd)))
  item_is (decl_item d) s t h = decl_is w members links k l same_own None d s t h
  item_is (asm_item keyword group semi) s t h = refl
  item_is (semi_item semi) s t h = refl

  pub items_are : (items : List Item) → ItemsHave P U V W items → ItemsHave T U V W items →
      AreFound w (items_starts (has_access w.lattices) w.spelling w.names items) →
      items_demand (world w k) items ≡ items_demand (world w l) items
  items_are [] s t h = refl
  items_are (item ∷ items) s t h = joined _ _ _ _
      (item_is item s.0 t.0 (front w (item_starts (has_access w.lattices) w.spelling w.names item) _ h))
      (items_are items s.1 t.1 (back w (item_starts (has_access w.lattices) w.spelling w.names item) _ h))

-- with nothing more it is the same world
pub more_none : (w : World) → more w [] [] ≡ w
more_none w = ap2 (λ (xs : List Numbered) (ps : List Place). record w { skeletons = xs; sites = ps }) _ _ _ _
    (append-nil w.skeletons) (append-nil w.sites)

-- the constraints of items stay whatever further skeletons and sites there are, where each expression has its type
pub missing_nothing : (w : World) (items : List Item) → MembersBegin w → LinksAreMet w →
    ItemsHave (IsSettled w) (TokenBegins w) (FirstIsMet w) (RoleHasSkeleton w) items
    → ItemsHave (HasType w) (TokenBegins w) (FirstIsMet w) (RoleHasSkeleton w) items →
    AreFound w (items_starts (has_access w.lattices) w.spelling w.names items)
    → (skeletons : List Numbered) (sites : List Place) →
    items_demand (more w skeletons sites) items ≡ items_demand w items
missing_nothing w items members links s t h skeletons sites =
    items_are w members links (skeletons, sites, w.own) ([], [], w.own) refl items s t h
    ∙ ap (λ (it : World). items_demand it items) (more_none w)
