-- Declarations of labels, which stand before all other items of a block.
use Rattle.std.proofs.Common.{◌≡◌, ℕ, ◌<◌, ◌≤◌, Bool, true, false, List, [], ◌∷◌, ◌++◌, Some, refl, sym, ◌∙◌, ap, arith}
use Rattle.std.specs.Prelude.{◌+◌, ◌-◌, max, not, ◌&&◌}
use Rattle.std.proofs.lemmas.Option.{same_Some}
use Rattle.c_words.specs.declared.kinds.TokenKind.{TokenKind}
use Rattle.c_words.specs.declared.kinds.TokenKind.TheVariants as kinds
use Rattle.c_words.specs.declared.kinds.Keyword.TheVariants as keywords
use Rattle.c_words.specs.declared.kinds.Punct.TheVariants as puncts
use Rattle.c_tree.specs.declared.lexeme.Lexeme.{Lexeme}
use Rattle.c_syntax.specs.declared.parts.Identifier.{Identifier}
use Rattle.c_tree.specs.Tree.{BlockItem, block_decl, block_stmt, block_labels, BlockItems, no_block_items, more_block_items}
use Rattle.c_tree.specs.Text.{keyword_text, sign_text, identifier_text, names_text, block_items_text, block_item_text}
use Rattle.c_tree.specs.Height.{block_height, block_item_height}
use Rattle.c_tree.specs.WellFormed.{IsBlockItem, AreBlockItems, AreLabelsFirst, is_labels, has_no_labels}
use Rattle.c_units.specs.HeldScopes.{HeldScopes}
use Rattle.c_units.specs.Scoping.{block_item_scopes, block_items_scopes}
use Rattle.c_reading.specs.Reading.{Found, IsNumbered, IsTail, kind_at, fits}
use Rattle.c_reading.specs.Tokens.{is_semicolon, is_label_word, name_at}
use Rattle.c_reading.specs.Parts.{Inner, block_items_from}
use Rattle.c_reading.specs.Stating.{labels_with}
use Rattle.c_reading.proofs.Binding.{found, done, bind_ok, bind_is, fits_ok, fits_is}
use Rattle.c_reading.proofs.Forms.{Form, IsSound, Takes, at_end, behind_is, behind_ok, took, took_token, took_name, shrinks_falls, name_falls, Shrinks}
use Rattle.c_reading.proofs.Rows.{AllFit, row_text, row_scopes, row_height}
use Rattle.c_reading.proofs.KindFacts.{semicolon_kind}
use Rattle.c_reading.proofs.NameLists.{name_form, names_sound, names_complete}

label_word_kind : (kind : TokenKind) → is_label_word kind ≡ true → kind ≡ kinds.Keyword keywords.LabelWord
label_word_kind (kinds.Keyword keywords.LabelWord) e = refl
label_word_kind kind e = absurd cc

names_shrink : Shrinks name_at
names_shrink s ts x e = omega (arith, name_falls s ts x e)

-- names of labels ask nothing of the scopes
flat_names : (xs : List Identifier) (s : HeldScopes) → row_scopes (name_form (λ x s. Some s)) xs s ≡ Some s
flat_names [] s = refl
flat_names (x ∷ xs) s = flat_names xs s

module _ (all : List Lexeme) where
  -- declarations of labels, and all other items
  abbrev pub labels_form : Form BlockItem
  labels_form = record {
    text = block_item_text all;
    Fits = λ x. IsBlockItem all x × (is_labels x ≡ true);
    scopes = block_item_scopes;
    height = block_item_height;
  }

  abbrev pub plain_form : Form BlockItem
  plain_form = record {
    text = block_item_text all;
    Fits = λ x. IsBlockItem all x × (is_labels x ≡ false);
    scopes = block_item_scopes;
    height = block_item_height;
  }

  -- the items of a block, the labels first

  pub items_text : (xs ys : List BlockItem) (k : List Lexeme)
      → row_text labels_form xs (row_text plain_form ys k) ≡ block_items_text all (block_items_from (xs ++ ys)) k
  items_text [] [] k = refl
  items_text [] (y ∷ ys) k = ap (block_item_text all y) (items_text [] ys k)
  items_text (x ∷ xs) ys k = ap (block_item_text all x) (items_text xs ys k)

  pub items_fit : (xs ys : List BlockItem) → AllFit labels_form xs → AllFit plain_form ys
      → AreBlockItems all (block_items_from (xs ++ ys))
  items_fit [] [] h g = tt
  items_fit [] (y ∷ ys) h g = (g.0.0, items_fit [] ys h g.1)
  items_fit (x ∷ xs) ys h g = (h.0.0, items_fit xs ys h.1 g)

  none_of_plain : (ys : List BlockItem) → AllFit plain_form ys → has_no_labels (block_items_from ys) ≡ true
  none_of_plain [] g = refl
  none_of_plain (y ∷ ys) g = by_item (is_labels y) g.0.1 (none_of_plain ys g.1)
    where
      by_item : (b : Bool) → b ≡ false → has_no_labels (block_items_from ys) ≡ true
          → (not b && has_no_labels (block_items_from ys)) ≡ true
      by_item true e h = absurd cc
      by_item false e h = h

  pub items_first : (xs ys : List BlockItem) → AllFit labels_form xs → AllFit plain_form ys
      → AreLabelsFirst (block_items_from (xs ++ ys))
  items_first [] [] h g = tt
  items_first [] (block_labels keyword names semi ∷ ys) h g = absurd cc
  items_first [] (block_decl d ∷ ys) h g = none_of_plain ys g.1
  items_first [] (block_stmt t ∷ ys) h g = none_of_plain ys g.1
  items_first (block_labels keyword names semi ∷ xs) ys h g = items_first xs ys h.1 g
  items_first (block_decl d ∷ xs) ys h g = absurd cc
  items_first (block_stmt t ∷ xs) ys h g = absurd cc

  pub items_named : (xs ys : List BlockItem) (s t u : HeldScopes) → row_scopes labels_form xs s ≡ Some t
      → row_scopes plain_form ys t ≡ Some u → block_items_scopes (block_items_from (xs ++ ys)) s ≡ Some u
  items_named [] [] s t u h g = h ∙ g
  items_named [] (y ∷ ys) s t u h g =
      let same : s ≡ t = cc in
      let b = behind_ok (block_item_scopes y t) (row_scopes plain_form ys) u g in
      behind_is (block_items_scopes (block_items_from ys)) (ap (block_item_scopes y) same ∙ b.1)
      (items_named [] ys b.0 b.0 u refl b.2)
  items_named (x ∷ xs) ys s t u h g =
      let b = behind_ok (block_item_scopes x s) (row_scopes labels_form xs) t h in
      behind_is (block_items_scopes (block_items_from (xs ++ ys))) b.1 (items_named xs ys b.0 t u b.2 g)

  -- of a block with these items, which counts itself
  pub items_high : (xs ys : List BlockItem) (room : ℕ) → 1 ≤ room → row_height labels_form xs ≤ room - 1
      → row_height plain_form ys ≤ room - 1 → block_height (block_items_from (xs ++ ys)) ≤ room
  items_high [] [] room a h g = omega (arith, a)
  items_high [] (y ∷ ys) room a h g =
      let rest : block_height (block_items_from ys) ≤ room = items_high [] ys room a h (omega (arith, g)) in
      omega (arith, a, g, rest)
  items_high (x ∷ xs) ys room a h g =
      let rest : block_height (block_items_from (xs ++ ys)) ≤ room = items_high xs ys room a (omega (arith, h)) g in
      omega (arith, a, h, rest)

  -- and back
  pub scopes_parted : (xs ys : List BlockItem) (s t : HeldScopes)
      → block_items_scopes (block_items_from (xs ++ ys)) s ≡ Some t →
      (u : HeldScopes) × (row_scopes labels_form xs s ≡ Some u) × (row_scopes plain_form ys u ≡ Some t)
  scopes_parted [] [] s t h = (s, refl, h)
  scopes_parted [] (y ∷ ys) s t h =
      let b = behind_ok (block_item_scopes y s) (block_items_scopes (block_items_from ys)) t h in
      let rest = scopes_parted [] ys b.0 t b.2 in
      let same : b.0 ≡ rest.0 = some_one b.0 rest.0 rest.1 in
      (s, refl, behind_is (row_scopes plain_form ys) b.1 (ap (row_scopes plain_form ys) same ∙ rest.2))
    where
      some_one : (a b : HeldScopes) → Some a ≡ Some b → a ≡ b
      some_one a b e = cc
  scopes_parted (x ∷ xs) ys s t h =
      let b = behind_ok (block_item_scopes x s) (block_items_scopes (block_items_from (xs ++ ys))) t h in
      let rest = scopes_parted xs ys b.0 t b.2 in
      (rest.0, behind_is (row_scopes labels_form xs) b.1 rest.1, rest.2)

  pub labels_low : (xs ys : List BlockItem) (room : ℕ) → block_height (block_items_from (xs ++ ys)) ≤ room
      → row_height labels_form xs ≤ room - 1
  labels_low [] ys room h = omega arith
  labels_low (x ∷ xs) ys room h =
      let rest : row_height labels_form xs ≤ room - 1 = labels_low xs ys room (omega (arith, h)) in
      omega (arith, h, rest)

  pub others_low : (xs ys : List BlockItem) (room : ℕ) → block_height (block_items_from (xs ++ ys)) ≤ room
      → row_height plain_form ys ≤ room - 1
  others_low [] [] room h = omega arith
  others_low [] (y ∷ ys) room h =
      let rest : row_height plain_form ys ≤ room - 1 = others_low [] ys room (omega (arith, h)) in
      omega (arith, h, rest)
  others_low (x ∷ xs) ys room h = others_low xs ys room (omega (arith, h))

  -- the parts of a block whose labels stand first
  pub record Parted (items : BlockItems) : Type 0 where
    pub labels : List BlockItem
    pub others : List BlockItem
    pub are : block_items_from (labels ++ others) ≡ items
    pub labels_fit : AllFit labels_form labels
    pub others_fit : AllFit plain_form others

  abbrev pub others_of : BlockItems → List BlockItem
  others_of no_block_items = []
  others_of (more_block_items item items) = item ∷ others_of items

  others_back : (items : BlockItems) → block_items_from (others_of items) ≡ items
  others_back no_block_items = refl
  others_back (more_block_items item items) = ap (more_block_items item) (others_back items)

  both_hold : (a b : Bool) → (not a && b) ≡ true → (a ≡ false) × (b ≡ true)
  both_hold true b e = absurd cc
  both_hold false b e = (refl, e)

  others_fit_back : (items : BlockItems) → AreBlockItems all items → has_no_labels items ≡ true
      → AllFit plain_form (others_of items)
  others_fit_back no_block_items h e = tt
  others_fit_back (more_block_items item items) h e =
      let b = both_hold (is_labels item) (has_no_labels items) e in
      ((h.0, b.0), others_fit_back items h.1 b.1)

  pub parted : (items : BlockItems) → AreBlockItems all items → AreLabelsFirst items → Parted items
  parted no_block_items h first = record { labels = []; others = []; are = refl; labels_fit = tt; others_fit = tt }
  parted (more_block_items (block_labels keyword names semi) items) h first =
      let p = parted items h.1 first in
      record {
        labels = block_labels keyword names semi ∷ p.labels;
        others = p.others;
        are = ap (more_block_items (block_labels keyword names semi)) p.are;
        labels_fit = ((h.0, refl), p.labels_fit);
        others_fit = p.others_fit;
      }
  parted (more_block_items (block_decl d) items) h first = record {
    labels = [];
    others = block_decl d ∷ others_of items;
    are = ap (more_block_items (block_decl d)) (others_back items);
    labels_fit = tt;
    others_fit = ((h.0, refl), others_fit_back items h.1 first);
  }
  parted (more_block_items (block_stmt t) items) h first = record {
    labels = [];
    others = block_stmt t ∷ others_of items;
    are = ap (more_block_items (block_stmt t)) (others_back items);
    labels_fit = tt;
    others_fit = ((h.0, refl), others_fit_back items h.1 first);
  }

  module _ (numbered : IsNumbered all) (inner : Inner) where
    name_sound : IsSound all (name_form (λ x s. Some s)) 0 name_at
    name_sound s ts x tail e =
        let t = took_name all s ts x tail e in
        record { spelled = t.spelled; fits = tt; named = ap Some (sym t.same); low = omega arith; left = t.left }

    pub labels_sound : (room : ℕ) (s : HeldScopes) (ts : List Lexeme) (x : Found BlockItem) → IsTail all ts
        → is_label_word (kind_at ts) ≡ true → labels_with inner room s ts ≡ done x →
        Takes all labels_form room s ts x
    unfolding labels_with
    labels_sound room s ts x tail is e =
        let r = fits_ok 1 room ts e in
        let a = bind_ok r.1 in
        let b = bind_ok a.2 in
        let c = bind_ok b.2 in
        let o = took all (kinds.Keyword keywords.LabelWord) s ts a.0 tail (label_word_kind (kind_at ts) is) a.1 in
        let n =
        names_sound (λ x s. Some s) name_at names_shrink all numbered name_sound a.0.scopes a.0.rest b.0 o.left b.1 in
        let q =
        took_token all is_semicolon (kinds.Punct puncts.Semicolon) semicolon_kind b.0.scopes b.0.rest c.0 n.left c.1 in
        let same : Some a.0.scopes ≡ Some b.0.scopes = sym (flat_names b.0.tree a.0.scopes) ∙ n.named in
        at_end (Takes all labels_form room s ts) c.2 (record {
          spelled = o.spelled
              ∙ ap (keyword_text keywords.LabelWord a.0.tree) (n.spelled ∙ ap (names_text b.0.tree) q.spelled);
          fits = (n.some, refl);
          named = ap Some (sym o.same) ∙ same ∙ ap Some (sym q.same);
          low = r.0;
          left = q.left;
        })

    pub labels_complete : (room : ℕ) (x : BlockItem) (s t : HeldScopes) (k : List Lexeme) → IsBlockItem all x
        → is_labels x ≡ true → block_item_scopes x s ≡ Some t → block_item_height x ≤ room →
        labels_with inner room s (block_item_text all x k) ≡ done (found x t k)
    unfolding labels_with
    labels_complete room (block_decl d) s t k fit is named low = absurd cc
    labels_complete room (block_stmt u) s t k fit is named low = absurd cc
    labels_complete room (block_labels keyword names semi) s t k fit is named low =
        let same : s ≡ t = cc in
        fits_is 1 room (block_item_text all (block_labels keyword names semi) k) _ low ∙ bind_is _ refl
        (bind_is _ (names_complete (λ x s. Some s) name_at names_shrink
        (λ x s t k e. ap (λ (u : HeldScopes). done (found x u k)) (same_Some s t e)) names s s
        (sign_text puncts.Semicolon semi k) fit (flat_names names s) refl)
        (bind_is _ refl (ap (λ (u : HeldScopes). done (found (block_labels keyword names semi) u k)) same)))
