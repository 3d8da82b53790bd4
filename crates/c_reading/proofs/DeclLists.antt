-- Declarators of declarations, and items of blocks, as lists of items.
use Rattle.std.proofs.Common.{◌≡◌, ℕ, ◌≤◌, List, [], ◌∷◌, Option, Some, None, refl, ap, arith}
use Rattle.std.specs.Prelude.{max, ◌+◌, ◌-◌}
use Rattle.c_tree.specs.declared.lexeme.Lexeme.{Lexeme}
use Rattle.c_syntax.specs.declared.parts.Attr.{Attr}
use Rattle.c_tree.specs.Tree.{InitDeclrs, no_init_declrs, more_init_declrs, BlockItems, no_block_items, more_block_items, BlockItem}
use Rattle.c_tree.specs.Text.{init_declrs_text, other_init_declrs_text, attrs_text, declr_text, label_text, some_init_text, separated, block_items_text, block_item_text}
use Rattle.c_tree.specs.Height.{attrs_height, declr_height, label_height, some_init_height, init_declrs_height, block_height}
use Rattle.c_tree.specs.WellFormed.{AreInitDeclrs, AreBlockItems}
use Rattle.typedef_scope.specs.declared.kind.Kind.{Kind}
use Rattle.c_units.specs.HeldScopes.{HeldScopes, release}
use Rattle.c_units.specs.Scoping.{behind, declr_scopes, some_init_scopes, init_declrs_scopes, block_item_scopes, block_items_scopes}
use Rattle.c_reading.specs.Parts.{DeclrItem, init_declrs_from, block_items_from}
use Rattle.c_reading.proofs.Forms.{behind_same}
use Rattle.c_reading.proofs.Rows.{AllFit, row_text, row_scopes, row_height}
use Rattle.c_reading.proofs.Commas.{no_ending, others_text, commas_text, ending_text}
use Rattle.c_reading.proofs.Aims.{least_with, declr_item_form, block_item_form}

abbrev pub declrs_items : InitDeclrs → List DeclrItem
declrs_items no_init_declrs = []
declrs_items (more_init_declrs attrs d asm_label attrs2 init ds) =
    record { before = attrs; declr = d; label = asm_label; attrs = attrs2; init = init } ∷ declrs_items ds

pub declrs_back : (ds : InitDeclrs) → init_declrs_from (declrs_items ds) ≡ ds
declrs_back no_init_declrs = refl
declrs_back (more_init_declrs attrs d asm_label attrs2 init ds) =
    ap (more_init_declrs attrs d asm_label attrs2 init) (declrs_back ds)

abbrev pub block_items_items : BlockItems → List BlockItem
block_items_items no_block_items = []
block_items_items (more_block_items item items) = item ∷ block_items_items items

pub block_items_back : (xs : BlockItems) → block_items_from (block_items_items xs) ≡ xs
block_items_back no_block_items = refl
block_items_back (more_block_items item items) = ap (more_block_items item) (block_items_back items)

-- attributes are asked for two levels of the node that has them
pub attrs_room : (attrs : List Attr) (room : ℕ) → least_with attrs ≤ room → attrs_height attrs ≤ room - 1
attrs_room [] room h = omega arith
attrs_room (a ∷ attrs) room h = omega (arith, h)

pub attrs_asks : (attrs : List Attr) (room : ℕ) → attrs_height attrs ≤ room - 1 → least_with attrs ≤ room
attrs_asks [] room h = omega arith
attrs_asks (a ∷ attrs) room h = omega (arith, h)

module _ (all : List Lexeme) where
  module _ (kind : Kind) where
    other_declrs_are : (xs : List DeclrItem) (k : List Lexeme)
        → others_text (declr_item_form all kind) no_ending xs k ≡ other_init_declrs_text all (init_declrs_from xs) k
    other_declrs_are [] k = refl
    other_declrs_are (x ∷ xs) k =
        ap (λ (k : List Lexeme). separated (attrs_text all x.before (declr_text all x.declr
        (label_text all x.label (attrs_text all x.attrs (some_init_text all x.init k)))))) (other_declrs_are xs k)

    pub declrs_are : (xs : List DeclrItem) (k : List Lexeme)
        → commas_text (declr_item_form all kind) no_ending xs k ≡ init_declrs_text all (init_declrs_from xs) k
    declrs_are [] k = refl
    declrs_are (x ∷ xs) k =
        ap (λ (k : List Lexeme). attrs_text all x.before (declr_text all x.declr
        (label_text all x.label (attrs_text all x.attrs (some_init_text all x.init k))))) (other_declrs_are xs k)

    pub others_are : (xs : List DeclrItem) (k : List Lexeme)
        → others_text (declr_item_form all kind) no_ending xs k ≡ other_init_declrs_text all (init_declrs_from xs) k
    others_are xs k = other_declrs_are xs k

    pub no_end : (last : Option ⊥) (k : List Lexeme) → ending_text (declr_item_form all kind) no_ending last k ≡ k
    no_end None k = refl
    no_end (Some e) k = absurd e

    pub declrs_fit : (xs : List DeclrItem) → AllFit (declr_item_form all kind) xs
        → AreInitDeclrs all (init_declrs_from xs)
    declrs_fit [] h = tt
    declrs_fit (x ∷ xs) h = (h.0.0, h.0.1, h.0.2, h.0.3, h.0.4, h.0.5, declrs_fit xs h.1, h.0.6)

    pub declrs_fit_back : (xs : InitDeclrs) → AreInitDeclrs all xs → AllFit (declr_item_form all kind) (declrs_items xs)
    declrs_fit_back no_init_declrs h = tt
    declrs_fit_back (more_init_declrs attrs d asm_label attrs2 init ds) h =
        ((h.0, h.1, h.2, h.3, h.4, h.5, h.7), declrs_fit_back ds h.6)

    pub declrs_named : (xs : List DeclrItem) (s : HeldScopes)
        → row_scopes (declr_item_form all kind) xs s ≡ init_declrs_scopes kind (init_declrs_from xs) s
    declrs_named [] s = refl
    declrs_named (x ∷ xs) s =
        behind_same (behind (declr_scopes (Some kind) x.declr s) (λ t. some_init_scopes x.init (release kind t))) _ _
        (λ t. declrs_named xs t)

    pub declrs_high : (xs : List DeclrItem)
        → row_height (declr_item_form all kind) xs ≡ init_declrs_height (init_declrs_from xs)
    declrs_high [] = refl
    declrs_high (x ∷ xs) =
        ap (max (max (attrs_height x.before) (max (declr_height x.declr)
        (max (label_height x.label) (max (attrs_height x.attrs) (some_init_height x.init)))) + 1)) (declrs_high xs)

  pub block_items_are : (xs : List BlockItem) (k : List Lexeme)
      → row_text (block_item_form all) xs k ≡ block_items_text all (block_items_from xs) k
  block_items_are [] k = refl
  block_items_are (x ∷ xs) k = ap (block_item_text all x) (block_items_are xs k)

  pub block_items_fit : (xs : List BlockItem) → AllFit (block_item_form all) xs
      → AreBlockItems all (block_items_from xs)
  block_items_fit [] h = tt
  block_items_fit (x ∷ xs) h = (h.0, block_items_fit xs h.1)

  pub block_items_fit_back : (xs : BlockItems) → AreBlockItems all xs
      → AllFit (block_item_form all) (block_items_items xs)
  block_items_fit_back no_block_items h = tt
  block_items_fit_back (more_block_items x xs) h = (h.0, block_items_fit_back xs h.1)

  pub block_items_named : (xs : List BlockItem) (s : HeldScopes)
      → row_scopes (block_item_form all) xs s ≡ block_items_scopes (block_items_from xs) s
  block_items_named [] s = refl
  block_items_named (x ∷ xs) s = behind_same (block_item_scopes x s) _ _ (λ t. block_items_named xs t)

  -- of a block with these items, which counts itself
  pub block_high : (xs : List BlockItem) (room : ℕ) → 1 ≤ room → row_height (block_item_form all) xs ≤ room - 1
      → block_height (block_items_from xs) ≤ room
  block_high [] room a h = omega (arith, a)
  block_high (x ∷ xs) room a h =
      let rest : block_height (block_items_from xs) ≤ room = block_high xs room a (omega (arith, h)) in
      omega (arith, a, h, rest)

  pub block_high_back : (xs : BlockItems) (room : ℕ) → block_height xs ≤ room
      → row_height (block_item_form all) (block_items_items xs) ≤ room - 1
  block_high_back no_block_items room h = omega arith
  block_high_back (more_block_items x xs) room h =
      let rest : row_height (block_item_form all) (block_items_items xs) ≤ room - 1 =
      block_high_back xs room (omega (arith, h)) in
      omega (arith, h, rest)

  pub block_some : (xs : BlockItems) → 1 ≤ block_height xs
  block_some no_block_items = omega arith
  block_some (more_block_items x xs) = let rest : 1 ≤ block_height xs = block_some xs in omega (arith, rest)
