-- Items of initialisers and designators as lists of items.
use Rattle.std.proofs.Common.{◌≡◌, ℕ, Bool, true, false, List, [], ◌∷◌, Option, Some, None, refl, ap}
use Rattle.std.specs.Prelude.{max, ◌+◌}
use Rattle.c_words.specs.declared.kinds.Punct.TheVariants as puncts
use Rattle.c_tree.specs.declared.lexeme.Lexeme.{Lexeme}
use Rattle.c_tree.specs.Tree.{InitItems, no_init_items, more_init_items, Desigs, no_desigs, more_desigs, Desig, member_desig, index_desig, range_desig, old_desig}
use Rattle.c_tree.specs.Text.{init_items_text, other_init_items_text, init_text, desigs_text, desig_text, some_sign_text, sign_text, separated}
use Rattle.c_tree.specs.Height.{desigs_height, desig_height, init_height, init_items_height}
use Rattle.c_tree.specs.WellFormed.{has_no_old, AreDesigs, AreInitItems}
use Rattle.c_units.specs.HeldScopes.{HeldScopes}
use Rattle.c_units.specs.Scoping.{behind, desig_scopes, desigs_scopes, init_scopes, init_items_scopes}
use Rattle.c_reading.specs.Parts.{ListItem, desigs_from, init_items_from}
use Rattle.c_reading.proofs.Forms.{behind_same}
use Rattle.c_reading.proofs.Rows.{AllFit, row_text, row_scopes, row_height}
use Rattle.c_reading.proofs.Commas.{Ending, others_text, commas_text, ending_text}
use Rattle.c_reading.proofs.Aims.{desig_form, list_item_form}
use Rattle.c_reading.proofs.ExprLists.{desigs_items}

abbrev pub init_items_items : InitItems → List ListItem
init_items_items no_init_items = []
init_items_items (more_init_items ds equal init items) =
    record { desigs = ds; equal = equal; init = init } ∷ init_items_items items

pub init_items_back : (xs : InitItems) → init_items_from (init_items_items xs) ≡ xs
init_items_back no_init_items = refl
init_items_back (more_init_items ds equal init items) = ap (more_init_items ds equal init) (init_items_back items)

-- a comma that ends a list
abbrev pub comma_ending : Ending ℕ
comma_ending = record { text = sign_text puncts.Comma; Fits = λ token. Unit {0} }

module _ (all : List Lexeme) where
  other_items_are : (xs : List ListItem) (k : List Lexeme)
      → others_text (list_item_form all) comma_ending xs k ≡ other_init_items_text all (init_items_from xs) k
  other_items_are [] k = refl
  other_items_are (x ∷ xs) k =
      ap (λ (k : List Lexeme). separated
      (desigs_text all x.desigs (some_sign_text puncts.Equal x.equal (init_text all x.init k)))) (other_items_are xs k)

  pub items_are : (xs : List ListItem) (k : List Lexeme)
      → commas_text (list_item_form all) comma_ending xs k ≡ init_items_text all (init_items_from xs) k
  items_are [] k = refl
  items_are (x ∷ xs) k =
      ap (λ (k : List Lexeme). desigs_text all x.desigs (some_sign_text puncts.Equal x.equal (init_text all x.init k)))
      (other_items_are xs k)

  pub comma_end_is : (xs : List ListItem) (last : Option ℕ) (k : List Lexeme)
      → ending_text (list_item_form all) comma_ending last k ≡ some_sign_text puncts.Comma last k
  comma_end_is xs None k = refl
  comma_end_is xs (Some token) k = refl

  pub items_fit : (xs : List ListItem) → AllFit (list_item_form all) xs → AreInitItems all (init_items_from xs)
  items_fit [] h = tt
  items_fit (x ∷ xs) h = (h.0.0, h.0.1, h.0.2, items_fit xs h.1)

  pub items_fit_back : (xs : InitItems) → AreInitItems all xs → AllFit (list_item_form all) (init_items_items xs)
  items_fit_back no_init_items h = tt
  items_fit_back (more_init_items ds equal init items) h = ((h.0, h.1, h.2), items_fit_back items h.3)

  pub items_named : (xs : List ListItem) (s : HeldScopes)
      → row_scopes (list_item_form all) xs s ≡ init_items_scopes (init_items_from xs) s
  items_named [] s = refl
  items_named (x ∷ xs) s =
      behind_same (behind (desigs_scopes x.desigs s) (init_scopes x.init)) _ _ (λ t. items_named xs t)

  pub items_high : (xs : List ListItem) → row_height (list_item_form all) xs ≡ init_items_height (init_items_from xs)
  items_high [] = refl
  items_high (x ∷ xs) = ap (max (max (desigs_height x.desigs) (init_height x.init) + 1)) (items_high xs)

  pub desigs_are : (ds : List Desig) (k : List Lexeme)
      → row_text (desig_form all) ds k ≡ desigs_text all (desigs_from ds) k
  desigs_are [] k = refl
  desigs_are (d ∷ ds) k = ap (desig_text all d) (desigs_are ds k)

  pub desigs_fit : (ds : List Desig) → AllFit (desig_form all) ds → AreDesigs all (desigs_from ds)
  desigs_fit [] h = tt
  desigs_fit (d ∷ ds) h = (h.0.0, desigs_fit ds h.1)

  -- no `m:` is among them
  pub desigs_no_old : (ds : List Desig) → AllFit (desig_form all) ds → has_no_old (desigs_from ds) ≡ true
  desigs_no_old [] h = refl
  desigs_no_old (member_desig token name ∷ ds) h = desigs_no_old ds h.1
  desigs_no_old (index_desig opening e closing ∷ ds) h = desigs_no_old ds h.1
  desigs_no_old (range_desig opening e dots e2 closing ∷ ds) h = desigs_no_old ds h.1
  desigs_no_old (old_desig name colon ∷ ds) h = let wrong : true ≡ false = h.0.1 in absurd cc

  pub desigs_fit_back : (ds : Desigs) → AreDesigs all ds → has_no_old ds ≡ true
      → AllFit (desig_form all) (desigs_items ds)
  desigs_fit_back no_desigs h plain = tt
  desigs_fit_back (more_desigs (member_desig token name) ds) h plain = ((h.0, refl), desigs_fit_back ds h.1 plain)
  desigs_fit_back (more_desigs (index_desig opening e closing) ds) h plain = ((h.0, refl), desigs_fit_back ds h.1 plain)
  desigs_fit_back (more_desigs (range_desig opening e dots e2 closing) ds) h plain =
      ((h.0, refl), desigs_fit_back ds h.1 plain)
  desigs_fit_back (more_desigs (old_desig name colon) ds) h plain = absurd cc

  pub desigs_named : (ds : List Desig) (s : HeldScopes)
      → row_scopes (desig_form all) ds s ≡ desigs_scopes (desigs_from ds) s
  desigs_named [] s = refl
  desigs_named (d ∷ ds) s = behind_same (desig_scopes d s) _ _ (λ t. desigs_named ds t)

  pub desigs_high : (ds : List Desig) → row_height (desig_form all) ds ≡ desigs_height (desigs_from ds)
  desigs_high [] = refl
  desigs_high (d ∷ ds) = ap (max (desig_height d)) (desigs_high ds)
