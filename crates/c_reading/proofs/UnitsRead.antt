-- The laws of the reader of units, over those of all families.
use Rattle.std.proofs.Common.{◌≡◌, ℕ, Bool, suc, ◌≤◌, true, false, List, [], ◌∷◌, Some, refl, sym, ◌∙◌, ap, subst, arith}
use Rattle.std.specs.Prelude.{◌+◌, ◌-◌, max, not, All}
use Rattle.std.proofs.lemmas.List.Elements.{All-nil, All-cons, All-head, All-tail}
use Rattle.c_words.specs.declared.kinds.TokenKind.{TokenKind}
use Rattle.c_words.specs.declared.kinds.TokenKind.TheVariants as kinds
use Rattle.c_tree.specs.declared.lexeme.Lexeme.{Lexeme}
use Rattle.c_tree.specs.Tree.{SpecWords, declaration, decl_declaration, decl_assert}
use Rattle.c_tree.specs.Text.{spec_words_text, extensions_text}
use Rattle.c_tree.specs.Specifiers.{IsMix}
use Rattle.c_tree.specs.WellFormed.{AreSpecWords}
use Rattle.c_tree.specs.Unit.{Item, function_item, old_function_item, decl_item, asm_item, semi_item, item_text, items_text, item_height, unit_height, IsItem}
use Rattle.c_specs.specs.Laws.{WholeAreMixes, MixesGoOn}
use Rattle.c_units.specs.HeldScopes.{HeldScopes, file_scope}
use Rattle.c_units.specs.Scoping.{spec_words_scopes}
use Rattle.c_units.specs.Units.{items_scopes, IsWellFormed, item_scopes}
use Rattle.c_reading.specs.Reading.{Found, kind_at, IsNumbered, repeated}
use Rattle.c_reading.specs.Tokens.{is_end}
use Rattle.c_reading.specs.Specifying.{begins_specs}
use Rattle.c_reading.specs.Items.{item_with, items_with}
use Rattle.c_reading.specs.Knot.{knot, most, alone, unit_at}
use Rattle.c_reading.specs.UnitLaws.{UnitIsWellFormed, WellFormedIsRead, OneUnitAtMost}
use Rattle.c_reading.proofs.Binding.{found, done, ok_is, bind_ok, bind_is}
use Rattle.c_reading.proofs.Forms.{Takes, took_token, Took, always, behind_ok, behind_same}
use Rattle.c_reading.proofs.Rows.{AllFit, row_form, row_text, row_scopes, row_height, repeated_sound, repeated_complete}
use Rattle.c_reading.proofs.KindFacts.{end_kind, not_false}
use Rattle.c_reading.proofs.Aims.{item_form, TokenLaws, FirstLaws, Laws}
use Rattle.c_reading.proofs.Tied.{laws_of}
use Rattle.c_reading.proofs.TokensShown.{token_laws}
use Rattle.c_reading.proofs.Firsts.{first_laws}
use Rattle.c_reading.proofs.StmtComplete.{block_body_read}
use Rattle.c_reading.proofs.ItemsFalls.{item_shrinks}
use Rattle.c_reading.proofs.ItemsSound.{item_sound}
use Rattle.c_reading.proofs.ItemsComplete.{BodyRead, item_complete}

specs_no_end : (s : HeldScopes) (kind : TokenKind) → begins_specs s kind ≡ true → is_end kind ≡ false
specs_no_end s kinds.End e = absurd cc
specs_no_end s kind e = refl

module _ (whole_are : WholeAreMixes) (goes : MixesGoOn) (all : List Lexeme) (numbered : IsNumbered all) where
  tokens : TokenLaws all
  tokens = token_laws all numbered

  firsts : FirstLaws all
  firsts = first_laws goes all numbered

  knot_laws : (n : ℕ) → Laws all (suc n) (knot n)
  knot_laws n = laws_of whole_are goes all numbered n

  -- Rows of items.

  rows_are : (xs : List Item) (k : List Lexeme) → row_text (item_form all) xs k ≡ items_text all xs k
  rows_are [] k = refl
  rows_are (x ∷ xs) k = ap (item_text all x) (rows_are xs k)

  rows_named : (xs : List Item) (s : HeldScopes) → row_scopes (item_form all) xs s ≡ items_scopes xs s
  rows_named [] s = refl
  rows_named (x ∷ xs) s =
      behind_same (item_scopes x s) (row_scopes (item_form all) xs) (items_scopes xs) (rows_named xs)

  rows_fit : (xs : List Item) → AllFit (item_form all) xs → All (IsItem all) xs
  rows_fit [] h = All-nil (IsItem all)
  rows_fit (x ∷ xs) h = All-cons (IsItem all) x xs h.0 (rows_fit xs h.1)

  rows_fit_back : (xs : List Item) → All (IsItem all) xs → AllFit (item_form all) xs
  rows_fit_back [] h = tt
  rows_fit_back (x ∷ xs) h = (All-head (IsItem all) x xs h, rows_fit_back xs (All-tail (IsItem all) x xs h))

  one_up : (h r u : ℕ) → u ≡ r + 1 → max (h + 1) u ≡ max h r + 1
  one_up h r u e = omega (arith, e)

  rows_high : (xs : List Item) → unit_height xs ≡ row_height (item_form all) xs + 1
  rows_high [] = refl
  rows_high (x ∷ xs) = one_up (item_height x) (row_height (item_form all) xs) (unit_height xs) (rows_high xs)

  rows_low : (h r : ℕ) → h ≡ r + 1 → r ≤ 499 → h ≤ 500
  rows_low h r e l = omega (arith, e, l)

  rows_low_back : (h r : ℕ) → h ≡ r + 1 → h ≤ 500 → r ≤ 499
  rows_low_back h r e l = omega (arith, e, l)

  -- what is read is well formed
  pub unit_sound : (wide : Bool) (x : Found (List Item)) → unit_at wide all ≡ done x → IsWellFormed wide all x.tree
  unfolding unit_at items_with
  unit_sound wide x e =
      let a = bind_ok e in
      let b = bind_ok a.2 in
      let i = repeated_sound (λ kind. not (is_end kind)) (item_with (knot most) (most - 1)) all (item_form all) 499
      (item_sound all numbered tokens (suc most) (knot most) (knot_laws most) goes 499) (file_scope wide) all a.0
      (0, refl) a.1 in
      let q = took_token all is_end kinds.End end_kind a.0.scopes a.0.rest b.0 i.left b.1 in
      at_last a.0 b.0 b.0.rest refl i q b.2
    where
      at_last : (a : Found (List Item)) (b : Found ℕ) (rest : List Lexeme) → b.rest ≡ rest
          → Takes all (row_form (item_form all)) 499 (file_scope wide) all a → Took all kinds.End a.scopes a.rest b
          → alone wide a.tree rest ≡ done x → IsWellFormed wide all x.tree
      at_last a b [] is i q e =
          subst (λ (x : Found (List Item)). IsWellFormed wide all x.tree) (ok_is e) (record {
            tokens = record {
              last = b.tree;
              spelled = i.spelled ∙ rows_are a.tree a.rest ∙ ap (items_text all a.tree)
                  (q.spelled ∙ ap (λ (k : List Lexeme). record { kind = kinds.End; at = b.tree } ∷ k) is);
            };
            rules = record {
              parts = rows_fit a.tree i.fits;
              low = rows_low (unit_height a.tree) (row_height (item_form all) a.tree) (rows_high a.tree) i.low;
            };
            scopes = a.scopes;
            named = sym (rows_named a.tree (file_scope wide)) ∙ i.named;
          })
      at_last a b (t ∷ ts) is i q e = absurd cc

  -- what is well formed is read
  body_read : BodyRead all (suc most) (knot most)
  body_read = block_body_read all numbered tokens goes firsts (suc most) (knot most) (knot_laws most) whole_are

  words_no_end : (exts : List ℕ) (ws : SpecWords) (s t : HeldScopes) (k : List Lexeme) → IsMix ws → AreSpecWords all ws
      → spec_words_scopes ws s ≡ Some t
      → not (is_end (kind_at (extensions_text exts (spec_words_text all ws k)))) ≡ true
  words_no_end [] ws s t k mix fit named =
      not_false (specs_no_end s (kind_at (spec_words_text all ws k)) (firsts.words_begin ws s t k mix fit named))
  words_no_end (e ∷ exts) ws s t k mix fit named = refl

  item_starts : (x : Item) (s t : HeldScopes) (k : List Lexeme) → IsItem all x → item_scopes x s ≡ Some t
      → not (is_end (kind_at (item_text all x k))) ≡ true
  item_starts (semi_item semi) s t k fit named = refl
  item_starts (asm_item keyword group semi) s t k fit named = refl
  item_starts (decl_item (decl_assert it)) s t k fit named = refl
  item_starts (decl_item (decl_declaration (declaration exts ws ds semi))) s t k fit named =
      let b = behind_ok (spec_words_scopes ws s) _ t named in
      words_no_end exts ws s b.0 _ fit.0 fit.1 b.1
  item_starts (function_item exts ws d attrs opening items closing) s t k fit named =
      let b = behind_ok (spec_words_scopes ws s) _ t named in
      words_no_end exts ws s b.0 _ fit.0 fit.1 b.1
  item_starts (old_function_item exts ws d attrs ds opening items closing) s t k fit named =
      let b = behind_ok (spec_words_scopes ws s) _ t named in
      words_no_end exts ws s b.0 _ fit.0 fit.1 b.1

  pub unit_complete : (wide : Bool) (items : List Item) → IsWellFormed wide all items
      → unit_at wide all ≡ done (found items (file_scope wide) [])
  unfolding unit_at items_with
  unit_complete wide items w =
      let end : List Lexeme = record { kind = kinds.End; at = w.tokens.last } ∷ [] in
      let spelled : all ≡ row_text (item_form all) items end = w.tokens.spelled ∙ sym (rows_are items end) in
      bind_is _
      (ap (repeated (λ kind. not (is_end kind)) (item_with (knot most) (most - 1)) (file_scope wide)) spelled ∙
      repeated_complete (λ kind. not (is_end kind)) (item_with (knot most) (most - 1)) (item_form all) always 499
      (item_shrinks all tokens (suc most) (knot most) (knot_laws most) 499)
      (item_complete all numbered tokens firsts (suc most) (knot most) (knot_laws most) whole_are goes body_read 499
      (omega arith)) item_starts (λ x kind e. refl) items (file_scope wide) w.scopes end
      (rows_fit_back items w.rules.parts)
      (rows_named items (file_scope wide) ∙ w.named) (rows_low_back (unit_height items)
      (row_height (item_form all) items) (rows_high items) w.rules.low) refl (λ x. refl))
      (bind_is _ refl refl)

module _ (whole_are : WholeAreMixes) (goes : MixesGoOn) where
  pub unit_is_well_formed : UnitIsWellFormed
  unit_is_well_formed wide all numbered x e = unit_sound whole_are goes all numbered wide x e

  pub well_formed_is_read : WellFormedIsRead
  well_formed_is_read wide all numbered items w = unit_complete whole_are goes all numbered wide items w

  pub one_unit_at_most : OneUnitAtMost
  one_unit_at_most wide all numbered items others w o =
      ap (λ (x : Found (List Item)). x.tree) (ok_is (sym (unit_complete whole_are goes all numbered wide items w)
      ∙ unit_complete whole_are goes all numbered wide others o))
