-- Lists of names with a comma between two: identifiers of a function, and labels of a block.
use Rattle.std.proofs.Common.{◌≡◌, ◌≢◌, ℕ, ◌<◌, ◌≤◌, Bool, true, false, List, [], ◌∷◌, length, Option, Some, None, refl, sym, ◌∙◌, ap, arith}
use Rattle.c_tree.specs.declared.lexeme.Lexeme.{Lexeme}
use Rattle.c_syntax.specs.declared.parts.Identifier.{Identifier}
use Rattle.c_tree.specs.Text.{separated, identifier_text, names_text, other_names_text}
use Rattle.c_units.specs.HeldScopes.{HeldScopes}
use Rattle.c_reading.specs.Reading.{Found, Reader, IsNumbered, IsTail, kind_at, is_comma, listed, Next, one_more, CommaList}
use Rattle.c_reading.specs.Declaring.{next_name, names_list}
use Rattle.c_reading.proofs.Binding.{found, done, ok_is, bind_ok, bind_is}
use Rattle.c_reading.proofs.Forms.{Form, Falls, Shrinks, Takes, IsSound, always, at_end}
use Rattle.c_reading.proofs.Rows.{AllFit, row_scopes, row_height}
use Rattle.c_reading.proofs.Commas.{no_ending, NextTakes, list_form, others_text, commas_text, HasItem, listed_sound, listed_shrinks, listed_complete}

-- a name, and what it asks of the scopes
abbrev pub name_form : (Identifier → HeldScopes → Option HeldScopes) → Form Identifier
name_form scopes = record { text = identifier_text; Fits = λ x. Unit {0}; scopes = scopes; height = λ x. 0 }

module _ (scopes : Identifier → HeldScopes → Option HeldScopes) where
  others_are : (xs : List Identifier) (k : List Lexeme)
      → others_text (name_form scopes) no_ending xs k ≡ other_names_text xs k
  others_are [] k = refl
  others_are (x ∷ xs) k = ap (λ (k : List Lexeme). separated (identifier_text x k)) (others_are xs k)

  names_are : (xs : List Identifier) (k : List Lexeme) → commas_text (name_form scopes) no_ending xs k ≡ names_text xs k
  names_are [] k = refl
  names_are (x ∷ xs) k = ap (identifier_text x) (others_are xs k)

  names_fit : (xs : List Identifier) → AllFit (name_form scopes) xs
  names_fit [] = tt
  names_fit (x ∷ xs) = (tt, names_fit xs)

  names_low : (xs : List Identifier) → row_height (name_form scopes) xs ≤ 0
  names_low [] = omega arith
  names_low (x ∷ xs) = let rest : row_height (name_form scopes) xs ≤ 0 = names_low xs in omega (arith, rest)

  -- what was read: one name at least
  pub record TookNames (all : List Lexeme) (s : HeldScopes) (ts : List Lexeme)
      (x : Found (List Identifier)) : Type 0 where
    pub spelled : ts ≡ names_text x.tree x.rest
    pub some : x.tree ≢ []
    pub named : row_scopes (name_form scopes) x.tree s ≡ Some x.scopes
    pub left : IsTail all x.rest

  module _ (name : Reader Identifier) (shrinks : Shrinks name) where
    next_falls : (comma : ℕ) → Falls (next_name name comma)
    next_falls comma s ts x e =
        let a = bind_ok e in
        omega (arith, shrinks s ts a.0 a.1, ap (λ (x : Found (Next Identifier ⊥)). length x.rest) (ok_is a.2))

    pub names_list_shrinks : Shrinks (names_list name)
    unfolding names_list
    names_list_shrinks s ts x e =
        let a = bind_ok e in
        omega (
          arith,
          listed_shrinks name (next_name name) next_falls shrinks s ts a.0 a.1,
          ap (λ (x : Found (List Identifier)). length x.rest) (ok_is a.2),
        )

    module _ (all : List Lexeme) (numbered : IsNumbered all) (sound : IsSound all (name_form scopes) 0 name) where
      next_sound : (comma : ℕ) (s : HeldScopes) (ts : List Lexeme) (x : Found (Next Identifier ⊥)) → IsTail all ts
          → next_name name comma s ts ≡ done x →
          NextTakes all (name_form scopes) no_ending 0 comma s ts x.tree x.scopes x.rest
      next_sound comma s ts x tail e =
          let a = bind_ok e in
          at_end (λ (x : Found (Next Identifier ⊥)). NextTakes all (name_form scopes) no_ending 0 comma s ts x.tree
          x.scopes x.rest) a.2 (sound s ts a.0 tail a.1, shrinks s ts a.0 a.1)

      pub names_sound : (s : HeldScopes) (ts : List Lexeme) (x : Found (List Identifier)) → IsTail all ts
          → names_list name s ts ≡ done x → TookNames all s ts x
      unfolding names_list
      names_sound s ts x tail e =
          let a = bind_ok e in
          let l = listed_sound name (next_name name) all numbered
          (name_form scopes) no_ending 0 sound next_sound s ts a.0 tail a.1 in
          at_end (TookNames all s ts) a.2 (of_list a.0 l)
        where
          has_some : (xs : List Identifier) → HasItem (name_form scopes) no_ending xs → xs ≢ []
          has_some [] h = absurd h
          has_some (x ∷ xs) h = λ e. absurd cc

          of_list : (l : Found (CommaList Identifier ⊥)) → Takes all (list_form (name_form scopes) no_ending) 0 s ts l
              → TookNames all s ts (found l.tree.items l.scopes l.rest)
          of_list l t = record {
            spelled = by_ending l.tree.ending t.spelled;
            some = has_some l.tree.items t.fits.0;
            named = t.named;
            left = t.left;
          }
            where
              by_ending : (o : Option ⊥)
                  → ts ≡ (list_form (name_form scopes) no_ending).text
                  (record { items = l.tree.items; ending = o }) l.rest
                  → ts ≡ names_text l.tree.items l.rest
              by_ending None is = is ∙ names_are l.tree.items l.rest
              by_ending (Some e) is = absurd e

    module _ (complete : (x : Identifier) (s t : HeldScopes) (k : List Lexeme) → scopes x s ≡ Some t
        → name s (identifier_text x k) ≡ done (found x t k)) where
      pub names_complete : (xs : List Identifier) (s t : HeldScopes) (k : List Lexeme) → xs ≢ []
          → row_scopes (name_form scopes) xs s ≡ Some t → is_comma (kind_at k) ≡ false →
          names_list name s (names_text xs k) ≡ done (found xs t k)
      unfolding names_list
      names_complete xs s t k some named no_comma =
          let l = listed_complete name (next_name name) (name_form scopes) no_ending always 0 next_falls
          (λ x s t k fits n low ended. complete x s t k n)
          (λ comma x s t k fits n low ended. bind_is _ (complete x s t k n) refl) (λ x. refl)
          (record { items = xs; ending = None }) s t k (has_item xs some) (names_fit xs) named (names_low xs)
          (no_comma, λ x. refl) in
          bind_is _ (ap (λ (ts : List Lexeme). listed name (next_name name) s ts) (sym (names_are xs k)) ∙ l) refl
        where
          has_item : (xs : List Identifier) → xs ≢ [] → HasItem (name_form scopes) no_ending xs
          has_item [] some = absurd (some refl)
          has_item (x ∷ xs) some = tt
