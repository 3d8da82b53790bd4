-- Items one behind another: what the reader of such a row does, by what the reader of one item does.
use Rattle.std.proofs.Common.{◌≡◌, ℕ, ◌<◌, ◌≤◌, Bool, true, false, if◌then◌else◌, List, [], ◌∷◌, ◌++◌, length, Option, Some, None, refl, sym, ◌∙◌, ap, subst, arith, append_assoc}
use Rattle.std.specs.Prelude.{max}
use Rattle.std.proofs.lemmas.List.{append-nil}
use Rattle.c_words.specs.declared.kinds.TokenKind.{TokenKind}
use Rattle.c_tree.specs.declared.lexeme.Lexeme.{Lexeme}
use Rattle.c_units.specs.HeldScopes.{HeldScopes}
use Rattle.c_units.specs.Scoping.{behind}
use Rattle.c_reading.specs.Reading.{Found, Reader, ends, kind_at, run, repeated, repeated_turn, and_then, IsTail}
use Rattle.c_reading.proofs.Binding.{found, done, ok_is, bind_ok, bind_is}
use Rattle.c_reading.proofs.Loops.{TurnShrinks, run_on, run_ends, run-keep}
use Rattle.c_reading.proofs.Forms.{Form, Falls, Shrinks, Takes, IsSound, behind_is, behind_ok}

module _ {T : Type 0} (form : Form T) where
  abbrev pub row_text : List T → List Lexeme → List Lexeme
  row_text [] k = k
  row_text (x ∷ xs) k = form.text x (row_text xs k)

  abbrev pub AllFit : List T → Type 0
  AllFit [] = Unit {0}
  AllFit (x ∷ xs) = form.Fits x × AllFit xs

  abbrev pub row_scopes : List T → HeldScopes → Option HeldScopes
  row_scopes [] s = Some s
  row_scopes (x ∷ xs) s = behind (form.scopes x s) (row_scopes xs)

  abbrev pub row_height : List T → ℕ
  row_height [] = 0
  row_height (x ∷ xs) = max (form.height x) (row_height xs)

  abbrev pub row_form : Form (List T)
  row_form = record { text = row_text; Fits = AllFit; scopes = row_scopes; height = row_height }

  text_push : (xs : List T) (x : T) (k : List Lexeme) → row_text (xs ++ x ∷ []) k ≡ row_text xs (form.text x k)
  text_push [] x k = refl
  text_push (y ∷ xs) x k = ap (form.text y) (text_push xs x k)

  pub fit_push : (xs : List T) (x : T) → AllFit xs → form.Fits x → AllFit (xs ++ x ∷ [])
  fit_push [] x h f = (f, tt)
  fit_push (y ∷ xs) x h f = (h.0, fit_push xs x h.1 f)

  pub scopes_push : (xs : List T) (x : T) (s t u : HeldScopes) → row_scopes xs s ≡ Some t → form.scopes x t ≡ Some u
      → row_scopes (xs ++ x ∷ []) s ≡ Some u
  scopes_push [] x s t u h f =
      behind_is (row_scopes []) (subst (λ (t : HeldScopes). form.scopes x t ≡ Some u) (sym cc) f) refl
  scopes_push (y ∷ xs) x s t u h f =
      let b = behind_ok (form.scopes y s) (row_scopes xs) t h in
      behind_is (row_scopes (xs ++ x ∷ [])) b.1 (scopes_push xs x b.0 t u b.2 f)

  pub height_push : (xs : List T) (x : T) (room : ℕ) → row_height xs ≤ room → form.height x ≤ room
      → row_height (xs ++ x ∷ []) ≤ room
  height_push [] x room h f = omega (arith, f)
  height_push (y ∷ xs) x room h f =
      let rest : row_height (xs ++ x ∷ []) ≤ room = height_push xs x room (omega (arith, h)) f in
      omega (arith, h, rest)

module _ {T : Type 0} (begins : TokenKind → Bool) (read : Reader T) where
  -- what one turn read
  turn_parts : (xs : List T) (s : HeldScopes) (ts : List Lexeme) (x : Found (List T))
      → repeated_turn begins read xs s ts ≡ Some (done x) →
      (y : Found T) × (read s ts ≡ done y) × (found (xs ++ y.tree ∷ []) y.scopes y.rest ≡ x)
  turn_parts xs s ts x e = by_test (begins (kind_at ts)) e
    where
      by_test : (b : Bool)
          → (if b then Some (and_then (read s ts) (λ y. ends (xs ++ y.tree ∷ []) y.scopes y.rest)) else None)
          ≡ Some (done x) →
          (y : Found T) × (read s ts ≡ done y) × (found (xs ++ y.tree ∷ []) y.scopes y.rest ≡ x)
      by_test false e = absurd cc
      by_test true e =
          let e' : and_then (read s ts) (λ y. ends (xs ++ y.tree ∷ []) y.scopes y.rest) ≡ done x = cc in
          let b = bind_ok e' in
          (b.0, b.1, ok_is b.2)

  turn_begun : (xs : List T) (s : HeldScopes) (ts : List Lexeme) (x : Found (List T))
      → repeated_turn begins read xs s ts ≡ Some (done x) → begins (kind_at ts) ≡ true
  turn_begun xs s ts x e = by_test (begins (kind_at ts)) refl e
    where
      by_test : (b : Bool) → begins (kind_at ts) ≡ b
          → (if b then Some (and_then (read s ts) (λ y. ends (xs ++ y.tree ∷ []) y.scopes y.rest)) else None)
          ≡ Some (done x)
          → begins (kind_at ts) ≡ true
      by_test false is e = absurd cc
      by_test true is e = is

  pub row_turn_shrinks : Shrinks read → TurnShrinks (repeated_turn begins read)
  row_turn_shrinks shrinks xs s ts x e =
      let p = turn_parts xs s ts x e in
      subst (λ (x : Found (List T)). length x.rest < length ts) p.2 (shrinks s ts p.0 p.1)

  pub repeated_falls : Shrinks read → Falls (repeated begins read)
  unfolding repeated
  repeated_falls shrinks s ts x e =
      run-keep (repeated_turn begins read) (λ xs s k. length k ≤ length ts)
      (λ xs s k x h e. let less : length x.rest < length k = row_turn_shrinks shrinks xs s k x e in
      omega arith) [] s ts x (omega arith) e

  module _ (all : List Lexeme) (form : Form T) (room : ℕ) where
    -- the reader of an item is asked only where one begins
    pub repeated_sound_at : ((s : HeldScopes) (ts : List Lexeme) (x : Found T) → IsTail all ts
        → begins (kind_at ts) ≡ true → read s ts ≡ done x → Takes all form room s ts x) →
        IsSound all (row_form form) room (repeated begins read)
    unfolding repeated
    repeated_sound_at sound s ts x tail e =
        run-keep (repeated_turn begins read)
        (λ xs t k. Takes all (row_form form) room s ts (found xs t k)) step [] s ts x
        (record { spelled = refl; fits = tt; named = refl; low = omega arith; left = tail }) e
      where
        step : (xs : List T) (t : HeldScopes) (k : List Lexeme) (x : Found (List T))
            → Takes all (row_form form) room s ts (found xs t k) → repeated_turn begins read xs t k ≡ Some (done x) →
            Takes all (row_form form) room s ts x
        step xs t k x h e =
            let p = turn_parts xs t k x e in
            let i = sound t k p.0 h.left (turn_begun xs t k x e) p.1 in
            subst (Takes all (row_form form) room s ts) p.2 (record {
              spelled = h.spelled ∙ ap (row_text form xs) i.spelled ∙ sym (text_push form xs p.0.tree p.0.rest);
              fits = fit_push form xs p.0.tree h.fits i.fits;
              named = scopes_push form xs p.0.tree s t p.0.scopes h.named i.named;
              low = height_push form xs p.0.tree room h.low i.low;
              left = i.left;
            })

    pub repeated_sound : IsSound all form room read → IsSound all (row_form form) room (repeated begins read)
    repeated_sound sound = repeated_sound_at (λ s ts x tail begun e. sound s ts x tail e)

  -- A row is read whole where each item is: before what begins the next one, and before what follows the row.
  module _ (form : Form T) (stops : T → TokenKind → Bool) (room : ℕ) (shrinks : Shrinks read)
      (complete : (x : T) (s t : HeldScopes) (k : List Lexeme) → form.Fits x → form.scopes x s ≡ Some t
      → form.height x ≤ room → stops x (kind_at k) ≡ true →
      read s (form.text x k) ≡ done (found x t k))
      (starts : (x : T) (s t : HeldScopes) (k : List Lexeme) → form.Fits x → form.scopes x s ≡ Some t
      → begins (kind_at (form.text x k)) ≡ true)
      (goes : (x : T) (kind : TokenKind) → begins kind ≡ true → stops x kind ≡ true) where
    row_read : (xs known : List T) (s t : HeldScopes) (k : List Lexeme) → AllFit form xs → row_scopes form xs s ≡ Some t
        → row_height form xs ≤ room →
        begins (kind_at k) ≡ false → ((x : T) → stops x (kind_at k) ≡ true)
        → run (repeated_turn begins read) known s (row_text form xs k) ≡ done (found (known ++ xs) t k)
    row_read [] known s t k h n l ended stopped =
        run_ends (repeated_turn begins read) (row_turn_shrinks shrinks) known s k (rw ended refl) ∙
        ap (λ (o : Option HeldScopes). done (found known (from o) k)) n
        ∙ ap (λ (xs : List T). done (found xs t k)) (sym (append-nil known))
      where
        from : Option HeldScopes → HeldScopes
        from None = s
        from (Some t) = t
    row_read (x ∷ xs) known s t k h n l ended stopped =
        let b = behind_ok (form.scopes x s) (row_scopes form xs) t n in
        let next : stops x (kind_at (row_text form xs k)) ≡ true = stops_at xs b.0 h.1 b.2 in
        let is = complete x s b.0 (row_text form xs k) h.0 b.1 (omega (arith, l)) next in
        let begun = starts x s b.0 (row_text form xs k) h.0 b.1 in
        let rest = row_read xs (known ++ x ∷ []) b.0 t k h.1 b.2 (omega (arith, l)) ended stopped in
        run_on (repeated_turn begins read) (row_turn_shrinks shrinks) known s (row_text form (x ∷ xs) k)
        (found (known ++ x ∷ []) b.0 (row_text form xs k))
        (rw begun (ap Some (bind_is _ is refl))) ∙ rest
        ∙ ap (λ (ys : List T). done (found ys t k)) (append_assoc known (x ∷ []) xs)
      where
        stops_at : (xs : List T) (s : HeldScopes) → AllFit form xs → row_scopes form xs s ≡ Some t
            → stops x (kind_at (row_text form xs k)) ≡ true
        stops_at [] s h n = stopped x
        stops_at (y ∷ ys) s h n =
            let b = behind_ok (form.scopes y s) (row_scopes form ys) t n in
            goes x (kind_at (form.text y (row_text form ys k))) (starts y s b.0 (row_text form ys k) h.0 b.1)

    pub repeated_complete : (xs : List T) (s t : HeldScopes) (k : List Lexeme) → AllFit form xs
        → row_scopes form xs s ≡ Some t → row_height form xs ≤ room →
        begins (kind_at k) ≡ false → ((x : T) → stops x (kind_at k) ≡ true)
        → repeated begins read s (row_text form xs k) ≡ done (found xs t k)
    unfolding repeated
    repeated_complete xs s t k h n l ended stopped = row_read xs [] s t k h n l ended stopped
