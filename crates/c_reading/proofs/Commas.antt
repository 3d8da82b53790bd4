-- Lists with commas: what their reader does, by what the readers of the first item and of what stands behind a comma
-- do.
use Rattle.std.proofs.Common.{◌≡◌, ℕ, zero, suc, ◌<◌, ◌≤◌, Bool, true, false, if◌then◌else◌, List, [], ◌∷◌, ◌++◌, length, Option, Some, None, refl, sym, ◌∙◌, ap, subst, arith, append_assoc}
use Rattle.std.proofs.lemmas.List.{append-nil}
use Rattle.c_words.specs.declared.kinds.TokenKind.{TokenKind}
use Rattle.c_words.specs.declared.kinds.TokenKind.TheVariants as kinds
use Rattle.c_words.specs.declared.kinds.Punct.TheVariants.{Comma}
use Rattle.c_tree.specs.declared.lexeme.Lexeme.{Lexeme}
use Rattle.c_tree.specs.Text.{separated, sign_text, number_before}
use Rattle.c_units.specs.HeldScopes.{HeldScopes}
use Rattle.c_reading.specs.Reading.{Found, Reader, ends, kind_at, run, listed, comma_turn, comma_turn_by, with_next, Next, one_more, list_end, CommaList, is_comma, and_then, IsNumbered, IsTail}
use Rattle.c_reading.proofs.Binding.{found, done, ok_is, bind_ok, bind_is}
use Rattle.c_reading.proofs.Loops.{TurnShrinks, run_on, run_ends, run-keep}
use Rattle.c_reading.proofs.Tails.{tail_of, comma_is}
use Rattle.c_reading.proofs.Forms.{Form, Falls, Shrinks, Takes, IsSound, behind_is, behind_ok}
use Rattle.c_reading.proofs.Rows.{AllFit, row_scopes, row_height, fit_push, scopes_push, height_push}

comma_kind : (kind : TokenKind) → is_comma kind ≡ true → kind ≡ kinds.Punct Comma
comma_kind (kinds.Punct Comma) e = refl
comma_kind kind e = absurd cc

-- what may end a list behind a comma: its text with this comma, and its rules
pub record Ending (E : Type 0) : Type 1 where
  pub text : E → List Lexeme → List Lexeme
  pub Fits : E → Type 0

-- nothing ends a list
abbrev pub no_ending : Ending ⊥
no_ending = record { text = λ e k. k; Fits = λ e. Unit {0} }

module _ {T E : Type 0} (form : Form T) (ending : Ending E) where
  -- behind others, each after a comma
  abbrev pub others_text : List T → List Lexeme → List Lexeme
  others_text [] k = k
  others_text (x ∷ xs) k = separated (form.text x (others_text xs k))

  abbrev pub commas_text : List T → List Lexeme → List Lexeme
  commas_text [] k = k
  commas_text (x ∷ xs) k = form.text x (others_text xs k)

  abbrev pub ending_text : Option E → List Lexeme → List Lexeme
  ending_text None k = k
  ending_text (Some e) k = ending.text e k

  abbrev pub EndingFits : Option E → Type 0
  EndingFits None = Unit {0}
  EndingFits (Some e) = ending.Fits e

  -- an item at least stands there
  abbrev pub HasItem : List T → Type 0
  HasItem [] = ⊥
  HasItem (x ∷ xs) = Unit {0}

  abbrev pub list_form : Form (CommaList T E)
  list_form = record {
    text = λ l k. commas_text l.items (ending_text l.ending k);
    Fits = λ l. HasItem l.items × AllFit form l.items × EndingFits l.ending;
    scopes = λ l s. row_scopes form l.items s;
    height = λ l. row_height form l.items;
  }

  others_push : (xs : List T) (x : T) (k : List Lexeme)
      → others_text (xs ++ x ∷ []) k ≡ others_text xs (separated (form.text x k))
  others_push [] x k = refl
  others_push (y ∷ xs) x k = ap (λ (k : List Lexeme). separated (form.text y k)) (others_push xs x k)

  pub commas_push : (xs : List T) (x : T) (k : List Lexeme) → HasItem xs
      → commas_text (xs ++ x ∷ []) k ≡ commas_text xs (separated (form.text x k))
  commas_push [] x k h = absurd h
  commas_push (y ∷ xs) x k h = ap (form.text y) (others_push xs x k)

  pub item_push : (xs : List T) (x : T) → HasItem (xs ++ x ∷ [])
  item_push [] x = tt
  item_push (y ∷ xs) x = tt

-- What was read behind a comma with this number: an item, or what ends the list.
abbrev pub NextTakes : List Lexeme → {T E : Type 0} → Form T → Ending E → ℕ → ℕ → HeldScopes → List Lexeme → Next T E
    → HeldScopes → List Lexeme → Type 0
NextTakes all form ending room comma s ts (one_more x) t k =
    Takes all form room s ts (found x t k) × (length k < length ts)
NextTakes all form ending room comma s ts (list_end e) t k =
    (sign_text Comma comma ts ≡ ending.text e k) × ending.Fits e × (t ≡ s) × IsTail all k

module _ {T E : Type 0} (first : Reader T) (next : ℕ → Reader (Next T E)) where
  -- what one turn read
  pub list_parts : (l : CommaList T E) (s : HeldScopes) (ts : List Lexeme) (x : Found (CommaList T E))
      → comma_turn next l s ts ≡ Some (done x) →
      (t : Lexeme) × (rest : List Lexeme) × (y : Found (Next T E)) × (l.ending ≡ None) × (ts ≡ t ∷ rest)
      × (is_comma t.kind ≡ true) × (next t.at s rest ≡ done y) × (found (with_next l.items y.tree) y.scopes y.rest ≡ x)
  list_parts l s ts x e = by_ending l.ending refl e
    where
      by_tokens : (us : List Lexeme) → ts ≡ us → l.ending ≡ None → comma_turn_by next None l.items s us ≡ Some (done x)
          → (t : Lexeme) × (rest : List Lexeme) × (y : Found (Next T E)) × (l.ending ≡ None) × (ts ≡ t ∷ rest)
          × (is_comma t.kind ≡ true) × (next t.at s rest ≡ done y)
          × (found (with_next l.items y.tree) y.scopes y.rest ≡ x)
      by_tokens [] is none e = absurd cc
      by_tokens (t ∷ rest) is none e = by_test (is_comma t.kind) refl e
        where
          by_test : (b : Bool) → is_comma t.kind ≡ b
              → (if b then Some (and_then (next t.at s rest) (λ y. ends (with_next l.items y.tree) y.scopes y.rest))
              else None) ≡ Some (done x) →
              (t : Lexeme) × (rest : List Lexeme) × (y : Found (Next T E)) × (l.ending ≡ None) × (ts ≡ t ∷ rest)
              × (is_comma t.kind ≡ true) × (next t.at s rest ≡ done y)
              × (found (with_next l.items y.tree) y.scopes y.rest ≡ x)
          by_test false test e = absurd cc
          by_test true test e =
              let e' : and_then (next t.at s rest) (λ y. ends (with_next l.items y.tree) y.scopes y.rest) ≡ done x =
              cc in
              let b = bind_ok e' in
              (t, rest, b.0, none, is, test, b.1, ok_is b.2)

      by_ending : (o : Option E) → l.ending ≡ o → comma_turn_by next o l.items s ts ≡ Some (done x)
          → (t : Lexeme) × (rest : List Lexeme) × (y : Found (Next T E)) × (l.ending ≡ None) × (ts ≡ t ∷ rest)
          × (is_comma t.kind ≡ true) × (next t.at s rest ≡ done y)
          × (found (with_next l.items y.tree) y.scopes y.rest ≡ x)
      by_ending (Some e') is e = absurd cc
      by_ending None is e = by_tokens ts refl is e

  -- what holds of the first item, and of items with one more
  pub listed_keeps : (P : List T → Type 0) (s : HeldScopes) (ts : List Lexeme) (x : Found (CommaList T E))
      → ((a : Found T) → first s ts ≡ done a → P (a.tree ∷ [])) → ((xs : List T) (y : T) → P xs → P (xs ++ y ∷ [])) →
      listed first next s ts ≡ done x → P x.tree.items
  unfolding listed
  listed_keeps P s ts x one more e =
      let a = bind_ok e in
      run-keep (comma_turn next) (λ l t k. P l.items) step
      (record { items = a.0.tree ∷ []; ending = None }) a.0.scopes a.0.rest x (one a.0 a.1) a.2
    where
      with_one : (xs : List T) (y : Next T E) → P xs → P (with_next xs y).items
      with_one xs (one_more y) h = more xs y h
      with_one xs (list_end e) h = h

      step : (l : CommaList T E) (t : HeldScopes) (k : List Lexeme) (x : Found (CommaList T E)) → P l.items
          → comma_turn next l t k ≡ Some (done x) → P x.tree.items
      step l t k x h e =
          let p = list_parts l t k x e in
          subst (λ (x : Found (CommaList T E)). P x.tree.items) p.7 (with_one l.items p.2.tree h)

  module _ (next_falls : (comma : ℕ) → Falls (next comma)) where
    pub comma_turn_shrinks : TurnShrinks (comma_turn next)
    comma_turn_shrinks l s ts x e =
        let p = list_parts l s ts x e in
        let less : length p.2.rest ≤ length p.1 = next_falls p.0.at s p.1 p.2 p.6 in
        let same : length ts ≡ suc (length p.1) = ap length p.4 in
        subst (λ (x : Found (CommaList T E)). length x.rest < length ts) p.7 (omega (arith, less, same))

    pub listed_shrinks : Shrinks first → Shrinks (listed first next)
    unfolding listed
    listed_shrinks shrinks s ts x e =
        let a = bind_ok e in
        let less : length a.0.rest < length ts = shrinks s ts a.0 a.1 in
        run-keep (comma_turn next) (λ l s k. length k < length ts)
        (λ l s k x h e. let less : length x.rest < length k = comma_turn_shrinks l s k x e in omega arith)
        (record { items = a.0.tree ∷ []; ending = None }) a.0.scopes a.0.rest x less a.2

    pub listed_falls : Falls first → Falls (listed first next)
    unfolding listed
    listed_falls falls s ts x e =
        let a = bind_ok e in
        let less : length a.0.rest ≤ length ts = falls s ts a.0 a.1 in
        run-keep (comma_turn next) (λ l s k. length k ≤ length ts)
        (λ l s k x h e. let less : length x.rest < length k = comma_turn_shrinks l s k x e in omega arith)
        (record { items = a.0.tree ∷ []; ending = None }) a.0.scopes a.0.rest x less a.2

  module _ (all : List Lexeme) (numbered : IsNumbered all) (form : Form T) (ending : Ending E) (room : ℕ) where
    pub comma_before : (t : Lexeme) (ts : List Lexeme) → IsTail all (t ∷ ts) → is_comma t.kind ≡ true → zero < length ts
        → t ∷ ts ≡ separated ts
    comma_before t [] tail is more = absurd (omega (arith, more))
    comma_before t (u ∷ ts) tail is more = comma_is all numbered t u ts tail (comma_kind t.kind is)

    pub comma_text : (t : Lexeme) (ts : List Lexeme) → is_comma t.kind ≡ true → t ∷ ts ≡ sign_text Comma t.at ts
    comma_text t ts is = ap (λ (kind : TokenKind). record { kind = kind; at = t.at } ∷ ts) (comma_kind t.kind is)

    -- behind a first item of which something was read before
    pub listed_sound_from : ((comma : ℕ) (s : HeldScopes) (ts : List Lexeme) (x : Found (Next T E)) → IsTail all ts
        → next comma s ts ≡ done x → NextTakes all form ending room comma s ts x.tree x.scopes x.rest) →
        (s : HeldScopes) (ts : List Lexeme) (s₁ : HeldScopes) (ts₁ : List Lexeme) (x : Found (CommaList T E))
        → ((a : Found T) → first s₁ ts₁ ≡ done a → Takes all form room s ts a) → listed first next s₁ ts₁ ≡ done x →
        Takes all (list_form form ending) room s ts x
    unfolding listed
    listed_sound_from next_sound s ts s₁ ts₁ x sound e =
        let a = bind_ok e in
        let i = sound a.0 a.1 in
        run-keep (comma_turn next) (λ l t k. Takes all (list_form form ending) room s ts (found l t k)) step
        (record { items = a.0.tree ∷ []; ending = None }) a.0.scopes a.0.rest x
        (record {
          spelled = i.spelled;
          fits = (tt, (i.fits, tt), tt);
          named = behind_is (row_scopes form []) i.named refl;
          low = omega (arith, i.low);
          left = i.left;
        }) a.2
      where
        step : (l : CommaList T E) (t : HeldScopes) (k : List Lexeme) (x : Found (CommaList T E))
            → Takes all (list_form form ending) room s ts (found l t k) → comma_turn next l t k ≡ Some (done x) →
            Takes all (list_form form ending) room s ts x
        step l t k x h e =
            let p = list_parts l t k x e in
            subst (Takes all (list_form form ending) room s ts) p.7
            (by_next p.0 p.1 p.2.tree p.2.scopes p.2.rest p.3 p.4 p.5
            (next_sound p.0.at t p.1 p.2 (tail_of all p.0 p.1 (subst (IsTail all) p.4 h.left)) p.6))
          where
            spelled : l.ending ≡ None → ts ≡ commas_text form ending l.items k
            spelled none = subst
                (λ (o : Option E). ts ≡ commas_text form ending l.items (ending_text form ending o k)) none h.spelled

            by_next : (u : Lexeme) (rest : List Lexeme) (y : Next T E) (v : HeldScopes) (k' : List Lexeme)
                → l.ending ≡ None → k ≡ u ∷ rest → is_comma u.kind ≡ true →
                NextTakes all form ending room u.at t rest y v k'
                → Takes all (list_form form ending) room s ts (found (with_next l.items y) v k')
            by_next u rest (one_more y) v k' none is comma i =
                let more : zero < length rest = omega (arith, i.1) in
                record {
                  spelled = spelled none ∙ ap (commas_text form ending l.items)
                      (is ∙ comma_before u rest (subst (IsTail all) is h.left) comma more ∙ ap separated i.0.spelled)
                      ∙ sym (commas_push form ending l.items y k' h.fits.0);
                  fits = (item_push form ending l.items y, fit_push form l.items y h.fits.1 i.0.fits, tt);
                  named = scopes_push form l.items y s t v h.named i.0.named;
                  low = height_push form l.items y room h.low i.0.low;
                  left = i.0.left;
                }
            by_next u rest (list_end e) v k' none is comma i =
                record {
                  spelled = spelled none ∙ ap (commas_text form ending l.items) (is ∙ comma_text u rest comma ∙ i.0);
                  fits = (h.fits.0, h.fits.1, i.1);
                  named = h.named ∙ ap Some (sym i.2);
                  low = h.low;
                  left = i.3;
                }

    pub listed_sound : IsSound all form room first →
        ((comma : ℕ) (s : HeldScopes) (ts : List Lexeme) (x : Found (Next T E)) → IsTail all ts
        → next comma s ts ≡ done x → NextTakes all form ending room comma s ts x.tree x.scopes x.rest) →
        IsSound all (list_form form ending) room (listed first next)
    listed_sound sound next_sound s ts x tail e =
        listed_sound_from next_sound s ts s ts x (λ a e. sound s ts a tail e) e

  -- What stands behind a first item is read, whatever read that item.
  module _ (form : Form T) (ending : Ending E) (stops : T → TokenKind → Bool) (room : ℕ)
      (next_falls : (comma : ℕ) → Falls (next comma))
      (next_complete : (comma : ℕ) (x : T) (s t : HeldScopes) (k : List Lexeme) → form.Fits x → form.scopes x s ≡ Some t
      → form.height x ≤ room → stops x (kind_at k) ≡ true →
      next comma s (form.text x k) ≡ done (found (one_more x) t k))
      (comma_stops : (x : T) → stops x (kinds.Punct Comma) ≡ true) where
    -- the end of a list: what ended it behind a comma, or a token that is no comma
    abbrev pub EndsList : Option E → HeldScopes → List Lexeme → Type 0
    EndsList None s k = (is_comma (kind_at k) ≡ false) × ((x : T) → stops x (kind_at k) ≡ true)
    EndsList (Some e) s k =
        (comma : ℕ) × (ts : List Lexeme) × (ending.text e k ≡ sign_text Comma comma ts)
        × (next comma s ts ≡ done (found (list_end e) s k))

    no_turn : (xs : List T) (s : HeldScopes) (k : List Lexeme) → is_comma (kind_at k) ≡ false
        → comma_turn next (record { items = xs; ending = None }) s k ≡ None
    no_turn xs s [] is = refl
    no_turn xs s (t ∷ k) is = rw is refl

    last_stops : (last : Option E) (x : T) (s : HeldScopes) (k : List Lexeme) → EndsList last s k
        → stops x (kind_at (ending_text form ending last k)) ≡ true
    last_stops None x s k h = h.1 x
    last_stops (Some e) x s k h = rw h.2 (comma_stops x)

    pub others_stop_on : (xs : List T) (last : Option E) (x : T) (s : HeldScopes) (k : List Lexeme) → EndsList last s k
        → stops x (kind_at (others_text form ending xs (ending_text form ending last k))) ≡ true
    others_stop_on [] last x s k h = last_stops last x s k h
    others_stop_on (y ∷ ys) last x s k h = comma_stops x

    pub others_read_on : (xs known : List T) (last : Option E) (s t : HeldScopes) (k : List Lexeme) → AllFit form xs
        → row_scopes form xs s ≡ Some t → row_height form xs ≤ room → EndsList last t k →
        run (comma_turn next) (record { items = known; ending = None }) s
        (others_text form ending xs (ending_text form ending last k))
        ≡ done (found (record { items = known ++ xs; ending = last }) t k)
    others_read_on [] known None s t k h n l ended =
        run_ends (comma_turn next) (comma_turn_shrinks next_falls) (record { items = known; ending = None }) s k
        (no_turn known s k ended.0) ∙
        ap (λ (o : Option HeldScopes). done (found (record { items = known; ending = None }) (from o) k)) n ∙
        ap (λ (xs : List T). done (found (record { items = xs; ending = None }) t k)) (sym (append-nil known))
      where
        from : Option HeldScopes → HeldScopes
        from None = s
        from (Some t) = t
    others_read_on [] known (Some e) s t k h n l ended =
        let same : s ≡ t = cc in
        let turned : comma_turn next (record { items = known; ending = None }) s (sign_text Comma ended.0 ended.1)
        ≡ Some (done (found (record { items = known; ending = Some e }) t k)) =
        ap Some (bind_is _
        (subst (λ (u : HeldScopes). next ended.0 u ended.1 ≡ done (found (list_end e) t k)) (sym same) ended.3) refl) in
        rw ended.2 (run_on (comma_turn next) (comma_turn_shrinks next_falls) (record { items = known; ending = None }) s
        (sign_text Comma ended.0 ended.1) (found (record { items = known; ending = Some e }) t k) turned ∙
        run_ends (comma_turn next) (comma_turn_shrinks next_falls)
        (record { items = known; ending = Some e }) t k refl ∙
        ap (λ (xs : List T). done (found (record { items = xs; ending = Some e }) t k)) (sym (append-nil known)))
    others_read_on (x ∷ xs) known last s t k h n l ended =
        let b = behind_ok (form.scopes x s) (row_scopes form xs) t n in
        let more = others_text form ending xs (ending_text form ending last k) in
        let is = next_complete (number_before (form.text x more)) x s b.0 more h.0 b.1 (omega (arith, l))
        (others_stop_on xs last x t k ended) in
        let rest = others_read_on xs (known ++ x ∷ []) last b.0 t k h.1 b.2 (omega (arith, l)) ended in
        run_on (comma_turn next) (comma_turn_shrinks next_falls) (record { items = known; ending = None }) s
        (separated (form.text x more)) (found (record { items = known ++ x ∷ []; ending = None }) b.0 more)
        (ap Some (bind_is _ is refl)) ∙ rest
        ∙ ap (λ (ys : List T). done (found (record { items = ys; ending = last }) t k)) (append_assoc known (x ∷ []) xs)

    pub listed_goes_on : (x : T) (xs : List T) (last : Option E) (s₁ s t : HeldScopes) (ts₁ k : List Lexeme)
        → first s₁ ts₁ ≡ done (found x s (others_text form ending xs (ending_text form ending last k)))
        → AllFit form xs →
        row_scopes form xs s ≡ Some t → row_height form xs ≤ room → EndsList last t k
        → listed first next s₁ ts₁ ≡ done (found (record { items = x ∷ xs; ending = last }) t k)
    unfolding listed
    listed_goes_on x xs last s₁ s t ts₁ k is h n low ended =
        bind_is _ is (others_read_on xs (x ∷ []) last s t k h n low ended)

  -- A list is read whole where each item is, before a comma and before what follows the list.
  module _ (form : Form T) (ending : Ending E) (stops : T → TokenKind → Bool) (room : ℕ)
      (next_falls : (comma : ℕ) → Falls (next comma))
      (first_complete : (x : T) (s t : HeldScopes) (k : List Lexeme) → form.Fits x → form.scopes x s ≡ Some t
      → form.height x ≤ room → stops x (kind_at k) ≡ true →
      first s (form.text x k) ≡ done (found x t k))
      (next_complete : (comma : ℕ) (x : T) (s t : HeldScopes) (k : List Lexeme) → form.Fits x → form.scopes x s ≡ Some t
      → form.height x ≤ room → stops x (kind_at k) ≡ true →
      next comma s (form.text x k) ≡ done (found (one_more x) t k))
      (comma_stops : (x : T) → stops x (kinds.Punct Comma) ≡ true) where
    -- the end of a list: what ended it behind a comma, or a token that is no comma
    abbrev pub IsListEnd : Option E → HeldScopes → List Lexeme → Type 0
    IsListEnd None s k = (is_comma (kind_at k) ≡ false) × ((x : T) → stops x (kind_at k) ≡ true)
    IsListEnd (Some e) s k =
        (comma : ℕ) × (ts : List Lexeme) × (ending.text e k ≡ sign_text Comma comma ts)
        × (next comma s ts ≡ done (found (list_end e) s k))

    same_end : (last : Option E) (s : HeldScopes) (k : List Lexeme) → IsListEnd last s k
        → EndsList form ending stops room next_falls next_complete comma_stops last s k
    same_end None s k h = h
    same_end (Some e) s k h = h

    pub others_stop : (xs : List T) (last : Option E) (x : T) (s : HeldScopes) (k : List Lexeme) → IsListEnd last s k
        → stops x (kind_at (others_text form ending xs (ending_text form ending last k))) ≡ true
    others_stop xs last x s k h =
        others_stop_on form ending stops room next_falls next_complete comma_stops xs last x s k (same_end last s k h)

    pub others_read : (xs known : List T) (last : Option E) (s t : HeldScopes) (k : List Lexeme) → AllFit form xs
        → row_scopes form xs s ≡ Some t → row_height form xs ≤ room → IsListEnd last t k →
        run (comma_turn next) (record { items = known; ending = None }) s
        (others_text form ending xs (ending_text form ending last k))
        ≡ done (found (record { items = known ++ xs; ending = last }) t k)
    others_read xs known last s t k h n l ended =
        others_read_on form ending stops room next_falls next_complete comma_stops xs known last s t k h n l
        (same_end last t k ended)

    pub listed_complete : (l : CommaList T E) (s t : HeldScopes) (k : List Lexeme) → HasItem form ending l.items
        → AllFit form l.items → row_scopes form l.items s ≡ Some t → row_height form l.items ≤ room →
        IsListEnd l.ending t k → listed first next s
        (commas_text form ending l.items (ending_text form ending l.ending k)) ≡ done (found l t k)
    unfolding listed
    listed_complete l s t k some h n low ended = by_items l.items l.ending some h n low ended
      where
        by_items : (xs : List T) (last : Option E) → HasItem form ending xs → AllFit form xs
            → row_scopes form xs s ≡ Some t → row_height form xs ≤ room → IsListEnd last t k →
            listed first next s (commas_text form ending xs (ending_text form ending last k))
            ≡ done (found (record { items = xs; ending = last }) t k)
        by_items [] last some h n low ended = absurd some
        by_items (x ∷ xs) last some h n low ended =
            let b = behind_ok (form.scopes x s) (row_scopes form xs) t n in
            let more = others_text form ending xs (ending_text form ending last k) in
            let is = first_complete x s b.0 more h.0 b.1 (omega (arith, low)) (others_stop_on form ending stops room
            next_falls next_complete comma_stops xs last x t k (same_end last t k ended)) in
            bind_is _ is (others_read_on form ending stops room next_falls next_complete comma_stops xs
            (x ∷ []) last b.0 t k h.1 b.2 (omega (arith, low)) (same_end last t k ended))
