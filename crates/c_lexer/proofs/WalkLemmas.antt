-- A test of lists that goes over them from the front, with a state: what it says of a front of some bytes.
use Rattle.std.proofs.Common.{◌≡◌, ℕ, zero, suc, ◌+◌, ◌-◌, ◌<◌, ◌≤◌, Bool, true, false, not, cond, ◌&&◌, ◌==◌, List, [], ◌∷◌, length, take, drop, get_or, refl, sym, ◌∙◌, ap, arith}
use Rattle.std.proofs.lemmas.Bool.{cases_lt, ne_eqb, eqb-true}
use Rattle.std.proofs.Common.{◌≢◌}
use Rattle.std.proofs.lemmas.List.{length-take, length-drop}
use Rattle.std.proofs.Common.{◌⊎◌, inl, inr}
use Rattle.c_lexer.specs.Spelling.{IsLongestOf, HasNone, is_quoted_tail}

-- the test of a front of at least `at` bytes, from the state s, is its test from the state s' behind the first `at`
abbrev pub Follows : {S : Type 0} → (S → List ℕ → Bool) → S → List ℕ → ℕ → S → Type 0
Follows test s bytes at s' =
    (m : ℕ) → at ≤ m → m ≤ length bytes → test s (take m bytes) ≡ test s' (take (m - at) (drop at bytes))

-- no front of at most `at` bytes passes
abbrev pub NoneUpTo : (List ℕ → Bool) → List ℕ → ℕ → Type 0
NoneUpTo test bytes at = (m : ℕ) → m ≤ at → m ≤ length bytes → test (take m bytes) ≡ false

-- the bytes between two places are the first of them, then those from the next place on
front_step : (bytes : List ℕ) (at m : ℕ) → at < m → m ≤ length bytes
    → take (m - at) (drop at bytes) ≡ get_or bytes at 0 ∷ take (m - (at + 1)) (drop (at + 1) bytes)
front_step [] at m lt le = absurd (omega arith)
front_step (c ∷ cs) zero zero lt le = absurd (omega arith)
front_step (c ∷ cs) zero (suc m) lt le =
    rw (let e : suc m - 0 ≡ suc m = omega arith in e, let e : suc m - (0 + 1) ≡ m = omega arith in e) refl
front_step (c ∷ cs) (suc at) zero lt le = absurd (omega arith)
front_step (c ∷ cs) (suc at) (suc m) lt le =
    rw (
      let e : suc m - suc at ≡ m - at = omega arith in e,
      let e : suc m - (suc at + 1) ≡ m - (at + 1) = omega arith in e,
      let e : suc at + 1 ≡ suc (at + 1) = omega arith in e,
    )
    (front_step cs at m (omega arith) (omega arith))

pub follows-start : {S : Type 0} (test : S → List ℕ → Bool) (s : S) (bytes : List ℕ) → Follows test s bytes 0 s
follows-start test s bytes m lo le = rw (let e : m - 0 ≡ m = omega arith in e) refl

pub follows-more : {S : Type 0} (test : S → List ℕ → Bool) (s s' s'' : S) (bytes : List ℕ) (at : ℕ)
    → Follows test s bytes at s' →
    ((r : List ℕ) → test s' (get_or bytes at 0 ∷ r) ≡ test s'' r) → Follows test s bytes (at + 1) s''
follows-more test s s' s'' bytes at f step m lo le =
    f m (omega arith) le ∙ ap (test s') (front_step bytes at m (omega arith) le)
    ∙ step (take (m - (at + 1)) (drop (at + 1) bytes))

-- the front that ends where nothing goes on
pub follows-stop : {S : Type 0} (test : S → List ℕ → Bool) (s s' : S) (bytes : List ℕ) (at : ℕ) → at ≤ length bytes
    → Follows test s bytes at s' →
    test s' [] ≡ true → ((r : List ℕ) → at < length bytes → test s' (get_or bytes at 0 ∷ r) ≡ false)
    → IsLongestOf (test s) bytes at
follows-stop test s s' bytes at within f done stop = record {
  inside = within;
  passes = f at (omega arith) within ∙ rw (let e : at - at ≡ 0 = omega arith in e) done;
  longest = λ m lt le. f m (omega arith) le ∙ ap (test s') (front_step bytes at m (omega arith) le)
      ∙ stop (take (m - (at + 1)) (drop (at + 1) bytes)) (omega arith);
}

-- no front passes up to here, and none that goes on
pub follows-none : {S : Type 0} (test : S → List ℕ → Bool) (s s' : S) (bytes : List ℕ) (at : ℕ)
    → Follows test s bytes at s' → NoneUpTo (test s) bytes at →
    ((r : List ℕ) → at < length bytes → test s' (get_or bytes at 0 ∷ r) ≡ false) → HasNone (test s) bytes
follows-none test s s' bytes at f none stop m le = by_order (cases_lt at m)
  where
    by_order : (at < m) ⊎ (m ≤ at) → test s (take m bytes) ≡ false
    by_order (inl lt) =
        f m (omega arith) le ∙ ap (test s') (front_step bytes at m (omega arith) le)
        ∙ stop (take (m - (at + 1)) (drop (at + 1) bytes)) (omega arith)
    by_order (inr lo) = none m lo le

-- where no front up to a place passes, and one byte more fails, no front up to the next place passes
pub none-more : {S : Type 0} (test : S → List ℕ → Bool) (s s'' : S) (bytes : List ℕ) (at : ℕ)
    → Follows test s bytes (at + 1) s'' → NoneUpTo (test s) bytes at →
    test s'' [] ≡ false → NoneUpTo (test s) bytes (at + 1)
none-more test s s'' bytes at f none fails m lo le = by_order (cases_lt at m)
  where
    by_order : (at < m) ⊎ (m ≤ at) → test s (take m bytes) ≡ false
    by_order (inl lt) = let e : m - (at + 1) ≡ 0 = omega arith in f m (omega arith) le ∙ rw e fails
    by_order (inr lo) = none m lo le

-- the bytes behind an opening quote, from behind a backslash or not
abbrev pub quoted_from : ℕ → Bool → List ℕ → Bool
quoted_from quote false bytes = is_quoted_tail quote bytes
quoted_from quote true [] = false
quoted_from quote true (c ∷ cs) = not (c == 10) && is_quoted_tail quote cs

pub quoted-nil : (quote : ℕ) (escaped : Bool) → quoted_from quote escaped [] ≡ false
quoted-nil quote true = refl
quoted-nil quote false = refl

-- the front that ends with the byte that has to be the last
pub follows-close : {S : Type 0} (test : S → List ℕ → Bool) (s s' : S) (bytes : List ℕ) (at : ℕ) → at < length bytes
    → Follows test s bytes at s' →
    test s' (get_or bytes at 0 ∷ []) ≡ true → ((d : ℕ) (r : List ℕ) → test s' (get_or bytes at 0 ∷ d ∷ r) ≡ false)
    → IsLongestOf (test s) bytes (at + 1)
follows-close test s s' bytes at within f done stop = record {
  inside = omega arith;
  passes =
      f (at + 1) (omega arith) (omega arith) ∙ ap (test s') (front_step bytes at (at + 1) (omega arith) (omega arith))
      ∙ rw (let e : at + 1 - (at + 1) ≡ 0 = omega arith in e) done;
  longest = longer;
}
  where
    by_rest : (r : List ℕ) → 0 < length r → test s' (get_or bytes at 0 ∷ r) ≡ false
    by_rest [] lt = absurd (omega arith)
    by_rest (d ∷ r) lt = stop d r

    longer : (m : ℕ) → at + 1 < m → m ≤ length bytes → test s (take m bytes) ≡ false
    longer m lt le =
        let rest = take (m - (at + 1)) (drop (at + 1) bytes) in
        let long : 0 < length rest = (let a = length-take (m - (at + 1)) (drop (at + 1) bytes) in
        let b = length-drop (at + 1) bytes in omega arith) in
        f m (omega arith) le ∙ ap (test s') (front_step bytes at m (omega arith) le) ∙ by_rest rest long

module _ (quote : ℕ) (plain : quote ≢ 92) (inline : quote ≢ 10) where
  pub quoted-newline : (escaped : Bool) (x : ℕ) → x ≡ 10 → (r : List ℕ) → quoted_from quote escaped (x ∷ r) ≡ false
  quoted-newline true x e r = rw e refl
  quoted-newline false x e [] = rw e (ne_eqb 10 quote (λ h. inline (sym h)))
  quoted-newline false x e (d ∷ r) = rw (e, ne_eqb 10 quote (λ h. inline (sym h))) refl

  pub quoted-last : (escaped : Bool) (x : ℕ) → (not escaped && x == quote) ≡ true
      → quoted_from quote escaped (x ∷ []) ≡ true
  quoted-last true x e = absurd cc
  quoted-last false x e = e

  pub quoted-past : (escaped : Bool) (x : ℕ) → (not escaped && x == quote) ≡ true → (d : ℕ) (r : List ℕ)
      → quoted_from quote escaped (x ∷ d ∷ r) ≡ false
  quoted-past true x e d r = absurd cc
  quoted-past false x e d r =
      let same : x ≡ quote = eqb-true x quote e in
      rw (e, let h : (x == 92) ≡ false = ne_eqb x 92 (λ h. plain (sym same ∙ h)) in h) refl

  pub quoted-more : (escaped : Bool) (x : ℕ) → (x ≡ 10 → ⊥) → (not escaped && x == quote) ≡ false → (r : List ℕ)
      → quoted_from quote escaped (x ∷ r) ≡ quoted_from quote (not escaped && x == 92) r
  quoted-more true x line e r = rw (ne_eqb x 10 line) refl
  quoted-more false x line e [] = by_test (x == 92) refl
    where
      by_test : (b : Bool) → (x == 92) ≡ b → (x == quote) ≡ quoted_from quote b []
      by_test true is = e
      by_test false is = e
  quoted-more false x line e (d ∷ r) = by_test (x == 92) refl
    where
      by_test : (b : Bool) → (x == 92) ≡ b
          → cond b (not (d == 10) && is_quoted_tail quote r)
          (not (x == quote) && not (x == 10) && is_quoted_tail quote (d ∷ r)) ≡ quoted_from quote b (d ∷ r)
      by_test true is = refl
      by_test false is = rw (e, ne_eqb x 10 line) refl
