-- Texts that lack a byte.
use Rattle.std.proofs.Common.{◌≡◌, ◌≢◌, ℕ, zero, suc, ◌/◌, ◌%◌, ◌<◌, ◌==◌, Bool, true, false, ◌||◌, List, [], ◌∷◌, ◌++◌, All, refl, arith, cond, ne_eqb, decimal}
use Rattle.std.proofs.lemmas.List.Elements.{All-nil, All-cons, All-head, All-tail, All-weaker}
use Rattle.std.proofs.lemmas.Bool.{eqb-false, or_parts, or_from}
use Rattle.std.specs.Fmt.{digits, digits_onto, digit_glyph}

module _ (c : ℕ) where
  abbrev pub has : List ℕ → Bool
  has [] = false
  has (b ∷ bs) = b == c || has bs

  pub lacks_of : (text : List ℕ) → All (λ b. b ≢ c) text → has text ≡ false
  lacks_of [] all = refl
  lacks_of (b ∷ bs) all =
      or_from (b == c) (has bs) (ne_eqb b c (All-head (λ b. b ≢ c) b bs all))
      (lacks_of bs (All-tail (λ b. b ≢ c) b bs all))

  pub lacks_append : (xs ys : List ℕ) → has xs ≡ false → has ys ≡ false → has (xs ++ ys) ≡ false
  lacks_append [] ys p q = q
  lacks_append (x ∷ xs) ys p q =
      let parts = or_parts (x == c) (has xs) p in
      or_from (x == c) (has (xs ++ ys)) parts.0 (lacks_append xs ys parts.1 q)

  pub all_lack : (text : List ℕ) → has text ≡ false → All (λ b. (b == c) ≡ false) text
  all_lack [] p = All-nil (λ b. (b == c) ≡ false)
  all_lack (b ∷ bs) p =
      let parts = or_parts (b == c) (has bs) p in
      All-cons (λ b. (b == c) ≡ false) b bs parts.0 (all_lack bs parts.1)

  pub none_of : (text : List ℕ) → has text ≡ false → All (λ b. b ≢ c) text
  none_of text p = All-weaker (λ b. (b == c) ≡ false) (λ b. b ≢ c) (λ b. eqb-false b c) text (all_lack text p)

  glyph_lacks : (d : ℕ) → c < 48 → d < 10 → (digit_glyph false d == c) ≡ false
  glyph_lacks d low small = grind arith

  onto_lacks : (k n : ℕ) (acc : List ℕ) → c < 48 → has acc ≡ false → has (digits_onto k 10 false n acc) ≡ false
  onto_lacks zero n acc low p = p
  onto_lacks (suc k) n acc low p =
      let small : n % 10 < 10 = omega arith in
      let more : has (digit_glyph false (n % 10) ∷ acc) ≡ false =
      or_from _ (has acc) (glyph_lacks (n % 10) low small) p in
      elim (n / 10 == 0) as (λ b. has (cond b (digit_glyph false (n % 10) ∷ acc)
      (digits_onto k 10 false (n / 10) (digit_glyph false (n % 10) ∷ acc))) ≡ false)
      [ true ↦ more | false ↦ onto_lacks k (n / 10) (digit_glyph false (n % 10) ∷ acc) low more ]

  pub decimal_lacks : (n : ℕ) → c < 48 → has (decimal n) ≡ false
  unfolding digits
  decimal_lacks n low = onto_lacks 64 n [] low refl
