-- The parts of a text round the bytes that pass a test.
use Rattle.std.proofs.Common.{◌≡◌, ℕ, zero, suc, ◌<◌, Bool, true, false, List, [], ◌∷◌, length, get_or, take, drop, refl, ap, arith, cond}
use Rattle.std.specs.List.{slice_split, onto_first}
use Rattle.std.proofs.lemmas.Bool.{false_from_ne_true}

module _ (test : ℕ → Bool) where
  -- the first part ends before the first byte that passes
  pub split_found : (xs : List ℕ) (k : ℕ) → k < length xs → test (get_or xs k 0) ≡ true
      → ((j : ℕ) → j < k → test (get_or xs j 0) ≡ true → ⊥) →
      slice_split test xs ≡ take k xs ∷ slice_split test (drop (suc k) xs)
  split_found [] k below here none = absurd (omega arith)
  split_found (x ∷ xs) zero below here none = rw here refl
  split_found (x ∷ xs) (suc k) below here none =
      let ends : test x ≡ false = false_from_ne_true (test x) (none 0 (omega arith)) in
      let shorter : k < length xs = omega arith in
      let deeper : slice_split test xs ≡ take k xs ∷ slice_split test (drop (suc k) xs) =
      split_found xs k shorter here (λ j h. none (suc j) (omega arith)) in
      rw (ends, deeper) refl

  -- without such a byte the text is the one part
  pub split_whole : (xs : List ℕ) → ((j : ℕ) → j < length xs → test (get_or xs j 0) ≡ true → ⊥)
      → slice_split test xs ≡ xs ∷ []
  split_whole [] none = refl
  split_whole (x ∷ xs) none =
      let ends : test x ≡ false = false_from_ne_true (test x) (none 0 (omega arith)) in
      let deeper : slice_split test xs ≡ xs ∷ [] = split_whole xs (λ j h. none (suc j) (omega arith)) in
      rw (ends, deeper) refl

  -- there is a first part
  pub split_parts : (xs : List ℕ) → (part : List ℕ) × (parts : List (List ℕ)) × (slice_split test xs ≡ part ∷ parts)
  split_parts [] = ([], [], refl)
  split_parts (x ∷ xs) =
      let deeper = split_parts xs in
      elim (test x) as (λ b. (part : List ℕ) × (parts : List (List ℕ))
      × (cond b ([] ∷ slice_split test xs) (onto_first x (slice_split test xs)) ≡ part ∷ parts))
      [ true ↦ ([], slice_split test xs, refl) | false ↦ (x ∷ deeper.0, deeper.1, ap (onto_first x) deeper.2) ]
