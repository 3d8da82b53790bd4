-- Lists that are gone through from the first item on: what was seen, the last of it first, and what is left.
use Rattle.std.proofs.Common.{◌≡◌, ℕ, zero, suc, ◌+◌, ◌<◌, ◌≤◌, arith, List, [], ◌∷◌, ◌++◌, length, take, drop, reverse, slice_index_or, sym, ◌∙◌, ap}
use Rattle.std.proofs.lemmas.List.{reverse-append}
use Rattle.qual_base.proofs.Lists.{take_whole}

module _ {A : Type 0} where
  -- all of them
  pub all_reversed : (xs : List A) (i : ℕ) → length xs ≤ i → reverse (take i xs) ≡ reverse xs
  all_reversed xs i le = ap reverse (take_whole xs i le)

  taken_more : (xs : List A) (i : ℕ) (x : A) → x ≡ slice_index_or xs i x → i < length xs
      → take (i + 1) xs ≡ take i xs ++ x ∷ []
  taken_more [] i x is lt = absurd (omega arith)
  taken_more (y ∷ xs) zero x is lt = ap (λ z. z ∷ []) (sym is)
  taken_more (y ∷ xs) (suc i) x is lt =
      let e : suc i + 1 ≡ suc (i + 1) = omega arith in
      rw e (ap (λ ys. y ∷ ys) (taken_more xs i x is (omega arith)))

  -- the next one is the newest
  pub one_reversed : (xs : List A) (i : ℕ) (x : A) → x ≡ slice_index_or xs i x → i < length xs
      → reverse (take (i + 1) xs) ≡ x ∷ reverse (take i xs)
  one_reversed xs i x is lt = ap reverse (taken_more xs i x is lt) ∙ reverse-append (take i xs) (x ∷ [])

  -- what is left begins with the next one
  pub next_dropped : {B : Type 0} (f : List A → B) (xs : List A) (i : ℕ) (x : A) → x ≡ slice_index_or xs i x
      → i < length xs
      → f (drop i xs) ≡ f (x ∷ drop (i + 1) xs)
  next_dropped f [] i x is lt = absurd (omega arith)
  next_dropped f (y ∷ xs) zero x is lt = ap (λ z. f (z ∷ xs)) (sym is)
  next_dropped f (y ∷ xs) (suc i) x is lt =
      let e : suc i + 1 ≡ suc (i + 1) = omega arith in
      rw e (next_dropped f xs i x is (omega arith))
