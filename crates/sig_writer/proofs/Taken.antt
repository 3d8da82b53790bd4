-- Lists that are gone through from the first item on.
use Rattle.std.proofs.Common.{◌≡◌, ℕ, zero, suc, ◌+◌, ◌<◌, arith, List, [], ◌∷◌, ◌++◌, length, take, reverse, slice_index_or, sym, ◌∙◌, ap}
use Rattle.std.proofs.Common.{Bool, map}
use Rattle.std.specs.List.{filter, flat_map}
use Rattle.std.proofs.lemmas.List.{append-nil, map-append, reverse-append}
use Rattle.std.proofs.lemmas.List.Elements.{filter-append}
use Rattle.std.proofs.lemmas.Grind.{flat_map-append}

module _ {A : Type 0} where
  -- one more
  pub taken_more : (xs : List A) (i : ℕ) (x : A) → x ≡ slice_index_or xs i x → i < length xs
      → take (i + 1) xs ≡ take i xs ++ x ∷ []
  taken_more [] i x is lt = absurd (omega arith)
  taken_more (y ∷ xs) zero x is lt = ap (λ z. z ∷ []) (sym is)
  taken_more (y ∷ xs) (suc i) x is lt =
      let e : suc i + 1 ≡ suc (i + 1) = omega arith in
      rw e (ap (λ ys. y ∷ ys) (taken_more xs i x is (omega arith)))

  -- the next one is the newest
  pub one_reversed : (xs : List A) (i : ℕ) (x : A) → x ≡ slice_index_or xs i x → i < length xs
      → reverse (take (i + 1) xs) ≡ x ∷ reverse (take i xs)
  one_reversed xs i x is lt = ap reverse (taken_more xs i x is lt) ∙ reverse-append (take i xs) (x ∷ [])

-- what is made of each, behind one more
pub flat_more : {A B : Type 0} (f : A → List B) (xs : List A) (i : ℕ) (x : A) → x ≡ slice_index_or xs i x
    → i < length xs
    → flat_map f (take (i + 1) xs) ≡ flat_map f (take i xs) ++ f x
flat_more f xs i x is lt =
    ap (flat_map f) (taken_more xs i x is lt)
    ∙ flat_map-append f (take i xs) (x ∷ [])
    ∙ ap (λ ys. flat_map f (take i xs) ++ ys) (append-nil (f x))

-- those that pass a test, behind one more
pub kept_more : {A B : Type 0} (p : A → Bool) (f : A → B) (xs : List A) (i : ℕ) (x : A) → x ≡ slice_index_or xs i x
    → i < length xs
    → map f (filter p (take (i + 1) xs)) ≡ map f (filter p (take i xs)) ++ map f (filter p (x ∷ []))
kept_more p f xs i x is lt =
    ap (λ ys. map f (filter p ys)) (taken_more xs i x is lt)
    ∙ ap (map f) (filter-append p (take i xs) (x ∷ []))
    ∙ map-append f (filter p (take i xs)) (filter p (x ∷ []))
