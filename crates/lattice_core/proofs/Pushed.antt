-- A list with one item more.
use Rattle.std.proofs.Common.{◌≡◌, ℕ, zero, suc, ◌⊎◌, inl, inr, List, [], ◌∷◌, ◌++◌, slice_get, Some, sym, ◌∙◌, ap, subst}

-- what stands there stood there, or is the new item
before_or_last : {A : Type 0} (xs : List A) (y : A) (n : ℕ) (x : A) → slice_get (xs ++ y ∷ []) n ≡ Some x
    → (slice_get xs n ≡ Some x) ⊎ (y ≡ x)
before_or_last [] y zero x is = inr cc
before_or_last [] y (suc n) x is = inl is
before_or_last (z ∷ xs) y zero x is = inl is
before_or_last (z ∷ xs) y (suc n) x is = before_or_last xs y n x is

-- what holds of each item and of the new one holds of each
pub each_pushed : {A : Type 0} (Is : A → Type 0) (old new : List A) (y : A) → new ≡ old ++ y ∷ []
    → ((n : ℕ) (x : A) → slice_get old n ≡ Some x → Is x) → Is y →
    (n : ℕ) (x : A) → slice_get new n ≡ Some x → Is x
each_pushed Is old new y more each last n x is =
    elim (before_or_last old y n x (sym (ap (λ xs. slice_get xs n) more) ∙ is)) [
      | inl before ↦ each n x before
      | inr same ↦ subst Is same last
    ]
