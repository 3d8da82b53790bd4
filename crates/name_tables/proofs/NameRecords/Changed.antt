-- One item of a list is changed.
use Rattle.std.proofs.Common.{arith, ◌≡◌, ℕ, inl, inr, true, false, zero, suc, ◌<◌, ◌≤◌, refl, ◌∙◌, ap}
use Rattle.std.proofs.Common.{List, [], ◌∷◌, length, slice_index_or, slice_set}
use Rattle.std.proofs.lemmas.Bool.{cases_lt}
use Rattle.name_rules.specs.Scopes.{changed_at}

module _ {X : Type 0} where
  pub changed : (xs : List X) (n : ℕ) (x y : X) (f : X → X) → n < length xs → x ≡ slice_index_or xs n x → y ≡ f x
      → slice_set xs n y ≡ changed_at xs n f
  changed [] n x y f lt is made = absurd (omega arith)
  changed (z ∷ xs) zero x y f lt is made = ap (λ w. w ∷ xs) (made ∙ ap f is)
  changed (z ∷ xs) (suc n) x y f lt is made = ap (λ ys. z ∷ ys) (changed xs n x y f (omega arith) is made)

  pub unchanged : (xs : List X) (n : ℕ) (f : X → X) → length xs ≤ n → xs ≡ changed_at xs n f
  unchanged [] n f le = refl
  unchanged (z ∷ xs) zero f le = absurd (omega arith)
  unchanged (z ∷ xs) (suc n) f le = ap (λ ys. z ∷ ys) (unchanged xs n f (omega arith))

pub past : (n m : ℕ) → (n < m → false ≡ true) → m ≤ n
past n m out = elim (cases_lt n m) [ inl lt ↦ absurd (let no = out lt in cc) | inr ge ↦ ge ]
