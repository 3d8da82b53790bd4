-- What tests of numbers, and tests that are joined, say.
use Rattle.std.proofs.Common.{◌≡◌, ℕ, zero, suc, ◌<◌, ◌≤◌, ◌⊎◌, inl, inr, Bool, true, false, ◌&&◌, ◌||◌, nat_eq, nat_lt, Some, refl, sym, ◌∙◌, ap, arith}
use Rattle.std.proofs.lemmas.Bool.{eq-eqb, eqb-true}
use Rattle.std.proofs.lemmas.Bool.Decides.{eqb_tells, leb_tells}

-- where two tests hold, each of them does
pub and_first : (a b : Bool) → (a && b) ≡ true → a ≡ true
and_first true b h = refl
and_first false b h = absurd cc

pub and_second : (a b : Bool) → (a && b) ≡ true → b ≡ true
and_second true b h = h
and_second false b h = absurd cc

pub and_false : (b : Bool) → (b && false) ≡ false
and_false true = refl
and_false false = refl

pub or_false : (b : Bool) → (b || false) ≡ b
or_false true = refl
or_false false = refl

-- tests are the same where each holds if the other does
pub same_test : (a b : Bool) → (a ≡ true → b ≡ true) → (b ≡ true → a ≡ true) → a ≡ b
same_test true b on back = sym (on refl)
same_test false true on back = back refl
same_test false false on back = refl

-- numbers that a test finds equal are the same
pub eq_is : (m n : ℕ) → nat_eq m n ≡ true → m ≡ n
eq_is m n is = elim (eqb_tells m n) [
  | inl a ↦ a.1
  | inr b ↦ absurd (let no : false ≡ true = sym b.0 ∙ is in cc)
]

-- numbers that a test finds different are so the other way round
pub ne_turned : (m n : ℕ) → nat_eq m n ≡ false → nat_eq n m ≡ false
ne_turned m n e = by (nat_eq n m) refl
  where
    by : (b : Bool) → nat_eq n m ≡ b → b ≡ false
    by false is = refl
    by true is = let same : nat_eq m n ≡ true = eq-eqb m n (sym (eqb-true n m is)) in absurd cc

-- a test finds different numbers different
pub not_equal : (m n : ℕ) → (m ≡ n → ⊥) → nat_eq m n ≡ false
not_equal m n other = elim (eqb_tells m n) [ inl same ↦ absurd (other same.1) | inr is ↦ is.0 ]

-- the test whether a number is below another tells it
pub below_is : (a b : ℕ) → nat_lt a b ≡ true → a < b
below_is a b e =
    elim (leb_tells (suc a) b)
    [ inl is ↦ omega (arith, is.1) | inr not ↦ let wrong : true ≡ false = sym e ∙ not.0 in absurd cc ]

pub is_below : (a b : ℕ) → a < b → nat_lt a b ≡ true
is_below a b h = elim (leb_tells (suc a) b) [ inl is ↦ is.0 | inr not ↦ absurd (omega (arith, h, not.1)) ]

pub not_below : (a b : ℕ) → b ≤ a → nat_lt a b ≡ false
not_below a b h = elim (leb_tells (suc a) b) [ inl is ↦ absurd (omega (arith, h, is.1)) | inr not ↦ not.0 ]

-- of two numbers one is below the other, or they are the same
pub in_order : (n m : ℕ) → (n < m) ⊎ ((n ≡ m) ⊎ (m < n))
in_order zero zero = inr (inl refl)
in_order zero (suc m) = inl (omega arith)
in_order (suc n) zero = inr (inr (omega arith))
in_order (suc n) (suc m) = elim (in_order n m) [
  | inl lt ↦ inl (omega (arith, lt))
  | inr other ↦ elim other [
    | inl e ↦ inr (inl (ap suc e))
    | inr lt ↦ inr (inr (omega (arith, lt)))
  ]
]

-- what stands in `Some` is told by it
pub some_number : {u v : ℕ} → Some u ≡ Some v → u ≡ v
some_number e = cc

pub some_is : {A : Type 0} {x y : A} → Some x ≡ Some y → x ≡ y
some_is e = cc
