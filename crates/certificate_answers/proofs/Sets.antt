-- Sets of elements by what is in them.
use Rattle.std.proofs.Common.{◌≡◌, ℕ, true, sym, ◌∙◌, ap, arith, inl, inr}
use Rattle.std.specs.Int.{bit_at}
use Rattle.std.proofs.lemmas.Bool.Decides.{eqb_tells}
use Rattle.std.proofs.lemmas.Nat.Bits.{bit_at-lt, bit_at-zero, same_from_bits}
use Rattle.closure_check.specs.Parts.{has}
use Rattle.closure_check.proofs.BitSets.{bit_of, of_bit}

-- an element that is not in a set has bit 0 there
no_bit : (set e : ℕ) → (has set e ≡ true → ⊥) → bit_at set e ≡ 0
no_bit set e none = elim (eqb_tells (bit_at set e) 1) [
  | inl is ↦ absurd (none (of_bit set e is.1))
  | inr not ↦ let few = bit_at-lt set e in let other = not.1 in omega (arith, few, other)
]

-- the empty set has nothing
pub none_in : (set e : ℕ) → set ≡ 0 → has set e ≡ true → ⊥
none_in set e none h = omega (arith, bit_of set e h, ap (λ (n : ℕ). bit_at n e) none, bit_at-zero e)

-- and what has nothing is empty
pub empty_of : (set : ℕ) → ((e : ℕ) → has set e ≡ true → ⊥) → set ≡ 0
empty_of set none = same_from_bits set 0 (λ e. no_bit set e (none e) ∙ sym (bit_at-zero e))

-- sets with the same elements are the same
pub same_set : (one other : ℕ) → ((e : ℕ) → has one e ≡ true → has other e ≡ true)
    → ((e : ℕ) → has other e ≡ true → has one e ≡ true) → one ≡ other
same_set one other to from = same_from_bits one other (λ e. elim (eqb_tells (bit_at one e) 1) [
  | inl is ↦ is.1 ∙ sym (bit_of other e (to e (of_bit one e is.1)))
  | inr not ↦
      let none : has one e ≡ true → ⊥ = λ h. not.1 (bit_of one e h) in
      no_bit one e none ∙ sym (no_bit other e (λ h. none (from e h)))
])
