-- Sets of elements as bits of a number.
use Rattle.std.proofs.Common.{◌≡◌, ℕ, ◌<◌, ◌≤◌, ◌^◌, ◌-◌, ◌/◌, ◌↔◌, Bool, true, false, nat_eq, min, List, length, refl, sym, ◌∙◌, ap, arith, inl, inr, bit_and}
use Rattle.std.specs.Int.{bit_at}
use Rattle.std.proofs.lemmas.Bool.{cases_lt}
use Rattle.std.proofs.lemmas.Bool.Decides.{eqb_tells}
use Rattle.std.proofs.lemmas.List.{get_or_past}
use Rattle.std.proofs.lemmas.Nat.Bits.{bit_at-lt, bit_at-zero, bit_at_above, bit_at_and, bit_at_ones, bit_at_ones_above, ones_shr, same_from_bits}
use Rattle.lattice_core.proofs.Bits.{and_both}
use Rattle.closure_check.specs.Parts.{has, is_in}
use Rattle.closure_check.specs.Checking.{IsSubset}

-- the bit of a number that a set has is one
pub bit_of : (set e : ℕ) → has set e ≡ true → bit_at set e ≡ 1
bit_of set e h =
    elim (eqb_tells (bit_at set e) 1)
    [ inl is ↦ is.1 | inr not ↦ let wrong : true ≡ false = sym h ∙ not.0 in absurd cc ]

pub of_bit : (set e : ℕ) → bit_at set e ≡ 1 → has set e ≡ true
of_bit set e h = elim (eqb_tells (bit_at set e) 1) [ inl is ↦ is.0 | inr not ↦ absurd (not.1 h) ]

pub subset_of : (one other : ℕ) → bit_and one other ≡ one → IsSubset one other
subset_of one other same e h = of_bit other e (and_both one other e (ap (λ n. bit_at n e) same ∙ bit_of one e h)).1

-- the lesser of two bits is the first where the second is set whenever the first is
least_is : (x y : ℕ) → x < 2 → y < 2 → (x ≡ 1 → y ≡ 1) → min x y ≡ x
least_is x y one two on = elim (eqb_tells x 1) [
  | inl is ↦ let same : y ≡ 1 = on is.1 in omega (arith, is.1, same)
  | inr not ↦ let none : x ≡ 0 = omega (arith, one, not.1) in omega (arith, none)
]

-- what a subset and its set have in common is the subset
pub of_subset : (one other : ℕ) → IsSubset one other → bit_and one other ≡ one
of_subset one other within =
    same_from_bits (bit_and one other) one (λ e. bit_at_and one other e
    ∙ least_is (bit_at one e) (bit_at other e) (bit_at-lt one e) (bit_at-lt other e)
    (λ is. bit_of other e (within e (of_bit one e is))))

-- a set of 64 bits has no more
pub none_above : (set e : ℕ) → set < 2 ^ 64 → 64 ≤ e → has set e ≡ false
none_above set e small high = by_test (has set e) refl
  where
    by_test : (b : Bool) → has set e ≡ b → has set e ≡ false
    by_test false is = is
    by_test true is = absurd (omega (arith, bit_of set e is, bit_at_above set 64 e small high))

pub eq_to : (a b : ℕ) → a ≡ b → nat_eq a b ≡ true
eq_to a b h = elim (eqb_tells a b) [ inl is ↦ is.0 | inr not ↦ absurd (not.1 h) ]

-- past the last variable the sets are empty
pub none_past : (sets : List ℕ) (v e : ℕ) → length sets ≤ v → is_in sets v e ≡ false
none_past sets v e past =
    ap (λ (set : ℕ). has set e) (get_or_past sets v 0 past) ∙ ap (λ (bit : ℕ). nat_eq bit 1) (bit_at-zero e)

-- the set of all elements of a number below 64
pub all_elements : (size set : ℕ) → size ≤ 64 → set ≡ (2 ^ 64 - 1) / 2 ^ (64 - size) → (e : ℕ)
    → (has set e ≡ true) ↔ (e < size)
all_elements size set few is e =
    let some : 64 - (64 - size) ≡ size = omega (arith, few) in
    let ones : set ≡ 2 ^ size - 1 = is ∙ ones_shr 64 (64 - size) (omega arith) ∙ ap (λ (n : ℕ). 2 ^ n - 1) some in (
      λ h. elim (cases_lt e size) [
        | inl low ↦ low
        | inr high ↦
            absurd (omega (arith, bit_of set e h, ap (λ (n : ℕ). bit_at n e) ones ∙ bit_at_ones_above size e high))
      ],
      λ low. of_bit set e (ap (λ (n : ℕ). bit_at n e) ones ∙ bit_at_ones size e low),
    )
