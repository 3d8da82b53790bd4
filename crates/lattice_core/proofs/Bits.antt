-- Single bits of sets that are joined or met.
use Rattle.std.proofs.Common.{◌≡◌, ℕ, ◌<◌, min, max, ◌⊎◌, sym, ◌∙◌, arith, bit_and, bit_or, ◌≤◌, List, length, get_or, subst, ◌^◌, inl, inr}
use Rattle.std.specs.Int.{bit_at}
use Rattle.std.proofs.lemmas.Nat.Bits.{bit_at-lt, bit_at_and, bit_at_or, bit_at-zero, bit_at-pow_other}
use Rattle.std.proofs.lemmas.List.{get_or_past}
use Rattle.std.proofs.lemmas.Bool.{cases_eq}

max_left : (x y : ℕ) → x ≡ 1 → y < 2 → max x y ≡ 1
max_left x y h l = omega arith

max_right : (x y : ℕ) → y ≡ 1 → x < 2 → max x y ≡ 1
max_right x y h l = omega arith

pub max_either : (x y : ℕ) → max x y ≡ 1 → (x ≡ 1) ⊎ (y ≡ 1)
max_either x y h = grind arith

min_both : (x y : ℕ) → x < 2 → y < 2 → min x y ≡ 1 → (x ≡ 1) × (y ≡ 1)
min_both x y p q h = (omega arith, omega arith)

min_of_both : (x y : ℕ) → x ≡ 1 → y ≡ 1 → min x y ≡ 1
min_of_both x y p q = omega arith

pub or_left : (a b i : ℕ) → bit_at a i ≡ 1 → bit_at (bit_or a b) i ≡ 1
or_left a b i h = bit_at_or a b i ∙ max_left (bit_at a i) (bit_at b i) h (bit_at-lt b i)

pub or_right : (a b i : ℕ) → bit_at b i ≡ 1 → bit_at (bit_or a b) i ≡ 1
or_right a b i h = bit_at_or a b i ∙ max_right (bit_at a i) (bit_at b i) h (bit_at-lt a i)

pub or_either : (a b i : ℕ) → bit_at (bit_or a b) i ≡ 1 → (bit_at a i ≡ 1) ⊎ (bit_at b i ≡ 1)
or_either a b i h = max_either (bit_at a i) (bit_at b i) (sym (bit_at_or a b i) ∙ h)

pub and_both : (a b i : ℕ) → bit_at (bit_and a b) i ≡ 1 → (bit_at a i ≡ 1) × (bit_at b i ≡ 1)
and_both a b i h = min_both (bit_at a i) (bit_at b i) (bit_at-lt a i) (bit_at-lt b i) (sym (bit_at_and a b i) ∙ h)

pub and_of_both : (a b i : ℕ) → bit_at a i ≡ 1 → bit_at b i ≡ 1 → bit_at (bit_and a b) i ≡ 1
and_of_both a b i p q = bit_at_and a b i ∙ min_of_both (bit_at a i) (bit_at b i) p q

-- nothing is in the empty set, and so in that of a variable past all
pub none_in : (e : ℕ) → bit_at 0 e ≡ 1 → ⊥
none_in e is = let zero_is : bit_at 0 e ≡ 0 = bit_at-zero e in omega (arith, is, zero_is)

pub none_past : (sets : List ℕ) (v e : ℕ) → length sets ≤ v → bit_at (get_or sets v 0) e ≡ 1 → ⊥
none_past sets v e past has = none_in e (subst (λ set. bit_at set e ≡ 1) (get_or_past sets v 0 past) has)

-- the set of one element has it alone
pub only_in : (n e : ℕ) → bit_at (2 ^ n) e ≡ 1 → e ≡ n
only_in n e is = elim (cases_eq e n) [
  | inl same ↦ same
  | inr ne ↦ let zero_is : bit_at (2 ^ n) e ≡ 0 = bit_at-pow_other n e ne in absurd (omega (arith, is, zero_is))
]
