-- The turns of a loop over a list of numbers.
use Rattle.std.proofs.Common.{◌≡◌, ℕ, zero, suc, ◌+◌, ◌≤◌, ◌<◌, inl, inr, List, [], ◌∷◌, length, get_or, sym, ◌∙◌, ap, subst, arith}
use Rattle.std.specs.List.{Contains}
use Rattle.std.proofs.lemmas.Bool.{cases_lt}
use Rattle.std.proofs.lemmas.List.{get_or_read}

-- one more is done
pub turn_more : (P : ℕ → Type 0) (items : List ℕ) (at item : ℕ) → at < length items → item ≡ get_or items at item
    → ((k n : ℕ) → k < at → get_or items k n ≡ n → P n) → P item →
    (k n : ℕ) → k < at + 1 → get_or items k n ≡ n → P n
turn_more P items at item within is done here k n lt e = elim (cases_lt k at) [
  | inl before ↦ done k n before e
  | inr last ↦
      let same : k ≡ at = omega (arith, lt, last) in
      let one : item ≡ n = get_or_read items at item within is n ∙ sym (ap (λ j. get_or items j n) same) ∙ e in
      subst P one here
]

-- all are done
pub turns_all : (P : ℕ → Type 0) (items : List ℕ) (at : ℕ) → length items ≤ at
    → ((k n : ℕ) → k < at → get_or items k n ≡ n → P n) → (n : ℕ) → Contains items n → P n
turns_all P items at past done n there = let lt = there.1 in done there.0 n (omega (arith, past, lt)) there.2

-- an element of a list of one
pub only_one : (x a : ℕ) → Contains (x ∷ []) a → x ≡ a
only_one x a (zero, lt, is) = is
only_one x a (suc n, lt, is) = absurd (omega (arith, lt))
