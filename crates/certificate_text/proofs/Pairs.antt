-- The order of pairs.
use Rattle.std.proofs.Common.{◌≡◌, ℕ, ◌==◌, ◌&&◌, true, arith}
use Rattle.std.specs.Cmp.{IsTotalOrder, IsEquivalence, both_tied}
use Rattle.std.specs.Ordering.{nat_cmp, is_eq, eq_by_cmp}
use Rattle.std.proofs.lemmas.Cmp.{nat_cmp_total, then_total, on_total, nat_eq_equiv, on_equiv, and_equiv}
use Rattle.closure_check.proofs.Sorted.{that_is}
use Rattle.certificate_text.specs.Order.{pair_cmp}

pub pair_total : IsTotalOrder pair_cmp
pair_total = then_total (on_total (λ (p : ℕ × ℕ). p.0) nat_cmp_total) (on_total (λ (p : ℕ × ℕ). p.1) nat_cmp_total)

pub pair_equiv : IsEquivalence (λ (p q : ℕ × ℕ). p.0 == q.0 && p.1 == q.1)
pair_equiv = and_equiv (on_equiv (λ (p : ℕ × ℕ). p.0) nat_eq_equiv) (on_equiv (λ (p : ℕ × ℕ). p.1) nat_eq_equiv)

nat_tied : (x y : ℕ) → (x == y) ≡ is_eq (nat_cmp x y)
nat_tied x y = grind arith

pub pair_tied : (p q : ℕ × ℕ) → (p.0 == q.0 && p.1 == q.1) ≡ eq_by_cmp pair_cmp p q
pair_tied p q = both_tied _ _ _ _ (nat_tied p.0 q.0) (nat_tied p.1 q.1)

pub pair_same : (p q : ℕ × ℕ) → (p.0 == q.0 && p.1 == q.1) ≡ true → p ≡ q
pair_same p q e = that_is p q.0 q.1 e
