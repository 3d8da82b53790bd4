use Rattle.std.proofs.Common.{◌≡◌, ℕ, ◌<◌, get_or}
use Rattle.closure_check.proofs.part.are_below.Given as goal

abbrev pub invariant-loop-pair : goal.invariant-loop-pair
invariant-loop-pair l =
    (k : ℕ) (p : ℕ × ℕ) → k < l.pair-index → get_or l.pairs k p ≡ p → (p.0 < l.vars) × (p.1 < l.vars)
