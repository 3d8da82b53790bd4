use Rattle.std.proofs.Common.{◌-◌, ◌≡◌, ◌<◌, ◌≤◌, ℕ, true, false, length, slice_get, Some}
use Rattle.closure_check.specs.Parts.{is_below}
use Rattle.closure_check.proofs.pairs.place_of.Given as goal

-- pairs before the low place come before the two variables, and those from the high one on do not
abbrev pub invariant-loop-low : goal.invariant-loop-low
invariant-loop-low l = (l.low ≤ l.high) × (l.high ≤ length l.pairs)
    × ((k : ℕ) (p : ℕ × ℕ) → k < l.low → slice_get l.pairs k ≡ Some p → is_below p l.from l.to ≡ true)
    × ((k : ℕ) (p : ℕ × ℕ) → l.high ≤ k → slice_get l.pairs k ≡ Some p → is_below p l.from l.to ≡ false)

abbrev pub decreases-loop-low : goal.decreases-loop-low
decreases-loop-low l = l.high - l.low
