use Rattle.std.proofs.Common.{◌≡◌, ℕ, ◌<◌, get_or}
use Rattle.closure_check.specs.Checking.{AsksPair}
use Rattle.closure_check.proofs.checks.all_pairs.Given as goal

abbrev pub invariant-loop-pair : goal.invariant-loop-pair
invariant-loop-pair l =
    (k : ℕ) (p : ℕ × ℕ) → k < l.pair-index → get_or l.pair-items k p ≡ p → AsksPair l.given l.rule p.0 p.1
