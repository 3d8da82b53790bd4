use Rattle.std.proofs.Common.{◌≡◌, ℕ, ◌<◌, ◌≤◌, Some, true, slice_get}
use Rattle.closure_check.specs.Parts.{is_below}
use Rattle.closure_check.proofs.part.are_ascending.Given as goal

-- at least one pair was seen, and those seen are in ascending order
abbrev pub invariant-loop-n : goal.invariant-loop-n
invariant-loop-n l = record {
  begun : 1 ≤ l.n;
  done : (i j : ℕ) (p q : ℕ × ℕ) → i < j → j < l.n → slice_get l.pairs i ≡ Some p → slice_get l.pairs j ≡ Some q
      → is_below p q.0 q.1 ≡ true;
}
