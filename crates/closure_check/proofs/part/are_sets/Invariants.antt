use Rattle.std.proofs.Common.{◌≡◌, ℕ, ◌<◌, get_or}
use Rattle.closure_check.specs.Checking.{IsSubset}
use Rattle.closure_check.proofs.part.are_sets.Given as goal

abbrev pub invariant-loop-set : goal.invariant-loop-set
invariant-loop-set l = (k n : ℕ) → k < l.set-index → get_or l.sets k n ≡ n → IsSubset n l.all
