use Rattle.std.proofs.Common.{ℕ, ◌<◌, ◌≤◌}
use Rattle.closure_check.specs.Checking.{GoesBack}
use Rattle.closure_check.proofs.rounds.goes_through.Given as goal

abbrev pub invariant-loop-n : goal.invariant-loop-n
invariant-loop-n l = (m : ℕ) → l.fn.span.from ≤ m → m < l.n → GoesBack l.given l.going l.site l.inner m
