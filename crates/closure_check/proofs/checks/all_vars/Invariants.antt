use Rattle.std.proofs.Common.{◌<◌, ℕ}
use Rattle.closure_check.specs.Checking.{AsksVar}
use Rattle.closure_check.proofs.checks.all_vars.Given as goal

abbrev pub invariant-loop-n : goal.invariant-loop-n
invariant-loop-n l = (v : ℕ) → v < l.n → AsksVar l.given v
