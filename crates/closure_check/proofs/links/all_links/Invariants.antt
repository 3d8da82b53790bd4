use Rattle.std.proofs.Common.{◌<◌, ℕ}
use Rattle.closure_check.specs.Checking.{AsksAt}
use Rattle.closure_check.proofs.links.all_links.Given as goal

abbrev pub invariant-loop-n : goal.invariant-loop-n
invariant-loop-n l = (k : ℕ) → k < l.n → AsksAt l.given l.rule k
