use Rattle.std.proofs.Common.{◌≡◌, ◌<◌, ℕ, true}
use Rattle.lattice_core.specs.Order.{leq}
use Rattle.closure_check.specs.Parts.{has}
use Rattle.closure_check.proofs.sets.all_below.Given as goal

abbrev pub invariant-loop-n : goal.invariant-loop-n
invariant-loop-n l = (e : ℕ) → e < l.n → has l.fn.set e ≡ true → leq l.lattice.order e l.limit ≡ true
