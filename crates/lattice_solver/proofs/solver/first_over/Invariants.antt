use Rattle.std.proofs.Common.{◌≡◌, ◌<◌, ℕ, true}
use Rattle.std.specs.Int.{bit_at}
use Rattle.lattice_core.specs.Order.{leq}
use Rattle.lattice_solver.proofs.solver.first_over.Given as goal

abbrev pub invariant-loop-n : goal.invariant-loop-n
invariant-loop-n l = (e : ℕ) → e < l.n → bit_at l.set e ≡ 1 → leq l.lattice.order e l.limit ≡ true
