use Rattle.std.proofs.Common.{◌<◌, ℕ}
use Rattle.lattice_solver.specs.Solution.{IsUnder}
use Rattle.lattice_solver.proofs.solver.Solver.first_exceeded.Given as goal

abbrev pub invariant-loop-n : goal.invariant-loop-n
invariant-loop-n l = (k : ℕ) → k < l.n → IsUnder l.graph l.self l.lattice.order k
