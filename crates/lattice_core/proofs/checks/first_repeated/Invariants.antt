use Rattle.lattice_core.specs.Entries.{AreDistinct}
use Rattle.lattice_core.proofs.checks.first_repeated.Given as goal

abbrev pub invariant-loop-k : goal.invariant-loop-k
invariant-loop-k l = AreDistinct l.entries l.k
