use Rattle.lattice_core.specs.Entries.{AreOfOneLevel}
use Rattle.lattice_core.proofs.checks.first_mixed.Given as goal

abbrev pub invariant-loop-k : goal.invariant-loop-k
invariant-loop-k l = AreOfOneLevel l.entries l.k
