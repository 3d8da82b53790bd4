use Rattle.lattice_file.specs.Sharing.{AreApart}
use Rattle.lattice_file.proofs.sharing.first_shared.Given as goal

abbrev pub invariant-loop-at : goal.invariant-loop-at
invariant-loop-at l = AreApart l.all l.at
