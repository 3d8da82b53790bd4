use Rattle.lattice_solver.specs.Solution.{reached_at}
use Rattle.certificate_maker.specs.Making.{AreSetsBy}
use Rattle.certificate_maker.proofs.sets.second_sets.Given as goal

abbrev pub invariant-loop-n : goal.invariant-loop-n
invariant-loop-n l = AreSetsBy (λ v. reached_at l.solver v) l.n l.sets.items
