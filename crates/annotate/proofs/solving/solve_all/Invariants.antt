use Rattle.annotate.proofs.SolutionLemmas.{AreFirst}
use Rattle.annotate.proofs.solving.solve_all.Given as goal

abbrev pub invariant-loop-n : goal.invariant-loop-n
invariant-loop-n l = AreFirst l.graph l.n l.solutions.items
