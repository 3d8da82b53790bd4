use Rattle.annotate.proofs.Firsts.{AreFirst}
use Rattle.annotate.proofs.judging.first_exceeded.Given as goal

abbrev pub invariant-loop-n : goal.invariant-loop-n
invariant-loop-n l = AreFirst l.scene l.graph l.solutions l.n l.first
