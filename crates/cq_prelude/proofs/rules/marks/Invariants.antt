use Rattle.cq_prelude.specs.Marking.{AreMarkedTo}
use Rattle.cq_prelude.proofs.rules.marks.Given as goal

abbrev pub invariant-loop-number : goal.invariant-loop-number
invariant-loop-number l = AreMarkedTo l.tokens l.flags l.number l.prelude
