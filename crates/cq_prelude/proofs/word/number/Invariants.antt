use Rattle.cq_prelude.proofs.Digits.{AreReadTo}
use Rattle.cq_prelude.proofs.word.number.Given as goal

abbrev pub invariant-loop-byte : goal.invariant-loop-byte
invariant-loop-byte l = AreReadTo l.digits l.byte-index l.number
