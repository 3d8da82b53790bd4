use Rattle.sig_writer.specs.Suits.{AreOwnBelow}
use Rattle.sig_writer.proofs.suiting.first_shared.Given as goal

abbrev pub invariant-loop-n : goal.invariant-loop-n
invariant-loop-n l = AreOwnBelow l.graph l.n
