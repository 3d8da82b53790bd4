use Rattle.sig_writer.proofs.JoinsMeets.{IsMeetBelow}
use Rattle.sig_writer.proofs.says.meet_of.Given as goal

abbrev pub invariant-loop-n : goal.invariant-loop-n
invariant-loop-n l = IsMeetBelow l.known.lattice.now.order l.set l.n l.meet
