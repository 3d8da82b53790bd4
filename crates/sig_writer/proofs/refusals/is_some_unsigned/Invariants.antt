use Rattle.std.proofs.Common.{◌≡◌, ◌<◌, ℕ, false}
use Rattle.std.specs.List.{Contains}
use Rattle.sig_writer.specs.Saying.{said_at}
use Rattle.sig_writer.specs.Signatures.{lacks_words}
use Rattle.sig_writer.proofs.refusals.is_some_unsigned.Given as goal

abbrev pub invariant-loop-n : goal.invariant-loop-n
invariant-loop-n l = (v : ℕ) → Contains l.said.vars v → v < l.n → lacks_words l.lattice (said_at l.said v) ≡ false
