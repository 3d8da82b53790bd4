use Rattle.std.proofs.Common.{take}
use Rattle.cq_prelude.specs.Marking.{AreFlags}
use Rattle.cq_prelude.proofs.rules.flags.Given as goal

abbrev pub invariant-loop-token : goal.invariant-loop-token
invariant-loop-token l = AreFlags l.count (take l.token-index l.tokens) l.flags.items
