use Rattle.std.proofs.Common.{take}
use Rattle.certificate_reader.specs.Making.{AreFilled}
use Rattle.certificate_reader.proofs.making.sets_of_vars.Given as goal

abbrev pub invariant-loop-set : goal.invariant-loop-set
invariant-loop-set l = AreFilled l.graph (take l.set-index l.sets) l.first.items l.second.items
