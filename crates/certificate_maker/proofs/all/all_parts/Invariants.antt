use Rattle.lattice_core.specs.View.{orders_of}
use Rattle.certificate_maker.proofs.FirstParts.{AreFirst}
use Rattle.certificate_maker.proofs.all.all_parts.Given as goal

abbrev pub invariant-loop-n : goal.invariant-loop-n
invariant-loop-n l = AreFirst l.graph (orders_of l.lattices) l.n l.parts.items
