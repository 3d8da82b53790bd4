use Rattle.lattice_core.specs.View.{orders_of}
use Rattle.certificate_checks.proofs.Checked.{FirstObey}
use Rattle.certificate_checks.proofs.judging.first_failing.Given as goal

abbrev pub invariant-loop-at : goal.invariant-loop-at
invariant-loop-at l = FirstObey l.graph (orders_of l.lattices) l.parts l.at
