use Rattle.annotate.specs.Solutions.{Adds}
use Rattle.annotate.specs.Reports.{VarListings}
use Rattle.annotate.proofs.listing.list_var.Given as goal

abbrev pub invariant-loop-n : goal.invariant-loop-n
invariant-loop-n l = Adds l.fn.list.items l.list.items (VarListings l.scene.lattices.now l.graph l.var l.n)
