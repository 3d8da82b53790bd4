use Rattle.std.proofs.Common.{take}
use Rattle.annotate.specs.Reports.{Listings}
use Rattle.annotate.proofs.listing.list_all.Given as goal

abbrev pub invariant-loop-var : goal.invariant-loop-var
invariant-loop-var l = Listings l.scene.lattices.now l.graph (take l.var-index l.scene.listed.now) l.list.items
