use Rattle.std.proofs.Common.{◌≡◌, map, take}
use Rattle.flow_rules.specs.Adding.{with}
use Rattle.row_adding.specs.Indexing.{below_in, indexed_of}
use Rattle.row_adding.proofs.indexing.add_each.Given as goal

abbrev pub invariant-loop-other : goal.invariant-loop-other
invariant-loop-other l =
    l.graph ≡ with l.fn.graph (below_in l.lattices (indexed_of l.it) (map indexed_of (take l.other-index l.others)))
