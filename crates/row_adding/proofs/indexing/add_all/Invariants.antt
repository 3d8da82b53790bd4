use Rattle.std.proofs.Common.{◌≡◌, map, take}
use Rattle.flow_rules.specs.Adding.{with}
use Rattle.row_adding.specs.Indexing.{all_below_in, indexed_of}
use Rattle.row_adding.proofs.indexing.add_all.Given as goal

abbrev pub invariant-loop-it : goal.invariant-loop-it
invariant-loop-it l =
    l.graph ≡ with l.fn.graph
    (all_below_in l.lattices (map indexed_of (take l.it-index l.nodes)) (map indexed_of l.nodes))
