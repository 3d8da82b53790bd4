use Rattle.flow_query.specs.Searches.{IsFinder}
use Rattle.flow_query.specs.Walks.{AllWalks}
use Rattle.flow_query.proofs.walks.add_all_walks.Given as goal

-- invariant of the loop: the finder is one of the graph, and there are the walks of the lattices so far
abbrev pub invariant-loop-n : goal.invariant-loop-n
invariant-loop-n l = record {
  finder : IsFinder l.found.graph.now l.finder;
  walks : AllWalks l.found.graph.now l.n l.vars l.all.items;
}
