use Rattle.std.proofs.Common.{take}
use Rattle.flow_query.specs.Searches.{IsFinder}
use Rattle.flow_query.specs.Walks.{AllDone, AreSound, StaysDone}
use Rattle.flow_query.proofs.walks.find_from.Given as goal

-- invariant of the loop: the walks lead as they show, and to the variables so far none is wanting
abbrev pub invariant-loop-var : goal.invariant-loop-var
invariant-loop-var l = record {
  finder : IsFinder l.found.graph.now l.finder;
  sound : AreSound l.found.graph.now l.lattice l.walks;
  stays : StaysDone l.found.graph.now l.lattice l.fn.walks l.walks;
  done : AllDone l.found.graph.now l.lattice l.walks l.at (take l.var-index l.vars);
}
