use Rattle.std.proofs.Common.{take, IfSome}
use Rattle.std.specs.List.{Contains}
use Rattle.flow_query.specs.declared.ends.Constant.{Constant}
use Rattle.flow_query.specs.Searches.{IsFinder}
use Rattle.flow_query.specs.Walks.{AllDone, AreSound}
use Rattle.flow_query.proofs.walks.find_all.Given as goal

-- invariant of the loop: the walks lead as they show, and from the starts so far none is wanting
abbrev pub invariant-loop-start : goal.invariant-loop-start
invariant-loop-start l = record {
  finder : IsFinder l.found.graph.now l.finder;
  sound : AreSound l.found.graph.now l.lattice l.walks;
  last : IfSome l.last (λ at. AllDone l.found.graph.now l.lattice l.walks at l.vars);
  done : (start : Constant) → Contains (take l.start-index l.starts) start
      → AllDone l.found.graph.now l.lattice l.walks start.at l.vars;
}
