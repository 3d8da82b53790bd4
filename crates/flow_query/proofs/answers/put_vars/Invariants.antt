use Rattle.std.proofs.Common.{take}
use Rattle.annotate.specs.Scenes.{WritesSome}
use Rattle.flow_query.specs.Answers.{VarsText}
use Rattle.flow_query.specs.Searches.{IsFinder}
use Rattle.flow_query.proofs.answers.put_vars.Given as goal

-- invariant of the loop: the finder is one of the graph, and the variables so far are written
abbrev pub invariant-loop-var : goal.invariant-loop-var
invariant-loop-var l = record {
  finder : IsFinder l.found.graph.now l.finder;
  text : WritesSome l.scene l.fn.out.items l.out.items
      (λ s text. VarsText s l.found.graph.now (take l.var-index l.vars) text);
}
