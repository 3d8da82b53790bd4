use Rattle.annotate.specs.Scenes.{WritesSome}
use Rattle.flow_query.specs.Answers.{EachBelow, SectionText}
use Rattle.flow_query.specs.Searches.{IsFinder}
use Rattle.flow_query.proofs.answers.put_var_sections.Given as goal

-- invariant of the loop: the finder is one of the graph, and the sections of the lattices so far are written
abbrev pub invariant-loop-n : goal.invariant-loop-n
invariant-loop-n l = record {
  finder : IsFinder l.found.graph.now l.finder;
  text : WritesSome l.scene l.fn.out.items l.out.items
      (λ s text. EachBelow (SectionText s l.found.graph.now l.var) l.n text);
}
