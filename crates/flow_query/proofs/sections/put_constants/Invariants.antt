use Rattle.std.proofs.Common.{◌≤◌, length}
use Rattle.annotate.specs.Scenes.{WritesSome}
use Rattle.flow_query.specs.Answers.{EachBelow, FromText}
use Rattle.flow_query.proofs.Those.{from_place}
use Rattle.flow_query.proofs.sections.put_constants.Given as goal

-- invariant of the loop: what is written is the text of all constraints before the next constant
abbrev pub invariant-loop-number : goal.invariant-loop-number
invariant-loop-number l = record {
  low : l.number-index ≤ length l.constants;
  text : WritesSome l.scene l.fn.out.items l.out.items
      (λ s text. EachBelow (FromText s l.section.graph.now l.section.lattice l.section.var)
      (from_place l.constants l.number-index) text);
}
