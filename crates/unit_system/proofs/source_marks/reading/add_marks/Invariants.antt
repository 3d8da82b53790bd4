use Rattle.unit_system.specs.SourceMarks.Marks.{mark_before, IsMarked}
use Rattle.unit_system.proofs.source_marks.reading.add_marks.Given as goal

abbrev pub invariant-loop-number : goal.invariant-loop-number
invariant-loop-number l = IsMarked (mark_before l.tokens l.number) l.initial.found l.found
