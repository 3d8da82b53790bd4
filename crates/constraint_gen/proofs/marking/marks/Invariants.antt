use Rattle.std.proofs.Common.{take}
use Rattle.constraint_gen.specs.Marking.{AreMarks}
use Rattle.constraint_gen.proofs.marking.marks.Given as goal

abbrev pub invariant-loop-i : goal.invariant-loop-i
invariant-loop-i l = AreMarks (take l.i l.units) l.found
