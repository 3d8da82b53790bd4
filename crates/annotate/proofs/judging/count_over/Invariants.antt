use Rattle.std.specs.Prelude.{◌≤◌}
use Rattle.annotate.specs.Solutions.{CountsOver}
use Rattle.annotate.proofs.judging.count_over.Given as goal

abbrev pub invariant-loop-n : goal.invariant-loop-n
invariant-loop-n l = record { counted : CountsOver l.scene l.graph l.n l.count; most : l.count ≤ l.n }
