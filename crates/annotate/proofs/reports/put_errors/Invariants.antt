use Rattle.error_path.specs.Reaches.{AreReaches}
use Rattle.annotate.specs.Scenes.{WritesSome}
use Rattle.annotate.specs.Reports.{Errors}
use Rattle.annotate.proofs.reports.put_errors.Given as goal

-- invariant of the loop: the searches that are kept are of the graph, and the errors below n are written
abbrev pub invariant-loop-n : goal.invariant-loop-n
invariant-loop-n l = record {
  kept : AreReaches l.graph l.reaches;
  errors : WritesSome l.scene l.fn.out.items l.out.items (λ s errors. Errors s l.graph l.n errors);
}
