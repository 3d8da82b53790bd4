use Rattle.std.proofs.Common.{◌≡◌, ℕ, ◌+◌, ◌≤◌, Some, slice_get}
use Rattle.match_summary.specs.declared.reason.Summary.{Summary}
use Rattle.match_summary.specs.Chained.{link_of}
use Rattle.match_summary.specs.Starts.{sources}
use Rattle.lattice_solver.specs.Phases.{size_of}
use Rattle.lattice_solver.specs.Stable.{IsOver, IsPassedFrom, StaySound}
use Rattle.lattice_solver.specs.Working.{Gains, had_of}
use Rattle.lattice_solver.proofs.turns.pass_pairs.Given as goal

-- the sets gain and stay sound, and the groups of each pair from this number on were passed
abbrev pub invariant-loop-next : goal.invariant-loop-next
invariant-loop-next l = record {
  gains : Gains l.fn.work l.work;
  sound : StaySound l.flows l.taken l.fn.work.sets l.work.sets;
  over : IsOver l.flows.graph.now l.flows.lattice l.flows.summaries.now l.passed l.work.sets;
  same : size_of l.passed ≡ size_of l.fn.passed;
  there : (n : ℕ) → link_of l.next ≡ n + 1 → slice_get (sources l.flows.summaries.now) n ≡ Some l.call.to;
  done : (n m : ℕ) (row : Summary) → slice_get l.flows.summaries.now n ≡ Some row → row.from ≡ l.call.to
      → link_of l.next ≤ n →
      IsPassedFrom l.flows.graph.now l.flows.lattice l.flows.summaries.now
      (had_of l.taken) l.work.sets l.call.site l.call.to row.to m;
}

abbrev pub decreases-loop-next : goal.decreases-loop-next
decreases-loop-next l = link_of l.next
