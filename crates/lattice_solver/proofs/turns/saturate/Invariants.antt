use Rattle.std.proofs.Common.{◌≡◌, ℕ, false}
use Rattle.lattice_solver.specs.Phases.{AllLeadIn, size_of}
use Rattle.lattice_solver.specs.Stable.{IsOver, AgreesAt, AreBegun}
use Rattle.lattice_solver.specs.Waiting.{waits}
use Rattle.lattice_solver.specs.Working.{left_in}
use Rattle.lattice_solver.proofs.turns.saturate.Given as goal

-- the sets are sound and begun, and at each variable that does not wait no constraint brings anything new
abbrev pub invariant-loop-taken : goal.invariant-loop-taken
invariant-loop-taken l = record {
  size : size_of l.work.sets ≡ size_of l.fn.work.sets;
  sound : AllLeadIn l.flows.graph.now l.flows.lattice l.work.sets;
  begun : AreBegun l.flows.graph.now l.flows.lattice l.work.sets;
  agree : (v : ℕ) → waits l.work.waiting v ≡ false
      → AgreesAt l.flows.graph.now l.flows.lattice l.flows.summaries.now l.work.sets v;
  over : IsOver l.flows.graph.now l.flows.lattice l.flows.summaries.now l.passed l.work.sets;
  same : size_of l.passed ≡ size_of l.fn.passed;
}

abbrev pub decreases-loop-taken : goal.decreases-loop-taken
decreases-loop-taken l = left_in l.work
