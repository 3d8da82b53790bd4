use Rattle.std.proofs.Common.{◌≡◌, ℕ, ◌<◌, get_or}
use Rattle.lattice_solver.specs.Phases.{size_of}
use Rattle.lattice_solver.specs.Stable.{IsCarried, IsOver, StaySound}
use Rattle.lattice_solver.specs.Working.{Gains, had_of}
use Rattle.lattice_solver.proofs.turns.pass_on.Given as goal

-- the sets gain and stay sound, and the constraints before this one of the row were carried
abbrev pub invariant-loop-edge : goal.invariant-loop-edge
invariant-loop-edge l = record {
  gains : Gains l.fn.work l.work;
  sound : StaySound l.flows l.taken l.fn.work.sets l.work.sets;
  carried : (k : ℕ) → k < l.edge-index → (other : ℕ)
      → IsCarried l.flows.graph.now l.flows.lattice l.flows.summaries.now (had_of l.taken) l.work.sets l.taken.at
      (get_or l.edge-items k other);
  over : IsOver l.flows.graph.now l.flows.lattice l.flows.summaries.now l.passed l.work.sets;
  same : size_of l.passed ≡ size_of l.fn.passed;
}
