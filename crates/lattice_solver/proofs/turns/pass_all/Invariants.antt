use Rattle.std.proofs.Common.{◌≡◌, ℕ, ◌+◌, ◌≤◌}
use Rattle.match_summary.specs.Chained.{link_of}
use Rattle.match_summary.specs.Crossings.{Crosses}
use Rattle.lattice_solver.specs.Stable.{IsPassedFrom, StaySound}
use Rattle.lattice_solver.specs.Working.{Gains, had_of}
use Rattle.lattice_solver.proofs.turns.pass_all.Given as goal

-- the sets gain and stay sound, and each `Leave` of this end from this number on was passed
abbrev pub invariant-loop-next : goal.invariant-loop-next
invariant-loop-next l = record {
  gains : Gains l.fn.work l.work;
  sound : StaySound l.flows l.taken l.fn.work.sets l.work.sets;
  there : (n : ℕ) → link_of l.next ≡ n + 1 → Crosses l.flows.graph.now l.end n;
  passed : (n : ℕ) → link_of l.next ≤ n
      → IsPassedFrom l.flows.graph.now l.flows.lattice l.flows.summaries.now
      (had_of l.taken) l.work.sets l.call.site l.call.to l.fn.last n;
}

abbrev pub decreases-loop-next : goal.decreases-loop-next
decreases-loop-next l = link_of l.next
