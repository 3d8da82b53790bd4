use Rattle.std.proofs.Common.{ℕ, ◌<◌, get_or}
use Rattle.bounds_below.specs.Carrying.{AllReach, AreSound, Gains, IsCarried}
use Rattle.bounds_below.proofs.flows.carry.Given as goal

-- the sets gain and stay sound, and the constraints of the row before this one were carried
abbrev pub invariant-loop-edge : goal.invariant-loop-edge
invariant-loop-edge l = record {
  gains : Gains l.fn.work l.work;
  sound : AllReach l.flows.graph.now l.flows.lattice l.had l.at
      → AreSound l.flows.graph.now l.flows.lattice l.fn.work.sets.items →
      AreSound l.flows.graph.now l.flows.lattice l.work.sets.items;
  carried : (k : ℕ) → k < l.edge-index → (n : ℕ) →
      IsCarried l.flows.graph.now l.flows.lattice l.flows.summaries.now l.had l.work.sets.items l.at
      (get_or l.edge-items k n);
}
