use Rattle.std.proofs.Common.{◌≡◌, ◌⊎◌, ℕ, length}
use Rattle.bounds_below.specs.Carrying.{AgreesAt, AreBegun, AreSound, Waits, left_in}
use Rattle.bounds_below.proofs.flows.saturate.Given as goal

-- the sets are sound and begun, and each variable waits or no constraint to it brings anything new
abbrev pub invariant-loop-at : goal.invariant-loop-at
invariant-loop-at l = record {
  size : length l.work.sets.items ≡ length l.fn.work.sets.items;
  sound : AreSound l.flows.graph.now l.flows.lattice l.work.sets.items;
  begun : AreBegun l.flows.graph.now l.flows.lattice l.work.sets.items;
  settled : (v : ℕ)
      → Waits l.work v ⊎ AgreesAt l.flows.graph.now l.flows.lattice l.flows.summaries.now l.work.sets.items v;
}

abbrev pub decreases-loop-at : goal.decreases-loop-at
decreases-loop-at l = left_in l.work
