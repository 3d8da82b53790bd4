use Rattle.std.proofs.Common.{ℕ, ◌<◌, get_or}
use Rattle.bounds_below.specs.Carrying.{AllReach, AreSound, Gains, IsPassed}
use Rattle.bounds_below.proofs.flows.pass_groups.Given as goal

-- the sets gain and stay sound, and the groups of the constraints of the site before this one were passed
abbrev pub invariant-loop-other : goal.invariant-loop-other
invariant-loop-other l = record {
  gains : Gains l.fn.work l.work;
  sound : AllReach l.flows.graph.now l.flows.lattice l.had l.back.to
      → AreSound l.flows.graph.now l.flows.lattice l.fn.work.sets.items →
      AreSound l.flows.graph.now l.flows.lattice l.work.sets.items;
  passed : (k : ℕ) → k < l.other-index → (n : ℕ) →
      IsPassed l.flows.graph.now l.flows.lattice l.flows.summaries.now l.had l.work.sets.items l.back.site l.back.from
      (get_or l.other-items k n);
}
