use Rattle.std.proofs.Common.{ℕ, ◌<◌}
use Rattle.flow_graph.specs.declared.constraint.Link.TheVariants.{Bound}
use Rattle.flow_graph.specs.System.{Stands}
use Rattle.bounds_below.specs.Carrying.{AreSound, Gains, Has}
use Rattle.bounds_below.proofs.flows.begin_all.Given as goal

-- the sets gain, stay sound, and have the bounds before this constraint
abbrev pub invariant-loop-n : goal.invariant-loop-n
invariant-loop-n l = record {
  gains : Gains l.fn.work l.work;
  sound : AreSound l.flows.graph.now l.flows.lattice l.fn.work.sets.items
      → AreSound l.flows.graph.now l.flows.lattice l.work.sets.items;
  begun : (n v b : ℕ) → n < l.n → Stands l.flows.graph.now l.flows.lattice n (Bound v l.flows.lattice b)
      → Has l.work.sets.items v b;
}
