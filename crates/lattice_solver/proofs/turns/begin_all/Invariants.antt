use Rattle.std.proofs.Common.{ℕ, ◌<◌}
use Rattle.flow_graph.specs.declared.constraint.Link.TheVariants.{Const}
use Rattle.flow_graph.specs.declared.phase.Phase.TheVariants.{First}
use Rattle.flow_graph.specs.System.{Stands}
use Rattle.lattice_solver.specs.Phases.{AllLeadIn, HasIn}
use Rattle.lattice_solver.specs.Working.{Gains}
use Rattle.lattice_solver.proofs.turns.begin_all.Given as goal

-- the sets gain, stay sound, and have each constant before this constraint
abbrev pub invariant-loop-n : goal.invariant-loop-n
invariant-loop-n l = record {
  gains : Gains l.fn.work l.work;
  sound : AllLeadIn l.flows.graph.now l.flows.lattice l.fn.work.sets
      → AllLeadIn l.flows.graph.now l.flows.lattice l.work.sets;
  begun : (n e v : ℕ) → n < l.n → Stands l.flows.graph.now l.flows.lattice n (Const l.flows.lattice e v)
      → HasIn l.work.sets First v e;
}
