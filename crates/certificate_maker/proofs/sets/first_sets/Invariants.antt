use Rattle.flow_graph.specs.declared.phase.Phase.TheVariants.{First}
use Rattle.lattice_solver.specs.Phases.{set_of}
use Rattle.certificate_maker.specs.Making.{AreSetsBy}
use Rattle.certificate_maker.proofs.sets.first_sets.Given as goal

abbrev pub invariant-loop-n : goal.invariant-loop-n
invariant-loop-n l = AreSetsBy (λ v. set_of l.solver.phases First v) l.n l.sets.items
