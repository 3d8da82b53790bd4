use Rattle.flow_graph.specs.declared.phase.Phase.TheVariants.{First, Second}
use Rattle.lattice_solver.proofs.turns.give_both.Goals as goal

pub returns-clause-sound : goal.returns-clause-sound
returns-clause-sound c =
    λ sys lattice lead all.
    c.gain-2.ensures.sound sys lattice (lead Second) (c.gain.ensures.sound sys lattice (lead First) all)
