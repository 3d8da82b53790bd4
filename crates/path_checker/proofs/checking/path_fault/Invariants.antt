use Rattle.std.proofs.Common.{length, option_map}
use Rattle.flow_graph.specs.PathProofs.{look, steps_of}
use Rattle.path_checker.specs.Walks.{behind, faults_for}
use Rattle.path_checker.proofs.Stepping.{Walked}
use Rattle.path_checker.proofs.checking.path_fault.Given as goal

-- the fault of the steps that are left, behind those that were passed, is the fault of the whole path
abbrev pub invariant-steps : goal.invariant-steps
invariant-steps l =
    let see = look l.graph (steps_of l.earlier) in
    let lattices = option_map (λ x. x.now) l.lattices in
    Walked l.graph lattices l.path l.lattice l.elem see l.one_before l.two_before l.in_call l.rest
    (faults_for l.graph lattices l.path l.lattice l.elem see (behind l.lattice l.fn.from) l.steps)

abbrev pub decreases-steps : goal.decreases-steps
decreases-steps l = length l.rest
