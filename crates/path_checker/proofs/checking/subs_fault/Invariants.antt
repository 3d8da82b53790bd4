use Rattle.std.proofs.Common.{◌≡◌, [], drop, option_map, take}
use Rattle.flow_graph.specs.PathProofs.{steps_of}
use Rattle.path_checker.specs.Walks.{subs_faults_for}
use Rattle.path_checker.proofs.checking.subs_fault.Given as goal

-- the fault of the sub-paths from here on, behind the earlier ones, is that of all sub-paths
abbrev pub invariant-loop-i : goal.invariant-loop-i
invariant-loop-i l =
    let lattices = option_map (λ x. x.now) l.lattices in
    subs_faults_for l.graph lattices l.lattice l.elem (steps_of (take l.i l.subs)) (steps_of (drop l.i l.subs))
    ≡ subs_faults_for l.graph lattices l.lattice l.elem [] (steps_of l.subs)
