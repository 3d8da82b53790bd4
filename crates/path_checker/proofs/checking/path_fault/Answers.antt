use Rattle.std.proofs.Common.{option_map}
use Rattle.flow_graph.specs.PathProofs.{look, steps_of}
use Rattle.path_checker.proofs.Stepping.{begun}
use Rattle.path_checker.proofs.checking.path_fault.Goals as goal

-- at first no step was passed, and before it stands the constant of a walk or nothing
pub steps-init : goal.steps-init
steps-init c =
    let lattices = option_map (λ x. x.now) c.args.lattices in
    let see = look c.args.graph.now (steps_of c.args.earlier.now) in
    rw c.before-one_before.ensures
    (begun c.args.graph.now lattices c.args.path.now c.args.lattice c.args.elem see c.args.from c.args.steps.now)
