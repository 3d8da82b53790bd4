use Rattle.std.proofs.Common.{arith}
use Rattle.lattice_solver.proofs.Rooms.{room-set}
use Rattle.lattice_solver.proofs.phases.raise_set.Goals as goal

pub returns-clause-grown : goal.returns-clause-grown
returns-clause-grown c =
    room-set c.args.sets.now c.number-index.result c.union-raised.result (grind arith)
    (omega (arith, c.union-raised.ensures.more, c.if-raised-set.false)) c.union-raised.type_inv
