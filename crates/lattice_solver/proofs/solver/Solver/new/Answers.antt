use Rattle.std.proofs.Common.{arith}
use Rattle.lattice_solver.specs.Phases.{size_of}
use Rattle.lattice_solver.proofs.Gaining.{below_same}
use Rattle.lattice_solver.proofs.solver.Solver.new.Goals as goal

-- a new solver has sets for each variable and constraint of the graph, and its indices
pub returns-clause-fits : goal.returns-clause-fits
returns-clause-fits c = record {
  below = below_same c.args.graph.now c.vars.result
      (size_of c.in_ok-work.work.sets) c.in_ok-work.ensures c.vars.ensures.above;
  indexed = c.in_ok-index.ensures;
  crossings = c.in_ok-crossings.ensures;
  room = omega (arith, c.in_ok-passed.ensures, c.len.ensures.length);
}
