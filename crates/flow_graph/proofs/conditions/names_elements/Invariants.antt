use Rattle.std.proofs.Common.{◌<◌, ℕ}
use Rattle.flow_graph.specs.Conditions.{IsNamedAt}
use Rattle.flow_graph.proofs.conditions.names_elements.Given as goal

abbrev pub invariant-loop-n : goal.invariant-loop-n
invariant-loop-n l = (k : ℕ) → k < l.n → IsNamedAt l.graph l.lattice_no l.lattice.order k
