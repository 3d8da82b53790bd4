use Rattle.std.proofs.Common.{◌<◌, ℕ}
use Rattle.flow_graph.specs.Conditions.{IsOwnedAt}
use Rattle.flow_graph.proofs.conditions.is_well_owned.Given as goal

abbrev pub invariant-loop-n : goal.invariant-loop-n
invariant-loop-n l = (k : ℕ) → k < l.n → IsOwnedAt l.graph k
