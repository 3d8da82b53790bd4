use Rattle.std.proofs.Common.{ℕ, take}
use Rattle.std.specs.List.{Contains}
use Rattle.flow_query.specs.Walks.{IsKept}
use Rattle.flow_query.proofs.walks.reached_of.Given as goal

abbrev pub invariant-loop-var : goal.invariant-loop-var
invariant-loop-var l =
    (v : ℕ) → Contains (take l.var-index l.vars) v → IsKept l.found.graph.now l.lattice l.kept.items v
