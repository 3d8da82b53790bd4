use Rattle.std.proofs.Common.{◌≡◌, ℕ, ◌<◌, get_or}
use Rattle.closure_check.specs.Checking.{AsksEdge}
use Rattle.closure_check.proofs.checks.all_edges.Given as goal

abbrev pub invariant-loop-edge : goal.invariant-loop-edge
invariant-loop-edge l =
    (k n : ℕ) → k < l.edge-index → get_or l.edge-items k n ≡ n → AsksEdge l.given l.rule l.from l.to n
