use Rattle.std.proofs.Common.{◌≡◌, ℕ, ◌<◌, get_or}
use Rattle.match_summary.specs.Closing.{Grows, IsFollowed, IsKept}
use Rattle.match_summary.proofs.closure.look.Given as goal

-- the list is kept and grows, and the constraints of the row before this one were followed
abbrev pub invariant-loop-edge : goal.invariant-loop-edge
invariant-loop-edge l = record {
  kept : IsKept l.given l.found;
  grows : Grows l.initial.found.known l.found.known;
  done : (k n : ℕ) → k < l.edge-index → get_or l.edge-items k n ≡ n
      → IsFollowed l.given.graph.now l.given.lattice l.given.marks.now l.initial.found.known l.found.known
      l.from l.to n;
}
