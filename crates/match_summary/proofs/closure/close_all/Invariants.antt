use Rattle.std.proofs.Common.{◌≡◌, ℕ, ◌+◌, ◌≤◌}
use Rattle.match_summary.specs.Chained.{link_of}
use Rattle.match_summary.specs.Closing.{Grows, IsKept, IsLeftFrom}
use Rattle.match_summary.specs.Crossings.{Crosses}
use Rattle.match_summary.proofs.closure.close_all.Given as goal

-- the list is kept and grows, and each `Leave` of the inner end from this number on was closed
abbrev pub invariant-loop-next : goal.invariant-loop-next
invariant-loop-next l = record {
  kept : IsKept l.given l.found;
  grows : Grows l.initial.found.known l.found.known;
  there : (n : ℕ) → link_of l.next ≡ n + 1 → Crosses l.given.graph.now l.end n;
  done : (n : ℕ) → link_of l.next ≤ n
      → IsLeftFrom l.given.graph.now l.given.lattice l.initial.found.known l.found.known l.from l.call.site
      l.call.to l.fn.last n;
}

abbrev pub decreases-loop-next : goal.decreases-loop-next
decreases-loop-next l = link_of l.next
