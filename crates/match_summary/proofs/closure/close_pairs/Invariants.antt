use Rattle.std.proofs.Common.{◌≡◌, ℕ, ◌+◌, ◌≤◌, Some, slice_get}
use Rattle.match_summary.specs.declared.reason.Summary.{Summary}
use Rattle.match_summary.specs.Chained.{link_of}
use Rattle.match_summary.specs.Closing.{Grows, IsKept, IsLeftFrom}
use Rattle.match_summary.specs.Starts.{sources}
use Rattle.match_summary.proofs.closure.close_pairs.Given as goal

-- the list is kept and grows, and the groups of each inner pair from this number on were closed
abbrev pub invariant-loop-next : goal.invariant-loop-next
invariant-loop-next l = record {
  kept : IsKept l.given l.found;
  grows : Grows l.initial.found.known l.found.known;
  there : (n : ℕ) → link_of l.next ≡ n + 1 → slice_get (sources l.found.known) n ≡ Some l.call.to;
  done : (n m : ℕ) (row : Summary) → slice_get l.initial.found.known n ≡ Some row → row.from ≡ l.call.to
      → link_of l.next ≤ n →
      IsLeftFrom l.given.graph.now l.given.lattice l.initial.found.known l.found.known l.from l.call.site
      l.call.to row.to m;
}

abbrev pub decreases-loop-next : goal.decreases-loop-next
decreases-loop-next l = link_of l.next
