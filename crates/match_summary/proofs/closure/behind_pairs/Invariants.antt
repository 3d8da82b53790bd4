use Rattle.std.proofs.Common.{◌≡◌, ℕ, ◌+◌, ◌≤◌, Some, slice_get}
use Rattle.match_summary.specs.declared.reason.Summary.{Summary}
use Rattle.match_summary.specs.Reason.{before_of}
use Rattle.match_summary.specs.Chained.{link_of}
use Rattle.match_summary.specs.Closing.{Follows, Grows, IsKept, targets}
use Rattle.match_summary.proofs.closure.behind_pairs.Given as goal

-- the list is kept and grows, and the part was put behind each pair from this number on
abbrev pub invariant-loop-next : goal.invariant-loop-next
invariant-loop-next l = record {
  kept : IsKept l.given l.found;
  grows : Grows l.initial.found.known l.found.known;
  there : (n : ℕ) → link_of l.next ≡ n + 1 → slice_get (targets l.found.known) n ≡ Some (before_of l.why);
  done : (n : ℕ) (row : Summary) → slice_get l.initial.found.known n ≡ Some row → row.to ≡ before_of l.why
      → link_of l.next ≤ n → Follows l.given.graph.now l.found.known row.from l.to;
}

abbrev pub decreases-loop-next : goal.decreases-loop-next
decreases-loop-next l = link_of l.next
