use Rattle.std.proofs.Common.{◌≡◌, ◌⊎◌, ℕ, ◌+◌, ◌≤◌, Some, length, slice_get}
use Rattle.match_summary.specs.declared.reason.Summary.{Summary}
use Rattle.match_summary.specs.Chained.{link_of}
use Rattle.match_summary.specs.Starts.{sources}
use Rattle.sig_writer.specs.Marking.{IsEnd, IsMarked, SomeFrom}
use Rattle.sig_writer.proofs.marks.mark_from.Given as goal

-- invariant of the loop: the ends of the summaries above the next one are marked, and no others
abbrev pub invariant-loop-next : goal.invariant-loop-next
invariant-loop-next l = record {
  size : length l.marks.items ≡ length l.fn.marks.items;
  kept : (i : ℕ) → IsMarked l.fn.marks.items i → IsMarked l.marks.items i;
  only : (i : ℕ) → IsMarked l.marks.items i → IsMarked l.fn.marks.items i ⊎ SomeFrom l.summaries l.fn.from
      (λ row. IsEnd l.nodes row i);
  there : (n : ℕ) → link_of l.next ≡ n + 1 → slice_get (sources l.summaries) n ≡ Some l.fn.from;
  done : (n i : ℕ) (row : Summary) → slice_get l.summaries n ≡ Some row → row.from ≡ l.fn.from → link_of l.next ≤ n →
      IsEnd l.nodes row i → IsMarked l.marks.items i;
}

abbrev pub decreases-loop-next : goal.decreases-loop-next
decreases-loop-next l = link_of l.next
