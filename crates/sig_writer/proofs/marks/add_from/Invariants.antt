use Rattle.std.proofs.Common.{◌≡◌, ◌⊎◌, ℕ, ◌+◌, ◌<◌, ◌≤◌, Some, length, slice_get}
use Rattle.match_summary.specs.declared.reason.Summary.{Summary}
use Rattle.match_summary.specs.Chained.{link_of}
use Rattle.match_summary.specs.Starts.{sources}
use Rattle.sig_writer.specs.Marking.{IsLastEnd, SomeFrom, items_at, with_last}
use Rattle.sig_writer.proofs.marks.add_from.Given as goal

-- invariant of the loop: the number is put for the summaries of the node above the next one, and for no others
abbrev pub invariant-loop-next : goal.invariant-loop-next
invariant-loop-next l = record {
  size : length l.lists.items ≡ length l.fn.lists.items;
  only : (j : ℕ) → (SomeFrom l.summaries l.fn.from (λ row. IsLastEnd l.nodes row j) ×
      (items_at l.lists.items j ≡ with_last (items_at l.fn.lists.items j) l.number))
      ⊎ (items_at l.lists.items j ≡ items_at l.fn.lists.items j);
  there : (n : ℕ) → link_of l.next ≡ n + 1 → slice_get (sources l.summaries) n ≡ Some l.fn.from;
  done : (n j : ℕ) (row : Summary) → slice_get l.summaries n ≡ Some row → row.from ≡ l.fn.from → link_of l.next ≤ n →
      j < length l.fn.lists.items →
      IsLastEnd l.nodes row j → items_at l.lists.items j ≡ with_last (items_at l.fn.lists.items j) l.number;
}

abbrev pub decreases-loop-next : goal.decreases-loop-next
decreases-loop-next l = link_of l.next
