use Rattle.std.proofs.Common.{◌≡◌, ℕ, ◌-◌, ◌<◌, Some, length, slice_get}
use Rattle.match_summary.specs.declared.reason.Summary.{Summary}
use Rattle.sig_writer.specs.Marking.{IsEnd, IsMarked}
use Rattle.sig_writer.proofs.marks.marks_of.Given as goal

-- invariant of the loop: the nodes are marked that matched paths from nodes so far join
abbrev pub invariant-loop-n : goal.invariant-loop-n
invariant-loop-n l = record {
  size : length l.marks.items ≡ l.nodes.to - l.nodes.from;
  only : (i : ℕ) → IsMarked l.marks.items i → (n : ℕ) × (row : Summary) × (slice_get l.summaries n ≡ Some row) ×
      IsEnd l.nodes row i;
  done : (n i : ℕ) (row : Summary) → slice_get l.summaries n ≡ Some row → row.from < l.n → IsEnd l.nodes row i →
      IsMarked l.marks.items i;
}
