use Rattle.std.proofs.Common.{◌≡◌, ℕ, ◌<◌, ◌⊎◌, get_or, length}
use Rattle.std.specs.List.{Contains}
use Rattle.match_summary.specs.Closing.{IsMarked}
use Rattle.match_summary.proofs.closure.mark_starts.Given as goal

-- the marks are the old ones and those of starts, among them each start before this one
abbrev pub invariant-loop-start : goal.invariant-loop-start
invariant-loop-start l = record {
  size : length l.marks.items ≡ length l.initial.marks.items;
  kept : (a : ℕ) → IsMarked l.initial.marks.items a → IsMarked l.marks.items a;
  only : (a : ℕ) → IsMarked l.marks.items a → IsMarked l.initial.marks.items a ⊎ Contains l.starts a;
  all : (k a : ℕ) → k < l.start-index → get_or l.starts k a ≡ a → a < length l.marks.items → IsMarked l.marks.items a;
}
