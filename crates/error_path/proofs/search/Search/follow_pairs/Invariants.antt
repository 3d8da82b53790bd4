use Rattle.std.proofs.Common.{◌≡◌, ℕ, ◌+◌, ◌≤◌, Some, slice_get}
use Rattle.match_summary.specs.declared.reason.Summary.{Summary}
use Rattle.match_summary.specs.Chained.{link_of}
use Rattle.match_summary.specs.Starts.{sources}
use Rattle.error_path.specs.declared.search.Origin.{Origin}
use Rattle.error_path.specs.Reaching.{Grows, IsGood, IsOver, IsRoundedFrom}
use Rattle.error_path.proofs.search.Search.follow_pairs.Given as goal

-- the search is good, and the groups of each pair of the variable from this number on were followed
abbrev pub invariant-loop-next : goal.invariant-loop-next
invariant-loop-next l = record {
  good : (origin : Origin) → IsGood l.graph l.lattice origin l.summaries l.fn.self
      → IsGood l.graph l.lattice origin l.summaries l.self;
  grows : Grows l.fn.self l.self;
  over : IsOver l.graph l.lattice l.summaries l.passed l.self;
  there : (n : ℕ) → link_of l.next ≡ n + 1 → slice_get (sources l.summaries) n ≡ Some l.call.inner;
  done : (n m : ℕ) (row : Summary) → slice_get l.summaries n ≡ Some row → row.from ≡ l.call.inner → link_of l.next ≤ n →
      IsRoundedFrom l.graph l.lattice l.summaries l.self l.front.phase l.call.site l.call.inner row.to m;
}

abbrev pub decreases-loop-next : goal.decreases-loop-next
decreases-loop-next l = link_of l.next
