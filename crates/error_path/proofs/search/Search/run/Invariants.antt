use Rattle.std.proofs.Common.{ℕ, ◌+◌, ◌-◌, ◌<◌, ◌≤◌, length}
use Rattle.error_path.specs.declared.search.Origin.{Origin}
use Rattle.error_path.specs.Marks.{free_of}
use Rattle.error_path.specs.Reaching.{Grows, IsGood, IsOver, IsVisited}
use Rattle.error_path.proofs.search.Search.run.Given as goal

-- the search is good and grows, and all places before this one were visited
abbrev pub invariant-loop-place : goal.invariant-loop-place
invariant-loop-place l = record {
  good : (origin : Origin) → IsGood l.graph l.lattice origin l.summaries l.fn.self
      → IsGood l.graph l.lattice origin l.summaries l.self;
  grows : Grows l.fn.self l.self;
  visited : (k : ℕ) → k < l.place → IsVisited l.graph l.lattice l.summaries l.self k;
  over : IsOver l.graph l.lattice l.summaries l.passed l.self;
  low : l.place ≤ length l.self.queue.items;
}

abbrev pub decreases-loop-place : goal.decreases-loop-place
decreases-loop-place l = (free_of l.self.marks + length l.self.queue.items) - l.place
