use Rattle.std.proofs.Common.{◌≡◌, ℕ, ◌+◌, ◌≤◌}
use Rattle.match_summary.specs.Chained.{link_of}
use Rattle.match_summary.specs.Crossings.{Crosses}
use Rattle.error_path.specs.declared.search.Origin.{Origin}
use Rattle.error_path.specs.Reaching.{Grows, IsGood, IsRoundedFrom}
use Rattle.error_path.proofs.search.Search.follow_all.Given as goal

-- the search is good and grows, and each `Leave` from this number on was followed
abbrev pub invariant-loop-next : goal.invariant-loop-next
invariant-loop-next l = record {
  good : (origin : Origin) → IsGood l.graph l.lattice origin l.summaries l.fn.self
      → IsGood l.graph l.lattice origin l.summaries l.self;
  grows : Grows l.fn.self l.self;
  there : (n : ℕ) → link_of l.next ≡ n + 1 → Crosses l.graph l.end n;
  done : (n : ℕ) → link_of l.next ≤ n
      → IsRoundedFrom l.graph l.lattice l.summaries l.self l.front.phase l.call.site l.call.inner l.fn.last n;
}

abbrev pub decreases-loop-next : goal.decreases-loop-next
decreases-loop-next l = link_of l.next
