use Rattle.std.proofs.Common.{ℕ, ◌<◌, get_or}
use Rattle.error_path.specs.declared.search.Origin.{Origin}
use Rattle.error_path.specs.Reaching.{Grows, IsFollowed, IsGood, IsOver}
use Rattle.error_path.proofs.search.Search.visit.Given as goal

-- the search is good and grows, and the constraints before this one of the row were followed
abbrev pub invariant-loop-edge : goal.invariant-loop-edge
invariant-loop-edge l = record {
  good : (origin : Origin) → IsGood l.graph l.lattice origin l.summaries l.fn.self
      → IsGood l.graph l.lattice origin l.summaries l.self;
  grows : Grows l.fn.self l.self;
  done : (k : ℕ) → k < l.edge-index → (other : ℕ)
      → IsFollowed l.graph l.lattice l.summaries l.self l.front.phase l.front.at (get_or l.edge-items k other);
  over : IsOver l.graph l.lattice l.summaries l.passed l.self;
}
