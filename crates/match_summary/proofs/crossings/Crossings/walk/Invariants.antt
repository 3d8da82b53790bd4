use Rattle.std.proofs.Common.{◌≡◌, ℕ, ◌+◌, ◌<◌, ◌≤◌, Some, slice_get}
use Rattle.match_summary.specs.Chained.{IsLink, link_of}
use Rattle.match_summary.specs.Crossings.{Crosses, bucket_at, buckets_in}
use Rattle.match_summary.proofs.crossings.Crossings.walk.Given as goal

-- the next place is of the bucket, and no constraint between it and the bound has the inner end
abbrev pub invariant-loop-next : goal.invariant-loop-next
invariant-loop-next l = record {
  there : (n : ℕ) → link_of l.next ≡ n + 1
      → slice_get (buckets_in l.self.count l.graph.constraints) n
      ≡ Some (bucket_at l.self.count l.end.way l.end.site l.end.at);
  within : link_of l.next ≤ link_of l.fn.from;
  passed : (bound n : ℕ)
      → IsLink (buckets_in l.self.count l.graph.constraints)
      (bucket_at l.self.count l.end.way l.end.site l.end.at) bound (link_of l.fn.from) →
      link_of l.next ≤ n → n < bound → Crosses l.graph l.end n → ⊥;
}

abbrev pub decreases-loop-next : goal.decreases-loop-next
decreases-loop-next l = link_of l.next
