use Rattle.std.proofs.Common.{◌≡◌, ℕ, ◌+◌, ◌%◌, ◌≤◌, Some, slice_get}
use Rattle.match_summary.specs.declared.reason.Summary.{Summary}
use Rattle.match_summary.specs.Chained.{link_of}
use Rattle.match_summary.specs.Buckets.{buckets_of, hash_of}
use Rattle.match_summary.proofs.buckets.Buckets.find.Given as goal

-- the next place is of the pair's bucket, and no row from there on has the pair
abbrev pub invariant-loop-next : goal.invariant-loop-next
invariant-loop-next l = record {
  there : (n : ℕ) → link_of l.next ≡ n + 1
      → slice_get (buckets_of l.self.count l.rows) n ≡ Some (hash_of l.from l.to % l.self.count);
  passed : (n : ℕ) (row : Summary) → link_of l.next ≤ n → slice_get l.rows n ≡ Some row → row.from ≡ l.from
      → row.to ≡ l.to → ⊥;
}

abbrev pub decreases-loop-next : goal.decreases-loop-next
decreases-loop-next l = link_of l.next
