-- The places of the pairs of a list of summaries, by a hash of each pair.
use Rattle.std.specs.Prelude.{ℕ, ◌+◌, ◌*◌, ◌/◌, ◌%◌, ◌<◌, ◌^◌, List, map}
use Rattle.match_summary.specs.declared.reason.Summary.{Summary}
use Rattle.match_summary.specs.declared.buckets.Buckets.{Buckets}
use Rattle.match_summary.specs.Chained.{AreChained}

-- the upper half of a product, which mixes the bits of both variables
abbrev pub hash_of : ℕ → ℕ → ℕ
hash_of u v = (u * 4294967296 + v) * 11400714819323198485 % 2 ^ 64 / 4294967296

-- the bucket of each pair
abbrev pub buckets_of : ℕ → List Summary → List ℕ
buckets_of count rows = map (λ row. hash_of row.from row.to % count) rows

-- there is a bucket, and the pairs are chained by theirs
pub record AreHashed (rows : List Summary) (buckets : Buckets) : Type 0 where
  pub some : 0 < buckets.count
  pub chained : AreChained (buckets_of buckets.count rows) buckets.chains
