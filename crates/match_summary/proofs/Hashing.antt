-- The buckets of a list of summaries with one more, and what a chain says of a pair.
use Rattle.std.proofs.Common.{◌≡◌, ℕ, zero, suc, ◌%◌, ◌<◌, List, [], ◌∷◌, Some, length, slice_get, ◌∙◌, ap, arith}
use Rattle.match_summary.specs.declared.reason.Reason.{Reason}
use Rattle.match_summary.specs.declared.reason.Summary.{Summary}
use Rattle.match_summary.specs.Buckets.{buckets_of, hash_of}

-- the bucket of a pair by its place
pub bucket_at : (count : ℕ) (rows : List Summary) (n : ℕ) (row : Summary) → slice_get rows n ≡ Some row
    → slice_get (buckets_of count rows) n ≡ Some (hash_of row.from row.to % count)
bucket_at count [] n row is = absurd cc
bucket_at count (x ∷ rows) zero row is =
    let same : x ≡ row = cc in
    ap (λ (r : Summary). Some (hash_of r.from r.to % count)) same
bucket_at count (x ∷ rows) (suc n) row is = bucket_at count rows n row is

pub bucket_of_pair : (count : ℕ) (rows : List Summary) (n u v : ℕ) (row : Summary) → slice_get rows n ≡ Some row
    → row.from ≡ u → row.to ≡ v →
    slice_get (buckets_of count rows) n ≡ Some (hash_of u v % count)
bucket_of_pair count rows n u v row is from to =
    bucket_at count rows n row is ∙ ap (λ (x : ℕ). Some (hash_of x row.to % count)) from
    ∙ ap (λ (y : ℕ). Some (hash_of u y % count)) to

-- a summary with the variables of a pair
pub of_pair : (rows : List Summary) (n u v : ℕ) (row : Summary) → slice_get rows n ≡ Some row → row.from ≡ u
    → row.to ≡ v →
    (why : Reason) × (slice_get rows n ≡ Some (record { from = u; to = v; why = why }))
of_pair rows n u v row is from to = (
  row.why,
  is ∙ ap (λ (x : ℕ). Some (record { from = x; to = row.to; why = row.why })) from
      ∙ ap (λ (y : ℕ). Some (record { from = u; to = y; why = row.why })) to,
)

-- a place that has a bucket is one of a summary
pub bucket_row : (count : ℕ) (rows : List Summary) (n bucket : ℕ) → slice_get (buckets_of count rows) n ≡ Some bucket
    → n < length rows
bucket_row count [] n bucket is = absurd cc
bucket_row count (x ∷ rows) zero bucket is = omega arith
bucket_row count (x ∷ rows) (suc n) bucket is = let deeper = bucket_row count rows n bucket is in omega (arith, deeper)
