-- Summaries by their places and by the variables where they begin.
use Rattle.std.proofs.Common.{◌≡◌, ℕ, zero, suc, List, [], ◌∷◌, Some, slice_get, refl, ◌∙◌, ap}
use Rattle.std.proofs.lemmas.Option.{slice_get-get_or}
use Rattle.match_summary.specs.declared.reason.Summary.{Summary}
use Rattle.match_summary.specs.Starts.{sources}
use Rattle.match_summary.specs.Summary.{HasPair}

-- the source at a place is where the summary there begins
pub source_at : (rows : List Summary) (n : ℕ) (row : Summary) → slice_get rows n ≡ Some row
    → slice_get (sources rows) n ≡ Some row.from
source_at [] n row is = absurd cc
source_at (x ∷ rows) zero row is = cc
source_at (x ∷ rows) (suc n) row is = source_at rows n row is

-- a place of the sources that has a variable has a summary that begins at it
pub source_row : (rows : List Summary) (n from : ℕ) → slice_get (sources rows) n ≡ Some from
    → (row : Summary) × (slice_get rows n ≡ Some row) × (row.from ≡ from)
source_row [] n from is = absurd cc
source_row (x ∷ rows) zero from is = (x, refl, cc)
source_row (x ∷ rows) (suc n) from is = source_row rows n from is

-- a pair has a place
pub pair_place : (rows : List Summary) (u v : ℕ) (pair : HasPair rows u v)
    → (n : ℕ) × (slice_get rows n ≡ Some (record { from = u; to = v; why = pair.0 }))
pair_place rows u v pair = (
  pair.1.0,
  slice_get-get_or rows pair.1.0 (record { from = u; to = v; why = pair.0 }) pair.1.1
      ∙ ap (λ (y : Summary). Some y) pair.1.2,
)
