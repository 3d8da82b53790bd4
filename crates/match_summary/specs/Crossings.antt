-- The Enters and Leaves of a system, chained by a hash of their site and the variable at their inner end.
use Rattle.std.specs.Prelude.{◌≡◌, ℕ, ◌+◌, ◌*◌, ◌%◌, ◌<◌, ◌≤◌, ◌^◌, List, map, slice_get, Some}
use Rattle.flow_graph.specs.declared.constraint.Constraint.{Constraint}
use Rattle.flow_graph.specs.declared.constraint.Link.{Link}
use Rattle.flow_graph.specs.declared.constraint.Link.TheVariants.{Le, Const, Bound, Enter, Leave}
use Rattle.flow_graph.specs.System.{System}
use Rattle.match_summary.specs.declared.crossings.Way.{Way}
use Rattle.match_summary.specs.declared.crossings.Way.TheVariants.{In, Out}
use Rattle.match_summary.specs.declared.crossings.InnerEnd.{InnerEnd}
use Rattle.match_summary.specs.declared.crossings.Crossings.{Crossings}
use Rattle.match_summary.specs.Buckets.{hash_of}
use Rattle.match_summary.specs.Chained.{AreChained}

-- a link enters a site to a variable, or leaves it from the variable
abbrev pub HasEnd : Way → ℕ → ℕ → Link → Type 0
HasEnd In site at (Le u v) = ⊥
HasEnd In site at (Const l e v) = ⊥
HasEnd In site at (Bound v l e) = ⊥
HasEnd In site at (Enter s u v) = (s ≡ site) × (v ≡ at)
HasEnd In site at (Leave s u v) = ⊥
HasEnd Out site at (Le u v) = ⊥
HasEnd Out site at (Const l e v) = ⊥
HasEnd Out site at (Bound v l e) = ⊥
HasEnd Out site at (Enter s u v) = ⊥
HasEnd Out site at (Leave s u v) = (s ≡ site) × (u ≡ at)

-- constraint number n has this inner end
pub record Crosses (sys : System) (end : InnerEnd) (n : ℕ) : Type 0 where
  pub constraint : Constraint
  pub there : slice_get sys.constraints n ≡ Some constraint
  pub has : HasEnd end.way end.site end.at constraint.link

-- one more than the last constraint below a bound that has the inner end, and 0 where none has it
pub record IsLastCrossing (sys : System) (end : InnerEnd) (bound link : ℕ) : Type 0 where
  pub within : link ≤ bound
  pub there : (n : ℕ) → link ≡ n + 1 → Crosses sys end n
  pub last : (n : ℕ) → link ≤ n → n < bound → Crosses sys end n → ⊥

-- the bucket of an inner end: the lower half is of Enters, the upper one of Leaves
abbrev pub bucket_at : ℕ → Way → ℕ → ℕ → ℕ
bucket_at count In site at = hash_of site at % count
bucket_at count Out site at = count + hash_of site at % count

-- that of a link; all links without an inner end are in one bucket more
abbrev pub bucket_in : ℕ → Link → ℕ
bucket_in count (Le u v) = 2 * count
bucket_in count (Const l e v) = 2 * count
bucket_in count (Bound v l e) = 2 * count
bucket_in count (Enter s u v) = bucket_at count In s v
bucket_in count (Leave s u v) = bucket_at count Out s u

-- the buckets of constraints, in their order
abbrev pub buckets_in : ℕ → List Constraint → List ℕ
buckets_in count constraints = map (λ c. bucket_in count c.link) constraints

-- the constraints of the system are chained by their buckets
pub record AreCrossings (sys : System) (crossings : Crossings) : Type 0 where
  pub some : 0 < crossings.count
  pub few : crossings.count < 2 ^ 31
  pub chained : AreChained (buckets_in crossings.count sys.constraints) crossings.chains
