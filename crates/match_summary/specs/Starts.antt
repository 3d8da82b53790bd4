-- Where summaries begin, and how they are found.
use Rattle.std.specs.Prelude.{ℕ, List, map}
use Rattle.match_summary.specs.declared.reason.Summary.{Summary}
use Rattle.match_summary.specs.declared.buckets.Buckets.{Buckets}
use Rattle.match_summary.specs.declared.chains.Chains.{Chains}
use Rattle.match_summary.specs.Buckets.{AreHashed}
use Rattle.match_summary.specs.Chained.{AreChained}

-- the variables where they begin
abbrev pub sources : List Summary → List ℕ
sources rows = map (λ row. row.from) rows

-- each is found by its pair, and behind those that begin at the same variable
pub record IsFound (rows : List Summary) (places : Buckets) (starts : Chains) : Type 0 where
  pub hashed : AreHashed rows places
  pub chained : AreChained (sources rows) starts
