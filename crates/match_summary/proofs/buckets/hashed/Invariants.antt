use Rattle.std.proofs.Common.{take}
use Rattle.match_summary.specs.Chained.{AreChained}
use Rattle.match_summary.specs.Buckets.{buckets_of}
use Rattle.match_summary.proofs.buckets.hashed.Given as goal

abbrev pub invariant-loop-row : goal.invariant-loop-row
invariant-loop-row l = AreChained (buckets_of l.count (take l.row-index l.rows)) l.chains
