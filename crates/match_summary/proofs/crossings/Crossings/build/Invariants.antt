use Rattle.std.proofs.Common.{take}
use Rattle.match_summary.specs.Chained.{AreChained}
use Rattle.match_summary.specs.Crossings.{buckets_in}
use Rattle.match_summary.proofs.crossings.Crossings.build.Given as goal

abbrev pub invariant-loop-n : goal.invariant-loop-n
invariant-loop-n l = AreChained (buckets_in l.count (take l.n l.graph.constraints)) l.chains
