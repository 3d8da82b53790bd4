use Rattle.std.proofs.Common.{ℕ, length, subst}
use Rattle.match_summary.specs.Chained.{IsLink, link_of}
use Rattle.match_summary.specs.Crossings.{buckets_in}
use Rattle.match_summary.proofs.Crossing.{buckets_length}
use Rattle.match_summary.proofs.crossings.Crossings.newest.Goals as goal

-- a walk from the newest place of the bucket finds the last crossing of all
pub returns : goal.returns
returns c =
    let keys = buckets_in c.args.self.now.count c.args.graph.now.constraints in
    let link = c.newest.ensures keys c.requires.chained in
    c.walk.ensures (length c.args.graph.now.constraints)
    (subst (λ (n : ℕ). IsLink keys n (length c.args.graph.now.constraints)
    (link_of c.newest.result)) c.bucket_of-bucket.ensures
    (subst (λ (n : ℕ). IsLink keys c.bucket_of-bucket.result n (link_of c.newest.result))
    (buckets_length c.args.self.now.count c.args.graph.now.constraints) link))
