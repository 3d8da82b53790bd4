use Rattle.std.proofs.Common.{ℕ, slice_get, ◌∙◌, ap, subst}
use Rattle.match_summary.specs.Chained.{IsLink, link_of}
use Rattle.match_summary.specs.Crossings.{bucket_at, buckets_in}
use Rattle.match_summary.proofs.Crossing.{crosses_bucket}
use Rattle.match_summary.proofs.crossings.Crossings.before.Goals as goal

-- a walk from the place before a crossing in its bucket finds the last crossing below it
pub returns : goal.returns
returns c =
    let end = c.args.end.now in
    let keys = buckets_in c.args.self.now.count c.args.graph.now.constraints in
    let there = ap (λ (k : ℕ). slice_get keys k) c.number.ensures
    ∙ crosses_bucket c.args.self.now.count c.args.graph.now end c.args.at c.requires.at in
    c.walk.ensures c.args.at
    (subst (λ (n : ℕ). IsLink keys (bucket_at c.args.self.now.count end.way end.site end.at) n
    (link_of c.before-2.result)) c.number.ensures
    (c.before-2.ensures keys _ c.requires.crossings.chained there))
