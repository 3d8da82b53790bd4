use Rattle.std.proofs.Common.{◌≡◌, ◌+◌, ◌/◌, ℕ, List, [], ◌∷◌, ◌++◌, take, slice_get, sym, ◌∙◌, ap, subst}
use Rattle.match_summary.specs.Chained.{AreChained}
use Rattle.match_summary.specs.Crossings.{buckets_in}
use Rattle.match_summary.proofs.Crossing.{buckets_more}
use Rattle.match_summary.proofs.crossings.Crossings.build.Goals as goal

-- pushing the bucket of one more constraint chains all up to it
pub loop-n-preserved : goal.loop-n-preserved
loop-n-preserved c =
    let count = c.len.result / 2 + 1 in
    let cs = c.args.graph.now.constraints in
    let there = ap (λ (k : ℕ). slice_get cs k) (sym c.new.ensures) ∙ c.constraint-constraint.ensures.there in
    let keys : buckets_in count (take c.loop-n.n cs) ++ c.bucket.result
    ∷ [] ≡ buckets_in count (take (c.loop-n.n + 1) cs) =
    ap (λ (x : ℕ). buckets_in count (take c.loop-n.n cs) ++ x ∷ []) c.bucket.ensures
    ∙ sym (buckets_more count cs c.loop-n.n c.constraint-constraint.result there) in
    subst (λ (xs : List ℕ). AreChained xs c.push.new.self) keys
    (c.in_ok-push.ensures.ok (buckets_in count (take c.loop-n.n cs)) c.loop-n.invariant)
