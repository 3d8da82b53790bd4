use Rattle.std.proofs.Common.{◌≡◌, ℕ, ◌+◌, inl, refl, subst}
use Rattle.match_summary.specs.Closing.{IsLookedAt, IsMarked, Looked}
use Rattle.match_summary.proofs.Done.{cover_end, done_more, looked_known}
use Rattle.match_summary.proofs.closure.from_ends.Goals as goal

-- looking at nothing from one more variable keeps what follows from those before it
pub loop-n-preserved : goal.loop-n-preserved
loop-n-preserved c =
    let so_far = c.loop-n.invariant in
    let step = c.in_ok-from_end.ensures in
    let at : c.new.result ≡ c.loop-n.n = c.new.ensures in
    record {
      kept = step.kept;
      done = done_more c.args.given.now.graph.now c.args.given.now.lattice c.args.given.now.marks.now
          c.requires.ready.marked (Looked c.loop-n.found.known c.loop-n.n 0)
          (Looked c.from_end.new.found.known (c.loop-n.n + 1) 0) _ _ c.loop-n.n c.loop-n.n
          so_far.done step.grows
          (subst (λ (a : ℕ). IsMarked c.args.given.now.marks.now a
          → IsLookedAt c.args.given.now.graph.now c.args.given.now.lattice c.args.given.now.marks.now
          c.loop-n.found.known c.from_end.new.found.known a a) at step.done)
          (looked_known c.loop-n.found.known c.loop-n.n 0) (inl refl)
          (cover_end c.loop-n.found.known c.from_end.new.found.known c.loop-n.n);
    }
