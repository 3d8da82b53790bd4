use Rattle.std.proofs.Common.{ℕ, ◌+◌, ◌-◌, ◌*◌, ◌<◌, inr, length, arith}
use Rattle.match_summary.specs.Closing.{Looked}
use Rattle.match_summary.proofs.Counting.{few_pairs}
use Rattle.match_summary.proofs.Done.{cover_pair, done_more, looked_known}
use Rattle.match_summary.proofs.Growth.{contains_at, grows_longer}
use Rattle.match_summary.proofs.closure.from_pairs.Goals as goal

nearer : (most at : ℕ) → at < most → most - (at + 1) < most - at
nearer most at less = omega (arith, less)

pub look-requires-clause-begins : goal.look-requires-clause-begins
look-requires-clause-begins c =
    c.loop-at.invariant.kept.good.begins c.row-pair.result.from c.row-pair.result.to
    (c.row-pair.result.why, contains_at c.loop-at.found.known c.loop-at.at _ c.row-pair.ensures)

pub look-requires-clause-path : goal.look-requires-clause-path
look-requires-clause-path c =
    inr (c.row-pair.result.why, contains_at c.loop-at.found.known c.loop-at.at _ c.row-pair.ensures)

-- as there are no more pairs than the square of the owners, each turn comes nearer to that number
pub loop-at-smaller : goal.loop-at-smaller
loop-at-smaller c =
    let few = few_pairs c.args.given.now.graph.now c.args.given.now.lattice c.args.given.now.marks.now
    c.loop-at.found.known c.loop-at.invariant.kept.good in
    let within = c.loop-at-test.true in
    let less : c.loop-at.at < length c.args.given.now.graph.now.owners * length c.args.given.now.graph.now.owners =
    omega (arith, few, within, c.len.ensures) in
    nearer _ _ less

-- looking at one more pair keeps what follows from those before it
pub loop-at-preserved : goal.loop-at-preserved
loop-at-preserved c =
    let so_far = c.loop-at.invariant in
    let step = c.in_ok-look.ensures in
    let within : c.loop-at.at < length c.loop-at.found.known = omega (arith, c.loop-at-test.true, c.len.ensures) in
    let longer = grows_longer _ _ step.grows in
    record {
      kept = step.kept;
      within = omega (arith, within, longer);
      done = done_more c.args.given.now.graph.now c.args.given.now.lattice c.args.given.now.marks.now
          c.requires.ready.marked (Looked c.loop-at.found.known c.args.given.now.vars c.loop-at.at)
          (Looked c.look.new.found.known c.args.given.now.vars (c.loop-at.at + 1)) _ _
          c.row-pair.result.from c.row-pair.result.to so_far.done step.grows (λ inner. step.done)
          (looked_known c.loop-at.found.known c.args.given.now.vars c.loop-at.at)
          (inr (c.row-pair.result.why, contains_at c.loop-at.found.known c.loop-at.at _ c.row-pair.ensures))
          (cover_pair c.loop-at.found.known c.look.new.found.known c.args.given.now.vars c.loop-at.at c.row-pair.result
          step.grows within c.row-pair.ensures);
    }
