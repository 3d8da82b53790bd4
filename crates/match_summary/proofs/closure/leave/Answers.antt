use Rattle.std.proofs.Common.{◌≡◌, ◌+◌, ◌≤◌, ◌<◌, ap, arith}
use Rattle.match_summary.specs.Chained.{link_of}
use Rattle.match_summary.specs.Closing.{IsEntered}
use Rattle.match_summary.proofs.Crossing.{crossed_first, crossed_more, crosses_site, enter_crosses}
use Rattle.match_summary.proofs.Growth.{entered_on, entered_from, grows_not, grows_then, leads_grown}
use Rattle.match_summary.proofs.closure.leave.Goals as goal

-- at first no `Enter` of the inner end comes after the newest one
pub loop-next-init : goal.loop-next-init
loop-next-init c = record {
  kept = c.requires.kept;
  grows = grows_not c.args.found.now.known;
  there = c.newest-next.ensures.there;
  done = crossed_first c.args.given.now.graph.now _
      (IsEntered c.args.given.now.graph.now c.args.given.now.lattice c.args.given.now.marks.now c.args.found.now.known
      c.args.found.now.known c.args.from c.args.back.now.site c.args.back.now.to) _ c.newest-next.ensures
      (λ n elsewhere x st. absurd (elsewhere
      (enter_crosses c.args.given.now.graph.now c.args.given.now.lattice n c.args.back.now.site x c.args.from st)));
}

pub open-requires-clause-path : goal.open-requires-clause-path
open-requires-clause-path c =
    leads_grown _ _ c.args.from c.args.back.now.from c.loop-next.invariant.grows c.requires.path

pub open-requires-clause-other : goal.open-requires-clause-other
open-requires-clause-other c =
    crosses_site c.args.given.now.graph.now _ c.in-Some.other
    (c.loop-next.invariant.there c.in-Some.other (ap link_of c.in-Some.is))

pub before-next-requires-clause-at : goal.before-next-requires-clause-at
before-next-requires-clause-at c = c.loop-next.invariant.there c.in-Some.other (ap link_of c.in-Some.is)

-- the `Enter` before this one at the inner end has a lower number
pub loop-next-smaller : goal.loop-next-smaller
loop-next-smaller c =
    let less : link_of c.before-next.result ≤ c.in-Some.other = c.before-next.ensures.within in
    let is : link_of c.loop-next.next ≡ c.in-Some.other + 1 = ap link_of c.in-Some.is in
    let goes : link_of c.before-next.result < link_of c.loop-next.next = omega (arith, less, is) in
    goes

-- opening at one more `Enter` keeps those from that number on followed
pub loop-next-preserved : goal.loop-next-preserved
loop-next-preserved c =
    let so_far = c.loop-next.invariant in
    let step = c.in_ok-open.ensures in
    let is : link_of c.loop-next.next ≡ c.in-Some.other + 1 = ap link_of c.in-Some.is in
    record {
      kept = step.kept;
      grows = grows_then _ _ _ so_far.grows step.grows;
      there = c.before-next.ensures.there;
      done = crossed_more c.args.given.now.graph.now _
          (IsEntered c.args.given.now.graph.now c.args.given.now.lattice c.args.given.now.marks.now
          c.args.found.now.known c.open.new.found.known c.args.from c.args.back.now.site c.args.back.now.to)
          c.in-Some.other _ c.before-next.ensures
          (λ n after. entered_on _ _ _ _ _ _ _ _ _ _ step.grows (so_far.done n (omega (arith, after, is))))
          (entered_from _ _ _ _ _ _ _ _ _ _ so_far.grows step.done) (λ n elsewhere x st. absurd (elsewhere
          (enter_crosses c.args.given.now.graph.now c.args.given.now.lattice n c.args.back.now.site x c.args.from st)));
    }

-- when no `Enter` is left, the `Leave` was opened at each one of its site to the variable
pub returns-clause-done : goal.returns-clause-done
returns-clause-done c = λ one m x st.
    let none : link_of c.loop-next.next ≡ 0 = ap link_of c.in_default.is in
    c.loop-next.invariant.done m (omega (arith, none)) x st
