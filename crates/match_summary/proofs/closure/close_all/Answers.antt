use Rattle.std.proofs.Common.{◌≡◌, ◌+◌, ◌≤◌, ◌<◌, ap, arith}
use Rattle.match_summary.specs.Chained.{link_of}
use Rattle.match_summary.specs.Closing.{IsLeftFrom}
use Rattle.match_summary.proofs.Crossing.{crossed_first, crossed_more, crosses_site, leave_crosses}
use Rattle.match_summary.proofs.Growth.{grows_not, grows_then, leads_grown, left_between}
use Rattle.match_summary.proofs.closure.close_all.Goals as goal

-- at first no `Leave` of the inner end comes after the newest one
pub loop-next-init : goal.loop-next-init
loop-next-init c = record {
  kept = c.requires.kept;
  grows = grows_not c.args.found.now.known;
  there = c.newest-next.ensures.there;
  done = crossed_first c.args.given.now.graph.now _
      (IsLeftFrom c.args.given.now.graph.now c.args.given.now.lattice c.args.found.now.known c.args.found.now.known
      c.args.from c.args.call.now.site c.args.call.now.to c.args.last) _ c.newest-next.ensures
      (λ n elsewhere w st. absurd (elsewhere
      (leave_crosses c.args.given.now.graph.now c.args.given.now.lattice n c.args.call.now.site c.args.last w st)));
}

pub close-requires-clause-path : goal.close-requires-clause-path
close-requires-clause-path c =
    leads_grown _ _ c.args.from c.args.call.now.from c.loop-next.invariant.grows c.requires.path

pub close-requires-clause-other : goal.close-requires-clause-other
close-requires-clause-other c =
    crosses_site c.args.given.now.graph.now _ c.in-Some.other
    (c.loop-next.invariant.there c.in-Some.other (ap link_of c.in-Some.is))

pub before-next-requires-clause-at : goal.before-next-requires-clause-at
before-next-requires-clause-at c = c.loop-next.invariant.there c.in-Some.other (ap link_of c.in-Some.is)

-- the crossing before this one has a lower number
pub loop-next-smaller : goal.loop-next-smaller
loop-next-smaller c =
    let less : link_of c.before-next.result ≤ c.in-Some.other = c.before-next.ensures.within in
    let is : link_of c.loop-next.next ≡ c.in-Some.other + 1 = ap link_of c.in-Some.is in
    let goes : link_of c.before-next.result < link_of c.loop-next.next = omega (arith, less, is) in
    goes

-- closing one more `Leave` behind the `Enter` keeps those from that number on followed
pub loop-next-preserved : goal.loop-next-preserved
loop-next-preserved c =
    let so_far = c.loop-next.invariant in
    let step = c.in_ok-close.ensures in
    let is : link_of c.loop-next.next ≡ c.in-Some.other + 1 = ap link_of c.in-Some.is in
    record {
      kept = step.kept;
      grows = grows_then _ _ _ so_far.grows step.grows;
      there = c.before-next.ensures.there;
      done = crossed_more c.args.given.now.graph.now _
          (IsLeftFrom c.args.given.now.graph.now c.args.given.now.lattice c.args.found.now.known c.close.new.found.known
          c.args.from c.args.call.now.site c.args.call.now.to c.args.last) c.in-Some.other _ c.before-next.ensures
          (λ n after. left_between _ _ _ _ _ _ _ _ _ _ _ (grows_not c.args.found.now.known) step.grows
          (so_far.done n (omega (arith, after, is)))) (left_between _ _ _ _ _ _ _ _ _ _ _ so_far.grows
          (grows_not c.close.new.found.known) (step.done c.args.last)) (λ n elsewhere w st. absurd (elsewhere
          (leave_crosses c.args.given.now.graph.now c.args.given.now.lattice n c.args.call.now.site c.args.last w st)));
    }

-- when no `Leave` is left, each one of the site from the variable was closed
pub returns-clause-done : goal.returns-clause-done
returns-clause-done c = λ m w st.
    let none : link_of c.loop-next.next ≡ 0 = ap link_of c.in_default.is in
    c.loop-next.invariant.done m (omega (arith, none)) w st
