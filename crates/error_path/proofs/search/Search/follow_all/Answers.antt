use Rattle.std.proofs.Common.{◌≡◌, ◌+◌, ap, arith}
use Rattle.match_summary.specs.Chained.{link_of}
use Rattle.error_path.specs.Reaching.{IsRoundedFrom}
use Rattle.match_summary.proofs.Crossing.{crossed_first, crossed_more, crosses_site, leave_crosses}
use Rattle.error_path.proofs.Over.{from_on}
use Rattle.error_path.proofs.Searching.{below_on, grows_same, grows_then, stands_on}
use Rattle.error_path.proofs.search.Search.follow_all.Goals as goal

-- at first the search is as it was, and no crossing of the end comes after its newest one
pub loop-next-init : goal.loop-next-init
loop-next-init c = record {
  good = λ origin good. good;
  grows = grows_same _;
  there = c.newest-next.ensures.there;
  done = crossed_first c.args.graph.now _
      (IsRoundedFrom c.args.graph.now c.args.lattice c.args.summaries.now c.args.self.now c.args.front.now.phase
      c.args.call.now.site c.args.call.now.inner c.args.last) _ c.newest-next.ensures (λ n elsewhere v st.
      absurd (elsewhere (leave_crosses c.args.graph.now c.args.lattice n c.args.call.now.site c.args.last v st)));
}

pub follow_group-requires-clause-site : goal.follow_group-requires-clause-site
follow_group-requires-clause-site c =
    crosses_site c.args.graph.now _ c.in-Some.leave
    (c.loop-next.invariant.there c.in-Some.leave (ap link_of c.in-Some.is))

pub follow_group-requires-clause-below : goal.follow_group-requires-clause-below
follow_group-requires-clause-below c =
    below_on c.args.graph.now c.args.self.now c.loop-next.self c.loop-next.invariant.grows c.requires.below

pub follow_group-requires-clause-front : goal.follow_group-requires-clause-front
follow_group-requires-clause-front c =
    stands_on c.args.self.now c.loop-next.self c.args.front.now.place c.args.front.now.phase c.args.front.now.at
    c.loop-next.invariant.grows c.requires.front

-- following the group of one `Leave` adds it to those of this site and variable that were followed
pub loop-next-preserved : goal.loop-next-preserved
loop-next-preserved c =
    let so_far = c.loop-next.invariant in
    let step = c.in_ok-follow_group.ensures in
    let is : link_of c.loop-next.next ≡ c.in-Some.leave + 1 = ap link_of c.in-Some.is in
    let sys = c.args.graph.now in
    let lattice = c.args.lattice in
    let rows = c.args.summaries.now in
    let phase = c.args.front.now.phase in
    let site = c.args.call.now.site in
    let inner = c.args.call.now.inner in
    let last = c.args.last in
    record {
      good = λ origin good. step.good origin (so_far.good origin good);
      grows = grows_then c.args.self.now c.loop-next.self c.follow_group.new.self so_far.grows step.grows;
      there = c.before-next.ensures.there;
      done = crossed_more sys _ (IsRoundedFrom sys lattice rows c.follow_group.new.self phase site inner last)
          c.in-Some.leave _ c.before-next.ensures
          (λ n after. from_on sys lattice rows c.loop-next.self c.follow_group.new.self phase site inner last n
          step.grows (so_far.done n (omega (arith, after, is))))
          (step.done last) (λ n elsewhere v st. absurd (elsewhere (leave_crosses sys lattice n site last v st)));
    }

-- when no `Leave` is left, each one of the site from the variable was followed
pub returns-clause-done : goal.returns-clause-done
returns-clause-done c = λ m.
    let none : link_of c.loop-next.next ≡ 0 = ap link_of c.in_default.is in
    c.loop-next.invariant.done m (omega (arith, none))
