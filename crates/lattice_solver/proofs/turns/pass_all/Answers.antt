use Rattle.std.proofs.Common.{◌≡◌, ℕ, ◌+◌, ap, arith}
use Rattle.match_summary.specs.Chained.{link_of}
use Rattle.lattice_solver.specs.Stable.{IsPassedFrom}
use Rattle.lattice_solver.specs.Working.{had_of}
use Rattle.lattice_solver.proofs.Gaining.{gains_same, gains_then, system_same}
use Rattle.match_summary.proofs.Crossing.{crossed_first, crossed_more, crosses_site, leave_crosses}
use Rattle.lattice_solver.proofs.Over.{from_on}
use Rattle.lattice_solver.proofs.turns.pass_all.Goals as goal

-- at first no `Leave` comes after the newest one of the site from the variable
pub loop-next-init : goal.loop-next-init
loop-next-init c = record {
  gains = gains_same _;
  sound = λ lead all. all;
  there = c.newest-next.ensures.there;
  passed = crossed_first c.args.flows.now.graph.now _
      (IsPassedFrom c.args.flows.now.graph.now c.args.flows.now.lattice c.args.flows.now.summaries.now
      (had_of c.args.taken.now) c.args.work.now.sets c.args.call.now.site c.args.call.now.to c.args.last) _
      c.newest-next.ensures (λ n elsewhere v st. absurd (elsewhere
      (leave_crosses c.args.flows.now.graph.now c.args.flows.now.lattice n c.args.call.now.site c.args.last v st)));
}

pub pass_group-requires-clause-ready : goal.pass_group-requires-clause-ready
pass_group-requires-clause-ready c = system_same c.args.flows.now _ _ c.loop-next.invariant.gains.size c.requires.ready

pub pass_group-requires-clause-site : goal.pass_group-requires-clause-site
pass_group-requires-clause-site c =
    crosses_site c.args.flows.now.graph.now _ c.in-Some.leave
    (c.loop-next.invariant.there c.in-Some.leave (ap link_of c.in-Some.is))

-- going round the group of one more `Leave` keeps those from that number on passed
pub loop-next-preserved : goal.loop-next-preserved
loop-next-preserved c =
    let so_far = c.loop-next.invariant in
    let step = c.pass_group.ensures in
    let is : link_of c.loop-next.next ≡ c.in-Some.leave + 1 = ap link_of c.in-Some.is in
    let sys = c.args.flows.now.graph.now in
    let lattice = c.args.flows.now.lattice in
    let rows = c.args.flows.now.summaries.now in
    let had = had_of c.args.taken.now in
    let site = c.args.call.now.site in
    let to = c.args.call.now.to in
    let last = c.args.last in
    record {
      gains = gains_then c.args.work.now c.loop-next.work c.pass_group.new.work so_far.gains step.gains;
      sound = λ lead all. step.sound lead (so_far.sound lead all);
      there = c.before-next.ensures.there;
      passed = crossed_more sys _ (IsPassedFrom sys lattice rows had c.pass_group.new.work.sets site to last)
          c.in-Some.leave _ c.before-next.ensures
          (λ n after. from_on sys lattice rows had c.loop-next.work.sets c.pass_group.new.work.sets site to last n
          step.gains.kept (so_far.passed n (omega (arith, after, is))))
          (step.passed last) (λ n elsewhere v st. absurd (elsewhere (leave_crosses sys lattice n site last v st)));
    }

-- when no `Leave` is left, what was taken was carried to the ends of all of them
pub returns-clause-passed : goal.returns-clause-passed
returns-clause-passed c = λ m.
    let none : link_of c.loop-next.next ≡ 0 = ap link_of c.in_default.is in
    c.loop-next.invariant.passed m (omega (arith, none))
