use Rattle.std.proofs.Common.{◌≡◌, ap, arith, refl}
use Rattle.match_summary.specs.Chained.{link_of}
use Rattle.match_summary.proofs.Crossing.{crosses_within, leave_crosses}
use Rattle.error_path.proofs.Over.{leave_covered, leave_over, over_on}
use Rattle.error_path.proofs.search.Search.follow_leaves.Goals as goal

-- where no `Leave` of the site begins at the variable, none is left to follow
pub returns-in_default-clause-done : goal.returns-in_default-clause-done
returns-in_default-clause-done c = λ m v st.
    let none : link_of c.newest.result ≡ 0 = ap link_of c.in_default.is in
    let crosses = leave_crosses c.args.graph.now c.args.lattice m c.args.call.now.site c.args.last v st in
    absurd (c.newest.ensures.last m (omega (arith, none)) (crosses_within c.args.graph.now _ m crosses) crosses)

-- where a `Leave` of the same site and variable was passed in the phase, these `Leave`s were followed
pub returns-then-has-clause-done : goal.returns-then-has-clause-done
returns-then-has-clause-done c = λ m v st leads.
    leave_covered c.args.graph.now c.args.lattice c.args.summaries.now c.args.passed.now c.args.self.now c.requires.over
    c.args.front.now.phase c.in-Some.exit (c.if-has.ensures.0 refl) c.args.call.now.site c.args.last
    (c.newest.ensures.there c.in-Some.exit (ap link_of c.in-Some.is)) m v st

-- the mark of the last `Leave` of a site from a variable stands for all of them, which were followed
pub returns-clause-over : goal.returns-clause-over
returns-clause-over c =
    let sys = c.args.graph.now in
    let lattice = c.args.lattice in
    let rows = c.args.summaries.now in
    leave_over sys lattice rows c.args.passed.now c.add.new.self c.follow_all.new.self c.args.front.now.phase
    c.in-Some.exit c.in_ok-add.ensures.only c.in_ok-add.ensures.size
    (over_on sys lattice rows c.args.passed.now c.args.self.now c.follow_all.new.self c.in_ok-follow_all.ensures.grows
    c.requires.over) c.args.call.now.site c.args.last (c.newest.ensures.there c.in-Some.exit (ap link_of c.in-Some.is))
    (λ m v st. c.in_ok-follow_all.ensures.done m v st (c.if-not-leads.ensures.0 refl))
