use Rattle.std.proofs.Common.{◌≡◌, ℕ, ap, arith, refl}
use Rattle.match_summary.specs.Chained.{link_of}
use Rattle.lattice_solver.specs.Working.{had_of}
use Rattle.match_summary.proofs.Crossing.{crosses_within, leave_crosses}
use Rattle.lattice_solver.proofs.Over.{leave_covered, leave_over, over_on}
use Rattle.lattice_solver.proofs.turns.pass_leaves.Goals as goal

-- where no `Leave` of the site begins at the variable, nothing is left to carry
pub returns-in_default-clause-passed : goal.returns-in_default-clause-passed
returns-in_default-clause-passed c = λ m v st.
    let none : link_of c.newest.result ≡ 0 = ap link_of c.in_default.is in
    let crosses =
    leave_crosses c.args.flows.now.graph.now c.args.flows.now.lattice m c.args.call.now.site c.args.last v st in
    absurd
    (c.newest.ensures.last m (omega (arith, none)) (crosses_within c.args.flows.now.graph.now _ m crosses) crosses)

-- where a `Leave` of the site and variable has all that was taken, these `Leave`s have carried it
pub returns-then-covers-clause-passed : goal.returns-then-covers-clause-passed
returns-then-covers-clause-passed c = λ m v st leads one.
    leave_covered c.args.flows.now.graph.now c.args.flows.now.lattice c.args.flows.now.summaries.now c.args.passed.now
    c.args.work.now.sets c.requires.over (had_of c.args.taken.now) c.in-Some.exit (c.if-covers.ensures refl)
    c.args.call.now.site c.args.last (c.newest.ensures.there c.in-Some.exit (ap link_of c.in-Some.is)) m v st

-- what is added at the last `Leave` of a site from a variable is at the ends of all these `Leave`s
pub returns-clause-over : goal.returns-clause-over
returns-clause-over c =
    let sys = c.args.flows.now.graph.now in
    let lattice = c.args.flows.now.lattice in
    let rows = c.args.flows.now.summaries.now in
    let joined = c.if-not-joins.ensures.0 refl in
    leave_over sys lattice rows c.args.passed.now c.add.new.self c.pass_all.new.work.sets
    (had_of c.args.taken.now) c.in-Some.exit c.add.ensures.only c.add.ensures.size (over_on sys lattice rows
    c.args.passed.now c.args.work.now.sets c.pass_all.new.work.sets c.pass_all.ensures.gains.kept c.requires.over)
    c.args.call.now.site c.args.last (c.newest.ensures.there c.in-Some.exit (ap link_of c.in-Some.is))
    (λ m v st. c.pass_all.ensures.passed m v st joined.0 joined.1)
