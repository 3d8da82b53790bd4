use Rattle.std.proofs.Common.{◌≡◌, ℕ, inl, inr, ap, subst, arith, refl}
use Rattle.flow_graph.specs.System.{Stands}
use Rattle.match_summary.specs.Chained.{link_of}
use Rattle.lattice_solver.specs.Stable.{IsPassed, IsPassedFrom}
use Rattle.lattice_solver.specs.Working.{had_of}
use Rattle.lattice_solver.proofs.Gaining.{system_same}
use Rattle.match_summary.proofs.Crossing.{crosses_within, enter_crosses}
use Rattle.lattice_solver.proofs.Over.{enter_covered, enter_over, from_on}
use Rattle.lattice_solver.proofs.turns.pass_groups.Goals as goal

pub pass_pairs-requires-clause-ready : goal.pass_pairs-requires-clause-ready
pass_pairs-requires-clause-ready c = system_same c.args.flows.now _ _ c.pass_leaves.ensures.gains.size c.requires.ready

-- an `Enter` of the site to the variable stands in the graph, so one crosses there
pub returns-in_default-clause-passed : goal.returns-in_default-clause-passed
returns-in_default-clause-passed c =
    let none : link_of c.newest.result ≡ 0 = ap link_of c.in_default.is in
    let n = c.requires.call.0 in
    let crosses = enter_crosses c.args.flows.now.graph.now c.args.flows.now.lattice n c.args.call.now.site
    c.args.taken.now.at c.args.call.now.to c.requires.call.1 in
    absurd
    (c.newest.ensures.last n (omega (arith, none)) (crosses_within c.args.flows.now.graph.now _ n crosses) crosses)

-- where an `Enter` of the site and variable has all that was taken, its groups have carried it
pub returns-then-covers-clause-passed : goal.returns-then-covers-clause-passed
returns-then-covers-clause-passed c =
    enter_covered c.args.flows.now.graph.now c.args.flows.now.lattice c.args.flows.now.summaries.now c.args.passed.now
    c.args.work.now.sets c.requires.over (had_of c.args.taken.now) c.in-Some.entry (c.if-covers.ensures refl)
    c.args.call.now.site c.args.call.now.to (c.newest.ensures.there c.in-Some.entry (ap link_of c.in-Some.is))

-- once the empty groups and those of pairs have carried what was taken, all groups have
pub returns-clause-passed : goal.returns-clause-passed
returns-clause-passed c =
    let sys = c.args.flows.now.graph.now in
    let lattice = c.args.flows.now.lattice in
    let rows = c.args.flows.now.summaries.now in
    let had = had_of c.args.taken.now in
    let site = c.args.call.now.site in
    let to = c.args.call.now.to in
    let Done : ℕ → ℕ → Type 0 = λ x k. IsPassedFrom sys lattice rows had c.pass_pairs.new.work.sets site to x k in
    let all : (m : ℕ) → IsPassed sys lattice rows had c.pass_pairs.new.work.sets site to m =
    λ m b v st leads one.
    let done : Done b m = elim leads [
      | inl same ↦
          subst (λ (x : ℕ). Done x m) same
          (from_on sys lattice rows had c.pass_leaves.new.work.sets c.pass_pairs.new.work.sets site to to m
          c.pass_pairs.ensures.gains.kept (c.pass_leaves.ensures.passed m))
      | inr pair ↦ c.pass_pairs.ensures.passed b m pair
    ] in
    done v st leads one in
    all

-- what is added at the last `Enter` of a site and variable is at the ends of all its groups
pub returns-clause-over : goal.returns-clause-over
returns-clause-over c =
    let sys = c.args.flows.now.graph.now in
    let lattice = c.args.flows.now.lattice in
    let rows = c.args.flows.now.summaries.now in
    let had = had_of c.args.taken.now in
    let site = c.args.call.now.site in
    let to = c.args.call.now.to in
    let Done : ℕ → ℕ → Type 0 = λ x k. IsPassedFrom sys lattice rows had c.pass_pairs.new.work.sets site to x k in
    let all : (m : ℕ) → IsPassed sys lattice rows had c.pass_pairs.new.work.sets site to m =
    λ m b v st leads one.
    let done : Done b m = elim leads [
      | inl same ↦
          subst (λ (x : ℕ). Done x m) same
          (from_on sys lattice rows had c.pass_leaves.new.work.sets c.pass_pairs.new.work.sets site to to m
          c.pass_pairs.ensures.gains.kept (c.pass_leaves.ensures.passed m))
      | inr pair ↦ c.pass_pairs.ensures.passed b m pair
    ] in
    done v st leads one in
    enter_over sys lattice rows c.pass_pairs.new.passed c.add.new.self c.pass_pairs.new.work.sets had c.in-Some.entry
    c.add.ensures.only c.add.ensures.size c.pass_pairs.ensures.over site to
    (c.newest.ensures.there c.in-Some.entry (ap link_of c.in-Some.is)) all
