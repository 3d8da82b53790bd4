use Rattle.std.proofs.Common.{◌≡◌, ◌≤◌, ℕ, true, false, refl, sym, subst, arith}
use Rattle.qual_base.proofs.Tests.{some_number}
use Rattle.flow_graph.specs.Index.{link_site}
use Rattle.flow_graph.specs.declared.constraint.Link.TheVariants.{Leave}
use Rattle.flow_graph.specs.System.{Stands, vars_of_link}
use Rattle.match_summary.specs.Summary.{AreOfOne, Leads}
use Rattle.lattice_solver.specs.Phases.{size_of}
use Rattle.lattice_solver.proofs.Groups.{group_leads}
use Rattle.lattice_solver.proofs.Links.{low_of, one_link, stands_in, key_of_link}
use Rattle.lattice_solver.proofs.turns.pass_group.Goals as goal

-- the variable that the `Leave` of a group leads to has sets
pub give_both-requires : goal.give_both-requires
give_both-requires c =
    let low : vars_of_link (Leave c.in-Leave.field-0 c.in-Leave.last c.in-Leave.to) ≤ size_of c.args.work.now.sets =
    low_of c.args.flows.now.graph.now c.args.flows.now.lattice c.args.leave c.constraint-back.result
    (Leave c.in-Leave.field-0 c.in-Leave.last c.in-Leave.to) c.constraint-back.ensures.there c.in-Leave.is _
    c.requires.ready.below in
    omega arith

-- what led to the begin of a group leads to its end in the same phase
pub returns-then-joins-clause-sound : goal.returns-then-joins-clause-sound
returns-then-joins-clause-sound c = λ lead all.
    let sys = c.args.flows.now.graph.now in
    let lattice = c.args.flows.now.lattice in
    let rows = c.args.flows.now.summaries.now in
    let call = c.args.call.now in
    let link = Leave c.in-Leave.field-0 c.in-Leave.last c.in-Leave.to in
    let site : c.in-Leave.field-0 ≡ call.site = some_number (key_of_link sys lattice c.args.leave
    c.constraint-back.result link c.constraint-back.ensures.there c.in-Leave.is link_site call.site c.requires.site) in
    let back = subst (λ (s : ℕ). Stands sys lattice c.args.leave (Leave s c.in-Leave.last c.in-Leave.to)) site
    (stands_in sys lattice c.args.leave c.constraint-back.result link c.constraint-back.ensures.there c.in-Leave.is
    (c.if-not-is_in.ensures.0 refl)) in
    let joined = c.if-joins.ensures.0 refl in
    c.give_both.ensures.sound sys lattice (λ p e has.
    group_leads sys lattice rows call.site c.args.taken.now.at call.to c.in-Leave.last c.in-Leave.to c.requires.call.0
    c.args.leave c.requires.ready.summarised c.requires.call.1 back joined.0 joined.1 p e (lead p e has)) all

-- a group inside which nothing and no summary leads to the `Leave` has nothing to carry
pub returns-else-joins-clause-passed : goal.returns-else-joins-clause-passed
returns-else-joins-clause-passed c = λ b v st leads one.
    let sys = c.args.flows.now.graph.now in
    let link = Leave c.in-Leave.field-0 c.in-Leave.last c.in-Leave.to in
    let e = one_link sys c.args.flows.now.lattice c.args.leave c.constraint-back.result link
    c.constraint-back.ensures.there c.in-Leave.is (Leave c.args.call.now.site b v) st in
    let last : c.in-Leave.last ≡ b = cc in
    let joined : false ≡ true = c.if-joins.ensures.1 (
      subst (λ x. Leads c.args.flows.now.summaries.now c.args.call.now.to x) (sym last) leads,
      subst (λ x. AreOfOne sys c.args.call.now.to x) (sym last) one,
    ) in
    absurd cc
