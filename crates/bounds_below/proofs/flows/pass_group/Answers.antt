use Rattle.std.proofs.Common.{◌≡◌, ◌≤◌, ℕ, true, false, length, refl, sym, subst, arith}
use Rattle.std.proofs.lemmas.Result.{on_ok_weaker}
use Rattle.qual_base.proofs.Tests.{some_number}
use Rattle.flow_graph.specs.Index.{link_site}
use Rattle.flow_graph.specs.declared.constraint.Link.{Link}
use Rattle.flow_graph.specs.declared.constraint.Link.TheVariants.{Enter}
use Rattle.flow_graph.specs.System.{Stands, vars_of_link}
use Rattle.match_summary.specs.Summary.{AreOfOne, Leads}
use Rattle.bounds_below.proofs.Groups.{leads_matches}
use Rattle.bounds_below.proofs.Links.{low_of, one_link, stands_in, key_of_link}
use Rattle.bounds_below.proofs.Reaching.{reach_group}
use Rattle.bounds_below.proofs.flows.pass_group.Goals as goal

-- the variable where the `Enter` of a group begins has a set
pub gain-requires : goal.gain-requires
gain-requires c =
    let link : Link = Enter c.in-Enter.field-0 c.in-Enter.from c.in-Enter.to in
    let low : vars_of_link link ≤ length c.args.work.now.sets.items =
    low_of c.args.flows.now.graph.now c.args.flows.now.lattice c.args.other c.constraint-constraint.result link
    c.constraint-constraint.ensures.there c.in-Enter.is _ c.requires.ready.below in
    omega arith

-- where a group begins leads to all bounds that its end leads to
pub returns-then-joins-clause-sound : goal.returns-then-joins-clause-sound
returns-then-joins-clause-sound c =
    let sys = c.args.flows.now.graph.now in
    let lattice = c.args.flows.now.lattice in
    let back = c.args.back.now in
    let link : Link = Enter c.in-Enter.field-0 c.in-Enter.from c.in-Enter.to in
    let site : c.in-Enter.field-0 ≡ back.site =
    some_number (key_of_link sys lattice c.args.other c.constraint-constraint.result link
    c.constraint-constraint.ensures.there c.in-Enter.is link_site back.site c.requires.site) in
    let enter = subst (λ (s : ℕ). Stands sys lattice c.args.other (Enter s c.in-Enter.from c.in-Enter.to)) site
    (stands_in sys lattice c.args.other c.constraint-constraint.result link c.constraint-constraint.ensures.there
    c.in-Enter.is (c.if-not-is_in.ensures.0 refl)) in
    let joined = c.if-joins.ensures.0 refl in
    let path = leads_matches sys lattice c.args.flows.now.summaries.now c.requires.ready.summarised c.in-Enter.to
    back.from joined.0 joined.1 in
    on_ok_weaker c.gain.result
    (λ step lead all. step sys lattice (λ b has.
    reach_group sys lattice c.args.other c.args.edge back.site path.0 c.in-Enter.from c.in-Enter.to back.from back.to b
    enter path.1 c.requires.back (lead b has)) all) c.gain.ensures.sound

-- a group inside which nothing and no summary leads to the `Leave` has nothing to bring back
pub returns-else-joins-clause-passed : goal.returns-else-joins-clause-passed
returns-else-joins-clause-passed c = λ u a st leads one.
    let sys = c.args.flows.now.graph.now in
    let back = c.args.back.now in
    let link : Link = Enter c.in-Enter.field-0 c.in-Enter.from c.in-Enter.to in
    let e = one_link sys c.args.flows.now.lattice c.args.other c.constraint-constraint.result link
    c.constraint-constraint.ensures.there c.in-Enter.is (Enter back.site u a) st in
    let to : c.in-Enter.to ≡ a = cc in
    let joined : false ≡ true = c.if-joins.ensures.1 (
      subst (λ (x : ℕ). Leads c.args.flows.now.summaries.now x back.from) (sym to) leads,
      subst (λ (x : ℕ). AreOfOne sys x back.from) (sym to) one,
    ) in
    absurd cc
