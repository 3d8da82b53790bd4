use Rattle.std.proofs.Common.{◌≡◌, ◌≤◌, ℕ, length, refl, sym, subst, arith}
use Rattle.std.proofs.lemmas.Result.{on_ok_weaker}
use Rattle.qual_base.proofs.Tests.{some_number}
use Rattle.flow_graph.specs.Index.{link_leads_to}
use Rattle.flow_graph.specs.declared.constraint.Link.{Link}
use Rattle.flow_graph.specs.declared.constraint.Link.TheVariants.{Le, Enter, Leave}
use Rattle.flow_graph.specs.System.{Stands, vars_of_link}
use Rattle.bounds_below.specs.Carrying.{AllReach}
use Rattle.bounds_below.proofs.Carried.{flow_carried, call_carried, back_carried}
use Rattle.bounds_below.proofs.Links.{low_of, stands_in, key_of_link}
use Rattle.bounds_below.proofs.Reaching.{reach_flow, reach_call}
use Rattle.bounds_below.proofs.flows.follow.Goals as goal

-- the variable where an `Le` begins has a set
pub gain-requires : goal.gain-requires
gain-requires c =
    let link : Link = Le c.in-Le.from c.in-Le.field-1 in
    let low : vars_of_link link ≤ length c.args.work.now.sets.items =
    low_of c.args.flows.now.graph.now c.args.flows.now.lattice c.args.edge c.constraint-constraint.result link
    c.constraint-constraint.ensures.there c.in-Le.is _ c.requires.ready.below in
    omega arith

-- the variable where an `Enter` begins has a set
pub gain-requires-in-Enter : goal.gain-requires-in-Enter
gain-requires-in-Enter c =
    let link : Link = Enter c.in-Enter.field-0 c.in-Enter.from c.in-Enter.field-2 in
    let low : vars_of_link link ≤ length c.args.work.now.sets.items =
    low_of c.args.flows.now.graph.now c.args.flows.now.lattice c.args.edge c.constraint-constraint.result link
    c.constraint-constraint.ensures.there c.in-Enter.is _ c.requires.ready.below in
    omega arith

-- where an `Le` begins leads to all bounds that its end leads to
pub returns-in-Le-clause-sound : goal.returns-in-Le-clause-sound
returns-in-Le-clause-sound c =
    let sys = c.args.flows.now.graph.now in
    let lattice = c.args.flows.now.lattice in
    let link : Link = Le c.in-Le.from c.in-Le.field-1 in
    let to : c.in-Le.field-1 ≡ c.args.at =
    some_number (key_of_link sys lattice c.args.edge c.constraint-constraint.result link
    c.constraint-constraint.ensures.there c.in-Le.is link_leads_to c.args.at c.requires.leads) in
    let st = subst (λ (v : ℕ). Stands sys lattice c.args.edge (Le c.in-Le.from v)) to
    (stands_in sys lattice c.args.edge c.constraint-constraint.result link c.constraint-constraint.ensures.there
    c.in-Le.is (c.if-not-is_in.ensures.0 refl)) in
    on_ok_weaker c.gain.result (λ step lead all. step sys lattice
    (λ b has. reach_flow sys lattice c.args.edge c.in-Le.from c.args.at b st (lead b has)) all) c.gain.ensures.sound

-- where an `Enter` begins leads to all bounds that its end leads to
pub returns-in-Enter-clause-sound : goal.returns-in-Enter-clause-sound
returns-in-Enter-clause-sound c =
    let sys = c.args.flows.now.graph.now in
    let lattice = c.args.flows.now.lattice in
    let link : Link = Enter c.in-Enter.field-0 c.in-Enter.from c.in-Enter.field-2 in
    let to : c.in-Enter.field-2 ≡ c.args.at =
    some_number (key_of_link sys lattice c.args.edge c.constraint-constraint.result link
    c.constraint-constraint.ensures.there c.in-Enter.is link_leads_to c.args.at c.requires.leads) in
    let st = subst (λ (v : ℕ). Stands sys lattice c.args.edge (Enter c.in-Enter.field-0 c.in-Enter.from v)) to
    (stands_in sys lattice c.args.edge c.constraint-constraint.result link c.constraint-constraint.ensures.there
    c.in-Enter.is (c.if-not-is_in.ensures.0 refl)) in
    on_ok_weaker c.gain-in-Enter.result (λ step lead all. step sys lattice (λ b has. reach_call sys lattice c.args.edge
    c.in-Enter.field-0 c.in-Enter.from c.args.at b st (lead b has)) all) c.gain-in-Enter.ensures.sound

-- where the groups of a `Leave` begin leads to all bounds that its end leads to
pub returns-in-Leave-clause-sound : goal.returns-in-Leave-clause-sound
returns-in-Leave-clause-sound c =
    let sys = c.args.flows.now.graph.now in
    let lattice = c.args.flows.now.lattice in
    let link : Link = Leave c.in-Leave.site c.in-Leave.from c.in-Leave.to in
    let to : c.in-Leave.to ≡ c.args.at = some_number (key_of_link sys lattice c.args.edge c.constraint-constraint.result
    link c.constraint-constraint.ensures.there c.in-Leave.is link_leads_to c.args.at c.requires.leads) in
    on_ok_weaker c.pass_groups.result (λ step lead all. step
    (subst (λ (v : ℕ). AllReach sys lattice c.args.had v) (sym to) lead) all) c.pass_groups.ensures.sound

-- an `Le` is carried when its begin has what its end had
pub returns-in-Le-clause-carried : goal.returns-in-Le-clause-carried
returns-in-Le-clause-carried c = on_ok_weaker c.gain.result
    (flow_carried c.args.flows.now.graph.now c.args.flows.now.lattice c.args.flows.now.summaries.now c.args.had
    c.gain.new.self.sets.items c.args.at c.args.edge c.constraint-constraint.result
    c.constraint-constraint.ensures.there c.in-Le.from c.in-Le.field-1 c.in-Le.is) c.gain.ensures.has

-- an `Enter` is carried when its begin has what its end had
pub returns-in-Enter-clause-carried : goal.returns-in-Enter-clause-carried
returns-in-Enter-clause-carried c = on_ok_weaker c.gain-in-Enter.result
    (call_carried c.args.flows.now.graph.now c.args.flows.now.lattice c.args.flows.now.summaries.now c.args.had
    c.gain-in-Enter.new.self.sets.items c.args.at c.args.edge c.constraint-constraint.result
    c.constraint-constraint.ensures.there c.in-Enter.field-0 c.in-Enter.from c.in-Enter.field-2 c.in-Enter.is)
    c.gain-in-Enter.ensures.has

-- a `Leave` is carried when the groups that end with it have brought back what its end had
pub returns-in-Leave-clause-carried : goal.returns-in-Leave-clause-carried
returns-in-Leave-clause-carried c = on_ok_weaker c.pass_groups.result
    (back_carried c.args.flows.now.graph.now c.args.flows.now.lattice c.args.flows.now.summaries.now c.args.had
    c.pass_groups.new.work.sets.items c.args.at c.args.edge c.constraint-constraint.result
    c.constraint-constraint.ensures.there c.in-Leave.site c.in-Leave.from c.in-Leave.to c.in-Leave.is)
    c.pass_groups.ensures.passed
