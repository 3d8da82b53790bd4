use Rattle.std.proofs.Common.{◌≡◌, ◌≤◌, ℕ, refl, subst, arith}
use Rattle.qual_base.proofs.Tests.{some_number}
use Rattle.flow_graph.specs.PathRules.{link_begins}
use Rattle.flow_graph.specs.declared.constraint.Link.TheVariants.{Le, Enter, Leave}
use Rattle.flow_graph.specs.declared.phase.Phase.TheVariants.{First, Second}
use Rattle.flow_graph.specs.System.{Stands, vars_of_link}
use Rattle.flow_graph.specs.Paths.{returns}
use Rattle.lattice_solver.specs.Phases.{size_of}
use Rattle.lattice_solver.proofs.Agreeing.{flow_leads, call_leads, enter_carried}
use Rattle.lattice_solver.proofs.Links.{low_of, stands_in, key_of_link}
use Rattle.lattice_solver.proofs.Over.{over_on}
use Rattle.lattice_solver.proofs.turns.follow.Goals as goal

-- the variable that an `Le` leads to has sets
pub give_both-requires : goal.give_both-requires
give_both-requires c =
    let low : vars_of_link (Le c.in-Le.field-0 c.in-Le.to) ≤ size_of c.args.work.now.sets =
    low_of c.args.flows.now.graph.now c.args.flows.now.lattice c.args.edge c.constraint-constraint.result
    (Le c.in-Le.field-0 c.in-Le.to) c.constraint-constraint.ensures.there c.in-Le.is _ c.requires.ready.below in
    omega arith

-- the variable that an `Enter` leads to has sets
pub give_called-requires : goal.give_called-requires
give_called-requires c =
    let low : vars_of_link (Enter c.in-Enter.site c.in-Enter.from c.in-Enter.to) ≤ size_of c.args.work.now.sets =
    low_of c.args.flows.now.graph.now c.args.flows.now.lattice c.args.edge c.constraint-constraint.result
    (Enter c.in-Enter.site c.in-Enter.from c.in-Enter.to) c.constraint-constraint.ensures.there c.in-Enter.is _
    c.requires.ready.below in
    omega arith

-- the variable that a `Leave` leads to has sets
pub gain-requires : goal.gain-requires
gain-requires c =
    let low : vars_of_link (Leave c.in-Leave.field-0 c.in-Leave.field-1 c.in-Leave.to) ≤ size_of c.args.work.now.sets =
    low_of c.args.flows.now.graph.now c.args.flows.now.lattice c.args.edge c.constraint-constraint.result
    (Leave c.in-Leave.field-0 c.in-Leave.field-1 c.in-Leave.to) c.constraint-constraint.ensures.there c.in-Leave.is _
    c.requires.ready.below in
    omega arith

-- what led to the begin of an `Le` leads to its end in the same phase
pub returns-in-Le-clause-sound : goal.returns-in-Le-clause-sound
returns-in-Le-clause-sound c = λ lead all.
    let sys = c.args.flows.now.graph.now in
    let lattice = c.args.flows.now.lattice in
    let link = Le c.in-Le.field-0 c.in-Le.to in
    let from : c.in-Le.field-0 ≡ c.args.taken.now.at =
    some_number (key_of_link sys lattice c.args.edge c.constraint-constraint.result link
    c.constraint-constraint.ensures.there c.in-Le.is link_begins c.args.taken.now.at c.requires.begins) in
    let st = subst (λ (u : ℕ). Stands sys lattice c.args.edge (Le u c.in-Le.to)) from
    (stands_in sys lattice c.args.edge c.constraint-constraint.result link c.constraint-constraint.ensures.there
    c.in-Le.is (c.if-not-is_in.ensures.0 refl)) in
    c.give_both.ensures.sound sys lattice
    (λ p e has. flow_leads sys lattice c.args.taken.now.at c.in-Le.to c.args.edge st p e (lead p e has)) all

-- what led to the begin of an `Enter` leads to its end in the second phase, and on round its groups
pub returns-in-Enter-clause-sound : goal.returns-in-Enter-clause-sound
returns-in-Enter-clause-sound c = λ lead all.
    let sys = c.args.flows.now.graph.now in
    let lattice = c.args.flows.now.lattice in
    let link = Enter c.in-Enter.site c.in-Enter.from c.in-Enter.to in
    let from : c.in-Enter.from ≡ c.args.taken.now.at =
    some_number (key_of_link sys lattice c.args.edge c.constraint-constraint.result link
    c.constraint-constraint.ensures.there c.in-Enter.is link_begins c.args.taken.now.at c.requires.begins) in
    let st = subst (λ (u : ℕ). Stands sys lattice c.args.edge (Enter c.in-Enter.site u c.in-Enter.to)) from
    (stands_in sys lattice c.args.edge c.constraint-constraint.result link c.constraint-constraint.ensures.there
    c.in-Enter.is (c.if-not-is_in.ensures.0 refl)) in
    c.pass_groups.ensures.sound lead (c.give_called.ensures.sound sys lattice (λ p e has.
    call_leads sys lattice c.in-Enter.site c.args.taken.now.at c.in-Enter.to c.args.edge st p e (lead p e has)) all)

-- an `Enter` is carried when its end and the ends of its groups have what was taken
pub returns-in-Enter-clause-carried : goal.returns-in-Enter-clause-carried
returns-in-Enter-clause-carried c =
    enter_carried c.args.flows.now.graph.now c.args.flows.now.lattice c.args.flows.now.summaries.now _
    c.pass_groups.new.work.sets c.args.edge c.constraint-constraint.result c.in-Enter.site c.args.taken.now.at
    c.in-Enter.to c.in-Enter.from c.constraint-constraint.ensures.there c.in-Enter.is
    (λ p e has. c.pass_groups.ensures.gains.kept Second c.in-Enter.to e
    (c.give_called.ensures.has p e has)) c.pass_groups.ensures.passed

-- what led to the begin of a `Leave` in the first phase leads to its end in the first phase
pub returns-in-Leave-clause-sound : goal.returns-in-Leave-clause-sound
returns-in-Leave-clause-sound c = λ lead all.
    let sys = c.args.flows.now.graph.now in
    let lattice = c.args.flows.now.lattice in
    let link = Leave c.in-Leave.field-0 c.in-Leave.field-1 c.in-Leave.to in
    let from : c.in-Leave.field-1 ≡ c.args.taken.now.at =
    some_number (key_of_link sys lattice c.args.edge c.constraint-constraint.result link
    c.constraint-constraint.ensures.there c.in-Leave.is link_begins c.args.taken.now.at c.requires.begins) in
    let st = subst (λ (u : ℕ). Stands sys lattice c.args.edge (Leave c.in-Leave.field-0 u c.in-Leave.to)) from
    (stands_in sys lattice c.args.edge c.constraint-constraint.result link c.constraint-constraint.ensures.there
    c.in-Leave.is (c.if-not-is_in.ensures.0 refl)) in
    c.gain.ensures.sound sys lattice
    (λ e has. returns c.args.taken.now.at c.in-Leave.to c.in-Leave.field-0 c.args.edge (lead First e has) st) all

pub returns-in-Le-clause-over : goal.returns-in-Le-clause-over
returns-in-Le-clause-over c =
    over_on c.args.flows.now.graph.now c.args.flows.now.lattice c.args.flows.now.summaries.now c.args.passed.now
    c.args.work.now.sets c.give_both.new.work.sets c.give_both.ensures.gains.kept c.requires.over

pub pass_groups-requires-clause-over : goal.pass_groups-requires-clause-over
pass_groups-requires-clause-over c =
    over_on c.args.flows.now.graph.now c.args.flows.now.lattice c.args.flows.now.summaries.now c.args.passed.now
    c.args.work.now.sets c.give_called.new.work.sets c.give_called.ensures.gains.kept c.requires.over

pub returns-in-Leave-clause-over : goal.returns-in-Leave-clause-over
returns-in-Leave-clause-over c =
    over_on c.args.flows.now.graph.now c.args.flows.now.lattice c.args.flows.now.summaries.now c.args.passed.now
    c.args.work.now.sets c.gain.new.self.sets c.gain.ensures.gains.kept c.requires.over
