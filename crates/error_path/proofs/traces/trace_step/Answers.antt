use Rattle.std.proofs.Common.{List, reverse, sym, subst}
use Rattle.flow_graph.specs.declared.proof.PathStep.{PathStep}
use Rattle.error_path.specs.declared.search.Cause.{Cause}
use Rattle.error_path.specs.declared.search.Cause.TheVariants.{Start, Here, Step, Group}
use Rattle.flow_graph.specs.Parts.{Onward}
use Rattle.error_path.specs.Made.{subs_in}
use Rattle.error_path.proofs.Making.{onward_grown}
use Rattle.error_path.specs.Traced.{IsTraced}
use Rattle.error_path.proofs.Tracing.{around_joined, around_leads, comes_as, traced_group, traced_here, traced_start, traced_step}
use Rattle.error_path.proofs.traces.trace_step.Goals as goal

-- nothing or a summary joins the variables inside a group that was followed
pub number_of-requires-clause-joined : goal.number_of-requires-clause-joined
number_of-requires-clause-joined c =
    let given = c.requires.comes in
    let form : Cause = Group c.in-Group.from c.in-Group.enter c.in-Group.leave in
    let here = comes_as c.args.graph.now c.args.subs.now.lattice given.0 c.args.summaries.now given.1 given.2 given.3
    given.4 c.args.cause.now form c.in-Group.is given.5 in
    around_leads c.args.graph.now c.args.subs.now.lattice c.args.summaries.now c.in-Group.enter c.in-Group.leave
    here.0.it.phase here.0.it.at given.3 given.4 here.1 c.inner_ends-inner.result c.inner_ends-inner.ensures

-- the constraint of a step leads on from the earlier place to the goal
pub returns-in_ok-push_take-in-Step-clause-traced : goal.returns-in_ok-push_take-in-Step-clause-traced
returns-in_ok-push_take-in-Step-clause-traced c = λ origin target queue place q v comes on.
    let form : Cause = Step c.in-Step.from c.in-Step.edge in
    let here = comes_as c.args.graph.now c.args.subs.now.lattice origin c.args.summaries.now queue place q v
    c.args.cause.now form c.in-Step.is comes in
    let Steps : List PathStep → Type 0 = λ xs. Onward c.args.graph.now c.args.subs.now.lattice
    (subs_in c.args.subs.now) target here.0.it.phase here.0.it.at xs in (
      here.0,
      subst Steps (sym c.in_ok-push_take-in-Step.ensures)
          (traced_step c.args.graph.now c.args.subs.now.lattice (subs_in c.args.subs.now) target c.in-Step.edge
          here.0.it.phase here.0.it.at q v (reverse c.args.steps.now.items) here.1 on),
    )

-- a group with its sub-path leads on from the earlier place to the goal
pub returns-in_ok-push_group-in-Group-clause-traced : goal.returns-in_ok-push_group-in-Group-clause-traced
returns-in_ok-push_group-in-Group-clause-traced c = λ origin target queue place q v comes on.
    let form : Cause = Group c.in-Group.from c.in-Group.enter c.in-Group.leave in
    let sys = c.args.graph.now in
    let lattice = c.args.subs.now.lattice in
    let here =
    comes_as sys lattice origin c.args.summaries.now queue place q v c.args.cause.now form c.in-Group.is comes in
    let subs = subs_in c.number_of.new.subs in
    let Steps : List PathStep → Type 0 = λ xs. Onward sys lattice subs target here.0.it.phase here.0.it.at xs in
    let Grown : List (List PathStep) → Type 0 =
    λ xs. Onward sys lattice xs target q v (reverse c.args.steps.now.items) in
    let grown = subst Grown (sym c.in_ok-number-in-Group.ensures.extends.is)
    (onward_grown sys lattice (subs_in c.args.subs.now) c.in_ok-number-in-Group.ensures.extends.more target q v
    (reverse c.args.steps.now.items) on) in (
      here.0,
      subst Steps (sym c.in_ok-push_group-in-Group.ensures)
          (traced_group sys lattice subs target c.in-Group.enter c.in-Group.leave here.0.it.phase here.0.it.at q v
          c.args.summaries.now (reverse c.args.steps.now.items) c.in_ok-number-in-Group.number here.1
          (around_joined sys lattice c.args.summaries.now c.in-Group.enter c.in-Group.leave here.0.it.phase here.0.it.at
          q v here.1 c.inner_ends-inner.result c.inner_ends-inner.ensures subs c.in_ok-number-in-Group.number
          c.in_ok-number-in-Group.ensures.number) grown),
    )

-- the place that a step comes from is earlier in the queue
pub returns-in_ok-push_take-in-Step-clause-earlier : goal.returns-in_ok-push_take-in-Step-clause-earlier
returns-in_ok-push_take-in-Step-clause-earlier c = λ origin queue place q v comes.
    let form : Cause = Step c.in-Step.from c.in-Step.edge in
    (comes_as c.args.graph.now c.args.subs.now.lattice origin c.args.summaries.now queue place q v c.args.cause.now form
    c.in-Step.is comes).0

-- the place that a group comes from is earlier in the queue
pub returns-in_ok-push_group-in-Group-clause-earlier : goal.returns-in_ok-push_group-in-Group-clause-earlier
returns-in_ok-push_group-in-Group-clause-earlier c = λ origin queue place q v comes.
    let form : Cause = Group c.in-Group.from c.in-Group.enter c.in-Group.leave in
    (comes_as c.args.graph.now c.args.subs.now.lattice origin c.args.summaries.now queue place q v c.args.cause.now form
    c.in-Group.is comes).0

-- a constant of the element in front makes steps to the goal a path from the element
pub returns-in_ok-push_take-in-Start-clause-traced : goal.returns-in_ok-push_take-in-Start-clause-traced
returns-in_ok-push_take-in-Start-clause-traced c = λ origin target queue place q v comes on.
    let form : Cause = Start c.in-Start.edge in
    let here = comes_as c.args.graph.now c.args.subs.now.lattice origin c.args.summaries.now queue place q v
    c.args.cause.now form c.in-Start.is comes in
    let Steps : List PathStep → Type 0 =
    λ xs. IsTraced c.args.graph.now c.args.subs.now.lattice (subs_in c.args.subs.now) origin target xs in
    subst Steps (sym c.in_ok-push_take-in-Start.ensures)
    (traced_start c.args.graph.now c.args.subs.now.lattice (subs_in c.args.subs.now) target origin c.args.summaries.now
    queue place c.in-Start.edge q v (reverse c.args.steps.now.items) here on)

-- steps on from the variable of the search are the whole walk
pub returns-in-Here-clause-traced : goal.returns-in-Here-clause-traced
returns-in-Here-clause-traced c = λ origin target queue place q v comes on.
    let here = comes_as c.args.graph.now c.args.subs.now.lattice origin c.args.summaries.now queue place q v
    c.args.cause.now Here c.in-Here.is comes in
    traced_here c.args.graph.now c.args.subs.now.lattice (subs_in c.args.subs.now) target origin c.args.summaries.now
    queue place q v (reverse c.args.steps.now.items) here on
