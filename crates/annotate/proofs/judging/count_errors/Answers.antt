use Rattle.std.proofs.Common.{List, length, refl, sym, subst, arith}
use Rattle.lattice_core.specs.View.{LatticeView, orders_of}
use Rattle.flow_graph.specs.Unfolding.{IsAccepted}
use Rattle.annotate.specs.declared.solving.Solved.{Solved}
use Rattle.annotate.specs.Solutions.{AreSolutions}
use Rattle.annotate.proofs.LatticeLemmas.{accepted_all}
use Rattle.annotate.proofs.ReportLemmas.{over_is_refuted}
use Rattle.annotate.proofs.Counting.{none_counted, over_counted}
use Rattle.annotate.proofs.judging.count_errors.Goals as goal

-- where no first exceeded bound is found, the program is accepted
pub returns-clause-accepted : goal.returns-clause-accepted
returns-clause-accepted c =
    let Solved : List Solved → Type 0 =
    λ solutions. AreSolutions c.args.graph.now c.args.scene.now.lattices.now solutions in
    let Accepted : List LatticeView → Type 0 = λ lattices. IsAccepted c.args.graph.now (orders_of lattices) in
    λ none s shows.
    let solved = subst Solved (sym c.deref.ensures.value) c.in_ok-solutions.ensures in
    subst Accepted (sym shows.lattices)
    (accepted_all c.args.graph.now c.args.scene.now.lattices.now c.deref.result.now solved c.in-None.ensures.kept)

-- where no first exceeded bound is found, the count of errors is 0
pub returns-clause-count : goal.returns-clause-count
returns-clause-count c =
    λ s shows.
    none_counted s c.args.graph.now (length c.args.graph.now.constraints) c.exceeded_is_refuted.ensures
    (returns-clause-accepted c refl s shows)

-- where a first exceeded bound is found, the count is not 0
pub returns-in-Some-clause-accepted : goal.returns-in-Some-clause-accepted
returns-in-Some-clause-accepted c =
    λ none s shows.
    let first = c.in-Some.ensures.over in
    let counted = c.count_over.ensures s shows in
    let some = over_counted s c.args.graph.now (length c.args.graph.now.constraints) c.count_over.result c.in-Some.first
    counted first.within (first.over s shows) in
    absurd (omega (arith, none, some))

-- where a first exceeded bound is found, the program is not accepted
pub returns-in-Some-clause-rejected : goal.returns-in-Some-clause-rejected
returns-in-Some-clause-rejected c =
    λ some s shows accepted.
    over_is_refuted s c.args.graph.now c.in-Some.first c.exceeded_is_refuted.ensures
    (c.in-Some.ensures.over.over s shows) accepted
