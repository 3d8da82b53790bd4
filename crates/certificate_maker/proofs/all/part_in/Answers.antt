use Rattle.std.proofs.Common.{ℕ, sym, ◌∙◌, subst}
use Rattle.flow_graph.specs.Unfolding.{IsAcceptedIn}
use Rattle.certificate_maker.proofs.FirstParts.{exceeded_unmet}
use Rattle.certificate_maker.proofs.all.part_in.Goals as goal

-- a lattice with an exceeded bound does not accept the program
pub returns-in-Some-clause-rejected : goal.returns-in-Some-clause-rejected
returns-in-Some-clause-rejected c = λ none accepted.
    let same = c.run.ensures.lattice ∙ c.in_ok-solver.ensures.lattice in
    let In : ℕ → Type 0 = λ l. IsAcceptedIn c.args.graph.now l c.args.lattice.now.order in
    let first = c.in-Some.ensures.first c.requires.owned in
    exceeded_unmet c.args.graph.now c.run.new.self.lattice c.args.lattice.now.order c.in-Some.field-0 first.exceeded
    (subst In (sym same) accepted)

-- a lattice without an exceeded bound accepts the program
pub returns-clause-accepted : goal.returns-clause-accepted
returns-clause-accepted c =
    let same = c.run.ensures.lattice ∙ c.in_ok-solver.ensures.lattice in
    let In : ℕ → Type 0 = λ l. IsAcceptedIn c.args.graph.now l c.args.lattice.now.order in
    subst In same (c.in-None.ensures.kept c.requires.owned).accepted
