use Rattle.std.proofs.Common.{◌≡◌, Some, slice_get, sym, ◌∙◌, ap, subst}
use Rattle.lattice_core.specs.View.{LatticeView}
use Rattle.flow_graph.specs.Paths.{Lead}
use Rattle.lattice_solver.specs.Solution.{Exceeds}
use Rattle.error_path.proofs.Tracing.{bound_at, limit_given, not_under, reached_leads, some_given, some_if, some_view}
use Rattle.error_path.proofs.showing.target_of.Goals as goal

-- the solver's lattice
there : (c : goal.After-exceeded)
    → slice_get c.args.lattices.now c.args.solver.now.lattice ≡ Some c.get-lattice.result.now
there c = ap (λ n. slice_get c.args.lattices.now n) (sym c.lattice.ensures) ∙ c.get-lattice.ensures

-- the bound is exceeded, so there is an element that exceeds it
pub unwrap-elem-requires : goal.unwrap-elem-requires
unwrap-elem-requires c =
    let over = c.requires.exceeded c.get-lattice.result.now (there c) in
    some_if c.exceeded.result _ c.exceeded.ensures.none
    (not_under c.args.graph.now c.args.solver.now c.get-lattice.result.now.order c.args.bound over.0 over.1)

-- the element that exceeds the bound leads to its variable
pub returns-clause-lead : goal.returns-clause-lead
returns-clause-lead c =
    let ex = some_given _ c.exceeded.result c.unwrap-elem.result c.unwrap-elem.ensures c.exceeded.ensures.element in
    let link = limit_given _ _ c.bound_in.result c.unwrap-limit.result c.unwrap-limit.ensures c.bound_in.ensures in
    let at = bound_at c.args.graph.now c.args.solver.now.lattice c.args.bound c.constraint.result ex.var ex.limit
    c.unwrap-limit.result.at _ _ ex.bound c.constraint.ensures.there link in
    subst (λ v. Lead c.args.graph.now c.args.solver.now.lattice c.unwrap-elem.result v) at
    (reached_leads c.args.graph.now c.args.solver.now c.requires.solved ex.var c.unwrap-elem.result ex.reached)

-- the target's element exceeds the bound in the order of the lattice
pub returns-clause-exceeds : goal.returns-clause-exceeds
returns-clause-exceeds c = λ view is.
    let ex = some_given _ c.exceeded.result c.unwrap-elem.result c.unwrap-elem.ensures c.exceeded.ensures.element in
    let at : slice_get c.args.lattices.now c.args.solver.now.lattice ≡ Some c.get-lattice.result.now =
    ap (λ n. slice_get c.args.lattices.now n) (sym c.lattice.ensures) ∙ c.get-lattice.ensures in
    let Of : LatticeView → Type 0 =
    λ v. Exceeds c.args.graph.now c.args.solver.now v.order c.args.bound c.unwrap-elem.result in
    subst Of (some_view (sym at ∙ is)) ex
