use Rattle.std.proofs.Common.{◌≡◌, ℕ, MatchOption, refl, ◌∙◌, ap, subst}
use Rattle.flow_graph.specs.declared.constraint.Link.TheVariants.{Bound}
use Rattle.flow_graph.specs.System.{Stands}
use Rattle.lattice_solver.specs.Solution.{Solution, AllUnder, Exceeds, IsOver, IsUnder}
use Rattle.lattice_solver.proofs.Exceeding.{found_over, found_exceeds, found_none}
use Rattle.lattice_solver.proofs.solver.Solver.exceeded.Goals as goal

-- the constraint is the bound that was found
bound_stands : (c : goal.After-reached)
    → Stands c.args.graph.now c.args.self.now.lattice c.args.bound
    (Bound c.in_ok-limit.limit.at c.args.self.now.lattice c.in_ok-limit.limit.elem)
bound_stands c =
    let named : c.self.inside.lattice ≡ c.args.self.now.lattice = ap (λ (s : Solution). s.lattice) c.self.view_is in
    record {
      constraint = c.constraint-constraint.result;
      there = c.constraint-constraint.ensures.there;
      link_is = c.in_ok-limit.ensures ∙ ap (λ l. Bound c.in_ok-limit.limit.at l c.in_ok-limit.limit.elem) named;
      carried = refl;
    }

-- what was looked for among the elements that reach its variable
looked : (c : goal.After-first_over)
    → MatchOption c.first_over.result (IsUnder c.args.graph.now c.args.self.now c.args.lattice.now.order c.args.bound)
    (Exceeds c.args.graph.now c.args.self.now c.args.lattice.now.order c.args.bound)
looked c =
    let limit = c.in_ok-limit.limit in
    let Found : ℕ → Type 0 = λ set. MatchOption c.first_over.result (AllUnder c.args.lattice.now.order set limit.elem)
    (IsOver c.args.lattice.now.order set limit.elem) in
    found_over c.args.graph.now c.args.self.now c.args.lattice.now.order c.requires.solved c.requires.named
    c.laws.ensures.lattice c.laws.ensures.solution c.args.bound limit.at limit.elem
    (bound_stands c.before) c.first_over.result (subst Found c.reached.ensures c.first_over.ensures)

pub first_over-requires : goal.first_over-requires
first_over-requires c =
    c.requires.named.bound c.args.bound c.in_ok-limit.limit.at c.in_ok-limit.limit.elem (bound_stands c)

pub returns-clause-none : goal.returns-clause-none
returns-clause-none c = found_none _ _ c.first_over.result (looked c)

-- with owners as they should be, an element is found just if the bound is exceeded
pub returns-clause-exceeded : goal.returns-clause-exceeded
returns-clause-exceeded c = λ owned.
    found_exceeds c.args.graph.now c.args.self.now c.args.lattice.now.order c.requires.solved c.requires.named
    c.laws.ensures.lattice c.laws.ensures.solution owned c.laws.ensures.solved c.args.bound
    c.first_over.result (looked c)
