use Rattle.std.proofs.Common.{ℕ, sym, subst}
use Rattle.std.proofs.lemmas.Result.{IfOk-weaker}
use Rattle.lattice_core.specs.View.{orders_of}
use Rattle.lattice_core.proofs.Orders.{order_there}
use Rattle.flow_graph.specs.declared.constraint.Link.TheVariants.{Bound}
use Rattle.flow_graph.specs.declared.proof.PathProof.{PathProof}
use Rattle.flow_graph.specs.Index.{IsIndexOf}
use Rattle.flow_graph.specs.System.{Stands}
use Rattle.flow_graph.specs.Paths.{Lead}
use Rattle.flow_graph.specs.PathProofs.{steps_of}
use Rattle.match_summary.specs.Summary.{Summarises}
use Rattle.error_path.specs.Shown.{IsShown}
use Rattle.flow_laws.proofs.Showing.{path_last}
use Rattle.error_path.proofs.Holding.{path_first, path_holds, path_lines, subs_lines}
use Rattle.error_path.proofs.Tracing.{bound_over, view_at}
use Rattle.error_path.proofs.showing.show.Goals as goal

pub ask-requires-clause-index : goal.ask-requires-clause-index
ask-requires-clause-index c = subst (IsIndexOf c.args.graph.now) (sym c.index.ensures) c.requires.solved.fits.indexed

pub ask-requires-clause-summaries : goal.ask-requires-clause-summaries
ask-requires-clause-summaries c =
    let Of : ℕ → Type 0 = λ l. Summarises c.args.graph.now l c.args.summaries.now in
    subst Of (sym c.target_of-target.ensures.lattice) c.requires.summaries

pub show_from-requires-clause-summaries : goal.show_from-requires-clause-summaries
show_from-requires-clause-summaries c =
    let Of : ℕ → Type 0 = λ l. Summarises c.args.graph.now l c.args.summaries.now in
    subst Of (sym c.target_of-target.ensures.lattice) c.requires.summaries

-- the target's bound stands in the graph at the target's variable
pub show_from-requires-clause-bound : goal.show_from-requires-clause-bound
show_from-requires-clause-bound c =
    let target = c.target_of-target.ensures in
    let at = c.target_of-target.result.at in
    let Of : ℕ → Type 0 = λ l. Stands c.args.graph.now l c.args.bound (Bound at l target.stands.0) in
    let Bounds : ℕ → Type 0 = λ n. Stands c.args.graph.now c.target_of-target.result.lattice n
    (Bound at c.target_of-target.result.lattice target.stands.0) in
    (target.stands.0, subst Bounds (sym target.bound) (subst Of (sym target.lattice) target.stands.1))

pub show_from-requires-clause-lead : goal.show_from-requires-clause-lead
show_from-requires-clause-lead c =
    let Of : ℕ → Type 0 = λ l. Lead c.args.graph.now l c.target_of-target.result.elem c.target_of-target.result.at in
    subst Of (sym c.target_of-target.ensures.lattice) c.target_of-target.ensures.lead

-- what was shown is shown of the solver's lattice and the bound
shown : (c : goal.After-show_from) (proof : PathProof)
    → IsShown c.args.graph.now c.target_of-target.result.lattice c.target_of-target.result.elem
    c.target_of-target.result.bound proof →
    IsShown c.args.graph.now c.args.solver.now.lattice c.target_of-target.result.elem c.args.bound proof
shown c proof is =
    let Of : ℕ → Type 0 =
    λ l. IsShown c.args.graph.now l c.target_of-target.result.elem c.target_of-target.result.bound proof in
    let Bounds : ℕ → Type 0 =
    λ n. IsShown c.args.graph.now c.args.solver.now.lattice c.target_of-target.result.elem n proof in
    subst Bounds c.target_of-target.ensures.bound (subst Of c.target_of-target.ensures.lattice is)

-- a path proof that is shown holds in the orders of the lattices, in a graph with owners as they should be
pub returns-clause-holds : goal.returns-clause-holds
returns-clause-holds c =
    let orders = orders_of c.args.lattices.now in
    let elem = c.target_of-target.result.elem in
    let view = view_at c.args.lattices.now c.args.solver.now.lattice c.requires.lattice in
    let order = view.0.order in
    let there = order_there c.args.lattices.now c.args.solver.now.lattice view.0 view.1 in
    IfOk-weaker c.show_from.result _ _
    (λ proof is owned.
    let path = shown c proof is in
    path_holds c.args.graph.now c.args.solver.now.lattice (steps_of proof.subs.items) elem c.args.bound orders order
    there path.subs (bound_over c.args.graph.now c.args.solver.now order c.args.bound elem
    (c.target_of-target.ensures.exceeds view.0 view.1)) proof.main.items proof.end path.path) c.show_from.ensures

-- the last step of the proof takes the bound
pub returns-clause-ends : goal.returns-clause-ends
returns-clause-ends c =
    IfOk-weaker c.show_from.result _ _
    (λ proof is.
    let path = shown c proof is in
    path_last c.args.graph.now c.args.solver.now.lattice (steps_of proof.subs.items) c.args.bound
    c.target_of-target.result.elem proof.main.items path.path) c.show_from.ensures

-- the first step of the proof takes a constant of an element that exceeds the bound
pub returns-clause-begins : goal.returns-clause-begins
returns-clause-begins c =
    let elem = c.target_of-target.result.elem in
    IfOk-weaker c.show_from.result _ _
    (λ proof is view there.
    let path = (shown c proof is).path in
    record {
      element = elem;
      exceeds = c.target_of-target.ensures.exceeds view there;
      number = path.start;
      var = path.from;
      constant = path.constant;
      first = path_first c.args.graph.now c.args.solver.now.lattice
          (steps_of proof.subs.items) elem c.args.bound proof.main.items path;
    })
    c.show_from.ensures

-- all lines of a proof that is shown are 0
pub returns-clause-lines : goal.returns-clause-lines
returns-clause-lines c =
    IfOk-weaker c.show_from.result _ _
    (λ proof is.
    let path = shown c proof is in
    record {
      main = path_lines c.args.graph.now c.args.solver.now.lattice
          (steps_of proof.subs.items) c.target_of-target.result.elem c.args.bound proof.main.items path.path;
      subs = subs_lines c.args.graph.now c.args.solver.now.lattice (steps_of proof.subs.items) path.subs;
      end = path.end;
    })
    c.show_from.ensures
