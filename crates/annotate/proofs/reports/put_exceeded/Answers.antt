use Rattle.std.proofs.Common.{◌≡◌, ℕ, List, sym, ◌∙◌, ap, subst}
use Rattle.std.proofs.lemmas.Option.{slice_get_within}
use Rattle.flow_graph.specs.declared.constraint.Link.TheVariants.{Bound}
use Rattle.flow_graph.specs.Unfolding.{NamesElementsIn}
use Rattle.flow_graph.specs.PathProofs.{first_of, Holds}
use Rattle.error_path.specs.Shown.{IsExceededBySome}
use Rattle.lattice_core.specs.View.{LatticeView, orders_of}
use Rattle.annotate.specs.Reports.{IsError}
use Rattle.annotate.proofs.Writing.{some_of, then_both}
use Rattle.error_path.proofs.InLattices.{in_lattice}
use Rattle.annotate.proofs.ReportLemmas.{bound_found, limit_given, link_is, limit_is, error_as, edge_within, start_link, element_is}
use Rattle.annotate.proofs.reports.put_exceeded.Goals as goal

pub show-requires-clause-lattice : goal.show-requires-clause-lattice
show-requires-clause-lattice c =
    let e = c.requires.exceeds in
    slice_get_within c.args.scene.now.lattices.now c.args.solved.now.solver.lattice e.view e.there

-- the constraints name elements of the bound's lattice, as `show` requires
pub show-requires-clause-named : goal.show-requires-clause-named
show-requires-clause-named c =
    let e = c.requires.exceeds in
    in_lattice c.args.scene.now.lattices.now c.args.solved.now.solver.lattice e.view e.there
    (NamesElementsIn c.args.graph.now c.args.solved.now.solver.lattice) e.named

-- the bound is exceeded in the order of its lattice, as `show` requires
pub show-requires-clause-exceeded : goal.show-requires-clause-exceeded
show-requires-clause-exceeded c =
    let e = c.requires.exceeds in
    in_lattice c.args.scene.now.lattices.now c.args.solved.now.solver.lattice e.view e.there
    (λ order. IsExceededBySome c.args.graph.now c.args.solved.now.solver order c.args.bound) (e.elem, e.exceeds)

-- the path of the proof begins with a constraint, as `first_edge` requires
pub first_edge-requires : goal.first_edge-requires
first_edge-requires c =
    let b = c.in_ok-proof.ensures.begins c.requires.exceeds.view c.requires.exceeds.there in
    (b.number, 0, ap first_of c.deref.ensures.value ∙ b.first)

-- the constraint with which the path begins is one of the graph
pub constraint-start-requires : goal.constraint-start-requires
constraint-start-requires c =
    let b = c.in_ok-proof.ensures.begins c.requires.exceeds.view c.requires.exceeds.there in
    let edge = c.first_edge.ensures b.number 0 (ap first_of c.deref.ensures.value ∙ b.first) in
    edge_within c.args.graph.now c.args.solved.now.solver c.requires.exceeds.view.order c.args.bound c.in_ok-proof.proof
    b c.first_edge.result edge

-- the constraint with which the path begins is a constant, as `elem_of` requires
pub elem_of-elem-requires : goal.elem_of-elem-requires
elem_of-elem-requires c =
    let b = c.in_ok-proof.ensures.begins c.requires.exceeds.view c.requires.exceeds.there in
    let edge = c.first_edge.ensures b.number 0 (ap first_of c.deref.ensures.value ∙ b.first) in (
      c.args.solved.now.solver.lattice,
      b.element,
      b.var,
      start_link c.args.graph.now c.args.solved.now.solver c.requires.exceeds.view.order c.args.bound
          c.in_ok-proof.proof b c.first_edge.result edge c.constraint-start.result c.constraint-start.ensures.there,
    )

-- the constraint is a bound of the lattice, and so has a limit
pub unwrap-limit-requires : goal.unwrap-limit-requires
unwrap-limit-requires c =
    let e = c.requires.exceeds in
    let link = link_is c.args.graph.now c.args.solved.now.solver e.view.order c.args.bound
    c.constraint-constraint.result c.constraint-constraint.ensures.there e.elem e.exceeds in
    let At : ℕ → Type 0 =
    λ lattice. c.constraint-constraint.result.link ≡ Bound e.exceeds.var lattice e.exceeds.limit in
    bound_found c.constraint-constraint.result.link c.lattice-lattice.result e.exceeds.var e.exceeds.limit _
    c.bound_in.result (subst At (sym c.lattice-lattice.ensures) link) c.bound_in.ensures

-- the line of the element that exceeds the bound and the path from its constant are the error
pub returns-clause-error : goal.returns-clause-error
returns-clause-error c =
    let e = c.requires.exceeds in
    let b = c.in_ok-proof.ensures.begins e.view e.there in
    let edge = c.first_edge.ensures b.number 0 (ap first_of c.deref.ensures.value ∙ b.first) in
    let limit = limit_is c.args.graph.now c.args.solved.now.solver e.view.order c.args.bound
    c.constraint-constraint.result c.constraint-constraint.ensures.there e.elem e.exceeds c.unwrap-limit.result.at
    c.lattice-lattice.result c.unwrap-limit.result.elem
    (limit_given _ _ c.bound_in.result c.unwrap-limit.result c.unwrap-limit.ensures c.bound_in.ensures) in
    let element = element_is c.args.graph.now c.args.solved.now.solver e.view.order c.args.bound c.in_ok-proof.proof b
    c.first_edge.result edge c.constraint-start.result c.constraint-start.ensures.there c.elem_of-elem.ensures.0
    c.elem_of-elem.result c.elem_of-elem.ensures.1 c.elem_of-elem.ensures.2 in
    some_of (λ s error. IsError s c.args.graph.now c.args.bound error)
    (then_both c.in_ok-put_error.ensures c.in_ok-put_proof.ensures)
    (λ s shows.
    let Holding : List LatticeView → Type 0 = λ ls. Holds c.args.graph.now (orders_of ls) c.in_ok-proof.proof in
    error_as s c.args.graph.now c.args.solved.now.solver e.view.order c.args.bound c.in_ok-proof.proof
    c.constraint-constraint.result c.constraint-constraint.ensures.there e.elem e.exceeds
    (subst Holding (sym shows.lattices)
    (c.in_ok-proof.ensures.holds c.requires.owned)) c.in_ok-proof.ensures.ends c.in_ok-proof.ensures.apart b
    c.lattice-lattice.result c.elem_of-elem.result c.unwrap-limit.result.elem limit.0 element limit.1)
