use Rattle.std.proofs.Common.{◌≡◌, ◌≤◌, ℕ, sym, subst, arith}
use Rattle.std.proofs.lemmas.Bool.{eqb-true}
use Rattle.std.specs.Int.{bit_at}
use Rattle.lattice_core.proofs.Bits.{only_in}
use Rattle.flow_graph.specs.declared.constraint.Link.TheVariants.{Const}
use Rattle.flow_graph.specs.declared.phase.Phase.TheVariants.{First}
use Rattle.flow_graph.specs.Paths.{start}
use Rattle.flow_graph.specs.System.{Stands, vars_of_link}
use Rattle.lattice_solver.specs.Phases.{LeadsIn, size_of}
use Rattle.lattice_solver.proofs.Links.{low_of}
use Rattle.lattice_solver.proofs.turns.begin.Goals as goal

-- the variable of a constant has a set
pub gain-requires : goal.gain-requires
gain-requires c =
    let low : vars_of_link (Const c.in-Const.named c.in-Const.elem c.in-Const.at) ≤ size_of c.args.work.now.sets =
    low_of c.args.flows.now.graph.now c.args.flows.now.lattice c.args.edge c.constraint-link.result
    (Const c.in-Const.named c.in-Const.elem c.in-Const.at) c.constraint-link.ensures.there c.in-Const.is _
    c.requires.below in
    omega arith

-- the element of a constant of the lattice leads to its variable in the first phase
pub returns-then-eq-clause-sound : goal.returns-then-eq-clause-sound
returns-then-eq-clause-sound c = λ all.
    let sys = c.args.flows.now.graph.now in
    let lattice = c.args.flows.now.lattice in
    let link = Const c.in-Const.named c.in-Const.elem c.in-Const.at in
    let named : c.in-Const.named ≡ lattice = eqb-true c.in-Const.named lattice (sym c.if-eq.ensures) in
    let st = subst (λ (l : ℕ). Stands sys lattice c.args.edge (Const l c.in-Const.elem c.in-Const.at)) named
    (record {
      constraint = c.constraint-link.result;
      there = c.constraint-link.ensures.there;
      link_is = c.in-Const.is;
      carried = named;
    }) in
    c.gain.ensures.sound sys lattice (λ e has.
    subst (λ d. LeadsIn sys lattice First d c.in-Const.at)
    (sym (only_in c.in-Const.elem e (subst (λ set. bit_at set e ≡ 1) c.only.ensures has)))
    (start c.in-Const.at c.args.edge st)) all
