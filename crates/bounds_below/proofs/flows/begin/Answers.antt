use Rattle.std.proofs.Common.{◌≡◌, ◌≤◌, ◌^◌, ℕ, length, sym, ◌∙◌, ap, subst, arith}
use Rattle.std.proofs.lemmas.Bool.{eqb-true}
use Rattle.std.proofs.lemmas.Nat.Bits.{bit_at-pow_same}
use Rattle.std.proofs.lemmas.Result.{on_ok_weaker}
use Rattle.std.specs.Int.{bit_at}
use Rattle.lattice_core.proofs.Bits.{only_in}
use Rattle.flow_graph.specs.declared.constraint.Link.{Link}
use Rattle.flow_graph.specs.declared.constraint.Link.TheVariants.{Bound}
use Rattle.flow_graph.specs.System.{Stands, vars_of_link}
use Rattle.bounds_below.specs.Below.{Reaches}
use Rattle.bounds_below.specs.Carrying.{Has}
use Rattle.bounds_below.proofs.Links.{low_of, one_link}
use Rattle.bounds_below.proofs.Reaching.{reach_here}
use Rattle.bounds_below.proofs.flows.begin.Goals as goal

-- the variable of a bound has a set
pub gain-requires : goal.gain-requires
gain-requires c =
    let link : Link = Bound c.in-Bound.at c.in-Bound.named c.in-Bound.elem in
    let low : vars_of_link link ≤ length c.args.work.now.sets.items =
    low_of c.args.flows.now.graph.now c.args.flows.now.lattice c.args.edge c.constraint-link.result link
    c.constraint-link.ensures.there c.in-Bound.is _ c.requires.below in
    omega arith

-- a variable leads to its own bound, so its set stays sound with the bound's element
pub returns-then-eq-clause-sound : goal.returns-then-eq-clause-sound
returns-then-eq-clause-sound c =
    let sys = c.args.flows.now.graph.now in
    let lattice = c.args.flows.now.lattice in
    let named : c.in-Bound.named ≡ lattice = eqb-true c.in-Bound.named lattice (sym c.if-eq.ensures) in
    let st = subst (λ (l : ℕ). Stands sys lattice c.args.edge (Bound c.in-Bound.at l c.in-Bound.elem)) named
    (record {
      constraint = c.constraint-link.result;
      there = c.constraint-link.ensures.there;
      link_is = c.in-Bound.is;
      carried = named;
    }) in
    on_ok_weaker c.gain.result
    (λ step all. step sys lattice (λ b has.
    subst (λ (d : ℕ). Reaches sys lattice c.in-Bound.at d)
    (sym (only_in c.in-Bound.elem b (subst (λ (set : ℕ). bit_at set b ≡ 1) c.only.ensures has)))
    (reach_here sys lattice c.args.edge c.in-Bound.at c.in-Bound.elem st)) all) c.gain.ensures.sound

-- the element of a bound of the lattice is in the set of its variable afterwards
pub returns-then-eq-clause-begun : goal.returns-then-eq-clause-begun
returns-then-eq-clause-begun c =
    let sys = c.args.flows.now.graph.now in
    let lattice = c.args.flows.now.lattice in
    let link : Link = Bound c.in-Bound.at c.in-Bound.named c.in-Bound.elem in
    on_ok_weaker c.gain.result
    (λ has v b st.
    let e = one_link sys lattice c.args.edge c.constraint-link.result link c.constraint-link.ensures.there c.in-Bound.is
    (Bound v lattice b) st in
    let to : c.in-Bound.at ≡ v = cc in
    let elem : c.in-Bound.elem ≡ b = cc in
    let own : bit_at c.only.result b ≡ 1 =
    ap (λ (set : ℕ). bit_at set b) c.only.ensures
    ∙ subst (λ (d : ℕ). bit_at (2 ^ c.in-Bound.elem) d ≡ 1) elem (bit_at-pow_same c.in-Bound.elem) in
    subst (λ (x : ℕ). Has c.gain.new.self.sets.items x b) to (has b own)) c.gain.ensures.has
