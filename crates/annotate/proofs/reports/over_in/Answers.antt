use Rattle.std.proofs.Common.{◌≡◌, ℕ, List, true, false, refl, sym, ◌∙◌, ap, slice_get, Some, subst}
use Rattle.flow_graph.specs.Unfolding.{IsExceeded, NamesElementsIn}
use Rattle.lattice_core.specs.View.{LatticeView}
use Rattle.lattice_core.proofs.Orders.{order_there}
use Rattle.annotate.proofs.LatticeLemmas.{same_over}
use Rattle.annotate.proofs.reports.over_in.Goals as goal

pub exceeded-requires-clause-solved : goal.exceeded-requires-clause-solved
exceeded-requires-clause-solved c =
    (c.requires.solutions.each c.in-Some.lattice c.solved_of-solved.result.now c.solved_of-solved.ensures).solved

-- the constraints name elements of the lattice of a bound, as `exceeded` requires
pub exceeded-requires-clause-named : goal.exceeded-requires-clause-named
exceeded-requires-clause-named c =
    let own = c.requires.solutions.each c.in-Some.lattice c.solved_of-solved.result.now c.solved_of-solved.ensures in
    let In : ℕ → Type 0 = λ l. NamesElementsIn c.args.graph.now l c.get-named.result.now.order in
    subst In (sym own.lattice_is) (c.requires.named c.in-Some.lattice c.get-named.result.now c.get-named.ensures)

-- a bound that its lattice finds exceeded is over in the solution of that lattice
pub returns-in-Some-exceeded-clause-found : goal.returns-in-Some-exceeded-clause-found
returns-in-Some-exceeded-clause-found c =
    let own = c.requires.solutions.each c.in-Some.lattice c.solved_of-solved.result.now c.solved_of-solved.ensures in
    let In : ℕ → Type 0 = λ l. NamesElementsIn c.args.graph.now l c.get-named.result.now.order in
    record {
      view = c.get-named.result.now;
      there = ap (slice_get c.args.scene.now.lattices.now) own.lattice_is ∙ c.get-named.ensures;
      summarised = own.summarised;
      solved = own.solved;
      named =
          subst In (sym own.lattice_is) (c.requires.named c.in-Some.lattice c.get-named.result.now c.get-named.ensures);
      elem = _;
      exceeds = c.in-Some-exceeded.ensures.element;
    }

-- a bound that its lattice finds exceeded is over in the scene
pub returns-in-Some-exceeded-clause-over : goal.returns-in-Some-exceeded-clause-over
returns-in-Some-exceeded-clause-over c =
    let own = c.requires.solutions.each c.in-Some.lattice c.solved_of-solved.result.now c.solved_of-solved.ensures in
    let In : ℕ → Type 0 = λ l. IsExceeded c.args.graph.now l c.get-named.result.now.order c.args.number in
    λ s shows.
    let there : slice_get s.lattices c.in-Some.lattice ≡ Some c.get-named.result.now =
    ap (λ (ls : List LatticeView). slice_get ls c.in-Some.lattice) shows.lattices ∙ c.get-named.ensures in
    record {
      lattice = c.in-Some.lattice;
      order = c.get-named.result.now.order;
      there = order_there s.lattices c.in-Some.lattice c.get-named.result.now there;
      exceeded = subst In own.lattice_is ((c.in-Some-exceeded.ensures.exceeded c.requires.owned).0 refl);
    }

-- a bound that its lattice does not find exceeded is over in no lattice
pub returns-in-None-clause-none : goal.returns-in-None-clause-none
returns-in-None-clause-none c =
    let own = c.requires.solutions.each c.in-Some.lattice c.solved_of-solved.result.now c.solved_of-solved.ensures in
    let In : ℕ → Type 0 = λ l. IsExceeded c.args.graph.now l c.get-named.result.now.order c.args.number in
    λ s shows over.
    let there : slice_get s.lattices c.in-Some.lattice ≡ Some c.get-named.result.now =
    ap (λ (ls : List LatticeView). slice_get ls c.in-Some.lattice) shows.lattices ∙ c.get-named.ensures in
    let at = order_there s.lattices c.in-Some.lattice c.get-named.result.now there in
    let exceeded = same_over s c.args.graph.now c.args.number c.constraint.result c.in-Some.ensures.0 c.in-Some.lattice
    c.in-Some.ensures.1 c.get-named.result.now.order c.constraint.ensures.there c.in-Some.ensures.2 at over in
    let found : false ≡ true =
    (c.in-None.ensures.exceeded c.requires.owned).1 (subst In (sym own.lattice_is) exceeded) in
    absurd cc
