use Rattle.std.proofs.Common.{◌≡◌, ℕ, Option, Some, None, IfSome, is_some, true, sym, ◌∙◌}
use Rattle.std.proofs.lemmas.Option.{slice_get_within}
use Rattle.flow_graph.specs.Unfolding.{NamesElementsIn}
use Rattle.error_path.specs.Shown.{IsExceededBySome}
use Rattle.error_path.proofs.InLattices.{in_lattice}
use Rattle.flow_bench.proofs.counting.steps.Goals as goal

-- what is there is so
is_here : {Is : ℕ → Type 0} (found : Option ℕ) → is_some found ≡ true → IfSome found Is → (n : ℕ) × Is n
is_here None there is = absurd cc
is_here (Some n) there is = (n, is)

pub show-requires-clause-lattice : goal.show-requires-clause-lattice
show-requires-clause-lattice c =
    slice_get_within c.args.lattices.now c.args.solver.now.lattice c.args.lattice.now c.requires.lattice

pub show-requires-clause-named : goal.show-requires-clause-named
show-requires-clause-named c =
    in_lattice c.args.lattices.now c.args.solver.now.lattice c.args.lattice.now c.requires.lattice
    (NamesElementsIn c.args.graph.now c.args.solver.now.lattice) c.requires.named

-- the bound for which an element is found is exceeded by some element of the lattice
pub show-requires-clause-exceeded : goal.show-requires-clause-exceeded
show-requires-clause-exceeded c =
    let some = is_here c.exceeded.result (sym c.is_some.ensures ∙ c.if-is_some.true) c.exceeded.ensures.element in
    in_lattice c.args.lattices.now c.args.solver.now.lattice c.args.lattice.now c.requires.lattice
    (λ order. IsExceededBySome c.args.graph.now c.args.solver.now order c.new-at.result) some
