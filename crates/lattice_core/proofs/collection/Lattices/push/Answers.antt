use Rattle.std.proofs.Common.{◌≡◌, ◌≤◌, List, length, sym, subst, arith}
use Rattle.std.proofs.lemmas.Grind.{common_steps}
use Rattle.lattice_core.specs.Order.{size, IsLattice}
use Rattle.lattice_core.specs.View.{LatticeView, AreSized, AreLattices}
use Rattle.lattice_core.proofs.Pushed.{each_pushed}
use Rattle.lattice_core.proofs.collection.Lattices.push.Goals as goal

-- lattices that could not be pushed leave the others as they were
pub invariant_of-self : goal.invariant_of-self
invariant_of-self c =
    let Held : List LatticeView → Type 0 = λ lattices. (length lattices ≤ 16) × AreSized lattices
    × AreLattices lattices in
    subst Held (sym c.in_err-push.ensures.items) c.self.invariant

-- one more lattice makes at most 16, each of which is a lattice of its entries
pub invariant_of-self-2 : goal.invariant_of-self-2
invariant_of-self-2 c = (
  grind (arith, common_steps),
  each_pushed (λ (view : LatticeView). size view.order ≡ length view.entries) _ _ c.args.lattice
      c.in_ok-push.ensures.items c.self.invariant.1 c.law.ensures.elements,
  each_pushed (λ (view : LatticeView). IsLattice view.order) _ _ c.args.lattice c.in_ok-push.ensures.items
      c.self.invariant.2 c.law.ensures.lattice,
)
