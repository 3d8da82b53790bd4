-- What was built of blocks.
use Rattle.std.proofs.Common.{◌≡◌, List, [], ◌∷◌, subst, zero, suc}
use Rattle.lattice_core.specs.Order.{IsLattice}
use Rattle.lattice_core.specs.View.{LatticeView, AreLattices}
use Rattle.lattice_file.specs.Blocks.{BlockView, AreAllBuilt}

-- the lattices that blocks build are lattices
pub built_lattices : (blocks : List BlockView) (lattices : List LatticeView) → AreAllBuilt blocks lattices
    → AreLattices lattices
built_lattices [] [] h n view there = absurd cc
built_lattices [] (l ∷ ls) h n view there = absurd h
built_lattices (b ∷ bs) [] h n view there = absurd h
built_lattices (b ∷ bs) (l ∷ ls) h zero view there =
    let is : l ≡ view = cc in subst (λ (v : LatticeView). IsLattice v.order) is h.0.built.bounded
built_lattices (b ∷ bs) (l ∷ ls) h (suc n) view there = built_lattices bs ls h.1 n view there
