-- What holds of the order of a lattice, said of its number.
use Rattle.std.proofs.Common.{◌≡◌, ℕ, List, Some, slice_get, sym, ◌∙◌, subst}
use Rattle.lattice_core.specs.Order.{Order}
use Rattle.lattice_core.specs.View.{LatticeView}
use Rattle.error_path.specs.Shown.{InLattice}

view_there : {x y : LatticeView} → Some x ≡ Some y → x ≡ y
view_there e = cc

-- what holds of the order of a lattice holds in that lattice of the list
pub in_lattice : (lattices : List LatticeView) (n : ℕ) (view : LatticeView) → slice_get lattices n ≡ Some view
    → (Is : Order → Type 0) → Is view.order → InLattice lattices n Is
in_lattice lattices n view there Is own other is =
    let Has : LatticeView → Type 0 = λ v. Is v.order in
    subst Has (view_there (sym there ∙ is)) own
