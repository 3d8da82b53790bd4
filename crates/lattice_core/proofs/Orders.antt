-- The orders of lattices.
use Rattle.std.proofs.Common.{◌≡◌, ℕ, List, Some, slice_get, ◌∙◌, ap, suc, [], ◌∷◌, length, refl}
use Rattle.std.specs.Option.{option_map}
use Rattle.std.proofs.lemmas.Option.{slice_get-map}
use Rattle.lattice_core.specs.View.{LatticeView, orders_of}

-- at the place of a lattice stands its order
pub order_there : (lattices : List LatticeView) (n : ℕ) (view : LatticeView) → slice_get lattices n ≡ Some view
    → slice_get (orders_of lattices) n ≡ Some view.order
order_there lattices n view is =
    slice_get-map (λ (lattice : LatticeView). lattice.order) lattices n
    ∙ ap (option_map (λ (lattice : LatticeView). lattice.order)) is

-- there are as many orders as lattices
pub all_orders : (lattices : List LatticeView) → length (orders_of lattices) ≡ length lattices
all_orders [] = refl
all_orders (x ∷ xs) = ap suc (all_orders xs)
