-- The orders of lattices, one by one.
use Rattle.std.proofs.Common.{◌≡◌, ℕ, List, slice_get, Option, Some, None, option_map, refl, sym, ◌∙◌, subst}
use Rattle.std.proofs.lemmas.Option.{slice_get-map}
use Rattle.lattice_core.specs.Order.{Order, IsOrder}
use Rattle.lattice_core.specs.View.{LatticeView, AreLattices, orders_of}
use Rattle.path_checker.specs.Orders.{AreOrders}

view_of : (o : Option LatticeView) (order : Order) → option_map (λ (view : LatticeView). view.order) o ≡ Some order
    → (view : LatticeView) × (o ≡ Some view) × (view.order ≡ order)
view_of (Some view) order e = (view, refl, cc)
view_of None order e = absurd cc

-- a lattice by its number has this order
order_there : (lattices : List LatticeView) (n : ℕ) (order : Order) → slice_get (orders_of lattices) n ≡ Some order →
    (view : LatticeView) × (slice_get lattices n ≡ Some view) × (view.order ≡ order)
order_there lattices n order there =
    view_of (slice_get lattices n) order (sym (slice_get-map (λ (view : LatticeView). view.order) lattices n) ∙ there)

-- the orders of lattices that are lattices are orders
pub all_ordered : (lattices : List LatticeView) → AreLattices lattices → AreOrders (orders_of lattices)
all_ordered lattices are lattice order there =
    let it = order_there lattices lattice order there in
    subst IsOrder it.2 (are lattice it.0 it.1).ordered
