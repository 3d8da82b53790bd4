-- The orders of the lattices of a file.
use Rattle.std.specs.Prelude.{◌≡◌, ℕ, List, Some, unwrap_or, slice_get}
use Rattle.lattice_core.specs.Order.{Order, IsOrder}
use Rattle.lattice_core.specs.View.{LatticeView, orders_of}
use Rattle.flow_graph.specs.PathProofs.{no_order}

-- the order of a lattice by its number, in which nothing is at or below anything where there is no such lattice
abbrev pub order_at : List LatticeView → ℕ → Order
order_at lattices number = unwrap_or (slice_get (orders_of lattices) number) no_order

-- each is an order
abbrev pub AreOrders : List Order → Type 0
AreOrders orders = (lattice : ℕ) (order : Order) → slice_get orders lattice ≡ Some order → IsOrder order
