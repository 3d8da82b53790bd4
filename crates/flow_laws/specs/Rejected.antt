-- What it means that a program is not accepted.
use Rattle.std.specs.Prelude.{◌≡◌, ℕ, List, slice_get, Some}
use Rattle.lattice_core.specs.Order.{Order}
use Rattle.flow_graph.specs.System.{System}
use Rattle.flow_graph.specs.Unfolding.{IsExceeded}

-- a bound that is exceeded in some lattice of the list
pub record HasExceeded (sys : System) (orders : List Order) : Type 0 where
  pub lattice : ℕ
  pub order : Order
  pub there : slice_get orders lattice ≡ Some order
  pub number : ℕ
  pub exceeded : IsExceeded sys lattice order number

-- what is said of each lattice of the list
abbrev pub InEach : List Order → (ℕ → Order → Type 0) → Type 0
InEach orders P = (lattice : ℕ) (order : Order) → slice_get orders lattice ≡ Some order → P lattice order
