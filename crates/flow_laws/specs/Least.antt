-- Least elements above sets, and what leads to the bounds of a system.
use Rattle.std.specs.Prelude.{◌≡◌, ℕ, ◌<◌, true, List, slice_get, unwrap_or}
use Rattle.lattice_core.specs.Order.{Order, size, leq}
use Rattle.flow_graph.specs.declared.constraint.Link.TheVariants.{Bound}
use Rattle.flow_graph.specs.System.{System, Stands}
use Rattle.flow_graph.specs.Paths.{Lead}

-- r is the least element that is at or above all in a set
pub record IsLeastOver (order : Order) (In : ℕ → Type 0) (r : ℕ) : Type 0 where
  pub element : r < size order
  pub upper : (e : ℕ) → In e → leq order e r ≡ true
  pub least : (d : ℕ) → d < size order → ((e : ℕ) → In e → leq order e d ≡ true) → leq order r d ≡ true

-- no constant leads to a bound that is not at or above it
abbrev pub IsSafe : System → ℕ → Order → Type 0
IsSafe sys lattice order = (n v b e : ℕ) → Stands sys lattice n (Bound v lattice b) → Lead sys lattice e v → leq order e b ≡ true

-- a solution has, for each variable, the least element at or above each that leads to it
abbrev pub IsSolution : System → ℕ → Order → (ℕ → ℕ) → Type 0
IsSolution sys lattice order solution = (v : ℕ) → IsLeastOver order (λ e. Lead sys lattice e v) (solution v)

-- each variable's element is at or below the variable's bounds
abbrev pub KeepsBounds : System → ℕ → Order → (ℕ → ℕ) → Type 0
KeepsBounds sys lattice order solution =
    (n v b : ℕ) → Stands sys lattice n (Bound v lattice b) → leq order (solution v) b ≡ true

-- the element of a variable in a list, or another past its end
abbrev pub element_of : List ℕ → ℕ → ℕ → ℕ
element_of elements other v = unwrap_or (slice_get elements v) other
