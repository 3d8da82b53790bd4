-- What does not depend on numbers.
use Rattle.std.specs.Prelude.{◌≡◌, ℕ, List, length, ◌↔◌}
use Rattle.lattice_core.specs.Order.{Order}
use Rattle.flow_graph.specs.System.{System}
use Rattle.flow_graph.specs.Unfolding.{IsAcceptedIn, IsAccepted, IsExceeded, Printed}
use Rattle.renaming_laws.specs.Renamings.{Renaming, turned, IsRenamed}
use Rattle.renaming_laws.specs.Example as example

-- Both are accepted or neither is, in all lattices and in each; bounds are exceeded by their numbers, and what is
-- printed of a variable of the one is printed of it in the other.
pub record AreAlike (ren : Renaming) (sys other : System) : Type 0 where
  pub accepted : (orders : List Order) → IsAccepted sys orders ↔ IsAccepted other orders
  pub accepted_in : (lattice : ℕ) (order : Order) → IsAcceptedIn sys lattice order ↔ IsAcceptedIn other lattice order
  pub exceeded : (lattice : ℕ) (order : Order) (n : ℕ)
      → IsExceeded sys lattice order n ↔ IsExceeded other lattice order (ren.constraints.to n)
  pub printed : (lattice : ℕ) (order : Order) (v r : ℕ)
      → Printed sys lattice order v r ↔ Printed other lattice order (ren.vars.to v) r

-- Systems that differ by their numbers are alike.
abbrev pub RenamedIsAlike : Type 0
RenamedIsAlike = (ren : Renaming) (sys other : System) → IsRenamed ren sys other → AreAlike ren sys other

-- Where one system is another under new numbers, that is the first one under the old numbers.
abbrev pub RenamedTurns : Type 0
RenamedTurns = (ren : Renaming) (sys other : System) → IsRenamed ren sys other → IsRenamed (turned ren) other sys

-- Systems that differ by their numbers have as many constraints, and as many sites.
abbrev pub RenamedHasAsMany : Type 0
RenamedHasAsMany = (ren : Renaming) (sys other : System) → IsRenamed ren sys other →
    (length other.constraints ≡ length sys.constraints) × (length other.sites ≡ length sys.sites)

-- Two systems that differ in all of their numbers.
abbrev pub SomeAreRenamed : Type 0
SomeAreRenamed = IsRenamed example.renaming example.sys example.other
