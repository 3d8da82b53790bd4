-- The bounds that variables lead to.
use Rattle.std.specs.Prelude.{◌≡◌, ℕ, List, get_or, ◌↔◌}
use Rattle.std.specs.Int.{bit_at}
use Rattle.flow_graph.specs.System.{System}
use Rattle.split_laws.specs.Splits.{ReachesBound}

-- the set of a variable, bit b for element b; that of a variable past all is empty
abbrev pub set_at : List ℕ → ℕ → ℕ
set_at sets v = get_or sets v 0

-- flows, groups and calls lead from the variable to a bound of the element
abbrev pub Reaches : System → ℕ → ℕ → ℕ → Type 0
Reaches sys lattice v b = (n : ℕ) × ReachesBound sys lattice v n b

-- the set of each variable has the elements of the bounds that it leads to, and no other
abbrev pub AreBelow : System → ℕ → List ℕ → Type 0
AreBelow sys lattice sets = (v b : ℕ) → (bit_at (set_at sets v) b ≡ 1) ↔ Reaches sys lattice v b
