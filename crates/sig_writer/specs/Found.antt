-- What is found of a library is right at its nodes.
use Rattle.std.specs.Prelude.{◌≡◌, ℕ, ◌<◌, ◌↔◌, true, List}
use Rattle.std.specs.List.{Contains}
use Rattle.lattice_core.specs.Order.{Order, size, leq}
use Rattle.flow_graph.specs.System.{System}
use Rattle.flow_graph.specs.Paths.{Match, Returning}
use Rattle.flow_laws.specs.Least.{IsLeastOver}
use Rattle.split_laws.specs.Splits.{IsGreatestUnder, ReachesBound}
use Rattle.sig_writer.specs.Signatures.{Found}

-- an element of an order that is at or below all others
abbrev pub IsLeast : Order → ℕ → Type 0
IsLeast order e = (e < size order) × ((d : ℕ) → d < size order → leq order e d ≡ true)

-- an element of an order at or below which all others are
abbrev pub IsGreatest : Order → ℕ → Type 0
IsGreatest order e = (e < size order) × ((d : ℕ) → d < size order → leq order d e ≡ true)

-- what is found of these variables is right of a system, in a lattice of this order
pub record IsFoundAt (sys : System) (lattice : ℕ) (order : Order) (vars : List ℕ) (it : Found) : Type 0 where
  pub join : (v : ℕ) → Contains vars v → IsLeastOver order (λ e. Returning sys lattice e v) (it.join v)
  pub meet : (v : ℕ) → Contains vars v
      → IsGreatestUnder order (λ b. (n : ℕ) × ReachesBound sys lattice v n b) (it.meet v)
  pub joins : (u v : ℕ) → Contains vars u → (it.joins u v ≡ true) ↔ Match sys lattice u v
  pub least : IsLeast order it.least
  pub greatest : IsGreatest order it.greatest
