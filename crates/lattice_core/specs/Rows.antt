-- Links between elements as rows of bits, and where they lead.
use Rattle.std.specs.Prelude.{◌≡◌, ℕ, ◌<◌, List, length, slice_index}
use Rattle.std.specs.Int.{bit_at}
use Rattle.lattice_core.specs.Order.{Order}

-- the order that rows say
abbrev pub order_of : List ℕ → Order
order_of rows = record { above = rows }

-- links lead from one element to another in any number of steps
pub data Leads (links : List ℕ) (a : ℕ) : ℕ → Type 0 where
  Here : Leads links a a
  On : (b c : ℕ) → Leads links a b → bit_at (slice_index links b) c ≡ 1 → Leads links a c

-- links lead from one element to each of a row
abbrev pub AreLed : List ℕ → ℕ → ℕ → Type 0
AreLed links start row = (i : ℕ) → bit_at row i ≡ 1 → Leads links start i

-- no link leads out of a row
abbrev pub IsClosed : List ℕ → ℕ → Type 0
IsClosed links row =
    (a b : ℕ) → a < length links → bit_at row a ≡ 1 → bit_at (slice_index links a) b ≡ 1 → bit_at row b ≡ 1
