use Rattle.std.proofs.Common.{◌≡◌, ℕ, ◌<◌, ◌↔◌, get_or}
use Rattle.std.specs.Int.{bit_at}
use Rattle.lattice_core.proofs.rows.common.Given as goal

abbrev pub invariant-loop-a : goal.invariant-loop-a
invariant-loop-a l =
    (i : ℕ) → (bit_at l.left i ≡ 1)
    ↔ ((bit_at l.all i ≡ 1) × ((a : ℕ) → a < l.a → bit_at l.set a ≡ 1 → bit_at (get_or l.rows a 0) i ≡ 1))
