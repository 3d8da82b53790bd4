use Rattle.std.proofs.Common.{◌≡◌, ℕ, ◌<◌, ◌↔◌, get_or}
use Rattle.std.specs.Int.{bit_at}
use Rattle.lattice_core.proofs.rows.column.Given as goal

abbrev pub invariant-loop-a : goal.invariant-loop-a
invariant-loop-a l = (i : ℕ) → (bit_at l.met i ≡ 1) ↔ ((i < l.a) × (bit_at (get_or l.rows i 0) l.at ≡ 1))
