use Rattle.std.proofs.Common.{◌≡◌, ℕ, ◌<◌, ◌↔◌, vec_len, get_or}
use Rattle.std.specs.Int.{bit_at}
use Rattle.lattice_core.specs.Rows.{Leads}
use Rattle.lattice_core.proofs.rows.closure.Given as goal

-- the rows so far say where links lead from each element before this one
abbrev pub invariant-loop-start : goal.invariant-loop-start
invariant-loop-start l = record {
  len : vec_len l.rows ≡ l.start;
  rows : (a b : ℕ) → a < l.start → (bit_at (get_or l.rows.items a 0) b ≡ 1) ↔ Leads l.links a b;
}
