use Rattle.std.proofs.Common.{◌≡◌, ℕ, ◌<◌, ◌↔◌, vec_len, get_or}
use Rattle.std.specs.Int.{bit_at}
use Rattle.lattice_core.proofs.rows.converse.Given as goal

-- the columns so far are the rows read the other way, for each element before this one
abbrev pub invariant-loop-b : goal.invariant-loop-b
invariant-loop-b l = record {
  len : vec_len l.columns ≡ l.b;
  columns : (a b : ℕ) → b < l.b → (bit_at (get_or l.columns.items b 0) a ≡ 1) ↔ (bit_at (get_or l.rows a 0) b ≡ 1);
}
