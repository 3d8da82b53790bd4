use Rattle.std.proofs.Common.{◌≡◌, ℕ, ◌↔◌, None, length, vec_len, take, get_or}
use Rattle.std.specs.Int.{bit_at}
use Rattle.lattice_core.specs.Building.{IsWritten, first_unknown}
use Rattle.lattice_core.proofs.checks.links.Given as goal

-- there is a row for each entry, the rows say the lines so far, and their names are known
abbrev pub invariant-loop-pair : goal.invariant-loop-pair
invariant-loop-pair l = record {
  len : vec_len l.rows ≡ length l.entries;
  rows : (a b : ℕ) → (bit_at (get_or l.rows.items a 0) b ≡ 1) ↔ IsWritten l.entries (take l.pair-index l.pairs) a b;
  known : first_unknown l.entries (take l.pair-index l.pairs) ≡ None;
}
