use Rattle.std.proofs.Common.{◌≡◌, ℕ, ◌<◌, ◌≤◌, get_or}
use Rattle.std.specs.Int.{bit_at}
use Rattle.lattice_core.specs.Rows.{AreLed}
use Rattle.lattice_core.proofs.rows.step.Given as goal

-- what is grown has the row, only what its elements lead to, and all links of those before this one
abbrev pub invariant-loop-at : goal.invariant-loop-at
invariant-loop-at l = record {
  more : l.row ≤ l.grown;
  kept : (i : ℕ) → bit_at l.row i ≡ 1 → bit_at l.grown i ≡ 1;
  sound : (start : ℕ) → AreLed l.links start l.row → AreLed l.links start l.grown;
  closed : (b a : ℕ) → a < l.at → bit_at l.row a ≡ 1 → bit_at (get_or l.links a 0) b ≡ 1 → bit_at l.grown b ≡ 1;
}
