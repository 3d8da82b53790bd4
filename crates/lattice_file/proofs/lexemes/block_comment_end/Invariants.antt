use Rattle.std.proofs.Common.{◌≡◌, ℕ, ◌<◌, ◌≤◌, ◌+◌, ◌-◌, length, get_or}
use Rattle.lattice_file.proofs.lexemes.block_comment_end.Given as goal

-- the place is at or behind the start, and no star before a slash stands between them
abbrev pub invariant-loop-at : goal.invariant-loop-at
invariant-loop-at l = record {
  later : l.from ≤ l.at;
  within : l.at ≤ length l.bytes;
  inside : (k : ℕ) → l.from ≤ k → k < l.at → get_or l.bytes k 0 ≡ 42 → get_or l.bytes (k + 1) 0 ≡ 47 → ⊥;
}

abbrev pub decreases-loop-at : goal.decreases-loop-at
decreases-loop-at l = length l.bytes - l.at
