use Rattle.std.proofs.Common.{◌≡◌, ℕ, ◌<◌, ◌≤◌, ◌-◌, true, length, get_or}
use Rattle.lattice_file.specs.Text.{stays_on_line}
use Rattle.lattice_file.proofs.lexemes.line_end.Given as goal

-- the place is at or behind the start, and no line feed stands between them
abbrev pub invariant-loop-at : goal.invariant-loop-at
invariant-loop-at l = record {
  later : l.from ≤ l.at;
  within : l.at ≤ length l.bytes;
  inside : (k : ℕ) → l.from ≤ k → k < l.at → stays_on_line (get_or l.bytes k 0) ≡ true;
}

abbrev pub decreases-loop-at : goal.decreases-loop-at
decreases-loop-at l = length l.bytes - l.at
