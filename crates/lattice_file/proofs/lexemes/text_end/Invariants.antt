use Rattle.std.proofs.Common.{◌≡◌, ℕ, ◌<◌, ◌≤◌, ◌-◌, true, length, get_or}
use Rattle.lattice_file.specs.Text.{stands_in_text}
use Rattle.lattice_file.proofs.lexemes.text_end.Given as goal

-- the place is at or behind the start, and neither a quote nor a line feed stands between them
abbrev pub invariant-loop-at : goal.invariant-loop-at
invariant-loop-at l = record {
  later : l.from ≤ l.at;
  within : l.at ≤ length l.bytes;
  inside : (k : ℕ) → l.from ≤ k → k < l.at → stands_in_text (get_or l.bytes k 0) ≡ true;
}

abbrev pub decreases-loop-at : goal.decreases-loop-at
decreases-loop-at l = length l.bytes - l.at
