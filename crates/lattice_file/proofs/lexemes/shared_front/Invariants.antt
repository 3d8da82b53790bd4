use Rattle.std.proofs.Common.{◌≡◌, ◌≤◌, ◌-◌, length, take}
use Rattle.lattice_file.proofs.lexemes.shared_front.Given as goal

-- both texts go on to this place at least, and are the same up to it
abbrev pub invariant-loop-at : goal.invariant-loop-at
invariant-loop-at l = record {
  first : l.at ≤ length l.word;
  second : l.at ≤ length l.other;
  same : take l.at l.word ≡ take l.at l.other;
}

abbrev pub decreases-loop-at : goal.decreases-loop-at
decreases-loop-at l = length l.word - l.at
