use Rattle.std.proofs.Common.{◌≡◌, ◌≤◌, ◌-◌, true, length, take}
use Rattle.std.specs.List.{list_all}
use Rattle.lattice_file.specs.Text.{is_name_byte}
use Rattle.lattice_file.proofs.words.name_end.Given as goal

abbrev pub invariant-loop-at : goal.invariant-loop-at
invariant-loop-at l = record { within : l.at ≤ length l.word; name : list_all is_name_byte (take l.at l.word) ≡ true }

abbrev pub decreases-loop-at : goal.decreases-loop-at
decreases-loop-at l = length l.word - l.at
