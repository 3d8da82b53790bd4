use Rattle.std.proofs.Common.{◌≤◌, ◌-◌, length}
use Rattle.lattice_file.specs.Extents.{GapGoes}
use Rattle.lattice_file.proofs.lexemes.skip_gap.Given as goal

-- the place is at or behind the start, and a gap goes from there to it
abbrev pub invariant-loop-at : goal.invariant-loop-at
invariant-loop-at l = record {
  later : l.from ≤ l.at;
  within : l.at ≤ length l.bytes;
  gap : GapGoes l.bytes l.from l.at;
}

abbrev pub decreases-loop-at : goal.decreases-loop-at
decreases-loop-at l = length l.bytes - l.at
