use Rattle.std.proofs.Common.{◌≡◌, ◌-◌, ◌^◌}
use Rattle.std.specs.Int.{bit_at}
use Rattle.lattice_core.specs.Rows.{AreLed}
use Rattle.lattice_core.proofs.rows.reach.Given as goal

-- the row has the start, and only what links lead to from there
abbrev pub invariant-loop-row : goal.invariant-loop-row
invariant-loop-row l = record {
  begun : bit_at l.row l.start ≡ 1;
  sound : AreLed l.links l.start l.row;
}

abbrev pub decreases-loop-row : goal.decreases-loop-row
decreases-loop-row l = 2 ^ 64 - l.row
