use Rattle.std.proofs.Common.{◌≡◌}
use Rattle.qual_types.specs.Table.{owner_of}
use Rattle.qual_types.proofs.table.VarTable.owner.Given as goal

abbrev pub invariant-loop-of : goal.invariant-loop-of
invariant-loop-of l = owner_of l.self l.here ≡ owner_of l.self l.fn.at

abbrev pub decreases-loop-of : goal.decreases-loop-of
decreases-loop-of l = l.here
