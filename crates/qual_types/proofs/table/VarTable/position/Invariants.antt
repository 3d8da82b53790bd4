use Rattle.std.proofs.Common.{◌≡◌, ◌<◌, length, reverse, Some}
use Rattle.qual_types.specs.Skel.{follow}
use Rattle.qual_types.specs.Rows.{skel_of}
use Rattle.qual_types.proofs.table.VarTable.position.Given as goal

-- the steps so far lead from here to the variable
abbrev pub invariant-loop-of : goal.invariant-loop-of
invariant-loop-of l =
    l.fn.at < length l.self → (l.here < length l.self)
    × (follow (reverse l.path.items) (skel_of l.self l.here) ≡ Some l.fn.at)

abbrev pub decreases-loop-of : goal.decreases-loop-of
decreases-loop-of l = l.here
