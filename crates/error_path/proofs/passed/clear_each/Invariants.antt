use Rattle.std.proofs.Common.{◌≡◌, length}
use Rattle.error_path.specs.Marks.{size_of, AreAmong}
use Rattle.error_path.proofs.passed.clear_each.Given as goal

-- the list has all that is still marked, and there are as many marks as before
abbrev pub invariant-loop-at : goal.invariant-loop-at
invariant-loop-at l = record {
  among : AreAmong l.marks l.added.items;
  size : size_of l.marks ≡ size_of l.fn.marks;
}

abbrev pub decreases-loop-at : goal.decreases-loop-at
decreases-loop-at l = length l.added.items
