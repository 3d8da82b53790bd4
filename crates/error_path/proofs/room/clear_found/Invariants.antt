use Rattle.std.proofs.Common.{◌≡◌, length}
use Rattle.error_path.specs.Marks.{size_of}
use Rattle.error_path.proofs.Rooming.{AreIn, ArePlaced}
use Rattle.error_path.proofs.room.clear_found.Given as goal

-- all that is still marked or has a place is in what is left of the queue; the sizes are the first ones
abbrev pub invariant-loop-reached : goal.invariant-loop-reached
invariant-loop-reached l = record {
  marked : AreIn l.marks l.queue.items;
  placed : ArePlaced l.firsts l.queue.items;
  size : size_of l.marks ≡ size_of l.fn.marks;
  length : length l.firsts ≡ length l.fn.firsts;
}

abbrev pub decreases-loop-reached : goal.decreases-loop-reached
decreases-loop-reached l = length l.queue.items
