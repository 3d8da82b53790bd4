use Rattle.std.proofs.Common.{◌≡◌, reverse, take}
use Rattle.skel_steps.proofs.skel_stacks.leaves.take_leaves.Given as goal

abbrev pub invariant-loop-depth : goal.invariant-loop-depth
invariant-loop-depth l = l.leaves ≡ reverse (take l.depth l.operands)
