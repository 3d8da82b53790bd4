use Rattle.std.proofs.Common.{◌≤◌, length}
use Rattle.tool_rows.proofs.calls.read.Given as goal

abbrev pub invariant-loop-alloc : goal.invariant-loop-alloc
invariant-loop-alloc l = length l.rest ≤ length l.text

abbrev pub decreases-loop-alloc : goal.decreases-loop-alloc
decreases-loop-alloc l = length l.rest
