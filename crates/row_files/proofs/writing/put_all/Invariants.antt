use Rattle.std.proofs.Common.{◌≤◌, ◌-◌, length}
use Rattle.row_files.proofs.writing.put_all.Given as goal

abbrev pub invariant-loop-sent : goal.invariant-loop-sent
invariant-loop-sent g l = l.sent ≤ length l.text

abbrev pub decreases-loop-sent : goal.decreases-loop-sent
decreases-loop-sent g l = length l.text - l.sent
