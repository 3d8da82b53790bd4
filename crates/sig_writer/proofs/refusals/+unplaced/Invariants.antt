use Rattle.std.proofs.Common.{◌+◌, ◌-◌, ◌*◌, length}
use Rattle.sig_writer.proofs.refusals.+unplaced.Given as goal

-- parts have higher numbers
abbrev pub decreases-is_unplaced : goal.decreases-is_unplaced
decreases-is_unplaced l = 2 * (length l.vars.now - l.at)

abbrev pub decreases-are_unplaced : goal.decreases-are_unplaced
decreases-are_unplaced l = 2 * (length l.vars.now - l.first) + 1
