use Rattle.std.proofs.Common.{◌-◌, length}
use Rattle.row_adding.proofs.casts.+uncut.Given as goal

abbrev pub decreases-uncut_from : goal.decreases-uncut_from
decreases-uncut_from l = length l.known.now.lattices.now - l.n
