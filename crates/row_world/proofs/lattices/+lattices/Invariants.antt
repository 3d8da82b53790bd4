use Rattle.std.proofs.Common.{◌-◌, length}
use Rattle.row_world.proofs.lattices.+lattices.Given as goal

abbrev pub decreases-access_from : goal.decreases-access_from
decreases-access_from l = length l.lattices.now - l.n
