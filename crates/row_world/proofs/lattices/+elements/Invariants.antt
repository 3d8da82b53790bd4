use Rattle.std.proofs.Common.{◌-◌, length}
use Rattle.row_world.proofs.lattices.+elements.Given as goal

abbrev pub decreases-has_access : goal.decreases-has_access
decreases-has_access l = length l.lattice.now.entries - l.n
