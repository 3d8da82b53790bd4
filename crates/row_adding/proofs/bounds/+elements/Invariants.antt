use Rattle.std.proofs.Common.{◌-◌, length}
use Rattle.row_adding.proofs.bounds.+elements.Given as goal

abbrev pub decreases-add_bounds_of : goal.decreases-add_bounds_of
decreases-add_bounds_of l = length l.lattice.now.entries - l.n
