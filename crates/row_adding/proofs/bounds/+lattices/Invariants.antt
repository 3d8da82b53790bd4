use Rattle.std.proofs.Common.{◌-◌, length}
use Rattle.row_adding.proofs.bounds.+lattices.Given as goal

abbrev pub decreases-add_bounds_from : goal.decreases-add_bounds_from
decreases-add_bounds_from l = length l.lattices.now - l.n
