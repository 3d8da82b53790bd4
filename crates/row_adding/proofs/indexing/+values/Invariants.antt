use Rattle.std.proofs.Common.{◌-◌, length}
use Rattle.row_adding.proofs.indexing.+values.Given as goal

abbrev pub decreases-value_lattices_from : goal.decreases-value_lattices_from
decreases-value_lattices_from l = length l.lattices.now - l.n
