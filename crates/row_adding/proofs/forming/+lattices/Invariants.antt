use Rattle.std.proofs.Common.{◌-◌, length}
use Rattle.row_adding.proofs.forming.+lattices.Given as goal

abbrev pub decreases-lattices_from : goal.decreases-lattices_from
decreases-lattices_from l = length l.lattices.now - l.n
