use Rattle.std.proofs.Common.{subst}
use Rattle.lattice_core.specs.View.{AreSized, AreLattices}
use Rattle.lattice_core.proofs.collection.Lattices.law.Goals as goal

pub returns-clause-sized : goal.returns-clause-sized
returns-clause-sized c = subst AreSized c.self.view_is c.self.invariant.1

pub returns-clause-lattices : goal.returns-clause-lattices
returns-clause-lattices c = subst AreLattices c.self.view_is c.self.invariant.2
