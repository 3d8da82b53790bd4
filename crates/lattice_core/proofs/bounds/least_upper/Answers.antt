use Rattle.lattice_core.proofs.UpperLower.{upper_found}
use Rattle.lattice_core.proofs.bounds.least_upper.Goals as goal

pub returns : goal.returns
returns c = upper_found c.args.rows.now c.requires.ordered c.args.a c.args.b c.find_row.result c.find_row.ensures
