use Rattle.outcome_laws.proofs.Lattices.{one_reading_of_lattices}
use Rattle.outcome_laws.proofs.laws.one_reading_of_lattices.Goals as goal

pub returns : goal.returns
returns c = one_reading_of_lattices
