use Rattle.length_laws.proofs.Units as units
use Rattle.length_laws.proofs.laws.tapes_are_short.Goals as goal

pub returns : goal.returns
returns c = units.tapes_are_short
