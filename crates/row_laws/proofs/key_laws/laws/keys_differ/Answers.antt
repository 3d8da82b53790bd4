use Rattle.row_laws.proofs.KeyLaws.Units as units
use Rattle.row_laws.proofs.key_laws.laws.keys_differ.Goals as goal

pub returns : goal.returns
returns c = units.keys_differ
