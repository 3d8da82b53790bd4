use Rattle.row_laws.proofs.KeyLaws.Units as units
use Rattle.row_laws.proofs.key_laws.laws.tokens_are_once.Goals as goal

pub returns : goal.returns
returns c = units.tokens_are_once
