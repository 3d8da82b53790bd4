use Rattle.c_specs.proofs.WordsRead.{whole_are_mixes}
use Rattle.c_specs.proofs.laws.whole_are_mixes.Goals as goal

pub returns : goal.returns
returns c = whole_are_mixes
