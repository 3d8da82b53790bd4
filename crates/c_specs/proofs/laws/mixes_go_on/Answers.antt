use Rattle.c_specs.proofs.WordsRead.{mixes_go_on}
use Rattle.c_specs.proofs.laws.mixes_go_on.Goals as goal

pub returns : goal.returns
returns c = mixes_go_on
