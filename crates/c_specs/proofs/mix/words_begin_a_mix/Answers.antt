use Rattle.c_specs.proofs.Begun.{begun}
use Rattle.c_specs.proofs.mix.words_begin_a_mix.Goals as goal

pub returns : goal.returns
returns c = begun
