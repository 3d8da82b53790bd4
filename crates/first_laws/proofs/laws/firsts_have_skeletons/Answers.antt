use Rattle.first_laws.proofs.Units.{firsts_have_skeletons}
use Rattle.first_laws.proofs.laws.firsts_have_skeletons.Goals as goal

pub returns : goal.returns
returns c = firsts_have_skeletons
