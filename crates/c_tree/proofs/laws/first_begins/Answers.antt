use Rattle.c_tree.proofs.EndLemmas.{first_is}
use Rattle.c_tree.proofs.laws.first_begins.Goals as goal

pub returns : goal.returns
returns c = first_is
