use Rattle.c_tree.proofs.LastLemmas.{last_ends}
use Rattle.c_tree.proofs.laws.last_ends.Goals as goal

pub returns : goal.returns
returns c = last_ends
