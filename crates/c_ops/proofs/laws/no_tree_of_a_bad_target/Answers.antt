use Rattle.c_ops.proofs.Progress.{no_tree}
use Rattle.c_ops.proofs.laws.no_tree_of_a_bad_target.Goals as goal

pub returns : goal.returns
returns c = no_tree
