use Rattle.c_ops.proofs.Progress.{has_tree}
use Rattle.c_ops.proofs.laws.the_tree_of_a_list.Goals as goal

pub returns : goal.returns
returns c = has_tree
