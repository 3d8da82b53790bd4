use Rattle.c_ops.proofs.Unique.{one_tree}
use Rattle.c_ops.proofs.laws.one_tree_at_most.Goals as goal

pub returns : goal.returns
returns c = one_tree
