use Rattle.c_tree.proofs.ViewLemmas.{block_is}
use Rattle.decl_nodes.proofs.making.block.Goals as goal

pub returns : goal.returns
returns c = block_is c.args.block
