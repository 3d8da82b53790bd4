use Rattle.c_tree.proofs.ViewLemmas.{start_value_is}
use Rattle.decl_nodes.proofs.making.start_value.Goals as goal

pub returns : goal.returns
returns c = start_value_is c.args.value c.args.semi
