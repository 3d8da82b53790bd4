use Rattle.c_tree.proofs.ViewLemmas.{compound_is}
use Rattle.c_nodes.proofs.making.compound.Goals as goal

pub returns : goal.returns
returns c = compound_is c.args.«open» c.args.type_name c.args.close c.args.list
