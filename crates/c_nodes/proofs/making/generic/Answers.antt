use Rattle.c_tree.proofs.ViewLemmas.{generic_is}
use Rattle.c_nodes.proofs.making.generic.Goals as goal

pub returns : goal.returns
returns c = generic_is c.args.keyword c.args.«open» c.args.control c.args.associations c.args.close
