use Rattle.c_tree.proofs.ViewLemmas.{typeof_type_is}
use Rattle.decl_nodes.proofs.making.typeof_type.Goals as goal

pub returns : goal.returns
returns c = typeof_type_is c.args.keyword c.args.«open» c.args.type_name c.args.close
