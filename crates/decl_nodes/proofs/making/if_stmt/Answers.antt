use Rattle.c_tree.proofs.ViewLemmas.{if_is}
use Rattle.decl_nodes.proofs.making.if_stmt.Goals as goal

pub returns : goal.returns
returns c = if_is c.args.keyword c.args.«open» c.args.condition c.args.close c.args.body c.args.otherwise
