use Rattle.c_tree.proofs.ViewLemmas.{return_is}
use Rattle.decl_nodes.proofs.making.return_stmt.Goals as goal

pub returns : goal.returns
returns c = return_is c.args.keyword c.args.value c.args.semi
