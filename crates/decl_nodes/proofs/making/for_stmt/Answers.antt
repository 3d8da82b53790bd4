use Rattle.c_tree.proofs.ViewLemmas.{for_is}
use Rattle.decl_nodes.proofs.making.for_stmt.Goals as goal

pub returns : goal.returns
returns c =
    for_is c.args.keyword c.args.«open» c.args.start c.args.condition c.args.semi c.args.step c.args.close c.args.body
