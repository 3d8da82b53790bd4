use Rattle.c_tree.proofs.ViewLemmas.{statement_expr_is}
use Rattle.c_nodes.proofs.making.statement_expr.Goals as goal

pub returns : goal.returns
returns c = statement_expr_is c.args.«open» c.args.block c.args.close
