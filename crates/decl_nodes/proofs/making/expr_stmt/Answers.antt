use Rattle.c_tree.proofs.ViewLemmas.{expr_stmt_is}
use Rattle.decl_nodes.proofs.making.expr_stmt.Goals as goal

pub returns : goal.returns
returns c = expr_stmt_is c.args.value c.args.semi
