use Rattle.c_tree.proofs.ViewLemmas.{compat_is}
use Rattle.c_nodes.proofs.making.compat.Goals as goal

pub returns : goal.returns
returns c = compat_is c.args.keyword c.args.«open» c.args.left c.args.comma c.args.right c.args.close
