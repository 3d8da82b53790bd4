use Rattle.c_tree.proofs.ViewLemmas.{params_is}
use Rattle.c_tree.proofs.making.params.Goals as goal

pub returns : goal.returns
returns c = params_is c.args.inner c.args.«open» c.args.params c.args.ellipsis c.args.close
