use Rattle.c_tree.proofs.ViewLemmas.{abs_params_is}
use Rattle.c_tree.proofs.making.abs_params.Goals as goal

pub returns : goal.returns
returns c = abs_params_is c.args.inner c.args.«open» c.args.params c.args.ellipsis c.args.close
