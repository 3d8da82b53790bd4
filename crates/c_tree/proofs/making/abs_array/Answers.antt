use Rattle.c_tree.proofs.ViewLemmas.{abs_array_is}
use Rattle.c_tree.proofs.making.abs_array.Goals as goal

pub returns : goal.returns
returns c = abs_array_is c.args.inner c.args.«open» c.args.words c.args.size c.args.close
