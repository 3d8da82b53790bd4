use Rattle.c_tree.proofs.ViewLemmas.{array_is}
use Rattle.c_tree.proofs.making.array.Goals as goal

pub returns : goal.returns
returns c = array_is c.args.inner c.args.«open» c.args.words c.args.size c.args.close
