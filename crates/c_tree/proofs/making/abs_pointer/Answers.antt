use Rattle.c_tree.proofs.ViewLemmas.{abs_pointer_is}
use Rattle.c_tree.proofs.making.abs_pointer.Goals as goal

pub returns : goal.returns
returns c = abs_pointer_is c.args.star c.args.words c.args.inner
