use Rattle.c_tree.proofs.ViewLemmas.{named_is}
use Rattle.c_tree.proofs.making.named.Goals as goal

pub returns : goal.returns
returns c = named_is c.args.declr c.args.width c.args.attrs
