use Rattle.c_tree.proofs.ViewLemmas.{call_is}
use Rattle.c_tree.proofs.making.call.Goals as goal

pub returns : goal.returns
returns c = call_is c.args.callee c.args.«open» c.args.arguments c.args.close
