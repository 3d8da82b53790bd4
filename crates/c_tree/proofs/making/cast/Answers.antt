use Rattle.c_tree.proofs.ViewLemmas.{cast_is}
use Rattle.c_tree.proofs.making.cast.Goals as goal

pub returns : goal.returns
returns c = cast_is c.args.«open» c.args.type_name c.args.close c.args.operand
