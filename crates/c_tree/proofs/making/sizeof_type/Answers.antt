use Rattle.c_tree.proofs.ViewLemmas.{sizeof_type_is}
use Rattle.c_tree.proofs.making.sizeof_type.Goals as goal

pub returns : goal.returns
returns c = sizeof_type_is c.args.keyword c.args.«open» c.args.type_name c.args.close
