use Rattle.c_tree.proofs.ViewLemmas.{va_arg_is}
use Rattle.c_nodes.proofs.making.va_arg.Goals as goal

pub returns : goal.returns
returns c = va_arg_is c.args.keyword c.args.«open» c.args.list c.args.comma c.args.type_name c.args.close
