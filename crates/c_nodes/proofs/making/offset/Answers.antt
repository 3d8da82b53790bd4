use Rattle.c_tree.proofs.ViewLemmas.{offset_is}
use Rattle.c_nodes.proofs.making.offset.Goals as goal

pub returns : goal.returns
returns c = offset_is c.args.keyword c.args.«open» c.args.type_name c.args.comma c.args.member c.args.steps c.args.close
