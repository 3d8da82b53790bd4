use Rattle.c_tree.proofs.ViewLemmas.{typed_assoc_is}
use Rattle.c_nodes.proofs.making.typed_assoc.Goals as goal

pub returns : goal.returns
returns c = typed_assoc_is c.args.type_name c.args.colon c.args.value
