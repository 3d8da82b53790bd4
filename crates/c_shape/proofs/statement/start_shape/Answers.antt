use Rattle.std.proofs.Common.{sym, ◌∙◌, ap}
use Rattle.c_tree.specs.View.{for_start_of}
use Rattle.c_tree.proofs.ViewLemmas.{start_value_is}
use Rattle.c_shape.proofs.statement.start_shape.Goals as goal

pub returns-in-Value : goal.returns-in-Value
returns-in-Value c = let e = c.in-Value in sym (ap for_start_of e.is ∙ start_value_is e.value e.semi)
