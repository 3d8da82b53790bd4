use Rattle.std.proofs.lemmas.Result.{on_ok_weaker}
use Rattle.expr_shapes.proofs.picks.no_type.Goals as goal

pub returns : goal.returns
returns c = on_ok_weaker c.put_type.result (λ put rows u s. put rows) c.put_type.ensures
