use Rattle.std.proofs.Common.{◌≡◌, None, drop, map}
use Rattle.c_tree.specs.Unit.{item_of}
use Rattle.cq_prelude.specs.Least.{least_behind}
use Rattle.cq_prelude.specs.Placing.{bodies}
use Rattle.cq_prelude.proofs.placing.first_body.Given as goal

abbrev pub invariant-loop-item : goal.invariant-loop-item
invariant-loop-item l =
    least_behind l.best (bodies (map item_of (drop l.item-index l.items)))
    ≡ least_behind None (bodies (map item_of l.items))
