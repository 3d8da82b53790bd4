use Rattle.std.proofs.Common.{◌≡◌, ◌++◌}
use Rattle.c_tree.specs.Unit.{items_of}
use Rattle.cq_prelude.specs.Placing.{index_places}
use Rattle.cq_prelude.proofs.placing.places.Given as goal

abbrev pub invariant-loop : goal.invariant-loop
invariant-loop l = l.found.items ++ l.left ≡ index_places (items_of l.unit)
