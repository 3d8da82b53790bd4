use Rattle.std.proofs.Common.{◌≡◌, drop}
use Rattle.name_rules.specs.Spellings.{Place}
use Rattle.name_tables.specs.PlaceMap.Values.{or_else}
use Rattle.expr_shapes.specs.ShapeStacks.Views.{state_in}
use Rattle.name_tables.specs.UnitSpelling.Spelled.{spelling_of}
use Rattle.unit_shapes.specs.Views.{names_in}
use Rattle.expr_types.specs.Along.{shapes_along, first_at}
use Rattle.expr_types.specs.Views.{found_at}
use Rattle.expr_types.proofs.along.find.Given as goal

-- at each place: what is found, or else what comes first along the ops left, is as at first along the whole tape
abbrev pub invariant-loop-op : goal.invariant-loop-op
invariant-loop-op l = (at : Place) →
    or_else (found_at l.types l.found at) (first_at (shapes_along (spelling_of l.spelling) (names_in l.types l.names)
    (state_in l.types l.stacks) (drop l.op-index l.tape)) at)
    ≡ or_else (found_at l.types l.initial.found at)
    (first_at (shapes_along (spelling_of l.spelling) (names_in l.types l.names)
    (state_in l.types l.initial.stacks) l.tape) at)
