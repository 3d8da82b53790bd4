use Rattle.std.proofs.Common.{◌≡◌, drop}
use Rattle.name_rules.specs.Spellings.{Place}
use Rattle.name_tables.specs.PlaceMap.Values.{or_else}
use Rattle.unit_shapes.specs.Views.{names_in}
use Rattle.unit_types.specs.Resolved.{tapes_of}
use Rattle.expr_types.specs.Along.{shapes_among, first_at}
use Rattle.expr_types.specs.Views.{found_at}
use Rattle.expr_types.proofs.types.find_all.Given as goal

-- at each place: what is found, or else what comes first in the units left, is what comes first in all units
abbrev pub invariant-loop-unit : goal.invariant-loop-unit
invariant-loop-unit l = (at : Place) →
    or_else (found_at l.types l.found at) (first_at (shapes_among (names_in l.types l.names) (drop l.unit-index
    (tapes_of l.units))) at)
    ≡ first_at (shapes_among (names_in l.types l.names) (tapes_of l.units)) at
