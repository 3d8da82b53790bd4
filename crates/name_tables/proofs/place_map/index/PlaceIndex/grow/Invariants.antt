use Rattle.std.proofs.Common.{◌≡◌, ◌+◌, ◌-◌, length}
use Rattle.name_rules.specs.Spellings.{Place}
use Rattle.name_tables.specs.PlaceMap.Values.{cell_at}
use Rattle.name_tables.proofs.place_map.index.PlaceIndex.grow.Given as goal

abbrev pub invariant-loop-self : goal.invariant-loop-self
invariant-loop-self l = (p : Place) → cell_at l.self.units.items p ≡ cell_at l.initial.self.units.items p

abbrev pub decreases-loop-self : goal.decreases-loop-self
decreases-loop-self l = l.last + 1 - length l.self.units.items
