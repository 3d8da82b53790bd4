use Rattle.std.proofs.Common.{◌≡◌, take, reverse}
use Rattle.name_rules.specs.Spellings.{Place}
use Rattle.name_tables.specs.PlaceMap.Values.{value_at}
use Rattle.name_state.specs.NameLinks.Tables.{earliest_plain}
use Rattle.name_state.proofs.name_links.bodies.plain_units.Given as goal

abbrev pub invariant-loop-it : goal.invariant-loop-it
invariant-loop-it l = (p : Place) → value_at l.units p ≡ earliest_plain l.links (reverse (take l.it-index l.bodies)) p
