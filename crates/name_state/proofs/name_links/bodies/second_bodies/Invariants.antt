use Rattle.std.proofs.Common.{◌≡◌, take, reverse, map}
use Rattle.name_state.specs.UnitNames.Shown.{fault_of}
use Rattle.name_state.specs.NameLinks.Tables.{second_faults}
use Rattle.name_state.proofs.name_links.bodies.second_bodies.Given as goal

abbrev pub invariant-loop-it : goal.invariant-loop-it
invariant-loop-it l = map fault_of l.faults.items ≡ second_faults l.links l.units (reverse (take l.it-index l.bodies))
