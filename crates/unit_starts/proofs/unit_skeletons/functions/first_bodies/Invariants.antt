use Rattle.std.proofs.Common.{map, reverse, take}
use Rattle.name_tables.specs.NameRecords.Held.{bodied_of}
use Rattle.unit_starts.specs.UnitSkeletons.Bodies.{AreFirsts}
use Rattle.unit_starts.proofs.unit_skeletons.functions.first_bodies.Given as goal

abbrev pub invariant-loop-it : goal.invariant-loop-it
invariant-loop-it l = AreFirsts (map bodied_of (reverse (take l.it-index l.bodies))) l.firsts
