use Rattle.std.proofs.Common.{drop}
use Rattle.unit_system.proofs.Units.{Reached}
use Rattle.unit_system.proofs.adding.add_units.Given as goal

abbrev pub invariant-loop-unit : goal.invariant-loop-unit
invariant-loop-unit l = Reached l.shared l.initial.graph l.graph (drop l.unit-index l.units)
