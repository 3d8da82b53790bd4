use Rattle.std.proofs.Common.{◌≡◌, drop}
use Rattle.annotate.specs.Texts.{unit_in}
use Rattle.annotate.specs.Scenes.{units_of}
use Rattle.annotate.proofs.scene.find_unit.Given as goal

abbrev pub invariant-loop-unit : goal.invariant-loop-unit
invariant-loop-unit l = unit_in (units_of l.units) l.number ≡ unit_in (units_of (drop l.unit-index l.units)) l.number
