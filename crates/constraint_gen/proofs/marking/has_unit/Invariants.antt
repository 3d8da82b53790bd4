use Rattle.std.proofs.Common.{◌≡◌, drop}
use Rattle.constraint_gen.specs.Marking.{has_unit}
use Rattle.constraint_gen.proofs.marking.has_unit.Given as goal

abbrev pub invariant-loop-tokens : goal.invariant-loop-tokens
invariant-loop-tokens l = has_unit (drop l.tokens-index l.units) l.unit ≡ has_unit l.units l.unit
