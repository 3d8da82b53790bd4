use Rattle.std.proofs.Common.{map}
use Rattle.unit_starts.specs.Views.{start_in}
use Rattle.unit_system.proofs.Units.{Begun}
use Rattle.unit_system.proofs.system.starts_of.Given as goal

abbrev pub invariant-loop-unit : goal.invariant-loop-unit
invariant-loop-unit l =
    Begun l.access l.program l.units l.unit-index
    (map (start_in l.program.rows) l.found) l.initial.candidates l.candidates
