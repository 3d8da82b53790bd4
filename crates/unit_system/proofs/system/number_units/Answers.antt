use Rattle.unit_system.proofs.Flags.{flags_are}
use Rattle.unit_system.specs.Systems.{selections_on}
use Rattle.unit_system.proofs.system.number_units.Goals as goal

-- the candidates that were added to none are those of the selections of the program
pub number-requires-clause-candidates : goal.number-requires-clause-candidates
number-requires-clause-candidates c =
    flags_are c.new-candidates.result c.starts_of.new.candidates
    (selections_on c.args.program.now) c.new-candidates.ensures c.in-Ok.ensures.selections
