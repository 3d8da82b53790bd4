-- The system of every program is well owned.
use Rattle.std.specs.Prelude.{All}
use Rattle.flow_graph.specs.System.{IsWellOwned}
use Rattle.constraint_rules.specs.Systems.{Program, system_of}
use Rattle.row_laws.specs.KeyLaws.Differing.{IsRead, UnitsDiffer}

-- of units that were read, no two with one number: no flow joins two functions, and each call or return leads by its
-- site
abbrev pub SystemsAreOwned : Type 0
SystemsAreOwned = (p : Program) → All IsRead p.sources → UnitsDiffer p.sources → IsWellOwned (system_of p)
