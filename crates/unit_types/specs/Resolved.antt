-- Units with their names and types, and what their tapes say of both.
use Rattle.std.specs.Prelude.{List, [], ◌∷◌, ◌++◌, map}
use Rattle.type_table.specs.declared.row.TypeRow.{TypeRow}
use Rattle.name_rules.specs.Faults.{Fault}
use Rattle.name_rules.specs.Scopes as scopes
use Rattle.name_rules.specs.Units.{no_names}
use Rattle.name_rules.specs.Linking.{body_faults}
use Rattle.name_rules.specs.NameSteps.Units.{Tape, tapes_named}
use Rattle.name_rules.specs.ShapeSteps.State.{nothing}
use Rattle.name_rules.specs.ShapeSteps.Found.{faults_found}
use Rattle.name_state.specs.declared.unit_names.names.Names.{Names}
use Rattle.name_tables.specs.UnitSpelling.Spelled.{spelling_of}
use Rattle.unit_shapes.specs.declared.uses.ImplicitTypes.{ImplicitTypes}
use Rattle.unit_types.specs.declared.program.UnitTape.{UnitTape}

-- units whose names and types are known: a table of types, what is known of names, and the tape of each unit
pub record Resolved : Type 0 where
  pub rows : List TypeRow
  pub implicit : ImplicitTypes
  pub names : Names
  -- in their order
  pub units : List UnitTape

-- a tape as the definitions have it
abbrev pub tape_of : UnitTape → Tape
tape_of it = record { spelling = spelling_of it.spelling; ops = it.ops.items }

-- the tapes of units as the definitions have them
abbrev pub tapes_of : List UnitTape → List Tape
tapes_of units = map tape_of units

-- the names of units, one after another
abbrev pub names_on : List Tape → scopes.Names
names_on tapes = tapes_named tapes no_names

-- the faults that are found on tapes, one tape behind the other
abbrev pub faults_among : scopes.Names → List Tape → List Fault
faults_among s [] = []
faults_among s (it ∷ tapes) = faults_found it.spelling s nothing it.ops ++ faults_among s tapes

-- the faults of names, those of bodies in several units, and those of expressions, which see also what is declared
-- behind them
abbrev pub faults_on : List Tape → List Fault
faults_on tapes =
    (names_on tapes).faults ++ (body_faults (names_on tapes) ++ faults_among (names_on tapes) tapes)
